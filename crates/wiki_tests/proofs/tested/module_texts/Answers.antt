use Rattle.std.proofs.Common.{◌≡◌, ◌∙◌, ◌∷◌, ◌++◌, ◌+◌, [], List, ap, sym, subst, take, rules}
use Rattle.std.proofs.lemmas.List.{take_all, take_more}
use Rattle.wiki_batch.specs.WikiTextsDeclaredRawRawPage.{RawPage}
use Rattle.wiki_tests.specs.Texts.{AreTexts}
use Rattle.wiki_tests.proofs.TextLaws.{no_texts}
use Rattle.wiki_tests.proofs.tested.module_texts.Goals as goal

pub loop-page-init : goal.loop-page-init
loop-page-init c =
    let none : c.with_hasher-texts.result.entries ≡ [] = search rules in
    no_texts c.with_hasher-texts.result.entries none

pub loop-page-preserved : goal.loop-page-preserved
loop-page-preserved c =
    let pages : List RawPage = c.args.pages.now in
    let before : List RawPage = take c.loop-page.page-index pages in
    let more : take (c.loop-page.page-index + 1) pages ≡ before ++ c.page-item.result ∷ [] = take_more pages c.loop-page.page-index c.page-item.result c.loop-page-test.true ∙ ap (λ (t : RawPage). before ++ t ∷ []) (sym c.page-item.is) in
    subst (λ (ps : List RawPage). AreTexts ps c.put_page.new.texts.entries) (sym more) (c.in_ok-put_page.ensures before c.loop-page.invariant)

pub returns : goal.returns
returns c = subst (λ (ps : List RawPage). AreTexts ps c.loop-page.texts.entries) (take_all c.loop-page.page-index c.args.pages.now c.loop-page-test.false) c.loop-page.invariant

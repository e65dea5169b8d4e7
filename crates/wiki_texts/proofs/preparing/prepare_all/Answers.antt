use Rattle.std.proofs.Common.{◌≡◌, ◌∙◌, ◌∷◌, ◌++◌, ◌+◌, [], List, ap, sym, subst, take}
use Rattle.std.proofs.lemmas.List.{take_all, take_more}
use Rattle.wiki_texts.specs.declared.raw.RawPage.{RawPage}
use Rattle.wiki_texts.specs.declared.prepared.Prepared.{Prepared}
use Rattle.wiki_texts.specs.Prepared.{ArePrepared}
use Rattle.wiki_texts.proofs.PreparedLaws.{none_prepared, one_prepared}
use Rattle.wiki_texts.proofs.preparing.prepare_all.Goals as goal

pub loop-page-init : goal.loop-page-init
loop-page-init c = subst (λ (ps : List Prepared). ArePrepared [] ps) (sym c.new-prepared.ensures) none_prepared

pub loop-page-preserved : goal.loop-page-preserved
loop-page-preserved c =
    let pages : List RawPage = c.args.pages.now in
    let before : List RawPage = take c.loop-page.page-index pages in
    let more : take (c.loop-page.page-index + 1) pages ≡ before ++ c.page-item.result ∷ [] = take_more pages c.loop-page.page-index c.page-item.result c.loop-page-test.true ∙ ap (λ (p : RawPage). before ++ p ∷ []) (sym c.page-item.is) in
    let longer : ArePrepared (before ++ c.page-item.result ∷ []) (c.loop-page.prepared ++ c.in_ok-one.one ∷ []) = one_prepared before c.loop-page.prepared c.page-item.result c.in_ok-one.one c.loop-page.invariant c.in_ok-one.ensures in
    subst (λ (ps : List RawPage). ArePrepared ps c.push.new.self) (sym more)
    (subst (λ (ps : List Prepared). ArePrepared (before ++ c.page-item.result ∷ []) ps) (sym c.in_ok-push.ensures.ok) longer)

pub returns : goal.returns
returns c = subst (λ (ps : List RawPage). ArePrepared ps c.loop-page.prepared) (take_all c.loop-page.page-index c.args.pages.now c.loop-page-test.false) c.loop-page.invariant

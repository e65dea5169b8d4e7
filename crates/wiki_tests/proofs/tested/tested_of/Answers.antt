use Rattle.std.proofs.Common.{◌≡◌, ◌∙◌, ◌∷◌, ◌++◌, ◌+◌, [], List, ap, sym, subst, take}
use Rattle.std.proofs.lemmas.List.{take_all, take_more}
use Rattle.std.specs.List.{cons_option}
use Rattle.wk_base.specs.declared.title.Title.{Title}
use Rattle.wiki_tests.specs.declared.tested.TestModule.{TestModule}
use Rattle.wiki_tests.specs.Texts.{AreTested}
use Rattle.wiki_tests.proofs.TextLaws.{none_yet, with_tested}
use Rattle.wiki_tests.proofs.tested.tested_of.Goals as goal

pub loop-title-init : goal.loop-title-init
loop-title-init c = subst (λ (ts : List TestModule). AreTested c.args.texts.now.entries [] ts) (sym c.new-all.ensures) (none_yet c.args.texts.now.entries)

pub loop-title-preserved : goal.loop-title-preserved
loop-title-preserved c =
    let titles : List Title = c.args.titles.now in
    let before : List Title = take c.loop-title.title-index titles in
    let more : take (c.loop-title.title-index + 1) titles ≡ before ++ c.title-item.result ∷ [] = take_more titles c.loop-title.title-index c.title-item.result c.loop-title-test.true ∙ ap (λ (t : Title). before ++ t ∷ []) (sym c.title-item.is) in
    let longer : AreTested c.args.texts.now.entries (before ++ c.title-item.result ∷ []) (c.loop-title.all ++ cons_option c.in_ok-more.more []) = with_tested c.args.texts.now.entries before c.loop-title.all c.title-item.result c.in_ok-more.more c.loop-title.invariant c.in_ok-more.ensures in
    subst (λ (ts : List Title). AreTested c.args.texts.now.entries ts c.put_tested.new.all) (sym more)
    (subst (λ (ts : List TestModule). AreTested c.args.texts.now.entries (before ++ c.title-item.result ∷ []) ts) (sym c.in_ok-put_tested.ensures) longer)

pub returns : goal.returns
returns c = subst (λ (ts : List Title). AreTested c.args.texts.now.entries ts c.loop-title.all) (take_all c.loop-title.title-index c.args.titles.now c.loop-title-test.false) c.loop-title.invariant

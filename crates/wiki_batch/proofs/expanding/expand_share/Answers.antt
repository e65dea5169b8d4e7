use Rattle.std.proofs.Common.{◌≡◌, ◌∙◌, ◌∷◌, ◌++◌, ◌+◌, [], List, ap, sym, subst, take}
use Rattle.std.proofs.lemmas.List.{take_all, take_more}
use Rattle.wk_base.specs.declared.title.Title.{Title}
use Rattle.page_driver.specs.declared.wiki.Page.{Page}
use Rattle.wiki_batch.specs.Batch.{ArePages}
use Rattle.wiki_batch.proofs.Shares.{none_yet, with_page}
use Rattle.wiki_batch.proofs.expanding.expand_share.Goals as goal

pub loop-title-init : goal.loop-title-init
loop-title-init g c = subst (λ (ps : List Page). ArePages c.args.wiki.now c.args.limits.now [] ps) (sym c.new-pages.ensures) (none_yet c.args.wiki.now c.args.limits.now)

pub loop-title-preserved : goal.loop-title-preserved
loop-title-preserved g c =
    let titles : List Title = c.args.titles.now in
    let before : List Title = take c.loop-title.title-index titles in
    let more : take (c.loop-title.title-index + 1) titles ≡ before ++ c.title-item.result ∷ [] = take_more titles c.loop-title.title-index c.title-item.result c.loop-title-test.true ∙ ap (λ (t : Title). before ++ t ∷ []) (sym c.title-item.is) in
    let longer : ArePages c.args.wiki.now c.args.limits.now (before ++ c.title-item.result ∷ []) (c.loop-title.pages ++ c.in_ok-page.page ∷ []) = with_page c.args.wiki.now c.args.limits.now before c.title-item.result c.loop-title.pages c.in_ok-page.page c.loop-title.invariant c.in_ok-page.ensures in
    subst (λ (ts : List Title). ArePages c.args.wiki.now c.args.limits.now ts c.push.new.self) (sym more)
    (subst (λ (ps : List Page). ArePages c.args.wiki.now c.args.limits.now (before ++ c.title-item.result ∷ []) ps) (sym c.in_ok-push.ensures.ok) longer)

pub returns : goal.returns
returns g c = subst (λ (ts : List Title). ArePages c.args.wiki.now c.args.limits.now ts c.loop-title.pages) (take_all c.loop-title.title-index c.args.titles.now c.loop-title-test.false) c.loop-title.invariant

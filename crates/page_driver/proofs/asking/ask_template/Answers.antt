use Rattle.std.proofs.Common.{◌≡◌, ℕ, ◌+◌, ◌∙◌, refl, sym}
use Rattle.page_tasks.specs.LuaStoreSeen.{StoreView}
use Rattle.mw_frame.specs.declared.question.Ask.TheVariants.{Template}
use Rattle.page_meaning.specs.WikiMarkupTrees.{Trees}
use Rattle.page_tasks.specs.WikiPagesPages.{included_of, included_in, find_page}
use Rattle.page_meaning.specs.ExpandMeaningOutcome.{Including}
use Rattle.page_meaning.specs.Tasks.{Expanding}
use Rattle.page_tasks.specs.PageGroundGround.{ground_of}
use Rattle.page_tasks.specs.Beginning.{Begins}
use Rattle.page_tasks.proofs.Passing.{if_ok}
use Rattle.page_driver.specs.Driven.{MovesOn, StartsOn}
use Rattle.page_driver.specs.Moving.{asks_with, GoesDown, Sinks}
use Rattle.page_meaning.specs.PageRunState.{Gives}
use Rattle.page_meaning.specs.LuaMeaningQuestions.{NoPage}
use Rattle.page_tasks.specs.Going.{Halts, GoesOnWith}
use Rattle.page_tasks.specs.Falling.{Falls}
use Rattle.page_driver.proofs.Nexts.{on_one, on_two}
use Rattle.page_driver.proofs.MoveSteps.{template_starts, none_moves, no_template}
use Rattle.page_driver.proofs.Drives.{held_has_trees, above_starts, above_moves, asking_fits, lacks_page, with_trees, same_fits}
use Rattle.page_driver.proofs.Sinking.{answered_on, answered_sinks}
use Rattle.page_driver.proofs.asking.ask_template.Goals as goal

-- THERE IS c.if-held.false such page
pub tell_none-requires-clause-of : goal.tell_none-requires-clause-of
tell_none-requires-clause-of g c = c.requires.driven.of

pub tell_none-requires-clause-waits : goal.tell_none-requires-clause-waits
tell_none-requires-clause-waits g c = c.requires.driven.halts

pub tell_none-requires-clause-back : goal.tell_none-requires-clause-back
tell_none-requires-clause-back g c = asking_fits (ground_of c.args.around.now) c.args.store.now c.args.left.now c.args.turns.now c.args.tower.now (asks_with c.args.task (Template c.args.scene c.args.title c.args.args)) (λ n. refl) c.requires

pub returns-clause-moves : goal.returns-clause-moves
returns-clause-moves g c =
    on_two (MovesOn (ground_of c.args.around.now) c.args.store.now c.args.left.now c.args.turns.now c.args.tower.now (asks_with c.args.task (Template c.args.scene c.args.title c.args.args)) c.tell_none.new.store c.tell_none.new.left c.tell_none.new.turns c.args.tower.now)
    (Halts c.args.store.now c.args.left.now c.args.turns.now c.args.task c.tell_none.new.store c.tell_none.new.left c.tell_none.new.turns)
    (λ x. (n : ℕ) → c.tell_none.new.turns ≡ c.args.turns.now + n → GoesOnWith c.args.store.now c.args.left.now c.args.task (Gives NoPage) 0 c.tell_none.new.store c.tell_none.new.left n x) c.tell_none.result c.on.result c.on.ensures
    (none_moves (ground_of c.args.around.now) c.args.store.now c.args.left.now c.args.turns.now c.args.tower.now c.args.task (Template c.args.scene c.args.title c.args.args)
    (λ modules agree. no_template (ground_of c.args.around.now) c.args.store.now c.args.left.now c.args.turns.now c.args.tower.now c.args.task c.args.scene c.args.title c.args.args (lacks_page c.args.around.now.pages.now c.args.title (sym c.holds-held.ensures ∙ c.if-held.false)) modules)
    c.tell_none.new.store c.tell_none.new.left c.tell_none.new.turns) c.tell_none.ensures.halts c.tell_none.ensures.goes

pub returns-clause-sinks : goal.returns-clause-sinks
returns-clause-sinks g c =
    on_one (Sinks c.args.left.now c.args.tower.now (asks_with c.args.task (Template c.args.scene c.args.title c.args.args)) c.tell_none.new.left c.args.tower.now) (Falls c.args.left.now c.args.task c.tell_none.new.left) c.tell_none.result c.on.result c.on.ensures
    (λ x falls. answered_sinks c.args.left.now c.args.left.now c.args.task (Template c.args.scene c.args.title c.args.args) c.args.task c.args.tower.now c.args.tower.now c.tell_none.new.left x (same_fits c.args.left.now.steps) falls) c.tell_none.ensures.falls

-- IT BEGINS
pub begin_template-requires : goal.begin_template-requires
begin_template-requires g c = sym c.holds-held.ensures ∙ c.if-held.true

pub go_above-requires : goal.go_above-requires
go_above-requires g c =
    let held = held_has_trees included_of (find_page c.args.around.now.pages.now c.args.title) (sym c.holds-held.ensures ∙ c.if-held.true) in
    let t = with_trees (λ (trees : Trees). (s : StoreView) → Begins (ground_of c.args.around.now) (Expanding (Including trees c.args.title record c.args.scene { args = c.args.args })) s s c.in_ok-inner.inner) (included_in c.args.around.now.pages.now c.args.title) held c.in_ok-inner.ensures in
    above_starts (ground_of c.args.around.now) c.args.store.now c.args.left.now c.args.turns.now c.args.tower.now c.args.task (asks_with c.args.task (Template c.args.scene c.args.title c.args.args)) c.args.store.now c.in_ok-inner.inner c.push_task.new.tower c.in_ok-push_task.ensures
    (λ root first start d. template_starts (ground_of c.args.around.now) c.args.store.now c.args.left.now c.args.turns.now c.args.tower.now c.args.task c.args.scene c.args.title c.args.args t.0 c.in_ok-inner.inner t.1 (t.2 c.args.store.now) root first start d) c.requires

pub returns-then-held-clause-moves : goal.returns-then-held-clause-moves
returns-then-held-clause-moves g c =
    let held = held_has_trees included_of (find_page c.args.around.now.pages.now c.args.title) (sym c.holds-held.ensures ∙ c.if-held.true) in
    let t = with_trees (λ (trees : Trees). (s : StoreView) → Begins (ground_of c.args.around.now) (Expanding (Including trees c.args.title record c.args.scene { args = c.args.args })) s s c.in_ok-inner.inner) (included_in c.args.around.now.pages.now c.args.title) held c.in_ok-inner.ensures in
    if_ok (StartsOn (ground_of c.args.around.now) c.args.store.now c.args.left.now c.args.turns.now c.push_task.new.tower c.in_ok-inner.inner c.go_above.new.store c.go_above.new.left c.go_above.new.turns c.push_task.new.tower)
    (MovesOn (ground_of c.args.around.now) c.args.store.now c.args.left.now c.args.turns.now c.args.tower.now (asks_with c.args.task (Template c.args.scene c.args.title c.args.args)) c.go_above.new.store c.go_above.new.left c.go_above.new.turns c.push_task.new.tower) c.go_above.result
    (above_moves (ground_of c.args.around.now) c.args.store.now c.args.left.now c.args.turns.now c.args.tower.now c.args.task (asks_with c.args.task (Template c.args.scene c.args.title c.args.args)) c.args.store.now c.in_ok-inner.inner c.push_task.new.tower c.in_ok-push_task.ensures
    (λ root first start d. template_starts (ground_of c.args.around.now) c.args.store.now c.args.left.now c.args.turns.now c.args.tower.now c.args.task c.args.scene c.args.title c.args.args t.0 c.in_ok-inner.inner t.1 (t.2 c.args.store.now) root first start d) c.go_above.new.store c.go_above.new.left c.go_above.new.turns) c.go_above.ensures.on

pub returns-then-held-clause-sinks : goal.returns-then-held-clause-sinks
returns-then-held-clause-sinks g c =
    if_ok (GoesDown c.args.left.now c.in_ok-inner.inner c.go_above.new.left) (Sinks c.args.left.now c.args.tower.now (asks_with c.args.task (Template c.args.scene c.args.title c.args.args)) c.go_above.new.left c.push_task.new.tower) c.go_above.result
    (answered_on c.args.left.now c.args.task (Template c.args.scene c.args.title c.args.args) c.in_ok-inner.inner c.args.tower.now c.push_task.new.tower c.go_above.new.left) c.go_above.ensures.falls

use Rattle.std.proofs.Common.{◌≡◌, ℕ, ◌+◌, refl}
use Rattle.page_meaning.specs.PageRunState.{Gives}
use Rattle.page_tasks.specs.declared.task.Task.TheVariants.{Load}
use Rattle.page_tasks.specs.declared.task.Reply.TheVariants.{Data}
use Rattle.page_tasks.specs.PageGroundDeclaredKeepKept.{Kept}
use Rattle.page_tasks.specs.PageGroundGround.{ground_of}
use Rattle.page_tasks.specs.PageGroundSeen.{data_seen}
use Rattle.page_tasks.specs.PageGroundKept.{keep_with}
use Rattle.page_tasks.specs.Going.{Halts, GoesOnWith}
use Rattle.page_tasks.specs.Falling.{Falls}
use Rattle.page_tasks.proofs.Passing.{if_any}
use Rattle.page_driver.specs.declared.tower.Tower.{Tower}
use Rattle.page_driver.specs.Driven.{MovesOn}
use Rattle.page_driver.specs.Moving.{loads_with, tower_with, Sinks}
use Rattle.page_driver.proofs.Nexts.{on_one, on_three}
use Rattle.page_driver.proofs.Drives.{below_of, below_fits, loaded_moves, least_fits}
use Rattle.page_driver.proofs.Sinking.{told_sinks}
use Rattle.page_driver.proofs.handing.hand_loaded.Goals as goal

pub tell_kept-requires-clause-of : goal.tell_kept-requires-clause-of
tell_kept-requires-clause-of g c = (below_of (ground_of c.args.around.now) c.args.store.now c.args.left.now c.args.turns.now c.args.tower.now c.args.waiting (loads_with c.args.begun c.args.machine c.args.given) c.requires).of

pub tell_kept-requires-clause-waits : goal.tell_kept-requires-clause-waits
tell_kept-requires-clause-waits g c = (below_of (ground_of c.args.around.now) c.args.store.now c.args.left.now c.args.turns.now c.args.tower.now c.args.waiting (loads_with c.args.begun c.args.machine c.args.given) c.requires).waits

pub tell_kept-requires-clause-back : goal.tell_kept-requires-clause-back
tell_kept-requires-clause-back g c = below_fits (ground_of c.args.around.now) c.args.store.now c.args.left.now c.args.turns.now c.args.tower.now c.args.waiting (Load c.args.begun c.args.machine) (Data c.args.given) c.requires

pub tell_kept-requires-clause-given : goal.tell_kept-requires-clause-given
tell_kept-requires-clause-given g c = c.requires.driven.halts

pub tell_kept-requires-clause-height : goal.tell_kept-requires-clause-height
tell_kept-requires-clause-height g c = least_fits _ _ _ c.height_of-height.ensures

pub returns-clause-moves : goal.returns-clause-moves
returns-clause-moves g c =
    let w = ground_of c.args.around.now in
    let after : Tower = record c.args.tower.now { keep = c.tell_kept.new.keep } in
    let kept : Kept = record { given = c.args.given; charge = c.charge_of-charge.result; height = c.height_of-height.result } in
    on_three (MovesOn w c.args.store.now c.args.left.now c.args.turns.now (tower_with c.args.waiting c.args.tower.now) (loads_with c.args.begun c.args.machine c.args.given) c.tell_kept.new.store c.tell_kept.new.left c.tell_kept.new.turns after)
    (Halts c.args.store.now c.args.left.now c.args.turns.now c.args.waiting c.tell_kept.new.store c.tell_kept.new.left c.tell_kept.new.turns)
    (λ x. (n : ℕ) → c.tell_kept.new.turns ≡ c.args.turns.now + n → GoesOnWith c.args.store.now c.args.left.now c.args.waiting (Gives (data_seen c.args.given)) c.height_of-height.result c.tell_kept.new.store c.tell_kept.new.left n x)
    (λ x. c.tell_kept.new.keep ≡ keep_with c.args.tower.now.keep c.args.begun.title kept) c.tell_kept.result c.on.result c.on.ensures
    (λ x h goes same. loaded_moves w c.args.store.now c.args.left.now c.args.turns.now c.args.tower.now c.args.waiting c.args.begun c.args.machine c.args.given c.tell_kept.new.store c.tell_kept.new.left c.tell_kept.new.turns x c.charge_of-charge.result c.height_of-height.result c.charge_of-charge.ensures c.height_of-height.ensures h goes c.tell_kept.new.keep same)
    c.tell_kept.ensures.halts c.tell_kept.ensures.goes c.tell_kept.ensures.keep

pub returns-clause-sinks : goal.returns-clause-sinks
returns-clause-sinks g c =
    let after : Tower = record c.args.tower.now { keep = c.tell_kept.new.keep } in
    on_one (Sinks c.args.left.now (tower_with c.args.waiting c.args.tower.now) (loads_with c.args.begun c.args.machine c.args.given) c.tell_kept.new.left after) (Falls c.args.left.now c.args.waiting c.tell_kept.new.left) c.tell_kept.result c.on.result c.on.ensures
    (λ x falls. told_sinks c.args.left.now (Load c.args.begun c.args.machine) (Data c.args.given) c.args.waiting c.args.tower.now after c.tell_kept.new.left x refl falls) c.tell_kept.ensures.falls

pub returns-clause-numbers : goal.returns-clause-numbers
returns-clause-numbers g c = if_any (λ n. c.args.tower.now.numbers ≡ c.args.tower.now.numbers) c.on.result (λ n. refl)

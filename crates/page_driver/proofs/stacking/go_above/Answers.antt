use Rattle.std.proofs.Common.{◌≡◌, ℕ, ◌+◌}
use Rattle.page_tasks.specs.PageGroundGround.{ground_of}
use Rattle.page_tasks.specs.Going.{Halts, GoesOn}
use Rattle.page_tasks.specs.Falling.{Falls}
use Rattle.page_driver.specs.Driven.{StartsOn}
use Rattle.page_driver.specs.Moving.{GoesDown}
use Rattle.page_driver.proofs.Nexts.{on_one, on_two}
use Rattle.page_driver.proofs.MoveSteps.{starts_on}
use Rattle.page_driver.proofs.Drives.{starting_fits}
use Rattle.page_driver.proofs.stacking.go_above.Goals as goal

pub go_on-requires-clause-of : goal.go_on-requires-clause-of
go_on-requires-clause-of g c = c.requires.starting.of

pub go_on-requires-clause-can : goal.go_on-requires-clause-can
go_on-requires-clause-can g c = c.requires.starting.can

pub go_on-requires-clause-back : goal.go_on-requires-clause-back
go_on-requires-clause-back g c = starting_fits (ground_of c.args.around.now) c.args.store.now c.args.left.now c.args.turns.now c.args.tower.now c.args.inner c.requires

pub returns-clause-on : goal.returns-clause-on
returns-clause-on g c =
    on_two (StartsOn (ground_of c.args.around.now) c.args.store.now c.args.left.now c.args.turns.now c.args.tower.now c.args.inner c.go_on.new.store c.go_on.new.left c.go_on.new.turns c.args.tower.now)
    (Halts c.args.store.now c.args.left.now c.args.turns.now c.args.inner c.go_on.new.store c.go_on.new.left c.go_on.new.turns)
    (λ x. (n : ℕ) → c.go_on.new.turns ≡ c.args.turns.now + n → GoesOn c.args.store.now c.args.left.now c.args.inner c.go_on.new.store c.go_on.new.left n x) c.go_on.result c.on.result c.on.ensures
    (starts_on (ground_of c.args.around.now) c.args.store.now c.args.left.now c.args.turns.now c.args.tower.now c.args.inner c.go_on.new.store c.go_on.new.left c.go_on.new.turns) c.go_on.ensures.halts c.go_on.ensures.goes

pub returns-clause-falls : goal.returns-clause-falls
returns-clause-falls g c =
    on_one (GoesDown c.args.left.now c.args.inner c.go_on.new.left) (Falls c.args.left.now c.args.inner c.go_on.new.left) c.go_on.result c.on.result c.on.ensures (λ x f. f) c.go_on.ensures.falls

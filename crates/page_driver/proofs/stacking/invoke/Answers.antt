use Rattle.std.proofs.Common.{◌≡◌, ℕ, ◌+◌, ◌<◌, ◌≤◌, refl, arith}
use Rattle.page_meaning.specs.PageRunState.{Gives}
use Rattle.page_tasks.specs.PageGroundGround.{ground_of}
use Rattle.page_tasks.specs.PageGroundNumbered.{after_start}
use Rattle.page_tasks.specs.Going.{Halts, GoesOnWith}
use Rattle.page_tasks.specs.Falling.{Falls}
use Rattle.page_tasks.proofs.Passing.{if_ok, if_any}
use Rattle.page_driver.specs.Driven.{MovesOn}
use Rattle.page_driver.specs.Moving.{invokes_with, Sinks}
use Rattle.page_tasks.specs.Refusing.{start_charge, none_left, refusal}
use Rattle.page_driver.proofs.Nexts.{on_one, on_two}
use Rattle.page_driver.proofs.MoveSteps.{refused_moves}
use Rattle.page_driver.proofs.Drives.{asking_fits, too_few}
use Rattle.page_driver.proofs.Sinking.{refused_sinks}
use Rattle.page_driver.proofs.stacking.invoke.Goals as goal

-- IT CAN BE PAID
pub start_invocation-requires : goal.start_invocation-requires
start_invocation-requires g c = c.requires

pub returns-then-covered-clause-moves : goal.returns-then-covered-clause-moves
returns-then-covered-clause-moves g c = c.start_invocation.ensures.moves

pub returns-then-covered-clause-sinks : goal.returns-then-covered-clause-sinks
returns-then-covered-clause-sinks g c = c.start_invocation.ensures.sinks

pub returns-then-covered-clause-numbers : goal.returns-then-covered-clause-numbers
returns-then-covered-clause-numbers g c =
    if_ok (λ n. c.start_invocation.new.tower.numbers ≡ after_start c.args.tower.now.numbers) (λ n. start_charge ≤ c.args.left.now.steps → c.start_invocation.new.tower.numbers ≡ after_start c.args.tower.now.numbers) c.start_invocation.result (λ n e h. e) c.start_invocation.ensures.numbers

pub returns-then-covered-clause-refused : goal.returns-then-covered-clause-refused
returns-then-covered-clause-refused g c =
    let paid = c.is_covered-covered.ensures.paid c.if-covered.true in
    if_any (λ n. c.args.left.now.steps < start_charge → c.start_invocation.new.tower ≡ c.args.tower.now) c.start_invocation.result (λ n h. absurd (too_few start_charge c.args.left.now.steps paid h))

-- IT CAN'T
pub tell_unpaid-requires-clause-of : goal.tell_unpaid-requires-clause-of
tell_unpaid-requires-clause-of g c = c.requires.driven.of

pub tell_unpaid-requires-clause-waits : goal.tell_unpaid-requires-clause-waits
tell_unpaid-requires-clause-waits g c = c.requires.driven.halts.0

pub tell_unpaid-requires-clause-back : goal.tell_unpaid-requires-clause-back
tell_unpaid-requires-clause-back g c = asking_fits (ground_of c.args.around.now) c.args.store.now c.args.left.now c.args.turns.now c.args.tower.now (invokes_with c.args.task c.args.job) (λ n. refl) c.requires

pub returns-clause-moves : goal.returns-clause-moves
returns-clause-moves g c =
    let unpaid = c.is_covered-covered.ensures.unpaid c.if-covered.false in
    on_two (MovesOn (ground_of c.args.around.now) c.args.store.now c.args.left.now c.args.turns.now c.args.tower.now (invokes_with c.args.task c.args.job) c.tell_unpaid.new.store c.tell_unpaid.new.left c.tell_unpaid.new.turns c.args.tower.now)
    (Halts c.args.store.now (none_left c.args.left.now) c.args.turns.now c.args.task c.tell_unpaid.new.store c.tell_unpaid.new.left c.tell_unpaid.new.turns)
    (λ x. (n : ℕ) → c.tell_unpaid.new.turns ≡ c.args.turns.now + n → GoesOnWith c.args.store.now (none_left c.args.left.now) c.args.task (Gives refusal) 0 c.tell_unpaid.new.store c.tell_unpaid.new.left n x) c.tell_unpaid.result c.on.result c.on.ensures
    (refused_moves (ground_of c.args.around.now) c.args.store.now c.args.left.now c.args.turns.now c.args.tower.now c.args.task c.args.job unpaid c.tell_unpaid.new.store c.tell_unpaid.new.left c.tell_unpaid.new.turns) c.tell_unpaid.ensures.halts c.tell_unpaid.ensures.goes

pub returns-clause-sinks : goal.returns-clause-sinks
returns-clause-sinks g c =
    on_one (Sinks c.args.left.now c.args.tower.now (invokes_with c.args.task c.args.job) c.tell_unpaid.new.left c.args.tower.now) (Falls (none_left c.args.left.now) c.args.task c.tell_unpaid.new.left) c.tell_unpaid.result c.on.result c.on.ensures
    (refused_sinks c.args.left.now c.args.task c.args.job c.args.tower.now c.tell_unpaid.new.left) c.tell_unpaid.ensures.falls

pub returns-clause-numbers : goal.returns-clause-numbers
returns-clause-numbers g c =
    let unpaid = c.is_covered-covered.ensures.unpaid c.if-covered.false in
    if_any (λ n. start_charge ≤ c.args.left.now.steps → c.args.tower.now.numbers ≡ after_start c.args.tower.now.numbers) c.on.result (λ n h. absurd (too_few start_charge c.args.left.now.steps h unpaid))

pub returns-clause-refused : goal.returns-clause-refused
returns-clause-refused g c = if_any (λ n. c.args.left.now.steps < start_charge → c.args.tower.now ≡ c.args.tower.now) c.on.result (λ n h. refl)

use Rattle.std.proofs.Common.{◌≡◌, ℕ, ◌+◌, refl, subst}
use Rattle.page_meaning.specs.PageRunState.{Gives, Exhausts}
use Rattle.page_meaning.specs.LuaMeaningQuestions.{Expanded}
use Rattle.page_tasks.specs.LuaStoreSeen.{StoreView}
use Rattle.page_meaning.specs.Outcomes.{outcome_text}
use Rattle.page_tasks.specs.declared.task.Reply.{Reply}
use Rattle.page_tasks.specs.declared.task.Reply.TheVariants as reply
use Rattle.page_tasks.specs.Tasks.{TaskIn}
use Rattle.page_tasks.specs.Going.{Halts, GoesOnWith}
use Rattle.page_tasks.specs.Falling.{Falls}
use Rattle.page_tasks.proofs.Passing.{if_any}
use Rattle.page_tasks.specs.PageGroundGround.{ground_of}
use Rattle.page_driver.specs.Driven.{InProgress, MovesOn}
use Rattle.page_driver.specs.Moving.{comes_with, tower_with, Sinks}
use Rattle.page_driver.proofs.Nexts.{on_one, on_two}
use Rattle.page_driver.proofs.MoveSteps.{text_moves, spent_moves}
use Rattle.page_driver.proofs.Drives.{below_of, below_fits}
use Rattle.page_driver.proofs.Sinking.{told_sinks}
use Rattle.page_driver.proofs.handing.hand_down.Goals as goal

-- A TEXT
pub tell_text-requires-clause-of : goal.tell_text-requires-clause-of
tell_text-requires-clause-of g c = (below_of (ground_of c.args.around.now) c.args.store.now c.args.left.now c.args.turns.now c.args.tower.now c.args.waiting (comes_with c.args.task c.args.reply) c.requires).of

pub tell_text-requires-clause-waits : goal.tell_text-requires-clause-waits
tell_text-requires-clause-waits g c = (below_of (ground_of c.args.around.now) c.args.store.now c.args.left.now c.args.turns.now c.args.tower.now c.args.waiting (comes_with c.args.task c.args.reply) c.requires).waits

pub tell_text-requires-clause-back : goal.tell_text-requires-clause-back
tell_text-requires-clause-back g c = below_fits (ground_of c.args.around.now) c.args.store.now c.args.left.now c.args.turns.now c.args.tower.now c.args.waiting c.args.task c.args.reply c.requires

pub returns-in-Ended-clause-moves : goal.returns-in-Ended-clause-moves
returns-in-Ended-clause-moves g c =
    let w = ground_of c.args.around.now in
    rw c.in-Ended.is
    (on_two (MovesOn w c.args.store.now c.args.left.now c.args.turns.now (tower_with c.args.waiting c.args.tower.now) (comes_with c.args.task (reply.Ended c.in-Ended.so)) c.tell_text.new.store c.tell_text.new.left c.tell_text.new.turns c.args.tower.now)
    (Halts c.args.store.now c.args.left.now c.args.turns.now c.args.waiting c.tell_text.new.store c.tell_text.new.left c.tell_text.new.turns)
    (λ x. (n : ℕ) → c.tell_text.new.turns ≡ c.args.turns.now + n → GoesOnWith c.args.store.now c.args.left.now c.args.waiting (Gives (Expanded (outcome_text c.in-Ended.so))) 0 c.tell_text.new.store c.tell_text.new.left n x) c.tell_text.result c.on.result c.on.ensures
    (text_moves w c.args.store.now c.args.left.now c.args.turns.now c.args.tower.now c.args.waiting c.args.task c.in-Ended.so c.tell_text.new.store c.tell_text.new.left c.tell_text.new.turns) c.tell_text.ensures.halts c.tell_text.ensures.goes)

pub returns-in-Ended-clause-sinks : goal.returns-in-Ended-clause-sinks
returns-in-Ended-clause-sinks g c =
    on_one (Sinks c.args.left.now (tower_with c.args.waiting c.args.tower.now) (comes_with c.args.task c.args.reply) c.tell_text.new.left c.args.tower.now) (Falls c.args.left.now c.args.waiting c.tell_text.new.left) c.tell_text.result c.on.result c.on.ensures
    (λ x falls. told_sinks c.args.left.now c.args.task c.args.reply c.args.waiting c.args.tower.now c.args.tower.now c.tell_text.new.left x refl falls) c.tell_text.ensures.falls

pub returns-in-Ended-clause-numbers : goal.returns-in-Ended-clause-numbers
returns-in-Ended-clause-numbers g c = if_any (λ n. c.args.tower.now.numbers ≡ c.args.tower.now.numbers) c.on.result (λ n. refl)

-- DATA
pub hand_data-requires : goal.hand_data-requires
hand_data-requires g c = subst (λ (r : Reply). InProgress (ground_of c.args.around.now) c.args.store.now c.args.left.now c.args.turns.now (tower_with c.args.waiting c.args.tower.now) (comes_with c.args.task r)) c.in-Data.is c.requires

pub returns-in-Data-clause-moves : goal.returns-in-Data-clause-moves
returns-in-Data-clause-moves g c = rw c.in-Data.is c.hand_data.ensures.moves

pub returns-in-Data-clause-sinks : goal.returns-in-Data-clause-sinks
returns-in-Data-clause-sinks g c = rw c.in-Data.is c.hand_data.ensures.sinks

pub returns-in-Data-clause-numbers : goal.returns-in-Data-clause-numbers
returns-in-Data-clause-numbers g c = c.hand_data.ensures.numbers

-- THAT AN ALLOWANCE IS SPENT
pub tell_spent-requires-clause-waits : goal.tell_spent-requires-clause-waits
tell_spent-requires-clause-waits g c = (below_of (ground_of c.args.around.now) c.args.store.now c.args.left.now c.args.turns.now c.args.tower.now c.args.waiting (comes_with c.args.task c.args.reply) c.requires).waits

pub tell_spent-requires-clause-back : goal.tell_spent-requires-clause-back
tell_spent-requires-clause-back g c = below_fits (ground_of c.args.around.now) c.args.store.now c.args.left.now c.args.turns.now c.args.tower.now c.args.waiting c.args.task c.args.reply c.requires

pub returns-in-Spent-clause-moves : goal.returns-in-Spent-clause-moves
returns-in-Spent-clause-moves g c =
    let w = ground_of c.args.around.now in
    let of = (below_of w c.args.store.now c.args.left.now c.args.turns.now c.args.tower.now c.args.waiting (comes_with c.args.task c.args.reply) c.requires).of in
    rw c.in-Spent.is
    (on_two (MovesOn w c.args.store.now c.args.left.now c.args.turns.now (tower_with c.args.waiting c.args.tower.now) (comes_with c.args.task (reply.Spent c.in-Spent.which)) c.args.store.now c.tell_spent.new.left c.args.turns.now c.args.tower.now)
    (λ x. (s : StoreView) (k : ℕ) → TaskIn s c.args.waiting → Halts s c.args.left.now k c.args.waiting s c.tell_spent.new.left k x) (λ x. (s : StoreView) (high : ℕ) → GoesOnWith s c.args.left.now c.args.waiting (Exhausts c.in-Spent.which) high s c.tell_spent.new.left 0 x) c.tell_spent.result c.on-in-Spent.result c.on-in-Spent.ensures
    (λ x h goes. spent_moves w c.args.store.now c.args.left.now c.args.turns.now c.args.tower.now c.args.waiting c.args.task c.in-Spent.which c.tell_spent.new.left x (h c.args.store.now c.args.turns.now of) (goes c.args.store.now)) c.tell_spent.ensures.halts c.tell_spent.ensures.goes)

pub returns-in-Spent-clause-sinks : goal.returns-in-Spent-clause-sinks
returns-in-Spent-clause-sinks g c =
    on_one (Sinks c.args.left.now (tower_with c.args.waiting c.args.tower.now) (comes_with c.args.task c.args.reply) c.tell_spent.new.left c.args.tower.now) (Falls c.args.left.now c.args.waiting c.tell_spent.new.left) c.tell_spent.result c.on-in-Spent.result c.on-in-Spent.ensures
    (λ x falls. told_sinks c.args.left.now c.args.task c.args.reply c.args.waiting c.args.tower.now c.args.tower.now c.tell_spent.new.left x refl falls) c.tell_spent.ensures.falls

pub returns-in-Spent-clause-numbers : goal.returns-in-Spent-clause-numbers
returns-in-Spent-clause-numbers g c = if_any (λ n. c.args.tower.now.numbers ≡ c.args.tower.now.numbers) c.on-in-Spent.result (λ n. refl)

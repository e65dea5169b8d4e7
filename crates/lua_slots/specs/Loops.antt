-- LOOPS (manual 2.4.4 and 2.4.5). A turn is a thing that begins once its test is passed; it has fresh local variables, and at its end
-- their registers are gone.
use Rattle.std.specs.Prelude.{ℕ, ℤ, pos, ◌+ℤ◌, Bool, List, [], ◌∷◌, length, Option, Some, None}
use Rattle.lua_meaning.specs.LuaNumberWhole.{fits}
use Rattle.lua_meaning.specs.LuaHeapValue.{Value, Number, is_true, is_nil}
use Rattle.lua_meaning.specs.Values.{first, number_in}
use Rattle.lua_meaning.specs.Acts.{Jump, Broke}
use Rattle.lua_meaning.specs.Messages.{no_initial_value, no_limit, no_step}
use Rattle.lua_meaning.specs.Loops.{is_within}
use Rattle.lua_slots.specs.Code.{CExp, CBlock}
use Rattle.lua_slots.specs.Slots.{Slots, opened, all_opened}
use Rattle.lua_slots.specs.Points.{WhileTurnS, RepeatTurnS, CountTurnS, EachTurnS, SFrame, WhileEnd, TestNext, CountBy, CountEnd, EachNext, EachEnd, Evals, Runs, Starts, Move, Marks, Now}
use Rattle.lua_slots.specs.Errors.{choose, gives, jumps, fails}
use Rattle.lua_slots.specs.Calls.{call}

-- what follows a jump out of a turn: nothing after a `break`, and any other jump goes on
abbrev pub after_turn : Jump → List SFrame → Slots → Move
after_turn Broke fs s = gives [] fs s
after_turn j fs s = jumps j fs s

-- `while`
abbrev pub while_next : CExp → CBlock → Value → List SFrame → Slots → Move
while_next test b v fs s = choose (is_true v) (Now (Starts (WhileTurnS test b) fs) s) (gives [] fs s)

abbrev pub while_turn : CExp → CBlock → List SFrame → Slots → Move
while_turn test b fs s = Marks (Now (Runs b (WhileEnd (length s.regs) test b ∷ fs)) s)

-- `repeat`, whose test sees the local variables of the body
abbrev pub repeat_turn : CBlock → CExp → List SFrame → Slots → Move
repeat_turn b test fs s = Marks (Now (Runs b (TestNext test (length s.regs) b ∷ fs)) s)

abbrev pub repeat_next : CBlock → CExp → Value → List SFrame → Slots → Move
repeat_next b test v fs s = choose (is_true v) (gives [] fs s) (Now (Starts (RepeatTurnS b test) fs) s)

-- counting `for` (2.4.5). Where the next index is out of range, the loop ends.
abbrev pub count_from : Bool → ℤ → ℤ → ℤ → CBlock → List SFrame → Slots → Move
count_from boxed index limit step b fs s = choose (is_within index limit step) (Now (Starts (CountTurnS boxed index limit step b) fs) s) (gives [] fs s)

abbrev pub counts : Bool → Option ℤ → Option ℤ → Option ℤ → CBlock → ℕ → List SFrame → Slots → Move
counts boxed (Some index) (Some limit) (Some step) b line fs s = count_from boxed index limit step b fs s
counts boxed (Some index) (Some limit) None b line fs s = fails (Some line) no_step fs s
counts boxed (Some index) None step b line fs s = fails (Some line) no_limit fs s
counts boxed None limit step b line fs s = fails (Some line) no_initial_value fs s

abbrev pub counting : Bool → Value → Value → Value → CBlock → ℕ → List SFrame → Slots → Move
counting boxed from to by b line fs s = counts boxed (number_in from) (number_in to) (number_in by) b line fs s

-- without a step it is 1
abbrev pub step_next : Bool → Value → Value → Option CExp → CBlock → ℕ → List SFrame → Slots → Move
step_next boxed from to None b line fs s = counting boxed from to (Number (pos 1)) b line fs s
step_next boxed from to (Some by) b line fs s = Now (Evals by (CountBy boxed from to b line ∷ fs)) s

abbrev pub count_turn : Bool → ℤ → ℤ → ℤ → CBlock → List SFrame → Slots → Move
count_turn boxed index limit step b fs s = Marks (Now (Runs b (CountEnd (length s.regs) boxed index limit step b ∷ fs)) (opened boxed (Number index) s))

abbrev pub count_next : Bool → ℤ → ℤ → ℤ → CBlock → List SFrame → Slots → Move
count_next boxed index limit step b fs s = choose (fits (index +ℤ step)) (count_from boxed (index +ℤ step) limit step b fs s) (gives [] fs s)

-- generic `for` (2.4.5): the iterator is called with the state and the value before, until its first result is nil
abbrev pub each_from : List Bool → Value → Value → Value → CBlock → ℕ → List SFrame → Slots → Move
each_from flags f state before b line fs s = call f (state ∷ before ∷ []) (Some line) (EachNext flags f state b line ∷ fs) s

abbrev pub each_next : List Bool → Value → Value → List Value → CBlock → ℕ → List SFrame → Slots → Move
each_next flags f state results b line fs s = choose (is_nil (first results)) (gives [] fs s) (Now (Starts (EachTurnS flags f state results b line) fs) s)

abbrev pub each_turn : List Bool → Value → Value → List Value → CBlock → ℕ → List SFrame → Slots → Move
each_turn flags f state results b line fs s = Marks (Now (Runs b (EachEnd (length s.regs) flags f state (first results) b line ∷ fs)) (all_opened flags results s))

-- ONE MORE RUN, with jumps: what follows a jump is passed over, up to what catches it or to the end, and the function is left on the way.
use Rattle.std.specs.Prelude.{◌≡◌, ℕ, ◌+◌, []}
use Rattle.page_run.specs.Run.{Run, Ends}
use Rattle.page_run.specs.Outcome.{Outcome, Goes, Jumps, Act, ◌>>=◌, ◌>>◌, give, jump, catch, tick, count, change, in_call}
use Rattle.page_run.specs.State.{NoLoads, Ended, start}
use Rattle.page_run.specs.Perform.{perform, wait}
use Rattle.page_run.specs.Examples.{Thing, some_left}

abbrev pub Lua : Type 0
Lua = Run ⊥ ℕ Thing ℕ ℕ (Outcome ℕ ℕ)

-- it fails inside a function, with 9
abbrev pub fail_inside : Act Lua ℕ ℕ
fail_inside = in_call (do
  tick 2
  jump {X = Unit {0}} 9
  count
  give 1)

abbrev pub rescue : Outcome ℕ ℕ → Act Lua ℕ ℕ
rescue (Goes n) = give n
rescue (Jumps n) = give (n + 1)

abbrev pub jumps : Act Lua ℕ ℕ
jumps = do
  n ← catch fail_inside rescue
  change n
  fail_inside
  tick 5
  give n

abbrev nothing_begins : Thing → Act Lua ℕ ℕ
nothing_begins t = give 0

abbrev pub JumpsAreCaught : Type 0
JumpsAreCaught = perform nothing_begins wait (jumps Ends) (start 0 some_left []) ≡ Ended (Jumps 9) (record {
  heap = 10;
  left = record some_left { steps = 6 };
  in_progress = 0;
  tally = record { height = 1; nodes = 0; invoked_nodes = 0; loads = NoLoads };
})

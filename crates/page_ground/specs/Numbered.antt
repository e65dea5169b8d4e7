-- THE NUMBERS OF THE RUNS of a page, which are counted from 0 in the order in which they start.
use Rattle.std.specs.Prelude.{◌≡◌, ◌⊎◌, ◌+◌, ◌<◌, ℕ, List, [], ◌∷◌, drop}
use Rattle.std.specs.List.{AllByRecursion}
use Rattle.lua_graph.specs.LuaStoreSeen.{StoreView}
use Rattle.page_ground.specs.declared.numbers.Numbers.{Numbers}

-- the number of the innermost run in progress; 0, where there is none
abbrev pub at_work : List ℕ → ℕ
at_work [] = 0
at_work (n ∷ ns) = n

abbrev pub none_started : Numbers
none_started = record { running = []; started = 0 }

-- a run starts within those in progress, with the next number
abbrev pub after_start : Numbers → Numbers
after_start ns = record { running = ns.started ∷ ns.running; started = ns.started + 1 }

-- the innermost run is over
abbrev pub after_end : Numbers → Numbers
after_end ns = record { running = drop 1 ns.running; started = ns.started }

-- the number of a run that has started, or 0, which is at work before the first starts
abbrev pub IsNumber : ℕ → ℕ → Type 0
IsNumber started n = (n ≡ 0) ⊎ (n < started)

-- THE STORE IS NUMBERED: the innermost run in progress is at work, and each closure has the number of a run that has started
pub record IsNumbered (s : StoreView) (ns : Numbers) : Type 0 where
  pub env : s.env ≡ at_work ns.running
  pub running : AllByRecursion (λ n. n < ns.started) ns.running
  pub closures : AllByRecursion (IsNumber ns.started) s.envs

-- from one number at work to another, nothing else of the store changes
pub record Renumbers (s : StoreView) (ns : Numbers) (t : StoreView) (ms : Numbers) : Type 0 where
  pub env : ℕ
  pub store : t ≡ record s { env = env }
  pub numbered : IsNumbered s ns → IsNumbered t ms

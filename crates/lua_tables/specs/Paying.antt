-- A CHARGE IS TAKEN: it is covered and the rest is left, or it is not and nothing is left. Want of memory says nothing.
use Rattle.std.specs.Prelude.{◌≡◌, ℕ, ◌<◌, ◌≤◌, Result, Ok, Err}
use Rattle.lua_number.specs.WkBaseDeclaredLeftLeft.{Left}
use Rattle.lua_basic.specs.declared.stop.Stop.{Stop}
use Rattle.lua_basic.specs.declared.stop.Stop.TheVariants as stop
use Rattle.lua_basic.specs.Seen.{less_steps}

pub record IsTaken (n : ℕ) (l m : Left) : Type 0 where
  pub covered : n ≤ l.steps
  pub rest : m ≡ less_steps l n

pub record IsOver (n : ℕ) (l m : Left) : Type 0 where
  pub short : l.steps < n
  pub rest : m ≡ record l { steps = 0 }

abbrev pub Takes : {A : Type 0} → ℕ → Left → Left → Result A Stop → Type 0
Takes n l m (Ok x) = IsTaken n l m
Takes n l m (Err (stop.Raised v level)) = ⊥
Takes n l m (Err stop.Spent) = IsOver n l m
Takes n l m (Err stop.NoMemory) = Unit {0}

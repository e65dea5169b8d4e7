-- WHAT IS TAKEN FROM THE STEPS THAT ARE LEFT: so many of them; or fewer are left, and none stays.
use Rattle.std.specs.Prelude.{◌≡◌, ℕ, ◌<◌, ◌≤◌, ◌+◌, Result, Ok, Err}
use Rattle.lua_basic.specs.WkBaseDeclaredLeftLeft.{Left}
use Rattle.lua_basic.specs.declared.stop.Stop.{Stop}
use Rattle.lua_basic.specs.declared.stop.Stop.TheVariants as stop
use Rattle.lua_basic.specs.Seen.{less_steps}

abbrev pub Takes : ℕ → Left → Left → Type 0
Takes n l m = (n ≤ l.steps) × (m ≡ less_steps l n)

abbrev pub Lacks : ℕ → Left → Left → Stop → Type 0
Lacks n l m stop.Spent = (l.steps < n) × (m ≡ record l { steps = 0 })
Lacks n l m e = ⊥

abbrev pub Pays : {A : Type 0} → ℕ → Left → Left → Result A Stop → Type 0
Pays n l m (Ok a) = Takes n l m
Pays n l m (Err e) = Lacks n l m e

-- so much of a sum was taken, and so much is still to take
abbrev pub TakenOf : ℕ → Left → Left → ℕ → Type 0
TakenOf all l m left = (n : ℕ) × Takes n l m × (n + left ≡ all)

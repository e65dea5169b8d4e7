-- WHAT IS TAKEN FROM THE STEPS THAT ARE LEFT: so many of them; or fewer are left, and none stays.
use Rattle.std.specs.Prelude.{◌≡◌, ℕ, ◌+◌, ◌<◌, ◌≤◌, length, Result, Ok, Err}
use Rattle.mw_frame.specs.WkBaseDeclaredLeftLeft.{Left}
use Rattle.mw_frame.specs.declared.scene.Scene.{Scene}
use Rattle.lua_home.specs.LuaMeaningFrames.{make_frame}
use Rattle.lua_basic.specs.LuaStoreDeclaredIdsTableId.{TableId}
use Rattle.lua_basic.specs.LuaStoreSeen.{StoreView}
use Rattle.lua_basic.specs.LuaStoreParts.{IsTableOf}
use Rattle.lua_basic.specs.declared.stop.Stop.{Stop}
use Rattle.lua_basic.specs.declared.stop.Stop.TheVariants as stop
use Rattle.lua_basic.specs.Seen.{less_steps}

abbrev pub Took : ℕ → Left → Left → Type 0
Took n l m = (n ≤ l.steps) × (m ≡ less_steps l n)

abbrev pub Lacked : ℕ → Left → Left → Type 0
Lacked n l m = (l.steps < n) × (m ≡ record l { steps = 0 })

abbrev pub Unpaid : ℕ → Left → Left → Stop → Type 0
Unpaid n l m stop.Spent = Lacked n l m
Unpaid n l m e = ⊥

abbrev pub Pays : {A : Type 0} → ℕ → Left → Left → Result A Stop → Type 0
Pays n l m (Ok a) = Took n l m
Pays n l m (Err e) = Unpaid n l m e

-- or memory was wanting
abbrev pub MayPay : {A : Type 0} → ℕ → Left → Left → Result A Stop → Type 0
MayPay n l m (Ok a) = Took n l m
MayPay n l m (Err stop.NoMemory) = Unit {0}
MayPay n l m (Err e) = Unpaid n l m e

-- a frame is made after what it costs
abbrev pub IsMade : ℕ → Scene → ℕ → StoreView → Left → StoreView → Left → Result TableId Stop → Type 0
IsMade n scene number s l t m (Ok id) = Took n l m × (id.at ≡ length s.heap.tables + 2) × (t.heap ≡ make_frame scene number s.heap) × IsTableOf t id
IsMade n scene number s l t m (Err stop.Spent) = Lacked n l m × (t ≡ s)
IsMade n scene number s l t m (Err stop.NoMemory) = Unit {0}
IsMade n scene number s l t m (Err e) = ⊥

-- so much of a sum was taken, and so much is still to take
abbrev pub SoFar : Left → Left → ℕ → ℕ → Type 0
SoFar l m left all = (n : ℕ) × Took n l m × (n + left ≡ all)

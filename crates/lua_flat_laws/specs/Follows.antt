-- A MOVE OF A FLAT MACHINE IS MOVES OF A MACHINE OVER TREES: the same charges and counts in the same order, with free moves between them,
-- up to where both stand together again. Nodes that are paid at once are begun one by one.
use Rattle.std.specs.Prelude.{ℕ, ◌+◌}
use Rattle.lua_goes.specs.LuaSlotsCode.{CWorld}
use Rattle.lua_goes.specs.LuaSlotsSlots.{Slots}
use Rattle.lua_goes.specs.LuaSlotsPoints.{Point, Move, Costs, Marks, Enters, Exits, Now}
use Rattle.lua_goes.specs.LuaSlotsMoves.{moves}
use Rattle.lua_flat.specs.Operations.{Codes}
use Rattle.lua_flat.specs.Flat.{Flat, FlatMove, FNodes, FCosts, FMarks, FEnters, FExits, FNow}
use Rattle.lua_flat.specs.Stands.{StandsFor}

pub data Follows (world : CWorld) (codes : Codes) : FlatMove → Move → Type 0 where
  follow_costs : {n : ℕ} {m : FlatMove} {mv : Move} → Follows world codes m mv → Follows world codes (FCosts n m) (Costs n mv)
  follow_marks : {m : FlatMove} {mv : Move} → Follows world codes m mv → Follows world codes (FMarks m) (Marks mv)
  follow_enters : {m : FlatMove} {mv : Move} → Follows world codes m mv → Follows world codes (FEnters m) (Enters mv)
  follow_exits : {m : FlatMove} {mv : Move} → Follows world codes m mv → Follows world codes (FExits m) (Exits mv)
  follow_none : {m : FlatMove} {mv : Move} → Follows world codes m mv → Follows world codes (FNodes 0 m) mv
  follow_node : {n : ℕ} {m : FlatMove} {mv : Move} → Follows world codes (FNodes n m) mv → Follows world codes (FNodes (n + 1) m) (Costs 1 (Marks mv))
  follow_free : {m : FlatMove} (q : Point) (t : Slots) → Follows world codes m (moves world q t) → Follows world codes m (Now q t)
  follow_stands : {f : Flat} {q : Point} {t : Slots} → StandsFor world codes f q t → Follows world codes (FNow f) (Now q t)

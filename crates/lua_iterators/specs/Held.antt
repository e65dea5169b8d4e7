-- THE CELLS OF AN ITERATOR in the store.
use Rattle.std.specs.Prelude.{List, [], ◌∷◌}
use Rattle.lua_strings.specs.LuaMeaningIterators.{Cells}
use Rattle.lua_strings.specs.LuaStoreDeclaredIdsCellId.{CellId}
use Rattle.lua_strings.specs.LuaStoreSeen.{StoreView}
use Rattle.lua_strings.specs.LuaStoreParts.{IsCellOf}
use Rattle.lua_iterators.specs.declared.cells.IteratorCells.{IteratorCells}

abbrev pub cells_seen : IteratorCells → Cells
cells_seen c = record { subject = c.subject.at; pattern = c.pattern.at; place = c.place.at; other = c.other.at }

-- they are of a store
pub record AreOf (s : StoreView) (c : IteratorCells) : Type 0 where
  pub subject : IsCellOf s c.subject
  pub pattern : IsCellOf s c.pattern
  pub place : IsCellOf s c.place
  pub other : IsCellOf s c.other

-- fewer than two cells; or any number but two
abbrev pub IsBelowTwo : List CellId → Type 0
IsBelowTwo (c ∷ (d ∷ cs)) = ⊥
IsBelowTwo cs = Unit {0}

abbrev pub IsNotTwo : List CellId → Type 0
IsNotTwo (c ∷ (d ∷ [])) = ⊥
IsNotTwo cs = Unit {0}

-- WHAT A FUNCTION OF LUA HOLDS where its text is kept elsewhere (manual 2.6): which function it is, and the variables that
-- it shares. This is the parameter X of a heap that is seen of a store.
use Rattle.std.specs.Prelude.{ℕ, List, map}
use Rattle.lua_heap.specs.Heap.{Ref, cel}

-- the title of its module, its number among the functions of the module, and the cells of the variables that it shares
pub record Proc : Type 0 where
  pub title : List ℕ
  pub index : ℕ
  pub cells : List ℕ

-- the objects that it names
abbrev pub proc_names : Proc → List Ref
proc_names f = map cel f.cells

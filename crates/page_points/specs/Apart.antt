-- MACHINES OF ONE STORE: what one of them does leaves the others alone, and they stay apart.
use Rattle.std.specs.Prelude.{◌≡◌, List, [], ◌∷◌, Some, IsTrue}
use Rattle.lua_points.specs.LuaHeapProc.{Proc}
use Rattle.lua_walk.specs.LuaHeapHeap.{Heap, Ref, Obj, look}
use Rattle.lua_walk.specs.LuaHeapReach.{Set}
use Rattle.lua_points.specs.Families.{AreApart}

-- From s to t a machine that had the set S, and has S' then, left alone what each other one has; and those that were apart still are.
pub record LeavesAlone (S : Set) (s t : Heap Proc) (S' : Set) : Type 0 where
  pub alone : (T : Set) → AreApart s (S ∷ T ∷ []) → (r : Ref) (o : Obj Proc) → IsTrue (T r) → look s r ≡ Some o → look t r ≡ Some o
  pub apart : (others : List Set) → AreApart s (S ∷ others) → AreApart t (S' ∷ others)

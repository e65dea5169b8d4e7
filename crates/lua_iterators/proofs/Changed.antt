-- Answers after which cells hold other values; cells and values in a later store.
use Rattle.std.proofs.Common.{◌≡◌, ◌∙◌, ap, sym, arith, ◌≤◌, length, List}
use Rattle.lua_strings.specs.LuaHeapProc.{Proc}
use Rattle.lua_strings.specs.LuaHeapHeap.{Heap}
use Rattle.lua_strings.specs.LuaHeapValue as kind
use Rattle.lua_strings.specs.LuaMeaningArguments.{Plain, Gives, costs}
use Rattle.lua_strings.specs.LuaStoreDeclaredValueValue.{Value}
use Rattle.lua_strings.specs.LuaStoreSeen.{StoreView}
use Rattle.lua_strings.specs.LuaStoreParts.{IsLater}
use Rattle.lua_strings.specs.LuaBasicSeen.{values_seen, ends}
use Rattle.lua_iterators.specs.declared.cells.IteratorCells.{IteratorCells}
use Rattle.lua_iterators.specs.Held.{AreOf}

abbrev gave : Heap Proc → List kind.Value → Plain Proc
gave h ws = record { charge = 0; heap = h; end = Gives ws }

-- values that are given for nothing, with a changed heap
pub gives_free : (h : Heap Proc) (t : StoreView) (ws : List kind.Value) (vs : List Value) → t.heap ≡ h → values_seen t.texts vs ≡ ws → costs 0 h ws ≡ ends 0 t (Gives (values_seen t.texts vs))
gives_free h t ws vs heap is = ap (λ x. gave x ws) (sym heap) ∙ ap (gave t.heap) (sym is)

pub cells_later : (s t : StoreView) (c : IteratorCells) → IsLater s t → AreOf s c → AreOf t c
cells_later s t c later of =
    let le : length s.heap.cells ≤ length t.heap.cells = later.cells in
    record { subject = omega (arith, of.subject, le); pattern = omega (arith, of.pattern, le); place = omega (arith, of.place, le); other = omega (arith, of.other, le) }

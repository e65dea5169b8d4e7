-- One move or the other.
use Rattle.std.proofs.Common.{◌≡◌, ◌∙◌, true, false, Bool, sym, ap}
use Rattle.lua_code.specs.LuaHeapProc.{Proc}
use Rattle.lua_code.specs.LuaHeapHeap.{Heap}
use Rattle.lua_stack.specs.LuaSlotsSlots.{Slots, with_heap}
use Rattle.lua_stack.specs.LuaSlotsPoints.{Move}
use Rattle.lua_stack.specs.LuaSlotsErrors.{choose}
use Rattle.lua_code.specs.LuaSlotsEnact.{Funds, enact}

pub second : (b : Bool) (x y z : Move) → false ≡ b → y ≡ z → choose b x y ≡ z
second b x y z e w = ap (λ c. choose c x y) (sym e) ∙ w

enacted_first : (b : Bool) (x y z : Move) (f : Funds) → true ≡ b → x ≡ z → enact (choose b x y) f ≡ enact z f
enacted_first b x y z f e w = ap (λ (m : Move). enact m f) (ap (λ c. choose c x y) (sym e) ∙ w)

same_heap : (h : Heap Proc) (s : Slots) → s.heap ≡ h → with_heap h s ≡ s
same_heap h s e = ap (λ (x : Heap Proc). with_heap x s) (sym e)

pub enacted_first_at : (b : Bool) (x y : Move) (g : Slots → Move) (h : Heap Proc) (s : Slots) (f : Funds) → true ≡ b → x ≡ g s → s.heap ≡ h → enact (choose b x y) f ≡ enact (g (with_heap h s)) f
enacted_first_at b x y g h s f e w q = enacted_first b x y (g s) f e w ∙ ap (λ (z : Slots). enact (g z) f) (sym (same_heap h s q))

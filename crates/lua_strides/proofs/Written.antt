-- Several moves at once that end with another heap or other registers.
use Rattle.std.proofs.Common.{◌≡◌, ◌∙◌, ◌≤◌, ℕ, true, List, Option, Some, None, refl, sym, ap, subst, arith}
use Rattle.lua_state.specs.WkBaseDeclaredLeftLeft.{Left}
use Rattle.lua_code.specs.LuaHeapProc.{Proc}
use Rattle.lua_code.specs.LuaHeapHeap.{Heap}
use Rattle.lua_code.specs.LuaHeapValue.{Value}
use Rattle.lua_state.specs.LuaStoreSeen.{StoreView}
use Rattle.lua_state.specs.LuaStoreParts.{IsLater}
use Rattle.lua_code.specs.LuaSlotsCode.{Place, Reg, Box, Up}
use Rattle.lua_state.specs.LuaSlotsSlots as slots
use Rattle.lua_state.specs.LuaSlotsSlots.{Slots, function_of, place_cell, with_cell, write_place, with_one, opened}
use Rattle.lua_state.specs.LuaSlotsPoints.{SFrame, Point}
use Rattle.lua_state.specs.LuaSlotsEnact.{Funds}
use Rattle.lua_state.specs.LuaGoesGoing.{Reaches}
use Rattle.lua_in_place.specs.Laws.{after_nodes}
use Rattle.lua_state.specs.LuaStackDeclaredRegisterSlot.{Slot}
use Rattle.lua_state.specs.LuaStackDeclaredFocusFocus.{Focus}
use Rattle.lua_state.specs.LuaStackPlaces.{heap_with, written_at}
use Rattle.lua_state.specs.LuaStackSeen.{registers_seen, focus_seen}
use Rattle.lua_state.specs.LuaStackOf.{RegistersOf, FocusOf}
use Rattle.lua_state.specs.declared.state.State.{State}
use Rattle.lua_state.specs.Seen.{slots_of, frames_of, funds_of}
use Rattle.lua_state.specs.Of.{StateOf}
use Rattle.lua_state.specs.Worlds.{world_seen}
use Rattle.lua_state.proofs.Staying.{state_later, frames_stay, slots_stay}
use Rattle.lua_strides.specs.Strides.{PaysNodes, Strides, LeadsAt}
use Rattle.lua_strides.proofs.Paths.{funds_after, steps_fall}

abbrev pub with_regs : State → List Slot → State
with_regs m regs = record m { regs = regs }

with_regs_of : (s : StoreView) (m : State) (regs : List Slot) → StateOf s m → RegistersOf s regs → StateOf s (with_regs m regs)
with_regs_of s m regs h k = record { frames = h.frames; regs = k; functions = h.functions; env = h.env; modules = h.modules; loaded = h.loaded; scenes = h.scenes; codes = h.codes }

abbrev pub with_both : Heap Proc × List slots.Slot → Slots → Slots
with_both x s = record s { heap = x.0; regs = x.1 }

-- what is held then, from what was held
changed_slots : (s u : StoreView) (m : State) (regs : List Slot) (x : Heap Proc × List slots.Slot) (z : Slots) → StateOf s m → IsLater s u → (u.heap, registers_seen u.texts regs) ≡ x → with_both x (slots_of s m) ≡ z → slots_of u (with_regs m regs) ≡ z
changed_slots s u m regs x z of more e w =
    ap (λ (y : Slots). with_both (u.heap, registers_seen u.texts regs) y) (slots_stay s u more m of) ∙ ap (λ (y : Heap Proc × List slots.Slot). with_both y (slots_of s m)) e ∙ w

pub strode_changed : (s u : StoreView) (m : State) (regs : List Slot) (p : Point) (n : ℕ) (y : Focus) (q : List SFrame → Point) (x : Heap Proc × List slots.Slot) (z : Slots) (l l' : Left) (k k' : ℕ) → StateOf s m
    → IsLater s u → RegistersOf u regs → FocusOf u y → 1 ≤ n → PaysNodes n l k l' k' true → LeadsAt (world_seen m.codes.world) p (slots_of s m) n (q (frames_of s m)) z → ((fs : List SFrame) → q fs ≡ focus_seen u y fs)
    → (u.heap, registers_seen u.texts regs) ≡ x → with_both x (slots_of s m) ≡ z → Strides s m p l k u (with_regs m regs) l' k' y
strode_changed s u m regs p n y q x z l l' k k' of more known focus some e law point is w =
    record {
      state = with_regs_of u m regs (state_later s u more m of) known;
      world = refl;
      of = focus;
      later = more;
      rises = omega (arith, e.2);
      falls = steps_fall n l l' k k' some e;
      led = λ told a b h.
          subst (λ (g : Funds). Reaches (world_seen m.codes.world) p (slots_of s m) (funds_of l m told a) (focus_seen u y (frames_of u m)) (slots_of u (with_regs m regs)) g) (funds_after n l l' k k' m told a b e h)
          (subst (λ (o : Slots). Reaches (world_seen m.codes.world) p (slots_of s m) (funds_of l m told a) (focus_seen u y (frames_of u m)) o (after_nodes n (funds_of l m told a))) (sym (changed_slots s u m regs x z of more is w))
          (subst (λ (o : Point). Reaches (world_seen m.codes.world) p (slots_of s m) (funds_of l m told a) o z (after_nodes n (funds_of l m told a))) (point (frames_of s m) ∙ ap (focus_seen u y) (sym (frames_stay s u more m of)))
          (law (funds_of l m told a) e.0)));
    }

-- A VALUE AT A PLACE
in_cell : (s : Slots) (v : Value) (c : Option ℕ) → with_both (heap_with s.heap c v, s.regs) s ≡ with_cell c v s
in_cell s v (Some c) = refl
in_cell s v None = refl

writes : (s : Slots) (p : Place) (v : Value) → with_both (written_at s.heap s.regs (function_of s).cells p v) s ≡ write_place s p v
writes s (Reg i) v = refl
writes s (Box i) v = in_cell s v (place_cell s.regs (function_of s).cells (Box i))
writes s (Up i) v = in_cell s v (place_cell s.regs (function_of s).cells (Up i))

pub writes_at : (s : Slots) (cells : List ℕ) (p : Place) (v : Value) → cells ≡ (function_of s).cells → with_both (written_at s.heap s.regs cells p v) s ≡ write_place s p v
writes_at s cells p v e = ap (λ z. with_both (written_at s.heap s.regs z p v) s) e ∙ writes s p v

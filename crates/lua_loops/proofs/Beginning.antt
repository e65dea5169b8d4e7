-- A turn of a loop begins, or the body of a function: there are new registers, and a frame that waits for its end.
use Rattle.std.proofs.Common.{◌≡◌, ◌∙◌, refl, sym, ap, Bool, List, ◌∷◌}
use Rattle.std.specs.Prelude.{ℤ}
use Rattle.page_run.specs.WkBaseDeclaredLeftLeft.{Left}
use Rattle.lua_code.specs.LuaHeapProc.{Proc}
use Rattle.lua_code.specs.LuaHeapHeap.{Heap}
use Rattle.lua_code.specs.LuaHeapValue.{Number}
use Rattle.lua_state.specs.LuaStoreSeen.{StoreView}
use Rattle.lua_state.specs.LuaStoreParts.{IsLater}
use Rattle.lua_code.specs.LuaSlotsCode.{CBlock}
use Rattle.lua_state.specs.LuaSlotsSlots as slots
use Rattle.lua_state.specs.LuaSlotsSlots.{Slots, with_one}
use Rattle.lua_state.specs.LuaSlotsPoints.{SFrame, Point, Runs, Now}
use Rattle.lua_state.specs.LuaStackDeclaredActivationActivation.{Activation}
use Rattle.lua_state.specs.LuaStackDeclaredFocusFocus.{Focus}
use Rattle.lua_state.specs.LuaStackDeclaredFrameFrame.{Frame}
use Rattle.lua_state.specs.LuaStackDeclaredFrameEnding.{Ending}
use Rattle.lua_state.specs.LuaStackDeclaredRegisterSlot.{Slot}
use Rattle.lua_state.specs.LuaStackSeen.{focus_seen, frames_seen, registers_seen, activations_seen, ending_seen}
use Rattle.lua_state.specs.LuaStackOf.{FramesOf, FocusOf, EndingOf, RegistersOf, ActivationsOf}
use Rattle.lua_state.proofs.LuaStackStay.{frames_later, activations_later, activations_as}
use Rattle.lua_state.specs.declared.state.State.{State}
use Rattle.lua_state.specs.declared.turn.Turn.TheVariants as turn
use Rattle.lua_state.specs.Seen.{slots_of, frames_of}
use Rattle.lua_state.specs.Of.{StateOf}
use Rattle.lua_state.specs.Makes.{Makes}
use Rattle.lua_state.proofs.Staying.{state_later, frames_stay, slots_stay}
use Rattle.lua_state.proofs.Making.{stands}

abbrev pub with_parts : State → List Frame → List Slot → List Activation → State
with_parts m frames regs functions = record m { frames = frames; regs = regs; functions = functions }

pub with_parts_of : (s : StoreView) (m : State) (fs : List Frame) (regs : List Slot) (functions : List Activation) → StateOf s m → FramesOf s fs → RegistersOf s regs → ActivationsOf s functions → StateOf s (with_parts m fs regs functions)
with_parts_of s m fs regs functions h a b c = record { frames = a; regs = b; functions = c; env = h.env; modules = h.modules; loaded = h.loaded; scenes = h.scenes; codes = h.codes }

-- what the slots are with new registers and functions, in a store that grew
abbrev pub with_new : Slots → Heap Proc × List slots.Slot → List slots.Activation → Slots
with_new x p functions = record x { heap = p.0; regs = p.1; functions = functions }

module _ (s u : StoreView) (m : State) (frames : List Frame) (regs : List Slot) (functions : List Activation) where
  pub opened_slots : (p : Heap Proc × List slots.Slot) (fns : List slots.Activation) → StateOf s m → IsLater s u → (u.heap, registers_seen u.texts regs) ≡ p → activations_seen u functions ≡ fns
      → slots_of u (with_parts m frames regs functions) ≡ with_new (slots_of s m) p fns
  opened_slots p fns of later e q =
      ap (λ (z : Slots). with_new z (u.heap, registers_seen u.texts regs) (activations_seen u functions)) (slots_stay s u later m of)
      ∙ ap (λ (z : Heap Proc × List slots.Slot). with_new (slots_of s m) z (activations_seen u functions)) e
      ∙ ap (with_new (slots_of s m) p) q

  -- what runs next, and the frame that waits for its end
  pub begun : (l : Left) (f : Focus) (ending : Ending) (frame : SFrame) (b : CBlock) (x : Slots) → StateOf s m → IsLater s u → RegistersOf u regs → ActivationsOf u functions → EndingOf u ending
      → ((t : StoreView) → FramesOf t m.frames → EndingOf t ending → FocusOf t f × FramesOf t frames)
      → ((t : StoreView) → focus_seen t f (frames_seen t.texts frames) ≡ Runs b (ending_seen t.texts ending ∷ frames_seen t.texts m.frames))
      → ending_seen u.texts ending ≡ frame → slots_of u (with_parts m frames regs functions) ≡ x
      → Makes s m l u (with_parts m frames regs functions) l (Now (Runs b (frame ∷ frames_of s m)) x) (turn.On f)
  begun l f ending frame b x of later r a e focus point is at =
      let both : FocusOf u f × FramesOf u frames = focus u (frames_later s u later m.frames of.frames) e in
      stands s u m (with_parts m frames regs functions) l (Now (Runs b (frame ∷ frames_of s m)) x) f
      (with_parts_of u m frames regs functions (state_later s u later m of) both.1 r a) refl refl refl later both.0
      (ap (λ (g : SFrame). Now (Runs b (g ∷ frames_of s m)) x) (sym is)
      ∙ ap (λ (fs : List SFrame). Now (Runs b (ending_seen u.texts ending ∷ fs)) x) (sym (frames_stay s u later m of))
      ∙ ap (λ (p : Point). Now p x) (sym (point u))
      ∙ ap (λ (z : Slots). Now (focus_seen u f (frames_seen u.texts frames)) z) (sym at))

-- the functions are those from before
pub functions_stay : (s u : StoreView) (m : State) → StateOf s m → IsLater s u → ActivationsOf u m.functions × (activations_seen u m.functions ≡ activations_seen s m.functions)
functions_stay s u m of later = (activations_later s u later m.functions of.functions, activations_as s u later m.functions of.functions)

-- a variable with a number, as a call tells it, is one with the number that it is
pub opened_number : (boxed : Bool) (i index : ℤ) (x y : Heap Proc × List slots.Slot) → i ≡ index → y ≡ with_one boxed (Number i) x → y ≡ with_one boxed (Number index) x
opened_number boxed i index x y p e = e ∙ ap (λ (n : ℤ). with_one boxed (Number n) x) p

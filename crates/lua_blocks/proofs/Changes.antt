-- The heap and the registers of a machine change, and all else stays.
use Rattle.std.proofs.Common.{◌≡◌, ◌∙◌, refl, sym, ap, arith, ℕ, Bool, List, length, Option, Some, None}
use Rattle.page_run.specs.WkBaseDeclaredLeftLeft.{Left}
use Rattle.lua_code.specs.LuaHeapProc.{Proc}
use Rattle.lua_code.specs.LuaHeapValue.{Value, Nil, Closure as ClosureValue}
use Rattle.lua_code.specs.LuaHeapHeap.{Heap, Function as FunctionClosed, new_closure}
use Rattle.lua_state.specs.LuaStoreDeclaredIdsClosureId.{ClosureId}
use Rattle.lua_state.specs.LuaStoreSeen.{StoreView, text_at}
use Rattle.lua_state.specs.LuaStoreParts.{IsLater}
use Rattle.lua_code.specs.LuaSlotsCode.{Place, Reg, Box, Up}
use Rattle.lua_code.specs.LuaSlotsSight.{newest}
use Rattle.lua_state.specs.LuaSlotsSlots as slots
use Rattle.lua_state.specs.LuaSlotsSlots.{Slots, function_of, place_cell, with_cell, write_place, with_one, opened, proc_of, with_closure, next_closure, with_function_named}
use Rattle.lua_state.specs.LuaSlotsPoints.{SFrame, Point, Now}
use Rattle.lua_state.specs.LuaStackDeclaredRegisterSlot.{Slot}
use Rattle.lua_state.specs.LuaStackDeclaredFocusFocus.{Focus}
use Rattle.lua_state.specs.LuaStackPlaces.{heap_with, written_at}
use Rattle.lua_state.specs.LuaStackSeen.{registers_seen, captured_by, focus_seen}
use Rattle.lua_state.specs.LuaStackOf.{RegistersOf, MayBeClosureOf, FocusOf}
use Rattle.lua_state.specs.declared.state.State.{State}
use Rattle.lua_state.specs.declared.turn.Turn.TheVariants as turn
use Rattle.lua_state.specs.Seen.{slots_of, frames_of}
use Rattle.lua_state.specs.Of.{StateOf}
use Rattle.lua_state.specs.Makes.{Makes}
use Rattle.lua_state.proofs.Staying.{state_later, frames_stay, slots_stay}
use Rattle.lua_state.proofs.Making.{stands}
use Rattle.lua_blocks.specs.Named.{proc_at, closure_named, function_named}

abbrev with_regs : State → List Slot → State
with_regs m regs = record m { regs = regs }

with_regs_of : (s : StoreView) (m : State) (regs : List Slot) → StateOf s m → RegistersOf s regs → StateOf s (with_regs m regs)
with_regs_of s m regs h k = record { frames = h.frames; regs = k; functions = h.functions; env = h.env; modules = h.modules; loaded = h.loaded; scenes = h.scenes; codes = h.codes }

-- another heap with other registers
abbrev pub with_both : Heap Proc × List slots.Slot → Slots → Slots
with_both x s = record s { heap = x.0; regs = x.1 }

slots_changed : (s u : StoreView) (m : State) (regs : List Slot) → StateOf s m → IsLater s u → slots_of u (with_regs m regs) ≡ with_both (u.heap, registers_seen u.texts regs) (slots_of s m)
slots_changed s u m regs of later = ap (λ (x : Slots). with_both (u.heap, registers_seen u.texts regs) x) (slots_stay s u later m of)

-- WHAT IS NEXT is known, at the store and with the registers that are there then
pub on_changed : (s u : StoreView) (m : State) (regs : List Slot) (l : Left) (f : Focus) (p : List SFrame → Point) (x : Heap Proc × List slots.Slot) (z : Slots) → StateOf s m → IsLater s u → RegistersOf u regs → FocusOf u f
    → ((fs : List SFrame) → p fs ≡ focus_seen u f fs) → (u.heap, registers_seen u.texts regs) ≡ x → with_both x (slots_of s m) ≡ z
    → Makes s m l u (with_regs m regs) l (Now (p (frames_of s m)) z) (turn.On f)
on_changed s u m regs l f p x z of later known focus e a w =
    stands s u m (with_regs m regs) l (Now (p (frames_of s m)) z) f (with_regs_of u m regs (state_later s u later m of) known) refl refl refl later focus
    (ap (λ (fs : List SFrame). Now (p fs) z) (sym (frames_stay s u later m of))
    ∙ ap (λ (q : Point). Now q z) (e (frames_of u m))
    ∙ ap (λ (y : Slots). Now (focus_seen u f (frames_of u m)) y) (sym w ∙ ap (λ (y : Heap Proc × List slots.Slot). with_both y (slots_of s m)) (sym a) ∙ sym (slots_changed s u m regs of later)))

-- A VALUE AT A PLACE
in_cell : (s : Slots) (v : Value) (c : Option ℕ) → with_both (heap_with s.heap c v, s.regs) s ≡ with_cell c v s
in_cell s v (Some c) = refl
in_cell s v None = refl

writes : (s : Slots) (p : Place) (v : Value) → with_both (written_at s.heap s.regs (function_of s).cells p v) s ≡ write_place s p v
writes s (Reg i) v = refl
writes s (Box i) v = in_cell s v (place_cell s.regs (function_of s).cells (Box i))
writes s (Up i) v = in_cell s v (place_cell s.regs (function_of s).cells (Up i))

-- A LOCAL FUNCTION: its closure is written to the newest variable
pub closure_written : (h g : Heap Proc) (regs regs' : List slots.Slot) (cells cells' : List ℕ) (p : Place) (n : ℕ) (boxed : Bool) (f : Proc) (x : Heap Proc × List slots.Slot)
    → g ≡ (new_closure h (FunctionClosed f)).0 → regs' ≡ regs → cells' ≡ cells → p ≡ newest boxed → n ≡ length h.closures → x ≡ written_at g regs' cells' p (ClosureValue n) → x ≡ closure_named boxed f cells (h, regs)
closure_written h g regs regs' cells cells' p n boxed f x a b c d e w =
    w ∙ ap (λ z. written_at z regs' cells' p (ClosureValue n)) a
    ∙ ap (λ z. written_at (new_closure h (FunctionClosed f)).0 z cells' p (ClosureValue n)) b
    ∙ ap (λ z. written_at (new_closure h (FunctionClosed f)).0 regs z p (ClosureValue n)) c
    ∙ ap (λ z. written_at (new_closure h (FunctionClosed f)).0 regs cells z (ClosureValue n)) d
    ∙ ap (λ z. written_at (new_closure h (FunctionClosed f)).0 regs cells (newest boxed) (ClosureValue z)) e

names_function : (s : Slots) (boxed : Bool) (index : ℕ) (places : List Place) → with_both (function_named boxed (function_of s).source index places (function_of s).cells (s.heap, s.regs)) s ≡ with_function_named boxed index places s
names_function s boxed index places = writes (with_closure (proc_of index places (opened boxed Nil s)) (opened boxed Nil s)) (newest boxed) (next_closure (opened boxed Nil s))

-- the same where its variable is there already, and where title and cells are known
pub function_opened : (s u : StoreView) (source : ℕ) (closure : Option ClosureId) (boxed : Bool) (index : ℕ) (places : List Place) (regs regs' : List slots.Slot) (x : Heap Proc × List slots.Slot)
    → u.texts ≡ s.texts → captured_by u.heap closure ≡ captured_by s.heap closure → (u.heap, regs') ≡ with_one boxed Nil (s.heap, regs)
    → x ≡ closure_named boxed (proc_at (text_at u.texts source) index places (captured_by u.heap closure) regs') (captured_by u.heap closure) (u.heap, regs')
    → x ≡ function_named boxed (text_at s.texts source) index places (captured_by s.heap closure) (s.heap, regs)
function_opened s u source closure boxed index places regs regs' x a b c w =
    w
    ∙ ap (λ z. closure_named boxed (proc_at (text_at z source) index places (captured_by u.heap closure) regs') (captured_by u.heap closure) (u.heap, regs')) a
    ∙ ap (λ z. closure_named boxed (proc_at (text_at s.texts source) index places z regs') z (u.heap, regs')) b
    ∙ ap (λ (z : Heap Proc × List slots.Slot). closure_named boxed (proc_at (text_at s.texts source) index places (captured_by s.heap closure) z.1) (captured_by s.heap closure) z) c

pub names_function_at : (s : Slots) (title : List ℕ) (cells : List ℕ) (boxed : Bool) (index : ℕ) (places : List Place) → title ≡ (function_of s).source → cells ≡ (function_of s).cells
    → with_both (function_named boxed title index places cells (s.heap, s.regs)) s ≡ with_function_named boxed index places s
names_function_at s title cells boxed index places a b =
    ap (λ z. with_both (function_named boxed z index places cells (s.heap, s.regs)) s) a
    ∙ ap (λ z. with_both (function_named boxed (function_of s).source index places z (s.heap, s.regs)) s) b
    ∙ names_function s boxed index places

pub writes_at : (s : Slots) (cells : List ℕ) (p : Place) (v : Value) → cells ≡ (function_of s).cells → with_both (written_at s.heap s.regs cells p v) s ≡ write_place s p v
writes_at s cells p v e = ap (λ z. with_both (written_at s.heap s.regs z p v) s) e ∙ writes s p v

pub closure_later : (s t : StoreView) → IsLater s t → (c : Option ClosureId) → MayBeClosureOf s c → MayBeClosureOf t c
closure_later s t l None h = tt
closure_later s t l (Some id) h = omega (arith, h, l.closures)

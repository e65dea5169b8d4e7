-- THE NEXT TURN of a counting loop, from where its last one is over.
use Rattle.std.proofs.Common.{◌≡◌, ◌∙◌, ℕ, ◌+◌, ◌-◌, Bool, true, List, ◌∷◌, length, Option, Some, sym, ap, subst, arith}
use Rattle.std.specs.Prelude.{ℤ}
use Rattle.lua_loops.specs.PageRunOutcome.{Goes}
use Rattle.lua_code.specs.PageRunPerform.{less}
use Rattle.lua_code.proofs.PageRunLess.{less_of}
use Rattle.lua_code.specs.LuaHeapValue.{Value, Number}
use Rattle.lua_code.specs.LuaSlotsCode.{CBlock, CWorld}
use Rattle.lua_operators.specs.LuaSlotsSlots as slots
use Rattle.lua_operators.specs.LuaSlotsSlots.{Slots, cut_to, cut, with_one, opened}
use Rattle.lua_operators.specs.LuaSlotsPoints.{CountTurnS, SFrame, CountEnd, Point, Gives, Runs, Starts, Marks, Now}
use Rattle.lua_loops.specs.LuaSlotsLoops.{count_next}
use Rattle.lua_operators.specs.LuaSlotsEnact.{Stands, paid, enact}
use Rattle.lua_strides.specs.LuaGoesGoing.{here, further}
use Rattle.lua_strides.proofs.LuaInPlaceReading.{with_count}
use Rattle.lua_strides.proofs.LuaInPlaceStatements.{Leads, free, free_first}
use Rattle.lua_loops.specs.WkBaseDeclaredLeftLeft.{Left}
use Rattle.lua_operators.specs.LuaStoreSeen.{StoreView}
use Rattle.lua_operators.specs.LuaStoreParts.{IsLater}
use Rattle.lua_loops.proofs.Beginning.{with_parts, functions_stay, opened_slots}
use Rattle.lua_strides.specs.LuaStackDeclaredFocusFocus.{Focus}
use Rattle.lua_strides.specs.LuaStackDeclaredFrameFrame.{Frame}
use Rattle.lua_operators.specs.LuaStackDeclaredRegisterSlot.{Slot}
use Rattle.lua_operators.specs.LuaStackSeen.{focus_seen, frame_seen, frames_seen, registers_seen, activations_seen}
use Rattle.lua_operators.specs.LuaStackOf.{FocusOf, FrameOf, FramesOf, RegistersOf}
use Rattle.lua_operators.proofs.LuaStackStay.{frames_later}
use Rattle.lua_strides.specs.LuaStateDeclaredStateState.{State}
use Rattle.lua_loops.specs.LuaStateSeen.{slots_of, frames_of}
use Rattle.lua_loops.specs.LuaStateOf.{StateOf}
use Rattle.lua_strides.specs.Strides.{PaysNodes, LeadsAt}
use Rattle.lua_turns.specs.Rows.{Follows}
use Rattle.lua_turns.proofs.Following.{follows_paid}
use Rattle.lua_strides.proofs.Paths.{at_once}

one_less : (i k : ℕ) → i ≡ 1 + k → less 1 i ≡ Some k
one_less i k h = let l : i - 1 ≡ k = omega (arith, h) in less_of 1 i (omega (arith, h)) ∙ ap (λ (x : ℕ). Some x) l

module _ (world : CWorld) (boxed : Bool) (index limit step : ℤ) (b : CBlock) (fs : List SFrame) where
  begun : (s : Slots) → Leads world (Starts (CountTurnS boxed index limit step b) fs) s 1 (Runs b (CountEnd (length s.regs) boxed index limit step b ∷ fs)) (opened boxed (Number index) s)
  begun s f i k c d h g =
      let p : Point = Starts (CountTurnS boxed index limit step b) fs in
      let q : Point = Runs b (CountEnd (length s.regs) boxed index limit step b ∷ fs) in
      let t : Slots = opened boxed (Number index) s in
      further p s (with_count f i c) q t (with_count f k d) here
      (ap (λ (o : Option ℕ). paid o (with_count f i c) (enact (Marks (Now q t)))) (one_less i k h) ∙ ap (λ (x : ℕ). Stands q t (with_count f k x)) (sym g))

  pub turned : (s : Slots) (d : ℕ) (before : ℤ) (vs : List Value) → count_next boxed before limit step b fs (cut d s) ≡ Now (Starts (CountTurnS boxed index limit step b) fs) (cut d s)
      → LeadsAt world (Gives (Goes vs) (CountEnd d boxed before limit step b ∷ fs)) s 1 (Runs b (CountEnd (length (cut d s).regs) boxed index limit step b ∷ fs)) (opened boxed (Number index) (cut d s))
  turned s d before vs e =
      at_once world (Gives (Goes vs) (CountEnd d boxed before limit step b ∷ fs)) s 1 (Runs b (CountEnd (length (cut d s).regs) boxed index limit step b ∷ fs)) (opened boxed (Number index) (cut d s))
      (free_first world 1 (free world (Gives (Goes vs) (CountEnd d boxed before limit step b ∷ fs)) s (Starts (CountTurnS boxed index limit step b) fs) (cut d s) e) (begun (cut d s)))

-- THE SAME IN CODE: the registers of the last turn are gone, the variable has the next index, and another end waits for the turn
pub turn_follows : (s u : StoreView) (m : State) (fs : List Frame) (kept regs : List Slot) (l l' : Left) (k k' : ℕ) (vs : List Value) (more : List Frame) (f g : Frame) (y : Focus) (d : ℕ) (boxed : Bool) (before index limit step : ℤ) (b : CBlock)
    → StateOf s m → m.frames ≡ f ∷ more → fs ≡ g ∷ more → PaysNodes 1 l k l' k' true
    → ((gs : List SFrame) (x : Slots) → count_next boxed before limit step b gs x ≡ Now (Starts (CountTurnS boxed index limit step b) gs) x)
    → registers_seen s.texts kept ≡ cut_to d (registers_seen s.texts m.regs) → IsLater s u → u.texts ≡ s.texts → RegistersOf u regs
    → (u.heap, registers_seen u.texts regs) ≡ with_one boxed (Number index) (s.heap, registers_seen s.texts kept)
    → frame_seen s.texts f ≡ CountEnd d boxed before limit step b → frame_seen u.texts g ≡ CountEnd (length (registers_seen s.texts kept)) boxed index limit step b
    → FrameOf u g → FocusOf u y → ((gs : List SFrame) → focus_seen u y gs ≡ Runs b gs)
    → Follows s m (Gives (Goes vs) (frames_of s m)) l k u (with_parts m fs regs m.functions) l' k' y
turn_follows s u m fs kept regs l l' k k' vs more f g y d boxed before index limit step b of e n pays next cuts later texts r opens f_is g_is g_of y_of point =
    let x : Slots = cut d (slots_of s m) in
    let stay = functions_stay s u m of later in
    let behind : List SFrame = frames_seen s.texts more in
    let was : frames_of s m ≡ CountEnd d boxed before limit step b ∷ behind = ap (frames_seen s.texts) e ∙ ap (λ (z : SFrame). z ∷ behind) f_is in
    let is : frames_seen u.texts fs ≡ CountEnd (length x.regs) boxed index limit step b ∷ behind =
    ap (frames_seen u.texts) n ∙ ap (λ (z : SFrame). z ∷ frames_seen u.texts more) g_is ∙ ap (λ z. CountEnd (length (registers_seen s.texts kept)) boxed index limit step b ∷ frames_seen z more) texts
    ∙ ap (λ (z : List slots.Slot). CountEnd (length z) boxed index limit step b ∷ behind) cuts in
    let q : Point = Runs b (CountEnd (length x.regs) boxed index limit step b ∷ behind) in
    follows_paid s u m fs regs m.functions (Gives (Goes vs) (frames_of s m)) q (opened boxed (Number index) x) y of later 1 l l' k k'
    (subst (FramesOf u) (sym n) (g_of, (subst (FramesOf u) e (frames_later s u later m.frames of.frames)).1)) r stay.0 y_of pays
    (λ world. subst (λ (z : List SFrame). LeadsAt world (Gives (Goes vs) z) (slots_of s m) 1 q (opened boxed (Number index) x)) (sym was)
    (turned world boxed index limit step b behind (slots_of s m) d before vs (next behind x)))
    (sym (point (frames_seen u.texts fs) ∙ ap (Runs b) is))
    (sym (opened_slots s u m fs regs m.functions (with_one boxed (Number index) (x.heap, x.regs)) (activations_seen s m.functions) of later (opens ∙ ap (λ (z : List slots.Slot). with_one boxed (Number index) (s.heap, z)) cuts) stay.1))

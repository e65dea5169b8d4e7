-- How moves of statements are made of parts.
use Rattle.std.proofs.Common.{◌≡◌, ◌∙◌, ◌+◌, Bool, true, false, refl, sym, ap, subst, ℕ, List, [], ◌∷◌}
use Rattle.std.specs.Prelude.{Result, Ok, Err, IfOk, OnOk}
use Rattle.page_run.specs.WkBaseDeclaredLeftLeft.{Left}
use Rattle.page_run.specs.declared.which.Which.TheVariants.{Steps}
use Rattle.lua_code.specs.LuaHeapValue as kind
use Rattle.lua_state.specs.LuaStoreDeclaredValueValue.{Value}
use Rattle.lua_state.specs.LuaStoreDeclaredValueValueTheVariants as own
use Rattle.lua_state.specs.LuaStoreDeclaredIdsTextId.{TextId}
use Rattle.lua_state.specs.LuaStoreSeen.{StoreView, text_at}
use Rattle.lua_state.specs.LuaStoreParts.{IsLater, IsTextOf}
use Rattle.lua_state.proofs.LuaStoreLater.{later-itself}
use Rattle.lua_code.specs.LuaMeaningActs as act
use Rattle.lua_state.specs.LuaSlotsErrors.{choose, gives, jumps, node}
use Rattle.lua_state.specs.LuaSlotsSlots.{Slots, with_heap}
use Rattle.lua_state.specs.LuaSlotsPoints.{SFrame, Move, Costs, Marks, Now}
use Rattle.lua_state.specs.LuaSlotsEnact.{enact}
use Rattle.page_run.specs.State.{Tally}
use Rattle.lua_state.specs.LuaStackDeclaredValuesGivenTheVariants as given
use Rattle.lua_state.specs.LuaStackDeclaredFocusFocus.{Focus}
use Rattle.lua_state.specs.LuaStackDeclaredFocusFocusTheVariants as focus
use Rattle.lua_state.specs.LuaStackDeclaredFocusJumpTheVariants as jump
use Rattle.lua_state.specs.LuaStackDeclaredFrameFrame.{Frame}
use Rattle.lua_state.specs.LuaStackSeen.{focus_seen, frame_seen, frames_seen}
use Rattle.lua_state.specs.LuaStackOf.{FramesOf, FrameOf, FocusOf}
use Rattle.lua_state.specs.LuaArmsDeclaredStepStep.{Step}
use Rattle.lua_state.specs.LuaArmsDeclaredStepStepTheVariants as step
use Rattle.lua_state.specs.LuaArmsDeclaredStepPaid.{Paid}
use Rattle.lua_state.specs.LuaArmsDeclaredStepPaidTheVariants as paid
use Rattle.lua_state.specs.LuaArmsSteps.{step_seen}
use Rattle.lua_state.specs.LuaArmsPaid.{paid_seen, IfSpent as IfStopped}
use Rattle.lua_state.specs.declared.state.State.{State}
use Rattle.lua_state.specs.declared.turn.Turn.{Turn}
use Rattle.lua_state.specs.declared.turn.Turn.TheVariants as turn
use Rattle.lua_state.specs.Seen.{slots_of, frames_of, funds_of, turn_seen}
use Rattle.lua_state.specs.Of.{StateOf, TurnOf}
use Rattle.lua_state.specs.Makes.{IfSpent, Makes, Counts}
use Rattle.lua_state.specs.Charges.{Pays}
use Rattle.lua_state.proofs.Staying.{state_later, frames_stay, slots_same}
use Rattle.lua_state.proofs.Making.{after, counts_after, from_parts, stands, spends, counts_none, counts_mark, UnlessOn, from_paid, seen_later}

abbrev pub with_frames : State → List Frame → State
with_frames m fs = record m { frames = fs }

pub with_frames_of : (s : StoreView) (m : State) (fs : List Frame) → StateOf s m → FramesOf s fs → StateOf s (with_frames m fs)
with_frames_of s m fs h k = record { frames = k; regs = h.regs; functions = h.functions; env = h.env; modules = h.modules; loaded = h.loaded; scenes = h.scenes; codes = h.codes }

if_spent : (A : Type 0) (r : Turn) → A → IfSpent r A
if_spent A (turn.On focus) h = tt
if_spent A (turn.Spent which) h = h

-- WHAT IS NEXT is known, above these frames
pub on : (s : StoreView) (m : State) (fs : List Frame) (l : Left) (f : Focus) → StateOf s m → FramesOf s fs → FocusOf s f
    → Makes s m l s (with_frames m fs) l (Now (focus_seen s f (frames_of s (with_frames m fs))) (slots_of s m)) (turn.On f)
on s m fs l f of frames focus = stands s s m (with_frames m fs) l (Now (focus_seen s f (frames_of s (with_frames m fs))) (slots_of s m)) f (with_frames_of s m fs of frames) refl refl refl (later-itself s) focus refl

pub nothing_given : (s : StoreView) (m : State) (l : Left) (vs : List Value) → vs ≡ [] → StateOf s m → Makes s m l s m l (gives [] (frames_of s m) (slots_of s m)) (turn.On (focus.Gives (given.Many vs)))
nothing_given s m l [] e of = on s m m.frames l (focus.Gives (given.Many [])) of of.frames tt
nothing_given s m l (v ∷ vs) e of = absurd cc

-- ONE MORE FRAME waits, and the move is made above it
pub above_of : (s : StoreView) (m : State) (fs : List Frame) (f : Frame) → fs ≡ f ∷ m.frames → StateOf s m → FrameOf s f → StateOf s (with_frames m fs)
above_of s m fs f e of isit = with_frames_of s m fs of (subst (FramesOf s) (sym e) (isit, of.frames))

pub above : (s t : StoreView) (m m' : State) (fs : List Frame) (f : Frame) (l l' : Left) (mv : List SFrame → Slots → Move) (r : Turn) → fs ≡ f ∷ m.frames
    → Makes s (with_frames m fs) l t m' l' (mv (frames_of s (with_frames m fs)) (slots_of s (with_frames m fs))) r → Makes s m l t m' l' (mv (frame_seen s.texts f ∷ frames_of s m) (slots_of s m)) r
above s t m m' fs f l l' mv r e made =
    from_parts s t m (with_frames m fs) m' l l' (mv (frame_seen s.texts f ∷ frames_of s m) (slots_of s m)) (mv (frames_of s (with_frames m fs)) (slots_of s m)) r refl refl refl
    (ap (λ (x : List Frame). mv (frames_seen s.texts x) (slots_of s m)) (sym e)) made

-- A TEXT was made first, and the move is the one that is made from there
pub over_text : (s u t : StoreView) (m m' : State) (l l' : Left) (r : Turn) (f : List SFrame → Slots → Move) → StateOf s m → IsLater s u → u.heap ≡ s.heap
    → Makes u m l t m' l' (f (frames_of u m) (slots_of u m)) r → Makes s m l t m' l' (f (frames_of s m) (slots_of s m)) r
over_text s u t m m' l l' r f of later same made =
    after s u t m m m' l l l' (f (frames_of s m) (slots_of s m)) (f (frames_of u m) (slots_of u m)) r refl later (if_spent (u.heap ≡ s.heap) r same)
    (λ told i.
    ap (λ (fs : List SFrame). enact (f fs (slots_of s m)) (funds_of l m told i)) (sym (frames_stay s u later m of))
    ∙ ap (λ (x : Slots). enact (f (frames_of u m) x) (funds_of l m told i)) (sym (slots_same s u later m of same))) made

-- A TEXT is named first, and the move is the one of its name
pub named : (s u t : StoreView) (m m' : State) (l l' : Left) (r : Turn) (texts : List (List ℕ)) (id : ℕ) (bytes : List ℕ) (f : List ℕ → List SFrame → Slots → Move) → StateOf s m → IsLater s u
    → u ≡ record s { texts = texts } → text_at u.texts id ≡ bytes → Makes u m l t m' l' (f (text_at u.texts id) (frames_of u m) (slots_of u m)) r → Makes s m l t m' l' (f bytes (frames_of s m) (slots_of s m)) r
named s u t m m' l l' r texts id bytes f of later same there made =
    over_text s u t m m' l l' r (f bytes) of later (ap (λ (x : StoreView). x.heap) same)
    (subst (λ b. Makes u m l t m' l' (f b (frames_of u m) (slots_of u m)) r) there made)

-- one is raised
pub text_is_raised : (s t : StoreView) (m : State) (l : Left) (texts : List (List ℕ)) (id : TextId) (bytes : List ℕ) → StateOf s m → IsLater s t → t ≡ record s { texts = texts } → IsTextOf t id → text_at t.texts id.at ≡ bytes
    → Makes s m l t m l (jumps (act.Raised (kind.Text bytes)) (frames_of s m) (slots_of s m)) (turn.On (focus.Jumps (jump.Raised (own.Text id))))
text_is_raised s t m l texts id bytes of later same there e =
    named s t t m m l l (turn.On (focus.Jumps (jump.Raised (own.Text id)))) texts id.at bytes (λ b fs x. jumps (act.Raised (kind.Text b)) fs x) of later same e
    (on t m m.frames l (focus.Jumps (jump.Raised (own.Text id))) (state_later s t later m of) (state_later s t later m of).frames there)

-- STEPS were taken first, or are not there
pub costs : (s t : StoreView) (m m' : State) (l k l' : Left) (n : ℕ) (mv : Move) (r : Turn) → Pays n l k true → Makes s m k t m' l' mv r → Makes s m l t m' l' (Costs n mv) r
costs s t m m' l k l' n mv r pays made = after s s t m m m' l k l' (Costs n mv) mv r refl (later-itself s) (if_spent (s.heap ≡ s.heap) r refl) (λ told i. pays m mv told i) made

pub short : (s : StoreView) (m : State) (l k : Left) (n : ℕ) (mv : Move) → StateOf s m → Pays n l k false → Makes s m l s m k (Costs n mv) (turn.Spent Steps)
short s m l k n mv of pays = spends s s m l k (Costs n mv) Steps of (later-itself s) refl (λ told i. pays m mv told i)

-- A NODE, whose step is paid, and which is counted; or the step is not there
pub node_paid : (s t : StoreView) (m m' : State) (l k l' : Left) (i j : ℕ) (mv nv : Move) (r : Turn) → mv ≡ node nv → Pays 1 l k true → j ≡ i + 1 → Makes s m k t m' l' nv r → Counts s m l i t m' l' j mv r
node_paid s t m m' l k l' i j mv nv r e pays q made =
    counts_after s s t m m m' l k l' i j mv (Marks nv) r refl (later-itself s) (if_spent (s.heap ≡ s.heap) r refl) (λ told n. ap (λ x. enact x (funds_of l m told n)) e ∙ pays m (Marks nv) told n)
    (counts_mark s t m m' k l' i j j nv r q (counts_none s t m m' k l' j j nv r refl made))

pub node_short : (s : StoreView) (m : State) (l k : Left) (i j : ℕ) (mv nv : Move) → mv ≡ node nv → StateOf s m → Pays 1 l k false → j ≡ i → Counts s m l i s m k j mv (turn.Spent Steps)
node_short s m l k i j mv nv e of pays q =
    counts_none s s m m l k i j mv (turn.Spent Steps) q (spends s s m l k mv Steps of (later-itself s) refl (λ told n. ap (λ x. enact x (funds_of l m told n)) e ∙ pays m (Marks nv) told n))

-- AN ARM THAT CHARGES NOTHING at the same store, above other frames, and its end
pub stepped : (s t : StoreView) (m : State) (fs : List Frame) (l l' : Left) (mv : Move) (st : Step) (r : Turn) → mv ≡ step_seen s st (frames_of s (with_frames m fs)) (slots_of s m)
    → Makes s (with_frames m fs) l t (with_frames m fs) l' (step_seen s st (frames_of s (with_frames m fs)) (slots_of s (with_frames m fs))) r → Makes s m l t (with_frames m fs) l' mv r
stepped s t m fs l l' mv st r e made = from_parts s t m (with_frames m fs) (with_frames m fs) l l' mv (step_seen s st (frames_of s (with_frames m fs)) (slots_of s m)) r refl refl refl e made

-- AN ARM WHOSE CHARGES ARE TAKEN, and its end
unless : (s u : StoreView) (p : Paid) → IfStopped p (u ≡ s) → UnlessOn p (u.heap ≡ s.heap)
unless s u (paid.Goes (step.On f)) h = tt
unless s u (paid.Goes (step.Fails line f)) h = ap (λ (x : StoreView). x.heap) h
unless s u (paid.Spent which) h = ap (λ (x : StoreView). x.heap) h

pub paid_arm : (s u t : StoreView) (m : State) (l k l' : Left) (mv : List SFrame → Slots → Move) (p : Paid) (r : Turn) → StateOf s m → IsLater s u → IfStopped p (u ≡ s)
    → ((fs : List SFrame) (x : Slots) (in_progress : ℕ) (tally : Tally) → x.heap ≡ s.heap
    → enact (mv fs x) (record { left = l; in_progress = in_progress; tally = tally }) ≡ paid_seen u p fs (with_heap u.heap x) (record { left = k; in_progress = in_progress; tally = tally }))
    → StateOf t m × TurnOf t r → IsLater u t → t.heap ≡ u.heap
    → ((told : Tally) (i : ℕ) → paid_seen u p (frames_of u m) (slots_of u m) (funds_of k m told i) ≡ turn_seen t m r (funds_of l' m told i))
    → Makes s m l t m l' (mv (frames_of s m) (slots_of s m)) r
paid_arm s u t m l k l' mv p r of later still e ended more same ends =
    from_paid s u t m m l k l' (mv (frames_of s m) (slots_of s m)) p r refl later (unless s u p still)
    (λ told i.
    e (frames_of s m) (slots_of s m) m.calls (record told { height = m.height; nodes = i }) refl ∙ seen_later s u m p (funds_of k m told i) of later) ended more same ends

-- the same where the end is the last call
pub paid_ends : {E : Type 0} (s u t : StoreView) (m : State) (l k l' : Left) (mv : List SFrame → Slots → Move) (p : Paid) (r : Result Turn E) → StateOf s m → IsLater s u → IfStopped p (u ≡ s)
    → ((fs : List SFrame) (x : Slots) (in_progress : ℕ) (tally : Tally) → x.heap ≡ s.heap
    → enact (mv fs x) (record { left = l; in_progress = in_progress; tally = tally }) ≡ paid_seen u p fs (with_heap u.heap x) (record { left = k; in_progress = in_progress; tally = tally }))
    → IfOk r (λ y. StateOf t m × TurnOf t y) → OnOk r (IsLater u t) → OnOk r (t.heap ≡ u.heap)
    → IfOk r (λ y. (told : Tally) (i : ℕ) → paid_seen u p (frames_of u m) (slots_of u m) (funds_of k m told i) ≡ turn_seen t m y (funds_of l' m told i))
    → IfOk r (λ y. Makes s m l t m l' (mv (frames_of s m) (slots_of s m)) y)
paid_ends s u t m l k l' mv p (Ok y) of later still e ended more same ends = paid_arm s u t m l k l' mv p y of later still e ended more same ends
paid_ends s u t m l k l' mv p (Err x) of later still e ended more same ends = tt

-- ONE MOVE OR THE OTHER
pub first_chosen : (b : Bool) (x y z : Move) → true ≡ b → x ≡ z → choose b x y ≡ z
first_chosen b x y z e w = ap (λ c. choose c x y) (sym e) ∙ w

pub second_chosen : (b : Bool) (x y z : Move) → false ≡ b → y ≡ z → choose b x y ≡ z
second_chosen b x y z e w = ap (λ c. choose c x y) (sym e) ∙ w

-- A value, or a jump, reaches the newest frame, and that frame waits no more or another one waits in its place: moves without a charge.
use Rattle.std.proofs.Common.{◌≡◌, ◌∙◌, ◌-◌, ℕ, zero, suc, List, [], ◌∷◌, length, drop, Some, refl, sym, ap, subst, slice_get, slice_set, arith}
use Rattle.std.proofs.lemmas.Option.{none-some}
use Rattle.lua_loops.specs.WkBaseDeclaredLeftLeft.{Left}
use Rattle.lua_loops.specs.PageRunOutcome.{Outcome}
use Rattle.lua_operators.specs.PageRunState.{no_tally}
use Rattle.lua_code.specs.LuaHeapValue.{Value}
use Rattle.lua_code.specs.LuaMeaningActs.{Jump}
use Rattle.lua_operators.specs.LuaStoreSeen.{StoreView}
use Rattle.lua_operators.specs.LuaStoreParts.{IsLater}
use Rattle.lua_operators.proofs.LuaStoreLater.{later-itself}
use Rattle.lua_code.specs.LuaSlotsCode.{CWorld}
use Rattle.lua_operators.specs.LuaSlotsSlots.{Slots, newest_function, cut_to}
use Rattle.lua_loops.specs.LuaSlotsCalls.{rest_of, left_function}
use Rattle.lua_operators.specs.LuaSlotsPoints.{SFrame, Point, Gives, Move, Exits, Now}
use Rattle.lua_loops.specs.LuaSlotsMoves.{moves}
use Rattle.lua_operators.specs.LuaSlotsEnact.{Funds, Enacted, Stands, Short, back, enact}
use Rattle.lua_strides.specs.LuaGoesGoing.{Reaches, here, further}
use Rattle.lua_strides.proofs.LuaInPlaceStatements.{free}
use Rattle.lua_loops.proofs.Beginning.{with_parts, with_parts_of}
use Rattle.lua_loops.proofs.Left.{left_slots}
use Rattle.lua_operators.specs.LuaStackDeclaredActivationActivation.{Activation}
use Rattle.lua_strides.specs.LuaStackDeclaredFocusFocus.{Focus}
use Rattle.lua_strides.specs.LuaStackDeclaredFrameFrame.{Frame}
use Rattle.lua_operators.specs.LuaStackDeclaredRegisterSlot.{Slot}
use Rattle.lua_operators.specs.LuaStackSeen.{focus_seen, frame_seen, frames_seen, registers_seen, activations_seen}
use Rattle.lua_operators.specs.LuaStackOf.{ActivationsOf, FocusOf, FrameOf, FramesOf, RegistersOf}
use Rattle.lua_strides.specs.LuaStateDeclaredStateState.{State}
use Rattle.lua_loops.specs.LuaStateCharges.{LeavesCall}
use Rattle.lua_loops.specs.LuaStateSeen.{slots_of, frames_of, funds_of}
use Rattle.lua_loops.specs.LuaStateOf.{StateOf}
use Rattle.lua_loops.specs.LuaStateWorlds.{world_seen}
use Rattle.lua_turns.specs.Rows.{Follows, IsNewest}
use Rattle.lua_turns.proofs.Following.{follows_free}

-- THE NEWEST of some frames, and those behind it
some-is : {A : Type 0} (a b : A) → Some a ≡ Some b → a ≡ b
some-is a b e = cc

pub newest_there : (fs : List Frame) (f : Frame) → Some f ≡ slice_get fs 0 → IsNewest fs f
newest_there [] f e = absurd (none-some f (sym e))
newest_there (g ∷ fs) f e = (fs, ap (λ (x : Frame). x ∷ fs) (sym (some-is f g e)))

pub dropped : (old new : List Frame) (f : Frame) (more : List Frame) → new ≡ drop (length old - (length old - 1)) old → old ≡ f ∷ more → new ≡ more
dropped old new f more e h =
    let one : length (f ∷ more) - (length (f ∷ more) - 1) ≡ 1 = omega arith in
    e ∙ ap (λ (x : List Frame). drop (length x - (length x - 1)) x) h ∙ ap (λ (n : ℕ). drop n (f ∷ more)) one

pub swapped_in : (old new : List Frame) (g f : Frame) (more : List Frame) → new ≡ slice_set old 0 g → old ≡ f ∷ more → new ≡ g ∷ more
swapped_in old new g f more e h = e ∙ ap (λ (x : List Frame). slice_set x 0 g) h

pub below_of : (s : StoreView) (all fs more : List Frame) (f : Frame) → all ≡ f ∷ more → fs ≡ more → FramesOf s all → FramesOf s fs
below_of s all fs more f e n h = subst (FramesOf s) (sym n) (subst (FramesOf s) e h).1

pub newest_of : (s : StoreView) (all more : List Frame) (f : Frame) → all ≡ f ∷ more → FramesOf s all → FrameOf s f
newest_of s all more f e h = (subst (FramesOf s) e h).0

-- the move of the newest frame
from_newest : (s : StoreView) (m : State) (o : Outcome (List Value) Jump) (f : Frame) (more : List Frame) (world : CWorld) (mv : Move) → m.frames ≡ f ∷ more
    → moves world (Gives o (frame_seen s.texts f ∷ frames_seen s.texts more)) (slots_of s m) ≡ mv → moves world (Gives o (frames_of s m)) (slots_of s m) ≡ mv
from_newest s m o f more world mv e h = ap (λ (x : List Frame). moves world (Gives o (frames_seen s.texts x)) (slots_of s m)) e ∙ h

-- IT WAITS NO MORE, and there may be other registers, in a store that may have grown by a cell
pub popped : (s u : StoreView) (m : State) (l : Left) (k : ℕ) (o : Outcome (List Value) Jump) (f : Frame) (more fs : List Frame) (regs : List Slot) (y : Focus) (z : Slots) → StateOf s m → IsLater s u → u.texts ≡ s.texts
    → m.frames ≡ f ∷ more → fs ≡ more → FramesOf u m.frames → RegistersOf u regs → ActivationsOf u m.functions → FocusOf u y
    → ((world : CWorld) (gs : List SFrame) → moves world (Gives o (frame_seen s.texts f ∷ gs)) (slots_of s m) ≡ Now (focus_seen u y gs) z) → z ≡ slots_of u (with_parts m fs regs m.functions)
    → Follows s m (Gives o (frames_of s m)) l k u (with_parts m fs regs m.functions) l k y
popped s u m l k o f more fs regs y z of later texts e n frames r a focus law held =
    follows_free s u m fs regs m.functions (Gives o (frames_of s m)) (focus_seen u y (frames_seen s.texts more)) z y of later l k (below_of u m.frames fs more f e n frames) r a focus
    (λ world. free world (Gives o (frames_of s m)) (slots_of s m) (focus_seen u y (frames_seen s.texts more)) z (from_newest s m o f more world (Now (focus_seen u y (frames_seen s.texts more)) z) e (law world (frames_seen s.texts more))))
    (ap (λ (x : List Frame). focus_seen u y (frames_seen s.texts x)) (sym n) ∙ ap (λ x. focus_seen u y (frames_seen x fs)) (sym texts)) held

-- the same at the same store
pub popped_here : (s : StoreView) (m : State) (l : Left) (k : ℕ) (o : Outcome (List Value) Jump) (f : Frame) (more fs : List Frame) (regs : List Slot) (y : Focus) (z : Slots) → StateOf s m
    → m.frames ≡ f ∷ more → fs ≡ more → RegistersOf s regs → FocusOf s y
    → ((world : CWorld) (gs : List SFrame) → moves world (Gives o (frame_seen s.texts f ∷ gs)) (slots_of s m) ≡ Now (focus_seen s y gs) z) → z ≡ slots_of s (with_parts m fs regs m.functions)
    → Follows s m (Gives o (frames_of s m)) l k s (with_parts m fs regs m.functions) l k y
popped_here s m l k o f more fs regs y z of e n r focus law held = popped s s m l k o f more fs regs y z of (later-itself s) refl e n of.frames r of.functions focus law held

-- ANOTHER FRAME WAITS in its place
pub swapped : (s : StoreView) (m : State) (l : Left) (k : ℕ) (o : Outcome (List Value) Jump) (f g : Frame) (more fs : List Frame) (y : Focus) → StateOf s m → m.frames ≡ f ∷ more → fs ≡ g ∷ more → FrameOf s g → FocusOf s y
    → ((world : CWorld) (gs : List SFrame) → moves world (Gives o (frame_seen s.texts f ∷ gs)) (slots_of s m) ≡ Now (focus_seen s y (frame_seen s.texts g ∷ gs)) (slots_of s m))
    → Follows s m (Gives o (frames_of s m)) l k s (with_parts m fs m.regs m.functions) l k y
swapped s m l k o f g more fs y of e n known focus law =
    follows_free s s m fs m.regs m.functions (Gives o (frames_of s m)) (focus_seen s y (frame_seen s.texts g ∷ frames_seen s.texts more)) (slots_of s m) y of (later-itself s) l k
    (subst (FramesOf s) (sym n) (known, (subst (FramesOf s) e of.frames).1)) of.regs of.functions focus
    (λ world. free world (Gives o (frames_of s m)) (slots_of s m) (focus_seen s y (frame_seen s.texts g ∷ frames_seen s.texts more)) (slots_of s m) (from_newest s m o f more world (Now (focus_seen s y (frame_seen s.texts g ∷ frames_seen s.texts more)) (slots_of s m)) e (law world (frames_seen s.texts more))))
    (ap (λ (x : List Frame). focus_seen s y (frames_seen s.texts x)) (sym n)) refl

pub swapped_of : (s : StoreView) (m : State) (f g : Frame) (more fs : List Frame) → StateOf s m → m.frames ≡ f ∷ more → fs ≡ g ∷ more → FrameOf s g → StateOf s (with_parts m fs m.regs m.functions)
swapped_of s m f g more fs of e n known = with_parts_of s m fs m.regs m.functions of (subst (FramesOf s) (sym n) (known, (subst (FramesOf s) e of.frames).1)) of.regs of.functions

-- the same, with other registers
pub below_with : (s : StoreView) (all fs more : List Frame) (f g : Frame) → all ≡ f ∷ more → fs ≡ g ∷ more → FramesOf s all → FrameOf s g → FramesOf s fs
below_with s all fs more f g e n h known = subst (FramesOf s) (sym n) (known, (subst (FramesOf s) e h).1)

pub swapped_at : (s : StoreView) (m : State) (l : Left) (k : ℕ) (o : Outcome (List Value) Jump) (f g : Frame) (more fs : List Frame) (regs : List Slot) (y : Focus) (z : Slots) → StateOf s m → m.frames ≡ f ∷ more → fs ≡ g ∷ more
    → FrameOf s g → RegistersOf s regs → FocusOf s y
    → ((world : CWorld) (gs : List SFrame) → moves world (Gives o (frame_seen s.texts f ∷ gs)) (slots_of s m) ≡ Now (focus_seen s y (frame_seen s.texts g ∷ gs)) z) → z ≡ slots_of s (with_parts m fs regs m.functions)
    → Follows s m (Gives o (frames_of s m)) l k s (with_parts m fs regs m.functions) l k y
swapped_at s m l k o f g more fs regs y z of e n known r focus law held =
    follows_free s s m fs regs m.functions (Gives o (frames_of s m)) (focus_seen s y (frame_seen s.texts g ∷ frames_seen s.texts more)) z y of (later-itself s) l k
    (below_with s m.frames fs more f g e n of.frames known) r of.functions focus
    (λ world. free world (Gives o (frames_of s m)) (slots_of s m) (focus_seen s y (frame_seen s.texts g ∷ frames_seen s.texts more)) z (from_newest s m o f more world (Now (focus_seen s y (frame_seen s.texts g ∷ frames_seen s.texts more)) z) e (law world (frames_seen s.texts more))))
    (ap (λ (x : List Frame). focus_seen s y (frames_seen s.texts x)) (sym n)) held

-- A FUNCTION IS LEFT: its registers, and its call
abbrev pub with_call : State → List Frame → List Slot → List Activation → ℕ → State
with_call m fs regs fns calls = record m { frames = fs; regs = regs; functions = fns; calls = calls }

with_call_of : (s : StoreView) (m : State) (fs : List Frame) (regs : List Slot) (fns : List Activation) (calls : ℕ) → StateOf s m → FramesOf s fs → RegistersOf s regs → ActivationsOf s fns → StateOf s (with_call m fs regs fns calls)
with_call_of s m fs regs fns calls h a b c = record { frames = a; regs = b; functions = c; env = h.env; modules = h.modules; loaded = h.loaded; scenes = h.scenes; codes = h.codes }

abbrev steps_there : Enacted → ℕ
steps_there (Stands p s f) = f.left.steps
steps_there (Short w f) = 0

steps_back : (n : ℕ) (f : Funds) → (back n f).left.steps ≡ f.left.steps
steps_back zero f = refl
steps_back (suc n) f = refl

left : (s : StoreView) (m m' : State) (l l' : Left) (k : ℕ) (o : Outcome (List Value) Jump) (f : Frame) (more fs : List Frame) (regs : List Slot) (fns : List Activation) (y : Focus) (z : Slots) → StateOf s m → l'.steps ≡ l.steps
    → m.frames ≡ f ∷ more → fs ≡ more → RegistersOf s regs → ActivationsOf s fns → FocusOf s y → LeavesCall (with_parts m fs regs fns) l m' l' → m' ≡ with_call m fs regs fns m'.calls
    → ((world : CWorld) (gs : List SFrame) → moves world (Gives o (frame_seen s.texts f ∷ gs)) (slots_of s m) ≡ Exits (Now (focus_seen s y gs) z)) → slots_of s (with_parts m fs regs fns) ≡ z
    → Follows s m (Gives o (frames_of s m)) l k s m' l' k y
left s m m' l l' k o f more fs regs fns y z of steps e n r a focus leaves same law held =
    let q : Point = focus_seen s y (frames_seen s.texts more) in
    let there : (w : State) → w ≡ with_call m fs regs fns m'.calls → focus_seen s y (frames_of s w) ≡ q = λ w i. ap (λ (x : State). focus_seen s y (frames_of s x)) i ∙ ap (λ (x : List Frame). focus_seen s y (frames_seen s.texts x)) n in
    record {
      state = subst (StateOf s) (sym same) (with_call_of s m fs regs fns m'.calls of (below_of s m.frames fs more f e n of.frames) r a);
      world = ap (λ (x : State). x.codes.world) same;
      of = focus;
      later = later-itself s;
      rises = omega arith;
      sinks = omega (arith, steps);
      led = λ told i j x.
          let w : CWorld = world_seen m.codes.world in
          let one : i ≡ j = omega (arith, x) in
          subst (λ (d : ℕ). Reaches w (Gives o (frames_of s m)) (slots_of s m) (funds_of l m told i) (focus_seen s y (frames_of s m')) (slots_of s m') (funds_of l' m' told d)) one
          (subst (λ (v : Slots). Reaches w (Gives o (frames_of s m)) (slots_of s m) (funds_of l m told i) (focus_seen s y (frames_of s m')) v (funds_of l' m' told i)) (sym (ap (slots_of s) same ∙ held))
          (subst (λ (v : Point). Reaches w (Gives o (frames_of s m)) (slots_of s m) (funds_of l m told i) v z (funds_of l' m' told i)) (sym (there m' same))
          (further (Gives o (frames_of s m)) (slots_of s m) (funds_of l m told i) q z (funds_of l' m' told i) here
          (ap (λ (mv : Move). enact mv (funds_of l m told i)) (from_newest s m o f more w (Exits (Now q z)) e (law w (frames_seen s.texts more))) ∙ leaves (Now q z) told i))));
    }

pub left_body : (s : StoreView) (m m' : State) (l l' : Left) (k : ℕ) (o : Outcome (List Value) Jump) (f : Frame) (more fs : List Frame) (regs : List Slot) (fns : List Activation) (y : Focus) → StateOf s m
    → m.frames ≡ f ∷ more → fs ≡ more → RegistersOf s regs → ActivationsOf s fns → FocusOf s y → LeavesCall (with_parts m fs regs fns) l m' l' → m' ≡ with_call m fs regs fns m'.calls
    → ((world : CWorld) (gs : List SFrame) → moves world (Gives o (frame_seen s.texts f ∷ gs)) (slots_of s m) ≡ Exits (Now (focus_seen s y gs) (left_function (slots_of s m))))
    → registers_seen s.texts regs ≡ cut_to (newest_function (activations_seen s m.functions)).base (registers_seen s.texts m.regs) → activations_seen s fns ≡ rest_of (activations_seen s m.functions)
    → Follows s m (Gives o (frames_of s m)) l k s m' l' k y
left_body s m m' l l' k o f more fs regs fns y of e n r a focus leaves same law kept gone =
    let steps : l'.steps ≡ l.steps = sym (ap steps_there (leaves (Now (focus_seen s y (frames_seen s.texts more)) (slots_of s m)) no_tally 0)) ∙ steps_back m.calls (funds_of l m no_tally 0) in
    left s m m' l l' k o f more fs regs fns y (left_function (slots_of s m)) of steps e n r a focus leaves same law (left_slots s m regs fns kept gone)

-- A FUNCTION OF THE LIBRARY is left: its call
pub left_library : (s : StoreView) (m m' : State) (l l' : Left) (k : ℕ) (o : Outcome (List Value) Jump) (f : Frame) (more fs : List Frame) (y : Focus) → StateOf s m → m.frames ≡ f ∷ more → fs ≡ more → FocusOf s y
    → LeavesCall (with_parts m fs m.regs m.functions) l m' l' → m' ≡ with_call m fs m.regs m.functions m'.calls
    → ((world : CWorld) (gs : List SFrame) → moves world (Gives o (frame_seen s.texts f ∷ gs)) (slots_of s m) ≡ Exits (Now (focus_seen s y gs) (slots_of s m))) → Follows s m (Gives o (frames_of s m)) l k s m' l' k y
left_library s m m' l l' k o f more fs y of e n focus leaves same law =
    let steps : l'.steps ≡ l.steps = sym (ap steps_there (leaves (Now (focus_seen s y (frames_seen s.texts more)) (slots_of s m)) no_tally 0)) ∙ steps_back m.calls (funds_of l m no_tally 0) in
    left s m m' l l' k o f more fs m.regs m.functions y (slots_of s m) of steps e n of.regs of.functions focus leaves same law refl

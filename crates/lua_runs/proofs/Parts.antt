-- How moves of a whole run are made of parts.
use Rattle.std.proofs.Common.{◌≡◌, ◌∙◌, Bool, true, false, refl, sym, ap, subst, ℕ, List, [], ◌∷◌}
use Rattle.page_run.specs.WkBaseDeclaredLeftLeft.{Left}
use Rattle.page_run.specs.declared.which.Which.TheVariants.{Steps}
use Rattle.lua_code.specs.LuaHeapValue as kind
use Rattle.lua_store.specs.declared.value.Value.TheVariants as own
use Rattle.lua_store.specs.declared.ids.TextId.{TextId}
use Rattle.lua_store.specs.Seen.{StoreView, text_at}
use Rattle.lua_store.specs.Parts.{IsLater, IsTextOf}
use Rattle.lua_store.proofs.Later.{later-itself}
use Rattle.lua_modules.specs.LuaSlotsErrors.{choose, gives, jumps}
use Rattle.lua_modules.specs.LuaSlotsSlots.{Slots}
use Rattle.lua_modules.specs.LuaSlotsPoints.{SFrame, Move, Costs, Now}
use Rattle.lua_code.specs.LuaSlotsEnact.{enact}
use Rattle.lua_code.specs.LuaMeaningActs as act
use Rattle.lua_modules.specs.LuaStackDeclaredFocusFocus.{Focus}
use Rattle.lua_modules.specs.LuaStackDeclaredFocusFocusTheVariants as focus
use Rattle.lua_modules.specs.LuaStackDeclaredFocusJumpTheVariants as jump
use Rattle.lua_modules.specs.LuaStackDeclaredValuesGivenTheVariants as given
use Rattle.lua_modules.specs.LuaStackDeclaredFrameFrame.{Frame}
use Rattle.lua_modules.specs.LuaStackSeen.{focus_seen}
use Rattle.lua_modules.specs.LuaStackOf.{FramesOf, FocusOf}
use Rattle.lua_modules.specs.LuaArmsDeclaredStepStep.{Step}
use Rattle.lua_modules.specs.LuaArmsSteps.{step_seen}
use Rattle.lua_modules.specs.LuaStateDeclaredStateState.{State}
use Rattle.lua_modules.specs.LuaStateDeclaredTurnTurn.{Turn}
use Rattle.lua_modules.specs.LuaStateDeclaredTurnTurnTheVariants as turn
use Rattle.lua_modules.specs.LuaStateSeen.{slots_of, frames_of, funds_of}
use Rattle.lua_modules.specs.LuaStateOf.{StateOf}
use Rattle.lua_modules.specs.LuaStateMakes.{IfSpent, Makes}
use Rattle.lua_modules.specs.LuaStateCharges.{Pays}
use Rattle.lua_modules.proofs.LuaStateStaying.{state_later, frames_stay, slots_same}
use Rattle.lua_modules.proofs.LuaStateMaking.{after, from_parts, stands, spends}

abbrev pub with_frames : State → List Frame → State
with_frames m fs = record m { frames = fs }

pub with_frames_of : (s : StoreView) (m : State) (fs : List Frame) → StateOf s m → FramesOf s fs → StateOf s (with_frames m fs)
with_frames_of s m fs h k = record { frames = k; regs = h.regs; functions = h.functions; env = h.env; modules = h.modules; loaded = h.loaded; scenes = h.scenes; codes = h.codes }

pub if_spent : (A : Type 0) (r : Turn) → A → IfSpent r A
if_spent A (turn.On focus) h = tt
if_spent A (turn.Spent which) h = h

-- WHAT IS NEXT is known, at the same store
pub on : (s : StoreView) (m : State) (l : Left) (f : Focus) → StateOf s m → FocusOf s f → Makes s m l s m l (Now (focus_seen s f (frames_of s m)) (slots_of s m)) (turn.On f)
on s m l f of focus = stands s s m m l (Now (focus_seen s f (frames_of s m)) (slots_of s m)) f of refl refl refl (later-itself s) focus refl

-- A TEXT was made first, and the move is the one that is made from there
pub over_text : (s u t : StoreView) (m m' : State) (l l' : Left) (r : Turn) (f : List SFrame → Slots → Move) → StateOf s m → IsLater s u → u.heap ≡ s.heap
    → Makes u m l t m' l' (f (frames_of u m) (slots_of u m)) r → Makes s m l t m' l' (f (frames_of s m) (slots_of s m)) r
over_text s u t m m' l l' r f of later same made =
    after s u t m m m' l l l' (f (frames_of s m) (slots_of s m)) (f (frames_of u m) (slots_of u m)) r refl later (if_spent (u.heap ≡ s.heap) r same)
    (λ told i.
    ap (λ (fs : List SFrame). enact (f fs (slots_of s m)) (funds_of l m told i)) (sym (frames_stay s u later m of))
    ∙ ap (λ (x : Slots). enact (f (frames_of u m) x) (funds_of l m told i)) (sym (slots_same s u later m of same))) made

-- A TEXT IS GIVEN, and one is raised
pub text_is_given : (s t : StoreView) (m : State) (l : Left) (texts : List (List ℕ)) (id : TextId) (bytes : List ℕ) → StateOf s m → IsLater s t → t ≡ record s { texts = texts } → IsTextOf t id → text_at t.texts id.at ≡ bytes
    → Makes s m l t m l (gives (kind.Text bytes ∷ []) (frames_of s m) (slots_of s m)) (turn.On (focus.Gives (given.One (own.Text id))))
text_is_given s t m l texts id bytes of later same there e =
    over_text s t t m m l l (turn.On (focus.Gives (given.One (own.Text id)))) (λ fs x. gives (kind.Text bytes ∷ []) fs x) of later (ap (λ (x : StoreView). x.heap) same)
    (subst (λ b. Makes t m l t m l (gives (kind.Text b ∷ []) (frames_of t m) (slots_of t m)) (turn.On (focus.Gives (given.One (own.Text id))))) e
    (on t m l (focus.Gives (given.One (own.Text id))) (state_later s t later m of) (there, tt)))

pub text_is_raised : (s t : StoreView) (m : State) (l : Left) (texts : List (List ℕ)) (id : TextId) (bytes : List ℕ) → StateOf s m → IsLater s t → t ≡ record s { texts = texts } → IsTextOf t id → text_at t.texts id.at ≡ bytes
    → Makes s m l t m l (jumps (act.Raised (kind.Text bytes)) (frames_of s m) (slots_of s m)) (turn.On (focus.Jumps (jump.Raised (own.Text id))))
text_is_raised s t m l texts id bytes of later same there e =
    over_text s t t m m l l (turn.On (focus.Jumps (jump.Raised (own.Text id)))) (λ fs x. jumps (act.Raised (kind.Text bytes)) fs x) of later (ap (λ (x : StoreView). x.heap) same)
    (subst (λ b. Makes t m l t m l (jumps (act.Raised (kind.Text b)) (frames_of t m) (slots_of t m)) (turn.On (focus.Jumps (jump.Raised (own.Text id))))) e
    (on t m l (focus.Jumps (jump.Raised (own.Text id))) (state_later s t later m of) there))

-- AN ARM THAT CHARGES NOTHING at the same store, above other frames, and its end
pub stepped : (s t : StoreView) (m : State) (fs : List Frame) (l l' : Left) (mv : Move) (st : Step) (r : Turn) → mv ≡ step_seen s st (frames_of s (with_frames m fs)) (slots_of s m)
    → Makes s (with_frames m fs) l t (with_frames m fs) l' (step_seen s st (frames_of s (with_frames m fs)) (slots_of s (with_frames m fs))) r → Makes s m l t (with_frames m fs) l' mv r
stepped s t m fs l l' mv st r e made = from_parts s t m (with_frames m fs) (with_frames m fs) l l' mv (step_seen s st (frames_of s (with_frames m fs)) (slots_of s m)) r refl refl refl e made

-- A TEXT is named first, and the move is the one of its name
pub named : (s u t : StoreView) (m m' : State) (l l' : Left) (r : Turn) (texts : List (List ℕ)) (id : ℕ) (bytes : List ℕ) (f : List ℕ → List SFrame → Slots → Move) → StateOf s m → IsLater s u
    → u ≡ record s { texts = texts } → text_at u.texts id ≡ bytes → Makes u m l t m' l' (f (text_at u.texts id) (frames_of u m) (slots_of u m)) r → Makes s m l t m' l' (f bytes (frames_of s m) (slots_of s m)) r
named s u t m m' l l' r texts id bytes f of later same there made =
    over_text s u t m m' l l' r (f bytes) of later (ap (λ (x : StoreView). x.heap) same)
    (subst (λ b. Makes u m l t m' l' (f b (frames_of u m) (slots_of u m)) r) there made)

-- STEPS were taken first, or are not there
pub costs : (s t : StoreView) (m m' : State) (l k l' : Left) (n : ℕ) (mv : Move) (r : Turn) → Pays n l k true → Makes s m k t m' l' mv r → Makes s m l t m' l' (Costs n mv) r
costs s t m m' l k l' n mv r pays made = after s s t m m m' l k l' (Costs n mv) mv r refl (later-itself s) (if_spent (s.heap ≡ s.heap) r refl) (λ told i. pays m mv told i) made

pub short : (s : StoreView) (m : State) (l k : Left) (n : ℕ) (mv : Move) → StateOf s m → Pays n l k false → Makes s m l s m k (Costs n mv) (turn.Spent Steps)
short s m l k n mv of pays = spends s s m l k (Costs n mv) Steps of (later-itself s) refl (λ told i. pays m mv told i)

-- A MOVE THAT IS CHOSEN by a test
pub chosen : (s t : StoreView) (m m' : State) (l l' : Left) (b : Bool) (mv nv : Move) (r : Turn) → true ≡ b → Makes s m l t m' l' mv r → Makes s m l t m' l' (choose b mv nv) r
chosen s t m m' l l' b mv nv r e made = subst (λ x. Makes s m l t m' l' (choose x mv nv) r) e made

pub other : (s t : StoreView) (m m' : State) (l l' : Left) (b : Bool) (mv nv : Move) (r : Turn) → false ≡ b → Makes s m l t m' l' nv r → Makes s m l t m' l' (choose b mv nv) r
other s t m m' l l' b mv nv r e made = subst (λ x. Makes s m l t m' l' (choose x mv nv) r) e made

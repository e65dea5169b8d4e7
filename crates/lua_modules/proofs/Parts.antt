-- How moves of modules are made of parts.
use Rattle.std.proofs.Common.{◌≡◌, ◌∙◌, Bool, true, false, refl, sym, ap, subst, ℕ, List}
use Rattle.page_run.specs.WkBaseDeclaredLeftLeft.{Left}
use Rattle.page_run.specs.declared.which.Which.TheVariants.{Steps}
use Rattle.lua_code.specs.LuaHeapValue as kind
use Rattle.lua_state.specs.LuaStoreDeclaredValueValueTheVariants as own
use Rattle.lua_state.specs.LuaStoreDeclaredIdsTextId.{TextId}
use Rattle.lua_state.specs.LuaStoreSeen.{StoreView, text_at}
use Rattle.lua_state.specs.LuaStoreParts.{IsLater, IsTextOf}
use Rattle.lua_state.proofs.LuaStoreLater.{later-itself}
use Rattle.lua_state.specs.LuaSlotsErrors.{choose, jumps}
use Rattle.lua_state.specs.LuaSlotsSlots.{Slots, with_heap}
use Rattle.lua_state.specs.LuaSlotsPoints.{SFrame, Move, Costs, Now}
use Rattle.lua_state.specs.LuaSlotsEnact.{enact}
use Rattle.lua_code.specs.LuaMeaningActs as act
use Rattle.lua_state.specs.LuaStackDeclaredFocusFocus.{Focus}
use Rattle.lua_state.specs.LuaStackDeclaredFocusFocusTheVariants as focus
use Rattle.lua_state.specs.LuaStackDeclaredFocusJumpTheVariants as jump
use Rattle.lua_state.specs.LuaStackDeclaredFrameFrame.{Frame}
use Rattle.lua_state.specs.LuaStackSeen.{focus_seen}
use Rattle.lua_state.specs.LuaStackOf.{FramesOf, FocusOf}
use Rattle.lua_state.specs.declared.state.State.{State}
use Rattle.lua_state.specs.declared.turn.Turn.{Turn}
use Rattle.lua_state.specs.declared.turn.Turn.TheVariants as turn
use Rattle.lua_state.specs.Seen.{slots_of, frames_of, funds_of}
use Rattle.lua_state.specs.Of.{StateOf}
use Rattle.lua_state.specs.Makes.{IfSpent, Makes}
use Rattle.lua_state.specs.Charges.{Pays}
use Rattle.lua_state.proofs.Staying.{state_later, frames_stay, slots_stay, slots_same}
use Rattle.lua_state.proofs.Making.{after, from_parts, stands, spends}

abbrev pub with_frames : State → List Frame → State
with_frames m fs = record m { frames = fs }

pub with_frames_of : (s : StoreView) (m : State) (fs : List Frame) → StateOf s m → FramesOf s fs → StateOf s (with_frames m fs)
with_frames_of s m fs h k = record { frames = k; regs = h.regs; functions = h.functions; env = h.env; modules = h.modules; loaded = h.loaded; scenes = h.scenes; codes = h.codes }

if_spent : (A : Type 0) (r : Turn) → A → IfSpent r A
if_spent A (turn.On focus) h = tt
if_spent A (turn.Spent which) h = h

-- WHAT IS NEXT is known, at the same store, with a state of the same calls
pub on_with : (s : StoreView) (m n : State) (l : Left) (mv : Move) (f : Focus) → StateOf s n → n.codes.world ≡ m.codes.world → n.calls ≡ m.calls → n.height ≡ m.height → FocusOf s f
    → mv ≡ Now (focus_seen s f (frames_of s n)) (slots_of s n) → Makes s m l s n l mv (turn.On f)
on_with s m n l mv f of w c h focus e = stands s s m n l mv f of w c h (later-itself s) focus e

pub on : (s : StoreView) (m : State) (l : Left) (f : Focus) → StateOf s m → FocusOf s f → Makes s m l s m l (Now (focus_seen s f (frames_of s m)) (slots_of s m)) (turn.On f)
on s m l f of focus = on_with s m m l (Now (focus_seen s f (frames_of s m)) (slots_of s m)) f of refl refl refl focus refl

-- and where the store's objects were changed
pub on_changed : (s t : StoreView) (m : State) (l : Left) (f : Focus) → StateOf s m → IsLater s t → FocusOf t f → Makes s m l t m l (Now (focus_seen t f (frames_of s m)) (with_heap t.heap (slots_of s m))) (turn.On f)
on_changed s t m l f of later focus =
    stands s t m m l (Now (focus_seen t f (frames_of s m)) (with_heap t.heap (slots_of s m))) f (state_later s t later m of) refl refl refl later focus
    (ap (λ (fs : List SFrame). Now (focus_seen t f fs) (with_heap t.heap (slots_of s m))) (sym (frames_stay s t later m of))
    ∙ ap (λ (x : Slots). Now (focus_seen t f (frames_of t m)) x) (sym (slots_stay s t later m of)))

-- A TEXT was made first, and the move is the one that is made from there
pub over_text : (s u t : StoreView) (m m' : State) (l l' : Left) (r : Turn) (f : List SFrame → Slots → Move) → StateOf s m → IsLater s u → u.heap ≡ s.heap
    → Makes u m l t m' l' (f (frames_of u m) (slots_of u m)) r → Makes s m l t m' l' (f (frames_of s m) (slots_of s m)) r
over_text s u t m m' l l' r f of later same made =
    after s u t m m m' l l l' (f (frames_of s m) (slots_of s m)) (f (frames_of u m) (slots_of u m)) r refl later (if_spent (u.heap ≡ s.heap) r same)
    (λ told i.
    ap (λ (fs : List SFrame). enact (f fs (slots_of s m)) (funds_of l m told i)) (sym (frames_stay s u later m of))
    ∙ ap (λ (x : Slots). enact (f (frames_of u m) x) (funds_of l m told i)) (sym (slots_same s u later m of same))) made

-- a text is named first, and the move is the one of its name
pub named : (s u t : StoreView) (m m' : State) (l l' : Left) (r : Turn) (texts : List (List ℕ)) (id : ℕ) (bytes : List ℕ) (f : List ℕ → List SFrame → Slots → Move) → StateOf s m → IsLater s u
    → u ≡ record s { texts = texts } → text_at u.texts id ≡ bytes → Makes u m l t m' l' (f (text_at u.texts id) (frames_of u m) (slots_of u m)) r → Makes s m l t m' l' (f bytes (frames_of s m) (slots_of s m)) r
named s u t m m' l l' r texts id bytes f of later same there made =
    over_text s u t m m' l l' r (f bytes) of later (ap (λ (x : StoreView). x.heap) same)
    (subst (λ b. Makes u m l t m' l' (f b (frames_of u m) (slots_of u m)) r) there made)

-- A TEXT IS RAISED
pub text_is_raised : (s t : StoreView) (m : State) (l : Left) (texts : List (List ℕ)) (id : TextId) (bytes : List ℕ) → StateOf s m → IsLater s t → t ≡ record s { texts = texts } → IsTextOf t id → text_at t.texts id.at ≡ bytes
    → Makes s m l t m l (jumps (act.Raised (kind.Text bytes)) (frames_of s m) (slots_of s m)) (turn.On (focus.Jumps (jump.Raised (own.Text id))))
text_is_raised s t m l texts id bytes of later same there e =
    named s t t m m l l (turn.On (focus.Jumps (jump.Raised (own.Text id)))) texts id.at bytes (λ b fs x. jumps (act.Raised (kind.Text b)) fs x) of later same e
    (on t m l (focus.Jumps (jump.Raised (own.Text id))) (state_later s t later m of) there)

-- PARTS OF THE STATE were changed alone, and the move is one that is made from there
pub from_changed : (s t : StoreView) (m n m' : State) (l l' : Left) (r : Turn) (f : List SFrame → Slots → Move) (fs : List SFrame) (x : Slots) → n.codes.world ≡ m.codes.world → n.calls ≡ m.calls → n.height ≡ m.height
    → frames_of s n ≡ fs → slots_of s n ≡ x → Makes s n l t m' l' (f (frames_of s n) (slots_of s n)) r → Makes s m l t m' l' (f fs x) r
from_changed s t m n m' l l' r f fs x w c h e q made =
    from_parts s t m n m' l l' (f fs x) (f (frames_of s n) (slots_of s n)) r w c h (ap (λ y. f y x) (sym e) ∙ ap (f (frames_of s n)) (sym q)) made

-- STEPS were taken first, or are not there
pub costs : (s t : StoreView) (m m' : State) (l k l' : Left) (n : ℕ) (mv : Move) (r : Turn) → Pays n l k true → Makes s m k t m' l' mv r → Makes s m l t m' l' (Costs n mv) r
costs s t m m' l k l' n mv r pays made = after s s t m m m' l k l' (Costs n mv) mv r refl (later-itself s) (if_spent (s.heap ≡ s.heap) r refl) (λ told i. pays m mv told i) made

pub short : (s : StoreView) (m : State) (l k : Left) (n : ℕ) (mv : Move) → StateOf s m → Pays n l k false → Makes s m l s m k (Costs n mv) (turn.Spent Steps)
short s m l k n mv of pays = spends s s m l k (Costs n mv) Steps of (later-itself s) refl (λ told i. pays m mv told i)

-- A MOVE THAT IS CHOSEN by a test
pub chosen : (s t : StoreView) (m m' : State) (l l' : Left) (b : Bool) (mv nv : Move) (r : Turn) → true ≡ b → Makes s m l t m' l' mv r → Makes s m l t m' l' (choose b mv nv) r
chosen s t m m' l l' b mv nv r e made = subst (λ x. Makes s m l t m' l' (choose x mv nv) r) e made

pub other : (s t : StoreView) (m m' : State) (l l' : Left) (b : Bool) (mv nv : Move) (r : Turn) → false ≡ b → Makes s m l t m' l' nv r → Makes s m l t m' l' (choose b mv nv) r
other s t m m' l l' b mv nv r e made = subst (λ x. Makes s m l t m' l' (choose x mv nv) r) e made

-- A CONSTANT of the running function's module was found first: the move is the one of its text.
use Rattle.std.proofs.Common.{◌≡◌, ◌∙◌, sym, ap, subst, ℕ, List, Option, Some, None, slice_get}
use Rattle.std.specs.Prelude.{IfSome}
use Rattle.mw_frames.specs.WkBaseDeclaredLeftLeft.{Left}
use Rattle.mw_frames.specs.LuaStoreDeclaredIdsTextId.{TextId}
use Rattle.mw_frames.specs.LuaStoreSeen.{StoreView, text_at}
use Rattle.mw_frames.specs.LuaStoreParts.{IsLater}
use Rattle.lua_arms.specs.LuaSlotsCalls.{code_of}
use Rattle.lua_goes.specs.LuaSlotsSlots.{Slots, Activation as Plain}
use Rattle.lua_goes.specs.LuaSlotsPoints.{SFrame, Move}
use Rattle.lua_code.specs.LuaSlotsEnact.{enact}
use Rattle.lua_arms.specs.LuaStackDeclaredActivationActivation.{Activation}
use Rattle.lua_state.specs.declared.codes.Codes.{Codes}
use Rattle.lua_state.specs.declared.state.State.{State}
use Rattle.lua_state.specs.declared.turn.Turn.{Turn}
use Rattle.lua_state.specs.declared.turn.Turn.TheVariants as turn
use Rattle.lua_state.specs.Seen.{slots_of, frames_of, funds_of}
use Rattle.lua_state.specs.Of.{StateOf, IsConstant}
use Rattle.lua_state.specs.Makes.{IfSpent, Makes}
use Rattle.lua_state.specs.Worlds.{world_seen, CodesOf, IsHeld}
use Rattle.lua_state.proofs.Staying.{frames_stay, slots_same}
use Rattle.lua_state.proofs.Making.{after}
use Rattle.lua_state.proofs.Newest.{found as running}

-- what is held changed
abbrev pub with_codes : State → Codes → State
with_codes m c = record m { codes = c }

pub with_codes_of : (s : StoreView) (m : State) (c : Codes) → StateOf s m → CodesOf s c → StateOf s (with_codes m c)
with_codes_of s m c h k = record { frames = h.frames; regs = h.regs; functions = h.functions; env = h.env; modules = h.modules; loaded = h.loaded; scenes = h.scenes; codes = k }

if_spent : (A : Type 0) (r : Turn) → A → IfSpent r A
if_spent A (turn.On focus) h = tt
if_spent A (turn.Spent which) h = h

module _ (s u t : StoreView) (m m' : State) (l l' : Left) (r : Turn) where
  over_codes : (c : Codes) (f : List SFrame → Slots → Move) → StateOf s m → IsLater s u → u.heap ≡ s.heap → c.world ≡ m.codes.world
      → Makes u (with_codes m c) l t m' l' (f (frames_of u (with_codes m c)) (slots_of u (with_codes m c))) r → Makes s m l t m' l' (f (frames_of s m) (slots_of s m)) r
  over_codes c f of later same world made =
      after s u t m (with_codes m c) m' l l l' (f (frames_of s m) (slots_of s m)) (f (frames_of u m) (slots_of u m)) r world later (if_spent (u.heap ≡ s.heap) r same)
      (λ told i.
      ap (λ (fs : List SFrame). enact (f fs (slots_of s m)) (funds_of l m told i)) (sym (frames_stay s u later m of))
      ∙ ap (λ (x : Slots). enact (f (frames_of u m) x) (funds_of l m told i)) (sym (slots_same s u later m of same))) made

  pub over_constant : (n : State) (id : ℕ) (bytes : List ℕ) (f : List ℕ → List SFrame → Slots → Move) → StateOf s m → IsLater s u → u.heap ≡ s.heap → n.codes.world ≡ m.codes.world → n ≡ with_codes m n.codes
      → text_at u.texts id ≡ bytes → Makes u n l t m' l' (f (text_at u.texts id) (frames_of u n) (slots_of u n)) r → Makes s m l t m' l' (f bytes (frames_of s m) (slots_of s m)) r
  over_constant n id bytes f of later same world kept there made =
      over_codes n.codes (f bytes) of later same world
      (subst (λ b. Makes u (with_codes m n.codes) l t m' l' (f b (frames_of u (with_codes m n.codes)) (slots_of u (with_codes m n.codes))) r) there
      (subst (λ x. Makes u x l t m' l' (f (text_at u.texts id) (frames_of u x) (slots_of u x)) r) kept made))

-- what is held of the newest function's module is a constant of the running function
pub of_newest : (s : StoreView) (m : State) (a : Activation) (number : ℕ) → Some a ≡ slice_get m.functions 0 → (found : Option TextId) → IfSome found (λ text. IsHeld (world_seen m.codes.world) s (record { source = a.source; number = number; text = text })) → IfSome found (IsConstant s m number)
of_newest s m a number e None h = tt
of_newest s m a number e (Some id) h = record {
  of = h.text_of;
  is = h.same ∙ ap (λ (x : Plain). (code_of ((world_seen m.codes.world).modules x.source)).constant number) (sym (running s m.functions a e));
}

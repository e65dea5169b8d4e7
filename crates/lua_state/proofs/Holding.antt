-- CONSTANTS THAT ARE HELD: each is one that was found, also where more are put in.
use Rattle.std.proofs.Common.{◌≡◌, ◌∙◌, ◌++◌, ap, subst, sym, ℕ, true, List, [], ◌∷◌, Option, Some, None, slice_get, slice_set}
use Rattle.std.specs.Prelude.{IfSome}
use Rattle.lua_code.specs.LuaSlotsCode.{CWorld}
use Rattle.lua_arms.specs.LuaSlotsCalls.{code_of}
use Rattle.mw_frames.specs.LuaStoreDeclaredIdsTextId.{TextId}
use Rattle.mw_frames.specs.LuaStoreContractsIdsTextIdPartialEqTheImpl.{ghosts as text_id}
use Rattle.mw_frames.specs.LuaStoreSeen.{StoreView, text_at}
use Rattle.mw_frames.specs.LuaStoreParts.{IsTextOf, IsLater}
use Rattle.mw_frames.proofs.LuaStoreLater.{text_of-later}
use Rattle.mw_frames.proofs.LuaStoreLists.{all-set, all-push, all-get}
use Rattle.lua_state.specs.declared.held.Held.{Held}
use Rattle.lua_state.specs.Worlds.{IsHeld, AreHeld}
use Rattle.lua_state.proofs.FoundCode.{same_id}

-- of a constant of these
abbrev pub held_of : TextId → ℕ → TextId → Held
held_of source number text = record { source = source; number = number; text = text }

pub is_one : (one : Held) (source : TextId) (number : ℕ) → text_id.eq one.source source ≡ true → one.number ≡ number → one ≡ held_of source number one.text
is_one one source number a b = ap (λ id. held_of id one.number one.text) (same_id one.source source a) ∙ ap (λ n. held_of source n one.text) b

module _ (w : CWorld) (s : StoreView) where
  pub at_place : (held : List (Option Held)) (at : ℕ) (one : Option Held) → Some one ≡ slice_get held at → AreHeld w s held → IfSome one (IsHeld w s)
  at_place held at one e all = all-get (λ place. IfSome place (IsHeld w s)) held at one all (sym e)

  pub of_constant : (one : Held) (source : TextId) (number : ℕ) (text : Option TextId) → IfSome text (λ t. one ≡ held_of source number t) → IsHeld w s one → IfSome text (λ t. IsHeld w s (held_of source number t))
  of_constant one source number None e h = tt
  of_constant one source number (Some t) e h = subst (IsHeld w s) e h

  pub one_more : (held : List (Option Held)) → AreHeld w s held → AreHeld w s (held ++ None ∷ [])
  one_more held all = all-push (λ place. IfSome place (IsHeld w s)) held None all tt

  pub another : (held : List (Option Held)) (at : ℕ) (one : Held) → AreHeld w s held → IsHeld w s one → AreHeld w s (slice_set held at (Some one))
  another held at one all h = all-set (λ place. IfSome place (IsHeld w s)) held at (Some one) all h

-- one that was just found in a module whose title was there before
pub just_found : (w : CWorld) (s t : StoreView) → IsLater s t → (source : TextId) (number : ℕ) (text : TextId) → IsTextOf s source → IsTextOf t text
    → text_at t.texts text.at ≡ (code_of (w.modules (text_at s.texts source.at))).constant number → IsHeld w t (held_of source number text)
just_found w s t l source number text of there same =
    record { of = text_of-later s t l source of; text_of = there; same = same ∙ sym (ap (λ title. (code_of (w.modules title)).constant number) (l.texts.same source.at of)) }

-- The running function is the newest one.
use Rattle.std.proofs.Common.{◌≡◌, List, [], ◌∷◌, Some, None, refl, sym, ap, subst, slice_get}
use Rattle.std.proofs.lemmas.Option.{none-some}
use Rattle.mw_frames.specs.LuaStoreSeen.{StoreView}
use Rattle.lua_goes.specs.LuaSlotsSlots.{newest_function, no_activation}
use Rattle.lua_arms.specs.LuaStackDeclaredActivationActivation.{Activation}
use Rattle.lua_arms.specs.LuaStackSeen.{activation_seen, activations_seen}
use Rattle.lua_arms.specs.LuaStackOf.{ActivationOf, ActivationsOf}

some-is : {A : Type 0} (a b : A) → Some a ≡ Some b → a ≡ b
some-is a b e = cc

pub found : (s : StoreView) (fs : List Activation) (a : Activation) → Some a ≡ slice_get fs 0 → newest_function (activations_seen s fs) ≡ activation_seen s a
found s [] a e = absurd (none-some a (sym e))
found s (c ∷ fs) a e = ap (activation_seen s) (sym (some-is a c e))

pub found_of : (s : StoreView) (fs : List Activation) (a : Activation) → Some a ≡ slice_get fs 0 → ActivationsOf s fs → ActivationOf s a
found_of s [] a e h = absurd (none-some a (sym e))
found_of s (c ∷ fs) a e h = subst (ActivationOf s) (sym (some-is a c e)) h.0

pub absent : (s : StoreView) (fs : List Activation) → None ≡ slice_get fs 0 → newest_function (activations_seen s fs) ≡ no_activation
absent s [] e = refl
absent s (c ∷ fs) e = absurd (none-some c e)

-- Whether a value has a handler for an event decides what is done.
use Rattle.std.proofs.Common.{◌≡◌, ◌∙◌, true, false, ap, subst, ℕ, List}
use Rattle.page_run.specs.WkBaseDeclaredLeftLeft.{Left}
use Rattle.lua_code.specs.LuaHeapValue.{Value as Plain, is_nil}
use Rattle.lua_code.specs.LuaMeaningMetatables.{handler}
use Rattle.lua_state.specs.LuaStoreDeclaredValueValue.{Value}
use Rattle.lua_state.specs.LuaStoreSeen.{StoreView, seen}
use Rattle.lua_state.specs.LuaSlotsErrors.{choose}
use Rattle.lua_state.specs.LuaSlotsPoints.{Move}
use Rattle.lua_state.specs.declared.state.State.{State}
use Rattle.lua_state.specs.declared.turn.Turn.{Turn}
use Rattle.lua_state.specs.Makes.{Makes}

-- `h` is the handler that was found for the event of this name, and w what the value is seen as
module _ (s t : StoreView) (m m' : State) (l l' : Left) (r : Turn) (h v : Value) (w : Plain) (name event : List ℕ) (g : Plain → Move) (a : Move) where
  by_handler : seen s.texts v ≡ w → seen s.texts h ≡ handler s.heap (seen s.texts v) name → name ≡ event
      → Makes s m l t m' l' (choose (is_nil (seen s.texts h)) a (g (seen s.texts h))) r → Makes s m l t m' l' (choose (is_nil (handler s.heap w event)) a (g (handler s.heap w event))) r
  by_handler q e n made = subst (λ (x : Plain). Makes s m l t m' l' (choose (is_nil x) a (g x)) r) (e ∙ ap (λ (x : Plain). handler s.heap x name) q ∙ ap (handler s.heap w) n) made

  pub without : seen s.texts v ≡ w → seen s.texts h ≡ handler s.heap (seen s.texts v) name → name ≡ event → true ≡ is_nil (seen s.texts h)
      → Makes s m l t m' l' a r → Makes s m l t m' l' (choose (is_nil (handler s.heap w event)) a (g (handler s.heap w event))) r
  without q e n b made = by_handler q e n (subst (λ x. Makes s m l t m' l' (choose x a (g (seen s.texts h))) r) b made)

  pub asked : seen s.texts v ≡ w → seen s.texts h ≡ handler s.heap (seen s.texts v) name → name ≡ event → false ≡ is_nil (seen s.texts h)
      → Makes s m l t m' l' (g (seen s.texts h)) r → Makes s m l t m' l' (choose (is_nil (handler s.heap w event)) a (g (handler s.heap w event))) r
  asked q e n b made = by_handler q e n (subst (λ x. Makes s m l t m' l' (choose x a (g (seen s.texts h))) r) b made)

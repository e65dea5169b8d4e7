-- The arguments of a function: the first of them, the second, and those behind the first.
use Rattle.std.proofs.Common.{◌≡◌, ◌∙◌, sym, ap, subst, List, [], ◌∷◌, ℕ}
use Rattle.page_run.specs.WkBaseDeclaredLeftLeft.{Left}
use Rattle.lua_code.specs.LuaHeapValue.{Value as Plain}
use Rattle.lua_code.specs.LuaMeaningValues.{first, rest, second}
use Rattle.lua_state.specs.LuaStoreDeclaredValueValue.{Value}
use Rattle.lua_state.specs.LuaStoreSeen.{StoreView, seen}
use Rattle.lua_state.specs.LuaSlotsPoints.{Move}
use Rattle.lua_state.specs.LuaStackLists.{first_stored, rest_stored}
use Rattle.lua_state.specs.LuaStackOf.{ValuesOf}
use Rattle.lua_state.specs.LuaStackSeen.{values_seen}
use Rattle.lua_state.proofs.LuaStackOpenings.{first_seen, rest_seen}
use Rattle.lua_state.specs.declared.state.State.{State}
use Rattle.lua_state.specs.declared.turn.Turn.{Turn}
use Rattle.lua_state.specs.Makes.{Makes}

pub rest_of : (s : StoreView) (vs rest : List Value) → rest ≡ rest_stored vs → ValuesOf s vs → ValuesOf s rest
rest_of s [] rest e h = subst (ValuesOf s) (sym e) tt
rest_of s (v ∷ vs) rest e h = subst (ValuesOf s) (sym e) h.1

pub seen_first : (texts : List (List ℕ)) (vs : List Value) (v : Value) → v ≡ first_stored vs → seen texts v ≡ first (values_seen texts vs)
seen_first texts vs v e = ap (seen texts) e ∙ first_seen texts vs

seen_rest : (texts : List (List ℕ)) (vs more : List Value) → more ≡ rest_stored vs → values_seen texts more ≡ rest (values_seen texts vs)
seen_rest texts vs more e = ap (values_seen texts) e ∙ rest_seen texts vs

-- a move that speaks of them
module _ (s t : StoreView) (m m' : State) (l l' : Left) (r : Turn) (vs : List Value) (v : Value) where
  pub with_first : (f : Plain → Move) → v ≡ first_stored vs → Makes s m l t m' l' (f (seen s.texts v)) r → Makes s m l t m' l' (f (first (values_seen s.texts vs))) r
  with_first f e made = subst (λ x. Makes s m l t m' l' (f x) r) (seen_first s.texts vs v e) made

  pub with_first_and_rest : (more : List Value) (f : Plain → List Plain → Move) → v ≡ first_stored vs → more ≡ rest_stored vs
      → Makes s m l t m' l' (f (seen s.texts v) (values_seen s.texts more)) r → Makes s m l t m' l' (f (first (values_seen s.texts vs)) (rest (values_seen s.texts vs))) r
  with_first_and_rest more f e q made =
      with_first (λ x. f x (rest (values_seen s.texts vs))) e (subst (λ xs. Makes s m l t m' l' (f (seen s.texts v) xs) r) (seen_rest s.texts vs more q) made)

  pub with_first_and_second : (more : List Value) (w : Value) (f : Plain → Plain → Move) → v ≡ first_stored vs → more ≡ rest_stored vs → w ≡ first_stored more
      → Makes s m l t m' l' (f (seen s.texts v) (seen s.texts w)) r → Makes s m l t m' l' (f (first (values_seen s.texts vs)) (second (values_seen s.texts vs))) r
  with_first_and_second more w f e q d made =
      with_first_and_rest more (λ x xs. f x (first xs)) e q (subst (λ x. Makes s m l t m' l' (f (seen s.texts v) x) r) (seen_first s.texts more w d) made)

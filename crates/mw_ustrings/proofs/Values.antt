-- Lists of values that grow, while the store grows.
use Rattle.std.proofs.Common.{◌≡◌, ◌∙◌, ap, sym, subst, ℕ, zero, suc, List, [], ◌∷◌, ◌++◌, append_assoc, drop}
use Rattle.mw_frame_texts.specs.LuaHeapValue as kind
use Rattle.mw_frame_texts.specs.LuaStoreDeclaredValueValue.{Value}
use Rattle.mw_frame_texts.specs.LuaStoreSeen.{StoreView, seen}
use Rattle.mw_frame_texts.specs.LuaStoreParts.{IsOf, IsLater}
use Rattle.mw_frame_texts.proofs.LuaStoreLists.{all-to, map-alike}
use Rattle.mw_frame_texts.proofs.LuaStoreLater.{of-later, seen-later}
use Rattle.mw_frame_texts.specs.LuaBasicSeen.{values_seen, AllOf}
use Rattle.mw_frame_texts.proofs.LuaBasicLists.{all-with, seen-with}

pub all_of_later : (s t : StoreView) (vs : List Value) → IsLater s t → AllOf s vs → AllOf t vs
all_of_later s t vs later all = all-to (IsOf s) (IsOf t) (of-later s t later) vs all

pub seen_as_before : (s t : StoreView) (vs : List Value) → IsLater s t → AllOf s vs → values_seen t.texts vs ≡ values_seen s.texts vs
seen_as_before s t vs later all = map-alike (IsOf s) (seen t.texts) (seen s.texts) (seen-later s t later) vs all

-- one more value, of the store as it is then
pub one_more_of : (s t : StoreView) (old new : List Value) (v : Value) → IsLater s t → AllOf s old → IsOf t v → new ≡ old ++ v ∷ [] → AllOf t new
one_more_of s t old new v later all of is = subst (AllOf t) (sym is) (all-with t old v (all_of_later s t old later all) of)

pub one_more_seen : (s t : StoreView) (old new : List Value) (v : Value) (w : kind.Value) (rest whole : List kind.Value) → IsLater s t → AllOf s old → new ≡ old ++ v ∷ [] → seen t.texts v ≡ w
    → values_seen s.texts old ++ (w ∷ rest) ≡ whole → values_seen t.texts new ++ rest ≡ whole
one_more_seen s t old new v w rest whole later all is value e =
    ap (λ vs. values_seen t.texts vs ++ rest) is
    ∙ ap (λ vs. vs ++ rest) (seen-with t.texts old v ∙ ap (λ vs. vs ++ seen t.texts v ∷ []) (seen_as_before s t old later all) ∙ ap (λ x. values_seen s.texts old ++ x ∷ []) value)
    ∙ append_assoc (values_seen s.texts old) (w ∷ []) rest ∙ e

-- in one store
pub one_more_now : (texts : List (List ℕ)) (old new : List Value) (v : Value) (w : kind.Value) (rest whole : List kind.Value) → new ≡ old ++ v ∷ [] → seen texts v ≡ w
    → values_seen texts old ++ (w ∷ rest) ≡ whole → values_seen texts new ++ rest ≡ whole
one_more_now texts old new v w rest whole is value e =
    ap (λ vs. values_seen texts vs ++ rest) is
    ∙ ap (λ vs. vs ++ rest) (seen-with texts old v ∙ ap (λ x. values_seen texts old ++ x ∷ []) value)
    ∙ append_assoc (values_seen texts old) (w ∷ []) rest ∙ e

pub all_drop : (s : StoreView) (n : ℕ) (vs : List Value) → AllOf s vs → AllOf s (drop n vs)
all_drop s zero vs all = all
all_drop s (suc n) [] all = tt
all_drop s (suc n) (v ∷ vs) all = all_drop s n vs all.1

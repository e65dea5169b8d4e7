-- Arguments of a frame, of which no two have one name.
use Rattle.std.proofs.Common.{◌≡◌, ℕ, Bool, true, false, cond, List, [], ◌∷◌, ◌++◌, Option, Some, None, refl, sym, ap, ◌∙◌, ◌≢◌}
use Rattle.std.specs.Prelude.{option_map, bytes_eq, is_some}
use Rattle.mw_frame.specs.declared.scene.Arg.{Arg}
use Rattle.expand_texts.specs.ExpandMeaningExpand.{put, found}
use Rattle.std.specs.Borrow.{Bor}
use Rattle.std.proofs.lemmas.Slice.Eq.{bytes_eq-Decides}
use Rattle.mw_frame.specs.Scenes.{Lacks, NamesDiffer}

-- ARGUMENTS: one whose name is not there comes behind the others
put_by : (name value : List ℕ) (a : Arg) (args : List Arg) (b : Bool) → bytes_eq name a.name ≡ b → found name (a ∷ args) ≡ None → (found name args ≡ None → put name value args ≡ args ++ record { name = name; value = value } ∷ []) → put name value (a ∷ args) ≡ (a ∷ args) ++ record { name = name; value = value } ∷ []
put_by name value a args true e n rest = let full : Some a.value ≡ None = ap (λ b. cond b (Some a.value) (found name args)) (sym e) ∙ n in absurd cc
put_by name value a args false e n rest =
    let none : found name args ≡ None = ap (λ b. cond b (Some a.value) (found name args)) (sym e) ∙ n in
    ap (λ b. cond b (record { name = a.name; value = value } ∷ args) (a ∷ put name value args)) e ∙ ap (λ xs. a ∷ xs) (rest none)

pub put_new : (name value : List ℕ) (args : List Arg) → found name args ≡ None → put name value args ≡ args ++ record { name = name; value = value } ∷ []
put_new name value [] n = refl
put_new name value (a ∷ args) n = put_by name value a args (bytes_eq name a.name) refl n (put_new name value args)

-- ONE MORE ARGUMENT whose name is not there
pub unfound : (o : Option (Bor (List ℕ))) (f : Option (List ℕ)) → option_map (λ (b : Bor (List ℕ)). b.now) o ≡ f → is_some o ≡ false → f ≡ None
unfound None f e h = sym e
unfound (Some b) f e h = absurd cc

other_name : (name : List ℕ) (b : Arg) (bs : List Arg) (v : Bool) → bytes_eq name b.name ≡ v → found name (b ∷ bs) ≡ None → (v ≡ false) × (found name bs ≡ None)
other_name name b bs true e n = let full : Some b.value ≡ None = ap (λ v. cond v (Some b.value) (found name bs)) (sym e) ∙ n in absurd cc
other_name name b bs false e n = (refl, ap (λ v. cond v (Some b.value) (found name bs)) (sym e) ∙ n)

differs : (name other : List ℕ) → bytes_eq name other ≡ false → other ≢ name
differs name other e same = let yes_it_is : bytes_eq name other ≡ true = (bytes_eq-Decides name other).1 (sym same) in absurd cc

lacks_behind : (name : List ℕ) (args : List Arg) (a : Arg) → name ≢ a.name → Lacks name args → Lacks name (args ++ a ∷ [])
lacks_behind name [] a n h = (n, tt)
lacks_behind name (b ∷ bs) a n h = (h.0, lacks_behind name bs a n h.1)

pub differ_behind : (args : List Arg) (a : Arg) → found a.name args ≡ None → NamesDiffer args → NamesDiffer (args ++ a ∷ [])
differ_behind [] a n h = (tt, tt)
differ_behind (b ∷ bs) a n h =
    let k = other_name a.name b bs (bytes_eq a.name b.name) refl n in
    (lacks_behind b.name bs a (differs a.name b.name k.0) h.0, differ_behind bs a k.1 h.1)

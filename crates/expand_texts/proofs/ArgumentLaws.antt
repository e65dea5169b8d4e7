-- Arguments in a map.
use Rattle.std.proofs.Common.{◌≡◌, ◌≢◌, ◌<◌, ℕ, zero, suc, length, take, get_or, ◌+◌, Bool, true, false, cond, ◌==◌, List, [], ◌∷◌, ◌++◌, map, Option, Some, refl, sym, subst, ap, ◌∙◌, bytes_eq, true≢false, arith}
use Rattle.std.specs.Cmp.Lexicographic.{pointwise, same_text}
use Rattle.std.specs.Map.{lookup}
use Rattle.std.specs.List.{slice_get}
use Rattle.indexmap.specs.IndexMap.{insert_entry}
use Rattle.mw_frame.specs.declared.scene.Arg.{Arg}
use Rattle.mw_frame.specs.Scenes.{Lacks, NamesDiffer}
use Rattle.expand_meaning.specs.Expand.{put, found}
use Rattle.expand_texts.specs.Entries.{arg_of}

found_by : (b : Bool) (v : List ℕ) (l r : Option (List ℕ)) → l ≡ r → cond b (Some v) l ≡ cond b (Some v) r
found_by true v l r e = refl
found_by false v l r e = e

pub found_is : (name : List ℕ) (es : List (List ℕ × List ℕ)) → lookup (pointwise ◌==◌ name) es ≡ found name (map arg_of es)
found_is name [] = refl
found_is name (e ∷ es) = found_by (bytes_eq name e.0) e.1 _ _ (found_is name es)

put_by : (b : Bool) (v : List ℕ) (e : List ℕ × List ℕ) (es : List (List ℕ × List ℕ)) (l : List (List ℕ × List ℕ)) (r : List Arg) → map arg_of l ≡ r → map arg_of (cond b ((e.0, v) ∷ es) (e ∷ l)) ≡ cond b (record { name = e.0; value = v } ∷ map arg_of es) (arg_of e ∷ r)
put_by true v e es l r h = refl
put_by false v e es l r h = ap (λ t. arg_of e ∷ t) h

pub put_is : (name value : List ℕ) (es : List (List ℕ × List ℕ)) → map arg_of (insert_entry (pointwise ◌==◌) es name value) ≡ put name value (map arg_of es)
put_is name value [] = refl
put_is name value (e ∷ es) = put_by (bytes_eq name e.0) value e es _ _ (put_is name value es)

lacks_by : (b : Bool) (x value : List ℕ) (a : Arg) (args more : List Arg) → Lacks x (a ∷ args) → Lacks x more → Lacks x (cond b (record { name = a.name; value = value } ∷ args) (a ∷ more))
lacks_by true x value a args more l m = l
lacks_by false x value a args more l m = (l.0, m)

lacks_put : (x name value : List ℕ) (args : List Arg) → x ≢ name → Lacks x args → Lacks x (put name value args)
lacks_put x name value [] h l = (h, tt)
lacks_put x name value (a ∷ args) h l = lacks_by (bytes_eq name a.name) x value a args (put name value args) l (lacks_put x name value args h l.1)

bytes_same : (xs : List ℕ) → bytes_eq xs xs ≡ true
bytes_same [] = refl
bytes_same (x ∷ xs) = grind (arith, bytes_same xs)

other_name : (name other : List ℕ) → bytes_eq name other ≡ false → other ≢ name
other_name name other h e = true≢false (sym (subst (λ (x : List ℕ). bytes_eq name x ≡ true) (sym e) (bytes_same name)) ∙ h)

differ_by : (b : Bool) (name value : List ℕ) (a : Arg) (args : List Arg) → bytes_eq name a.name ≡ b → NamesDiffer (a ∷ args) → NamesDiffer (put name value args) → NamesDiffer (cond b (record { name = a.name; value = value } ∷ args) (a ∷ put name value args))
differ_by true name value a args e d m = d
differ_by false name value a args e d m = (lacks_put a.name name value args (other_name name a.name e) d.0, m)

pub differ_put : (name value : List ℕ) (args : List Arg) → NamesDiffer args → NamesDiffer (put name value args)
differ_put name value [] d = (tt, tt)
differ_put name value (a ∷ args) d = differ_by (bytes_eq name a.name) name value a args refl d (differ_put name value args d.1)

lacks_at : (x : List ℕ) (args : List Arg) (i : ℕ) (d : Arg) → i < length args → Lacks x args → bytes_eq (get_or args i d).name x ≡ false
lacks_at x [] i d h l = absurd (omega arith)
lacks_at x (a ∷ args) zero d h l = differs (bytes_eq a.name x) refl
  where
    differs : (b : Bool) → bytes_eq a.name x ≡ b → bytes_eq a.name x ≡ false
    differs true e = absurd (l.0 (sym (same_text a.name x (sym e))))
    differs false e = e
lacks_at x (a ∷ args) (suc i) d h l = lacks_at x args i d (omega arith) l.1

-- an argument of a list whose names differ comes behind those before it
pub put_next : (args : List Arg) (i : ℕ) (d : Arg) → i < length args → NamesDiffer args → put (get_or args i d).name (get_or args i d).value (take i args) ≡ take i args ++ get_or args i d ∷ []
put_next [] i d h n = absurd (omega arith)
put_next (a ∷ args) zero d h n = refl
put_next (a ∷ args) (suc i) d h n =
    ap (λ b. cond b (record { name = a.name; value = (get_or args i d).value } ∷ take i args) (a ∷ put (get_or args i d).name (get_or args i d).value (take i args))) (lacks_at a.name args i d (omega arith) n.0)
    ∙ ap (λ t. a ∷ t) (put_next args i d (omega arith) n.1)

get_suc : {A : Type 0} (xs : List A) (i : ℕ) (x : A) → slice_get xs i ≡ Some x → take (suc i) xs ≡ take i xs ++ x ∷ []
get_suc [] zero x e = absurd cc
get_suc [] (suc i) x e = absurd cc
get_suc (y ∷ ys) zero x e = cc
get_suc (y ∷ ys) (suc i) x e = ap (λ t. y ∷ t) (get_suc ys i x e)

pub take_get : {A : Type 0} (xs : List A) (i : ℕ) (x : A) → slice_get xs i ≡ Some x → take (i + 1) xs ≡ take i xs ++ x ∷ []
take_get xs i x e =
    let s : i + 1 ≡ suc i = omega arith in
    ap (λ n. take n xs) s ∙ get_suc xs i x e

-- Strings that were counted: once more, as items with their bytes, and as values.
use Rattle.std.proofs.Common.{◌≡◌, ◌∙◌, ap, sym, subst, refl, arith, ℕ, zero, suc, ◌+◌, Bool, true, false, cond, List, [], ◌∷◌, ◌++◌, append_assoc, append-nil, map, take, replicate, Option, Some, None, slice_get, unwrap_or}
use Rattle.std.specs.List.{AllByRecursion}
use Rattle.std.specs.List.Sorted.{IsPermutation}
use Rattle.std.specs.Map.{lookup}
use Rattle.std.proofs.lemmas.Bool.{eqb-true}
use Rattle.std.proofs.lemmas.List.Sorted.{IsPermutation-refl, IsPermutation-trans, IsPermutation-sym, IsPermutation-middle, IsPermutation-append_left, IsPermutation-append_right, IsPermutation-append_comm}
use Rattle.indexmap.specs.IndexMap.{insert_entry}
use Rattle.lua_basic.specs.LuaHeapValue as kind
use Rattle.lua_basic.specs.LuaMeaningScope.{Bytes}
use Rattle.lua_basic.specs.LuaStoreContractsIdsTextIdPartialEqTheImpl.{ghosts}
use Rattle.lua_basic.specs.LuaStoreDeclaredIdsTextId.{TextId}
use Rattle.lua_basic.specs.LuaStoreDeclaredValueValue.{Value}
use Rattle.lua_basic.specs.LuaStoreDeclaredValueValueTheVariants.{Text}
use Rattle.lua_basic.specs.LuaStoreSeen.{StoreView, seen, text_at}
use Rattle.lua_basic.specs.LuaStoreParts.{IsOf, IsTextOf}
use Rattle.lua_basic.specs.Seen.{values_seen, AllOf}
use Rattle.lua_tables.specs.Kinds.{texts_in}
use Rattle.lua_tables.specs.Repeated.{repeated, counted_seen, spread, AreTextsOf, named_seen, named_values, IsNamedOf}
use Rattle.lua_tables.specs.declared.distinct.Named.{Named}
use Rattle.lua_tables.proofs.Orders.{texts-more}

-- ONE MORE
same_text_id : (a b : TextId) → ghosts.eq a b ≡ true → a ≡ b
same_text_id a b h = ap (λ n. let x : TextId = record { at = n } in x) (eqb-true a.at b.at h)

module _ (texts : List Bytes) (id : TextId) where
  added_at : (b : Bool) (e : TextId × ℕ) (es more : List (TextId × ℕ)) (n m : ℕ) → ghosts.eq id e.0 ≡ b → n ≡ unwrap_or (cond b (Some e.1) (lookup (ghosts.eq id) es)) 0 → m ≡ suc n
      → (n ≡ unwrap_or (lookup (ghosts.eq id) es) 0 → IsPermutation (text_at texts id.at ∷ spread texts es) (spread texts more))
      → IsPermutation (text_at texts id.at ∷ spread texts (e ∷ es)) (spread texts (cond b ((e.0, m) ∷ es) (e ∷ more)))
  added_at true e es more n m same was is rest =
      let x = text_at texts id.at in
      let count : m ≡ suc e.1 = is ∙ ap suc was in
      subst (λ k. IsPermutation (x ∷ spread texts (e ∷ es)) (spread texts ((e.0, k) ∷ es))) (sym count)
      (subst (λ (i : TextId). IsPermutation (text_at texts i.at ∷ spread texts (e ∷ es)) (spread texts ((e.0, suc e.1) ∷ es))) (sym (same_text_id id e.0 same)) (IsPermutation-refl (spread texts ((e.0, suc e.1) ∷ es))))
  added_at false e es more n m same was is rest =
      let x = text_at texts id.at in
      let front = replicate e.1 (text_at texts e.0.at) in
      IsPermutation-trans _ _ _ (IsPermutation-sym _ _ (IsPermutation-middle front x (spread texts es))) (IsPermutation-append_right front (x ∷ spread texts es) (spread texts more) (rest was))

  pub added : (es : List (TextId × ℕ)) (n m : ℕ) → n ≡ unwrap_or (lookup (ghosts.eq id) es) 0 → m ≡ suc n → IsPermutation (text_at texts id.at ∷ spread texts es) (spread texts (insert_entry ghosts.eq es id m))
  added [] n m was is =
      let one : m ≡ 1 = is ∙ ap suc was in
      subst (λ k. IsPermutation (text_at texts id.at ∷ []) (spread texts ((id, k) ∷ []))) (sym one) (IsPermutation-refl (text_at texts id.at ∷ []))
  added (e ∷ es) n m was is = added_at (ghosts.eq id e.0) e es (insert_entry ghosts.eq es id m) n m refl was is (λ w. added es n m w is)

texts_of_at : (s : StoreView) (b : Bool) (e : TextId × ℕ) (es more : List (TextId × ℕ)) (m : ℕ) → IsTextOf s e.0 → AreTextsOf s es → AreTextsOf s more → AreTextsOf s (cond b ((e.0, m) ∷ es) (e ∷ more))
texts_of_at s true e es more m h all rest = (h, all)
texts_of_at s false e es more m h all rest = (h, rest)

pub added_of : (s : StoreView) (id : TextId) (m : ℕ) (es : List (TextId × ℕ)) → IsTextOf s id → AreTextsOf s es → AreTextsOf s (insert_entry ghosts.eq es id m)
added_of s id m [] h all = (h, tt)
added_of s id m (e ∷ es) h all = texts_of_at s (ghosts.eq id e.0) e es (insert_entry ghosts.eq es id m) m all.0 all.1 (added_of s id m es h all.1)

-- a value behind those that were counted
pub counted-on : (texts : List Bytes) (v : Value) (rest more all : List Value) (old new : List (TextId × ℕ)) → rest ≡ v ∷ more → IsPermutation (texts_in (seen texts v ∷ []) ++ spread texts old) (spread texts new)
    → IsPermutation (texts_in (values_seen texts all)) (spread texts old ++ texts_in (values_seen texts rest)) → IsPermutation (texts_in (values_seen texts all)) (spread texts new ++ texts_in (values_seen texts more))
counted-on texts v rest more all old new is put h =
    let one = texts_in (seen texts v ∷ []) in
    let done = spread texts old in
    let tail = texts_in (values_seen texts more) in
    let split : spread texts old ++ texts_in (values_seen texts rest) ≡ (done ++ one) ++ tail =
    ap (λ vs. done ++ texts_in (values_seen texts vs)) is ∙ ap (λ xs. done ++ xs) (texts-more (seen texts v) (values_seen texts more)) ∙ sym (append_assoc done one tail) in
    IsPermutation-trans _ _ _ (subst (IsPermutation (texts_in (values_seen texts all))) split h)
    (IsPermutation-append_left tail (done ++ one) (spread texts new) (IsPermutation-trans _ _ _ (IsPermutation-append_comm done one) put))

-- AT A PLACE
pub of_at : (s : StoreView) (es : List (TextId × ℕ)) (i : ℕ) (e : TextId × ℕ) → AreTextsOf s es → slice_get es i ≡ Some e → IsTextOf s e.0
of_at s [] zero e all h = absurd cc
of_at s [] (suc i) e all h = absurd cc
of_at s (x ∷ es) zero e all h = let same : x ≡ e = cc in subst (λ (y : TextId × ℕ). IsTextOf s y.0) same all.0
of_at s (x ∷ es) (suc i) e all h = of_at s es i e all.1 h

pub seen_at : (texts : List Bytes) (es : List (TextId × ℕ)) (i : ℕ) (e : TextId × ℕ) → slice_get es i ≡ Some e → slice_get (map (counted_seen texts) es) i ≡ Some (counted_seen texts e)
seen_at texts [] zero e h = absurd cc
seen_at texts [] (suc i) e h = absurd cc
seen_at texts (x ∷ es) zero e h = let same : x ≡ e = cc in ap (λ (y : TextId × ℕ). Some (counted_seen texts y)) same
seen_at texts (x ∷ es) (suc i) e h = seen_at texts es i e h

get_suc : {A : Type 0} (xs : List A) (i : ℕ) (x : A) → slice_get xs i ≡ Some x → take (suc i) xs ≡ take i xs ++ x ∷ []
get_suc [] zero x e = absurd cc
get_suc [] (suc i) x e = absurd cc
get_suc (y ∷ ys) zero x e = cc
get_suc (y ∷ ys) (suc i) x e = ap (λ t. y ∷ t) (get_suc ys i x e)

pub take_get : {A : Type 0} (xs : List A) (i : ℕ) (x : A) → slice_get xs i ≡ Some x → take (i + 1) xs ≡ take i xs ++ x ∷ []
take_get xs i x e = let s : i + 1 ≡ suc i = omega arith in ap (λ n. take n xs) s ∙ get_suc xs i x e

pub map-with : {A B : Type 0} (f : A → B) (xs : List A) (x : A) → map f (xs ++ x ∷ []) ≡ map f xs ++ f x ∷ []
map-with f [] x = refl
map-with f (y ∷ xs) x = ap (λ ys. f y ∷ ys) (map-with f xs x)

pub named-with : (s : StoreView) (ns : List Named) (n : Named) → AllByRecursion (IsNamedOf s) ns → IsNamedOf s n → AllByRecursion (IsNamedOf s) (ns ++ n ∷ [])
named-with s [] n all h = (h, tt)
named-with s (m ∷ ns) n all h = (all.0, named-with s ns n all.1 h)

-- SO OFTEN
pub replicate-more : {A : Type 0} (n : ℕ) (x : A) → replicate n x ++ x ∷ [] ≡ replicate (n + 1) x
replicate-more zero x = refl
replicate-more (suc n) x = let next : suc n + 1 ≡ suc (n + 1) = omega arith in ap (λ xs. x ∷ xs) (replicate-more n x) ∙ sym (ap (λ k. replicate k x) next)

-- one item with its count behind the others
pub repeated-with : {A B : Type 0} (f : A → B × ℕ) (xs : List A) (x : A) → repeated (map f (xs ++ x ∷ [])) ≡ repeated (map f xs) ++ replicate (f x).1 (f x).0
repeated-with f [] x = append-nil (replicate (f x).1 (f x).0)
repeated-with f (y ∷ xs) x =
    let front = replicate (f y).1 (f y).0 in
    ap (λ zs. front ++ zs) (repeated-with f xs x) ∙ sym (append_assoc front (repeated (map f xs)) (replicate (f x).1 (f x).0))

-- AS VALUES
seen-times : (texts : List Bytes) (n : ℕ) (id : TextId) (vs : List Value) (bytes : Bytes) (xs : List Bytes) → bytes ≡ text_at texts id.at → values_seen texts vs ≡ map kind.Text xs
    → values_seen texts (replicate n (Text id) ++ vs) ≡ map kind.Text (replicate n bytes ++ xs)
seen-times texts zero id vs bytes xs is e = e
seen-times texts (suc n) id vs bytes xs is e =
    ap (λ b. kind.Text b ∷ values_seen texts (replicate n (Text id) ++ vs)) (sym is) ∙ ap (λ ys. kind.Text bytes ∷ ys) (seen-times texts n id vs bytes xs is e)

pub seen-repeated : (s : StoreView) (ns : List Named) → AllByRecursion (IsNamedOf s) ns → values_seen s.texts (repeated (map named_values ns)) ≡ map kind.Text (repeated (map named_seen ns))
seen-repeated s [] all = refl
seen-repeated s (n ∷ ns) all = seen-times s.texts n.count n.text (repeated (map named_values ns)) n.bytes.now (repeated (map named_seen ns)) all.0.1 (seen-repeated s ns all.1)

of-times : (s : StoreView) (n : ℕ) (id : TextId) (vs : List Value) → IsTextOf s id → AllOf s vs → AllOf s (replicate n (Text id) ++ vs)
of-times s zero id vs h all = all
of-times s (suc n) id vs h all = (h, of-times s n id vs h all)

pub of-repeated : (s : StoreView) (ns : List Named) → AllByRecursion (IsNamedOf s) ns → AllOf s (repeated (map named_values ns))
of-repeated s [] all = tt
of-repeated s (n ∷ ns) all = of-times s n.count n.text (repeated (map named_values ns)) all.0.0 (of-repeated s ns all.1)

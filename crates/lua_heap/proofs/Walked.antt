-- What is reached can be told: a search over the objects of a heap finds it. So it is the same as what steps lead to.
use Rattle.std.proofs.Common.{◌≡◌, ◌≢◌, ℕ, zero, suc, ◌<◌, Bool, true, false, List, [], ◌∷◌, ◌++◌, length, Some, IsTrue, refl, sym, subst, inl, inr, ◌⊎◌, arith, ◌||◌, ◌&&◌, slice_get}
use Rattle.std.specs.List.{Contains}
use Rattle.lua_heap.specs.Heap.{Heap, Ref, tab, cel, clo, mar, Obj, look}
use Rattle.lua_heap.specs.Reach.{AllIn}
use Rattle.lua_heap.proofs.Places.{of-some_back}
use Rattle.lua_heap.proofs.LookLaws.{same_ref}
use Rattle.lua_heap.proofs.Sets.{or-left, or-right, or-back}

-- IN A LIST
abbrev pub is_one : Ref → Ref → Bool
is_one p q = elim (same_ref p q) [ inl e ↦ true | inr d ↦ false ]

pub one-same : (p : Ref) → IsTrue (is_one p p)
one-same p = go (same_ref p p)
  where
    go : (c : (p ≡ p) ⊎ (p ≢ p)) → IsTrue (elim c [ inl e ↦ true | inr d ↦ false ])
    go (inl e) = refl
    go (inr d) = absurd (d refl)

pub one-back : (p q : Ref) → IsTrue (is_one p q) → p ≡ q
one-back p q h = go (same_ref p q) h
  where
    go : (c : (p ≡ q) ⊎ (p ≢ q)) → IsTrue (elim c [ inl e ↦ true | inr d ↦ false ]) → p ≡ q
    go (inl e) h = e
    go (inr d) h = cc

abbrev pub is_in : List Ref → Ref → Bool
is_in [] q = false
is_in (p ∷ ps) q = is_one p q || is_in ps q

pub in-contains : (ps : List Ref) (q : Ref) → IsTrue (is_in ps q) → Contains ps q
in-contains [] q h = cc
in-contains (p ∷ ps) q h = elim (or-back (is_one p q) (is_in ps q) h) [
  | inl e ↦ (0, omega arith, one-back p q e)
  | inr e ↦ let c = in-contains ps q e in (suc c.0, (let b : c.0 < length ps = c.1 in omega (arith, b)), c.2)
]

in-left : (ps qs : List Ref) (q : Ref) → IsTrue (is_in ps q) → IsTrue (is_in (ps ++ qs) q)
in-left [] qs q h = cc
in-left (p ∷ ps) qs q h = elim (or-back (is_one p q) (is_in ps q) h) [
  | inl e ↦ or-left (is_one p q) _ e
  | inr e ↦ or-right (is_one p q) _ (in-left ps qs q e)
]

in-right : (ps qs : List Ref) (q : Ref) → IsTrue (is_in qs q) → IsTrue (is_in (ps ++ qs) q)
in-right [] qs q h = h
in-right (p ∷ ps) qs q h = or-right (is_one p q) _ (in-right ps qs q h)

pub all-in : (ps : List Ref) → AllIn (is_in ps) ps
all-in ps = go ps (λ q h. h)
  where
    go : (qs : List Ref) → ((q : Ref) → IsTrue (is_in qs q) → IsTrue (is_in ps q)) → AllIn (is_in ps) qs
    go [] f = tt
    go (q ∷ qs) f = (f q (or-left (is_one q q) (is_in qs q) (one-same q)), go qs (λ r h. f r (or-right (is_one q r) (is_in qs r) h)))

-- ALL NAMES OF A HEAP
abbrev pub numbered : {A : Type 0} → (ℕ → Ref) → List A → List Ref
numbered f [] = []
numbered f (x ∷ xs) = f 0 ∷ numbered (λ n. f (suc n)) xs

numbered-in : {A : Type 0} (f : ℕ → Ref) (xs : List A) (n : ℕ) (x : A) → slice_get xs n ≡ Some x → IsTrue (is_in (numbered f xs) (f n))
numbered-in f [] n x e = cc
numbered-in f (y ∷ xs) zero x e = or-left (is_one (f 0) (f 0)) _ (one-same (f 0))
numbered-in f (y ∷ xs) (suc n) x e = or-right (is_one (f 0) (f (suc n))) _ (numbered-in (λ n. f (suc n)) xs n x e)

abbrev pub all_refs : {X : Type 0} → Heap X → List Ref
all_refs h = numbered tab h.tables ++ (numbered cel h.cells ++ (numbered clo h.closures ++ numbered mar h.markup))

pub in-all : {X : Type 0} (h : Heap X) (r : Ref) (a : Obj X) → look h r ≡ Some a → IsTrue (is_in (all_refs h) r)
in-all h (tab n) a e = let b = of-some_back _ (slice_get h.tables n) a e in in-left (numbered tab h.tables) _ (tab n) (numbered-in tab h.tables n b.0 b.1)
in-all h (cel n) a e = let b = of-some_back _ (slice_get h.cells n) a e in
    in-right (numbered tab h.tables) _ (cel n) (in-left (numbered cel h.cells) _ (cel n) (numbered-in cel h.cells n b.0 b.1))
in-all h (clo n) a e = let b = of-some_back _ (slice_get h.closures n) a e in
    in-right (numbered tab h.tables) _ (clo n) (in-right (numbered cel h.cells) _ (clo n) (in-left (numbered clo h.closures) _ (clo n) (numbered-in clo h.closures n b.0 b.1)))
in-all h (mar n) a e = let b = of-some_back _ (slice_get h.markup n) a e in
    in-right (numbered tab h.tables) _ (mar n) (in-right (numbered cel h.cells) _ (mar n) (in-right (numbered clo h.closures) _ (mar n) (numbered-in mar h.markup n b.0 b.1)))

pub and-split : (a b : Bool) → IsTrue (a && b) → IsTrue a × IsTrue b
and-split true b h = (refl, h)
and-split false b h = cc

pub and-both : (a b : Bool) → IsTrue a → IsTrue b → IsTrue (a && b)
and-both true b g h = h
and-both false b g h = cc

-- WAYS that go through the given names alone
module _ (edge : Ref → Ref → Bool) where
  abbrev pub way : List Ref → Ref → Ref → Bool
  way [] a b = is_one a b || edge a b
  way (v ∷ vs) a b = way vs a b || (way vs a v && way vs v b)

  way-edge : (vs : List Ref) (a b : Ref) → IsTrue (edge a b) → IsTrue (way vs a b)
  way-edge [] a b h = or-right (is_one a b) (edge a b) h
  way-edge (v ∷ vs) a b h = or-left (way vs a b) _ (way-edge vs a b h)

  pub way-same : (vs : List Ref) (a : Ref) → IsTrue (way vs a a)
  way-same [] a = or-left (is_one a a) (edge a a) (one-same a)
  way-same (v ∷ vs) a = or-left (way vs a a) _ (way-same vs a)

  -- a way to the first of the names needs none through it, and so does a way from it
  to-first : (v : Ref) (vs : List Ref) (a : Ref) → IsTrue (way (v ∷ vs) a v) → IsTrue (way vs a v)
  to-first v vs a h = elim (or-back (way vs a v) _ h) [ inl e ↦ e | inr e ↦ (and-split (way vs a v) _ e).0 ]

  from-first : (v : Ref) (vs : List Ref) (b : Ref) → IsTrue (way (v ∷ vs) v b) → IsTrue (way vs v b)
  from-first v vs b h = elim (or-back (way vs v b) _ h) [ inl e ↦ e | inr e ↦ (and-split (way vs v v) _ e).1 ]

  -- two ways that meet at one of the names are one way
  way-joined : (vs : List Ref) (v a b : Ref) → IsTrue (is_in vs v) → IsTrue (way vs a v) → IsTrue (way vs v b) → IsTrue (way vs a b)
  way-joined [] v a b i g h = cc
  way-joined (w ∷ ws) v a b i g h = elim (or-back (is_one w v) (is_in ws v) i) [
    | inl e ↦ through (to-first w ws a (subst (λ x. IsTrue (way (w ∷ ws) a x)) (sym (one-back w v e)) g)) (from-first w ws b (subst (λ x. IsTrue (way (w ∷ ws) x b)) (sym (one-back w v e)) h))
    | inr e ↦ elim (or-back (way ws a v) _ g) [
      | inl x ↦ elim (or-back (way ws v b) _ h) [
        | inl y ↦ or-left (way ws a b) _ (way-joined ws v a b e x y)
        | inr y ↦ let z = and-split (way ws v w) _ y in through (way-joined ws v a w e x z.0) z.1
      ]
      | inr x ↦ let u = and-split (way ws a w) _ x in elim (or-back (way ws v b) _ h) [
        | inl y ↦ through u.0 (way-joined ws v w b e u.1 y)
        | inr y ↦ let z = and-split (way ws v w) _ y in through u.0 z.1
      ]
    ]
  ]
    where
      through : IsTrue (way ws a w) → IsTrue (way ws w b) → IsTrue (way (w ∷ ws) a b)
      through x y = or-right (way ws a b) _ (and-both (way ws a w) (way ws w b) x y)

  -- whatever is kept by each edge is kept by a way
  pub way-keeps : (P : Ref → Type 0) → ((a b : Ref) → P a → IsTrue (edge a b) → P b) → (vs : List Ref) (a b : Ref) → P a → IsTrue (way vs a b) → P b
  way-keeps P f [] a b p h = elim (or-back (is_one a b) (edge a b) h) [ inl e ↦ subst P (one-back a b e) p | inr e ↦ f a b p e ]
  way-keeps P f (v ∷ vs) a b p h = elim (or-back (way vs a b) _ h) [
    | inl e ↦ way-keeps P f vs a b p e
    | inr e ↦ let s = and-split (way vs a v) _ e in way-keeps P f vs v b (way-keeps P f vs a v p s.0) s.1
  ]

  -- what ways lead to from the roots
  abbrev pub found : List Ref → List Ref → Ref → Bool
  found vs [] r = false
  found vs (q ∷ qs) r = way vs q r || found vs qs r

  pub found-root : (vs roots : List Ref) (q r : Ref) → IsTrue (is_in roots q) → IsTrue (way vs q r) → IsTrue (found vs roots r)
  found-root vs [] q r i h = cc
  found-root vs (p ∷ ps) q r i h = elim (or-back (is_one p q) (is_in ps q) i) [
    | inl e ↦ or-left (way vs p r) _ (subst (λ x. IsTrue (way vs x r)) (sym (one-back p q e)) h)
    | inr e ↦ or-right (way vs p r) _ (found-root vs ps q r e h)
  ]

  pub found-back : (vs roots : List Ref) (r : Ref) → IsTrue (found vs roots r) → (q : Ref) × IsTrue (is_in roots q) × IsTrue (way vs q r)
  found-back vs [] r h = cc
  found-back vs (p ∷ ps) r h = elim (or-back (way vs p r) _ h) [
    | inl e ↦ (p, or-left (is_one p p) _ (one-same p), e)
    | inr e ↦ let b = found-back vs ps r e in (b.0, or-right (is_one p b.0) _ b.1, b.2)
  ]

  pub found-step : (vs roots : List Ref) (q r : Ref) → IsTrue (is_in vs q) → IsTrue (found vs roots q) → IsTrue (edge q r) → IsTrue (found vs roots r)
  found-step vs roots q r i h e =
      let b = found-back vs roots q h in
      found-root vs roots b.0 r b.1 (way-joined vs q b.0 r i b.2 (way-edge vs q r e))

-- What is reached is what steps lead to; what is owned is what steps lead to that enter no read-only table; and each
-- object is owned or is not, so what isn't owned is outside of some own set.
use Rattle.std.proofs.Common.{◌≡◌, Bool, true, false, List, [], ◌∷◌, Option, Some, None, IsTrue, refl, sym, ◌∙◌, subst, inl, inr, ◌||◌, ◌&&◌, not, if◌then◌else◌}
use Rattle.lua_heap.specs.Heap.{Heap, Ref, Obj, look}
use Rattle.lua_heap.specs.Reach.{Set, AllIn, obj_names, shared_at, with_shared, Frame, IsClosed, IsReached, Leads, root, step, IsOwnSet, Own, OwnLeads, own_root, own_step}
use Rattle.lua_heap.proofs.Places.{some_back}
use Rattle.lua_heap.proofs.Names.{all-at, all-map}
use Rattle.lua_heap.proofs.Sets.{or-left, or-right, or-back, true-or-false}
use Rattle.lua_heap.proofs.Walked.{is_one, is_in, one-back, in-contains, all-in, all_refs, in-all, and-split, and-both, way-same, way-keeps, found, found-root, found-back, found-step}

module _ {X : Type 0} (names : X → List Ref) (s : Heap X) where
  abbrev names_of : Option (Obj X) → List Ref
  names_of None = []
  names_of (Some a) = obj_names names a

  abbrev edge : Ref → Ref → Bool
  edge q r = is_in (names_of (look s q)) r

  edge-at : (q r : Ref) (a : Obj X) → look s q ≡ Some a → IsTrue (is_in (obj_names names a) r) → IsTrue (edge q r)
  edge-at q r a e h = subst (λ o. IsTrue (is_in (names_of o) r)) (sym e) h

  edge-back : (q r : Ref) → IsTrue (edge q r) → (a : Obj X) × (look s q ≡ Some a) × IsTrue (is_in (obj_names names a) r)
  edge-back q r h = go (look s q) refl h
    where
      go : (o : Option (Obj X)) → look s q ≡ o → IsTrue (is_in (names_of o) r) → (a : Obj X) × (look s q ≡ Some a) × IsTrue (is_in (obj_names names a) r)
      go None e h = cc
      go (Some a) e h = (a, e, h)

  -- what a member of a closed set names is in the set
  named-in : (U : Set) → IsClosed names U s → (q r : Ref) → IsTrue (U q) → IsTrue (edge q r) → IsTrue (U r)
  named-in U c q r t h =
      let b = edge-back q r h in
      let v = c.there q t in
      all-at (λ x. IsTrue (U x)) (obj_names names b.0) r (subst (λ o. AllIn U (obj_names names o)) (some_back (sym v.1 ∙ b.1)) v.2) (in-contains _ r b.2)

  -- REACHED
  abbrev reach : List Ref → Set
  reach roots r = found edge (all_refs s) roots r

  reach-in : (U : Set) → IsClosed names U s → (roots : List Ref) → AllIn U roots → (r : Ref) → IsTrue (reach roots r) → IsTrue (U r)
  reach-in U c roots i r h =
      let b = found-back edge (all_refs s) roots r h in
      way-keeps edge (λ x. IsTrue (U x)) (named-in U c) (all_refs s) b.0 r (all-at (λ x. IsTrue (U x)) roots b.0 i (in-contains roots b.0 b.1)) b.2

  reach-roots : (roots : List Ref) → AllIn (reach roots) roots
  reach-roots roots = all-map (λ q. IsTrue (is_in roots q)) (λ q. IsTrue (reach roots q)) (λ q h. found-root edge (all_refs s) roots q q h (way-same edge (all_refs s) q)) roots (all-in roots)

  reach-closed : (U : Set) → IsClosed names U s → (roots : List Ref) → AllIn U roots → IsClosed names (reach roots) s
  reach-closed U c roots i = record {
    there = λ r h.
        let a = c.there r (reach-in U c roots i r h) in (
          a.0,
          a.1,
          all-map (λ q. IsTrue (is_in (obj_names names a.0) q)) (λ q. IsTrue (reach roots q)) (λ q g. found-step edge (all_refs s) roots r q (in-all s r a.0 a.1) h (edge-at r q a.0 a.1 g)) (obj_names names a.0) (all-in (obj_names names a.0)),
        );
  }

  reach-leads : (roots : List Ref) (r : Ref) → IsTrue (reach roots r) → Leads names s roots r
  reach-leads roots r h =
      let b = found-back edge (all_refs s) roots r h in
      way-keeps edge (Leads names s roots) (λ q x l e. let c = edge-back q x e in step q x c.0 l c.1 (in-contains _ x c.2)) (all_refs s) b.0 r (root b.0 (in-contains roots b.0 b.1)) b.2

  pub reached-leads : (roots : List Ref) (U : Set) → IsClosed names U s → AllIn U roots → (r : Ref) → IsReached names s roots r → Leads names s roots r
  reached-leads roots U c i r h = reach-leads roots r (h (reach roots) (reach-closed U c roots i) (reach-roots roots))

  -- OWNED
  abbrev own_edge : Ref → Ref → Bool
  own_edge q r = edge q r && not (shared_at s r)

  abbrev plain_of : List Ref → List Ref
  plain_of [] = []
  plain_of (r ∷ rs) = if shared_at s r then plain_of rs else (r ∷ plain_of rs)

  plain-in : (roots : List Ref) (q : Ref) → IsTrue (is_in roots q) → shared_at s q ≡ false → IsTrue (is_in (plain_of roots) q)
  plain-in [] q h n = cc
  plain-in (p ∷ ps) q h n = elim (or-back (is_one p q) (is_in ps q) h) [
    | inl e ↦ here (shared_at s p) (subst (λ x. shared_at s x ≡ false) (sym (one-back p q e)) n) e
    | inr e ↦ later (shared_at s p) (plain-in ps q e n)
  ]
    where
      here : (b : Bool) → b ≡ false → IsTrue (is_one p q) → IsTrue (is_in (if b then plain_of ps else (p ∷ plain_of ps)) q)
      here true e h = cc
      here false e h = or-left (is_one p q) _ h

      later : (b : Bool) → IsTrue (is_in (plain_of ps) q) → IsTrue (is_in (if b then plain_of ps else (p ∷ plain_of ps)) q)
      later true h = h
      later false h = or-right (is_one p q) _ h

  plain-back : (roots : List Ref) (q : Ref) → IsTrue (is_in (plain_of roots) q) → IsTrue (is_in roots q) × (shared_at s q ≡ false)
  plain-back [] q h = cc
  plain-back (p ∷ ps) q h = go (shared_at s p) refl (plain-back ps q) h
    where
      go : (b : Bool) → shared_at s p ≡ b → (IsTrue (is_in (plain_of ps) q) → IsTrue (is_in ps q) × (shared_at s q ≡ false))
          → IsTrue (is_in (if b then plain_of ps else (p ∷ plain_of ps)) q) → IsTrue (is_one p q || is_in ps q) × (shared_at s q ≡ false)
      go true e f h = let c = f h in (or-right (is_one p q) _ c.0, c.1)
      go false e f h = elim (or-back (is_one p q) _ h) [
        | inl g ↦ (or-left (is_one p q) _ g, subst (λ x. shared_at s x ≡ false) (one-back p q g) e)
        | inr g ↦ let c = f g in (or-right (is_one p q) _ c.0, c.1)
      ]

  not-back : (b : Bool) → IsTrue (not b) → b ≡ false
  not-back true h = cc
  not-back false h = refl

  not-true : (b : Bool) → b ≡ false → IsTrue (not b)
  not-true true h = cc
  not-true false h = refl

  own-edge_back : (q r : Ref) → IsTrue (own_edge q r) → IsTrue (edge q r) × (shared_at s r ≡ false)
  own-edge_back q r h = let c = and-split (edge q r) _ h in (c.0, not-back (shared_at s r) c.1)

  abbrev owned : List Ref → Set
  owned roots r = found own_edge (all_refs s) (plain_of roots) r

  in-own : (T : Set) (r : Ref) → IsTrue (with_shared T s r) → shared_at s r ≡ false → IsTrue (T r)
  in-own T r h n = elim (or-back (T r) (shared_at s r) h) [ inl y ↦ y | inr y ↦ go (shared_at s r) y n ]
    where
      go : (b : Bool) → IsTrue b → b ≡ false → IsTrue (T r)
      go b e f = cc

  -- what a member of an own set names, but for read-only tables, is in the set
  named-own : (T : Set) → IsOwnSet names T s → (q r : Ref) → IsTrue (T q) → IsTrue (own_edge q r) → IsTrue (T r)
  named-own T c q r t h =
      let e = own-edge_back q r h in
      let b = edge-back q r e.0 in
      let v = c.there q t in
      in-own T r (all-at (λ x. IsTrue (with_shared T s x)) (obj_names names b.0) r (subst (λ o. AllIn (with_shared T s) (obj_names names o)) (some_back (sym v.1 ∙ b.1)) v.3) (in-contains _ r b.2)) e.1

  owned-in : (T : Set) → IsOwnSet names T s → (roots : List Ref) → AllIn (with_shared T s) roots → (r : Ref) → IsTrue (owned roots r) → IsTrue (T r)
  owned-in T c roots i r h =
      let b = found-back own_edge (all_refs s) (plain_of roots) r h in
      let p = plain-back roots b.0 b.1 in
      way-keeps own_edge (λ x. IsTrue (T x)) (named-own T c) (all_refs s) b.0 r (in-own T b.0 (all-at (λ x. IsTrue (with_shared T s x)) roots b.0 i (in-contains roots b.0 p.0)) p.1) b.2

  owned-roots : (roots : List Ref) → AllIn (with_shared (owned roots) s) roots
  owned-roots roots = all-map (λ q. IsTrue (is_in roots q)) (λ q. IsTrue (with_shared (owned roots) s q)) at roots (all-in roots)
    where
      at : (q : Ref) → IsTrue (is_in roots q) → IsTrue (with_shared (owned roots) s q)
      at q h = elim (true-or-false (shared_at s q)) [
        | inl y ↦ or-right (owned roots q) _ y
        | inr n ↦ or-left (owned roots q) _ (found-root own_edge (all_refs s) (plain_of roots) q q (plain-in roots q h n) (way-same own_edge (all_refs s) q))
      ]

  owned-set : (T : Set) → IsOwnSet names T s → (roots : List Ref) → AllIn (with_shared T s) roots → IsOwnSet names (owned roots) s
  owned-set T c roots i = record {
    there = λ r h.
        let a = c.there r (owned-in T c roots i r h) in (
          a.0,
          a.1,
          a.2,
          all-map (λ q. IsTrue (is_in (obj_names names a.0) q)) (λ q. IsTrue (with_shared (owned roots) s q)) (at r h a.0 a.1) (obj_names names a.0) (all-in (obj_names names a.0)),
        );
  }
    where
      at : (r : Ref) → IsTrue (owned roots r) → (a : Obj X) → look s r ≡ Some a → (q : Ref) → IsTrue (is_in (obj_names names a) q) → IsTrue (with_shared (owned roots) s q)
      at r h a e q g = elim (true-or-false (shared_at s q)) [
        | inl y ↦ or-right (owned roots q) _ y
        | inr n ↦ or-left (owned roots q) _ (found-step own_edge (all_refs s) (plain_of roots) r q (in-all s r a e) h (and-both (edge r q) _ (edge-at r q a e g) (not-true (shared_at s q) n)))
      ]

  owned-leads_ : (roots : List Ref) (r : Ref) → IsTrue (owned roots r) → OwnLeads names s roots r
  owned-leads_ roots r h =
      let b = found-back own_edge (all_refs s) (plain_of roots) r h in
      let p = plain-back roots b.0 b.1 in
      way-keeps own_edge (OwnLeads names s roots) (λ q x l e. let d = own-edge_back q x e in let c = edge-back q x d.0 in own_step q x c.0 l c.1 (in-contains _ x c.2) d.1) (all_refs s) b.0 r
      (own_root b.0 (in-contains roots b.0 p.0) p.1) b.2

  pub owned-leads : (roots : List Ref) (T : Set) → IsOwnSet names T s → AllIn (with_shared T s) roots → (r : Ref) → Own names s roots r → OwnLeads names s roots r
  owned-leads roots T c i r h = owned-leads_ roots r (h (owned roots) (owned-set T c roots i) (owned-roots roots))

  -- the owned objects as a set, which is the least own set with the roots
  pub owned-set_is : (roots : List Ref) (T : Set) → IsOwnSet names T s → AllIn (with_shared T s) roots → (U : Set) × IsOwnSet names U s × AllIn (with_shared U s) roots × ((r : Ref) → IsTrue (U r) → OwnLeads names s roots r)
  owned-set_is roots T c i = (owned roots, owned-set T c roots i, owned-roots roots, owned-leads_ roots)

  -- WHAT ISN'T OWNED is as it was, after whatever is as it was outside of each own set with the roots
  pub unowned : (roots : List Ref) (T : Set) → IsOwnSet names T s → AllIn (with_shared T s) roots → (t : Heap X) → ((S : Set) → IsOwnSet names S s → AllIn (with_shared S s) roots → Frame S s t)
      → (r : Ref) (b : Obj X) → look s r ≡ Some b → (OwnLeads names s roots r → ⊥) → look t r ≡ Some b
  unowned roots T c i t f r b e n = elim (true-or-false (owned roots r)) [
    | inl h ↦ absurd (n (owned-leads_ roots r h))
    | inr h ↦ (f (owned roots) (owned-set T c roots i) (owned-roots roots)).others r b e h
  ]

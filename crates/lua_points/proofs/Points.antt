-- POINTS: where they may be seen, what a machine owns there, and two machines of one store.
use Rattle.std.proofs.Common.{◌≡◌, Bool, true, false, List, Some, IsTrue, refl, inl, inr}
use Rattle.page_run.specs.WkBaseDeclaredLeftLeft.{Left}
use Rattle.page_run.specs.State.{Reply}
use Rattle.lua_heap.specs.Proc.{Proc, proc_names}
use Rattle.lua_heap.specs.Heap.{Heap, Ref, Obj, look}
use Rattle.lua_heap.specs.Reach.{Set, AllIn, shared_at, with_shared, without_shared, image, IsClosed, IsOwnSet}
use Rattle.lua_heap.proofs.Places.{is-some}
use Rattle.lua_heap.proofs.Names.{all-map}
use Rattle.lua_heap.proofs.Sets.{or-left, or-right, with-back}
use Rattle.lua_heap.proofs.Frames.{neighbour, apart-new}
use Rattle.lua_heap.proofs.Reached.{without-back, own-closed}
use Rattle.lua_agree.specs.LuaMeaningQuestions.{Answer}
use Rattle.lua_agree.specs.LuaMeaningWorld.{World}
use Rattle.lua_agree.specs.LuaMeaningStart.{Work}
use Rattle.lua_goes.specs.LuaSlotsCode.{CWorld}
use Rattle.lua_goes.specs.LuaSlotsSlots.{Slots, with_heap}
use Rattle.lua_goes.specs.LuaSlotsPoints.{Point}
use Rattle.lua_goes.specs.LuaSlotsEnact.{Funds}
use Rattle.lua_agree.specs.Named.{roots}
use Rattle.lua_points.specs.At.{At}
use Rattle.lua_points.specs.Laws.{PointIsCut, PointHasImage, PointLooksAtSet, PointLooksAtOwn, NeighbourWaits, NeighboursStayApart, SetStaysThere}
use Rattle.lua_points.proofs.Standings.{and-split, standing-wider, standing-image, standing-cut, standing-frame, image-closed, image-inside, roots-image, own_part, standing-own}

module _ (code : CWorld) (S : Set) (world : World) (work : Work) (first : Left) (given : List (Reply Answer)) (point : Point) (s : Slots) (f : Funds) (a : At code S world work first given point s f) where
  pub at-wider : (T : Set) → ((r : Ref) → IsTrue (S r) → IsTrue (T r)) → At code T world work first given point s f
  at-wider T g = record { agrees = a.agrees; state = a.state; run = a.run; standing = standing-wider code a.state a.run point s S T g a.standing; means = a.means }

  pub at-image : At code (image a.standing.map) world work first given point s f
  at-image = record { agrees = a.agrees; state = a.state; run = a.run; standing = standing-image code a.state a.run point s S a.standing; means = a.means }

  pub at-cut : (T : Set) → IsClosed proc_names T s.heap → AllIn T (roots point s) → At code T world work first given point s f
  at-cut T c i = record { agrees = a.agrees; state = a.state; run = a.run; standing = standing-cut code a.state a.run point s S a.standing T c i; means = a.means }

  pub at-frame : (t : Heap Proc) → ((r : Ref) (o : Obj Proc) → IsTrue (S r) → look s.heap r ≡ Some o → look t r ≡ Some o) → At code S world work first given point (with_heap t s) f
  at-frame t g = record { agrees = a.agrees; state = a.state; run = a.run; standing = standing-frame code a.state a.run point s S a.standing t g; means = a.means }

  pub own_of : Set → Set
  own_of T = own_part code a.state a.run point s S a.standing T

  pub at-own : (T : Set) → IsOwnSet proc_names T s.heap → AllIn (with_shared T s.heap) (roots point s) → At code (own_of T) world work first given point s f
  unfolding own_of
  at-own T c i = record { agrees = a.agrees; state = a.state; run = a.run; standing = standing-own code a.state a.run point s S a.standing T c i; means = a.means }

  pub own-inside : (T : Set) (r : Ref) → IsTrue (own_of T r) → IsTrue (with_shared T s.heap r)
  unfolding own_of
  own-inside T r e = (and-split (image a.standing.map r) (with_shared T s.heap r) e).1

pub point_is_cut : PointIsCut
point_is_cut code S T world work first given point s f a c i = at-cut code S world work first given point s f a T c i

pub point_has_image : PointHasImage
point_has_image code S world work first given point s f a = (
  image a.standing.map,
  image-inside code a.state a.run point s S a.standing,
  image-closed code a.state a.run point s S a.standing,
  roots-image code a.state a.run point s S a.standing,
  at-image code S world work first given point s f a,
)

pub point_looks_at_set : PointLooksAtSet
point_looks_at_set code S world work first given point s f t a g = at-frame code S world work first given point s f a t g

pub point_looks_at_own : PointLooksAtOwn
point_looks_at_own code S T world work first given point s f t a c i g =
    let b = at-own code S world work first given point s f a T c i in
    let d = at-wider code _ world work first given point s f b (with_shared T s.heap) (own-inside code S world work first given point s f a T) in
    at-frame code (with_shared T s.heap) world work first given point s f d t g

-- a closed set without its read-only tables is an own set, and has with them what it had
pub without-at : (T : Set) (s : Heap Proc) (r : Ref) → IsTrue (T r) → IsTrue (with_shared (without_shared T s) s r)
without-at T s r h = go (shared_at s r) refl
  where
    go : (b : Bool) → shared_at s r ≡ b → IsTrue (with_shared (without_shared T s) s r)
    go true e = or-right _ (shared_at s r) e
    go false e = or-left _ (shared_at s r) (rw e h)

pub without-all : (T : Set) (s : Heap Proc) (refs : List Ref) → AllIn T refs → AllIn (with_shared (without_shared T s) s) refs
without-all T s refs i = all-map (λ x. IsTrue (T x)) (λ x. IsTrue (with_shared (without_shared T s) s x)) (without-at T s) refs i

-- the image without its read-only tables is an own set with the roots
module _ (code : CWorld) (S : Set) (world : World) (work : Work) (first : Left) (given : List (Reply Answer)) (point : Point) (s : Slots) (f : Funds) (a : At code S world work first given point s f) where
  pub plain_image : Set
  plain_image = without_shared (image a.standing.map) s.heap

  pub plain-own : IsOwnSet proc_names plain_image s.heap
  unfolding plain_image
  plain-own = own-closed proc_names (image a.standing.map) s.heap (image-closed code a.state a.run point s S a.standing)

  pub plain-roots : AllIn (with_shared plain_image s.heap) (roots point s)
  unfolding plain_image
  plain-roots = without-all (image a.standing.map) s.heap (roots point s) (roots-image code a.state a.run point s S a.standing)

  pub plain-back : (r : Ref) → IsTrue (plain_image r) → IsTrue (S r) × (shared_at s.heap r ≡ false)
  unfolding plain_image
  plain-back r e = let b = without-back proc_names (image a.standing.map) s.heap r e in (image-inside code a.state a.run point s S a.standing r b.0, b.1)

-- NEIGHBOURS
pub neighbour_waits : NeighbourWaits
neighbour_waits code S T world work first given point s f t meet fr a = at-frame code T world work first given point s f a t (λ r o h e. neighbour S T s.heap t meet fr r o h e)

pub neighbours_stay_apart : NeighboursStayApart
neighbours_stay_apart S T s t f meet there = (apart-new S T s t meet f there, λ r h. let v = there r h in f.lives r v.0 v.1)

pub set_stays_there : SetStaysThere
set_stays_there S s t f there r h = elim (with-back S s t r h) [ inl x ↦ let v = there r x in f.lives r v.0 v.1 | inr x ↦ is-some (look t r) x.1 ]

-- CALLS: each is met by the run; and what they leave alone and reach.
use Rattle.std.proofs.Common.{◌≡◌, [], Some, IsTrue, refl, subst, inl, inr}
use Rattle.lua_heap.specs.Proc.{Proc, proc_names}
use Rattle.lua_heap.specs.Heap.{Heap, Ref, Obj, look}
use Rattle.lua_heap.specs.Reach.{Set, nowhere, shared_at, with_shared, Own, with_new}
use Rattle.lua_heap.proofs.Places.{clash}
use Rattle.lua_heap.proofs.Sets.{or-back, with-back, shared-is, shared-back}
use Rattle.lua_heap.proofs.Frames.{frame-wider, frame-own}
use Rattle.lua_heap.proofs.ReachLaws.{unowned_stays}
use Rattle.lua_goes.specs.LuaSlotsCode.{CWorld}
use Rattle.lua_goes.specs.LuaSlotsSlots.{Slots}
use Rattle.lua_goes.specs.LuaSlotsPoints.{Point, Gives, Asking}
use Rattle.lua_goes.specs.LuaSlotsEnact.{Funds}
use Rattle.lua_goes.specs.Going.{Stop, Over, Lacks, Waiting, heap_at}
use Rattle.lua_agree.specs.Named.{roots}
use Rattle.lua_points.specs.At.{At, Gone, IsAt}
use Rattle.lua_points.specs.Laws.{CallIsMet, OthersStay, UnownedStays, roots_at, ReachStays}
use Rattle.lua_points.proofs.Standings.{apart}
use Rattle.lua_points.proofs.Goings.{gone}
use Rattle.lua_points.proofs.Points.{at-own, own_of, own-inside, plain_image, plain-own, plain-roots, plain-back}

pub call_is_met : CallIsMet
call_is_met code S world work first given point s f a e c = gone code S world work first given point s f a e c

-- OTHERS: what isn't in an own set with the roots
pub others_stay : OthersStay
others_stay code point s f a e c T own i =
    let b = at-own code a.within a.world a.work a.first a.given point s f a.at T own i in
    let g = gone code _ a.world a.work a.first a.given point s f b e c in
    frame-own T s.heap (heap_at e) (frame-wider _ (with_shared T s.heap) s.heap (heap_at e) (own-inside code a.within a.world a.work a.first a.given point s f a.at T) g.frame)

pub unowned_stays_ : UnownedStays
unowned_stays_ code point s f a e c r b l n =
    unowned_stays proc_names s.heap (roots point s) (plain_image code a.within a.world a.work a.first a.given point s f a.at)
    (plain-own code a.within a.world a.work a.first a.given point s f a.at) (plain-roots code a.within a.world a.work a.first a.given point s f a.at) (heap_at e)
    (λ T own i. others_stay code point s f a e c T own i) r b l n

-- REACH: what is owned where the machine stands afterwards, and was there, is in each own set that had the roots
module _ (code : CWorld) (point : Point) (s : Slots) (f : Funds) (a : IsAt code point s f) (r : Ref) (b : Obj Proc) (l : look s.heap r ≡ Some b) (T : Set) where
  abbrev mine : Set
  mine = own_of code a.within a.world a.work a.first a.given point s f a.at T

  at-point : (q : Point) (u : Slots) (g : Funds) (e : Stop) → heap_at e ≡ u.heap → Gone code mine a.world a.work a.first a.given s.heap e → At code (with_new mine s.heap u.heap) a.world a.work a.first a.given q u g
      → Own proc_names u.heap (roots q u) r → IsTrue (T r)
  at-point q u g e h w at own =
      let k = own (plain_image code _ a.world a.work a.first a.given q u g at) (plain-own code _ a.world a.work a.first a.given q u g at) (plain-roots code _ a.world a.work a.first a.given q u g at) in
      let p = plain-back code _ a.world a.work a.first a.given q u g at r k in
      elim (with-back mine s.heap u.heap r p.0) [
        | inl x ↦ elim (or-back (T r) (shared_at s.heap r) (own-inside code a.within a.world a.work a.first a.given point s f a.at T r x)) [
          | inl y ↦ y
          | inr y ↦ let v = shared-back s.heap r y in apart (shared_at u.heap r) (shared-is u.heap r v.0 (subst (λ (t : Heap Proc). look t r ≡ Some v.0) h (w.frame.shared r v.0 v.1 v.2)) v.2) p.1
        ]
        | inr x ↦ clash l x.0
      ]

  reaches : (e : Stop) → Gone code mine a.world a.work a.first a.given s.heap e → Own proc_names (heap_at e) (roots_at e) r → IsTrue (T r)
  reaches (Lacks w t g) went own = let k : IsTrue (nowhere r) = own nowhere (record { there = λ q h. apart (nowhere q) h refl }) tt in apart (nowhere r) k refl
  reaches (Over o u g) went own = at-point (Gives o []) u g _ refl went went.event own
  reaches (Waiting q fs u g) went own = at-point (Asking q fs) u g _ refl went went.event own

pub reach_stays : ReachStays
reach_stays code point s f a e c r b l own T o i =
    let d = at-own code a.within a.world a.work a.first a.given point s f a.at T o i in
    reaches code point s f a r b l T e (gone code _ a.world a.work a.first a.given point s f d e c) own

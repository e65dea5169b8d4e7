-- WHAT IS REACHED AND WHAT IS OWNED, in two ways each: as what is in every set of a kind, and as what steps lead to.
use Rattle.std.specs.Prelude.{◌≡◌, false, List, Some, IsTrue}
use Rattle.lua_heap.specs.Heap.{Heap, Ref, Obj, look}
use Rattle.lua_heap.specs.Reach.{Set, AllIn, shared_at, with_shared, without_shared, Frame, IsClosed, IsReached, Leads, IsOwnSet, Own, OwnLeads, IsDeep}

module _ (X : Type 0) where
  -- where there is a closed set with the roots, or an own set with them, the two ways say the same
  abbrev pub LedIsReached : Type 0
  LedIsReached = (names : X → List Ref) (s : Heap X) (roots : List Ref) (r : Ref) → Leads names s roots r → IsReached names s roots r

  abbrev pub ReachedIsLed : Type 0
  ReachedIsLed = (names : X → List Ref) (s : Heap X) (roots : List Ref) (S : Set) → IsClosed names S s → AllIn S roots → (r : Ref) → IsReached names s roots r → Leads names s roots r

  abbrev pub OwnLedIsOwned : Type 0
  OwnLedIsOwned = (names : X → List Ref) (s : Heap X) (roots : List Ref) (r : Ref) → OwnLeads names s roots r → Own names s roots r

  abbrev pub OwnedIsLed : Type 0
  OwnedIsLed = (names : X → List Ref) (s : Heap X) (roots : List Ref) (S : Set) → IsOwnSet names S s → AllIn (with_shared S s) roots → (r : Ref) → Own names s roots r → OwnLeads names s roots r

  -- what is owned is a set that can be tested, the least own set with the roots
  abbrev pub OwnIsASet : Type 0
  OwnIsASet = (names : X → List Ref) (s : Heap X) (roots : List Ref) (S : Set) → IsOwnSet names S s → AllIn (with_shared S s) roots
      → (T : Set) × IsOwnSet names T s × AllIn (with_shared T s) roots × ((r : Ref) → IsTrue (T r) → Own names s roots r)

  -- what is owned is reached, and is no read-only table
  abbrev pub OwnedIsReached : Type 0
  OwnedIsReached = (names : X → List Ref) (s : Heap X) (roots : List Ref) (r : Ref) → Own names s roots r → IsReached names s roots r

  abbrev pub OwnedIsNotShared : Type 0
  OwnedIsNotShared = (names : X → List Ref) (s : Heap X) (roots : List Ref) (r : Ref) → Own names s roots r → (S : Set) → IsOwnSet names S s → AllIn (with_shared S s) roots → shared_at s r ≡ false

  -- where read-only tables name only such, whatever else is reached is owned
  abbrev pub ReachedIsOwned : Type 0
  ReachedIsOwned = (names : X → List Ref) (s : Heap X) (roots : List Ref) (r : Ref) → IsDeep names s → IsReached names s roots r → shared_at s r ≡ false → Own names s roots r

  -- and an own set with the read-only tables is closed
  abbrev pub OwnSetsClose : Type 0
  OwnSetsClose = (names : X → List Ref) (S : Set) (s : Heap X) → IsDeep names s → IsOwnSet names S s → IsClosed names (with_shared S s) s

  abbrev pub ClosedSetsOwn : Type 0
  ClosedSetsOwn = (names : X → List Ref) (S : Set) (s : Heap X) → IsClosed names S s → IsOwnSet names (without_shared S s) s

  -- WHAT ISN'T OWNED IS AS IT WAS, after a call that keeps to each own set with its roots
  abbrev pub UnownedStays : Type 0
  UnownedStays = (names : X → List Ref) (s : Heap X) (roots : List Ref) (S : Set) → IsOwnSet names S s → AllIn (with_shared S s) roots → (t : Heap X)
      → ((T : Set) → IsOwnSet names T s → AllIn (with_shared T s) roots → Frame T s t)
      → (r : Ref) (b : Obj X) → look s r ≡ Some b → (OwnLeads names s roots r → ⊥) → look t r ≡ Some b

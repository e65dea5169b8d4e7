-- The tables of a data module are put into both heaps.
use Rattle.std.proofs.Common.{Bool, true}
use Rattle.lua_heap.specs.Heap.{Heap, look}
use Rattle.lua_heap.specs.Related.{Map, Stands}
use Rattle.lua_heap.specs.Reach.{is_there}
use Rattle.lua_heap.specs.Graph.{Graph, join, joined_root}
use Rattle.lua_heap.proofs.Places.{some-is, is-some}
use Rattle.lua_heap.proofs.Joins.{look-first, joined}
use Rattle.lua_heap.proofs.Puts.{put, put-kept}
use Rattle.lua_library_agree.specs.Laws.{GraphsJoin}

module _ {X Y : Type 0} (R : Map → X → Y → Type 0) where
  -- what stands in a heap does so when a graph was put into it
  still-stands : (m : Map) (h : Heap X) (s : Heap Y) → Stands R m h s → (frozen : Bool) (g : Graph) → Stands R m h (join frozen g s)
  still-stands m h s st frozen g = record {
    forth = st.forth;
    back = st.back;
    holds = λ q r e. let v = st.holds q r e in (v.0, v.1, v.2, look-first frozen g s r v.1 v.3, v.4);
  }

  pub graphs_join : GraphsJoin R
  graphs_join up m h s st g ok =
      let kept = put-kept (is_there s) g (joined_root s) s (join true g s) (put true g s ok) (λ r i. is-some (look s r) i) in
      let all = joined R up m (is_there s) kept.0 g (joined_root s) h (join true g s) (still-stands m h s st true g)
      (λ q r e. some-is (look s r) (st.holds q r e).1 (st.holds q r e).3) kept.1 in
      (all.names, all.grows, all.stands, all.root_at)

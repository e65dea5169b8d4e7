-- The laws of the walk, of data and of copies, as the contracts say them.
use Rattle.lua_walk.specs.Laws.{ReachedIsAll, MoreFindNothing, TakenIsGraph, TakenIsReached, CopyChangesNothing, TakenIsSame, CopyCostsTheSame, CopyMoves}
use Rattle.lua_walk.proofs.Visits.{InSet, set-there, set-shut, reached-order, more-nothing}
use Rattle.lua_walk.proofs.Graphs.{taken-graph}
use Rattle.lua_walk.proofs.Regained.{taken-reached}
use Rattle.lua_walk.proofs.Copies.{copy-changes}
use Rattle.lua_walk.proofs.Standings.{taken-same, cost-same}
use Rattle.lua_walk.proofs.CopyMoves.{copy-moves}
use Rattle.lua_heap.specs.Related.{Map}

module _ {X : Type 0} where
  pub reached_is_all : ReachedIsAll X
  reached_is_all names S h t c i = reached-order h (InSet names h S c) (set-there names h S c) (set-shut names h S c) t i

  pub more_find_nothing : MoreFindNothing X
  more_find_nothing names S h t n c i le = more-nothing h (InSet names h S c) (set-there names h S c) (set-shut names h S c) t n i le

  pub taken_is_graph : TakenIsGraph X
  taken_is_graph names S h t g c i keys e = taken-graph h t g (reached_is_all names S h t c i) keys e

  pub taken_is_reached : TakenIsReached X
  taken_is_reached names S h s t n frozen g c i e le = taken-reached h s t frozen g (reached_is_all names S h t c i) e n le

  pub copy_changes_nothing : CopyChangesNothing X
  copy_changes_nothing h v = copy-changes h v

module _ {X Y : Type 0} (R : Map → X → Y → Type 0) where
  pub taken_is_same : TakenIsSame R
  taken_is_same m h s v w st e = taken-same R m h s st v w e

  pub copy_costs_the_same : CopyCostsTheSame R
  copy_costs_the_same m h s v w st e = cost-same R m h s st v w e

  pub copy_moves : CopyMoves R
  copy_moves up m h s v w st e = copy-moves R up m h s st v w e

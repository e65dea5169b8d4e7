-- Graphs, as the contracts say it.
use Rattle.lua_heap.specs.Related.{Map}
use Rattle.lua_heap.specs.GraphLaws.{GraphIsPut, PutIsKept, KeptStays, KeptStaysApart, PutKeepsDeep, KeptJoins}
use Rattle.lua_heap.proofs.Joins.{joined}
use Rattle.lua_heap.proofs.Puts.{put, put-kept, kept-frame, kept-new, put-deep}

module _ {X : Type 0} where
  pub graph_is_put : GraphIsPut X
  graph_is_put frozen g s w = put frozen g s w

  pub put_is_kept : PutIsKept X
  put_is_kept S g value s t p f = put-kept S g value s t p f

  pub kept_stays : KeptStays X
  kept_stays T K S g value s t k f = kept-frame T K S g value s t k f

  pub kept_stays_apart : KeptStaysApart X
  kept_stays_apart T K S g value s t k f = kept-new T K S g value s t k f

  pub put_keeps_deep : PutKeepsDeep X
  put_keeps_deep names frozen g s w deep = put-deep names frozen g s w deep

pub kept_joins : {X Y : Type 0} (R : Map → X → Y → Type 0) → KeptJoins R
kept_joins R up m S K g value h s st in_ k = joined R up m S K g value h s st in_ k

-- Data that is put into the store is an answer to whoever waits, and nothing that was there changes.
use Rattle.std.proofs.Common.{◌≡◌, ℕ, true, List, [], ◌∷◌, refl, sym, ap, subst}
use Rattle.page_run.specs.Outcome.{Goes, Jumps}
use Rattle.lua_code.specs.LuaHeapProc.{Proc}
use Rattle.lua_code.specs.LuaHeapValue.{Value as Plain, Text}
use Rattle.lua_code.specs.LuaHeapHeap.{Heap}
use Rattle.lua_machine.specs.LuaHeapReach.{nowhere}
use Rattle.page_ground.specs.LuaHeapGraph as plain
use Rattle.page_ground.specs.LuaHeapGraph.{IsPut, join, joined_root}
use Rattle.lua_code.proofs.LuaHeapGraphLaws.{graph_is_put, put_is_kept}
use Rattle.lua_machine.specs.LuaMeaningActs.{Raised}
use Rattle.page_ground.specs.LuaMeaningQuestions.{Loaded, LoadFailed}
use Rattle.page_ground.specs.LuaStoreDeclaredValueValue.{Value}
use Rattle.lua_machine.specs.LuaStoreSeen.{StoreView, seen}
use Rattle.page_ground.specs.LuaGraphDeclaredGraphGraph.{Graph}
use Rattle.page_ground.specs.LuaGraphPlain.{plain_graph}
use Rattle.page_ground.specs.LuaGraphPut.{IsMade, put}
use Rattle.page_ground.specs.LuaPointsTold.{as_tables, as_failure}
use Rattle.page_ground.proofs.PagePointsApart.{nothing_changes, data_leaves}
use Rattle.page_tasks.specs.Going.{PutsAnswer}

put_at : (g : plain.Graph) (v : Plain) (s t : Heap Proc) → IsPut true g v s t → PutsAnswer s t (Loaded g) (Goes (v ∷ []))
put_at g v s t p = record {
  tells = λ S there. let k = put_is_kept S g v s t p there in (k.0, as_tables k.0 S t g v k.1);
  stays = λ r b e. p.frame.others r b e refl;
  alone = λ S. data_leaves S g v s t p;
}

pub tables_put : (g : Graph) (s t : StoreView) (v : Value) → IsMade g → t ≡ put true g s → seen t.texts v ≡ joined_root s.heap → PutsAnswer s.heap t.heap (Loaded (plain_graph g)) (Goes (seen t.texts v ∷ []))
tables_put g s t v made is root =
    let p : IsPut true (plain_graph g) (joined_root s.heap) s.heap (join true (plain_graph g) s.heap) = graph_is_put true (plain_graph g) s.heap made.plain in
    let q : IsPut true (plain_graph g) (joined_root s.heap) s.heap t.heap = subst (λ (h : Heap Proc). IsPut true (plain_graph g) (joined_root s.heap) s.heap h) (sym (ap (λ (x : StoreView). x.heap) is)) p in
    put_at (plain_graph g) (seen t.texts v) s.heap t.heap (subst (λ (r : Plain). IsPut true (plain_graph g) r s.heap t.heap) (sym root) q)

pub message_put : (message : List ℕ) (s : Heap Proc) → PutsAnswer s s (LoadFailed message) (Jumps (Raised (Text message)))
message_put message s = record {
  tells = λ S there. (nowhere, as_failure S s message);
  stays = λ r b e. e;
  alone = λ S. nothing_changes S s;
}

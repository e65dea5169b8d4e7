use Rattle.std.proofs.Common.{◌∙◌, ap}
use Rattle.std.specs.Prelude.{ℕ, List}
use Rattle.lua_code.specs.LuaHeapHeap as heap
use Rattle.lua_state.specs.LuaStoreSeen.{StoreView, text_at}
use Rattle.lua_blocks.proofs.functions.new_function.Goals as goal

pub returns-clause-of : goal.returns-clause-of
returns-clause-of c = c.in_ok-id.ensures.of

pub returns-clause-at : goal.returns-clause-at
returns-clause-at c = c.in_ok-id.ensures.id

pub returns-clause-later : goal.returns-clause-later
returns-clause-later c = c.in_ok-id.ensures.later

pub returns-clause-texts : goal.returns-clause-texts
returns-clause-texts c = ap (λ (x : StoreView). x.texts) c.in_ok-id.ensures.made

pub returns-clause-made : goal.returns-clause-made
returns-clause-made c =
    ap (λ (x : StoreView). x.heap) c.in_ok-id.ensures.made
    ∙ ap (λ (cs : List ℕ). (heap.new_closure c.args.store.now.heap (heap.Function (record { title = text_at c.args.store.now.texts c.args.proto.title.at; index = c.args.proto.index; cells = cs }))).0) c.in_ok-cells.ensures.cells

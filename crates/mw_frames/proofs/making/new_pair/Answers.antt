use Rattle.std.proofs.Common.{◌∙◌, ap}
use Rattle.lua_basic.specs.LuaStoreSeen.{StoreView}
use Rattle.lua_home.proofs.LuaGraphSteps.{one_longer}
use Rattle.mw_frames.proofs.Tables.{paired}
use Rattle.mw_frames.proofs.making.new_pair.Goals as goal

pub returns-clause-made : goal.returns-clause-made
returns-clause-made c =
    let heap = λ (s : StoreView). s.heap in
    paired c.args.store.now.heap _ _ _ c.in_ok-table.table.at c.in_ok-meta.meta.at (ap heap c.in_ok-table.ensures.made) (ap heap c.in_ok-meta.ensures.made) c.in_ok-table.ensures.id
    (c.in_ok-meta.ensures.id ∙ one_longer _ _ c.in_ok-table.ensures.made) (ap heap c.set_meta.ensures.set)

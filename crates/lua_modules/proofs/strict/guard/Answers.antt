use Rattle.std.proofs.Common.{ap}
use Rattle.lua_state.specs.LuaStoreSeen.{StoreView}
use Rattle.lua_modules.proofs.Guarded.{guarded}
use Rattle.lua_state.proofs.LuaStoreLater.{later-then}
use Rattle.lua_modules.proofs.strict.guard.Goals as goal

pub returns-clause-made : goal.returns-clause-made
returns-clause-made c =
    let heap = λ (s : StoreView). s.heap in
    guarded c.args.store.now.heap _ _ _ c.in_ok-meta.meta.at c.args.globals.at (ap heap c.in_ok-meta.ensures.made) c.in_ok-meta.ensures.id c.in_ok-fill_meta.ensures.put (ap heap c.set_meta.ensures.set)

pub returns-clause-later : goal.returns-clause-later
returns-clause-later c = later-then _ _ _ c.in_ok-meta.ensures.later (later-then _ _ _ c.in_ok-fill_meta.ensures.later c.set_meta.ensures.later)

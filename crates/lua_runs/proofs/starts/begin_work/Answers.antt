use Rattle.std.proofs.Common.{subst}
use Rattle.lua_modules.specs.LuaStackOf.{WorkOf}
use Rattle.lua_modules.proofs.LuaStateMaking.{makes_late}
use Rattle.lua_runs.proofs.starts.begin_work.Goals as goal

pub invoke-requires-clause-names : goal.invoke-requires-clause-names
invoke-requires-clause-names c = subst WorkOf c.in-Invoke.is c.requires.work

pub returns-in_ok-turn-in-Invoke : goal.returns-in_ok-turn-in-Invoke
returns-in_ok-turn-in-Invoke c = rw c.in-Invoke.is c.in_ok-turn-in-Invoke.ensures

pub returns-in_ok-turn-in-Data : goal.returns-in_ok-turn-in-Data
returns-in_ok-turn-in-Data c =
    rw c.in-Data.is
    (makes_late c.args.store.now c.load.new.store c.args.state.now c.load.new.state c.args.left.now c.load.new.left _ _ c.in_ok-turn-in-Data.ensures)

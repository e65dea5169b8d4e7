use Rattle.lua_state.proofs.FoundCode.{code_found, code_faulty}
use Rattle.lua_state.proofs.codes.code_in.Goals as goal

pub returns-in-Ok : goal.returns-in-Ok
returns-in-Ok c = code_found c.args.found.now _ c.in-Ok.is

pub returns-in-Err : goal.returns-in-Err
returns-in-Err c = code_faulty c.args.found.now _ c.in-Err.is

use Rattle.lua_print.proofs.LayLemmas.{err_checked}
use Rattle.lua_print.proofs.layouts.check.Goals as goal

pub returns-in-Ok : goal.returns-in-Ok
returns-in-Ok c = (c.in-Ok.chunk, c.in-Ok.ensures)

pub returns-in-Err : goal.returns-in-Err
returns-in-Err c = err_checked c.in-Err.fault c.args.text.now c.in-Err.ensures

use Rattle.lua_modules.specs.LuaMeaningFrames.{args_charge}
use Rattle.lua_runs.proofs.Starting.{took, unpaid}
use Rattle.lua_runs.proofs.starts.pay_frame.Goals as goal

pub returns-in-Ok : goal.returns-in-Ok
returns-in-Ok c = let h = rw c.in-Ok.is at c.pay_args.ensures in took (args_charge c.args.args.now) c.args.left.now c.pay_args.new.left h

pub returns-in-Err : goal.returns-in-Err
returns-in-Err c = let h = rw c.in-Err.is at c.pay_args.ensures in unpaid (args_charge c.args.args.now) c.args.left.now c.pay_args.new.left _ h

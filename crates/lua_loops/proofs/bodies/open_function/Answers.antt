use Rattle.std.proofs.Common.{◌∙◌, ap, Bool, List, length, drop}
use Rattle.lua_state.specs.LuaStackLevels.{levels_from}
use Rattle.lua_loops.proofs.Entering.{opened_functions}
use Rattle.lua_loops.proofs.bodies.open_function.Goals as goal

pub returns-clause-functions : goal.returns-clause-functions
returns-clause-functions c =
    opened_functions c.args.callee.now c.args.proto.now.dots (length c.args.proto.now.flags) c.args.arguments c.open_all.new.values c.dots_of-dots.result c.args.line c.args.regs.now c.len-base.result (levels_from c.args.functions.now c.args.line) c.args.functions.now c.enter.new.self
    c.len-base.ensures (c.in_ok-open_all.ensures.left ∙ ap (λ (bs : List Bool). drop (length bs) c.args.arguments) c.as_slice.ensures) c.dots_of-dots.ensures c.in_ok-enter.ensures.ok

pub returns-clause-opened : goal.returns-clause-opened
returns-clause-opened c = rw (c.as_slice.ensures) at c.in_ok-open_all.ensures.opened

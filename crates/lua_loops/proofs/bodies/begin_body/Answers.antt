use Rattle.std.proofs.Common.{refl}
use Rattle.lua_code.specs.Seen.{block_seen, proto_seen}
use Rattle.lua_state.specs.LuaSlotsPoints.{BodyEnd}
use Rattle.lua_state.specs.LuaStackDeclaredFrameEndingTheVariants as ending
use Rattle.lua_state.specs.LuaStackLevels.{levels_from}
use Rattle.lua_loops.proofs.Beginning.{begun}
use Rattle.lua_loops.proofs.Entering.{functions_of, body_slots}
use Rattle.lua_loops.proofs.bodies.begin_body.Goals as goal

pub returns : goal.returns
returns c = λ l.
    begun c.args.store.now c.open_function.new.store c.args.state.now c.run_body.new.frames c.open_function.new.regs c.open_function.new.functions l c.in_ok-focus.focus
    ending.BodyEnd BodyEnd (block_seen c.args.proto.now.body) _ c.requires.state c.in_ok-open_function.ensures.later c.in_ok-open_function.ensures.of
    (functions_of c.args.store.now c.open_function.new.store c.args.state.now c.args.callee (proto_seen c.args.proto.now) c.args.arguments c.args.line (levels_from c.args.state.now.functions c.args.line)
    c.requires.state c.requires.callee c.requires.arguments c.in_ok-open_function.ensures.later c.in_ok-open_function.ensures.texts c.open_function.new.functions c.in_ok-open_function.ensures.functions)
    tt c.in_ok-focus.ensures.of c.in_ok-focus.ensures.point refl
    (body_slots c.args.store.now c.open_function.new.store c.args.state.now c.args.callee (proto_seen c.args.proto.now) c.args.arguments c.args.line (levels_from c.args.state.now.functions c.args.line)
    c.requires.state c.requires.callee c.requires.arguments c.in_ok-open_function.ensures.later c.in_ok-open_function.ensures.texts c.run_body.new.frames c.open_function.new.regs c.open_function.new.functions
    c.in_ok-open_function.ensures.functions c.in_ok-open_function.ensures.opened)

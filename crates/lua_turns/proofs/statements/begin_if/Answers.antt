use Rattle.std.specs.Prelude.{option_map}
use Rattle.lua_code.specs.Seen.{block_seen, branches_seen, expression_seen}
use Rattle.lua_code.specs.LuaSlotsCode.{ArmC, ThenC}
use Rattle.lua_operators.specs.LuaSlotsPoints.{Runs}
use Rattle.lua_strides.specs.LuaStackDeclaredFocusFocusTheVariants as focus
use Rattle.lua_operators.specs.LuaStackDeclaredFrameFrameTheVariants as frame
use Rattle.lua_operators.specs.LuaStackDeclaredFrameInStatementTheVariants as in_statement
use Rattle.lua_loops.specs.LuaStateSeen.{frames_of, slots_of}
use Rattle.lua_loops.specs.LuaStateWorlds.{world_seen}
use Rattle.lua_strides.specs.Conditions.{if_seen}
use Rattle.lua_strides.proofs.Paths.{unpaid}
use Rattle.lua_turns.proofs.Begun.{begun_within}
use Rattle.lua_turns.proofs.Chosen.{if_begins}
use Rattle.lua_turns.proofs.statements.begin_if.Goals as goal

pub returns-then-not-pay_nodes : goal.returns-then-not-pay_nodes
returns-then-not-pay_nodes g c = λ s of. unpaid s c.args.state.now 1 c.args.left.now c.pay_nodes.new.left c.args.turns.now c.pay_nodes.new.turns c.if-not-pay_nodes.ensures

pub returns : goal.returns
returns g c = λ s of.
    let m = c.args.state.now in
    let test = expression_seen c.args.test.now in
    let body = block_seen c.args.body.now in
    let more = branches_seen c.args.more.now in
    let other = option_map (λ b. block_seen b.now) c.args.other in
    let rest = block_seen c.args.rest.now in
    let p = Runs (ThenC (if_seen (ArmC test body more) other) rest) (frames_of s m) in
    c.wait_within.ensures s p 1 c.args.left.now c.pay_nodes.new.left c.args.turns.now c.pay_nodes.new.turns
    (begun_within s m p (focus.Evaluates c.args.test) (frame.Statement (in_statement.BranchNext c.args.body c.args.more c.args.other)) (frame.Statement (in_statement.StatsNext c.args.rest)) of tt tt tt
    (if_begins (world_seen m.codes.world) test body more other rest (frames_of s m) (slots_of s m))) c.if-not-pay_nodes.ensures

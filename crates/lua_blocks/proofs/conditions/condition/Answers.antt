use Rattle.std.proofs.lemmas.Result.{IfOk-weaker}
use Rattle.lua_code.specs.Seen.{branches_seen, block_seen}
use Rattle.lua_code.specs.LuaSlotsStatements.{branches}
use Rattle.std.specs.Prelude.{option_map}
use Rattle.lua_state.specs.LuaStackDeclaredFrameFrameTheVariants as frame
use Rattle.lua_state.specs.LuaStackDeclaredFrameInStatementTheVariants as in_statement
use Rattle.lua_blocks.proofs.Parts.{above, above_of}
use Rattle.lua_blocks.proofs.conditions.condition.Goals as goal

pub first_test-requires : goal.first_test-requires
first_test-requires c = record { state = above_of c.args.store.now c.args.state.now c.push.new.self (frame.Statement (in_statement.StatsNext c.args.rest)) c.in_ok-push.ensures.ok c.requires.state tt }

pub returns : goal.returns
returns c =
    IfOk-weaker c.first_test.result _ _ (λ r e. above c.args.store.now c.first_test.new.store c.args.state.now c.first_test.new.state c.push.new.self (frame.Statement (in_statement.StatsNext c.args.rest)) c.args.left.now c.first_test.new.left
    (λ fs s. branches (branches_seen c.args.arms.now) (option_map block_seen c.args.other.now) fs s) _ c.in_ok-push.ensures.ok e) (rw c.other_of-last.ensures at c.first_test.ensures)

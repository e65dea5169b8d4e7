use Rattle.std.proofs.lemmas.Result.{IfOk-weaker}
use Rattle.lua_state.specs.LuaStoreSeen.{seen}
use Rattle.lua_code.specs.LuaSlotsStatements.{sets_one}
use Rattle.lua_state.specs.LuaStackDeclaredFrameFrameTheVariants as frame
use Rattle.lua_state.specs.LuaStackDeclaredFrameInAssignmentTheVariants as in_assignment
use Rattle.lua_state.specs.LuaStackSeen.{found_seen}
use Rattle.lua_blocks.proofs.Parts.{above}
use Rattle.lua_blocks.proofs.setting.set.Goals as goal

pub returns-in-None : goal.returns-in-None
returns-in-None c = rw c.in-None.ensures.0 (c.nothing.ensures c.args.left.now)

pub returns : goal.returns
returns c =
    rw c.in-Some.ensures
    (IfOk-weaker c.set_one.result _ _ (λ r e. above c.args.store.now c.set_one.new.store c.args.state.now c.set_one.new.state c.push.new.self (frame.Assignment (in_assignment.SetsNext c.pop.new.self)) c.args.left.now c.set_one.new.left
    (λ fs s. sets_one (found_seen c.args.store.now.texts c.in-Some.next.target) (seen c.args.store.now.texts c.in-Some.next.value) fs s) _ c.in_ok-push-in-Some.ensures.ok e) c.set_one.ensures)

use Rattle.std.proofs.Common.{[], ◌∷◌}
use Rattle.lua_loops.specs.PageRunOutcome.{Goes}
use Rattle.lua_code.specs.declared.operator.Operator.TheVariants as operator
use Rattle.lua_operators.specs.LuaSlotsPoints.{Gives}
use Rattle.lua_operators.specs.LuaStoreSeen.{seen}
use Rattle.lua_operators.specs.LuaStackDeclaredFrameFrameTheVariants as frame
use Rattle.lua_operators.specs.LuaStackDeclaredFrameInExpressionTheVariants as in_expression
use Rattle.lua_loops.specs.LuaStateSeen.{frames_of}
use Rattle.lua_strides.proofs.Paths.{idle_here}
use Rattle.lua_turns.proofs.Following.{must_may}
use Rattle.lua_turns.proofs.Freely.{newest_of}
use Rattle.lua_turns.proofs.giving.give_operand.Goals as goal

pub operate-requires-clause-newest : goal.operate-requires-clause-newest
operate-requires-clause-newest g c = rw c.in-Operates.is at c.requires.waits

pub returns-in-Operates : goal.returns-in-Operates
returns-in-Operates g c = c.operate.ensures c.args.left.now c.args.turns.now

pub join-requires-clause-newest : goal.join-requires-clause-newest
join-requires-clause-newest g c = rw c.in-Joins.is at c.requires.waits

pub join-requires-clause-first : goal.join-requires-clause-first
join-requires-clause-first g c =
    let newest = rw c.in-Joins.is at c.requires.waits in
    newest_of c.args.store.now c.args.state.now.frames newest.0 (frame.Expression (in_expression.OperateNow operator.Concatenate c.in-Joins.a c.in-Joins.line)) newest.1 c.requires.state.frames

pub returns-in-Joins : goal.returns-in-Joins
returns-in-Joins g c = c.join.ensures c.args.turns.now

pub end_list-requires-clause-none : goal.end_list-requires-clause-none
end_list-requires-clause-none g c = (rw c.in-Last.is at c.requires.waits).0

pub end_list-requires-clause-newest : goal.end_list-requires-clause-newest
end_list-requires-clause-newest g c = (rw c.in-Last.is at c.requires.waits).1

pub returns-in-Last : goal.returns-in-Last
returns-in-Last g c = c.end_list.ensures c.args.store.now c.args.left.now c.args.turns.now c.requires.state c.requires.value

pub give_first-requires : goal.give_first-requires
give_first-requires g c = rw c.in-First.is at c.requires.waits

pub returns-in-First : goal.returns-in-First
returns-in-First g c = c.give_first.ensures c.args.store.now c.args.left.now c.args.turns.now c.requires.state c.requires.value

pub decide-requires : goal.decide-requires
decide-requires g c = rw c.in-Decides.is at c.requires.waits

pub returns-in-Decides : goal.returns-in-Decides
returns-in-Decides g c = c.decide.ensures c.args.store.now c.args.left.now c.args.turns.now c.requires.state c.requires.value

pub apply-requires-clause-newest : goal.apply-requires-clause-newest
apply-requires-clause-newest g c = rw c.in-Applies.is at c.requires.waits

pub returns-in-Applies : goal.returns-in-Applies
returns-in-Applies g c = c.apply.ensures c.args.left.now c.args.turns.now

pub call_one-requires-clause-newest : goal.call_one-requires-clause-newest
call_one-requires-clause-newest g c = rw c.in-Calls.is at c.requires.waits

pub returns-in-Calls : goal.returns-in-Calls
returns-in-Calls g c = c.call_one.ensures

pub take_operand-requires-clause-newest : goal.take_operand-requires-clause-newest
take_operand-requires-clause-newest g c = rw c.in-Operand.is at c.requires.waits

pub returns-in-Operand : goal.returns-in-Operand
returns-in-Operand g c = c.take_operand.ensures

pub take_item-requires-clause-newest : goal.take_item-requires-clause-newest
take_item-requires-clause-newest g c = rw c.in-Item.is at c.requires.waits

pub returns-in-Item : goal.returns-in-Item
returns-in-Item g c =
    must_may c.args.store.now c.args.state.now (Gives (Goes (seen c.args.store.now.texts c.args.value ∷ [])) (frames_of c.args.store.now c.args.state.now)) c.args.left.now c.args.turns.now c.take_item.new.store c.take_item.new.state c.take_item.new.left c.take_item.new.turns c.take_item.result c.take_item.ensures

pub take_callee-requires-clause-newest : goal.take_callee-requires-clause-newest
take_callee-requires-clause-newest g c = rw c.in-Callee.is at c.requires.waits

pub returns-in-Callee : goal.returns-in-Callee
returns-in-Callee g c =
    must_may c.args.store.now c.args.state.now (Gives (Goes (seen c.args.store.now.texts c.args.value ∷ [])) (frames_of c.args.store.now c.args.state.now)) c.args.left.now c.args.turns.now c.take_callee.new.store c.take_callee.new.state c.take_callee.new.left c.take_callee.new.turns c.take_callee.result c.take_callee.ensures

pub take_of-next-requires-clause-newest : goal.take_of-next-requires-clause-newest
take_of-next-requires-clause-newest g c = rw c.in-Key.is at c.requires.waits

pub returns-in-Key : goal.returns-in-Key
returns-in-Key g c = c.take_of-next.ensures

pub take_key-requires-clause-newest : goal.take_key-requires-clause-newest
take_key-requires-clause-newest g c = rw c.in-Indexes.is at c.requires.waits

pub returns-in-Indexes : goal.returns-in-Indexes
returns-in-Indexes g c = c.take_key.ensures c.args.turns.now

pub take_object-requires-clause-newest : goal.take_object-requires-clause-newest
take_object-requires-clause-newest g c = rw c.in-Object.is at c.requires.waits

pub returns-in-Object : goal.returns-in-Object
returns-in-Object g c = c.take_object.ensures

pub returns-in_default : goal.returns-in_default
returns-in_default g c = idle_here c.args.store.now c.args.state.now c.args.left.now c.args.turns.now

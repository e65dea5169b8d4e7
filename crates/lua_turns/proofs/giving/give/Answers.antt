use Rattle.lua_turns.proofs.giving.give.Goals as goal

pub go_on-requires : goal.go_on-requires
go_on-requires g c = rw c.in-Statements.is at c.of_newest-waits.ensures

pub returns-in-Statements : goal.returns-in-Statements
returns-in-Statements g c = c.go_on.ensures c.args.store.now c.args.left.now c.args.turns.now _ c.requires.state

pub declare-requires-clause-newest : goal.declare-requires-clause-newest
declare-requires-clause-newest g c = rw c.in-Declares.is at c.of_newest-waits.ensures

pub returns-in-Declares : goal.returns-in-Declares
returns-in-Declares g c = c.declare.ensures c.args.left.now c.args.turns.now

pub begin_return-requires : goal.begin_return-requires
begin_return-requires g c = rw c.in-Returns.is at c.of_newest-waits.ensures

pub returns-in-Returns : goal.returns-in-Returns
returns-in-Returns g c = c.begin_return.ensures c.args.store.now c.args.left.now c.args.turns.now c.requires.state c.requires.value

pub assign-requires : goal.assign-requires
assign-requires g c = rw c.in-Assigns.is at c.of_newest-waits.ensures

pub returns-in-Assigns : goal.returns-in-Assigns
returns-in-Assigns g c = c.assign.ensures c.args.store.now c.args.left.now c.args.turns.now c.requires.state c.requires.value

pub choose-requires : goal.choose-requires
choose-requires g c = rw c.in-Branches.is at c.of_newest-waits.ensures

pub returns-in-Branches : goal.returns-in-Branches
returns-in-Branches g c = c.choose.ensures c.args.store.now c.args.left.now c.args.turns.now c.requires.state c.requires.value

pub take_test-requires : goal.take_test-requires
take_test-requires g c = rw c.in-Tests.is at c.of_newest-waits.ensures

pub returns-in-Tests : goal.returns-in-Tests
returns-in-Tests g c = c.take_test.ensures c.args.store.now c.requires.state c.requires.value

pub end_library-requires : goal.end_library-requires
end_library-requires g c = rw c.in-Library.is at c.of_newest-waits.ensures

pub returns-in-Library : goal.returns-in-Library
returns-in-Library g c = c.end_library.ensures c.args.store.now c.args.turns.now c.requires.state c.requires.value

pub give_operand-requires-clause-waits : goal.give_operand-requires-clause-waits
give_operand-requires-clause-waits g c = c.of_newest-waits.ensures

pub returns-in_default : goal.returns-in_default
returns-in_default g c = c.give_operand.ensures

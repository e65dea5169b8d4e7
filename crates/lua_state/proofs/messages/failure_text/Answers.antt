use Rattle.lua_state.proofs.messages.failure_text.Goals as goal

pub returns-in-CannotIndex : goal.returns-in-CannotIndex
returns-in-CannotIndex c = rw c.in-CannotIndex.is c.attempt_to.ensures

pub returns-in-CannotCall : goal.returns-in-CannotCall
returns-in-CannotCall c = rw c.in-CannotCall.is c.attempt_to-in-CannotCall.ensures

pub returns-in-CannotCalculate : goal.returns-in-CannotCalculate
returns-in-CannotCalculate c = rw c.in-CannotCalculate.is c.attempt_to-in-CannotCalculate.ensures

pub returns-in-CannotConcatenate : goal.returns-in-CannotConcatenate
returns-in-CannotConcatenate c = rw c.in-CannotConcatenate.is c.attempt_to-in-CannotConcatenate.ensures

pub returns-in-NoLength : goal.returns-in-NoLength
returns-in-NoLength c = rw c.in-NoLength.is c.attempt_to-in-NoLength.ensures

use Rattle.lua_turns.proofs.waiting.of_expression.Goals as goal

pub returns-in-OperandNext : goal.returns-in-OperandNext
returns-in-OperandNext c = λ fs h. rw c.in-OperandNext.is at h

pub returns-in-OperateNow : goal.returns-in-OperateNow
returns-in-OperateNow c = λ fs h. c.of_operator.ensures fs (rw c.in-OperateNow.is at h)

pub returns-in-CallNow : goal.returns-in-CallNow
returns-in-CallNow c = λ fs h. rw c.in-CallNow.is at h

pub returns-in-MoreNext : goal.returns-in-MoreNext
returns-in-MoreNext c = λ fs h. c.of_list.ensures fs (rw c.in-MoreNext.is at h)

pub returns-in-First : goal.returns-in-First
returns-in-First c = λ fs h. rw c.in-First.is at h

pub returns-in-DecideNext : goal.returns-in-DecideNext
returns-in-DecideNext c = λ fs h. rw c.in-DecideNext.is at h

pub returns-in-UnaryNow : goal.returns-in-UnaryNow
returns-in-UnaryNow c = λ fs h. rw c.in-UnaryNow.is at h

pub returns-in-KeyNext : goal.returns-in-KeyNext
returns-in-KeyNext c = λ fs h. rw c.in-KeyNext.is at h

pub returns-in-IndexNow : goal.returns-in-IndexNow
returns-in-IndexNow c = λ fs h. rw c.in-IndexNow.is at h

pub returns-in-ArgumentsNext : goal.returns-in-ArgumentsNext
returns-in-ArgumentsNext c = λ fs h. rw c.in-ArgumentsNext.is at h

pub returns-in-MethodNext : goal.returns-in-MethodNext
returns-in-MethodNext c = λ fs h. rw c.in-MethodNext.is at h

pub returns-in_default : goal.returns-in_default
returns-in_default c = λ fs h. tt

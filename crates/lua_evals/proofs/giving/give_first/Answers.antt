use Rattle.lua_evals.proofs.Items.{seen_first}
use Rattle.lua_evals.proofs.giving.give_first.Goals as goal

pub returns-in-First : goal.returns-in-First
returns-in-First c = λ world. rw (c.in-First.is, ← seen_first c.args.store.now.texts c.args.values c.args.first c.requires.same) (c.give.ensures c.args.left.now)

pub returns-in-Verdict : goal.returns-in-Verdict
returns-in-Verdict c = λ world. rw (c.in-Verdict.is, ← seen_first c.args.store.now.texts c.args.values c.args.first c.requires.same) (c.verdict.ensures c.args.left.now)

pub returns-in-KeyNext : goal.returns-in-KeyNext
returns-in-KeyNext c = λ world. rw (c.in-KeyNext.is, ← seen_first c.args.store.now.texts c.args.values c.args.first c.requires.same) (c.wait.ensures c.args.left.now)

pub returns-in-IndexNow : goal.returns-in-IndexNow
returns-in-IndexNow c = λ world. rw (c.in-IndexNow.is, ← seen_first c.args.store.now.texts c.args.values c.args.first c.requires.same) c.index_at.ensures

pub returns-in-DecideNext : goal.returns-in-DecideNext
returns-in-DecideNext c = λ world. rw (c.in-DecideNext.is, ← seen_first c.args.store.now.texts c.args.values c.args.first c.requires.same) c.decide.ensures

pub returns-in-OperandNext : goal.returns-in-OperandNext
returns-in-OperandNext c = λ world. rw (c.in-OperandNext.is, ← seen_first c.args.store.now.texts c.args.values c.args.first c.requires.same) (c.wait-in-OperandNext.ensures c.args.left.now)

pub returns-in-OperateNow : goal.returns-in-OperateNow
returns-in-OperateNow c = λ world. rw (c.in-OperateNow.is, ← seen_first c.args.store.now.texts c.args.values c.args.first c.requires.same) c.operate_on.ensures

pub returns-in-UnaryNow : goal.returns-in-UnaryNow
returns-in-UnaryNow c = λ world. rw (c.in-UnaryNow.is, ← seen_first c.args.store.now.texts c.args.values c.args.first c.requires.same) c.apply_to.ensures

pub returns-in-ArgumentsNext : goal.returns-in-ArgumentsNext
returns-in-ArgumentsNext c = λ world. rw (c.in-ArgumentsNext.is, ← seen_first c.args.store.now.texts c.args.values c.args.first c.requires.same) (c.arguments.ensures c.args.left.now)

pub returns-in-CallNow : goal.returns-in-CallNow
returns-in-CallNow c = λ world. rw c.in-CallNow.is c.call_with.ensures

pub returns-in-MethodNext : goal.returns-in-MethodNext
returns-in-MethodNext c = λ world. rw (c.in-MethodNext.is, ← seen_first c.args.store.now.texts c.args.values c.args.first c.requires.same) c.method.ensures

pub returns-in-MethodNow : goal.returns-in-MethodNow
returns-in-MethodNow c = λ world. rw (c.in-MethodNow.is, ← seen_first c.args.store.now.texts c.args.values c.args.first c.requires.same) (c.method_arguments.ensures c.args.left.now)

pub returns-in-MoreNext : goal.returns-in-MoreNext
returns-in-MoreNext c = λ world. rw c.in-MoreNext.is c.more.ensures

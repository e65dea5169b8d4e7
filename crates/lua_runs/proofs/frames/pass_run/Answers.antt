use Rattle.lua_runs.proofs.frames.pass_run.Goals as goal

pub returns-in-ModuleFound : goal.returns-in-ModuleFound
returns-in-ModuleFound c = rw c.in-ModuleFound.is (c.uncaught.ensures c.args.left.now)

pub returns-in-FunctionFound : goal.returns-in-FunctionFound
returns-in-FunctionFound c = rw c.in-FunctionFound.is (c.uncaught-in-FunctionFound.ensures c.args.left.now)

pub returns-in-AnswerNow : goal.returns-in-AnswerNow
returns-in-AnswerNow c = rw c.in-AnswerNow.is (c.uncaught-in-AnswerNow.ensures c.args.left.now)

pub returns-in-TextNow : goal.returns-in-TextNow
returns-in-TextNow c = rw c.in-TextNow.is (c.uncaught-in-TextNow.ensures c.args.left.now)

pub returns : goal.returns
returns c = rw c.in-DataNow.is (c.data_uncaught.ensures c.args.left.now)

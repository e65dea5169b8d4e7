use Rattle.lua_runs.proofs.Behind.{seen_first}
use Rattle.lua_runs.proofs.frames.give_first.Goals as goal

pub returns-in-ModuleFound : goal.returns-in-ModuleFound
returns-in-ModuleFound c = λ world. rw (c.in-ModuleFound.is, ← seen_first c.args.store.now.texts c.args.values c.args.first c.requires.same) c.module_found.ensures

pub returns-in-FunctionFound : goal.returns-in-FunctionFound
returns-in-FunctionFound c = λ world. rw (c.in-FunctionFound.is, ← seen_first c.args.store.now.texts c.args.values c.args.first c.requires.same) c.function_found.ensures

pub returns-in-AnswerNow : goal.returns-in-AnswerNow
returns-in-AnswerNow c = λ world. rw c.in-AnswerNow.is (c.answer_now.ensures c.args.left.now)

pub returns-in-TextNow : goal.returns-in-TextNow
returns-in-TextNow c = λ world. rw (c.in-TextNow.is, ← seen_first c.args.store.now.texts c.args.values c.args.first c.requires.same) (c.text_given.ensures c.args.left.now)

pub returns-in-DataNow : goal.returns-in-DataNow
returns-in-DataNow c = λ world. rw (c.in-DataNow.is, ← seen_first c.args.store.now.texts c.args.values c.args.first c.requires.same) (c.data_given.ensures c.args.left.now)

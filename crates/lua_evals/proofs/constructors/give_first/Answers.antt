use Rattle.lua_evals.proofs.Items.{seen_first}
use Rattle.lua_evals.proofs.constructors.give_first.Goals as goal

pub returns-in-ItemNow : goal.returns-in-ItemNow
returns-in-ItemNow c = λ world. rw c.in-ItemNow.is c.item.ensures

pub returns-in-PairNext : goal.returns-in-PairNext
returns-in-PairNext c = λ world. rw (c.in-PairNext.is, ← seen_first c.args.store.now.texts c.args.values c.args.first c.requires.same) (c.wait.ensures c.args.left.now)

pub returns-in-PairNow : goal.returns-in-PairNow
returns-in-PairNow c = λ world. rw (c.in-PairNow.is, ← seen_first c.args.store.now.texts c.args.values c.args.first c.requires.same) c.set.ensures

pub returns-in-FieldsNext : goal.returns-in-FieldsNext
returns-in-FieldsNext c = λ world. rw c.in-FieldsNext.is (c.next_field.ensures c.args.left.now)

pub returns-in-ItemsNext : goal.returns-in-ItemsNext
returns-in-ItemsNext c = λ world. rw c.in-ItemsNext.is c.items.ensures

use Rattle.lua_strides.proofs.operators.operated.Goals as goal

pub returns-in-Less-clause-of : goal.returns-in-Less-clause-of
returns-in-Less-clause-of c = c.is_less.ensures.of c.args.store.now

pub returns-in-Less-clause-value : goal.returns-in-Less-clause-value
returns-in-Less-clause-value c = rw c.in-Less.is (c.is_less.ensures.value c.args.store.now.texts)

pub returns-in-Greater-clause-of : goal.returns-in-Greater-clause-of
returns-in-Greater-clause-of c = c.is_less-in-Greater.ensures.of c.args.store.now

pub returns-in-Greater-clause-value : goal.returns-in-Greater-clause-value
returns-in-Greater-clause-value c = rw c.in-Greater.is (c.is_less-in-Greater.ensures.value c.args.store.now.texts)

pub returns-in-AtMost-clause-of : goal.returns-in-AtMost-clause-of
returns-in-AtMost-clause-of c = c.is_at_most.ensures.of c.args.store.now

pub returns-in-AtMost-clause-value : goal.returns-in-AtMost-clause-value
returns-in-AtMost-clause-value c = rw c.in-AtMost.is (c.is_at_most.ensures.value c.args.store.now.texts)

pub returns-in-AtLeast-clause-of : goal.returns-in-AtLeast-clause-of
returns-in-AtLeast-clause-of c = c.is_at_most-in-AtLeast.ensures.of c.args.store.now

pub returns-in-AtLeast-clause-value : goal.returns-in-AtLeast-clause-value
returns-in-AtLeast-clause-value c = rw c.in-AtLeast.is (c.is_at_most-in-AtLeast.ensures.value c.args.store.now.texts)

pub returns-in-Calculate-clause-of : goal.returns-in-Calculate-clause-of
returns-in-Calculate-clause-of c = c.calculated.ensures.of c.args.store.now

pub returns-in-Calculate-clause-value : goal.returns-in-Calculate-clause-value
returns-in-Calculate-clause-value c = rw c.in-Calculate.is (c.calculated.ensures.value c.args.store.now.texts)

use Rattle.std.proofs.Common.{subst}
use Rattle.page_tasks.specs.Tasks.{CanBeTold}
use Rattle.page_tasks.specs.Falling.{CanGiveBack}
use Rattle.page_tasks.proofs.Answering.{expansion_spent_halts, expansion_spent_goes}
use Rattle.page_tasks.proofs.telling.tell_spent.Goals as goal

pub tell_expansion-requires-clause-waits : goal.tell_expansion-requires-clause-waits
tell_expansion-requires-clause-waits c = subst CanBeTold c.in-Expansion.is c.requires.waits

pub tell_expansion-requires-clause-back : goal.tell_expansion-requires-clause-back
tell_expansion-requires-clause-back c = subst (CanGiveBack c.args.left.now) c.in-Expansion.is c.requires.back

pub spend_invocation-requires : goal.spend_invocation-requires
spend_invocation-requires c = record { back = subst (CanGiveBack c.args.left.now) c.in-Invocation.is c.requires.back }

pub spend_load-requires : goal.spend_load-requires
spend_load-requires c = record { back = subst (CanGiveBack c.args.left.now) c.in-Load.is c.requires.back }

pub returns-in-Expansion-clause-halts : goal.returns-in-Expansion-clause-halts
returns-in-Expansion-clause-halts c = rw c.in-Expansion.is (expansion_spent_halts c.in-Expansion.expander c.args.left.now c.tell_expansion.new.left c.tell_expansion.result c.tell_expansion.ensures.halts)

pub returns-in-Expansion-clause-goes : goal.returns-in-Expansion-clause-goes
returns-in-Expansion-clause-goes c = rw c.in-Expansion.is (expansion_spent_goes c.in-Expansion.expander c.args.which c.args.left.now c.tell_expansion.new.left c.tell_expansion.result)

pub returns-in-Expansion-clause-falls : goal.returns-in-Expansion-clause-falls
returns-in-Expansion-clause-falls c = rw c.in-Expansion.is c.tell_expansion.ensures.falls

pub returns-in-Invocation-clause-halts : goal.returns-in-Invocation-clause-halts
returns-in-Invocation-clause-halts c = rw c.in-Invocation.is c.spend_invocation.ensures.halts

pub returns-in-Invocation-clause-goes : goal.returns-in-Invocation-clause-goes
returns-in-Invocation-clause-goes c = rw c.in-Invocation.is c.spend_invocation.ensures.goes

pub returns-in-Invocation-clause-falls : goal.returns-in-Invocation-clause-falls
returns-in-Invocation-clause-falls c = rw c.in-Invocation.is c.spend_invocation.ensures.falls

pub returns-in-Load-clause-halts : goal.returns-in-Load-clause-halts
returns-in-Load-clause-halts c = rw c.in-Load.is c.spend_load.ensures.halts

pub returns-in-Load-clause-goes : goal.returns-in-Load-clause-goes
returns-in-Load-clause-goes c = rw c.in-Load.is c.spend_load.ensures.goes

pub returns-in-Load-clause-falls : goal.returns-in-Load-clause-falls
returns-in-Load-clause-falls c = rw c.in-Load.is c.spend_load.ensures.falls

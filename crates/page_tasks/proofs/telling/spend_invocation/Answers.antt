use Rattle.page_tasks.proofs.Answering.{invocation_refused_halts, invocation_refused, invocation_refused_falls}
use Rattle.page_tasks.proofs.telling.spend_invocation.Goals as goal

pub give_back-requires : goal.give_back-requires
give_back-requires c = c.requires.back.calls

pub returns-clause-halts : goal.returns-clause-halts
returns-clause-halts c = λ s k of.
    invocation_refused_halts c.args.machine c.args.which s c.args.left.now c.give_back.new.left c.give_back.ensures k of

pub returns-clause-goes : goal.returns-clause-goes
returns-clause-goes c = λ s high.
    invocation_refused c.args.machine c.args.which s c.args.left.now c.give_back.new.left c.give_back.ensures high

pub returns-clause-falls : goal.returns-clause-falls
returns-clause-falls c =
    invocation_refused_falls c.args.machine c.args.left.now c.give_back.new.left c.give_back.ensures c.args.which

use Rattle.std.proofs.Common.{subst}
use Rattle.page_tasks.specs.Tasks.{TaskIn, CanGo}
use Rattle.page_tasks.specs.Falling.{CanGiveBack}
use Rattle.page_tasks.proofs.going.go_on.Goals as goal

pub go_expansion-requires-clause-can : goal.go_expansion-requires-clause-can
go_expansion-requires-clause-can g c = subst CanGo c.in-Expansion.is c.requires.can

pub go_expansion-requires-clause-back : goal.go_expansion-requires-clause-back
go_expansion-requires-clause-back g c = subst (CanGiveBack c.args.left.now) c.in-Expansion.is c.requires.back

pub go_invocation-requires-clause-of : goal.go_invocation-requires-clause-of
go_invocation-requires-clause-of g c = subst (TaskIn c.args.store.now) c.in-Invocation.is c.requires.of

pub go_invocation-requires-clause-back : goal.go_invocation-requires-clause-back
go_invocation-requires-clause-back g c = subst (CanGiveBack c.args.left.now) c.in-Invocation.is c.requires.back

pub go_load-requires-clause-of : goal.go_load-requires-clause-of
go_load-requires-clause-of g c = subst (TaskIn c.args.store.now) c.in-Load.is c.requires.of

pub go_load-requires-clause-back : goal.go_load-requires-clause-back
go_load-requires-clause-back g c = subst (CanGiveBack c.args.left.now) c.in-Load.is c.requires.back

pub returns-in-Expansion-clause-halts : goal.returns-in-Expansion-clause-halts
returns-in-Expansion-clause-halts g c = rw c.in-Expansion.is (c.go_expansion.ensures.halts c.args.store.now c.args.turns.now)

pub returns-in-Expansion-clause-goes : goal.returns-in-Expansion-clause-goes
returns-in-Expansion-clause-goes g c = rw c.in-Expansion.is (c.go_expansion.ensures.goes c.args.store.now c.args.turns.now c.args.turns.now)

pub returns-in-Expansion-clause-falls : goal.returns-in-Expansion-clause-falls
returns-in-Expansion-clause-falls g c = rw c.in-Expansion.is c.go_expansion.ensures.falls

pub returns-in-Invocation-clause-halts : goal.returns-in-Invocation-clause-halts
returns-in-Invocation-clause-halts g c = rw c.in-Invocation.is c.go_invocation.ensures.halts

pub returns-in-Invocation-clause-goes : goal.returns-in-Invocation-clause-goes
returns-in-Invocation-clause-goes g c = rw c.in-Invocation.is c.go_invocation.ensures.goes

pub returns-in-Invocation-clause-falls : goal.returns-in-Invocation-clause-falls
returns-in-Invocation-clause-falls g c = rw c.in-Invocation.is c.go_invocation.ensures.falls

pub returns-in-Load-clause-halts : goal.returns-in-Load-clause-halts
returns-in-Load-clause-halts g c = rw c.in-Load.is c.go_load.ensures.halts

pub returns-in-Load-clause-goes : goal.returns-in-Load-clause-goes
returns-in-Load-clause-goes g c = rw c.in-Load.is c.go_load.ensures.goes

pub returns-in-Load-clause-falls : goal.returns-in-Load-clause-falls
returns-in-Load-clause-falls g c = rw c.in-Load.is c.go_load.ensures.falls

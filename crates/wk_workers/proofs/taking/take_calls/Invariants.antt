use Rattle.std.proofs.Common.{All}
use Rattle.wk_workers.specs.Given.{IsGiven}
use Rattle.wk_workers.proofs.taking.take_calls.Given as goal

abbrev pub invariant-loop : goal.invariant-loop
invariant-loop g l = All (IsGiven g.F.Fn l.f l.count) l.all

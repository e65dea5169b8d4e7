use Rattle.std.proofs.Common.{◌≡◌, length}
use Rattle.wk_workers.specs.Given.{AllPlaced, Gives}
use Rattle.wk_workers.proofs.placing.empty_places.Given as goal

abbrev pub invariant-loop : goal.invariant-loop
invariant-loop g l = (length l.places ≡ l.counter) × AllPlaced (Gives g.F.Fn l.f) l.places

use Rattle.std.proofs.Common.{◌≡◌, All, vec_len}
use Rattle.wk_workers.specs.Given.{AllPlaced, Gives, IsGiven}
use Rattle.wk_workers.proofs.placing.place.Given as goal

abbrev pub invariant-loop-next : goal.invariant-loop-next
invariant-loop-next g l = (vec_len l.places ≡ l.count) × AllPlaced (Gives g.F.Fn l.f) l.places.items × All (IsGiven g.F.Fn l.f l.count) l.rest.items

abbrev pub decreases-loop-next : goal.decreases-loop-next
decreases-loop-next g l = vec_len l.rest

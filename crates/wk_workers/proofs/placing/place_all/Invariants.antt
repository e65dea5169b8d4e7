use Rattle.std.proofs.Common.{◌≡◌, vec_len}
use Rattle.wk_workers.specs.Given.{AllPlaced, Gives, AreGiven}
use Rattle.wk_workers.proofs.placing.place_all.Given as goal

abbrev pub invariant-loop-part : goal.invariant-loop-part
invariant-loop-part g l = (vec_len l.places ≡ l.count) × AllPlaced (Gives g.F.Fn l.f) l.places.items × AreGiven g.F.Fn l.f l.count l.rest.items

abbrev pub decreases-loop-part : goal.decreases-loop-part
decreases-loop-part g l = vec_len l.rest

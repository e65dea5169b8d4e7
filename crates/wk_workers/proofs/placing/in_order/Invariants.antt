use Rattle.std.proofs.Common.{◌≡◌, ℕ, ◌<◌, length, vec_len, slice_index_or}
use Rattle.wk_workers.specs.Given.{AllPlaced, Gives}
use Rattle.wk_workers.proofs.placing.in_order.Given as goal

abbrev pub invariant-loop-number : goal.invariant-loop-number
invariant-loop-number g l =
    (vec_len l.left ≡ l.count) × AllPlaced (Gives g.F.Fn l.f) l.left.items × (length l.values ≡ l.number)
    × ((k : ℕ) (d : g.row.X.Denot) → k < length l.values → Gives g.F.Fn l.f k (slice_index_or l.values k d))

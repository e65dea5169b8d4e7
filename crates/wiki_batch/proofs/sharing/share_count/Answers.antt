use Rattle.std.proofs.Common.{◌≤◌, ◌<◌, ◌*◌, ◌+◌, ℕ, sym, subst}
use Rattle.std.proofs.lemmas.Grind.{div_ceil_times}
use Rattle.wiki_batch.proofs.Joins.{before_end}
use Rattle.wiki_batch.proofs.sharing.share_count.Goals as goal

pub returns : goal.returns
returns c =
    let count = c.args.count in
    let size = c.args.size in
    let Ends : ℕ → Type 0 = λ shares. (count ≤ shares * size) × (shares * size < count + size) in
    let ends : Ends c.div_ceil.result = subst Ends (sym c.div_ceil.ensures) (div_ceil_times count size c.requires) in
    record { within = λ j less. before_end j size c.div_ceil.result count less ends.1; whole = ends.0 }

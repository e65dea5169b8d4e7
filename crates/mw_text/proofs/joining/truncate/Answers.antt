use Rattle.std.proofs.Common.{◌≡◌, ◌<◌, ◌≤◌, ℤ, pos, true, false, unsigned_abs, length, chars, w64, ◌∙◌, ap, sym, arith}
use Rattle.std.specs.Prelude.{int_lt}
use Rattle.std.proofs.lemmas.Int.{to_z-of_z}
use Rattle.mw_text.specs.Joined.{room}
use Rattle.mw_text.proofs.Pieces.{stays_whole, cut_front, cut_back}
use Rattle.mw_text.proofs.joining.truncate.Goals as goal

pub returns-then-count-unsigned_abs : goal.returns-then-count-unsigned_abs
returns-then-count-unsigned_abs c =
    let abs : c.unsigned_abs.result ≡ unsigned_abs c.args.n = c.unsigned_abs.ensures.value ∙ ap unsigned_abs (to_z-of_z w64 c.args.n c.ranges.n) in
    let le : length (chars c.args.s.now) ≤ unsigned_abs c.args.n = omega (arith, abs, c.count_points-count.ensures, c.if-count-unsigned_abs.true) in
    rw (← stays_whole (chars c.args.s.now) (chars c.args.ellipsis.now) c.args.adjust c.args.n le) c.copy.ensures

pub returns-then-n-lt0 : goal.returns-then-n-lt0
returns-then-n-lt0 c =
    let abs : c.unsigned_abs.result ≡ unsigned_abs c.args.n = c.unsigned_abs.ensures.value ∙ ap unsigned_abs (to_z-of_z w64 c.args.n c.ranges.n) in
    let again : c.unsigned_abs-2.result ≡ unsigned_abs c.args.n = c.unsigned_abs-2.ensures.value ∙ ap unsigned_abs (to_z-of_z w64 c.args.n c.ranges.n) in
    let lt : unsigned_abs c.args.n < length (chars c.args.s.now) = omega (arith, abs, c.count_points-count.ensures, c.if-count-unsigned_abs.false) in
    let below : int_lt c.args.n (pos 0) ≡ true = sym (ap (λ (k : ℤ). int_lt k (pos 0)) (to_z-of_z w64 c.args.n c.ranges.n)) ∙ c.if-n-lt0.true in
    let kept = c.room-kept.ensures.value ∙ ap (λ k. room c.args.adjust k (chars c.args.ellipsis.now)) again in
    rw (← cut_back (chars c.args.s.now) (chars c.args.ellipsis.now) c.args.adjust c.args.n (chars c.points_behind.result.now) c.room-kept.result c.saturating_sub.result c.count_points-count.result
    lt below kept c.count_points-count.ensures c.saturating_sub.ensures c.points_behind.ensures.points) c.both.ensures

pub returns : goal.returns
returns c =
    let abs : c.unsigned_abs.result ≡ unsigned_abs c.args.n = c.unsigned_abs.ensures.value ∙ ap unsigned_abs (to_z-of_z w64 c.args.n c.ranges.n) in
    let again : c.unsigned_abs-2.result ≡ unsigned_abs c.args.n = c.unsigned_abs-2.ensures.value ∙ ap unsigned_abs (to_z-of_z w64 c.args.n c.ranges.n) in
    let lt : unsigned_abs c.args.n < length (chars c.args.s.now) = omega (arith, abs, c.count_points-count.ensures, c.if-count-unsigned_abs.false) in
    let above : int_lt c.args.n (pos 0) ≡ false = sym (ap (λ (k : ℤ). int_lt k (pos 0)) (to_z-of_z w64 c.args.n c.ranges.n)) ∙ c.if-n-lt0.false in
    let kept = c.room-kept.ensures.value ∙ ap (λ k. room c.args.adjust k (chars c.args.ellipsis.now)) again in
    rw (← cut_front (chars c.args.s.now) (chars c.args.ellipsis.now) c.args.adjust c.args.n (chars c.first_points.result.now) c.room-kept.result
    lt above kept c.first_points.ensures.points) c.both-2.ensures

use Rattle.std.proofs.Common.{◌≡◌, ◌<◌, ◌≤◌, ℤ, pos, true, false, unsigned_abs, length, chars, encode_utf8_all, w64, ◌∙◌, ap, sym, arith, append-nil}
use Rattle.std.specs.Prelude.{int_lt}
use Rattle.std.proofs.lemmas.Int.{to_z-of_z}
use Rattle.mw_text.specs.Joined.{room}
use Rattle.mw_text.proofs.Pieces.{copy_is, both_is, stays_whole, cut_front, cut_back}
use Rattle.mw_texts.proofs.plain.shortened.Goals as goal

pub returns-then-count-unsigned_abs : goal.returns-then-count-unsigned_abs
returns-then-count-unsigned_abs c =
    let s = c.args.s.now in
    let abs : c.unsigned_abs.result ≡ unsigned_abs c.args.n = c.unsigned_abs.ensures.value ∙ ap unsigned_abs (to_z-of_z w64 c.args.n c.ranges.n) in
    let le : length (chars s) ≤ unsigned_abs c.args.n = omega (arith, abs, c.count_points-count.ensures, c.if-count-unsigned_abs.true) in
    append-nil s ∙ copy_is s c.requires.text ∙ ap encode_utf8_all (stays_whole (chars s) (chars c.args.ellipsis.now) c.args.adjust c.args.n le)

pub returns-then-n-lt0 : goal.returns-then-n-lt0
returns-then-n-lt0 c =
    let s = c.args.s.now in
    let ellipsis = c.args.ellipsis.now in
    let back = c.points_behind.result.now in
    let abs : c.unsigned_abs.result ≡ unsigned_abs c.args.n = c.unsigned_abs.ensures.value ∙ ap unsigned_abs (to_z-of_z w64 c.args.n c.ranges.n) in
    let again : c.unsigned_abs-2.result ≡ unsigned_abs c.args.n = c.unsigned_abs-2.ensures.value ∙ ap unsigned_abs (to_z-of_z w64 c.args.n c.ranges.n) in
    let lt : unsigned_abs c.args.n < length (chars s) = omega (arith, abs, c.count_points-count.ensures, c.if-count-unsigned_abs.false) in
    let below : int_lt c.args.n (pos 0) ≡ true = sym (ap (λ (k : ℤ). int_lt k (pos 0)) (to_z-of_z w64 c.args.n c.ranges.n)) ∙ c.if-n-lt0.true in
    let kept = c.room-kept.ensures.value ∙ ap (λ k. room c.args.adjust k (chars ellipsis)) again in
    both_is ellipsis back c.requires.ellipsis c.points_behind.ensures.text
    ∙ ap encode_utf8_all (cut_back (chars s) (chars ellipsis) c.args.adjust c.args.n (chars back) c.room-kept.result c.saturating_sub.result c.count_points-count.result
    lt below kept c.count_points-count.ensures c.saturating_sub.ensures c.points_behind.ensures.points)

pub returns : goal.returns
returns c =
    let s = c.args.s.now in
    let ellipsis = c.args.ellipsis.now in
    let front = c.first_points.result.now in
    let abs : c.unsigned_abs.result ≡ unsigned_abs c.args.n = c.unsigned_abs.ensures.value ∙ ap unsigned_abs (to_z-of_z w64 c.args.n c.ranges.n) in
    let again : c.unsigned_abs-2.result ≡ unsigned_abs c.args.n = c.unsigned_abs-2.ensures.value ∙ ap unsigned_abs (to_z-of_z w64 c.args.n c.ranges.n) in
    let lt : unsigned_abs c.args.n < length (chars s) = omega (arith, abs, c.count_points-count.ensures, c.if-count-unsigned_abs.false) in
    let above : int_lt c.args.n (pos 0) ≡ false = sym (ap (λ (k : ℤ). int_lt k (pos 0)) (to_z-of_z w64 c.args.n c.ranges.n)) ∙ c.if-n-lt0.false in
    let kept = c.room-kept.ensures.value ∙ ap (λ k. room c.args.adjust k (chars ellipsis)) again in
    both_is front ellipsis c.first_points.ensures.text c.requires.ellipsis
    ∙ ap encode_utf8_all (cut_front (chars s) (chars ellipsis) c.args.adjust c.args.n (chars front) c.room-kept.result lt above kept c.first_points.ensures.points)

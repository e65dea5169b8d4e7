use Rattle.std.proofs.Common.{◌<◌, slice_index_or, arith, rules}
use Rattle.expand_texts.proofs.EqualityLaws.{small_at}
use Rattle.expand_texts.proofs.equality.size_of.Goals as goal

pub overflow_mul-size : goal.overflow_mul-size
overflow_mul-size c = omega (arith, small_at c.loop-digit.size c.loop-digit.digit-index _ c.loop-digit-test.true c.requires.short c.loop-digit.invariant.small)

pub overflow_add-size : goal.overflow_add-size
overflow_add-size c =
    let byte : slice_index_or c.args.digits.now c.loop-digit.digit-index 0 < 256 = search (rules, c.type_inv.digits) in
    omega (arith, byte, small_at c.loop-digit.size c.loop-digit.digit-index _ c.loop-digit-test.true c.requires.short c.loop-digit.invariant.small)

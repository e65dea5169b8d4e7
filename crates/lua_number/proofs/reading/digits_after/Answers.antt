use Rattle.std.proofs.Common.{◌≡◌, arith}
use Rattle.std.specs.Str.Parse.{digits_value_after}
use Rattle.lua_number.proofs.Digits.{too_large, all_read}
use Rattle.lua_number.proofs.reading.digits_after.Goals as goal

pub returns-in-None : goal.returns-in-None
returns-in-None c = too_large _ _ _ _ c.args.digits.now (omega arith) c.loop-c-test.true c.loop-c.invariant.total (λ lt. c.in-None.ensures (omega (arith, c.digit_value.ensures.value)))

pub returns : goal.returns
returns c =
    let same : c.loop-c.value ≡ digits_value_after c.args.base c.args.start c.args.digits.now = all_read _ _ _ _ c.args.digits.now c.loop-c-test.false c.loop-c.invariant.total in
    (omega (arith, c.loop-c.invariant.below), same)

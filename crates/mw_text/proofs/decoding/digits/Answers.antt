use Rattle.std.proofs.Common.{arith, sym}
use Rattle.mw_text.proofs.Numbers.{reads_on, number_stops, number_ends}
use Rattle.mw_text.proofs.decoding.digits.Goals as goal

pub digits-preserved : goal.digits-preserved
digits-preserved c =
    reads_on c.args.radix c.args.text.now c.digits.rest.now c.digits.number c.in-Some.byte c.in-Some-to_digit.digit c.saturating_mul.result c.saturating_add-number.result c.in-Some.behind.now
    c.digits.invariant (omega (arith, c.requires.low)) c.in-Some.ensures c.in-Some-to_digit.ensures.value.0 (sym c.in-Some-to_digit.ensures.value.1) c.saturating_mul.ensures c.saturating_add-number.ensures

pub returns-in_default-clause-number : goal.returns-in_default-clause-number
returns-in_default-clause-number c = number_ends c.args.radix c.args.text.now c.digits.rest.now c.digits.number c.digits.invariant c.in_default.ensures

pub returns-in_default-to_digit-clause-number : goal.returns-in_default-to_digit-clause-number
returns-in_default-to_digit-clause-number c =
    number_stops c.args.radix c.args.text.now c.digits.rest.now c.digits.number c.in-Some.byte c.in-Some.behind.now c.digits.invariant c.in-Some.ensures c.in_default-to_digit.ensures.value

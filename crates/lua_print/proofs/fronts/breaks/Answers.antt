use Rattle.std.proofs.Common.{◌≡◌, ◌+◌, ◌-◌, ◌∙◌, ap, sym, refl, arith}
use Rattle.lua_lexer.proofs.Steps.{breaks_skip, breaks_whole}
use Rattle.lua_print.proofs.fronts.breaks.Goals as goal

pub loop-i-preserved-then-passed-gt0 : goal.loop-i-preserved-then-passed-gt0
loop-i-preserved-then-passed-gt0 c =
    let one_less : c.loop-i.passed ≡ c.loop-i.passed - 1 + 1 = omega arith in
    record {
      total = ap (λ n. c.loop-i.count + n) (sym (breaks_skip c.args.text.now c.loop-i.i (c.loop-i.i + 1) _ _ c.loop-i-test.true refl one_less)) ∙ c.loop-i.invariant.total;
      few = omega arith;
      short = omega arith;
    }

pub returns-clause-number : goal.returns-clause-number
returns-clause-number c = breaks_whole c.args.text.now c.loop-i.i c.loop-i.passed c.loop-i.count c.loop-i-test.false c.loop-i.invariant.total

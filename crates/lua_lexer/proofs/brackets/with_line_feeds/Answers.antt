use Rattle.std.proofs.Common.{◌≡◌, ◌+◌, ◌-◌, ◌++◌, ◌∙◌, ap, sym, refl, arith}
use Rattle.lua_lexer.proofs.Steps.{feeds_skip, feeds_whole}
use Rattle.lua_lexer.proofs.brackets.with_line_feeds.Goals as goal

pub loop-i-preserved-then-passed-gt0 : goal.loop-i-preserved-then-passed-gt0
loop-i-preserved-then-passed-gt0 c =
    let one_less : c.loop-i.passed ≡ c.loop-i.passed - 1 + 1 = omega arith in
    ap (λ left. c.loop-i.made.items ++ left) (sym (feeds_skip c.args.text.now c.loop-i.i (c.loop-i.i + 1) _ _ c.loop-i-test.true refl one_less)) ∙ c.loop-i.invariant

pub returns : goal.returns
returns c = feeds_whole c.args.text.now c.loop-i.i c.loop-i.passed c.loop-i.made.items c.loop-i-test.false c.loop-i.invariant

use Rattle.std.proofs.Common.{◌≡◌, ◌+◌, ◌-◌, ◌∙◌, ap, sym, refl, arith, [], ◌∷◌, ◌++◌, Err}
use Rattle.lua_lexer.proofs.Steps.{body_skip, body_close, body_break, body_plain, body_read, body_result, body_stop, body_end, body_is}
use Rattle.lua_lexer.proofs.strings.string_body.Goals as goal

pub loop-i-preserved-then-passed-gt0 : goal.loop-i-preserved-then-passed-gt0
loop-i-preserved-then-passed-gt0 c =
    let one_less : c.loop-i.passed ≡ c.loop-i.passed - 1 + 1 = omega arith in
    record { whole = body_skip c.args.quote c.args.text.now c.loop-i.bytes.items c.loop-i.i (c.loop-i.i + 1) _ _ c.loop-i-test.true refl one_less ∙ c.loop-i.invariant.whole; short = omega arith }

pub returns-then-c-quote-clause-body : goal.returns-then-c-quote-clause-body
returns-then-c-quote-clause-body c =
    let none : c.loop-i.passed ≡ 0 = omega arith in
    body_is _ _ _ (body_close c.args.quote _ c.args.text.now c.loop-i.bytes.items c.loop-i.i _ _ c.loop-i-test.true none c.at-c.ensures.value c.if-c-quote.true c.loop-i.invariant.whole)

pub returns-then-is_break-clause-body : goal.returns-then-is_break-clause-body
returns-then-is_break-clause-body c =
    let none : c.loop-i.passed ≡ 0 = omega arith in
    body_is _ _ _ (body_break c.args.quote _ c.args.text.now c.loop-i.bytes.items c.loop-i.i _ _ c.loop-i-test.true none c.at-c.ensures.value c.if-c-quote.false (sym c.is_break.ensures ∙ c.if-is_break.true) c.loop-i.invariant.whole)

pub loop-i-preserved-then-c-ne92 : goal.loop-i-preserved-then-c-ne92
loop-i-preserved-then-c-ne92 c =
    let none : c.loop-i.passed ≡ 0 = omega arith in
    record {
      whole = body_plain c.args.quote _ c.args.text.now c.loop-i.bytes.items _ c.loop-i.i _ _ c.loop-i-test.true none c.at-c.ensures.value c.if-c-quote.false (sym c.is_break.ensures ∙ c.if-is_break.false) c.if-c-ne92.true (c.in_ok-add.ensures.ok ∙ ap (λ x. c.loop-i.bytes.items ++ x ∷ []) (c.byte.ensures ∙ sym c.at-c.ensures.value)) c.loop-i.invariant.whole;
      short = omega arith;
    }

pub returns-clause-body : goal.returns-clause-body
returns-clause-body c = body_is _ _ _ (body_end c.args.quote c.args.text.now c.loop-i.bytes.items c.loop-i.i c.loop-i.passed _ c.loop-i-test.false c.loop-i.invariant.whole)

pub returns-in-Err-clause-body : goal.returns-in-Err-clause-body
returns-in-Err-clause-body c =
    let none : c.loop-i.passed ≡ 0 = omega arith in
    body_result (Err c.in-Err.stop) c.args.quote c.args.text.now
    (body_stop c.args.quote _ c.args.text.now _ c.loop-i.bytes.items c.loop-i.i _ c.in-Err.stop _ c.loop-i-test.true none c.at-c.ensures.value c.if-c-quote.false (sym c.is_break.ensures ∙ c.if-is_break.false) c.if-c-ne92.false c.rest.ensures c.in-Err.ensures c.loop-i.invariant.whole)

pub loop-i-preserved : goal.loop-i-preserved
loop-i-preserved c =
    let none : c.loop-i.passed ≡ 0 = omega arith in
    record {
      whole = body_read c.args.quote _ c.args.text.now _ c.loop-i.bytes.items _ c.loop-i.i _ _ c.in-Ok.escape.size _ c.loop-i-test.true none c.at-c.ensures.value c.if-c-quote.false (sym c.is_break.ensures ∙ c.if-is_break.false) c.if-c-ne92.false c.rest.ensures c.in-Ok.ensures.0 c.in_ok-add-in-Ok.ensures.ok c.loop-i.invariant.whole;
      short = omega (arith, c.in-Ok.ensures.2);
    }

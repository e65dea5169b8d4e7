use Rattle.std.proofs.Common.{◌≡◌, ◌∙◌, ◌++◌, ◌<◌, ◌+◌, length, ap, sym, refl, subst, arith, List}
use Rattle.lua_lexer.specs.declared.token.Token.{Token}
use Rattle.lua_lexer.specs.Lexis.{Spells}
use Rattle.lua_lexer.proofs.Lists.{spells_step, stops_step, fault_is, end_is, empty_is, there}
use Rattle.lua_lexer.proofs.lexer.lex.Goals as goal

pub loop-left-init : goal.loop-left-init
loop-left-init c = record {
  spells = λ ps ts h. (ps, subst (λ (x : List Token). Spells c.args.text.now ps 0 1 x) (sym (ap (λ x. x ++ ts) c.new-tokens.ensures)) h);
  stops = λ ps kind line h. (ps, h);
  sum = omega arith;
  lines = omega arith;
}

pub returns-in-Err : goal.returns-in-Err
returns-in-Err c =
    let some : 0 < length c.loop-left.left.now = there c.loop-left.left.now _ c.is_empty.ensures c.loop-left-test.true in
    fault_is c.fault.result c.in-Err.stop c.loop-left.line c.args.text.now c.loop-left.left.now c.fault.ensures some c.in-Err.ensures.found c.loop-left.invariant.stops

pub loop-left-preserved : goal.loop-left-preserved
loop-left-preserved c =
    let some : 0 < length c.loop-left.left.now = there c.loop-left.left.now _ c.is_empty.ensures c.loop-left-test.true in
    let shorter : length c.split_at.result.1.now + c.in-Ok.piece.size ≡ length c.loop-left.left.now = c.split_at.ensures.back_len in
    record {
      spells = spells_step c.args.text.now c.loop-left.left.now c.split_at.result.1.now c.split_at.result.0.now c.loop-left.tokens c.add.new.tokens c.in-Ok.piece c.loop-left.place (c.loop-left.place + c.in-Ok.piece.size) c.loop-left.line (c.loop-left.line + c.breaks.result) c.breaks.result
          c.loop-left.invariant.spells some c.in-Ok.ensures.found c.split_at.ensures.back c.split_at.ensures.front c.breaks.ensures.number refl refl c.in_ok-add-in-Ok.ensures.ok;
      stops = stops_step c.args.text.now c.loop-left.left.now c.split_at.result.1.now c.split_at.result.0.now c.in-Ok.piece c.loop-left.line (c.loop-left.line + c.breaks.result) c.breaks.result
          c.loop-left.invariant.stops some c.in-Ok.ensures.found c.split_at.ensures.back c.split_at.ensures.front c.breaks.ensures.number refl;
      sum = omega (arith, shorter, c.loop-left.invariant.sum);
      lines = omega (arith, c.breaks.ensures.bound, c.split_at.ensures.front_len, c.loop-left.invariant.lines);
    }

pub returns : goal.returns
returns c =
    end_is c.end.result c.args.text.now c.loop-left.left.now c.loop-left.tokens c.loop-left.place c.loop-left.line (empty_is c.loop-left.left.now (sym c.is_empty.ensures ∙ c.loop-left-test.false)) c.end.ensures.ok c.end.ensures.err c.loop-left.invariant.spells

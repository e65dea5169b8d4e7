use mir.Val.{SFits}
use mir.Syntax.{w64}
use Rattle.std.specs.Prelude.{ℤ}
use Rattle.std.proofs.Common.{rules, sym, ◌∙◌, ap, ◌≡◌, ℕ, Some}
use Rattle.std.proofs.lemmas.Int.{to_z-of_z}
use Rattle.lua_number.specs.Numerals.{read_numeral_of}
use Rattle.lua_reading.specs.LuaGrammarTokens.{bytes_of, tok_at}
use Rattle.lua_syntax.specs.View.{expr_view}
use Rattle.lua_syntax.specs.Tree.{NumberE}
use Rattle.lua_reading.proofs.expressions.Exits.{is_class, one_token_read, literal_unexpected, text_same, nil_not_eof, true_not_eof, false_not_eof, text_not_eof, number_not_eof, dots_not_eof}
use Rattle.lua_reading.proofs.expressions.Atoms.{operand_deep, dots_starts, dots_can, dots_outside, number_starts, number_invalid, nil_starts, true_starts, false_starts, text_starts}
use Rattle.lua_parser.proofs.exprs.literal.Goals as goal

pub returns-in-Nil : goal.returns-in-Nil
returns-in-Nil c =
    let e = is_class _ _ _ _ c.class_at.ensures c.in-Nil.is in
    one_token_read _ c.args.context _ _ _ _ _ c.requires.ended c.requires.inside e nil_not_eof (nil_starts _ c.args.context _ e) (rw (← c.line_at-line.ensures) c.nil.ensures) c.one_token.ensures

pub returns-in-True : goal.returns-in-True
returns-in-True c =
    let e = is_class _ _ _ _ c.class_at.ensures c.in-True.is in
    one_token_read _ c.args.context _ _ _ _ _ c.requires.ended c.requires.inside e true_not_eof (true_starts _ c.args.context _ e) (rw (← c.line_at-line.ensures) c.true_value.ensures) c.one_token-in-True.ensures

pub returns-in-False : goal.returns-in-False
returns-in-False c =
    let e = is_class _ _ _ _ c.class_at.ensures c.in-False.is in
    one_token_read _ c.args.context _ _ _ _ _ c.requires.ended c.requires.inside e false_not_eof (false_starts _ c.args.context _ e) (rw (← c.line_at-line.ensures) c.false_value.ensures) c.one_token-in-False.ensures

pub returns-in_ok-bytes-in-Text : goal.returns-in_ok-bytes-in-Text
returns-in_ok-bytes-in-Text c =
    let e = is_class _ _ _ _ c.class_at.ensures c.in-Text.is in
    one_token_read _ c.args.context _ _ _ _ _ c.requires.ended c.requires.inside e text_not_eof (text_starts _ c.args.context _ e)
    (text_same _ _ _ _ _ c.line_at-line.ensures c.in_ok-bytes-in-Text.ensures c.text.ensures) c.one_token-in-Text.ensures

pub returns-in_default : goal.returns-in_default
returns-in_default c =
    rw c.fault_at-in_default.ensures (literal_unexpected _ _ _ _ c.requires.inside c.class_at.ensures c.requires.plain c.in_default.not-Nil c.in_default.not-True c.in_default.not-False c.in_default.not-Text c.in_default.not-Number c.in_default.not-Dots)

pub returns-then-context : goal.returns-then-context
returns-then-context c =
    let e = is_class _ _ _ _ c.class_at.ensures c.in-Dots.is in
    one_token_read _ c.args.context _ _ _ _ _ c.requires.ended c.requires.inside e dots_not_eof (dots_starts _ c.args.context _ e c.if-context.true) (rw (← c.line_at-line.ensures) c.dots.ensures) c.one_token-then-context.ensures

pub returns-then-context-gt200 : goal.returns-then-context-gt200
returns-then-context-gt200 c =
    rw c.fault_at-then-context-gt200.ensures (operand_deep _ c.args.context _ c.requires.inside c.if-context-gt200.true (dots_can _ c.args.context _ (is_class _ _ _ _ c.class_at.ensures c.in-Dots.is)))

pub returns-else-context-gt200 : goal.returns-else-context-gt200
returns-else-context-gt200 c =
    rw c.fault_at-in-Dots.ensures (dots_outside _ c.args.context _ c.requires.inside (is_class _ _ _ _ c.class_at.ensures c.in-Dots.is) c.if-context-gt200.false c.if-context.false)

pub returns-in_default-read_numeral : goal.returns-in_default-read_numeral
returns-in_default-read_numeral c =
    rw c.fault_at.ensures (number_invalid _ c.args.context _ c.requires.inside (is_class _ _ _ _ c.class_at.ensures c.in-Number.is)
    (ap read_numeral_of (sym c.bytes_at.ensures) ∙ sym c.read_numeral.ensures ∙ c.in_default-read_numeral.is))

pub returns-in-Some : goal.returns-in-Some
returns-in-Some c =
    let e = is_class _ _ _ _ c.class_at.ensures c.in-Number.is in
    let v : read_numeral_of (bytes_of (tok_at c.args.toks.now c.args.i)) ≡ Some c.in-Some.value = ap read_numeral_of (sym c.bytes_at.ensures) ∙ sym c.read_numeral.ensures ∙ c.in-Some.is in
    let f : SFits w64 c.in-Some.value = search rules in
    let n : expr_view c.number.result ≡ NumberE c.line_at-line.result c.in-Some.value = c.number.ensures ∙ ap (λ (z : ℤ). NumberE c.line_at-line.result z) (to_z-of_z w64 c.in-Some.value f) in
    one_token_read _ c.args.context _ _ _ _ _ c.requires.ended c.requires.inside e number_not_eof (number_starts _ c.args.context _ _ e v)
    (n ∙ ap (λ (z : ℕ). NumberE z c.in-Some.value) c.line_at-line.ensures) c.one_token-in-Number.ensures

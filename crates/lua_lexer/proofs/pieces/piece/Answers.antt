use Rattle.std.proofs.Common.{◌≡◌, ◌∙◌, ap, sym, true, false}
use Rattle.std.specs.Prelude.{Ok}
use Rattle.lua_syntax.specs.WkBaseSpace.{is_white}
use Rattle.lua_lexer.specs.Lexis.{at, is_letter, is_numeral, is_quote, opens_long, comment_of}
use Rattle.lua_lexer.proofs.PieceLemmas.{first_is, at_space, at_letter, at_numeral, at_quote, at_bracket, at_comment, at_mark, same_piece}
use Rattle.lua_lexer.proofs.pieces.piece.Goals as goal

pub returns-then-is_white-clause-found : goal.returns-then-is_white-clause-found
returns-then-is_white-clause-found c =
    at_space c.args.text.now (first_is is_white c.args.text.now _ _ true c.at-first.ensures.value c.is_white.ensures c.if-is_white.true) ∙ ap Ok (sym c.blank.ensures.found)

pub returns-then-is_letter-clause-found : goal.returns-then-is_letter-clause-found
returns-then-is_letter-clause-found c =
    let space : is_white (at c.args.text.now 0) ≡ false = first_is is_white c.args.text.now _ _ false c.at-first.ensures.value c.is_white.ensures c.if-is_white.false in
    same_piece _ _ _ (at_letter c.args.text.now space (first_is is_letter c.args.text.now _ _ true c.at-first.ensures.value c.is_letter.ensures c.if-is_letter.true)) c.word.ensures.found

pub returns-then-is_numeral-clause-found : goal.returns-then-is_numeral-clause-found
returns-then-is_numeral-clause-found c =
    let space : is_white (at c.args.text.now 0) ≡ false = first_is is_white c.args.text.now _ _ false c.at-first.ensures.value c.is_white.ensures c.if-is_white.false in
    let letter : is_letter (at c.args.text.now 0) ≡ false = first_is is_letter c.args.text.now _ _ false c.at-first.ensures.value c.is_letter.ensures c.if-is_letter.false in
    same_piece _ _ _ (at_numeral c.args.text.now space letter (sym c.is_numeral.ensures ∙ c.if-is_numeral.true)) c.numeral.ensures.found

pub returns-then-is_quote-clause-found : goal.returns-then-is_quote-clause-found
returns-then-is_quote-clause-found c =
    let space : is_white (at c.args.text.now 0) ≡ false = first_is is_white c.args.text.now _ _ false c.at-first.ensures.value c.is_white.ensures c.if-is_white.false in
    let letter : is_letter (at c.args.text.now 0) ≡ false = first_is is_letter c.args.text.now _ _ false c.at-first.ensures.value c.is_letter.ensures c.if-is_letter.false in
    let numeral : is_numeral c.args.text.now ≡ false = sym c.is_numeral.ensures ∙ c.if-is_numeral.false in
    same_piece _ _ _ (at_quote c.args.text.now space letter numeral (first_is is_quote c.args.text.now _ _ true c.at-first.ensures.value c.is_quote.ensures c.if-is_quote.true)) c.quoted.ensures.found

pub returns-then-opens_long-clause-found : goal.returns-then-opens_long-clause-found
returns-then-opens_long-clause-found c =
    let space : is_white (at c.args.text.now 0) ≡ false = first_is is_white c.args.text.now _ _ false c.at-first.ensures.value c.is_white.ensures c.if-is_white.false in
    let letter : is_letter (at c.args.text.now 0) ≡ false = first_is is_letter c.args.text.now _ _ false c.at-first.ensures.value c.is_letter.ensures c.if-is_letter.false in
    let numeral : is_numeral c.args.text.now ≡ false = sym c.is_numeral.ensures ∙ c.if-is_numeral.false in
    let quote : is_quote (at c.args.text.now 0) ≡ false = first_is is_quote c.args.text.now _ _ false c.at-first.ensures.value c.is_quote.ensures c.if-is_quote.false in
    same_piece _ _ _ (at_bracket c.args.text.now space letter numeral quote (sym c.opens_long.ensures ∙ c.if-opens_long.true)) c.bracketed.ensures.found

pub returns-then-opens_comment-clause-found : goal.returns-then-opens_comment-clause-found
returns-then-opens_comment-clause-found c =
    let space : is_white (at c.args.text.now 0) ≡ false = first_is is_white c.args.text.now _ _ false c.at-first.ensures.value c.is_white.ensures c.if-is_white.false in
    let letter : is_letter (at c.args.text.now 0) ≡ false = first_is is_letter c.args.text.now _ _ false c.at-first.ensures.value c.is_letter.ensures c.if-is_letter.false in
    let numeral : is_numeral c.args.text.now ≡ false = sym c.is_numeral.ensures ∙ c.if-is_numeral.false in
    let quote : is_quote (at c.args.text.now 0) ≡ false = first_is is_quote c.args.text.now _ _ false c.at-first.ensures.value c.is_quote.ensures c.if-is_quote.false in
    let bracket : opens_long c.args.text.now ≡ false = sym c.opens_long.ensures ∙ c.if-opens_long.false in
    same_piece _ _ _ (at_comment c.args.text.now space letter numeral quote bracket (sym c.opens_comment.ensures ∙ c.if-opens_comment.true) ∙ ap comment_of (sym c.rest.ensures)) c.comment.ensures.found

pub returns-clause-found : goal.returns-clause-found
returns-clause-found c =
    let space : is_white (at c.args.text.now 0) ≡ false = first_is is_white c.args.text.now _ _ false c.at-first.ensures.value c.is_white.ensures c.if-is_white.false in
    let letter : is_letter (at c.args.text.now 0) ≡ false = first_is is_letter c.args.text.now _ _ false c.at-first.ensures.value c.is_letter.ensures c.if-is_letter.false in
    let numeral : is_numeral c.args.text.now ≡ false = sym c.is_numeral.ensures ∙ c.if-is_numeral.false in
    let quote : is_quote (at c.args.text.now 0) ≡ false = first_is is_quote c.args.text.now _ _ false c.at-first.ensures.value c.is_quote.ensures c.if-is_quote.false in
    let bracket : opens_long c.args.text.now ≡ false = sym c.opens_long.ensures ∙ c.if-opens_long.false in
    same_piece _ _ _ (at_mark c.args.text.now space letter numeral quote bracket (sym c.opens_comment.ensures ∙ c.if-opens_comment.false)) c.mark.ensures.found

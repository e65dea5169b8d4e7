use Rattle.std.proofs.Common.{◌<◌, subst, sym, ℕ}
use Rattle.lua_lexer.proofs.PieceLemmas.{numeral_positive}
use Rattle.lua_lexer.proofs.pieces.numeral.Goals as goal

pub returns-in-Ok-clause-inside : goal.returns-in-Ok-clause-inside
returns-in-Ok-clause-inside c =
    let positive : 0 < c.numeral_size-size.result = subst (λ (n : ℕ). 0 < n) (sym c.numeral_size-size.ensures.size) (numeral_positive c.args.text.now c.requires.there c.requires.numeral) in
    (positive, c.numeral_size-size.ensures.inside)

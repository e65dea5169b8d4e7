use Rattle.lua_lexer.proofs.Steps.{numeral_size_is}
use Rattle.lua_lexer.proofs.marks.numeral_size.Goals as goal

pub returns-clause-size : goal.returns-clause-size
returns-clause-size c = numeral_size_is c.args.text.now _ _ _ _ _ c.number_run-digits.ensures.size c.rest-behind.ensures c.exponent_size-mark.ensures.size c.rest.ensures c.name_run.ensures.size

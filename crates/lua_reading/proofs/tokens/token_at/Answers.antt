use Rattle.std.proofs.Common.{◌∙◌}
use Rattle.std.proofs.lemmas.List.{get_or_default}
use Rattle.lua_grammar.specs.Tokens.{tok_at, end_token}
use Rattle.lua_reading.proofs.tokens.token_at.Goals as goal

pub returns : goal.returns
unfolding tok_at
returns c = c.index-toks-i.is ∙ get_or_default c.args.toks.now c.args.i _ end_token c.requires

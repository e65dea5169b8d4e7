use Rattle.lua_lexer.proofs.Steps.{long_text_is}
use Rattle.lua_lexer.proofs.brackets.long_text.Goals as goal

pub returns : goal.returns
returns c = long_text_is c.args.inside.now _ _ _ _ c.break_size.ensures.size c.min-first.ensures c.rest.ensures c.with_line_feeds.ensures

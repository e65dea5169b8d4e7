use Rattle.lua_parser.specs.LuaSyntaxView.{chunk_view}
use Rattle.wiki_texts.proofs.modules.code_of.Goals as goal

pub returns-in_ok-protos-in-Ok : goal.returns-in_ok-protos-in-Ok
returns-in_ok-protos-in-Ok c = (chunk_view c.in-Ok.chunk, (c.in-Ok.ensures.0, c.in-Ok.ensures.1, c.in-Ok.ensures.2.0), c.in_ok-protos-in-Ok.ensures.code)

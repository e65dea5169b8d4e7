use Rattle.lua_parser.proofs.lemmas.OneEnd.{lexed_ended}
use Rattle.lua_parser.proofs.parser.parse.Goals as goal

pub chunk-requires : goal.chunk-requires
chunk-requires c = rw c.as_slice-toks.ensures (lexed_ended _ _ c.in-Ok.ensures)

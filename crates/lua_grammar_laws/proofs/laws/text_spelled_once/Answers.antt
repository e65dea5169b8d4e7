use Rattle.lua_grammar_laws.proofs.Once.{text_spelled_once}
use Rattle.lua_grammar_laws.proofs.laws.text_spelled_once.Goals as goal

pub returns : goal.returns
returns c = text_spelled_once

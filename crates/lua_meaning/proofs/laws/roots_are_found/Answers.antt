use Rattle.lua_meaning.proofs.HtmlRoots.{found-of}
use Rattle.lua_meaning.proofs.laws.roots_are_found.Goals as goal

-- src/laws.rt
pub returns : goal.returns
returns c = found-of

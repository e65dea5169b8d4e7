use Rattle.lua_strings.proofs.Rows.{searched}
use Rattle.lua_strings.proofs.examples.searched.Goals as goal

pub returns : goal.returns
returns c = searched

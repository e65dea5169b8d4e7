use Rattle.lua_flat_laws.proofs.Replies.{ends_are_ends}
use Rattle.lua_flat_laws.proofs.laws.ends_are_ends.Goals as goal

pub returns : goal.returns
returns c = ends_are_ends

use Rattle.lua_flat_laws.proofs.Replies.{questions_are_asked}
use Rattle.lua_flat_laws.proofs.laws.questions_are_asked.Goals as goal

pub returns : goal.returns
returns c = questions_are_asked

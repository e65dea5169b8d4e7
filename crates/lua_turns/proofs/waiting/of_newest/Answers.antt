use Rattle.lua_turns.proofs.Freely.{newest_there}
use Rattle.lua_turns.proofs.waiting.of_newest.Goals as goal

pub returns-in-Some : goal.returns-in-Some
returns-in-Some c = c.of_frame.ensures c.args.frames.now (newest_there c.args.frames.now c.in-Some.frame.now (rw c.in-Some.is at c.get.ensures))

pub returns-in-None : goal.returns-in-None
returns-in-None c = tt

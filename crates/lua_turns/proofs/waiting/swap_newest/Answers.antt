use Rattle.lua_turns.proofs.Freely.{swapped_in}
use Rattle.lua_turns.proofs.waiting.swap_newest.Goals as goal

pub returns : goal.returns
returns c = λ f more h. swapped_in c.args.frames.now c.set.new.self c.args.frame f more c.set.ensures h

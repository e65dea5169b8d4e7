use Rattle.lua_turns.proofs.Freely.{dropped}
use Rattle.lua_turns.proofs.waiting.drop_newest.Goals as goal

pub returns : goal.returns
returns c = λ f more h. dropped c.args.frames.now c.cut.new.self f more (rw (c.saturating_sub.ensures, c.len-count.ensures) at c.cut.ensures) h

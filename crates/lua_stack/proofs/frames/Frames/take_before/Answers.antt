use Rattle.lua_stack.proofs.frames.Frames.take_before.Goals as goal

pub returns : goal.returns
returns c = λ rest before more h. let e = rw c.in-Some-Expression-MoreNext.is at c.pop.ensures in (cc, cc)

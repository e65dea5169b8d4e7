use Rattle.lua_blocks.proofs.forms.count.Goals as goal

pub returns : goal.returns
returns c = λ l. rw (c.step_of-step.ensures, c.deref.ensures, c.deref-2.ensures) at (c.loop_begins.ensures l)

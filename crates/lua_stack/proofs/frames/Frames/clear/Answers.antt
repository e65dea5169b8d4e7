use Rattle.std.proofs.Common.{◌∙◌, ◌-◌, length, arith}
use Rattle.std.proofs.lemmas.List.{drop_all}
use Rattle.lua_stack.proofs.frames.Frames.clear.Goals as goal

pub returns : goal.returns
returns c = c.cut.ensures ∙ drop_all (length c.self.inside.stack - 0) c.self.inside.stack (omega arith)

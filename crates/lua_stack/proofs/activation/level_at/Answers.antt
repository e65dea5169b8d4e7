use Rattle.std.proofs.Common.{◌∙◌, ap, sym}
use Rattle.std.specs.Option.{option_copied}
use Rattle.lua_stack.proofs.LevelLemmas.{no-line, no-function}
use Rattle.lua_stack.proofs.activation.level_at.Goals as goal

pub returns-in-None-line-clause-place : goal.returns-in-None-line-clause-place
returns-in-None-line-clause-place c = λ s. rw c.in-None-line.is (no-line s c.args.stack.now c.args.level)

pub returns-in-None-clause-place : goal.returns-in-None-clause-place
returns-in-None-clause-place c = λ s. no-function s c.args.stack.now c.args.line c.args.level (ap option_copied (sym c.in-None.is) ∙ c.get.ensures)

use Rattle.std.proofs.Common.{◌∙◌, ap}
use Rattle.std.proofs.lemmas.Result.{IfOk-weaker}
use Rattle.lua_uses.specs.Modules.{answer_of}
use Rattle.lua_lint.specs.Reading.{reads_seen}
use Rattle.lua_lint.proofs.globals.uses.Goals as goal

pub returns : goal.returns
returns c = IfOk-weaker c.answer.result _ _ (λ a e. e ∙ ap answer_of (ap reads_seen c.as_slice.ensures ∙ c.in_ok-reads.ensures)) c.answer.ensures

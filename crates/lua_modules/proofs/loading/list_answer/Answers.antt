use Rattle.std.proofs.Common.{◌∙◌, ap, sym}
use Rattle.lua_modules.specs.Answers.{one_answer_in}
use Rattle.lua_modules.proofs.GivenModules.{nothing, single, several}
use Rattle.lua_modules.proofs.loading.list_answer.Goals as goal

pub returns-then-count-eq0 : goal.returns-then-count-eq0
returns-then-count-eq0 c = nothing c.args.values.now (sym c.len-count.ensures ∙ c.if-count-eq0.true)

pub returns-then-count-eq1 : goal.returns-then-count-eq1
returns-then-count-eq1 c = c.one_answer.ensures ∙ ap one_answer_in c.first.ensures ∙ single c.args.values.now (sym c.len-count.ensures ∙ c.if-count-eq1.true)

pub returns : goal.returns
returns c = several c.args.values.now (λ e. c.if-count-eq0.false (c.len-count.ensures ∙ e)) (λ e. c.if-count-eq1.false (c.len-count.ensures ∙ e))

use Rattle.std.proofs.Common.{◌∙◌, ap, sym}
use Rattle.page_ground.specs.Ending.{text_in_value}
use Rattle.page_ground.proofs.MachineEnds.{single, not_single}
use Rattle.page_ground.proofs.ending.text_in_list.Goals as goal

pub returns-then-count-eq1 : goal.returns-then-count-eq1
returns-then-count-eq1 c = c.text_in.ensures ∙ ap text_in_value c.first.ensures ∙ single c.args.values.now (sym c.len-count.ensures ∙ c.if-count-eq1.true)

pub returns : goal.returns
returns c = not_single c.args.values.now (λ e. c.if-count-eq1.false (c.len-count.ensures ∙ e))

use Rattle.std.proofs.Common.{◌∙◌, ap, List, ℕ, ◌++◌}
use Rattle.std.specs.Prelude.{codes}
use Rattle.wk_tool.specs.declared.report.Status.TheVariants.{NoSuchPage}
use Rattle.wk_tool.specs.Report.{line, refusal}
use Rattle.wk_tool.proofs.report.missing_report.Goals as goal

pub returns : goal.returns
returns c =
    c.refusal.ensures
    ∙ ap (refusal NoSuchPage) (c.in_ok-err.ensures ∙ ap (λ (t : List ℕ). line c.args.tool.now (codes "no such page: " ++ t)) (c.as_slice.ensures ∙ c.in_ok-text.ensures))

use Rattle.std.proofs.Common.{refl}
use Rattle.std.specs.Prelude.{is_ok}
use Rattle.wk_tool.specs.Report.{usage_report}
use Rattle.wk_tool.proofs.EndLemmas.{report_put, behind}
use Rattle.wk_tool.proofs.ending.finish_usage.Goals as goal

pub returns-clause-ends : goal.returns-clause-ends
returns-clause-ends g c =
    report_put c.put_both.result _ (usage_report c.args.usage.now) _ _ _ _ _ _ _ _ c.after_put.ensures refl refl c.put_both.ensures.out_ok c.put_both.ensures.err_ok c.put_both.ensures.out_some c.put_both.ensures.err_some c.put_both.ensures.cause

pub returns-clause-status : goal.returns-clause-status
returns-clause-status g c = behind (is_ok c.put_both.result) 2 _ c.after_put.ensures

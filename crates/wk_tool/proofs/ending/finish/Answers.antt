use Rattle.std.proofs.Common.{refl}
use Rattle.wk_tool.proofs.EndLemmas.{report_put}
use Rattle.wk_tool.proofs.ending.finish.Goals as goal

pub returns-in-Ok : goal.returns-in-Ok
returns-in-Ok g c =
    rw c.in-Ok.is
    (report_put c.put_both.result _ c.in-Ok.report _ _ _ _ _ _ _ _ c.after_put.ensures c.as_slice.ensures c.as_slice-in-Ok.ensures c.put_both.ensures.out_ok c.put_both.ensures.err_ok c.put_both.ensures.out_some c.put_both.ensures.err_some c.put_both.ensures.cause)

pub returns-in-Err : goal.returns-in-Err
returns-in-Err g c = rw c.in-Err.is (refl, c.put_unread.ensures)

use Rattle.wk_base.proofs.TitleReading.{reads, if_ok, if_err}
use Rattle.wk_base.proofs.title.Title.read.Goals as goal

pub returns-clause-title : goal.returns-clause-title
returns-clause-title c =
    if_ok _ _ (reads _ _ _ _ c.open_colon-default.result c.unwrap_or-ns.result c.cut_prefix.result c.title_in.result c.trim.ensures c.open_colon-default.ensures c.cut_prefix.ensures c.unwrap_or-ns.ensures c.in_ok-tidy_name.ensures c.title_in.ensures)

pub returns-clause-fault : goal.returns-clause-fault
returns-clause-fault c =
    if_err _ _ _ (reads _ _ _ _ c.open_colon-default.result c.unwrap_or-ns.result c.cut_prefix.result c.title_in.result c.trim.ensures c.open_colon-default.ensures c.cut_prefix.ensures c.unwrap_or-ns.ensures c.in_ok-tidy_name.ensures c.title_in.ensures)

use Rattle.std.proofs.Common.{◌∙◌, sym}
use Rattle.page_tasks.proofs.Answering.{no_text}
use Rattle.page_driver.proofs.page.text_in.Goals as goal

pub returns-in-Ended : goal.returns-in-Ended
returns-in-Ended c = rw c.in-Ended.is c.outcome_text.ensures

pub returns-in-Data : goal.returns-in-Data
returns-in-Data c = rw c.in-Data.is (c.no_text.ensures ∙ sym (no_text _))

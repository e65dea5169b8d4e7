use Rattle.mw_htmls.proofs.Lines.{in-table}
use Rattle.mw_htmls.proofs.table.html_functions_are_in_the_table.Goals as goal

pub returns : goal.returns
returns c = in-table

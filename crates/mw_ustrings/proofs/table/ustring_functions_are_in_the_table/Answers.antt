use Rattle.mw_ustrings.proofs.Lines.{in-table}
use Rattle.mw_ustrings.proofs.table.ustring_functions_are_in_the_table.Goals as goal

pub returns : goal.returns
returns c = in-table

use Rattle.mw_frame_calls.proofs.Lines.{in-table, no-other}
use Rattle.mw_frame_calls.proofs.table.frame_functions_are_in_the_table.Goals as goal

pub returns-clause-table : goal.returns-clause-table
returns-clause-table c = in-table

pub returns-clause-all : goal.returns-clause-all
returns-clause-all c = no-other

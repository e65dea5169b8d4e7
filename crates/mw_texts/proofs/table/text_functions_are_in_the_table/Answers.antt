use Rattle.mw_texts.proofs.Lines.{in-table}
use Rattle.mw_texts.proofs.table.text_functions_are_in_the_table.Goals as goal

pub returns : goal.returns
returns c = in-table

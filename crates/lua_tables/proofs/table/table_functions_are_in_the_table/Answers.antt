use Rattle.lua_tables.proofs.Lines.{in-table}
use Rattle.lua_tables.proofs.table.table_functions_are_in_the_table.Goals as goal

pub returns : goal.returns
returns c = in-table

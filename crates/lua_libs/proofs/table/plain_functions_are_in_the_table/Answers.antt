use Rattle.lua_libs.proofs.Lines.{in-table}
use Rattle.lua_libs.proofs.table.plain_functions_are_in_the_table.Goals as goal

pub returns : goal.returns
returns c = in-table

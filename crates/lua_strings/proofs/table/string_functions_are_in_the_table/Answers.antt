use Rattle.lua_strings.proofs.Lines.{in-table}
use Rattle.lua_strings.proofs.table.string_functions_are_in_the_table.Goals as goal

pub returns : goal.returns
returns c = in-table

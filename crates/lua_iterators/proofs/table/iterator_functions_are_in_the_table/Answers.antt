use Rattle.lua_iterators.proofs.Lines.{in-table}
use Rattle.lua_iterators.proofs.table.iterator_functions_are_in_the_table.Goals as goal

pub returns : goal.returns
returns c = in-table

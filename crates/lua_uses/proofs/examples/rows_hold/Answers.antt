use Rattle.lua_uses.proofs.RowLemmas as rows
use Rattle.lua_uses.proofs.examples.rows_hold.Goals as goal

pub returns : goal.returns
returns c = rows.rows_hold

use Rattle.lua_store.proofs.Later.{contents_of-later, table-later}
use Rattle.lua_store.proofs.laws.tables_stay.Goals as goal

pub returns : goal.returns
returns c = λ s t x l h. (contents_of-later s t l x h, table-later s t l x h)

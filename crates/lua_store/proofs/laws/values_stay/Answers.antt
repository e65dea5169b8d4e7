use Rattle.lua_store.proofs.Later.{of-later, seen-later}
use Rattle.lua_store.proofs.laws.values_stay.Goals as goal

pub returns : goal.returns
returns c = λ s t v l h. (of-later s t l v h, seen-later s t l v h)

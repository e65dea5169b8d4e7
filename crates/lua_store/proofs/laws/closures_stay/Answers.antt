use Rattle.lua_store.proofs.Later.{content_of-later, closure-later}
use Rattle.lua_store.proofs.laws.closures_stay.Goals as goal

pub returns : goal.returns
returns c = λ s t x l h. (content_of-later s t l x h, closure-later s t l x h)

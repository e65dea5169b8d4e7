-- The law, at the types of the function.
use Rattle.lua_library_agree.proofs.LibraryLaws.{homes_agree}
use Rattle.lua_library_agree.proofs.laws.homes_agree.Goals as goal

pub returns : goal.returns
returns g c = homes_agree g.X.Content.stands_for

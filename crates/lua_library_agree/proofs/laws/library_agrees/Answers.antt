-- The law, at the types of the function.
use Rattle.lua_library_agree.proofs.LibraryLaws.{library_agrees}
use Rattle.lua_library_agree.proofs.laws.library_agrees.Goals as goal

pub returns : goal.returns
returns g c = library_agrees g.X.Content.stands_for

-- The law, at the types of the function.
use Rattle.lua_library_agree.proofs.LibraryLaws.{strict_agrees}
use Rattle.lua_library_agree.proofs.laws.strict_agrees.Goals as goal

pub returns : goal.returns
returns g c = strict_agrees g.X.Content.stands_for

-- The law, at the types of the function.
use Rattle.lua_library_agree.proofs.LibraryLaws.{graphs_join}
use Rattle.lua_library_agree.proofs.laws.graphs_join.Goals as goal

pub returns : goal.returns
returns g c = graphs_join g.X.Content.stands_for

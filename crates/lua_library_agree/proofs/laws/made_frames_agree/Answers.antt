-- The law, at the types of the function.
use Rattle.lua_library_agree.proofs.LibraryLaws.{made_frames_agree}
use Rattle.lua_library_agree.proofs.laws.made_frames_agree.Goals as goal

pub returns : goal.returns
returns g c = made_frames_agree g.X.Content.stands_for

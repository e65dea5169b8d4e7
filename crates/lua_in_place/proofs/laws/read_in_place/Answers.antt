use Rattle.lua_in_place.proofs.Reading.{read_in_place}
use Rattle.lua_in_place.proofs.laws.read_in_place.Goals as goal

pub returns : goal.returns
returns c = read_in_place

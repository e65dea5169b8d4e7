use Rattle.lua_in_place.proofs.Listing.{list_read_in_place}
use Rattle.lua_in_place.proofs.laws.list_read_in_place.Goals as goal

pub returns : goal.returns
returns c = list_read_in_place

use Rattle.lua_string.proofs.WalkLemmas as walks
use Rattle.lua_string.proofs.walking.going_on.Goals as goal

pub returns : goal.returns
returns g c = walks.going_on g.A.Alphabet.letters g.met.A.Alphabet.lawful

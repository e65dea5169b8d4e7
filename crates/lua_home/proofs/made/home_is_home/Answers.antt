use Rattle.std.proofs.Common.{refl}
use Rattle.lua_home.proofs.made.home_is_home.Goals as goal

pub returns : goal.returns
returns c = refl

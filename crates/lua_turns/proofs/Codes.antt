-- What code is seen as, one level at a time.
use Rattle.lua_code.proofs.Views.{seen}

pub ruleset codes = (seen)

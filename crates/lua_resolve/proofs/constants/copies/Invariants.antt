use Rattle.std.proofs.Common.{◌≡◌, ◌++◌, drop}
use Rattle.lua_resolve.specs.Constants.{bytes_of}
use Rattle.lua_resolve.proofs.constants.copies.Given as goal

abbrev pub invariant-loop-at : goal.invariant-loop-at
invariant-loop-at l = l.list ++ bytes_of (drop l.at l.met.keys) ≡ bytes_of l.met.keys

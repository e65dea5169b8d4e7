use Rattle.std.proofs.Common.{◌<◌, length, ◌-◌}
use Rattle.lua_reading.proofs.functions.Bodies.{Params_so_far}
use Rattle.lua_parser.proofs.params.params.Given as goal

abbrev pub invariant-params : goal.invariant-params
invariant-params l = (l.at < length l.toks) × Params_so_far l.toks l.i l.names l.at

abbrev pub decreases-params : goal.decreases-params
decreases-params l = length l.toks - l.at

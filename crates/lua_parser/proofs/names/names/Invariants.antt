use Rattle.std.proofs.Common.{length, ◌-◌}
use Rattle.lua_reading.proofs.lists.Names.{NamesRead}
use Rattle.lua_parser.proofs.names.names.Given as goal

abbrev pub invariant-names : goal.invariant-names
invariant-names l = NamesRead l.toks l.i l.tree l.end

abbrev pub decreases-names : goal.decreases-names
decreases-names l = length l.toks - l.end

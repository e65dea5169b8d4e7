use Rattle.std.proofs.Common.{◌≡◌, drop}
use Rattle.lua_uses.specs.Modules.{hidden_in}
use Rattle.lua_lint.specs.Seen.{uses_seen}
use Rattle.lua_lint.proofs.globals.hidden_in.Given as goal

abbrev pub invariant-loop-u : goal.invariant-loop-u
invariant-loop-u l = hidden_in l.place (uses_seen (drop l.u-index l.uses)) ≡ hidden_in l.place (uses_seen l.uses)

use Rattle.std.proofs.Common.{◌≡◌, drop}
use Rattle.lua_uses.specs.Modules.{with_uses}
use Rattle.lua_lint.specs.Seen.{uses_seen}
use Rattle.lua_lint.specs.Reading.{names_in}
use Rattle.lua_lint.proofs.globals.add_uses.Given as goal

abbrev pub invariant-loop-u : goal.invariant-loop-u
invariant-loop-u l = with_uses (names_in l.names.keys) (uses_seen (drop l.u-index l.uses)) ≡ with_uses (names_in l.initial.names.keys) (uses_seen l.uses)

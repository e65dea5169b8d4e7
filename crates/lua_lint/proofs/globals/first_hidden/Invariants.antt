use Rattle.std.proofs.Common.{◌≡◌, drop}
use Rattle.lua_uses.specs.Modules.{first_hidden}
use Rattle.lua_lint.specs.Reading.{reads_seen}
use Rattle.lua_lint.proofs.globals.first_hidden.Given as goal

abbrev pub invariant-loop-read : goal.invariant-loop-read
invariant-loop-read l = first_hidden (reads_seen (drop l.read-index l.reads)) ≡ first_hidden (reads_seen l.reads)

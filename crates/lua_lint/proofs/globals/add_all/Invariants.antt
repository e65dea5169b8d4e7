use Rattle.std.proofs.Common.{◌≡◌, drop}
use Rattle.lua_uses.specs.Modules.{names_from}
use Rattle.lua_lint.specs.Reading.{reads_seen, names_in}
use Rattle.lua_lint.proofs.globals.add_all.Given as goal

abbrev pub invariant-loop-read : goal.invariant-loop-read
invariant-loop-read l = names_from (names_in l.names.keys) (reads_seen (drop l.read-index l.reads)) ≡ names_from (names_in l.initial.names.keys) (reads_seen l.reads)

use Rattle.std.proofs.Common.{◌≡◌, ◌-◌, ◌++◌, length, map}
use Rattle.lua_uses.specs.Modules.{reach, read_at}
use Rattle.lua_lint.specs.Reading.{modules_seen, reads_seen}
use Rattle.lua_lint.proofs.reading.read_reached.Given as goal

abbrev pub invariant-loop-next : goal.invariant-loop-next
invariant-loop-next l = reads_seen l.all ++ map (read_at (modules_seen l.modules)) (reach (modules_seen l.modules) (length l.modules - l.next) l.next l.seen.keys) ≡ reads_seen l.initial.all ++ map (read_at (modules_seen l.modules)) (reach (modules_seen l.modules) (length l.modules) 0 l.initial.seen.keys)

use Rattle.std.proofs.Common.{◌≡◌, List, drop}
use Rattle.lua_uses.specs.Modules.{Named, with_required}
use Rattle.lua_lint.specs.Seen.{uses_seen}
use Rattle.lua_lint.specs.Reading.{ArePlaced}
use Rattle.lua_lint.proofs.reading.require_all.Given as goal

abbrev pub invariant-loop-u : goal.invariant-loop-u
invariant-loop-u l = (modules : List Named) → ArePlaced modules l.places.entries → with_required modules l.seen.keys (uses_seen (drop l.u-index l.uses)) ≡ with_required modules l.initial.seen.keys (uses_seen l.uses)

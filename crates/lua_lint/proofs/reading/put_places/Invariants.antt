use Rattle.std.proofs.Common.{◌≡◌, ◌≤◌, drop, length}
use Rattle.lua_uses.specs.Modules.{place_from}
use Rattle.wk_base.specs.declared.title.Title.{Title}
use Rattle.lua_lint.specs.Reading.{modules_seen, place_at}
use Rattle.lua_lint.proofs.reading.put_places.Given as goal

abbrev pub invariant-loop-place : goal.invariant-loop-place
invariant-loop-place l = ((x : Title) → place_at l.places.entries x ≡ place_from l.place (drop l.place (modules_seen l.modules)) x) × (l.place ≤ length l.modules)

abbrev pub decreases-loop-place : goal.decreases-loop-place
decreases-loop-place l = l.place

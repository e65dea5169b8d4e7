use Rattle.std.proofs.Common.{◌≡◌, drop}
use Rattle.lua_uses.specs.Modules.{place_from}
use Rattle.lua_lint.specs.Reading.{modules_seen}
use Rattle.wiki_lint.proofs.linting.place_of.Given as goal

abbrev pub invariant-loop-place : goal.invariant-loop-place
invariant-loop-place l = place_from l.place (drop l.place (modules_seen l.modules)) l.title ≡ place_from 0 (modules_seen l.modules) l.title

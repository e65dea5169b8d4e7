use Rattle.std.proofs.Common.{◌≡◌, ◌++◌, length}
use Rattle.lua_modules.specs.LuaStackOf.{TextsOf}
use Rattle.lua_modules.specs.LuaStackSeen.{joined_seen}
use Rattle.lua_runs.proofs.answers.joined.Given as goal

abbrev pub invariant-texts : goal.invariant-texts
invariant-texts l = TextsOf l.store l.rest × (l.made.items ++ joined_seen l.store.texts l.rest ≡ joined_seen l.store.texts l.ids)

abbrev pub decreases-texts : goal.decreases-texts
decreases-texts l = length l.rest

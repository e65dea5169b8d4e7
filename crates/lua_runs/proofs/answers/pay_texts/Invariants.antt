use Rattle.std.proofs.Common.{length}
use Rattle.lua_modules.specs.LuaStackOf.{TextsOf}
use Rattle.lua_modules.specs.LuaStackSeen.{joined_seen}
use Rattle.lua_runs.proofs.Sums.{PaidSoFar}
use Rattle.lua_runs.proofs.answers.pay_texts.Given as goal

abbrev pub invariant-texts : goal.invariant-texts
invariant-texts l = TextsOf l.store l.rest × PaidSoFar l.initial.left l.left (length (joined_seen l.store.texts l.rest)) (length (joined_seen l.store.texts l.ids))

abbrev pub decreases-texts : goal.decreases-texts
decreases-texts l = length l.rest

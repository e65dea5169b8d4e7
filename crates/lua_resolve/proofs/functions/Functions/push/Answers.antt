use Rattle.lua_resolve.proofs.FinishedLaws.{pushed}
use Rattle.lua_resolve.proofs.functions.Functions.push.Goals as goal

pub invariant_of-self : goal.invariant_of-self
invariant_of-self c = pushed _ _ _ _ _ c.self.invariant c.in_ok-tight.ensures c.in-Ok.ensures.ok

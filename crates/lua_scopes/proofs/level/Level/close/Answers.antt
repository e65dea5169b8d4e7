use Rattle.std.proofs.Common.{subst, ◌<◌, ◌≤◌, arith}
use Rattle.lua_scopes.proofs.SpotLaws.{closed_start, closed_step, closed_end, fewer}
use Rattle.lua_scopes.proofs.level.Level.close.Goals as goal

pub loop-self-init : goal.loop-self-init
loop-self-init c = closed_start _ _ _

pub loop-self-preserved : goal.loop-self-preserved
loop-self-preserved c = closed_step _ _ _ _ _ _ _ c.loop-self.invariant (subst (λ n. c.args.count < n) c.len.ensures c.loop-self-test.true) c.in_ok-end_newest.ensures

pub loop-self-smaller : goal.loop-self-smaller
loop-self-smaller c = fewer _ _ _ _ _ (subst (λ n. c.args.count < n) c.len.ensures c.loop-self-test.true) c.in_ok-end_newest.ensures

pub returns : goal.returns
returns c = closed_end _ _ _ _ _ c.loop-self.invariant (omega (arith, c.len.ensures, c.loop-self-test.false))

use Rattle.std.proofs.Common.{subst, ◌<◌, arith}
use Rattle.lua_lint.proofs.ScopeLemmas.{closing, closing_falls, closed}
use Rattle.lua_lint.proofs.scopes.Scope.close.Goals as goal

pub loop-self-preserved : goal.loop-self-preserved
loop-self-preserved c = closing c.args.count _ _ _ c.loop-self.invariant (subst (λ n. c.args.count < n) c.len.ensures c.loop-self-test.true) c.in_ok-end_newest.ensures

pub loop-self-smaller : goal.loop-self-smaller
loop-self-smaller c = closing_falls c.args.count _ _ (subst (λ n. c.args.count < n) c.len.ensures c.loop-self-test.true) c.in_ok-end_newest.ensures

pub returns : goal.returns
returns c = closed c.args.count _ _ c.loop-self.invariant (omega (arith, c.len.ensures, c.loop-self-test.false))

use Rattle.std.proofs.Common.{subst, ◌<◌, arith}
use Rattle.lua_cells.proofs.RegisterLaws.{closing_step, closing_end, fewer}
use Rattle.lua_cells.proofs.registers.Registers.close.Goals as goal

pub loop-self-preserved : goal.loop-self-preserved
loop-self-preserved c = closing_step _ _ _ _ c.loop-self.invariant (subst (λ n. c.args.count < n) c.len.ensures c.loop-self-test.true) c.end_one.ensures

pub loop-self-smaller : goal.loop-self-smaller
loop-self-smaller c = fewer _ _ _ (subst (λ n. c.args.count < n) c.len.ensures c.loop-self-test.true) c.end_one.ensures

pub returns : goal.returns
returns c = closing_end _ _ _ c.loop-self.invariant (omega (arith, c.len.ensures, c.loop-self-test.false))

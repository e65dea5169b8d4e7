use Rattle.std.proofs.lemmas.Result.{IfOk-weaker}
use Rattle.std.specs.Prelude.{◌∷◌}
use Rattle.lua_code.specs.Seen.{expression_seen, block_seen}
use Rattle.lua_state.specs.LuaSlotsPoints.{WhileTest, Evals, Now}
use Rattle.lua_state.specs.Seen.{frames_of}
use Rattle.lua_loops.proofs.Left.{with_regs_of, after_cut}
use Rattle.lua_loops.proofs.endings.end_while.Goals as goal

pub wait-requires-clause-state : goal.wait-requires-clause-state
wait-requires-clause-state c = with_regs_of c.args.store.now c.args.state.now c.keep_oldest.new.regs c.requires.state (c.keep_oldest.ensures.of c.args.store.now c.requires.state.regs)

pub returns : goal.returns
returns c = λ l.
    IfOk-weaker c.wait.result _ _ (λ r e. after_cut c.args.store.now c.args.store.now c.args.state.now c.wait.new.state c.keep_oldest.new.regs c.args.depth l l
    (λ x. Now (Evals (expression_seen c.args.test.now) (WhileTest (expression_seen c.args.test.now) (block_seen c.args.body.now) ∷ frames_of c.args.store.now c.args.state.now)) x) _
    (c.keep_oldest.ensures.cuts c.args.store.now.texts) e) (c.wait.ensures l)

use Rattle.std.proofs.lemmas.Result.{IfOk-weaker}
use Rattle.lua_state.specs.Seen.{slots_of, frames_of}
use Rattle.lua_loops.proofs.Parts.{stepped}
use Rattle.lua_loops.proofs.bounds.test_repeat.Goals as goal

pub finish-requires-clause-step : goal.finish-requires-clause-step
finish-requires-clause-step c = c.repeat_next-step.ensures.of c.args.store.now

pub returns : goal.returns
returns c =
    IfOk-weaker c.finish.result _ _ (λ r e. stepped c.args.store.now c.finish.new.store c.args.state.now c.args.state.now.frames c.args.left.now c.finish.new.left _ c.repeat_next-step.result _
    (c.repeat_next-step.ensures.move_ c.args.store.now (frames_of c.args.store.now c.args.state.now) (slots_of c.args.store.now c.args.state.now)) e) c.finish.ensures.makes

use Rattle.std.proofs.lemmas.Result.{IfOk-weaker}
use Rattle.lua_state.specs.Seen.{slots_of, frames_of}
use Rattle.lua_loops.proofs.Parts.{stepped}
use Rattle.lua_loops.proofs.bounds.next_results.Goals as goal

pub returns : goal.returns
returns c =
    IfOk-weaker c.finish.result _ _ (λ r e. stepped c.args.store.now c.finish.new.store c.args.state.now c.args.state.now.frames c.args.left.now c.finish.new.left _ c.each_next-step.result _
    (c.each_next-step.ensures.move_ (frames_of c.args.store.now c.args.state.now) (slots_of c.args.store.now c.args.state.now)) e) c.finish.ensures.makes

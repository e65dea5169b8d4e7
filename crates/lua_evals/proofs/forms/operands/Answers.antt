use Rattle.std.proofs.lemmas.Result.{IfOk-weaker}
use Rattle.std.proofs.Common.{ap}
use Rattle.lua_state.specs.LuaArmsPaid.{behind_node}
use Rattle.lua_state.specs.Seen.{constants_in, slots_of}
use Rattle.lua_evals.proofs.Ends.{with_frames_of, stepped}
use Rattle.lua_evals.proofs.forms.operands.Goals as goal

pub finish-requires-clause-state : goal.finish-requires-clause-state
finish-requires-clause-state c = with_frames_of c.args.store.now c.args.state.now c.begin_operands.new.frames c.requires.state c.in_ok-step.ensures.of.1

pub returns : goal.returns
returns c =
    IfOk-weaker c.finish.result _ _ (λ r e. stepped c.args.store.now c.finish.new.store c.args.state.now c.begin_operands.new.frames c.args.left.now c.finish.new.left _ c.in_ok-step.step _
    (ap behind_node (c.in_ok-step.ensures.move_ (constants_in c.args.store.now c.args.state.now) (slots_of c.args.store.now c.args.state.now))) e) c.finish.ensures.makes

use Rattle.std.proofs.lemmas.Result.{IfOk-weaker}
use Rattle.lua_environment.specs.LuaStackDeclaredFocusFocusTheVariants as focus
use Rattle.lua_blocks.specs.LuaStateSeen.{slots_of}
use Rattle.lua_runs.specs.LuaStateWorlds.{world_seen}
use Rattle.lua_machine.proofs.Moves.{values_given, at_end, end_stays}
use Rattle.lua_machine.proofs.moving.give.Goals as goal

pub returns-in-Some : goal.returns-in-Some
returns-in-Some c = IfOk-weaker c.give_frame.result _ _
    (λ r e k. values_given c.args.store.now c.args.state.now c.args.left.now k c.in-Some.frame c.pop.new.self c.give_frame.new.store c.give_frame.new.state c.give_frame.new.left r c.in-Some.ensures c.args.values e)
    c.give_frame.ensures

pub returns-in-None : goal.returns-in-None
returns-in-None c = λ k. at_end c.args.store.now c.args.state.now c.pop.new.self (focus.Gives c.args.values) c.args.left.now k c.in-None.ensures.0 c.in-None.ensures.1 c.requires.state c.requires.values
    (end_stays (world_seen c.args.state.now.codes.world) c.args.store.now c.args.state.now.frames _ (slots_of c.args.store.now c.args.state.now) c.in-None.ensures.0)

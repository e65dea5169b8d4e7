use Rattle.std.proofs.lemmas.Result.{IfOk-weaker}
use Rattle.lua_code.specs.Seen.{expression_seen, block_seen}
use Rattle.lua_code.specs.LuaSlotsLoops.{repeat_next}
use Rattle.lua_state.specs.LuaStoreSeen.{seen}
use Rattle.lua_state.specs.Seen.{frames_of}
use Rattle.lua_loops.proofs.Left.{with_regs_of, after_cut}
use Rattle.lua_loops.proofs.endings.end_repeat.Goals as goal

pub test_repeat-requires : goal.test_repeat-requires
test_repeat-requires c = record { state = with_regs_of c.args.store.now c.args.state.now c.keep_oldest.new.regs c.requires.state (c.keep_oldest.ensures.of c.args.store.now c.requires.state.regs) }

pub returns : goal.returns
returns c =
    IfOk-weaker c.test_repeat.result _ _ (λ r e. after_cut c.args.store.now c.test_repeat.new.store c.args.state.now _ c.keep_oldest.new.regs c.args.depth c.args.left.now c.test_repeat.new.left
    (λ x. repeat_next (block_seen c.args.body.now) (expression_seen c.args.test.now) (seen c.args.store.now.texts c.args.value) (frames_of c.args.store.now c.args.state.now) x) _
    (c.keep_oldest.ensures.cuts c.args.store.now.texts) e) c.test_repeat.ensures

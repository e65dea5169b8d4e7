use Rattle.std.proofs.lemmas.Result.{IfOk-weaker}
use Rattle.lua_code.specs.Seen.{block_seen}
use Rattle.lua_code.specs.LuaSlotsLoops.{each_from}
use Rattle.lua_state.specs.LuaStoreSeen.{seen}
use Rattle.lua_state.specs.Seen.{frames_of}
use Rattle.lua_loops.proofs.Left.{with_regs_of, after_cut}
use Rattle.lua_loops.proofs.endings.end_each.Goals as goal

pub call_iterator-requires-clause-state : goal.call_iterator-requires-clause-state
call_iterator-requires-clause-state c = with_regs_of c.args.store.now c.args.state.now c.keep_oldest.new.regs c.requires.state (c.keep_oldest.ensures.of c.args.store.now c.requires.state.regs)

pub returns : goal.returns
returns c =
    IfOk-weaker c.call_iterator.result _ _ (λ r e. after_cut c.args.store.now c.call_iterator.new.store c.args.state.now c.call_iterator.new.state c.keep_oldest.new.regs c.args.depth c.args.left.now c.call_iterator.new.left
    (λ x. each_from c.args.each.value.flags.now (seen c.args.store.now.texts c.args.each.value.iterator) (seen c.args.store.now.texts c.args.each.value.state) (seen c.args.store.now.texts c.args.before) (block_seen c.args.each.value.body.now) c.args.each.value.line (frames_of c.args.store.now c.args.state.now) x) _
    (c.keep_oldest.ensures.cuts c.args.store.now.texts) e) c.call_iterator.ensures

use Rattle.std.proofs.lemmas.Result.{IfOk-weaker}
use Rattle.lua_code.specs.Seen.{block_seen}
use Rattle.lua_code.specs.LuaSlotsLoops.{count_next}
use Rattle.lua_state.specs.Seen.{frames_of}
use Rattle.lua_loops.proofs.Left.{with_regs_of, after_cut}
use Rattle.lua_loops.proofs.endings.end_count.Goals as goal

pub next_index-requires : goal.next_index-requires
next_index-requires c = record { state = with_regs_of c.args.store.now c.args.state.now c.keep_oldest.new.regs c.requires.state (c.keep_oldest.ensures.of c.args.store.now c.requires.state.regs) }

pub returns : goal.returns
returns c =
    IfOk-weaker c.next_index.result _ _ (λ r e. after_cut c.args.store.now c.next_index.new.store c.args.state.now _ c.keep_oldest.new.regs c.args.depth c.args.left.now c.next_index.new.left
    (λ x. count_next c.args.boxed c.args.range.0 c.args.range.1 c.args.range.2 (block_seen c.args.body.now) (frames_of c.args.store.now c.args.state.now) x) _
    (c.keep_oldest.ensures.cuts c.args.store.now.texts) e) c.next_index.ensures

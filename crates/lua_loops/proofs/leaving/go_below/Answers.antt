use Rattle.lua_state.specs.LuaSlotsPoints.{Now}
use Rattle.lua_state.specs.LuaStackSeen.{focus_seen}
use Rattle.lua_state.specs.Seen.{frames_of}
use Rattle.lua_loops.proofs.Parts.{on}
use Rattle.lua_loops.proofs.Left.{with_regs, with_regs_of, after_cut}
use Rattle.lua_loops.proofs.leaving.go_below.Goals as goal

pub returns : goal.returns
returns c = λ l.
    after_cut c.args.store.now c.args.store.now c.args.state.now _ c.keep_oldest.new.regs c.args.depth l l (λ x. Now (focus_seen c.args.store.now c.args.focus (frames_of c.args.store.now c.args.state.now)) x) _ (c.keep_oldest.ensures.cuts c.args.store.now.texts)
    (on c.args.store.now (with_regs c.args.state.now c.keep_oldest.new.regs) c.args.state.now.frames l c.args.focus
    (with_regs_of c.args.store.now c.args.state.now c.keep_oldest.new.regs c.requires.state (c.keep_oldest.ensures.of c.args.store.now c.requires.state.regs)) c.requires.state.frames c.requires.focus)

use Rattle.std.proofs.Common.{refl, sym, []}
use Rattle.lua_loops.specs.PageRunOutcome.{Goes}
use Rattle.lua_operators.specs.LuaSlotsSlots.{cut}
use Rattle.lua_strides.specs.LuaStackDeclaredFocusFocusTheVariants as focus
use Rattle.lua_operators.specs.LuaStackDeclaredFrameFrameTheVariants as frame
use Rattle.lua_operators.specs.LuaStackDeclaredFrameEndingTheVariants as ending
use Rattle.lua_strides.specs.LuaStackDeclaredValuesGivenTheVariants as given
use Rattle.lua_loops.proofs.Left.{cut_slots}
use Rattle.lua_loops.specs.LuaStateSeen.{slots_of}
use Rattle.lua_turns.proofs.Freely.{popped_here}
use Rattle.lua_turns.proofs.ending.end_block.Goals as goal

pub returns : goal.returns
returns c = λ s l k values of.
    let m = c.args.state.now in
    let f = frame.End (ending.BlockEnd c.args.depth) in
    popped_here s m l k (Goes values) f c.requires.0 c.drop_newest.new.frames c.keep_oldest.new.regs (focus.Gives (given.Many [])) (cut c.args.depth (slots_of s m)) of c.requires.1
    (c.drop_newest.ensures f c.requires.0 c.requires.1) (c.keep_oldest.ensures.of s of.regs) tt (λ world gs. refl) (sym (cut_slots s m c.keep_oldest.new.regs c.args.depth (c.keep_oldest.ensures.cuts s.texts)))

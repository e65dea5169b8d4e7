use Rattle.std.proofs.Common.{refl, sym, [], ◌∷◌}
use Rattle.lua_loops.specs.PageRunOutcome.{Jumps}
use Rattle.lua_code.specs.LuaMeaningActs.{Returned}
use Rattle.lua_operators.specs.LuaSlotsSlots.{cut}
use Rattle.lua_operators.specs.LuaStoreSeen.{seen}
use Rattle.lua_strides.specs.LuaStackDeclaredFocusFocusTheVariants as focus
use Rattle.lua_strides.specs.LuaStackDeclaredFocusJumpTheVariants as jump
use Rattle.lua_operators.specs.LuaStackDeclaredFrameFrameTheVariants as frame
use Rattle.lua_operators.specs.LuaStackDeclaredFrameEndingTheVariants as ending
use Rattle.lua_strides.specs.LuaStackDeclaredValuesGivenTheVariants as given
use Rattle.lua_loops.proofs.Left.{cut_slots}
use Rattle.lua_loops.specs.LuaStateSeen.{slots_of}
use Rattle.lua_turns.proofs.Freely.{popped_here}
use Rattle.lua_turns.proofs.passing.pass_count.Goals as goal

pub returns : goal.returns
returns c = λ s l k of known.
    let m = c.args.state.now in
    let f = frame.End (ending.CountEnd c.args.count.depth c.args.count.boxed c.args.count.index c.args.count.limit c.args.count.step c.args.count.body) in
    popped_here s m l k (Jumps (Returned (seen s.texts c.args.value ∷ []))) f c.requires.0 c.drop_newest.new.frames c.keep_oldest.new.regs (focus.Jumps (jump.Returned (given.One c.args.value))) (cut c.args.count.depth (slots_of s m)) of c.requires.1
    (c.drop_newest.ensures f c.requires.0 c.requires.1) (c.keep_oldest.ensures.of s of.regs) (known, tt) (λ world gs. refl) (sym (cut_slots s m c.keep_oldest.new.regs c.args.count.depth (c.keep_oldest.ensures.cuts s.texts)))

use Rattle.std.proofs.Common.{refl}
use Rattle.page_run.specs.Outcome.{Goes}
use Rattle.lua_environment.specs.LuaStackDeclaredFocusFocusTheVariants as focus
use Rattle.lua_rows.specs.LuaStackDeclaredFrameEndingTheVariants as ending
use Rattle.lua_rows.specs.LuaStackDeclaredFrameFrameTheVariants as frame
use Rattle.lua_blocks.specs.LuaStackSeen.{given_seen}
use Rattle.lua_rows.proofs.LuaTurnsFreely.{left_library}
use Rattle.lua_machine.proofs.Loops.{goes_behind}
use Rattle.lua_machine.proofs.library.end_call.Goals as goal

pub returns-then-not-is_at_end : goal.returns-then-not-is_at_end
returns-then-not-is_at_end c = λ s m f l k t j goes. goes

pub returns : goal.returns
returns c = λ s m f l k t j goes.
    let end = frame.End ending.LibraryEnd in
    let newest = c.if-not-is_at_end.ensures.newest refl in
    let given = c.if-not-is_at_end.ensures.gives refl in
    let before = rw given.1 at goes in
    rw given.1
    (goes_behind s m f l k t c.args.state.now c.args.left.now j (focus.Gives given.0) t c.leave_call.new.state c.leave_call.new.left j (focus.Gives given.0) before
    (left_library t c.args.state.now c.leave_call.new.state c.args.left.now c.leave_call.new.left j (Goes (given_seen t.texts given.0)) end newest.0 c.drop_newest.new.frames (focus.Gives given.0) before.0.state newest.1
    (c.drop_newest.ensures end newest.0 newest.1) before.0.of c.in_ok-leave_call.ensures.leaves c.in_ok-leave_call.ensures.same (λ world gs. refl)))

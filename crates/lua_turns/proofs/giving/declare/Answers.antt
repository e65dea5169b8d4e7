use Rattle.std.proofs.Common.{sym, ap, [], ◌∷◌, Bool, List}
use Rattle.lua_loops.specs.PageRunOutcome.{Goes}
use Rattle.lua_code.specs.Seen.{block_seen}
use Rattle.lua_loops.specs.LuaSlotsMoves.{moves}
use Rattle.lua_operators.specs.LuaSlotsPoints.{DeclareNow, Gives}
use Rattle.lua_operators.specs.LuaSlotsSlots.{opened}
use Rattle.lua_operators.specs.LuaStoreSeen.{seen}
use Rattle.lua_strides.specs.LuaStackDeclaredFocusFocusTheVariants as focus
use Rattle.lua_operators.specs.LuaStackDeclaredFrameFrameTheVariants as frame
use Rattle.lua_operators.specs.LuaStackDeclaredFrameInStatementTheVariants as in_statement
use Rattle.lua_operators.proofs.LuaStackStay.{frames_later}
use Rattle.lua_loops.proofs.Beginning.{functions_stay, opened_slots}
use Rattle.lua_loops.specs.LuaStateSeen.{slots_of}
use Rattle.lua_strides.proofs.Paths.{idle_here}
use Rattle.lua_turns.proofs.Freely.{popped}
use Rattle.lua_turns.proofs.giving.declare.Goals as goal

pub open-requires-clause-registers : goal.open-requires-clause-registers
open-requires-clause-registers c = c.requires.state.regs

pub returns-in_ok-open-in-Some : goal.returns-in_ok-open-in-Some
returns-in_ok-open-in-Some c = λ l k.
    let s = c.args.store.now in
    let u = c.open.new.store in
    let m = c.args.state.now in
    let v = seen s.texts c.args.value in
    let f = frame.Statement (in_statement.DeclareNow c.args.flags c.args.rest) in
    let kept = functions_stay s u m c.requires.state c.in_ok-open-in-Some.ensures.later in
    popped s u m l k (Goes (v ∷ [])) f c.requires.newest.0 c.drop_newest.new.frames c.open.new.regs (focus.Runs c.args.rest) (opened c.in-Some.boxed.now v (slots_of s m)) c.requires.state c.open.ensures.later c.open.ensures.texts c.requires.newest.1
    (c.drop_newest.ensures f c.requires.newest.0 c.requires.newest.1) (frames_later s u c.open.ensures.later m.frames c.requires.state.frames) c.in_ok-open-in-Some.ensures.of kept.0 tt
    (λ world gs. ap (λ (x : List Bool). moves world (Gives (Goes (v ∷ [])) (DeclareNow x (block_seen c.args.rest.now) ∷ gs)) (slots_of s m)) c.in-Some.ensures)
    (sym (opened_slots s u m c.drop_newest.new.frames c.open.new.regs m.functions _ _ c.requires.state c.open.ensures.later c.in_ok-open-in-Some.ensures.opened kept.1))

pub returns-in-None : goal.returns-in-None
returns-in-None c = λ l k. idle_here c.args.store.now c.args.state.now l k

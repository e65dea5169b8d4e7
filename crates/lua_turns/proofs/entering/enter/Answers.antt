use Rattle.std.proofs.Common.{◌≡◌, ◌∙◌, ◌∷◌, ◌-◌, refl, sym, ap, subst, length, List, Some}
use Rattle.lua_loops.specs.PageRunOutcome.{Goes}
use Rattle.lua_code.specs.Seen.{block_seen, proto_seen}
use Rattle.lua_code.specs.declared.statement.Statement.{Statement}
use Rattle.lua_operators.specs.LuaSlotsPoints.{Gives, Runs}
use Rattle.lua_operators.specs.LuaSlotsSlots.{with_all}
use Rattle.lua_operators.specs.LuaStackDeclaredActivationActivation.{Activation}
use Rattle.lua_strides.specs.LuaStackDeclaredFocusFocusTheVariants as focus
use Rattle.lua_operators.specs.LuaStackDeclaredFrameFrameTheVariants as frame
use Rattle.lua_operators.specs.LuaStackDeclaredFrameInExpressionTheVariants as in_expression
use Rattle.lua_operators.specs.LuaStackDeclaredRegisterSlot.{Slot}
use Rattle.lua_loops.specs.LuaStackLevels.{levels_from}
use Rattle.lua_operators.specs.LuaStackSeen.{registers_seen, values_seen}
use Rattle.lua_strides.specs.LuaStateDeclaredStateState.{State}
use Rattle.lua_loops.specs.LuaStateCharges.{EntersCall}
use Rattle.lua_loops.specs.LuaStateSeen.{slots_of, frames_of}
use Rattle.lua_loops.proofs.Entering.{entered, with_codes, with_codes_of, called_of}
use Rattle.lua_turns.specs.Rows.{Follows}
use Rattle.lua_turns.proofs.Entered.{never_short, no_body, body_follows}
use Rattle.lua_turns.proofs.entering.enter.Goals as goal

pub returns-in-None : goal.returns-in-None
returns-in-None g c =
    let s = c.args.store.now in
    let m = c.args.state.now in
    let f = frame.Expression (in_expression.CallNow c.args.called c.args.line) in
    no_body s m c.args.left.now c.args.turns.now c.args.callee c.args.arguments c.args.line f c.requires.newest.0 c.function.new.self c.requires.state c.requires.newest.1 c.in_ok-found.ensures.world c.requires.steps
    (λ w gs. c.requires.call gs (slots_of s m) refl) c.drop_newest.new.frames (c.drop_newest.ensures f c.requires.newest.0 c.requires.newest.1) c.in_ok-found.ensures.codes (sym (rw c.in-None.is at c.in_ok-found.ensures.found))

pub returns-in_ok-open_function-in-Some : goal.returns-in_ok-open_function-in-Some
returns-in_ok-open_function-in-Some g c =
    let s = c.args.store.now in
    let m = c.args.state.now in
    let u = c.open_function.new.store in
    let f = frame.Expression (in_expression.CallNow c.args.called c.args.line) in
    let m2 = c.enter_call.new.state in
    let same = c.in_ok-entered-in-Some.ensures.same in
    let vs = values_seen s.texts c.args.arguments in
    let p = proto_seen c.in-Some.proto.now in
    let fs = c.swap_newest.new.frames in
    let regs = c.open_function.new.regs in
    let fns = c.open_function.new.functions in
    let opens = c.in_ok-open_function-in-Some.ensures in
    let old_regs : m2.regs ≡ m.regs = ap (λ (x : State). x.regs) same in
    let old_fns : m2.functions ≡ m.functions = ap (λ (x : State). x.functions) same in
    let old_frames : m2.frames ≡ m.frames = ap (λ (x : State). x.frames) same in
    let reach = levels_from m2.functions (Some c.args.line) in
    subst (λ (x : State). Follows s m (Gives (Goes vs) (frames_of s m)) c.args.left.now c.args.turns.now u (let y : State = record x { frames = fs; regs = regs; functions = fns } in y) c.enter_call.new.left c.tick.new.self (focus.Runs c.as_slice.result)) (sym same)
    (body_follows s m c.args.left.now c.args.turns.now c.args.callee c.args.arguments c.args.line f c.requires.newest.0 c.function.new.self c.requires.state c.requires.newest.1 c.in_ok-found.ensures.world c.requires.steps
    (λ w gs. c.requires.call gs (slots_of s m) refl) u p m2 c.enter_call.new.left c.tick.new.self fs regs fns reach (focus.Runs c.as_slice.result)
    (c.swap_newest.ensures f c.requires.newest.0 (old_frames ∙ c.requires.newest.1)) c.in_ok-found.ensures.codes (sym (rw c.in-Some.is at c.in_ok-found.ensures.found))
    (subst (EntersCall (with_codes m c.function.new.self) _ m2 c.enter_call.new.left) c.if-not-entered.false c.in_ok-entered-in-Some.ensures.enters) c.tick.ensures c.requires.callee c.requires.arguments opens.later opens.texts opens.of
    (opens.opened ∙ ap (λ (x : List Slot). with_all p.flags vs (s.heap, registers_seen s.texts x)) old_regs)
    (opens.functions ∙ ap (λ (x : List Slot). entered c.args.callee p.dots (length p.flags) c.args.arguments (Some c.args.line) x reach ∷ m2.functions) old_regs
    ∙ ap (λ (x : List Activation). entered c.args.callee p.dots (length p.flags) c.args.arguments (Some c.args.line) m.regs reach ∷ x) old_fns)
    tt (λ gs. ap (λ (x : List Statement). Runs (block_seen x) gs) c.as_slice.ensures))

pub open_function-requires-clause-registers : goal.open_function-requires-clause-registers
open_function-requires-clause-registers g c =
    (called_of c.args.store.now (with_codes c.args.state.now c.function.new.self) c.enter_call.new.state c.in_ok-entered-in-Some.ensures.same (with_codes_of c.args.store.now c.args.state.now c.function.new.self c.requires.state c.in_ok-found.ensures.codes)).regs

pub unreachable-requires : goal.unreachable-requires
unreachable-requires g c =
    never_short (with_codes c.args.state.now c.function.new.self) c.enter_call.new.state (record c.args.left.now { steps = c.args.left.now.steps - 1 }) c.enter_call.new.left (slots_of c.args.store.now c.args.state.now) c.requires.calls
    (subst (EntersCall (with_codes c.args.state.now c.function.new.self) (record c.args.left.now { steps = c.args.left.now.steps - 1 }) c.enter_call.new.state c.enter_call.new.left) c.if-not-entered.true c.in_ok-entered-in-Some.ensures.enters)

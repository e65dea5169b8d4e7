use Rattle.std.proofs.Common.{◌∷◌, refl, ap, List}
use Rattle.lua_loops.specs.PageRunOutcome.{Goes}
use Rattle.lua_code.specs.declared.expression.Expression.{Expression}
use Rattle.lua_code.specs.Seen.{expression_seen, expressions_seen}
use Rattle.lua_loops.specs.LuaSlotsMoves.{moves}
use Rattle.lua_operators.specs.LuaSlotsPoints.{MoreNext, Evals, Gives, Lists}
use Rattle.lua_strides.proofs.LuaInPlaceStatements.{free}
use Rattle.lua_operators.proofs.LuaStoreLater.{later-itself}
use Rattle.lua_strides.specs.LuaStackDeclaredFocusFocusTheVariants as focus
use Rattle.lua_operators.specs.LuaStackDeclaredFrameFrameTheVariants as frame
use Rattle.lua_operators.specs.LuaStackDeclaredFrameInExpressionTheVariants as in_expression
use Rattle.lua_strides.specs.LuaStackDeclaredValuesGivenTheVariants as given
use Rattle.lua_operators.specs.LuaStackSeen.{values_seen}
use Rattle.lua_loops.specs.LuaStateSeen.{slots_of, frames_of}
use Rattle.lua_turns.proofs.Following.{follows_free, then_must}
use Rattle.lua_turns.proofs.listing.wait_for_item.Goals as goal

pub returns-in_ok-push-in-Some : goal.returns-in_ok-push-in-Some
returns-in_ok-push-in-Some g c =
    let s = c.args.store.now in
    let of = c.requires.state in
    let m = c.args.state.now in
    let x = slots_of s m in
    let fs = frames_of s m in
    let vs = values_seen s.texts c.args.before in
    let front = c.in-Some.front in
    let f = frame.Expression (in_expression.MoreNext front.rest c.args.before) in
    let p = Lists (expressions_seen c.args.expressions.now) vs fs in
    let q = Evals (expression_seen front.first.now) (MoreNext (expressions_seen front.rest.now) vs ∷ fs) in
    rw c.in_ok-push-in-Some.ensures.ok
    (follows_free s s m (f ∷ m.frames) m.regs m.functions p q x (focus.Evaluates front.first) of (later-itself s) c.args.left.now c.args.turns.now (c.requires.before, of.frames) of.regs of.functions tt
    (λ world. free world p x q x (ap (λ (es : List Expression). moves world (Lists (expressions_seen es) vs fs) x) c.in-Some.ensures)) refl refl)

pub returns-in-None : goal.returns-in-None
returns-in-None g c =
    let s = c.args.store.now in
    let m = c.args.state.now in
    let x = slots_of s m in
    let fs = frames_of s m in
    let vs = values_seen s.texts c.args.before in
    let p = Lists (expressions_seen c.args.expressions.now) vs fs in
    let of = c.requires.state in
    then_must s m p c.args.left.now c.args.turns.now s m c.args.left.now c.args.turns.now (focus.Gives (given.Many c.args.before)) c.give_all.new.store c.give_all.new.state c.give_all.new.left c.give_all.new.turns c.give_all.result
    (follows_free s s m m.frames m.regs m.functions p (Gives (Goes vs) fs) x (focus.Gives (given.Many c.args.before)) of (later-itself s) c.args.left.now c.args.turns.now of.frames of.regs of.functions c.requires.before
    (λ world. free world p x (Gives (Goes vs) fs) x (ap (λ (es : List Expression). moves world (Lists (expressions_seen es) vs fs) x) c.in-None.ensures)) refl refl) c.give_all.ensures

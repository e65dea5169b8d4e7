use Rattle.std.proofs.Common.{◌≡◌, ◌∙◌, ◌∷◌, ◌++◌, ◌+◌, [], refl, sym, ap, Some, length, ℕ, arith}
use Rattle.std.proofs.lemmas.List.{length-append}
use Rattle.lua_code.specs.LuaHeapValue.{Text}
use Rattle.lua_operators.specs.LuaSlotsErrors.{gives}
use Rattle.lua_operators.specs.LuaSlotsPoints.{Costs}
use Rattle.lua_operators.specs.LuaStoreDeclaredValueValueTheVariants as value
use Rattle.lua_operators.specs.LuaStoreSeen.{StoreView, seen}
use Rattle.lua_code.specs.declared.operator.Operator.TheVariants as operator
use Rattle.lua_strides.specs.LuaStackDeclaredFocusFocusTheVariants as focus
use Rattle.lua_operators.specs.LuaStackDeclaredFrameFrameTheVariants as frame
use Rattle.lua_operators.specs.LuaStackDeclaredFrameInExpressionTheVariants as in_expression
use Rattle.lua_strides.specs.LuaStackDeclaredValuesGivenTheVariants as given
use Rattle.lua_loops.specs.LuaStateSeen.{slots_of}
use Rattle.lua_strides.proofs.Paths.{idle_here}
use Rattle.lua_turns.proofs.Joins.{joins, popped_at_cost}
use Rattle.lua_turns.proofs.joining.join_texts.Goals as goal

pub returns-then-left-cost : goal.returns-then-left-cost
returns-then-left-cost c = λ k. idle_here c.args.store.now c.args.state.now c.args.left.now k

pub returns : goal.returns
returns c = λ k.
    let s = c.args.store.now in
    let u = c.text.new.self in
    let m = c.args.state.now in
    let x = slots_of s m in
    let f = frame.Expression (in_expression.OperateNow operator.Concatenate c.args.first c.args.line) in
    let both = c.args.a.now ++ c.args.b.now in
    let made : seen u.texts (value.Text c.in_ok-text.text) ≡ Text both = ap Text (c.in_ok-text.ensures.there ∙ c.as_slice.ensures.value ∙ c.in_ok-bytes.ensures) in
    popped_at_cost s u m (length c.args.a.now + length c.args.b.now) c.args.left.now _ k (seen s.texts c.args.second) f c.requires.newest.0 c.drop_newest.new.frames (focus.Gives (given.One (value.Text c.in_ok-text.text))) c.requires.state c.in_ok-text.ensures.later (ap (λ (z : StoreView). z.heap) c.in_ok-text.ensures.added) c.requires.newest.1
    (c.drop_newest.ensures f c.requires.newest.0 c.requires.newest.1) (c.in_ok-text.ensures.of, tt) (omega (arith, c.if-left-cost.false)) refl
    (λ world gs. joins (seen s.texts c.args.first) (seen s.texts c.args.second) c.args.a.now c.args.b.now (Some c.args.line) gs x c.requires.first c.requires.second
    ∙ ap (λ (n : ℕ). Costs n (gives (Text both ∷ []) gs x)) (length-append c.args.a.now c.args.b.now) ∙ ap (λ v. Costs (length c.args.a.now + length c.args.b.now) (gives (v ∷ []) gs x)) (sym made))

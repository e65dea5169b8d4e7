use Rattle.std.proofs.Common.{◌∙◌, true, false, refl, sym, [], ◌∷◌}
use Rattle.lua_loops.specs.PageRunOutcome.{Goes}
use Rattle.lua_code.specs.LuaHeapValue.{is_true}
use Rattle.lua_code.specs.Seen.{expression_seen}
use Rattle.lua_operators.specs.LuaSlotsErrors.{gives}
use Rattle.lua_operators.specs.LuaSlotsPoints.{First, Evals, Now}
use Rattle.lua_operators.specs.LuaStoreSeen.{seen}
use Rattle.lua_strides.specs.LuaStackDeclaredFocusFocusTheVariants as focus
use Rattle.lua_operators.specs.LuaStackDeclaredFrameFrameTheVariants as frame
use Rattle.lua_operators.specs.LuaStackDeclaredFrameInExpressionTheVariants as in_expression
use Rattle.lua_strides.specs.LuaStackDeclaredValuesGivenTheVariants as given
use Rattle.lua_loops.specs.LuaStateSeen.{slots_of}
use Rattle.lua_turns.proofs.Chosen.{decided}
use Rattle.lua_turns.proofs.Freely.{popped_here, swapped}
use Rattle.lua_turns.proofs.deciding.decide.Goals as goal

pub returns-then-decides : goal.returns-then-decides
returns-then-decides c = λ s l k of known.
    let m = c.args.state.now in
    let v = seen s.texts c.args.value in
    let f = frame.Expression (in_expression.DecideNext c.args.deciding c.args.other) in
    popped_here s m l k (Goes (v ∷ [])) f c.requires.0 c.drop_newest.new.frames m.regs (focus.Gives (given.One c.args.value)) (slots_of s m) of c.requires.1
    (c.drop_newest.ensures f c.requires.0 c.requires.1) of.regs (known, tt)
    (λ world gs. decided c.args.deciding (is_true v) (gives (v ∷ []) gs (slots_of s m)) (Now (Evals (expression_seen c.args.other.now) (First ∷ gs)) (slots_of s m)) true (sym (c.decides.ensures s.texts) ∙ c.if-decides.true)) refl

pub returns : goal.returns
returns c = λ s l k of known.
    let m = c.args.state.now in
    let v = seen s.texts c.args.value in
    let f = frame.Expression (in_expression.DecideNext c.args.deciding c.args.other) in
    swapped s m l k (Goes (v ∷ [])) f (frame.Expression in_expression.First) c.requires.0 c.swap_newest.new.frames (focus.Evaluates c.args.other) of c.requires.1
    (c.swap_newest.ensures f c.requires.0 c.requires.1) tt tt
    (λ world gs. decided c.args.deciding (is_true v) (gives (v ∷ []) gs (slots_of s m)) (Now (Evals (expression_seen c.args.other.now) (First ∷ gs)) (slots_of s m)) false (sym (c.decides.ensures s.texts) ∙ c.if-decides.false))

use Rattle.std.proofs.Common.{◌∙◌, ◌∷◌, [], ℕ, refl, sym, ap, subst, length, List}
use Rattle.lua_loops.specs.PageRunOutcome.{Goes}
use Rattle.lua_code.specs.declared.statement.Statement.{Statement}
use Rattle.lua_code.specs.Seen.{block_seen, expression_seen}
use Rattle.lua_operators.specs.LuaSlotsErrors.{gives}
use Rattle.lua_operators.specs.LuaSlotsPoints.{WhileEnd, WhileTurnS, SFrame, Gives, Runs, Starts, Now}
use Rattle.lua_operators.proofs.LuaStoreLater.{later-itself}
use Rattle.lua_operators.specs.LuaStoreSeen.{seen}
use Rattle.lua_strides.specs.LuaStackDeclaredFocusFocusTheVariants as focus
use Rattle.lua_strides.specs.LuaStackDeclaredFrameFrame.{Frame}
use Rattle.lua_operators.specs.LuaStackDeclaredFrameFrameTheVariants as frame
use Rattle.lua_operators.specs.LuaStackDeclaredFrameEndingTheVariants as ending
use Rattle.lua_operators.specs.LuaStackDeclaredFrameInLoopTheVariants as in_loop
use Rattle.lua_strides.specs.LuaStackDeclaredValuesGivenTheVariants as given
use Rattle.lua_operators.specs.LuaStackSeen.{frames_seen}
use Rattle.lua_loops.specs.LuaStateSeen.{slots_of, frames_of}
use Rattle.lua_strides.specs.Strides.{LeadsAt}
use Rattle.lua_strides.proofs.Paths.{unpaid}
use Rattle.lua_turns.proofs.Chosen.{not_held, turned}
use Rattle.lua_turns.proofs.Following.{follows_paid}
use Rattle.lua_turns.proofs.Freely.{below_with, popped_here}
use Rattle.lua_turns.proofs.branching.take_test.Goals as goal

pub returns-then-not-is_true : goal.returns-then-not-is_true
returns-then-not-is_true g c = λ s of known.
    let m = c.args.state.now in
    let v = seen s.texts c.args.value in
    let f = frame.Loop (in_loop.WhileTest c.args.test c.args.body) in
    popped_here s m c.args.left.now c.args.turns.now (Goes (v ∷ [])) f c.requires.0 c.drop_newest.new.frames m.regs (focus.Gives (given.Many [])) (slots_of s m) of c.requires.1
    (c.drop_newest.ensures f c.requires.0 c.requires.1) of.regs tt
    (λ world gs. not_held v (Now (Starts (WhileTurnS (expression_seen c.args.test.now) (block_seen c.args.body.now)) gs) (slots_of s m)) (gives [] gs (slots_of s m)) (sym (c.is_true.ensures s.texts) ∙ c.if-not-is_true.true)) refl

pub returns-then-not-pay_nodes : goal.returns-then-not-pay_nodes
returns-then-not-pay_nodes g c = λ s of known. unpaid s c.args.state.now 1 c.args.left.now c.pay_nodes.new.left c.args.turns.now c.pay_nodes.new.turns c.if-not-pay_nodes.ensures

pub returns : goal.returns
returns g c = λ s of known.
    let m = c.args.state.now in
    let x = slots_of s m in
    let v = seen s.texts c.args.value in
    let test = expression_seen c.args.test.now in
    let b = block_seen c.args.body.now in
    let f = frame.Loop (in_loop.WhileTest c.args.test c.args.body) in
    let end_ = frame.End (ending.WhileEnd c.depth_of-depth.result c.args.test c.args.body) in
    let more = c.requires.0 in
    let behind = frames_seen s.texts more in
    let n = c.swap_newest.ensures f more c.requires.1 in
    let q = Runs b (WhileEnd (length x.regs) test b ∷ behind) in
    follows_paid s s m c.swap_newest.new.frames m.regs m.functions (Gives (Goes (v ∷ [])) (frames_of s m)) q x (focus.Runs c.as_slice.result) of (later-itself s) 1 c.args.left.now c.pay_nodes.new.left c.args.turns.now c.pay_nodes.new.turns
    (below_with s m.frames c.swap_newest.new.frames more f end_ c.requires.1 n of.frames tt) of.regs of.functions tt c.if-not-pay_nodes.ensures
    (λ world. subst (λ (z : List SFrame). LeadsAt world (Gives (Goes (v ∷ [])) z) x 1 q x) (sym (ap (frames_seen s.texts) c.requires.1)) (turned world test b behind x v (sym (c.is_true.ensures s.texts) ∙ c.if-not-is_true.false)))
    (ap (λ (d : ℕ). Runs b (WhileEnd d test b ∷ behind)) (sym (c.depth_of-depth.ensures s.texts)) ∙ ap (λ (z : List Frame). Runs b (frames_seen s.texts z)) (sym n) ∙ ap (λ (z : List Statement). Runs (block_seen z) (frames_seen s.texts c.swap_newest.new.frames)) (sym c.as_slice.ensures)) refl

use Rattle.std.proofs.Common.{◌∙◌, ◌∷◌, [], refl, sym}
use Rattle.std.specs.Prelude.{option_map}
use Rattle.lua_loops.specs.PageRunOutcome.{Goes}
use Rattle.lua_code.specs.Seen.{block_seen, branches_seen, expression_seen}
use Rattle.lua_operators.specs.LuaSlotsErrors.{gives}
use Rattle.lua_code.specs.LuaSlotsStatements.{within, branches}
use Rattle.lua_operators.specs.LuaStoreSeen.{seen}
use Rattle.lua_strides.specs.LuaStackDeclaredFocusFocusTheVariants as focus
use Rattle.lua_operators.specs.LuaStackDeclaredFrameFrameTheVariants as frame
use Rattle.lua_operators.specs.LuaStackDeclaredFrameInStatementTheVariants as in_statement
use Rattle.lua_strides.specs.LuaStackDeclaredValuesGivenTheVariants as given
use Rattle.lua_loops.specs.LuaStateSeen.{slots_of}
use Rattle.lua_turns.proofs.Chosen.{held, next_branch, last_branch}
use Rattle.lua_turns.proofs.Freely.{popped_here, swapped}
use Rattle.lua_turns.proofs.branching.choose.Goals as goal

pub returns-then-is_true : goal.returns-then-is_true
returns-then-is_true c = λ s l k of known.
    let v = seen s.texts c.args.value in
    let f = frame.Statement (in_statement.BranchNext c.args.body c.args.more c.args.other) in
    c.within.ensures s l k v f of c.requires
    (λ world gs. held v (within (block_seen c.args.body.now) gs (slots_of s c.args.state.now)) (branches (branches_seen c.args.more.now) (option_map (λ b. block_seen b.now) c.args.other) gs (slots_of s c.args.state.now)) (sym (c.is_true.ensures s.texts) ∙ c.if-is_true.true))

pub returns-in-Some : goal.returns-in-Some
returns-in-Some c = λ s l k of known.
    let m = c.args.state.now in
    let v = seen s.texts c.args.value in
    let f = frame.Statement (in_statement.BranchNext c.args.body c.args.more c.args.other) in
    let g = frame.Statement (in_statement.BranchNext c.in-Some.front.body c.in-Some.front.rest c.args.other) in
    swapped s m l k (Goes (v ∷ [])) f g c.requires.0 c.swap_newest.new.frames (focus.Evaluates c.in-Some.front.test) of c.requires.1
    (c.swap_newest.ensures f c.requires.0 c.requires.1) tt tt
    (λ world gs. next_branch v (block_seen c.args.body.now) (branches_seen c.args.more.now) (option_map (λ b. block_seen b.now) c.args.other) (expression_seen c.in-Some.front.test.now) (block_seen c.in-Some.front.body.now) (branches_seen c.in-Some.front.rest.now) gs (slots_of s m) (sym (c.is_true.ensures s.texts) ∙ c.if-is_true.false) c.in-Some.ensures)

pub returns-in-Some-other : goal.returns-in-Some-other
returns-in-Some-other c = λ s l k of known.
    let x = slots_of s c.args.state.now in
    let v = seen s.texts c.args.value in
    let f = frame.Statement (in_statement.BranchNext c.args.body c.args.more c.args.other) in
    c.within-in-Some-other.ensures s l k v f of c.requires
    (λ world gs. last_branch v (block_seen c.args.body.now) (branches_seen c.args.more.now) (option_map (λ b. block_seen b.now) c.args.other) gs x (within (block_seen c.in-Some-other.other.now) gs x) (sym (c.is_true.ensures s.texts) ∙ c.if-is_true.false) c.in-None.ensures (rw c.in-Some-other.is refl))

pub returns-in-None-other : goal.returns-in-None-other
returns-in-None-other c = λ s l k of known.
    let m = c.args.state.now in
    let x = slots_of s m in
    let v = seen s.texts c.args.value in
    let f = frame.Statement (in_statement.BranchNext c.args.body c.args.more c.args.other) in
    popped_here s m l k (Goes (v ∷ [])) f c.requires.0 c.drop_newest.new.frames m.regs (focus.Gives (given.Many [])) x of c.requires.1
    (c.drop_newest.ensures f c.requires.0 c.requires.1) of.regs tt
    (λ world gs. last_branch v (block_seen c.args.body.now) (branches_seen c.args.more.now) (option_map (λ b. block_seen b.now) c.args.other) gs x (gives [] gs x) (sym (c.is_true.ensures s.texts) ∙ c.if-is_true.false) c.in-None.ensures (rw c.in-None-other.is refl)) refl

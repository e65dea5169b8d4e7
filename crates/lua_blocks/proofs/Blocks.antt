-- How a block begins: its first statement is a node.
use Rattle.std.proofs.Common.{◌≡◌, ◌∙◌, ℕ, Bool, List, ◌∷◌, Option, Some, None, refl, sym, ap, subst}
use Rattle.std.specs.Option.{option_map}
use Rattle.std.specs.declared.alloc.Global.{Global}
use Rattle.std.specs.declared.boxed.Box.{Box}
use Rattle.lua_code.specs.declared.expression.Expression.{Expression}
use Rattle.lua_code.specs.declared.statement.Statement.{Statement}
use Rattle.lua_code.specs.declared.statement.Statement.TheVariants as statement
use Rattle.lua_code.specs.declared.statement.Branch.{Branch}
use Rattle.lua_code.specs.declared.statement.Statement.TheOpen.{Statement-F, Assign, Call, Do, While, Repeat, If, Count, Each, Return, Break, Declare, LocalFunction}
use Rattle.lua_code.specs.declared.statement.Statement.TheViews.{out-Statement}
use Rattle.lua_code.specs.declared.statement.Statement.TheFolds.{map-Statement, fold_out-Statement}
use Rattle.lua_code.specs.Seen.{expression_seen, statement_step, statement_seen, branch_seen, block_seen, branches_seen}
use Rattle.lua_code.proofs.Views.{statement-If, statement-IfElse, statement-Count, statement-CountBy}
use Rattle.lua_code.specs.LuaSlotsCode.{CBlock}
use Rattle.lua_state.specs.LuaSlotsSlots.{Slots}
use Rattle.lua_state.specs.LuaSlotsPoints.{SFrame, CountFrom, StatsNext, Evals, Now}
use Rattle.lua_state.specs.LuaSlotsErrors.{node}
use Rattle.lua_code.specs.LuaSlotsStatements.{branches, runs}
use Rattle.lua_state.specs.LuaArmsPaid.{behind_node}

statement_opens : (x : Statement) → statement_seen x ≡ statement_step (map-Statement _ _ _ _ statement_seen branch_seen (out-Statement x))
unfolding statement_seen branch_seen
statement_opens = fold_out-Statement _ _ _ _

abbrev begins : CBlock → List SFrame → Slots → Type 0
begins b fs s = runs b fs s ≡ node (behind_node (runs b fs s))

begins_in : (l : Statement-F Statement Branch) (rest : CBlock) (fs : List SFrame) (s : Slots) → begins (statement_step (map-Statement _ _ _ _ statement_seen branch_seen l) rest) fs s
begins_in (Assign targets values) rest fs s = refl
begins_in (Call e) rest fs s = refl
begins_in (Do b) rest fs s = refl
begins_in (While e b) rest fs s = refl
begins_in (Repeat b e) rest fs s = refl
begins_in (If arms None) rest fs s = refl
begins_in (If arms (Some b)) rest fs s = refl
begins_in (Count boxed from to None b line) rest fs s = refl
begins_in (Count boxed from to (Some by) b line) rest fs s = refl
begins_in (Each flags values b line) rest fs s = refl
begins_in (Return values) rest fs s = refl
begins_in Break rest fs s = refl
begins_in (Declare flags values) rest fs s = refl
begins_in (LocalFunction boxed index places) rest fs s = refl

pub block_begins : (ss rest : List Statement) (x : Statement) (fs : List SFrame) (s : Slots) → ss ≡ x ∷ rest → runs (block_seen ss) fs s ≡ node (behind_node (runs (statement_seen x (block_seen rest)) fs s))
block_begins ss rest x fs s e =
    ap (λ z. runs (block_seen z) fs s) e
    ∙ subst (λ (y : CBlock → CBlock). begins (y (block_seen rest)) fs s) (sym (statement_opens x)) (begins_in (out-Statement x) (block_seen rest) fs s)

-- an `if` with or without an `else`, and a counting loop with or without a step
pub if_begins : (arms : List Branch) (other : Option (List Statement)) (rest : List Statement) (fs : List SFrame) (s : Slots)
    → behind_node (runs (statement_seen (statement.If arms other) (block_seen rest)) fs s) ≡ branches (branches_seen arms) (option_map block_seen other) (StatsNext (block_seen rest) ∷ fs) s
if_begins arms None rest fs s = ap (λ b. behind_node (runs b fs s)) (statement-If arms (block_seen rest))
if_begins arms (Some b) rest fs s = ap (λ y. behind_node (runs y fs s)) (statement-IfElse arms b (block_seen rest))

pub count_begins : (boxed : Bool) (from to : Box Expression Global) (by : Option (Box Expression Global)) (b : List Statement) (line : ℕ) (rest : List Statement) (fs : List SFrame) (s : Slots)
    → behind_node (runs (statement_seen (statement.Count boxed from to by b line) (block_seen rest)) fs s)
    ≡ Now (Evals (expression_seen from.value) (CountFrom boxed (expression_seen to.value) (option_map (λ c. expression_seen c.value) by) (block_seen b) line ∷ StatsNext (block_seen rest) ∷ fs)) s
count_begins boxed from to None b line rest fs s = ap (λ y. behind_node (runs y fs s)) (statement-Count boxed from to b line (block_seen rest))
count_begins boxed from to (Some by) b line rest fs s = ap (λ y. behind_node (runs y fs s)) (statement-CountBy boxed from to by b line (block_seen rest))

-- The forms of the tree: one line for each, by recursion on the tree. What stands in it as a global is allowed in the scope where it is.
use Rattle.std.specs.Prelude.{ℕ, true, false, List, [], ◌∷◌, ◌++◌, map, Option, Some, None}
use Rattle.std.proofs.Common.{subst, sym, ap, inl, inr}
use Rattle.lua_meaning.specs.LuaSyntaxTree.{Exp, NilE, TrueE, FalseE, NumberE, TextE, DotsE, FunctionE, NameE, IndexE, CallE, MethodE, TableE, BinaryE, UnaryE, ParenE}
use Rattle.lua_meaning.specs.LuaSyntaxTree.{Exps, NoExp, MoreExp, Fields, NoField, Item, Pair, Block, NoStat, MoreStat, Arms, NoArm, Arm}
use Rattle.lua_meaning.specs.LuaSyntaxTree.{Stat, AssignS, CallS, DoS, WhileS, RepeatS, IfS, IfElseS, CountS, CountByS, EachS, LocalFunctionS, LocalS, ReturnS, BreakS}
use Rattle.lua_walk.specs.LuaHeapValue.{Nil, Truth, Number, Text}
use Rattle.lua_meaning.specs.Scope.{Scope, cell_of, levels}
use Rattle.lua_meaning.specs.Acts as acts
use Rattle.lua_meaning.specs.Meaning as tree
use Rattle.lua_uses.specs.Uses.{Use, Names, with_names, requiring, required_by, expr_uses, exprs_uses, fields_uses, block_uses, arms_uses, stat_uses, stat_scope, block_scope}
use Rattle.lua_lint_laws.specs.Laws.{IsIn}
use Rattle.lua_lint_laws.proofs.Told.{Allowed, AreAllowed, names_of, Quiet, Gives, Each, IsScope, forget, gives, never_gives}
use Rattle.lua_lint_laws.proofs.Expressions.{EachField, IsTarget, name_target, global_allowed, constant, dots, name, index_expression, function, call_expression, method, paren, binary, unary, index_target, table_constructor}
use Rattle.lua_lint_laws.proofs.Statements.{EachTarget, EachBranch, in_order, at_end, do_block, assign, local, local_function, call_statement, conditional, return, break}
use Rattle.lua_lint_laws.proofs.Loops.{while_loop, repeat_loop, counting_loop, generic_loop}

-- WHAT IS ALLOWED of two parts
in_left : (u : Use) (a b : List Use) → IsIn u a → IsIn u (a ++ b)
in_left u [] b at = absurd at
in_left u (x ∷ a) b (inl e) = inl e
in_left u (x ∷ a) b (inr at) = inr (in_left u a b at)

in_right : (u : Use) (a b : List Use) → IsIn u b → IsIn u (a ++ b)
in_right u [] b at = at
in_right u (x ∷ a) b at = inr (in_right u a b at)

pub left : {P : Allowed} {source : List ℕ} → (a b : List Use) → AreAllowed P source (a ++ b) → AreAllowed P source a
left a b ok = record { each = λ u at. ok.each u (in_left u a b at) }

pub right : {P : Allowed} {source : List ℕ} → (a b : List Use) → AreAllowed P source (a ++ b) → AreAllowed P source b
right a b ok = record { each = λ u at. ok.each u (in_right u a b at) }

-- the names of a call of `require` are the same
in_texted : (text : List ℕ) (u : Use) (uses : List Use) → IsIn u uses → IsIn (record u { required = Some text }) (map (λ (v : Use). record v { required = Some text }) uses)
in_texted text u [] at = absurd at
in_texted text u (x ∷ uses) (inl e) = inl (ap (λ (v : Use). record v { required = Some text }) e)
in_texted text u (x ∷ uses) (inr at) = inr (in_texted text u uses at)

called : {P : Allowed} {source : List ℕ} → (text : Option (List ℕ)) (uses : List Use) → AreAllowed P source (requiring text uses) → AreAllowed P source uses
called None uses ok = ok
called (Some text) uses ok = record { each = λ u at. ok.each (record u { required = Some text }) (in_texted text u uses at) }

-- where parts name globals in a scope
abbrev In : {T : Type 0} → (T → Names → List Use) → T → Scope → List Use
In uses part scope = uses part (names_of scope.names)

mutual
  pub expression : {P : Allowed} → (e : Exp) (scope : Scope) → AreAllowed P scope.source (expr_uses e (names_of scope.names)) → Quiet P (tree.expression e scope)
  expression (NilE line) scope ok = constant Nil scope
  expression (TrueE line) scope ok = constant (Truth true) scope
  expression (FalseE line) scope ok = constant (Truth false) scope
  expression (NumberE line z) scope ok = constant (Number z) scope
  expression (TextE line t) scope ok = constant (Text t) scope
  expression (DotsE line) scope ok = dots scope
  expression (FunctionE line f) scope ok = function f scope ok
  expression (NameE line x) scope ok = name x line scope ok
  expression (IndexE line of key) scope ok =
      index_expression (tree.expression of) (tree.expression key) line scope
      (expression of scope (left (In expr_uses of scope) (In expr_uses key scope) ok)) (expression key scope (right (In expr_uses of scope) (In expr_uses key scope) ok))
  expression (CallE line f args) scope ok =
      let uses : List Use = requiring (required_by f args) (In expr_uses f scope) in
      call_expression (tree.expression f) (tree.expressions args) line scope
      (expression f scope (called (required_by f args) (In expr_uses f scope) (left uses (In exprs_uses args scope) ok)))
      (expressions args scope (right uses (In exprs_uses args scope) ok))
  expression (MethodE line of x args) scope ok =
      method (tree.expression of) x (tree.expressions args) line scope
      (expression of scope (left (In expr_uses of scope) (In exprs_uses args scope) ok)) (expressions args scope (right (In expr_uses of scope) (In exprs_uses args scope) ok))
  expression (TableE line fields) scope ok = table_constructor (tree.fields_of fields) line scope (fields_of fields scope ok)
  expression (BinaryE line o a b) scope ok =
      binary o (tree.expression a) (tree.expression b) line scope
      (expression a scope (left (In expr_uses a scope) (In expr_uses b scope) ok)) (expression b scope (right (In expr_uses a scope) (In expr_uses b scope) ok))
  expression (UnaryE line o a) scope ok = unary o (tree.expression a) line scope (expression a scope ok)
  expression (ParenE line a) scope ok = paren (tree.expression a) scope (expression a scope ok)

  pub expressions : {P : Allowed} → (es : Exps) (scope : Scope) → AreAllowed P scope.source (exprs_uses es (names_of scope.names)) → Each P scope (tree.expressions es)
  expressions NoExp scope ok = tt
  expressions (MoreExp e more) scope ok =
      (expression e scope (left (In expr_uses e scope) (In exprs_uses more scope) ok), expressions more scope (right (In expr_uses e scope) (In exprs_uses more scope) ok))

  fields_of : {P : Allowed} → (fields : Fields) (scope : Scope) → AreAllowed P scope.source (fields_uses fields (names_of scope.names)) → EachField P scope (tree.fields_of fields)
  fields_of NoField scope ok = tt
  fields_of (Item e more) scope ok =
      (expression e scope (left (In expr_uses e scope) (In fields_uses more scope) ok), fields_of more scope (right (In expr_uses e scope) (In fields_uses more scope) ok))
  fields_of (Pair key e more) scope ok =
      let after : List Use = In expr_uses e scope ++ In fields_uses more scope in
      let behind_key = right (In expr_uses key scope) after ok in (
        expression key scope (left (In expr_uses key scope) after ok),
        expression e scope (left (In expr_uses e scope) (In fields_uses more scope) behind_key),
        fields_of more scope (right (In expr_uses e scope) (In fields_uses more scope) behind_key),
      )

target : {P : Allowed} → (e : Exp) (scope : Scope) → AreAllowed P scope.source (expr_uses e (names_of scope.names)) → Gives P (IsTarget P) (tree.target e scope)
target {P = P} (NameE line x) scope ok = gives _ (name_target P (cell_of scope.names x) x (levels scope line) (global_allowed scope.names x line scope.source ok))
target (IndexE line of key) scope ok =
    index_target (tree.expression of) (tree.expression key) line scope
    (expression of scope (left (In expr_uses of scope) (In expr_uses key scope) ok)) (expression key scope (right (In expr_uses of scope) (In expr_uses key scope) ok))
target _ scope ok = never_gives _

targets_of : {P : Allowed} → (es : Exps) (scope : Scope) → AreAllowed P scope.source (exprs_uses es (names_of scope.names)) → EachTarget P scope (tree.targets_of es)
targets_of NoExp scope ok = tt
targets_of (MoreExp e more) scope ok =
    (target e scope (left (In expr_uses e scope) (In exprs_uses more scope) ok), targets_of more scope (right (In expr_uses e scope) (In exprs_uses more scope) ok))

-- what is allowed in a scope that was given
pub in_scope : {P : Allowed} {source : List ℕ} → (names : Names) (uses : Names → List Use) → AreAllowed P source (uses names) → (scope : Scope) → IsScope source names scope → AreAllowed P scope.source (uses (names_of scope.names))
in_scope {P = P} {source = source} names uses ok scope is = subst (λ (s : List ℕ). AreAllowed P s (uses (names_of scope.names))) (sym is.source_is) (subst (λ (ns : Names). AreAllowed P source (uses ns)) (sym is.names_are) ok)

moved : {P : Allowed} {source : List ℕ} {names : Names} → (b : Block) (scope : Scope) → IsScope source names scope → {part : acts.Act Scope} → Gives P (IsScope scope.source (block_scope b (names_of scope.names))) part → Gives P (IsScope source (block_scope b names)) part
moved {P = P} {names = names} b scope is {part = part} q = subst (λ (s : List ℕ). Gives P (IsScope s (block_scope b names)) part) is.source_is (subst (λ (ns : Names). Gives P (IsScope scope.source (block_scope b ns)) part) is.names_are q)

mutual
  statement : {P : Allowed} → (s : Stat) (scope : Scope) → AreAllowed P scope.source (stat_uses s (names_of scope.names)) → Gives P (IsScope scope.source (stat_scope s (names_of scope.names))) (tree.statement s scope)
  statement (AssignS line targets values) scope ok =
      assign (tree.targets_of targets) (tree.expressions values) scope
      (targets_of targets scope (left (In exprs_uses targets scope) (In exprs_uses values scope) ok)) (expressions values scope (right (In exprs_uses targets scope) (In exprs_uses values scope) ok))
  statement (CallS line e) scope ok = call_statement (tree.expression e) scope (expression e scope ok)
  statement (DoS line b) scope ok = do_block (tree.block b) scope (forget (block b scope ok))
  statement (WhileS line test b) scope ok =
      let first = left (In expr_uses test scope) (In block_uses b scope) ok in
      while_loop (tree.exp_part test) (tree.block_part b) scope first (right (In expr_uses test scope) (In block_uses b scope) ok) (expression test scope first)
  statement (RepeatS line b test) scope ok =
      let after : List Use = expr_uses test (block_scope b (names_of scope.names)) in
      repeat_loop (tree.block_part b) (tree.exp_part test) scope (left (In block_uses b scope) after ok) (right (In block_uses b scope) after ok)
  statement (IfS line arms) scope ok = conditional (tree.branches_of arms) None scope (branches_of arms scope ok) tt
  statement (IfElseS line arms other) scope ok =
      conditional (tree.branches_of arms) (Some (tree.block other)) scope (branches_of arms scope (left (In arms_uses arms scope) (In block_uses other scope) ok))
      (forget (block other scope (right (In arms_uses arms scope) (In block_uses other scope) ok)))
  statement (CountS line x from to b) scope ok =
      let inner : List Use = block_uses b (x ∷ names_of scope.names) in
      let behind_from = right (In expr_uses from scope) (In expr_uses to scope ++ inner) ok in
      counting_loop x (tree.expression from) (tree.expression to) None (tree.block_part b) line scope (right (In expr_uses to scope) inner behind_from)
      (expression from scope (left (In expr_uses from scope) (In expr_uses to scope ++ inner) ok)) (expression to scope (left (In expr_uses to scope) inner behind_from)) tt
  statement (CountByS line x from to by b) scope ok =
      let inner : List Use = block_uses b (x ∷ names_of scope.names) in
      let after : List Use = In expr_uses by scope ++ inner in
      let behind_from = right (In expr_uses from scope) (In expr_uses to scope ++ after) ok in
      let behind_to = right (In expr_uses to scope) after behind_from in
      counting_loop x (tree.expression from) (tree.expression to) (Some (tree.expression by)) (tree.block_part b) line scope (right (In expr_uses by scope) inner behind_to)
      (expression from scope (left (In expr_uses from scope) (In expr_uses to scope ++ after) ok)) (expression to scope (left (In expr_uses to scope) after behind_from)) (expression by scope (left (In expr_uses by scope) inner behind_to))
  statement (EachS line names values b) scope ok =
      let inner : List Use = block_uses b (with_names names (names_of scope.names)) in
      generic_loop names (tree.expressions values) (tree.block_part b) line scope (right (In exprs_uses values scope) inner ok) (expressions values scope (left (In exprs_uses values scope) inner ok))
  statement (LocalFunctionS line x f) scope ok = local_function x f scope ok
  statement (LocalS line names values) scope ok = local names (tree.expressions values) scope (expressions values scope ok)
  statement (ReturnS line values) scope ok = return (tree.expressions values) scope (expressions values scope ok)
  statement (BreakS line) scope ok = break scope

  pub block : {P : Allowed} → (b : Block) (scope : Scope) → AreAllowed P scope.source (block_uses b (names_of scope.names)) → Gives P (IsScope scope.source (block_scope b (names_of scope.names))) (tree.block b scope)
  block NoStat scope ok = at_end scope
  block (MoreStat s more) scope ok =
      let after : Names = stat_scope s (names_of scope.names) in
      in_order (tree.statement s) (tree.block more) scope (statement s scope (left (In stat_uses s scope) (block_uses more after) ok))
      (λ inner is. moved more inner is (block more inner (in_scope after (block_uses more) (right (In stat_uses s scope) (block_uses more after) ok) inner is)))

  branches_of : {P : Allowed} → (arms : Arms) (scope : Scope) → AreAllowed P scope.source (arms_uses arms (names_of scope.names)) → EachBranch P scope (tree.branches_of arms)
  branches_of NoArm scope ok = tt
  branches_of (Arm test b more) scope ok =
      let after : List Use = In block_uses b scope ++ In arms_uses more scope in
      let behind_test = right (In expr_uses test scope) after ok in
      (expression test scope (left (In expr_uses test scope) after ok), forget (block b scope (left (In block_uses b scope) (In arms_uses more scope) behind_test)), branches_of more scope (right (In block_uses b scope) (In arms_uses more scope) behind_test))

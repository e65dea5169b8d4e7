-- Code as it is seen, with the names that functions have for its parts: what a box and a list lend.
use Rattle.std.proofs.Common.{◌≡◌, ◌∙◌, ℕ, suc, Bool, true, false, List, [], ◌∷◌, map, length, Option, Some, None, Result, OnOk, refl, sym, ap, subst, arith}
use Rattle.std.specs.Prelude.{◌==◌}
use Rattle.std.specs.declared.alloc.Global.{Global}
use Rattle.std.specs.declared.boxed.Box.{Box}
use Rattle.lua_syntax.specs.declared.UnaryOp.{UnaryOp}
use Rattle.lua_flat.specs.LuaSlotsCode.{CExp, FunctionC, IndexC, CallC, MethodC, TableC, AndC, OrC, OperateC, UnaryC, ParenC, CFields, NoFieldC, ItemC, PairC, CBlock, ThenC, AssignC, DoC, WhileC, RepeatC, EachC, ReturnC, DeclareC, LocalFunctionC}
use Rattle.lua_flat.specs.IsExpression.{is_last}
use Rattle.lua_code.specs.declared.place.Place.{Place}
use Rattle.lua_code.specs.declared.operator.Operator.{Operator}
use Rattle.lua_code.specs.declared.expression.Expression.{Expression}
use Rattle.lua_code.specs.declared.expression.Expression.TheVariants as expression
use Rattle.lua_code.specs.declared.expression.Entry.{Entry}
use Rattle.lua_code.specs.declared.expression.Entry.TheOpen.{Entry-F, Item, Pair}
use Rattle.lua_code.specs.declared.expression.Entry.TheViews.{out-Entry}
use Rattle.lua_code.specs.declared.expression.Entry.TheFolds.{map-Entry, fold_out-Entry}
use Rattle.lua_code.specs.declared.statement.Target.{Target}
use Rattle.lua_code.specs.declared.statement.Branch.{Branch}
use Rattle.lua_code.specs.declared.statement.Statement.{Statement}
use Rattle.lua_code.specs.declared.statement.Statement.TheVariants as statement
use Rattle.lua_code.specs.Seen.{place_seen, operator_seen, entry_step, expression_seen, expressions_seen, entry_seen, entries_seen, target_seen, statement_seen, block_seen, branches_seen}
use Rattle.lua_code.proofs.Views.{expression-Function, expression-Index, expression-Call, expression-Method, expression-Table, expression-And, expression-Or, expression-Operate, expression-Unary, expression-Paren}
use Rattle.lua_code.proofs.Views.{statement-Assign, statement-Do, statement-While, statement-Repeat, statement-If, statement-IfElse, statement-Count, statement-CountBy, statement-Each, statement-Return, statement-Declare, statement-LocalFunction}
use Rattle.lua_flat_code.specs.Making.{State}
use Rattle.lua_flat_code.specs.declared.operand.Wanted.{Wanted}
use Rattle.lua_flat_code.specs.Parts.{ValueSaid, ManySaid, TestSaid}
use Rattle.lua_flat_code.specs.Whole.{if_of, other_seen, step_seen, count_of}

-- EXPRESSIONS
pub function_seen : (x : Expression) (index : ℕ) (places qs : List Place) → x ≡ expression.Function index places → qs ≡ places → expression_seen x ≡ FunctionC index (map place_seen qs)
function_seen x index places qs is same = ap expression_seen is ∙ expression-Function index places ∙ ap (λ ps. FunctionC index (map place_seen ps)) (sym same)

pub index_seen : (x : Expression) (a b : Box Expression Global) (line : ℕ) (p q : Expression) → x ≡ expression.Index a b line → p ≡ a.value → q ≡ b.value → expression_seen x ≡ IndexC (expression_seen p) (expression_seen q) line
index_seen x a b line p q is first second = ap expression_seen is ∙ expression-Index a b line ∙ ap (λ y. IndexC (expression_seen y) (expression_seen b.value) line) (sym first) ∙ ap (λ y. IndexC (expression_seen p) (expression_seen y) line) (sym second)

pub operate_seen : (x : Expression) (which : Operator) (a b : Box Expression Global) (line : ℕ) (p q : Expression) → x ≡ expression.Operate which a b line → p ≡ a.value → q ≡ b.value
    → expression_seen x ≡ OperateC (operator_seen which) (expression_seen p) (expression_seen q) line
operate_seen x which a b line p q is first second =
    ap expression_seen is ∙ expression-Operate which a b line ∙ ap (λ y. OperateC (operator_seen which) (expression_seen y) (expression_seen b.value) line) (sym first) ∙ ap (λ y. OperateC (operator_seen which) (expression_seen p) (expression_seen y) line) (sym second)

pub unary_seen : (x : Expression) (which : UnaryOp) (a : Box Expression Global) (line : ℕ) (p : Expression) → x ≡ expression.Unary which a line → p ≡ a.value → expression_seen x ≡ UnaryC which (expression_seen p) line
unary_seen x which a line p is first = ap expression_seen is ∙ expression-Unary which a line ∙ ap (λ y. UnaryC which (expression_seen y) line) (sym first)

pub and_seen : (x : Expression) (a b : Box Expression Global) (p q : Expression) → x ≡ expression.And a b → p ≡ a.value → q ≡ b.value → expression_seen x ≡ AndC (expression_seen p) (expression_seen q)
and_seen x a b p q is first second = ap expression_seen is ∙ expression-And a b ∙ ap (λ y. AndC (expression_seen y) (expression_seen b.value)) (sym first) ∙ ap (λ y. AndC (expression_seen p) (expression_seen y)) (sym second)

pub or_seen : (x : Expression) (a b : Box Expression Global) (p q : Expression) → x ≡ expression.Or a b → p ≡ a.value → q ≡ b.value → expression_seen x ≡ OrC (expression_seen p) (expression_seen q)
or_seen x a b p q is first second = ap expression_seen is ∙ expression-Or a b ∙ ap (λ y. OrC (expression_seen y) (expression_seen b.value)) (sym first) ∙ ap (λ y. OrC (expression_seen p) (expression_seen y)) (sym second)

pub paren_seen : (x : Expression) (a : Box Expression Global) (p : Expression) → x ≡ expression.Paren a → p ≡ a.value → expression_seen x ≡ ParenC (expression_seen p)
paren_seen x a p is first = ap expression_seen is ∙ expression-Paren a ∙ ap (λ y. ParenC (expression_seen y)) (sym first)

pub table_seen : (x : Expression) (entries es : List Entry) (line : ℕ) → x ≡ expression.Table entries line → es ≡ entries → expression_seen x ≡ TableC (entries_seen es) line
table_seen x entries es line is same = ap expression_seen is ∙ expression-Table entries line ∙ ap (λ y. TableC (entries_seen y) line) (sym same)

pub call_seen : (x : Expression) (a : Box Expression Global) (arguments es : List Expression) (line : ℕ) (p : Expression) → x ≡ expression.Call a arguments line → p ≡ a.value → es ≡ arguments → expression_seen x ≡ CallC (expression_seen p) (expressions_seen es) line
call_seen x a arguments es line p is first same =
    ap expression_seen is ∙ expression-Call a arguments line ∙ ap (λ y. CallC (expression_seen y) (expressions_seen arguments) line) (sym first) ∙ ap (λ y. CallC (expression_seen p) (expressions_seen y) line) (sym same)

pub method_seen : (x : Expression) (a : Box Expression Global) (name : ℕ) (arguments es : List Expression) (line : ℕ) (p : Expression) → x ≡ expression.Method a name arguments line → p ≡ a.value → es ≡ arguments
    → expression_seen x ≡ MethodC (expression_seen p) name (expressions_seen es) line
method_seen x a name arguments es line p is first same =
    ap expression_seen is ∙ expression-Method a name arguments line ∙ ap (λ y. MethodC (expression_seen y) name (expressions_seen arguments) line) (sym first) ∙ ap (λ y. MethodC (expression_seen p) name (expressions_seen y) line) (sym same)

-- a result that is handed on
pub value_as : {E : Type 0} (r : Result (Unit {0}) E) (free to : ℕ) (s t : State) {e d : CExp} → e ≡ d → OnOk r (ValueSaid free d to s t) → OnOk r (ValueSaid free e to s t)
value_as r free to s t is h = subst (λ x. OnOk r (ValueSaid free x to s t)) (sym is) h

pub many_as : {E : Type 0} (r : Result (Unit {0}) E) (free to : ℕ) (wanted : Wanted) (s t : State) {e d : CExp} → e ≡ d → OnOk r (ManySaid free d to wanted s t) → OnOk r (ManySaid free e to wanted s t)
many_as r free to wanted s t is h = subst (λ x. OnOk r (ManySaid free x to wanted s t)) (sym is) h

pub test_as : {E : Type 0} (r : Result (Unit {0}) E) (free : ℕ) (goes_on : Bool) (hits hits' misses misses' : List ℕ) (s t : State) {e d : CExp} → e ≡ d → OnOk r (TestSaid free d goes_on hits hits' misses misses' s t) → OnOk r (TestSaid free e goes_on hits hits' misses misses' s t)
test_as r free goes_on hits hits' misses misses' s t is h = subst (λ x. OnOk r (TestSaid free x goes_on hits hits' misses misses' s t)) (sym is) h

-- STATEMENTS
pub assign_seen : (x : Statement) (targets ts : List Target) (values es : List Expression) → x ≡ statement.Assign targets values → ts ≡ targets → es ≡ values → (rest : CBlock) → statement_seen x rest ≡ ThenC (AssignC (map target_seen ts) (expressions_seen es)) rest
assign_seen x targets ts values es is first second rest =
    ap (λ y. statement_seen y rest) is ∙ statement-Assign targets values rest ∙ ap (λ y. ThenC (AssignC (map target_seen y) (expressions_seen values)) rest) (sym first) ∙ ap (λ y. ThenC (AssignC (map target_seen ts) (expressions_seen y)) rest) (sym second)

pub do_seen : (x : Statement) (body b : List Statement) → x ≡ statement.Do body → b ≡ body → (rest : CBlock) → statement_seen x rest ≡ ThenC (DoC (block_seen b)) rest
do_seen x body b is same rest = ap (λ y. statement_seen y rest) is ∙ statement-Do body rest ∙ ap (λ y. ThenC (DoC (block_seen y)) rest) (sym same)

pub while_seen : (x : Statement) (e : Expression) (body b : List Statement) → x ≡ statement.While e body → b ≡ body → (rest : CBlock) → statement_seen x rest ≡ ThenC (WhileC (expression_seen e) (block_seen b)) rest
while_seen x e body b is same rest = ap (λ y. statement_seen y rest) is ∙ statement-While e body rest ∙ ap (λ y. ThenC (WhileC (expression_seen e) (block_seen y)) rest) (sym same)

pub repeat_seen : (x : Statement) (body b : List Statement) (e : Expression) → x ≡ statement.Repeat body e → b ≡ body → (rest : CBlock) → statement_seen x rest ≡ ThenC (RepeatC (block_seen b) (expression_seen e)) rest
repeat_seen x body b e is same rest = ap (λ y. statement_seen y rest) is ∙ statement-Repeat body e rest ∙ ap (λ y. ThenC (RepeatC (block_seen y) (expression_seen e)) rest) (sym same)

pub choice_seen : (x : Statement) (arms bs : List Branch) (other : Option (List Statement)) → x ≡ statement.If arms other → bs ≡ arms → (rest : CBlock) → statement_seen x rest ≡ ThenC (if_of (branches_seen bs) (other_seen other)) rest
choice_seen x arms bs other is same rest = ap (λ y. statement_seen y rest) is ∙ go other ∙ ap (λ y. ThenC (if_of (branches_seen y) (other_seen other)) rest) (sym same)
  where
    go : (o : Option (List Statement)) → statement_seen (statement.If arms o) rest ≡ ThenC (if_of (branches_seen arms) (other_seen o)) rest
    go None = statement-If arms rest
    go (Some b) = statement-IfElse arms b rest

pub count_seen : (x : Statement) (boxed : Bool) (from to : Box Expression Global) (by : Option (Box Expression Global)) (body b : List Statement) (line : ℕ) (p q : Expression) → x ≡ statement.Count boxed from to by body line → p ≡ from.value → q ≡ to.value → b ≡ body
    → (rest : CBlock) → statement_seen x rest ≡ ThenC (count_of boxed (expression_seen p) (expression_seen q) (step_seen by) (block_seen b) line) rest
count_seen x boxed from to by body b line p q is first second same rest =
    ap (λ y. statement_seen y rest) is ∙ go by ∙ ap (λ y. ThenC (count_of boxed (expression_seen y) (expression_seen to.value) (step_seen by) (block_seen body) line) rest) (sym first)
    ∙ ap (λ y. ThenC (count_of boxed (expression_seen p) (expression_seen y) (step_seen by) (block_seen body) line) rest) (sym second)
    ∙ ap (λ y. ThenC (count_of boxed (expression_seen p) (expression_seen q) (step_seen by) (block_seen y) line) rest) (sym same)
  where
    go : (o : Option (Box Expression Global)) → statement_seen (statement.Count boxed from to o body line) rest ≡ ThenC (count_of boxed (expression_seen from.value) (expression_seen to.value) (step_seen o) (block_seen body) line) rest
    go None = statement-Count boxed from to body line rest
    go (Some e) = statement-CountBy boxed from to e body line rest

pub each_seen : (x : Statement) (flags fs : List Bool) (values es : List Expression) (body b : List Statement) (line : ℕ) → x ≡ statement.Each flags values body line → fs ≡ flags → es ≡ values → b ≡ body
    → (rest : CBlock) → statement_seen x rest ≡ ThenC (EachC fs (expressions_seen es) (block_seen b) line) rest
each_seen x flags fs values es body b line is first second third rest =
    ap (λ y. statement_seen y rest) is ∙ statement-Each flags values body line rest ∙ ap (λ y. ThenC (EachC y (expressions_seen values) (block_seen body) line) rest) (sym first)
    ∙ ap (λ y. ThenC (EachC fs (expressions_seen y) (block_seen body) line) rest) (sym second) ∙ ap (λ y. ThenC (EachC fs (expressions_seen es) (block_seen y) line) rest) (sym third)

pub return_seen : (x : Statement) (values es : List Expression) → x ≡ statement.Return values → es ≡ values → (rest : CBlock) → statement_seen x rest ≡ ThenC (ReturnC (expressions_seen es)) rest
return_seen x values es is same rest = ap (λ y. statement_seen y rest) is ∙ statement-Return values rest ∙ ap (λ y. ThenC (ReturnC (expressions_seen y)) rest) (sym same)

pub declare_seen : (x : Statement) (flags fs : List Bool) (values es : List Expression) → x ≡ statement.Declare flags values → fs ≡ flags → es ≡ values → (rest : CBlock) → statement_seen x rest ≡ DeclareC fs (expressions_seen es) rest
declare_seen x flags fs values es is first second rest =
    ap (λ y. statement_seen y rest) is ∙ statement-Declare flags values rest ∙ ap (λ y. DeclareC y (expressions_seen values) rest) (sym first) ∙ ap (λ y. DeclareC fs (expressions_seen y) rest) (sym second)

pub named_seen : (x : Statement) (boxed : Bool) (index : ℕ) (places qs : List Place) → x ≡ statement.LocalFunction boxed index places → qs ≡ places → (rest : CBlock) → statement_seen x rest ≡ LocalFunctionC boxed index (map place_seen qs) rest
named_seen x boxed index places qs is same rest = ap (λ y. statement_seen y rest) is ∙ statement-LocalFunction boxed index places rest ∙ ap (λ y. LocalFunctionC boxed index (map place_seen y) rest) (sym same)

-- WHETHER AN ENTRY IS THE LAST one
entry_opens : (x : Entry) (rest : CFields) → entry_seen x rest ≡ entry_step (map-Entry _ _ _ _ entry_seen expression_seen (out-Entry x)) rest
unfolding expression_seen entry_seen
entry_opens x rest = ap (λ (y : CFields → CFields). y rest) (fold_out-Entry _ _ _ _ x)

not_last : (l : Entry-F Entry Expression) (rest : CFields) → is_last (entry_step (map-Entry _ _ _ _ entry_seen expression_seen l) rest) ≡ false
not_last (Item e) rest = refl
not_last (Pair k e) rest = refl

no_zero : (n : ℕ) → (suc n == 0) ≡ false
no_zero n = grind arith

pub last_seen : (es : List Entry) (b : Bool) → b ≡ (length es == 0) → b ≡ is_last (entries_seen es)
last_seen [] b is = is
last_seen (e ∷ es) b is = is ∙ no_zero (length es) ∙ sym (ap is_last (entry_opens e (entries_seen es)) ∙ not_last (out-Entry e) (entries_seen es))

pub no_more_fields : (rest : CFields) → is_last rest ≡ true → rest ≡ NoFieldC
no_more_fields NoFieldC h = refl
no_more_fields (ItemC e rest) h = cc
no_more_fields (PairC k e rest) h = cc

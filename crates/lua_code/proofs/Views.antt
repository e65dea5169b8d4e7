-- What code is seen as, one level at a time: that of a part from those of its children. A proof that makes or reads such a part lists
-- `seen`.
use Rattle.std.proofs.Common.{◌≡◌, ◌∙◌, ℕ, Bool, refl, ap, List, [], ◌∷◌, map, Some, None}
use Rattle.std.specs.Prelude.{ℤ}
use Rattle.std.specs.declared.alloc.Global.{Global}
use Rattle.std.specs.declared.boxed.Box.{Box}
use Rattle.lua_slots.specs.LuaHeapValue as value
use Rattle.lua_syntax.specs.declared.UnaryOp.{UnaryOp}
use Rattle.lua_slots.specs.Code.{CExp, ConstantC, TextC, DotsC, FunctionC, LocalC, GlobalC, IndexC, CallC, MethodC, TableC, AndC, OrC, OperateC, UnaryC, ParenC}
use Rattle.lua_slots.specs.Code.{MoreC, CFields, ItemC, PairC}
use Rattle.lua_slots.specs.Code.{AssignC, CallStatC, DoC, WhileC, RepeatC, IfC, IfElseC, CountC, CountByC, EachC, ReturnC, BreakC, CBlock, DeclareC, LocalFunctionC, ThenC, CArms, ArmC}
use Rattle.lua_code.specs.declared.place.Place.{Place}
use Rattle.lua_code.specs.declared.operator.Operator.{Operator}
use Rattle.lua_code.specs.declared.expression.Expression.{Expression}
use Rattle.lua_code.specs.declared.expression.Expression.TheVariants as expression
use Rattle.lua_code.specs.declared.expression.Entry.{Entry}
use Rattle.lua_code.specs.declared.expression.Entry.TheVariants as entry
use Rattle.lua_code.specs.declared.expression.Entry.TheOpen.{Expression-F, Entry-F}
use Rattle.lua_code.specs.declared.expression.Entry.TheViews.{out-Expression, out-Entry, outs-Nil, outs-Truth, outs-Number, outs-Text, outs-Dots, outs-Function, outs-Local, outs-Global, outs-Index, outs-Call, outs-Method, outs-Table, outs-And, outs-Or, outs-Operate, outs-Unary, outs-Paren, outs-Item, outs-Pair}
use Rattle.lua_code.specs.declared.expression.Entry.TheFolds.{map-Expression, map-Entry, fold_out-Expression, fold_out-Entry}
use Rattle.lua_code.specs.declared.statement.Target.{Target}
use Rattle.lua_code.specs.declared.statement.Statement.{Statement}
use Rattle.lua_code.specs.declared.statement.Statement.TheVariants as statement
use Rattle.lua_code.specs.declared.statement.Branch.{Branch}
use Rattle.lua_code.specs.declared.statement.Statement.TheOpen.{Statement-F}
use Rattle.lua_code.specs.declared.statement.Statement.TheViews.{roll-Branch, out-Statement, out-Branch, outs-Assign, outs-Call as outs-CallStat, outs-Do, outs-While, outs-Repeat, outs-If, outs-Count, outs-Each, outs-Return, outs-Break, outs-Declare, outs-LocalFunction}
use Rattle.lua_code.specs.declared.statement.Statement.TheFolds.{map-Statement, fold_out-Statement, fold_out-Branch, fold-roll-Branch}
use Rattle.lua_code.specs.Seen.{place_seen, operator_seen, codes_of, entries_of, expression_step, entry_step, expression_seen, entry_seen, expressions_seen, entries_seen, target_seen, block_of, arms_of, statement_step, statement_seen, branch_seen, block_seen, branches_seen}

codes_level : (es : List Expression) → codes_of (map expression_seen es) ≡ expressions_seen es
codes_level [] = refl
codes_level (e ∷ es) = ap (λ x. MoreC (expression_seen e) x) (codes_level es)

entries_level : (es : List Entry) → entries_of (map entry_seen es) ≡ entries_seen es
entries_level [] = refl
entries_level (e ∷ es) = ap (λ x. entry_seen e x) (entries_level es)

block_level : (ss : List Statement) → block_of (map statement_seen ss) ≡ block_seen ss
block_level [] = refl
block_level (s ∷ ss) = ap (λ x. statement_seen s x) (block_level ss)

arms_level : (bs : List Branch) → arms_of (map branch_seen bs) ≡ branches_seen bs
arms_level [] = refl
arms_level (b ∷ bs) = ap (λ x. branch_seen b x) (arms_level bs)

-- a level, and what it is seen as
abbrev expression_in : Expression-F Entry Expression → CExp
expression_in l = expression_step (map-Expression _ _ _ _ entry_seen expression_seen l)

abbrev entry_in : Entry-F Entry Expression → CFields → CFields
entry_in l = entry_step (map-Entry _ _ _ _ entry_seen expression_seen l)

abbrev statement_in : Statement-F Statement Branch → CBlock → CBlock
statement_in l = statement_step (map-Statement _ _ _ _ statement_seen branch_seen l)

expression_opens : (x : Expression) → expression_seen x ≡ expression_in (out-Expression x)
unfolding expression_seen entry_seen
expression_opens = fold_out-Expression _ _ _ _

entry_opens : (x : Entry) → entry_seen x ≡ entry_in (out-Entry x)
unfolding expression_seen entry_seen
entry_opens = fold_out-Entry _ _ _ _

statement_opens : (x : Statement) → statement_seen x ≡ statement_in (out-Statement x)
unfolding statement_seen branch_seen
statement_opens = fold_out-Statement _ _ _ _

expression_at : (x : Expression) {l : Expression-F Entry Expression} → out-Expression x ≡ l → expression_seen x ≡ expression_in l
expression_at x e = expression_opens x ∙ ap expression_in e

entry_at : (x : Entry) {l : Entry-F Entry Expression} → out-Entry x ≡ l → (rest : CFields) → entry_seen x rest ≡ entry_in l rest
entry_at x e rest = ap (λ y. y rest) (entry_opens x ∙ ap entry_in e)

statement_at : (x : Statement) {l : Statement-F Statement Branch} → out-Statement x ≡ l → (rest : CBlock) → statement_seen x rest ≡ statement_in l rest
statement_at x e rest = ap (λ y. y rest) (statement_opens x ∙ ap statement_in e)

pub expression-Nil : expression_seen expression.Nil ≡ ConstantC value.Nil
expression-Nil = expression_at expression.Nil outs-Nil

pub expression-Truth : (b : Bool) → expression_seen (expression.Truth b) ≡ ConstantC (value.Truth b)
expression-Truth b = expression_at (expression.Truth b) (outs-Truth b)

pub expression-Number : (z : ℤ) → expression_seen (expression.Number z) ≡ ConstantC (value.Number z)
expression-Number z = expression_at (expression.Number z) (outs-Number z)

pub expression-Text : (n : ℕ) → expression_seen (expression.Text n) ≡ TextC n
expression-Text n = expression_at (expression.Text n) (outs-Text n)

pub expression-Dots : expression_seen expression.Dots ≡ DotsC
expression-Dots = expression_at expression.Dots outs-Dots

pub expression-Function : (index : ℕ) (places : List Place) → expression_seen (expression.Function index places) ≡ FunctionC index (map place_seen places)
expression-Function index places = expression_at (expression.Function index places) (outs-Function index places)

pub expression-Local : (p : Place) → expression_seen (expression.Local p) ≡ LocalC (place_seen p)
expression-Local p = expression_at (expression.Local p) (outs-Local p)

pub expression-Global : (name : ℕ) (line : ℕ) → expression_seen (expression.Global name line) ≡ GlobalC name line
expression-Global name line = expression_at (expression.Global name line) (outs-Global name line)

pub expression-Index : (a : Box Expression Global) (b : Box Expression Global) (line : ℕ) → expression_seen (expression.Index a b line) ≡ IndexC (expression_seen a.value) (expression_seen b.value) line
expression-Index a b line = expression_at (expression.Index a b line) (outs-Index a b line)

pub expression-Call : (a : Box Expression Global) (es : List Expression) (line : ℕ) → expression_seen (expression.Call a es line) ≡ CallC (expression_seen a.value) (expressions_seen es) line
expression-Call a es line = expression_at (expression.Call a es line) (outs-Call a es line) ∙ ap (λ y. CallC (expression_seen a.value) y line) (codes_level es)

pub expression-Method : (a : Box Expression Global) (name : ℕ) (es : List Expression) (line : ℕ) → expression_seen (expression.Method a name es line) ≡ MethodC (expression_seen a.value) name (expressions_seen es) line
expression-Method a name es line = expression_at (expression.Method a name es line) (outs-Method a name es line) ∙ ap (λ y. MethodC (expression_seen a.value) name y line) (codes_level es)

pub expression-Table : (es : List Entry) (line : ℕ) → expression_seen (expression.Table es line) ≡ TableC (entries_seen es) line
expression-Table es line = expression_at (expression.Table es line) (outs-Table es line) ∙ ap (λ y. TableC y line) (entries_level es)

pub expression-And : (a : Box Expression Global) (b : Box Expression Global) → expression_seen (expression.And a b) ≡ AndC (expression_seen a.value) (expression_seen b.value)
expression-And a b = expression_at (expression.And a b) (outs-And a b)

pub expression-Or : (a : Box Expression Global) (b : Box Expression Global) → expression_seen (expression.Or a b) ≡ OrC (expression_seen a.value) (expression_seen b.value)
expression-Or a b = expression_at (expression.Or a b) (outs-Or a b)

pub expression-Operate : (op : Operator) (a : Box Expression Global) (b : Box Expression Global) (line : ℕ) → expression_seen (expression.Operate op a b line) ≡ OperateC (operator_seen op) (expression_seen a.value) (expression_seen b.value) line
expression-Operate op a b line = expression_at (expression.Operate op a b line) (outs-Operate op a b line)

pub expression-Unary : (op : UnaryOp) (a : Box Expression Global) (line : ℕ) → expression_seen (expression.Unary op a line) ≡ UnaryC op (expression_seen a.value) line
expression-Unary op a line = expression_at (expression.Unary op a line) (outs-Unary op a line)

pub expression-Paren : (a : Box Expression Global) → expression_seen (expression.Paren a) ≡ ParenC (expression_seen a.value)
expression-Paren a = expression_at (expression.Paren a) (outs-Paren a)

pub entry-Item : (e : Expression) (rest : CFields) → entry_seen (entry.Item e) rest ≡ ItemC (expression_seen e) rest
entry-Item e = entry_at (entry.Item e) (outs-Item e)

pub entry-Pair : (k : Expression) (e : Expression) (rest : CFields) → entry_seen (entry.Pair k e) rest ≡ PairC (expression_seen k) (expression_seen e) rest
entry-Pair k e = entry_at (entry.Pair k e) (outs-Pair k e)

pub statement-Assign : (ts : List Target) (es : List Expression) (rest : CBlock) → statement_seen (statement.Assign ts es) rest ≡ ThenC (AssignC (map target_seen ts) (expressions_seen es)) rest
statement-Assign ts es rest = statement_at (statement.Assign ts es) (outs-Assign ts es) rest

pub statement-Call : (e : Expression) (rest : CBlock) → statement_seen (statement.Call e) rest ≡ ThenC (CallStatC (expression_seen e)) rest
statement-Call e rest = statement_at (statement.Call e) (outs-CallStat e) rest

pub statement-Do : (b : List Statement) (rest : CBlock) → statement_seen (statement.Do b) rest ≡ ThenC (DoC (block_seen b)) rest
statement-Do b rest = statement_at (statement.Do b) (outs-Do b) rest ∙ ap (λ y. ThenC (DoC y) rest) (block_level b)

pub statement-While : (e : Expression) (b : List Statement) (rest : CBlock) → statement_seen (statement.While e b) rest ≡ ThenC (WhileC (expression_seen e) (block_seen b)) rest
statement-While e b rest = statement_at (statement.While e b) (outs-While e b) rest ∙ ap (λ y. ThenC (WhileC (expression_seen e) y) rest) (block_level b)

pub statement-Repeat : (b : List Statement) (e : Expression) (rest : CBlock) → statement_seen (statement.Repeat b e) rest ≡ ThenC (RepeatC (block_seen b) (expression_seen e)) rest
statement-Repeat b e rest = statement_at (statement.Repeat b e) (outs-Repeat b e) rest ∙ ap (λ y. ThenC (RepeatC y (expression_seen e)) rest) (block_level b)

pub statement-If : (arms : List Branch) (rest : CBlock) → statement_seen (statement.If arms None) rest ≡ ThenC (IfC (branches_seen arms)) rest
statement-If arms rest = statement_at (statement.If arms None) (outs-If arms None) rest ∙ ap (λ y. ThenC (IfC y) rest) (arms_level arms)

pub statement-IfElse : (arms : List Branch) (b : List Statement) (rest : CBlock) → statement_seen (statement.If arms (Some b)) rest ≡ ThenC (IfElseC (branches_seen arms) (block_seen b)) rest
statement-IfElse arms b rest = statement_at (statement.If arms (Some b)) (outs-If arms (Some b)) rest ∙ ap (λ y. ThenC (IfElseC y (block_of (map statement_seen b))) rest) (arms_level arms) ∙ ap (λ y. ThenC (IfElseC (branches_seen arms) y) rest) (block_level b)

pub statement-Count : (boxed : Bool) (from : Box Expression Global) (to : Box Expression Global) (b : List Statement) (line : ℕ) (rest : CBlock) → statement_seen (statement.Count boxed from to None b line) rest ≡ ThenC (CountC boxed (expression_seen from.value) (expression_seen to.value) (block_seen b) line) rest
statement-Count boxed from to b line rest = statement_at (statement.Count boxed from to None b line) (outs-Count boxed from to None b line) rest ∙ ap (λ y. ThenC (CountC boxed (expression_seen from.value) (expression_seen to.value) y line) rest) (block_level b)

pub statement-CountBy : (boxed : Bool) (from : Box Expression Global) (to : Box Expression Global) (by : Box Expression Global) (b : List Statement) (line : ℕ) (rest : CBlock) → statement_seen (statement.Count boxed from to (Some by) b line) rest ≡ ThenC (CountByC boxed (expression_seen from.value) (expression_seen to.value) (expression_seen by.value) (block_seen b) line) rest
statement-CountBy boxed from to by b line rest = statement_at (statement.Count boxed from to (Some by) b line) (outs-Count boxed from to (Some by) b line) rest ∙ ap (λ y. ThenC (CountByC boxed (expression_seen from.value) (expression_seen to.value) (expression_seen by.value) y line) rest) (block_level b)

pub statement-Each : (flags : List Bool) (es : List Expression) (b : List Statement) (line : ℕ) (rest : CBlock) → statement_seen (statement.Each flags es b line) rest ≡ ThenC (EachC flags (expressions_seen es) (block_seen b) line) rest
statement-Each flags es b line rest = statement_at (statement.Each flags es b line) (outs-Each flags es b line) rest ∙ ap (λ y. ThenC (EachC flags (expressions_seen es) y line) rest) (block_level b)

pub statement-Return : (es : List Expression) (rest : CBlock) → statement_seen (statement.Return es) rest ≡ ThenC (ReturnC (expressions_seen es)) rest
statement-Return es rest = statement_at (statement.Return es) (outs-Return es) rest

pub statement-Break : (rest : CBlock) → statement_seen statement.Break rest ≡ ThenC BreakC rest
statement-Break rest = statement_at statement.Break outs-Break rest

pub statement-Declare : (flags : List Bool) (es : List Expression) (rest : CBlock) → statement_seen (statement.Declare flags es) rest ≡ DeclareC flags (expressions_seen es) rest
statement-Declare flags es rest = statement_at (statement.Declare flags es) (outs-Declare flags es) rest

pub statement-LocalFunction : (boxed : Bool) (index : ℕ) (places : List Place) (rest : CBlock) → statement_seen (statement.LocalFunction boxed index places) rest ≡ LocalFunctionC boxed index (map place_seen places) rest
statement-LocalFunction boxed index places rest = statement_at (statement.LocalFunction boxed index places) (outs-LocalFunction boxed index places) rest

pub branch_made : (test : Expression) (body : List Statement) (rest : CArms) → branch_seen (roll-Branch (record { test = test; body = body })) rest ≡ ArmC (expression_seen test) (block_seen body) rest
unfolding statement_seen branch_seen
branch_made test body rest = ap {A = CArms → CArms} (λ y. y rest) (fold-roll-Branch _ _ _ _ (record { test = test; body = body })) ∙ ap (λ y. ArmC (expression_seen test) y rest) (block_level body)

pub branch_opens : (x : Branch) (rest : CArms) → branch_seen x rest ≡ ArmC (expression_seen (out-Branch x).test) (block_seen (out-Branch x).body) rest
unfolding statement_seen branch_seen
branch_opens x rest = ap {A = CArms → CArms} (λ y. y rest) (fold_out-Branch _ _ _ _ x) ∙ ap (λ y. ArmC (expression_seen (out-Branch x).test) y rest) (block_level (out-Branch x).body)

pub ruleset seen = (expression-Nil, expression-Truth, expression-Number, expression-Text, expression-Dots, expression-Function, expression-Local, expression-Global, expression-Index, expression-Call, expression-Method, expression-Table, expression-And, expression-Or, expression-Operate, expression-Unary, expression-Paren, entry-Item, entry-Pair, statement-Assign, statement-Call, statement-Do, statement-While, statement-Repeat, statement-If, statement-IfElse, statement-Count, statement-CountBy, statement-Each, statement-Return, statement-Break, statement-Declare, statement-LocalFunction, branch_made, branch_opens)

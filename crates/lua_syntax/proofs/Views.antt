-- Plain trees, one level at a time: that of a part from those of its children. A proof that makes such a part lists `views`.
use Rattle.std.proofs.Common.{◌≡◌, ◌∙◌, ℕ, refl, sym, ap, List, [], ◌∷◌, map, Some, None, Bool, ◌⊎◌, inl, inr, subst}
use Rattle.std.proofs.lemmas.List.{map-append, append_assoc, append-nil}
use Rattle.std.specs.Prelude.{ℤ}
use Rattle.std.specs.declared.alloc.Global.{Global}
use Rattle.std.specs.declared.boxed.Box.{Box}
use Rattle.wk_base.specs.declared.bytes.Bytes.{Bytes}
use Rattle.lua_syntax.specs.declared.BinaryOp.{BinaryOp}
use Rattle.lua_syntax.specs.declared.UnaryOp.{UnaryOp}
use Rattle.lua_syntax.specs.declared.ExprKind.TheVariants.{Nil as NilV, True as TrueV, False as FalseV, Number as NumberV, Text as TextV, Dots as DotsV, Function as FunctionV, Name as NameV, Index as IndexV, Call as ExprCallV, Method as MethodV, Table as TableV, Binary as BinaryV, Unary as UnaryV, Paren as ParenV}
use Rattle.lua_syntax.specs.declared.Field.TheVariants.{Item as ItemV, Pair as PairV}
use Rattle.lua_syntax.specs.declared.StatKind.TheVariants.{Assign as AssignV, Call as StatCallV, Do as DoV, While as WhileV, Repeat as RepeatV, If as IfV, Count as CountV, Each as EachV, LocalFunction as LocalFunctionV, Local as LocalV, Return as ReturnV, Break as BreakV}
use Rattle.lua_syntax.specs.declared.ExprKind.TheViews.{outs-Nil, outs-True, outs-False, outs-Number, outs-Text, outs-Dots, outs-Function, outs-Name, outs-Index, outs-ExprKind::Call, outs-Method, outs-Table, outs-Binary, outs-Unary, outs-Paren, outs-Item, outs-Pair, outs-Assign, outs-StatKind::Call, outs-Do, outs-While, outs-Repeat, outs-If, outs-Count, outs-Each, outs-LocalFunction, outs-Local, outs-Return, outs-Break}
use Rattle.lua_syntax.specs.declared.ExprKind.{ExprKind}
use Rattle.lua_syntax.specs.declared.Field.{Field}
use Rattle.lua_syntax.specs.declared.StatKind.{StatKind}
use Rattle.lua_syntax.specs.declared.Arm.{Arm as ArmNode}
use Rattle.lua_syntax.specs.declared.Block.{Block as BlockNode}
use Rattle.lua_syntax.specs.declared.Expr.{Expr}
use Rattle.lua_syntax.specs.declared.Function.{Function as FunctionNode}
use Rattle.lua_syntax.specs.declared.Stat.{Stat as StatNode}
use Rattle.lua_syntax.specs.declared.ExprKind.TheOpen.{ExprKind-F, Field-F, Item as ItemField, Pair as PairField, StatKind-F}
use Rattle.lua_syntax.specs.declared.ExprKind.TheViews.{roll-Arm, roll-Block, roll-Function, out-ExprKind, out-Field, out-StatKind, out-Arm, out-Block, out-Function}
use Rattle.lua_syntax.specs.declared.ExprKind.TheFolds.{map-ExprKind, fold_out-ExprKind, map-Field, fold_out-Field, map-StatKind, fold_out-StatKind, fold_out-Arm, fold_out-Block, fold_out-Expr, fold_out-Function, fold_out-Stat, fold-roll-Arm, fold-roll-Block, fold-roll-Function}
use Rattle.lua_syntax.specs.Tree.{Exp, Fields, Fun, Block, Arms, Stat, NilE, TrueE, FalseE, NumberE, TextE, DotsE, FunctionE, NameE, IndexE, CallE, MethodE, TableE, BinaryE, UnaryE, ParenE, MoreExp, Item, Pair, Lambda, MoreStat, Arm, AssignS, CallS, DoS, WhileS, RepeatS, IfS, IfElseS, CountS, CountByS, EachS, LocalFunctionS, LocalS, ReturnS, BreakS}
use Rattle.lua_syntax.specs.View.{exps_of, fields_of, arms_of, stats_of, kind_step, field_step, stat_step, kind_view, field_view, stat_kind_view, arm_view, block_view, expr_view, function_view, stat_view, exprs_view, fields_view, arms_view, stats_view}

pub exprs_level : (es : List Expr) → exps_of (map expr_view es) ≡ exprs_view es
exprs_level [] = refl
exprs_level (e ∷ es) = ap (λ x. MoreExp (expr_view e) x) (exprs_level es)

pub fields_level : (fs : List Field) → fields_of (map field_view fs) ≡ fields_view fs
fields_level [] = refl
fields_level (f ∷ fs) = ap (λ x. field_view f x) (fields_level fs)

pub arms_level : (fs : List ArmNode) → arms_of (map arm_view fs) ≡ arms_view fs
arms_level [] = refl
arms_level (f ∷ fs) = ap (λ x. arm_view f x) (arms_level fs)

pub stats_level : (ss : List StatNode) → stats_of (map stat_view ss) ≡ stats_view ss
stats_level [] = refl
stats_level (s ∷ ss) = ap (λ x. MoreStat (stat_view s) x) (stats_level ss)

-- One level of a type of the tree, and its plain tree from those of its children.
abbrev Open : (Type 0 → Type 0 → Type 0 → Type 0 → Type 0 → Type 0 → Type 0 → Type 0 → Type 0) → Type 0
Open F = F ExprKind Field StatKind ArmNode BlockNode Expr FunctionNode StatNode

abbrev with_views : {R : Type 0} → ((ExprKind → ℕ → Exp) → (Field → Fields → Fields) → (StatKind → ℕ → Stat) → (ArmNode → Arms → Arms) → (BlockNode → Block) → (Expr → Exp) → (FunctionNode → Fun) → (StatNode → Stat) → R) → R
with_views map' = map' kind_view field_view stat_kind_view arm_view block_view expr_view function_view stat_view

abbrev pub kind_in : Open ExprKind-F → ℕ → Exp
kind_in l = kind_step (with_views (map-ExprKind _ _ _ _ _ _ _ _ _ _ _ _ _ _ _ _) l)

abbrev pub field_in : Open Field-F → Fields → Fields
field_in l = field_step (with_views (map-Field _ _ _ _ _ _ _ _ _ _ _ _ _ _ _ _) l)

abbrev pub stat_in : Open StatKind-F → ℕ → Stat
stat_in l = stat_step (with_views (map-StatKind _ _ _ _ _ _ _ _ _ _ _ _ _ _ _ _) l)

pub kind_opens : (x : ExprKind) → kind_view x ≡ kind_in (out-ExprKind x)
unfolding kind_view field_view stat_kind_view arm_view block_view expr_view function_view stat_view
kind_opens = fold_out-ExprKind _ _ _ _ _ _ _ _ _ _ _ _ _ _ _ _

pub field_opens : (x : Field) → field_view x ≡ field_in (out-Field x)
unfolding kind_view field_view stat_kind_view arm_view block_view expr_view function_view stat_view
field_opens = fold_out-Field _ _ _ _ _ _ _ _ _ _ _ _ _ _ _ _

pub stat_kind_opens : (x : StatKind) → stat_kind_view x ≡ stat_in (out-StatKind x)
unfolding kind_view field_view stat_kind_view arm_view block_view expr_view function_view stat_view
stat_kind_opens = fold_out-StatKind _ _ _ _ _ _ _ _ _ _ _ _ _ _ _ _

pub arm_opens : (x : ArmNode) → arm_view x ≡ (λ rest. Arm (expr_view (out-Arm x).test) (block_view (out-Arm x).body) rest)
unfolding kind_view field_view stat_kind_view arm_view block_view expr_view function_view stat_view
arm_opens = fold_out-Arm _ _ _ _ _ _ _ _ _ _ _ _ _ _ _ _

pub block_map : (x : BlockNode) → block_view x ≡ stats_of (map stat_view (out-Block x).stats)
unfolding kind_view field_view stat_kind_view arm_view block_view expr_view function_view stat_view
block_map = fold_out-Block _ _ _ _ _ _ _ _ _ _ _ _ _ _ _ _

pub expr_opens : (x : Expr) → expr_view x ≡ kind_view x.kind x.line
unfolding kind_view field_view stat_kind_view arm_view block_view expr_view function_view stat_view
expr_opens = fold_out-Expr _ _ _ _ _ _ _ _ _ _ _ _ _ _ _ _

pub function_opens : (x : FunctionNode) → function_view x ≡ Lambda (out-Function x).params (out-Function x).dots (block_view (out-Function x).body)
unfolding kind_view field_view stat_kind_view arm_view block_view expr_view function_view stat_view
function_opens = fold_out-Function _ _ _ _ _ _ _ _ _ _ _ _ _ _ _ _

pub stat_opens : (x : StatNode) → stat_view x ≡ stat_kind_view x.kind x.line
unfolding kind_view field_view stat_kind_view arm_view block_view expr_view function_view stat_view
stat_opens = fold_out-Stat _ _ _ _ _ _ _ _ _ _ _ _ _ _ _ _

pub block_opens : (x : BlockNode) → block_view x ≡ stats_view (out-Block x).stats
block_opens x = block_map x ∙ stats_level (out-Block x).stats

-- The plain tree of a value whose level is known.
kind_at : (x : ExprKind) {l : Open ExprKind-F} → out-ExprKind x ≡ l → (line : ℕ) → kind_view x line ≡ kind_in l line
kind_at x e line = ap (λ y. y line) (kind_opens x ∙ ap kind_in e)

field_at : (x : Field) {l : Open Field-F} → out-Field x ≡ l → (rest : Fields) → field_view x rest ≡ field_in l rest
field_at x e rest = ap (λ y. y rest) (field_opens x ∙ ap field_in e)

stat_at : (x : StatKind) {l : Open StatKind-F} → out-StatKind x ≡ l → (line : ℕ) → stat_kind_view x line ≡ stat_in l line
stat_at x e line = ap (λ y. y line) (stat_kind_opens x ∙ ap stat_in e)

pub kind-Nil : (line : ℕ) → kind_view NilV line ≡ NilE line
kind-Nil = kind_at NilV outs-Nil

pub kind-True : (line : ℕ) → kind_view TrueV line ≡ TrueE line
kind-True = kind_at TrueV outs-True

pub kind-False : (line : ℕ) → kind_view FalseV line ≡ FalseE line
kind-False = kind_at FalseV outs-False

pub kind-Dots : (line : ℕ) → kind_view DotsV line ≡ DotsE line
kind-Dots = kind_at DotsV outs-Dots

pub kind-Number : (n : ℤ) (line : ℕ) → kind_view (NumberV n) line ≡ NumberE line n
kind-Number n = kind_at (NumberV n) (outs-Number n)

pub kind-Text : (t : Bytes) (line : ℕ) → kind_view (TextV t) line ≡ TextE line t
kind-Text t = kind_at (TextV t) (outs-Text t)

pub kind-Name : (t : Bytes) (line : ℕ) → kind_view (NameV t) line ≡ NameE line t
kind-Name t = kind_at (NameV t) (outs-Name t)

pub kind-Function : (f : FunctionNode) (line : ℕ) → kind_view (FunctionV f) line ≡ FunctionE line (function_view f)
kind-Function f = kind_at (FunctionV f) (outs-Function f)

pub kind-Index : (a : Box Expr Global) (b : Box Expr Global) (line : ℕ) → kind_view (IndexV a b) line ≡ IndexE line (expr_view a.value) (expr_view b.value)
kind-Index a b = kind_at (IndexV a b) (outs-Index a b)

pub kind-Call : (a : Box Expr Global) (args : List Expr) (line : ℕ) → kind_view (ExprCallV a args) line ≡ CallE line (expr_view a.value) (exprs_view args)
kind-Call a args line = kind_at (ExprCallV a args) (outs-ExprKind::Call a args) line ∙ ap (λ y. CallE line (expr_view a.value) y) (exprs_level args)

pub kind-Method : (a : Box Expr Global) (name : Bytes) (args : List Expr) (line : ℕ) → kind_view (MethodV a name args) line ≡ MethodE line (expr_view a.value) name (exprs_view args)
kind-Method a name args line = kind_at (MethodV a name args) (outs-Method a name args) line ∙ ap (λ y. MethodE line (expr_view a.value) name y) (exprs_level args)

pub kind-Table : (fields : List Field) (line : ℕ) → kind_view (TableV fields) line ≡ TableE line (fields_view fields)
kind-Table fields line = kind_at (TableV fields) (outs-Table fields) line ∙ ap (λ y. TableE line y) (fields_level fields)

pub kind-Binary : (op : BinaryOp) (a : Box Expr Global) (b : Box Expr Global) (line : ℕ) → kind_view (BinaryV op a b) line ≡ BinaryE line op (expr_view a.value) (expr_view b.value)
kind-Binary op a b = kind_at (BinaryV op a b) (outs-Binary op a b)

pub kind-Unary : (op : UnaryOp) (a : Box Expr Global) (line : ℕ) → kind_view (UnaryV op a) line ≡ UnaryE line op (expr_view a.value)
kind-Unary op a = kind_at (UnaryV op a) (outs-Unary op a)

pub kind-Paren : (a : Box Expr Global) (line : ℕ) → kind_view (ParenV a) line ≡ ParenE line (expr_view a.value)
kind-Paren a = kind_at (ParenV a) (outs-Paren a)

pub field-Item : (e : Expr) (rest : Fields) → field_view (ItemV e) rest ≡ Item (expr_view e) rest
field-Item e = field_at (ItemV e) (outs-Item e)

pub field-Pair : (e : Expr) (f : Expr) (rest : Fields) → field_view (PairV e f) rest ≡ Pair (expr_view e) (expr_view f) rest
field-Pair e f = field_at (PairV e f) (outs-Pair e f)

pub stat-Assign : (ts : List Expr) (es : List Expr) (line : ℕ) → stat_kind_view (AssignV ts es) line ≡ AssignS line (exprs_view ts) (exprs_view es)
stat-Assign ts es line = stat_at (AssignV ts es) (outs-Assign ts es) line ∙ ap (λ y. AssignS line y (exps_of (map expr_view es))) (exprs_level ts) ∙ ap (λ y. AssignS line (exprs_view ts) y) (exprs_level es)

pub stat-Call : (e : Expr) (line : ℕ) → stat_kind_view (StatCallV e) line ≡ CallS line (expr_view e)
stat-Call e = stat_at (StatCallV e) (outs-StatKind::Call e)

pub stat-Do : (b : BlockNode) (line : ℕ) → stat_kind_view (DoV b) line ≡ DoS line (block_view b)
stat-Do b = stat_at (DoV b) (outs-Do b)

pub stat-While : (e : Expr) (b : BlockNode) (line : ℕ) → stat_kind_view (WhileV e b) line ≡ WhileS line (expr_view e) (block_view b)
stat-While e b = stat_at (WhileV e b) (outs-While e b)

pub stat-Repeat : (b : BlockNode) (e : Expr) (line : ℕ) → stat_kind_view (RepeatV b e) line ≡ RepeatS line (block_view b) (expr_view e)
stat-Repeat b e = stat_at (RepeatV b e) (outs-Repeat b e)

pub stat-If : (arms : List ArmNode) (line : ℕ) → stat_kind_view (IfV arms None) line ≡ IfS line (arms_view arms)
stat-If arms line = stat_at (IfV arms None) (outs-If arms None) line ∙ ap (λ y. IfS line y) (arms_level arms)

pub stat-IfElse : (arms : List ArmNode) (b : BlockNode) (line : ℕ) → stat_kind_view (IfV arms (Some b)) line ≡ IfElseS line (arms_view arms) (block_view b)
stat-IfElse arms b line = stat_at (IfV arms (Some b)) (outs-If arms (Some b)) line ∙ ap (λ y. IfElseS line y (block_view b)) (arms_level arms)

pub stat-Count : (n : Bytes) (a : Expr) (b : Expr) (body : BlockNode) (line : ℕ) → stat_kind_view (CountV n a b None body) line ≡ CountS line n (expr_view a) (expr_view b) (block_view body)
stat-Count n a b body = stat_at (CountV n a b None body) (outs-Count n a b None body)

pub stat-CountBy : (n : Bytes) (a : Expr) (b : Expr) (by : Expr) (body : BlockNode) (line : ℕ) → stat_kind_view (CountV n a b (Some by) body) line ≡ CountByS line n (expr_view a) (expr_view b) (expr_view by) (block_view body)
stat-CountBy n a b by body = stat_at (CountV n a b (Some by) body) (outs-Count n a b (Some by) body)

pub stat-Each : (ns : List Bytes) (es : List Expr) (body : BlockNode) (line : ℕ) → stat_kind_view (EachV ns es body) line ≡ EachS line ns (exprs_view es) (block_view body)
stat-Each ns es body line = stat_at (EachV ns es body) (outs-Each ns es body) line ∙ ap (λ y. EachS line ns y (block_view body)) (exprs_level es)

pub stat-LocalFunction : (n : Bytes) (f : FunctionNode) (line : ℕ) → stat_kind_view (LocalFunctionV n f) line ≡ LocalFunctionS line n (function_view f)
stat-LocalFunction n f = stat_at (LocalFunctionV n f) (outs-LocalFunction n f)

pub stat-Local : (ns : List Bytes) (es : List Expr) (line : ℕ) → stat_kind_view (LocalV ns es) line ≡ LocalS line ns (exprs_view es)
stat-Local ns es line = stat_at (LocalV ns es) (outs-Local ns es) line ∙ ap (λ y. LocalS line ns y) (exprs_level es)

pub stat-Return : (es : List Expr) (line : ℕ) → stat_kind_view (ReturnV es) line ≡ ReturnS line (exprs_view es)
stat-Return es line = stat_at (ReturnV es) (outs-Return es) line ∙ ap (λ y. ReturnS line y) (exprs_level es)

pub stat-Break : (line : ℕ) → stat_kind_view BreakV line ≡ BreakS line
stat-Break = stat_at BreakV outs-Break

-- Parts as they are made.
pub block_made : (ss : List StatNode) → block_view (roll-Block (record { stats = ss })) ≡ stats_view ss
unfolding kind_view field_view stat_kind_view arm_view block_view expr_view function_view stat_view
block_made ss = fold-roll-Block _ _ _ _ _ _ _ _ _ _ _ _ _ _ _ _ (record { stats = ss }) ∙ stats_level ss

pub function_made : (params : List Bytes) (dots : Bool) (body : BlockNode) → function_view (roll-Function (record { params = params; dots = dots; body = body })) ≡ Lambda params dots (block_view body)
unfolding kind_view field_view stat_kind_view arm_view block_view expr_view function_view stat_view
function_made params dots body = fold-roll-Function _ _ _ _ _ _ _ _ _ _ _ _ _ _ _ _ (record { params = params; dots = dots; body = body })

pub arm_made : (test : Expr) (body : BlockNode) (rest : Arms) → arm_view (roll-Arm (record { test = test; body = body })) rest ≡ Arm (expr_view test) (block_view body) rest
unfolding kind_view field_view stat_kind_view arm_view block_view expr_view function_view stat_view
arm_made test body rest = ap {A = Arms → Arms} (λ y. y rest) (fold-roll-Arm _ _ _ _ _ _ _ _ _ _ _ _ _ _ _ _ (record { test = test; body = body }))

-- A field is an item or a pair, whatever stands behind it.
abbrev pub FieldIs : (Fields → Fields) → Type 0
FieldIs f = ((e : Exp) × ((rest : Fields) → f rest ≡ Item e rest)) ⊎ ((k : Exp) × (e : Exp) × ((rest : Fields) → f rest ≡ Pair k e rest))

pub field_is : (f : Field) → FieldIs (field_view f)
field_is f = subst FieldIs (sym (field_opens f)) (go (out-Field f))
  where
    go : (l : Open Field-F) → FieldIs (field_in l)
    go (ItemField e) = inl (expr_view e, λ rest. refl)
    go (PairField k e) = inr (expr_view k, expr_view e, λ rest. refl)

pub ruleset views = (arm_opens, block_opens, expr_opens, function_opens, stat_opens, kind-Nil, kind-True, kind-False, kind-Dots, kind-Number, kind-Text, kind-Name, kind-Function, kind-Index, kind-Call, kind-Method, kind-Table, kind-Binary, kind-Unary, kind-Paren, field-Item, field-Pair, stat-Assign, stat-Call, stat-Do, stat-While, stat-Repeat, stat-If, stat-IfElse, stat-Count, stat-CountBy, stat-Each, stat-LocalFunction, stat-Local, stat-Return, stat-Break)

-- The same, for what goes over a tree and appends to a list.
pub ruleset gathered = (views, map-append, append_assoc, append-nil)

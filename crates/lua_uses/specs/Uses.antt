-- THE GLOBAL VARIABLES THAT A TEXT NAMES (manual 2.3 and 2.6): each place of its tree where a name stands that no local variable of its
-- scope binds, as an expression or as a target of an assignment, in reading order.
use Rattle.std.specs.Prelude.{ℕ, Bool, true, false, if◌then◌else◌, bytes_eq, List, [], ◌∷◌, ◌++◌, map, Option, Some, None, codes}
use Rattle.lua_syntax.specs.Tree.{Exp, Exps, Fields, Fun, Block, Arms, Stat, NilE, TrueE, FalseE, NumberE, TextE, DotsE, FunctionE, NameE, IndexE, CallE, MethodE, TableE, BinaryE, UnaryE, ParenE, NoExp, MoreExp, NoField, Item, Pair, Lambda, NoStat, MoreStat, NoArm, Arm, AssignS, CallS, DoS, WhileS, RepeatS, IfS, IfElseS, CountS, CountByS, EachS, LocalFunctionS, LocalS, ReturnS, BreakS}

-- a place where a global variable is named; where it is the function of a call `require(text)`, with that text
pub record Use : Type 0 where
  pub line : ℕ
  pub name : List ℕ
  pub required : Option (List ℕ)

-- ---- scopes

-- the names of the local variables that are seen at a place, the newest first
abbrev pub Names : Type 0
Names = List (List ℕ)

abbrev pub is_bound : Names → List ℕ → Bool
is_bound [] name = false
is_bound (n ∷ names) name = if bytes_eq n name then true else is_bound names name

-- with more variables
abbrev pub with_names : List (List ℕ) → Names → Names
with_names [] bound = bound
with_names (n ∷ names) bound = with_names names (n ∷ bound)

-- what a statement declares is seen by those after it (2.4.7)
abbrev pub stat_scope : Stat → Names → Names
stat_scope (LocalS line names values) bound = with_names names bound
stat_scope (LocalFunctionS line name f) bound = name ∷ bound
stat_scope s bound = bound

-- what is seen at the end of a block
abbrev pub block_scope : Block → Names → Names
block_scope NoStat bound = bound
block_scope (MoreStat s rest) bound = block_scope rest (stat_scope s bound)

-- ---- calls of `require`

abbrev pub is_require : Exp → Bool
is_require (NameE line name) = bytes_eq name (codes "require")
is_require e = false

abbrev pub only_text : Exps → Option (List ℕ)
only_text (MoreExp (TextE line text) NoExp) = Some text
only_text args = None

-- the text of a call `require(text)`
abbrev pub required_by : Exp → Exps → Option (List ℕ)
required_by f args = if is_require f then only_text args else None

abbrev pub requiring : Option (List ℕ) → List Use → List Use
requiring None uses = uses
requiring (Some text) uses = map (λ (u : Use). record u { required = Some text }) uses

-- ---- the tree

abbrev pub name_uses : ℕ → List ℕ → Names → List Use
name_uses line name bound = if is_bound bound name then [] else record { line = line; name = name; required = None } ∷ []

abbrev mutual
  pub expr_uses : Exp → Names → List Use
  expr_uses (NilE line) bound = []
  expr_uses (TrueE line) bound = []
  expr_uses (FalseE line) bound = []
  expr_uses (NumberE line n) bound = []
  expr_uses (TextE line text) bound = []
  expr_uses (DotsE line) bound = []
  expr_uses (FunctionE line f) bound = function_uses f bound
  expr_uses (NameE line name) bound = name_uses line name bound
  expr_uses (IndexE line of at) bound = expr_uses of bound ++ expr_uses at bound
  expr_uses (CallE line f args) bound = requiring (required_by f args) (expr_uses f bound) ++ exprs_uses args bound
  expr_uses (MethodE line of name args) bound = expr_uses of bound ++ exprs_uses args bound
  expr_uses (TableE line fields) bound = fields_uses fields bound
  expr_uses (BinaryE line op a b) bound = expr_uses a bound ++ expr_uses b bound
  expr_uses (UnaryE line op a) bound = expr_uses a bound
  expr_uses (ParenE line a) bound = expr_uses a bound

  pub exprs_uses : Exps → Names → List Use
  exprs_uses NoExp bound = []
  exprs_uses (MoreExp e rest) bound = expr_uses e bound ++ exprs_uses rest bound

  pub fields_uses : Fields → Names → List Use
  fields_uses NoField bound = []
  fields_uses (Item e rest) bound = expr_uses e bound ++ fields_uses rest bound
  fields_uses (Pair k v rest) bound = expr_uses k bound ++ (expr_uses v bound ++ fields_uses rest bound)

  -- in a function that stands in this scope
  pub function_uses : Fun → Names → List Use
  function_uses (Lambda params dots body) bound = block_uses body (with_names params bound)

  pub block_uses : Block → Names → List Use
  block_uses NoStat bound = []
  block_uses (MoreStat s rest) bound = stat_uses s bound ++ block_uses rest (stat_scope s bound)

  pub arms_uses : Arms → Names → List Use
  arms_uses NoArm bound = []
  arms_uses (Arm test body rest) bound = expr_uses test bound ++ (block_uses body bound ++ arms_uses rest bound)

  -- the test of `repeat` sees what its body declares (2.4.4), and a local function itself (2.4.7)
  pub stat_uses : Stat → Names → List Use
  stat_uses (AssignS line targets values) bound = exprs_uses targets bound ++ exprs_uses values bound
  stat_uses (CallS line e) bound = expr_uses e bound
  stat_uses (DoS line body) bound = block_uses body bound
  stat_uses (WhileS line test body) bound = expr_uses test bound ++ block_uses body bound
  stat_uses (RepeatS line body test) bound = block_uses body bound ++ expr_uses test (block_scope body bound)
  stat_uses (IfS line arms) bound = arms_uses arms bound
  stat_uses (IfElseS line arms other) bound = arms_uses arms bound ++ block_uses other bound
  stat_uses (CountS line name from to body) bound = expr_uses from bound ++ (expr_uses to bound ++ block_uses body (name ∷ bound))
  stat_uses (CountByS line name from to by body) bound = expr_uses from bound ++ (expr_uses to bound ++ (expr_uses by bound ++ block_uses body (name ∷ bound)))
  stat_uses (EachS line names values body) bound = exprs_uses values bound ++ block_uses body (with_names names bound)
  stat_uses (LocalFunctionS line name f) bound = function_uses f (name ∷ bound)
  stat_uses (LocalS line names values) bound = exprs_uses values bound
  stat_uses (ReturnS line values) bound = exprs_uses values bound
  stat_uses (BreakS line) bound = []

-- those of a whole text
abbrev pub text_uses : Block → List Use
text_uses body = block_uses body []

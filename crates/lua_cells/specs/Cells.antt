-- WHICH VARIABLES HAVE CELLS (manual 2.6, upvalues): one that no function inside captures has none. A closure of the code lists the places
-- that it captures; a cell that it captures from a register of its own function stands among them as `Box`, counted from the newest.
-- Each function of a module is looked at by itself, since what it captures from further out stands in no register of it.
use Rattle.std.specs.Prelude.{◌≡◌, ℕ, suc, ◌+◌, Bool, true, false, ◌||◌, ◌==◌, List, [], ◌∷◌, length, Some}
use Rattle.lua_code.specs.LuaSlotsCode.{Place, Box, CExp, FunctionC, IndexC, CallC, MethodC, TableC, AndC, OrC, OperateC, UnaryC, ParenC}
use Rattle.lua_code.specs.LuaSlotsCode.{CExps, NoC, MoreC, CFields, NoFieldC, ItemC, PairC, CTarget, EntryC}
use Rattle.lua_code.specs.LuaSlotsCode.{CStat, AssignC, CallStatC, DoC, WhileC, RepeatC, IfC, IfElseC, CountC, CountByC, EachC, ReturnC, CBlock, EndC, DeclareC, LocalFunctionC, ThenC, CArms, NoArmC, ArmC}
use Rattle.lua_code.specs.LuaSlotsCode.{CProto, Protos}

-- WHAT CODE CAPTURES: whether a closure in it lists the cell of the register that is `i` from the newest in front of it
abbrev pub is_cell : ℕ → Place → Bool
is_cell i (Box j) = j == i
is_cell i _ = false

abbrev pub lists : ℕ → List Place → Bool
lists i [] = false
lists i (p ∷ ps) = is_cell i p || lists i ps

abbrev mutual
  pub expression_captures : ℕ → CExp → Bool
  expression_captures i (FunctionC index places) = lists i places
  expression_captures i (IndexC of key l) = expression_captures i of || expression_captures i key
  expression_captures i (CallC f cs l) = expression_captures i f || expressions_capture i cs
  expression_captures i (MethodC of x cs l) = expression_captures i of || expressions_capture i cs
  expression_captures i (TableC cs l) = fields_capture i cs
  expression_captures i (AndC a b) = expression_captures i a || expression_captures i b
  expression_captures i (OrC a b) = expression_captures i a || expression_captures i b
  expression_captures i (OperateC op a b l) = expression_captures i a || expression_captures i b
  expression_captures i (UnaryC op a l) = expression_captures i a
  expression_captures i (ParenC a) = expression_captures i a
  expression_captures i _ = false

  pub expressions_capture : ℕ → CExps → Bool
  expressions_capture i NoC = false
  expressions_capture i (MoreC c cs) = expression_captures i c || expressions_capture i cs

  pub fields_capture : ℕ → CFields → Bool
  fields_capture i NoFieldC = false
  fields_capture i (ItemC c cs) = expression_captures i c || fields_capture i cs
  fields_capture i (PairC k c cs) = (expression_captures i k || expression_captures i c) || fields_capture i cs

abbrev pub target_captures : ℕ → CTarget → Bool
target_captures i (EntryC of key l) = expression_captures i of || expression_captures i key
target_captures i _ = false

abbrev pub targets_capture : ℕ → List CTarget → Bool
targets_capture i [] = false
targets_capture i (t ∷ ts) = target_captures i t || targets_capture i ts

-- how many variables a block declares, those of blocks inside it left out
abbrev pub opens : CBlock → ℕ
opens EndC = 0
opens (DeclareC flags values rest) = opens rest + length flags
opens (LocalFunctionC boxed index places rest) = opens rest + 1
opens (ThenC s rest) = opens rest

-- a declaration puts its variables above the register, and so do the variables of a loop in its body. Of `repeat` the test sees the
-- variables of the body; of `local function` the function sees its own name.
abbrev mutual
  pub statement_captures : ℕ → CStat → Bool
  statement_captures i (AssignC ts cs) = targets_capture i ts || expressions_capture i cs
  statement_captures i (CallStatC c) = expression_captures i c
  statement_captures i (DoC b) = block_captures i b
  statement_captures i (WhileC c b) = expression_captures i c || block_captures i b
  statement_captures i (RepeatC b c) = block_captures i b || expression_captures (opens b + i) c
  statement_captures i (IfC arms) = arms_capture i arms
  statement_captures i (IfElseC arms b) = arms_capture i arms || block_captures i b
  statement_captures i (CountC boxed from to b l) = (expression_captures i from || expression_captures i to) || block_captures (suc i) b
  statement_captures i (CountByC boxed from to by b l) = ((expression_captures i from || expression_captures i to) || expression_captures i by) || block_captures (suc i) b
  statement_captures i (EachC flags cs b l) = expressions_capture i cs || block_captures (length flags + i) b
  statement_captures i (ReturnC cs) = expressions_capture i cs
  statement_captures i _ = false

  pub block_captures : ℕ → CBlock → Bool
  block_captures i EndC = false
  block_captures i (DeclareC flags values rest) = expressions_capture i values || block_captures (length flags + i) rest
  block_captures i (LocalFunctionC boxed index places rest) = lists (suc i) places || block_captures (suc i) rest
  block_captures i (ThenC s rest) = statement_captures i s || block_captures i rest

  pub arms_capture : ℕ → CArms → Bool
  arms_capture i NoArmC = false
  arms_capture i (ArmC c b more) = (expression_captures i c || block_captures i b) || arms_capture i more

-- NO IDLE CELL. Of variables that are declared one after another: each that has a cell is captured in what follows, in which these
-- registers are captured. The last one is the newest.
abbrev pub AreNeeded : (ℕ → Bool) → List Bool → Type 0
AreNeeded captured [] = Unit {0}
AreNeeded captured (b ∷ bs) = (b ≡ true → captured (length bs) ≡ true) × AreNeeded captured bs

-- what is evaluated at the end of a block, where its variables are still seen, captures these registers: none, or those of a test
abbrev pub nothing : ℕ → Bool
nothing i = false

abbrev pub in_block : (ℕ → Bool) → CBlock → ℕ → Bool
in_block end b i = block_captures i b || end (opens b + i)

abbrev mutual
  pub IsTightStat : CStat → Type 0
  IsTightStat (DoC b) = IsTightBlock nothing b
  IsTightStat (WhileC c b) = IsTightBlock nothing b
  IsTightStat (RepeatC b c) = IsTightBlock (λ i. expression_captures i c) b
  IsTightStat (IfC arms) = AreTightArms arms
  IsTightStat (IfElseC arms b) = AreTightArms arms × IsTightBlock nothing b
  IsTightStat (CountC boxed from to b l) = AreNeeded (in_block nothing b) (boxed ∷ []) × IsTightBlock nothing b
  IsTightStat (CountByC boxed from to by b l) = AreNeeded (in_block nothing b) (boxed ∷ []) × IsTightBlock nothing b
  IsTightStat (EachC flags cs b l) = AreNeeded (in_block nothing b) flags × IsTightBlock nothing b
  IsTightStat _ = Unit {0}

  pub IsTightBlock : (ℕ → Bool) → CBlock → Type 0
  IsTightBlock end EndC = Unit {0}
  IsTightBlock end (DeclareC flags values rest) = AreNeeded (in_block end rest) flags × IsTightBlock end rest
  IsTightBlock end (LocalFunctionC boxed index places rest) = AreNeeded (λ i. lists i places || in_block end rest i) (boxed ∷ []) × IsTightBlock end rest
  IsTightBlock end (ThenC s rest) = IsTightStat s × IsTightBlock end rest

  pub AreTightArms : CArms → Type 0
  AreTightArms NoArmC = Unit {0}
  AreTightArms (ArmC c b more) = IsTightBlock nothing b × AreTightArms more

-- of a function, whose parameters are variables of its body; and of all functions of a module
abbrev pub HasNoIdleCell : CProto → Type 0
HasNoIdleCell p = AreNeeded (in_block nothing p.body) p.flags × IsTightBlock nothing p.body

abbrev pub NoIdleCells : Protos → Type 0
NoIdleCells at = (i : ℕ) (p : CProto) → at.function i ≡ Some p → HasNoIdleCell p

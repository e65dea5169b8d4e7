-- CODE THAT IS GONE OVER: of each register of a function, the newest first, whether it names a cell that nothing captured so far; and
-- whether all cells of variables that ended were captured.
use Rattle.std.specs.Prelude.{◌≡◌, ℕ, zero, suc, ◌-◌, Bool, true, false, if◌then◌else◌, List, [], ◌∷◌, length, slice_set}
use Rattle.lua_code.specs.LuaSlotsCode.{Place, Reg, Box, Up, CExp, FunctionC, IndexC, CallC, MethodC, TableC, AndC, OrC, OperateC, UnaryC, ParenC}
use Rattle.lua_code.specs.LuaSlotsCode.{CExps, NoC, MoreC, CFields, NoFieldC, ItemC, PairC, CTarget, EntryC}
use Rattle.lua_code.specs.LuaSlotsCode.{CStat, AssignC, CallStatC, DoC, WhileC, RepeatC, IfC, IfElseC, CountC, CountByC, EachC, ReturnC, CBlock, EndC, DeclareC, LocalFunctionC, ThenC, CArms, NoArmC, ArmC, CProto}
use Rattle.lua_cells.specs.declared.registers.Registers.{Registers}

abbrev pub captured : Place → Registers → Registers
captured (Box i) r = record r { idle = slice_set r.idle i false }
captured (Reg i) r = r
captured (Up i) r = r

abbrev pub all_captured : List Place → Registers → Registers
all_captured [] r = r
all_captured (p ∷ ps) r = all_captured ps (captured p r)

abbrev pub opened_one : Bool → Registers → Registers
opened_one b r = record r { idle = b ∷ r.idle }

abbrev pub opened : List Bool → Registers → Registers
opened [] r = r
opened (b ∷ bs) r = opened bs (opened_one b r)

-- the newest so many end
abbrev pub newest_ended : ℕ → List Bool → Bool → Registers
newest_ended zero bs needed = record { idle = bs; needed = needed }
newest_ended (suc n) [] needed = record { idle = []; needed = needed }
newest_ended (suc n) (b ∷ bs) needed = newest_ended n bs (if b then false else needed)

abbrev pub closed : ℕ → Registers → Registers
closed n r = newest_ended (length r.idle - n) r.idle r.needed

abbrev pub scoped : (Registers → Registers) → Registers → Registers
scoped f r = closed (length r.idle) (f r)

abbrev mutual
  pub expression_gone : CExp → Registers → Registers
  expression_gone (FunctionC index places) r = all_captured places r
  expression_gone (IndexC of key l) r = expression_gone key (expression_gone of r)
  expression_gone (CallC f cs l) r = expressions_gone cs (expression_gone f r)
  expression_gone (MethodC of x cs l) r = expressions_gone cs (expression_gone of r)
  expression_gone (TableC cs l) r = fields_gone cs r
  expression_gone (AndC a b) r = expression_gone b (expression_gone a r)
  expression_gone (OrC a b) r = expression_gone b (expression_gone a r)
  expression_gone (OperateC op a b l) r = expression_gone b (expression_gone a r)
  expression_gone (UnaryC op a l) r = expression_gone a r
  expression_gone (ParenC a) r = expression_gone a r
  expression_gone _ r = r

  pub expressions_gone : CExps → Registers → Registers
  expressions_gone NoC r = r
  expressions_gone (MoreC c cs) r = expressions_gone cs (expression_gone c r)

  pub fields_gone : CFields → Registers → Registers
  fields_gone NoFieldC r = r
  fields_gone (ItemC c cs) r = fields_gone cs (expression_gone c r)
  fields_gone (PairC k c cs) r = fields_gone cs (expression_gone c (expression_gone k r))

abbrev pub target_gone : CTarget → Registers → Registers
target_gone (EntryC of key l) r = expression_gone key (expression_gone of r)
target_gone _ r = r

abbrev pub targets_gone : List CTarget → Registers → Registers
targets_gone [] r = r
targets_gone (t ∷ ts) r = targets_gone ts (target_gone t r)

abbrev mutual
  pub statement_gone : CStat → Registers → Registers
  statement_gone (AssignC ts cs) r = expressions_gone cs (targets_gone ts r)
  statement_gone (CallStatC c) r = expression_gone c r
  statement_gone (DoC b) r = scoped (λ s. block_gone b s) r
  statement_gone (WhileC c b) r = scoped (λ s. block_gone b s) (expression_gone c r)
  statement_gone (RepeatC b c) r = scoped (λ s. expression_gone c (block_gone b s)) r
  statement_gone (IfC arms) r = arms_gone arms r
  statement_gone (IfElseC arms b) r = scoped (λ s. block_gone b s) (arms_gone arms r)
  statement_gone (CountC boxed from to b l) r = scoped (λ s. block_gone b (opened_one boxed s)) (expression_gone to (expression_gone from r))
  statement_gone (CountByC boxed from to by b l) r = scoped (λ s. block_gone b (opened_one boxed s)) (expression_gone by (expression_gone to (expression_gone from r)))
  statement_gone (EachC flags cs b l) r = scoped (λ s. block_gone b (opened flags s)) (expressions_gone cs r)
  statement_gone (ReturnC cs) r = expressions_gone cs r
  statement_gone _ r = r

  -- its variables stay open
  pub block_gone : CBlock → Registers → Registers
  block_gone EndC r = r
  block_gone (DeclareC flags values rest) r = block_gone rest (opened flags (expressions_gone values r))
  block_gone (LocalFunctionC boxed index places rest) r = block_gone rest (all_captured places (opened_one boxed r))
  block_gone (ThenC s rest) r = block_gone rest (statement_gone s r)

  pub arms_gone : CArms → Registers → Registers
  arms_gone NoArmC r = r
  arms_gone (ArmC c b more) r = arms_gone more (scoped (λ s. block_gone b s) (expression_gone c r))

-- a function, from no register on
abbrev pub function_gone : CProto → Registers
function_gone p = scoped (λ s. block_gone p.body (opened p.flags s)) (record { idle = []; needed = true })

-- no register names a cell that nothing captured so far
abbrev pub NoneIdle : List Bool → Type 0
NoneIdle [] = Unit {0}
NoneIdle (b ∷ bs) = (b ≡ false) × NoneIdle bs

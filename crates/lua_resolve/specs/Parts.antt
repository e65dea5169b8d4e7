-- A TEXT THAT IS GONE OVER: what is made of its parts is code of these (`lua_slots`, `IsCode`), whatever comes later. Later on more names
-- may be captured and more functions and constants be there; nothing is said where a captured variable turned out to have no cell.
use Rattle.std.specs.Prelude.{◌≡◌, ℕ, suc, Bool, true, List, [], ◌∷◌, ◌++◌, map, slice_get, Option, Some, None}
use Rattle.std.specs.declared.alloc.Global.{Global}
use Rattle.std.specs.declared.boxed.Box.{Box}
use Rattle.lua_syntax.specs.Tree.{Exp, Exps, Fields, Arms, Block, Stat, MoreStat}
use Rattle.lua_syntax.specs.declared.Expr.{Expr as ExprNode}
use Rattle.lua_syntax.specs.declared.Block.{Block as BlockNode}
use Rattle.lua_syntax.specs.View.{expr_view, block_view}
use Rattle.lua_code.specs.LuaMeaningScope.{Bytes}
use Rattle.lua_code.specs.LuaSlotsCode.{CExp, CExps, MoreC, CFields, CTarget, CArms, CBlock, CProto, Protos}
use Rattle.lua_code.specs.LuaSlotsSight.{Sight, AreAsMany}
use Rattle.lua_code.specs.LuaSlotsIsCode.{EndSight, any_sight, IsExp, IsExps, IsFields, IsTargets, IsArms, IsBlock}
use Rattle.lua_code.specs.declared.expression.Expression.{Expression}
use Rattle.lua_code.specs.declared.expression.Entry.{Entry}
use Rattle.lua_code.specs.declared.statement.Target.{Target}
use Rattle.lua_code.specs.declared.statement.Statement.{Statement}
use Rattle.lua_code.specs.declared.statement.Branch.{Branch}
use Rattle.lua_code.specs.Seen.{expression_seen, entry_seen, target_seen, statement_seen, block_seen, branch_seen, proto_seen}
use Rattle.lua_scopes.specs.Scopes.{Local, Scopes, stack, local_sight, stack_sight, Covers, Grows}
use Rattle.lua_resolve.specs.declared.resolver.Resolver.{Resolver}

-- the functions in progress, those that are done, which are numbered from 1, and the constants that were met, which are numbered from 0
pub record State : Type 0 where
  pub scopes : Scopes
  pub functions : List CProto
  pub constants : List Bytes

abbrev pub state_of : Resolver → State
state_of r = record { scopes = r.scopes; functions = map proto_seen r.functions; constants = r.constants }

-- the local variables of the innermost function
abbrev pub locals : State → List Local
locals s = s.scopes.level.locals

abbrev pub with_locals_of : List Local → State → State
with_locals_of ls s = record s { scopes = record s.scopes { level = record s.scopes.level { locals = ls } } }

-- some more local variables, the newest first
abbrev pub opened : List Local → State → State
opened d s = with_locals_of (d ++ locals s) s

-- a module has these functions
abbrev pub Holds : List CProto → Protos → Type 0
Holds ps at = (i : ℕ) (p : CProto) → slice_get ps i ≡ Some p → at.function (suc i) ≡ Some p

-- and these constants
abbrev pub Names : List Bytes → Protos → Type 0
Names cs at = (n : ℕ) (t : Bytes) → slice_get cs n ≡ Some t → at.constant n ≡ t

-- what may come to be after a state
pub record Later (t : State) (at : Protos) (see : Sight) : Type 0 where
  pub clean : t.scopes.clean ≡ true
  pub functions : Holds t.functions at
  pub constants : Names t.constants at
  pub covers : Covers (stack_sight (stack t.scopes)) see

-- one state comes after another: all that was known is known
pub record Went (s t : State) : Type 0 where
  pub clean : s.scopes.clean ≡ true
  pub functions : (at : Protos) → Holds t.functions at → Holds s.functions at
  pub constants : (at : Protos) → Names t.constants at → Names s.constants at
  pub grows : Grows (stack s.scopes) (stack t.scopes)

pub record Next (s t : State) : Type 0 where
  pub went : t.scopes.clean ≡ true → Went s t

-- LISTS, up to some place: what is left has some code, and then the whole has it behind the code so far
abbrev pub expressions_before : List Expression → CExps → CExps
expressions_before [] rest = rest
expressions_before (c ∷ cs) rest = MoreC (expression_seen c) (expressions_before cs rest)

abbrev pub entries_before : List Entry → CFields → CFields
entries_before [] rest = rest
entries_before (c ∷ cs) rest = entry_seen c (entries_before cs rest)

abbrev pub branches_before : List Branch → CArms → CArms
branches_before [] rest = rest
branches_before (c ∷ cs) rest = branch_seen c (branches_before cs rest)

abbrev pub statements_before : List Statement → CBlock → CBlock
statements_before [] rest = rest
statements_before (c ∷ cs) rest = statement_seen c (statements_before cs rest)

pub record ExpressionsSoFar (s t : State) (whole left : Exps) (out : List Expression) : Type 0 where
  pub next : Next s t
  pub code : (at : Protos) (see : Sight) (rest : CExps) → Later t at see → IsExps at see left rest → IsExps at see whole (expressions_before out rest)

pub record EntriesSoFar (s t : State) (whole left : Fields) (out : List Entry) : Type 0 where
  pub next : Next s t
  pub code : (at : Protos) (see : Sight) (rest : CFields) → Later t at see → IsFields at see left rest → IsFields at see whole (entries_before out rest)

pub record TargetsSoFar (s t : State) (whole left : Exps) (out : List Target) : Type 0 where
  pub next : Next s t
  pub code : (at : Protos) (see : Sight) (rest : List CTarget) → Later t at see → IsTargets at see left rest → IsTargets at see whole (map target_seen out ++ rest)

pub record BranchesSoFar (s t : State) (whole left : Arms) (out : List Branch) : Type 0 where
  pub next : Next s t
  pub code : (at : Protos) (see : Sight) (rest : CArms) → Later t at see → IsArms at see left rest → IsArms at see whole (branches_before out rest)

-- STATEMENTS AND BLOCKS. What is evaluated at the end of a block, where its variables are still seen: nothing, or a test
abbrev pub tail_of : Protos → Option (Exp × CExp) → EndSight
tail_of at None = any_sight
tail_of at (Some t) = λ see. IsExp at see t.0 t.1

-- a statement, and the variables that it opens
pub record IsPart (s t : State) (st : Stat) (c : CBlock → CBlock) : Type 0 where
  pub opens : List Local
  pub next : Next (opened opens s) t
  pub code : (at : Protos) (see : Sight) (tail : Option (Exp × CExp)) (left : Block) (rest : CBlock) → Later (with_locals_of (locals s) t) at see
      → IsBlock at (tail_of at tail) (local_sight opens see) left rest → IsBlock at (tail_of at tail) see (MoreStat st left) (c rest)

pub record BlockSoFar (s t : State) (whole left : Block) (out : List Statement) : Type 0 where
  pub opens : List Local
  pub next : Next (opened opens s) t
  pub code : (at : Protos) (see : Sight) (tail : Option (Exp × CExp)) (rest : CBlock) → Later (with_locals_of (locals s) t) at see
      → IsBlock at (tail_of at tail) (local_sight opens see) left rest → IsBlock at (tail_of at tail) see whole (statements_before out rest)

-- names that are declared one after another, with their flags
abbrev pub with_names : List Bytes → List Bool → List Local → List Local
with_names (x ∷ xs) (b ∷ bs) ls = with_names xs bs (record { name = x; boxed = b } ∷ ls)
with_names _ _ ls = ls

pub record AreDeclared (s t : State) (names : List Bytes) (flags : List Bool) : Type 0 where
  pub as_many : AreAsMany names flags
  pub opened : t ≡ with_locals_of (with_names names flags (locals s)) s

pub record NamesSoFar (s t : State) (whole left : List Bytes) (flags : List Bool) : Type 0 where
  pub others : t ≡ with_locals_of (locals t) s
  pub as_many : (more : List Bool) → AreAsMany left more → AreAsMany whole (flags ++ more)
  pub locals : (more : List Bool) → with_names left more t.scopes.level.locals ≡ with_names whole (flags ++ more) s.scopes.level.locals

-- the step of a loop and the block behind `else`, which may be left out
abbrev pub IsStep : Protos → Sight → Option ExprNode → Option (Box Expression Global) → Type 0
IsStep at see None None = Unit {0}
IsStep at see (Some e) (Some c) = IsExp at see (expr_view e) (expression_seen c.value)
IsStep at see e c = ⊥

abbrev pub IsOther : Protos → Sight → Option BlockNode → Option (List Statement) → Type 0
IsOther at see None None = Unit {0}
IsOther at see (Some b) (Some c) = IsBlock at any_sight see (block_view b) (block_seen c)
IsOther at see b c = ⊥

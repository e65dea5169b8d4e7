-- WHICH CODE IS CODE OF A TREE, where names stand so. `at` gives the functions and the constants of the module by their numbers.
-- Nothing here says how a function or a constant is numbered, nor which variables beyond the captured ones have cells.
use Rattle.std.specs.Prelude.{◌≡◌, ℕ, Bool, true, false, List, [], ◌∷◌, Option, Some, None, Result, Ok, Err}
use Rattle.lua_meaning.specs.WkBaseDeclaredTitleTitle.{Title}
use Rattle.lua_meaning.specs.WkBaseTitles.{title_text}
use Rattle.lua_meaning.specs.LuaSyntaxDeclaredFaultFaultAt.{FaultAt}
use Rattle.lua_meaning.specs.LuaSyntaxDeclaredBinaryOp.{BinaryOp}
use Rattle.lua_meaning.specs.LuaSyntaxDeclaredBinaryOpTheVariants as op
use Rattle.lua_meaning.specs.LuaSyntaxTree.{Exp, NilE, TrueE, FalseE, NumberE, TextE, DotsE, FunctionE, NameE, IndexE, CallE, MethodE, TableE, BinaryE, UnaryE, ParenE}
use Rattle.lua_meaning.specs.LuaSyntaxTree.{Exps, NoExp, MoreExp, Fields, NoField, Item, Pair, Fun, Lambda, Block, NoStat, MoreStat, Arms, NoArm, Arm}
use Rattle.lua_meaning.specs.LuaSyntaxTree.{Stat, AssignS, CallS, DoS, WhileS, RepeatS, IfS, IfElseS, CountS, CountByS, EachS, LocalFunctionS, LocalS, ReturnS, BreakS}
use Rattle.lua_meaning.specs.LuaHeapValue.{Nil, Truth, Number}
use Rattle.lua_meaning.specs.LuaHeapRelated.{Each}
use Rattle.lua_meaning.specs.Scope.{Bytes}
use Rattle.lua_meaning.specs.World.{Module, World}
use Rattle.lua_meaning.specs.Operators.{Add, Sub, Mul, Div, Mod, Pow, Operator, Less, Greater, AtMost, AtLeast, Equal, Unequal, Concatenate, Calculate}
use Rattle.lua_slots.specs.Code.{Place, Reg, CExp, ConstantC, TextC, DotsC, FunctionC, LocalC, GlobalC, IndexC, CallC, MethodC, TableC, AndC, OrC, OperateC, UnaryC, ParenC}
use Rattle.lua_slots.specs.Code.{CExps, NoC, MoreC, CFields, NoFieldC, ItemC, PairC, CTarget, PlaceC, GlobalTargetC, EntryC, RefusedC}
use Rattle.lua_slots.specs.Code.{CStat, AssignC, CallStatC, DoC, WhileC, RepeatC, IfC, IfElseC, CountC, CountByC, EachC, ReturnC, BreakC, CBlock, EndC, DeclareC, LocalFunctionC, ThenC, CArms, NoArmC, ArmC}
use Rattle.lua_slots.specs.Code.{CProto, Protos, CModule, CWorld}
use Rattle.lua_slots.specs.Sight.{Everywhere, Here, Sight, nothing_local, with_local, with_locals, AreAsMany, inside}

abbrev pub is_plain : Place → Bool
is_plain (Reg i) = true
is_plain _ = false

-- a captured name stands where it is captured from, in no plain register
pub record IsCaptured (see : Sight) (x : Bytes) (p : Place) : Type 0 where
  pub here : see x ≡ Here p
  pub celled : is_plain p ≡ false

-- the operators whose operands are both evaluated
abbrev pub operator_of : BinaryOp → Option Operator
operator_of op.Or = None
operator_of op.And = None
operator_of op.Lt = Some Less
operator_of op.Gt = Some Greater
operator_of op.Le = Some AtMost
operator_of op.Ge = Some AtLeast
operator_of op.Ne = Some Unequal
operator_of op.Eq = Some Equal
operator_of op.Concat = Some Concatenate
operator_of op.Add = Some (Calculate Add)
operator_of op.Sub = Some (Calculate Sub)
operator_of op.Mul = Some (Calculate Mul)
operator_of op.Div = Some (Calculate Div)
operator_of op.Mod = Some (Calculate Mod)
operator_of op.Pow = Some (Calculate Pow)

-- an expression that can't be assigned to
abbrev pub IsNoTarget : Exp → Type 0
IsNoTarget (NameE line x) = ⊥
IsNoTarget (IndexE line of key) = ⊥
IsNoTarget _ = Unit {0}

-- a function of that number, which captures some names from these places; what is said of its code, and of what is seen inside it
abbrev pub IsClosure : Protos → Sight → ℕ → List Place → (Sight → CProto → Type 0) → Type 0
IsClosure at see index places IsCode = (names : List Bytes) × (p : CProto) × (at.function index ≡ Some p) × Each (IsCaptured see) names places × IsCode (inside names see) p

-- what is said of the sight at the end of a block, where its variables are still seen
abbrev pub EndSight : Type 1
EndSight = Sight → Type 0

abbrev pub any_sight : EndSight
any_sight see = Unit {0}

module _ (at : Protos) where
  abbrev mutual
    pub IsExp : Sight → Exp → CExp → Type 0
    IsExp see (NilE line) (ConstantC v) = v ≡ Nil
    IsExp see (TrueE line) (ConstantC v) = v ≡ Truth true
    IsExp see (FalseE line) (ConstantC v) = v ≡ Truth false
    IsExp see (NumberE line z) (ConstantC v) = v ≡ Number z
    IsExp see (TextE line t) (TextC n) = at.constant n ≡ t
    IsExp see (DotsE line) DotsC = Unit {0}
    IsExp see (FunctionE line f) (FunctionC index places) = IsClosure at see index places (λ inner p. IsFun inner f p)
    IsExp see (NameE line x) (LocalC p) = see x ≡ Here p
    IsExp see (NameE line x) (GlobalC y l) = (see x ≡ Everywhere) × (at.constant y ≡ x) × (l ≡ line)
    IsExp see (IndexE line of key) (IndexC c d l) = (l ≡ line) × IsExp see of c × IsExp see key d
    IsExp see (CallE line f es) (CallC c cs l) = (l ≡ line) × IsExp see f c × IsExps see es cs
    IsExp see (MethodE line of x es) (MethodC c y cs l) = (l ≡ line) × (at.constant y ≡ x) × IsExp see of c × IsExps see es cs
    IsExp see (TableE line fields) (TableC cs l) = (l ≡ line) × IsFields see fields cs
    IsExp see (BinaryE line o a b) (AndC c d) = (o ≡ op.And) × IsExp see a c × IsExp see b d
    IsExp see (BinaryE line o a b) (OrC c d) = (o ≡ op.Or) × IsExp see a c × IsExp see b d
    IsExp see (BinaryE line o a b) (OperateC w c d l) = (l ≡ line) × (operator_of o ≡ Some w) × IsExp see a c × IsExp see b d
    IsExp see (UnaryE line o a) (UnaryC w c l) = (l ≡ line) × (w ≡ o) × IsExp see a c
    IsExp see (ParenE line a) (ParenC c) = IsExp see a c
    IsExp see e c = ⊥

    pub IsExps : Sight → Exps → CExps → Type 0
    IsExps see NoExp NoC = Unit {0}
    IsExps see (MoreExp e es) (MoreC c cs) = IsExp see e c × IsExps see es cs
    IsExps see es cs = ⊥

    pub IsFields : Sight → Fields → CFields → Type 0
    IsFields see NoField NoFieldC = Unit {0}
    IsFields see (Item e more) (ItemC c cs) = IsExp see e c × IsFields see more cs
    IsFields see (Pair key e more) (PairC c d cs) = IsExp see key c × IsExp see e d × IsFields see more cs
    IsFields see fs cs = ⊥

    -- what is seen at the end of a body does not matter
    pub IsFun : Sight → Fun → CProto → Type 0
    IsFun see (Lambda params vararg b) p = (p.dots ≡ vararg) × AreAsMany params p.flags × IsBlock any_sight (with_locals params p.flags see) b p.body

    pub IsTarget : Sight → Exp → CTarget → Type 0
    IsTarget see (NameE line x) (PlaceC p) = see x ≡ Here p
    IsTarget see (NameE line x) (GlobalTargetC y l) = (see x ≡ Everywhere) × (at.constant y ≡ x) × (l ≡ line)
    IsTarget see (IndexE line of key) (EntryC c d l) = (l ≡ line) × IsExp see of c × IsExp see key d
    IsTarget see e RefusedC = IsNoTarget e
    IsTarget see e t = ⊥

    pub IsTargets : Sight → Exps → List CTarget → Type 0
    IsTargets see NoExp [] = Unit {0}
    IsTargets see (MoreExp e es) (t ∷ ts) = IsTarget see e t × IsTargets see es ts
    IsTargets see es ts = ⊥

    pub IsArms : Sight → Arms → CArms → Type 0
    IsArms see NoArm NoArmC = Unit {0}
    IsArms see (Arm e b more) (ArmC c d cs) = IsExp see e c × IsBlock any_sight see b d × IsArms see more cs
    IsArms see arms cs = ⊥

    -- of `repeat` the test sees the variables of the body
    pub IsStat : Sight → Stat → CStat → Type 0
    IsStat see (AssignS line left right) (AssignC ts cs) = IsTargets see left ts × IsExps see right cs
    IsStat see (CallS line e) (CallStatC c) = IsExp see e c
    IsStat see (DoS line b) (DoC c) = IsBlock any_sight see b c
    IsStat see (WhileS line e b) (WhileC c d) = IsExp see e c × IsBlock any_sight see b d
    IsStat see (RepeatS line b e) (RepeatC c d) = IsBlock (λ end. IsExp end e d) see b c
    IsStat see (IfS line arms) (IfC cs) = IsArms see arms cs
    IsStat see (IfElseS line arms b) (IfElseC cs c) = IsArms see arms cs × IsBlock any_sight see b c
    IsStat see (CountS line x from to b) (CountC boxed c d cs l) = (l ≡ line) × IsExp see from c × IsExp see to d × IsBlock any_sight (with_local x boxed see) b cs
    IsStat see (CountByS line x from to by b) (CountByC boxed c d e cs l) = (l ≡ line) × IsExp see from c × IsExp see to d × IsExp see by e × IsBlock any_sight (with_local x boxed see) b cs
    IsStat see (EachS line names es b) (EachC flags cs c l) = (l ≡ line) × AreAsMany names flags × IsExps see es cs × IsBlock any_sight (with_locals names flags see) b c
    IsStat see (ReturnS line es) (ReturnC cs) = IsExps see es cs
    IsStat see (BreakS line) BreakC = Unit {0}
    IsStat see s c = ⊥

    pub IsBlock : EndSight → Sight → Block → CBlock → Type 0
    IsBlock end see NoStat EndC = end see
    IsBlock end see (MoreStat (LocalS line names es) b) (DeclareC flags cs c) = AreAsMany names flags × IsExps see es cs × IsBlock end (with_locals names flags see) b c
    IsBlock end see (MoreStat (LocalFunctionS line x f) b) (LocalFunctionC boxed index places c) = IsClosure at (with_local x boxed see) index places (λ inner p. IsFun inner f p) × IsBlock end (with_local x boxed see) b c
    IsBlock end see (MoreStat s b) (ThenC c d) = IsStat see s c × IsBlock end see b d
    IsBlock end see b c = ⊥

-- THE CODE OF A TEXT (2.4.1): number 0 of its functions is the text itself, which has no parameters
pub record IsText (at : Protos) (b : Block) (p : CProto) : Type 0 where
  pub first : at.function 0 ≡ Some p
  pub no_parameters : p.flags ≡ []
  pub no_dots : p.dots ≡ false
  pub body : IsBlock at any_sight nothing_local b p.body

abbrev pub IsProtos : Protos → Block → Type 0
IsProtos at b = (p : CProto) × IsText at b p

-- THE MODULES of a machine are those of the world: of each title the same length, and its fault or code of its tree
abbrev pub IsCodeOrFault : Result Block FaultAt → Result Protos FaultAt → Type 0
IsCodeOrFault (Ok b) (Ok at) = IsProtos at b
IsCodeOrFault (Err e) (Err f) = f ≡ e
IsCodeOrFault _ _ = ⊥

abbrev pub IsModule : Option Module → Option CModule → Type 0
IsModule None None = Unit {0}
IsModule (Some m) (Some c) = (c.size ≡ m.size) × IsCodeOrFault m.chunk c.code
IsModule _ _ = ⊥

pub record Agrees (world : World) (code : CWorld) : Type 0 where
  pub page : code.page ≡ world.page
  pub modules : (title : Title) → IsModule (world.modules title) (code.modules (title_text title))

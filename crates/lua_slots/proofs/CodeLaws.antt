-- What is code stays so when there are more functions and each constant is what it was: by recursion on the tree.
use Rattle.std.proofs.Common.{◌≡◌, ℕ, List, [], ◌∷◌, Option, Some, None}
use Rattle.lua_meaning.specs.LuaSyntaxTree.{Exp, NilE, TrueE, FalseE, NumberE, TextE, DotsE, FunctionE, NameE, IndexE, CallE, MethodE, TableE, BinaryE, UnaryE, ParenE}
use Rattle.lua_meaning.specs.LuaSyntaxTree.{Exps, NoExp, MoreExp, Fields, NoField, Item, Pair, Fun, Lambda, Block, NoStat, MoreStat, Arms, NoArm, Arm}
use Rattle.lua_meaning.specs.LuaSyntaxTree.{Stat, AssignS, CallS, DoS, WhileS, RepeatS, IfS, IfElseS, CountS, CountByS, EachS, LocalFunctionS, LocalS, ReturnS, BreakS}
use Rattle.lua_meaning.specs.Scope.{Bytes}
use Rattle.lua_slots.specs.Code.{CExp, ConstantC, TextC, DotsC, FunctionC, LocalC, GlobalC, IndexC, CallC, MethodC, TableC, AndC, OrC, OperateC, UnaryC, ParenC}
use Rattle.lua_slots.specs.Code.{CExps, NoC, MoreC, CFields, NoFieldC, ItemC, PairC, CTarget, PlaceC, GlobalTargetC, EntryC, RefusedC}
use Rattle.lua_slots.specs.Code.{CStat, AssignC, CallStatC, DoC, WhileC, RepeatC, IfC, IfElseC, CountC, CountByC, EachC, ReturnC, BreakC, CBlock, EndC, DeclareC, LocalFunctionC, ThenC, CArms, NoArmC, ArmC}
use Rattle.lua_slots.specs.Code.{CProto, Protos}
use Rattle.lua_slots.specs.Sight.{Sight}
use Rattle.lua_slots.specs.IsCode.{EndSight, any_sight, IsExp, IsExps, IsFields, IsFun, IsTarget, IsTargets, IsArms, IsStat, IsBlock}
use Rattle.lua_slots.specs.Laws.{CodeStays}

-- what is evaluated at the end of a block: nothing, or a test
abbrev tail_of : Protos → Option (Exp × CExp) → EndSight
tail_of at None = any_sight
tail_of at (Some t) = λ see. IsExp at see t.0 t.1

module _ (at more : Protos) (stay : (i : ℕ) (p : CProto) → at.function i ≡ Some p → more.function i ≡ Some p) (keep : (n : ℕ) (t : Bytes) → at.constant n ≡ t → more.constant n ≡ t) where
  mutual
    exp : (e : Exp) (c : CExp) (see : Sight) → IsExp at see e c → IsExp more see e c
    exp (NilE line) (ConstantC v) see x = x
    exp (TrueE line) (ConstantC v) see x = x
    exp (FalseE line) (ConstantC v) see x = x
    exp (NumberE line z) (ConstantC v) see x = x
    exp (TextE line t) (TextC n) see x = keep n t x
    exp (DotsE line) DotsC see x = x
    exp (FunctionE line f) (FunctionC i ps) see x = (x.0, x.1, stay i x.1 x.2, x.3, fun f x.1 _ x.4)
    exp (NameE line n) (LocalC p) see x = x
    exp (NameE line n) (GlobalC y l) see x = (x.0, keep y n x.1, x.2)
    exp (IndexE line of key) (IndexC c d l) see x = (x.0, exp of c see x.1, exp key d see x.2)
    exp (CallE line f es) (CallC c cs l) see x = (x.0, exp f c see x.1, exps es cs see x.2)
    exp (MethodE line of n es) (MethodC c y cs l) see x = (x.0, keep y n x.1, exp of c see x.2, exps es cs see x.3)
    exp (TableE line fs) (TableC cs l) see x = (x.0, fields fs cs see x.1)
    exp (BinaryE line o a b) (AndC c d) see x = (x.0, exp a c see x.1, exp b d see x.2)
    exp (BinaryE line o a b) (OrC c d) see x = (x.0, exp a c see x.1, exp b d see x.2)
    exp (BinaryE line o a b) (OperateC w c d l) see x = (x.0, x.1, exp a c see x.2, exp b d see x.3)
    exp (UnaryE line o a) (UnaryC w c l) see x = (x.0, x.1, exp a c see x.2)
    exp (ParenE line a) (ParenC c) see x = exp a c see x
    exp e c see x = absurd x

    exps : (es : Exps) (cs : CExps) (see : Sight) → IsExps at see es cs → IsExps more see es cs
    exps NoExp NoC see x = tt
    exps (MoreExp e es) (MoreC c cs) see x = (exp e c see x.0, exps es cs see x.1)
    exps es cs see x = absurd x

    fields : (fs : Fields) (cs : CFields) (see : Sight) → IsFields at see fs cs → IsFields more see fs cs
    fields NoField NoFieldC see x = tt
    fields (Item e fs) (ItemC c cs) see x = (exp e c see x.0, fields fs cs see x.1)
    fields (Pair key e fs) (PairC c d cs) see x = (exp key c see x.0, exp e d see x.1, fields fs cs see x.2)
    fields fs cs see x = absurd x

    fun : (f : Fun) (p : CProto) (see : Sight) → IsFun at see f p → IsFun more see f p
    fun (Lambda params vararg b) p see x = (x.0, x.1, block b p.body None _ (λ s y. y) x.2)

    target : (e : Exp) (t : CTarget) (see : Sight) → IsTarget at see e t → IsTarget more see e t
    target (NameE line n) (PlaceC p) see x = x
    target (NameE line n) (GlobalTargetC y l) see x = (x.0, keep y n x.1, x.2)
    target (IndexE line of key) (EntryC c d l) see x = (x.0, exp of c see x.1, exp key d see x.2)
    target e RefusedC see x = x
    target e t see x = absurd x

    targets : (es : Exps) (ts : List CTarget) (see : Sight) → IsTargets at see es ts → IsTargets more see es ts
    targets NoExp [] see x = tt
    targets (MoreExp e es) (t ∷ ts) see x = (target e t see x.0, targets es ts see x.1)
    targets es ts see x = absurd x

    arms : (as_ : Arms) (cs : CArms) (see : Sight) → IsArms at see as_ cs → IsArms more see as_ cs
    arms NoArm NoArmC see x = tt
    arms (Arm e b as_) (ArmC c d cs) see x = (exp e c see x.0, block b d None see (λ s y. y) x.1, arms as_ cs see x.2)
    arms as_ cs see x = absurd x

    stat : (s : Stat) (c : CStat) (see : Sight) → IsStat at see s c → IsStat more see s c
    stat (AssignS line left right) (AssignC ts cs) see x = (targets left ts see x.0, exps right cs see x.1)
    stat (CallS line e) (CallStatC c) see x = exp e c see x
    stat (DoS line b) (DoC c) see x = block b c None see (λ s y. y) x
    stat (WhileS line e b) (WhileC c d) see x = (exp e c see x.0, block b d None see (λ s y. y) x.1)
    stat (RepeatS line b e) (RepeatC c d) see x = block b c (Some (e, d)) see (λ s y. exp e d s y) x
    stat (IfS line as_) (IfC cs) see x = arms as_ cs see x
    stat (IfElseS line as_ b) (IfElseC cs c) see x = (arms as_ cs see x.0, block b c None see (λ s y. y) x.1)
    stat (CountS line n from to b) (CountC boxed c d cs l) see x = (x.0, exp from c see x.1, exp to d see x.2, block b cs None _ (λ s y. y) x.3)
    stat (CountByS line n from to by b) (CountByC boxed c d e cs l) see x = (x.0, exp from c see x.1, exp to d see x.2, exp by e see x.3, block b cs None _ (λ s y. y) x.4)
    stat (EachS line names es b) (EachC flags cs c l) see x = (x.0, x.1, exps es cs see x.2, block b c None _ (λ s y. y) x.3)
    stat (ReturnS line es) (ReturnC cs) see x = exps es cs see x
    stat (BreakS line) BreakC see x = x
    stat s c see x = absurd x

    block : (b : Block) (c : CBlock) (tail : Option (Exp × CExp)) (see : Sight) → ((s : Sight) → tail_of at tail s → tail_of more tail s) → IsBlock at (tail_of at tail) see b c → IsBlock more (tail_of more tail) see b c
    block NoStat EndC tail see up x = up see x
    block (MoreStat (LocalS line names es) b) (DeclareC flags cs c) tail see up x = (x.0, exps es cs see x.1, block b c tail _ up x.2)
    block (MoreStat (LocalFunctionS line n f) b) (LocalFunctionC boxed i ps c) tail see up x = ((x.0.0, x.0.1, stay i x.0.1 x.0.2, x.0.3, fun f x.0.1 _ x.0.4), block b c tail _ up x.1)
    block (MoreStat (AssignS l a1 a2) b) (ThenC c d) tail see up x = (stat (AssignS l a1 a2) c see x.0, block b d tail see up x.1)
    block (MoreStat (CallS l a1) b) (ThenC c d) tail see up x = (stat (CallS l a1) c see x.0, block b d tail see up x.1)
    block (MoreStat (DoS l a1) b) (ThenC c d) tail see up x = (stat (DoS l a1) c see x.0, block b d tail see up x.1)
    block (MoreStat (WhileS l a1 a2) b) (ThenC c d) tail see up x = (stat (WhileS l a1 a2) c see x.0, block b d tail see up x.1)
    block (MoreStat (RepeatS l a1 a2) b) (ThenC c d) tail see up x = (stat (RepeatS l a1 a2) c see x.0, block b d tail see up x.1)
    block (MoreStat (IfS l a1) b) (ThenC c d) tail see up x = (stat (IfS l a1) c see x.0, block b d tail see up x.1)
    block (MoreStat (IfElseS l a1 a2) b) (ThenC c d) tail see up x = (stat (IfElseS l a1 a2) c see x.0, block b d tail see up x.1)
    block (MoreStat (CountS l a1 a2 a3 a4) b) (ThenC c d) tail see up x = (stat (CountS l a1 a2 a3 a4) c see x.0, block b d tail see up x.1)
    block (MoreStat (CountByS l a1 a2 a3 a4 a5) b) (ThenC c d) tail see up x = (stat (CountByS l a1 a2 a3 a4 a5) c see x.0, block b d tail see up x.1)
    block (MoreStat (EachS l a1 a2 a3) b) (ThenC c d) tail see up x = (stat (EachS l a1 a2 a3) c see x.0, block b d tail see up x.1)
    block (MoreStat (ReturnS l a1) b) (ThenC c d) tail see up x = (stat (ReturnS l a1) c see x.0, block b d tail see up x.1)
    block (MoreStat (BreakS l) b) (ThenC c d) tail see up x = (stat (BreakS l) c see x.0, block b d tail see up x.1)
    block (MoreStat (LocalFunctionS l a1 a2) b) (ThenC c d) tail see up x = absurd x.0
    block (MoreStat (LocalS l a1 a2) b) (ThenC c d) tail see up x = absurd x.0
    block b c tail see up x = absurd x

pub code_stays : CodeStays
code_stays at more stay keep see b c x = block at more stay keep b c None see (λ s y. y) x

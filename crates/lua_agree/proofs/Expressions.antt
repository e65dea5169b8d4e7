-- EXPRESSIONS (manual 2.5): what begins with a node, lists, and closures that are made.
use Rattle.std.proofs.Common.{◌≡◌, ℕ, true, false, List, [], ◌∷◌, length, Some, sym, subst}
use Rattle.lua_slots.specs.LuaSyntaxDeclaredBinaryOp.{BinaryOp}
use Rattle.lua_slots.specs.LuaSyntaxDeclaredBinaryOpTheVariants as op
use Rattle.lua_slots.specs.LuaSyntaxTree.{Exp, NilE, TrueE, FalseE, NumberE, TextE, DotsE, FunctionE, NameE, IndexE, CallE, MethodE, TableE, BinaryE, UnaryE, ParenE, Exps, NoExp, MoreExp, Fun}
use Rattle.lua_library_agree.specs.PageRunRun.{Takes}
use Rattle.lua_slots.specs.PageRunOutcome.{Goes}
use Rattle.lua_heap.specs.Value.{Value, Closure, Text}
use Rattle.lua_heap.specs.Heap.{Function as FunctionClosed, new_closure}
use Rattle.lua_heap.specs.Related.{Map, Grows, Each, Same, nil, truth, number, text, functions}
use Rattle.lua_heap.proofs.Changes.{moved-new_closure, moved-new_table}
use Rattle.lua_slots.specs.LuaMeaningScope.{Scope, Function, cell_of, levels}
use Rattle.lua_slots.specs.LuaMeaningActs.{State}
use Rattle.lua_slots.specs.LuaMeaningOperators.{Add, Sub, Mul, Div, Mod, Pow, Operator, Less, Greater, AtMost, AtLeast, Equal, Unequal, Concatenate, Calculate}
use Rattle.lua_library_agree.specs.LuaMeaningExpressions.{values, variable, operation, closure}
use Rattle.lua_library_agree.specs.LuaMeaningMeaning.{expression, expressions}
use Rattle.lua_slots.specs.LuaMeaningWorld.{World}
use Rattle.lua_slots.specs.Code.{Place, CExp, ConstantC, TextC, DotsC, FunctionC, LocalC, GlobalC, IndexC, CallC, MethodC, TableC, AndC, OrC, OperateC, UnaryC, ParenC, CExps, NoC, MoreC, CWorld}
use Rattle.lua_slots.specs.Sight.{Sight}
use Rattle.lua_slots.specs.IsCode.{operator_of, IsClosure, IsExp, IsExps, IsFun}
use Rattle.lua_slots.specs.Slots.{Slots, function_of, proc_of, with_closure, next_closure}
use Rattle.lua_slots.specs.Points.{SFrame, First, MethodNext, Evals, Move, Costs, Now}
use Rattle.lua_slots.specs.Calls.{constants_of}
use Rattle.lua_slots.specs.Errors as machine
use Rattle.lua_slots.specs.Index as machine_index
use Rattle.lua_slots.specs.Expressions as machine_expressions
use Rattle.lua_agree.specs.Variables.{Var, Inside}
use Rattle.lua_agree.specs.Functions.{SameFunction, here}
use Rattle.lua_agree.specs.Rests.{After, alone, SameRest, at_first, at_key, at_decide, at_operand, at_unary, at_arguments, at_method_of, at_last, at_more}
use Rattle.lua_agree.specs.Agree.{evaluates, Base, Rel}
use Rattle.lua_agree.specs.Follows.{Follows, notes, takes, counts, sees, changes}
use Rattle.lua_agree.proofs.Carries.{inside-grows, rest-grows, function-grows}
use Rattle.lua_agree.proofs.Parts.{each-length, one-value, rel-moved, here-now, values-on}
use Rattle.lua_agree.proofs.Index.{indexes-table}
use Rattle.lua_agree.proofs.Places.{reads, captures, captures-held}
use Rattle.lua_agree.proofs.Constructors.{fields-on}

some-back : {A : Type 0} {x y : A} → Some x ≡ Some y → x ≡ y
some-back e = cc

module _ (world : World) (code : CWorld) (B : Base) {m : Map} {vars : List Var} {h : State} {s : Slots} (r : Rel code B m vars h s) where
  -- A CLOSURE of a function of the running module, and the function that is then held in it
  module _ {see : Sight} {scope : Scope} (i : Inside m vars s.functions see scope) where
    pub function-code : (index : ℕ) (held : List Place) (f : Fun) → IsClosure (here code s.functions) see index held (λ inner p. IsFun (here code s.functions) inner f p)
        → SameFunction code m (record { node = f; names = scope.names; source = scope.source }) (proc_of index held s)
    function-code index held f e = record {
      title = i.source;
      see = see;
      names = e.0;
      proto = e.1;
      found = e.2;
      code_ = e.4;
      cells = λ x j q. captures m h.heap vars s.regs s.functions see scope r.open_ i e.0 held e.3 x j q;
      globals = λ x q n. i.globals x q;
      has_cells = captures-held m h.heap vars s.regs s.functions see scope r.open_ i e.0 held e.3;
    }

  pub makes-on : (index : ℕ) (held : List Place) (f : Fun) (scope : Scope) (k : After Value) {mv : Move} → SameFunction code m (record { node = f; names = scope.names; source = scope.source }) (proc_of index held s)
      → ((n : Map) → Grows m n → Rel code B n vars (record h { heap = (new_closure h.heap (FunctionClosed (record { node = f; names = scope.names; source = scope.source }))).0 }) (with_closure (proc_of index held s) s)
      → Same n (Closure (length h.heap.closures)) (next_closure s)
      → Follows world code B (k (Goes (Closure (length h.heap.closures)))) (record h { heap = (new_closure h.heap (FunctionClosed (record { node = f; names = scope.names; source = scope.source }))).0 }) mv)
      → Follows world code B (closure f scope k) h (Costs 8 mv)
  makes-on index held f scope k e next =
      let a : Function = record { node = f; names = scope.names; source = scope.source } in
      let p = moved-new_closure (SameFunction code) (function-grows code) m h.heap s.heap (FunctionClosed a) (FunctionClosed (proc_of index held s)) r.stands (functions a (proc_of index held s) e) in
      takes _ _ _ _ (sees _ _ _ (sees _ _ _ (changes _ _ _ _ (next p.0 p.2.later.grows (rel-moved code r p.2) p.1))))

  module _ {k : After (List Value)} {fs : List SFrame} (g : SameRest code m vars s.functions k fs) {see : Sight} {scope : Scope} (i : Inside m vars s.functions see scope) where
    -- the operators with two operands
    operands-as : (o : Operator) (a b : Exp) (c d : CExp) (line : ℕ) → IsExp (here code s.functions) see a c → IsExp (here code s.functions) see b d
        → Follows world code B (operation o (expression a) (expression b) line scope k) h (machine_expressions.evals (constants_of code s) (OperateC o c d line) fs s)
    operands-as o a b c d line x y = takes _ _ _ _ (counts _ _ _ (here-now world code B r (evaluates a c see scope _ _ x i (at_operand vars s.functions o b d line see scope k fs y i g))))

    operands : (o : BinaryOp) (w : Operator) (a b : Exp) (c d : CExp) (line : ℕ) → operator_of o ≡ Some w → IsExp (here code s.functions) see a c → IsExp (here code s.functions) see b d
        → Follows world code B (expression (BinaryE line o a b) scope k) h (machine_expressions.evals (constants_of code s) (OperateC w c d line) fs s)
    operands op.Or w a b c d line e x y = cc
    operands op.And w a b c d line e x y = cc
    operands op.Lt w a b c d line e x y = subst (λ z. Follows world code B (expression (BinaryE line op.Lt a b) scope k) h (machine_expressions.evals (constants_of code s) (OperateC z c d line) fs s)) (some-back e) (operands-as Less a b c d line x y)
    operands op.Gt w a b c d line e x y = subst (λ z. Follows world code B (expression (BinaryE line op.Gt a b) scope k) h (machine_expressions.evals (constants_of code s) (OperateC z c d line) fs s)) (some-back e) (operands-as Greater a b c d line x y)
    operands op.Le w a b c d line e x y = subst (λ z. Follows world code B (expression (BinaryE line op.Le a b) scope k) h (machine_expressions.evals (constants_of code s) (OperateC z c d line) fs s)) (some-back e) (operands-as AtMost a b c d line x y)
    operands op.Ge w a b c d line e x y = subst (λ z. Follows world code B (expression (BinaryE line op.Ge a b) scope k) h (machine_expressions.evals (constants_of code s) (OperateC z c d line) fs s)) (some-back e) (operands-as AtLeast a b c d line x y)
    operands op.Ne w a b c d line e x y = subst (λ z. Follows world code B (expression (BinaryE line op.Ne a b) scope k) h (machine_expressions.evals (constants_of code s) (OperateC z c d line) fs s)) (some-back e) (operands-as Unequal a b c d line x y)
    operands op.Eq w a b c d line e x y = subst (λ z. Follows world code B (expression (BinaryE line op.Eq a b) scope k) h (machine_expressions.evals (constants_of code s) (OperateC z c d line) fs s)) (some-back e) (operands-as Equal a b c d line x y)
    operands op.Concat w a b c d line e x y = subst (λ z. Follows world code B (expression (BinaryE line op.Concat a b) scope k) h (machine_expressions.evals (constants_of code s) (OperateC z c d line) fs s)) (some-back e) (operands-as Concatenate a b c d line x y)
    operands op.Add w a b c d line e x y = subst (λ z. Follows world code B (expression (BinaryE line op.Add a b) scope k) h (machine_expressions.evals (constants_of code s) (OperateC z c d line) fs s)) (some-back e) (operands-as (Calculate Add) a b c d line x y)
    operands op.Sub w a b c d line e x y = subst (λ z. Follows world code B (expression (BinaryE line op.Sub a b) scope k) h (machine_expressions.evals (constants_of code s) (OperateC z c d line) fs s)) (some-back e) (operands-as (Calculate Sub) a b c d line x y)
    operands op.Mul w a b c d line e x y = subst (λ z. Follows world code B (expression (BinaryE line op.Mul a b) scope k) h (machine_expressions.evals (constants_of code s) (OperateC z c d line) fs s)) (some-back e) (operands-as (Calculate Mul) a b c d line x y)
    operands op.Div w a b c d line e x y = subst (λ z. Follows world code B (expression (BinaryE line op.Div a b) scope k) h (machine_expressions.evals (constants_of code s) (OperateC z c d line) fs s)) (some-back e) (operands-as (Calculate Div) a b c d line x y)
    operands op.Mod w a b c d line e x y = subst (λ z. Follows world code B (expression (BinaryE line op.Mod a b) scope k) h (machine_expressions.evals (constants_of code s) (OperateC z c d line) fs s)) (some-back e) (operands-as (Calculate Mod) a b c d line x y)
    operands op.Pow w a b c d line e x y = subst (λ z. Follows world code B (expression (BinaryE line op.Pow a b) scope k) h (machine_expressions.evals (constants_of code s) (OperateC z c d line) fs s)) (some-back e) (operands-as (Calculate Pow) a b c d line x y)

    -- `and` and `or`
    decides-and : (o : BinaryOp) (a b : Exp) (c d : CExp) (line : ℕ) → op.And ≡ o → IsExp (here code s.functions) see a c → IsExp (here code s.functions) see b d
        → Follows world code B (expression (BinaryE line o a b) scope k) h (machine_expressions.evals (constants_of code s) (AndC c d) fs s)
    decides-and o a b c d line e x y =
        subst (λ z. Follows world code B (expression (BinaryE line z a b) scope k) h (machine_expressions.evals (constants_of code s) (AndC c d) fs s)) e
        (takes _ _ _ _ (counts _ _ _ (here-now world code B r (evaluates a c see scope _ _ x i (at_decide vars s.functions false b d see scope k fs y i g)))))

    decides-or : (o : BinaryOp) (a b : Exp) (c d : CExp) (line : ℕ) → op.Or ≡ o → IsExp (here code s.functions) see a c → IsExp (here code s.functions) see b d
        → Follows world code B (expression (BinaryE line o a b) scope k) h (machine_expressions.evals (constants_of code s) (OrC c d) fs s)
    decides-or o a b c d line e x y =
        subst (λ z. Follows world code B (expression (BinaryE line z a b) scope k) h (machine_expressions.evals (constants_of code s) (OrC c d) fs s)) e
        (takes _ _ _ _ (counts _ _ _ (here-now world code B r (evaluates a c see scope _ _ x i (at_decide vars s.functions true b d see scope k fs y i g)))))

    constants : (e : Exp) {v w : Value} → w ≡ v → Follows world code B (expression e scope k) h (machine_expressions.evals (constants_of code s) (ConstantC v) fs s) → Follows world code B (expression e scope k) h (machine_expressions.evals (constants_of code s) (ConstantC w) fs s)
    constants e q f = subst (λ v. Follows world code B (expression e scope k) h (machine_expressions.evals (constants_of code s) (ConstantC v) fs s)) (sym q) f

    pub evals : (e : Exp) (c : CExp) → IsExp (here code s.functions) see e c → Follows world code B (expression e scope k) h (machine_expressions.evals (constants_of code s) c fs s)
    evals (NilE line) (ConstantC v) e = constants (NilE line) e (takes _ _ _ _ (counts _ _ _ (values-on world code B r g (one-value nil))))
    evals (TrueE line) (ConstantC v) e = constants (TrueE line) e (takes _ _ _ _ (counts _ _ _ (values-on world code B r g (one-value (truth true)))))
    evals (FalseE line) (ConstantC v) e = constants (FalseE line) e (takes _ _ _ _ (counts _ _ _ (values-on world code B r g (one-value (truth false)))))
    evals (NumberE line z) (ConstantC v) e = constants (NumberE line z) e (takes _ _ _ _ (counts _ _ _ (values-on world code B r g (one-value (number z)))))
    evals (TextE line t) (TextC n) e =
        subst (λ u. Follows world code B (expression (TextE line t) scope k) h (machine.node (machine.gives (Text u ∷ []) fs s))) (sym e)
        (takes _ _ _ _ (counts _ _ _ (values-on world code B r g (one-value (text t)))))
    evals (DotsE line) DotsC e =
        takes _ _ _ _ (counts _ _ _
        (subst (λ n. Follows world code B (Takes n (k (Goes scope.dots))) h (Costs (length (function_of s).dots) (machine.gives (function_of s).dots fs s))) (sym (each-length i.dots))
        (takes _ _ _ _ (values-on world code B r g i.dots))))
    evals (FunctionE line f) (FunctionC index held) e = takes _ _ _ _ (counts _ _ _ (makes-on index held f scope (alone k) (function-code i index held f e) (λ n up r' v. values-on world code B r' (rest-grows code up g) (one-value v))))
    evals (NameE line x) (LocalC p) e = takes _ _ _ _ (counts _ _ _ (reads world code B r g p (cell_of scope.names x) x (levels scope line) (i.locals x p e)))
    evals (NameE line x) (GlobalC y l) e =
        rw e.2
        (subst (λ u. Follows world code B (expression (NameE line x) scope k) h (machine.node (machine_index.index_table s.globals (Text u) (Some line) (First ∷ fs) s))) (sym e.1)
        (takes _ _ _ _ (counts _ _ _
        (subst (λ o. Follows world code B (variable o x (levels scope line) (alone k)) h (machine_index.index_table s.globals (Text x) (Some line) (First ∷ fs) s)) (sym (i.globals x e.0))
        (notes _ _ _ _ _ (sees _ _ _ (indexes-table world code B r (at_first vars s.functions k fs g) (levels scope line) (Some line) (i.levels line) h.globals s.globals r.globals (text x))))))))
    evals (IndexE line of key) (IndexC c d l) e = rw e.0 (takes _ _ _ _ (counts _ _ _ (here-now world code B r (evaluates of c see scope _ _ e.1 i (at_key vars s.functions key d line see scope k fs e.2 i g)))))
    evals (CallE line f es) (CallC c cs l) e = rw e.0 (takes _ _ _ _ (counts _ _ _ (here-now world code B r (evaluates f c see scope _ _ e.1 i (at_arguments vars s.functions es cs line see scope k fs e.2 i g)))))
    evals (MethodE line of x es) (MethodC c y cs l) e =
        rw e.0
        (subst (λ u. Follows world code B (expression (MethodE line of x es) scope k) h (machine.node (Now (Evals c (MethodNext u cs line ∷ fs)) s))) (sym e.1)
        (takes _ _ _ _ (counts _ _ _ (here-now world code B r (evaluates of c see scope _ _ e.2 i (at_method_of vars s.functions x es cs line see scope k fs e.3 i g))))))
    evals (TableE line fields) (TableC cs l) e =
        let p = moved-new_table (SameFunction code) (function-grows code) m h.heap s.heap r.stands in
        rw e.0 (takes _ _ _ _ (counts _ _ _ (takes _ _ _ _ (sees _ _ _ (sees _ _ _ (changes _ _ _ _
        (fields-on world code B (rel-moved code r p.2) (rest-grows code p.2.later.grows g) (inside-grows p.2.later.grows i) 1 line p.1 fields cs e.1)))))))
    evals (BinaryE line o a b) (AndC c d) e = decides-and o a b c d line (sym e.0) e.1 e.2
    evals (BinaryE line o a b) (OrC c d) e = decides-or o a b c d line (sym e.0) e.1 e.2
    evals (BinaryE line o a b) (OperateC w c d l) e = rw e.0 (operands o w a b c d line e.1 e.2 e.3)
    evals (UnaryE line o a) (UnaryC w c l) e = rw (e.0, e.1) (takes _ _ _ _ (counts _ _ _ (here-now world code B r (evaluates a c see scope _ _ e.2 i (at_unary vars s.functions o (levels scope line) line k fs (i.levels line) g)))))
    evals (ParenE line a) (ParenC c) e = takes _ _ _ _ (counts _ _ _ (here-now world code B r (evaluates a c see scope _ _ e i (at_first vars s.functions k fs g))))
    evals e c x = absurd x

    -- a list
    pub lists-on : (es : Exps) (cs : CExps) {vs ws : List Value} → IsExps (here code s.functions) see es cs → Each (Same m) vs ws → Follows world code B (values (expressions es) scope vs k) h (machine_expressions.lists cs ws fs s)
    lists-on NoExp NoC e x = values-on world code B r g x
    lists-on (MoreExp e NoExp) (MoreC c NoC) {vs} {ws} y x = here-now world code B r (evaluates e c see scope _ _ y.0 i (at_last vars s.functions vs ws k fs x g))
    lists-on (MoreExp e (MoreExp f es)) (MoreC c (MoreC d cs)) {vs} {ws} y x = here-now world code B r (evaluates e c see scope _ _ y.0 i (at_more vars s.functions f es d cs vs ws see scope k fs x y.1 i g))
    lists-on NoExp (MoreC c cs) y x = absurd y
    lists-on (MoreExp e es) NoC y x = absurd y
    lists-on (MoreExp e NoExp) (MoreC c (MoreC d cs)) y x = absurd y.1
    lists-on (MoreExp e (MoreExp f es)) (MoreC c NoC) y x = absurd y.1

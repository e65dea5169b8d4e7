-- WHAT FOLLOWS IN A RUN, and the frames that wait in a machine: each constructor is one frame, with what it stands for.
use Rattle.std.specs.Prelude.{◌≡◌, ℕ, ℤ, pos, ◌+◌, Bool, true, false, not, List, [], ◌∷◌, ◌++◌, length, reverse, Option, Some, None}
use Rattle.lua_slots.specs.LuaSyntaxDeclaredUnaryOp.{UnaryOp}
use Rattle.lua_slots.specs.LuaSyntaxTree.{Exp, Exps, MoreExp, Fields, Block, Arms}
use Rattle.lua_library_agree.specs.PageRunRun.{Ends, Leaves}
use Rattle.lua_slots.specs.PageRunOutcome.{Outcome, on_value, ◌>>=◌, ◌>>◌, give, jump, tick, begin}
use Rattle.lua_heap.specs.Value.{Value, Number, Text, Table, Truth, is_nil, is_true}
use Rattle.lua_heap.specs.Related.{Map, Each, Same}
use Rattle.lua_slots.specs.LuaMeaningScope.{Bytes, Scope, Levels, levels}
use Rattle.lua_slots.specs.LuaMeaningValues.{first, second, third, number_in, text_in}
use Rattle.lua_slots.specs.LuaMeaningActs.{Act, Jump, Returned, WhileTurn, EachTurn, LuaRun, choose, one, declare}
use Rattle.lua_slots.specs.LuaMeaningMessages.{no_initial_value, no_limit, no_step}
use Rattle.lua_library_agree.specs.LuaMeaningCalls.{call}
use Rattle.lua_library_agree.specs.LuaMeaningIndex.{index, set_entry}
use Rattle.lua_slots.specs.LuaMeaningOperators.{Operator, operate}
use Rattle.lua_library_agree.specs.LuaMeaningParts.{Target, Entry, BlockPart}
use Rattle.lua_library_agree.specs.LuaMeaningExpressions.{value, values, unless_decided, apply}
use Rattle.lua_library_agree.specs.LuaMeaningConstructors.{set_items, set_fields}
use Rattle.lua_library_agree.specs.LuaMeaningStatements.{targets, with_values, assign_each, within, branches}
use Rattle.lua_slots.specs.LuaMeaningLoops.{then_next, while_from, until, repeat_from, for_number, count_from, count_next, step_value, each_from}
use Rattle.lua_library_agree.specs.LuaMeaningMeaning.{expression, expressions, fields_of, targets_of, block, branches_of, exp_part, block_part}
use Rattle.lua_library_agree.specs.LuaMeaningThings.{after_body}
use Rattle.lua_slots.specs.LuaMeaningCallBacks.{string_or_fail}
use Rattle.lua_slots.specs.LuaMeaningPending.{Pending, resumes, hears}
use Rattle.lua_slots.specs.LuaMeaningQuestions.{Asked}
use Rattle.lua_slots.specs.LuaMeaningStart.{End, Done, answer_texts, answer, invoke_function, invoke_in, data_value, invoke_outcome, data_outcome}
use Rattle.lua_slots.specs.Code.{CExp, CExps, NoC, MoreC, CFields, NoFieldC, CTarget, CBlock, CArms, CWorld}
use Rattle.lua_slots.specs.Sight.{Sight, with_local, with_locals, AreAsMany}
use Rattle.lua_slots.specs.IsCode.{any_sight, IsExp, IsExps, IsFields, IsTargets, IsArms, IsBlock}
use Rattle.lua_slots.specs.Slots.{Activation, levels_at}
use Rattle.lua_slots.specs.Expressions.{decides}
use Rattle.lua_slots.specs.Points.{STarget, SFrame, First, Verdict, KeyNext, IndexNow, DecideNext, OperandNext, OperateNow, UnaryNow, ArgumentsNext, CallNow, MethodNext, MethodNow, MoreNext, ItemNow, PairNext, PairNow, FieldsNext, ItemsNext, TargetKey, TargetNow, AssignNow, SetsNext, DeclareNow, StatsNext, BranchNext, BlockEnd, BodyEnd, LibraryEnd, WhileTest, WhileEnd, TestNext, TestNow, CountFrom, CountTo, CountBy, CountEnd, EachValues, EachNext, EachEnd, ReturnNow, Waits, Hears, ModuleFound, FunctionFound, AnswerNow, TextNow, DataNow}
use Rattle.lua_agree.specs.Variables.{Var, Opens, HeldFunction, Inside}
use Rattle.lua_agree.specs.Values.{SameTarget, SameSet, SamePending}
use Rattle.lua_agree.specs.Functions.{IsOther, IsStep, IsMoreFields, other_of, step_of, here, end_of}

-- what a part of a run that gives an X is followed by
abbrev pub After : Type 0 → Type 0
After X = Outcome X Jump → LuaRun

-- NAMES FOR WHAT FOLLOWS. After a list of values of which the first counts; after one value, which is given alone
abbrev pub first_of : After Value → After (List Value)
first_of k = on_value (λ vs. give (first vs)) k

abbrev pub alone : After (List Value) → After Value
alone k = on_value (λ v. give (v ∷ [])) k

-- a truth is given, or what it is not
abbrev pub truth_after : After (List Value) → After Bool
truth_after k = on_value (λ b. give (Truth b)) (alone k)

abbrev pub falsehood_after : After (List Value) → After Bool
falsehood_after k = on_value (λ b. give (Truth (not b))) (alone k)

abbrev pub not_after : After Bool → After Bool
not_after k = on_value (λ b. give (not b)) k

-- a statement's values are dropped, and what follows has this scope; or it has nothing
abbrev pub stays : Scope → After Scope → After (List Value)
stays scope k = on_value (λ _. give scope) k

abbrev pub dropped : After (Unit {0}) → After (List Value)
dropped k = on_value (λ _. give tt) k

-- the entries of a new table are set, and it is given
abbrev pub built : ℕ → After (List Value) → After (Unit {0})
built t k = on_value (λ _. give (Table t ∷ [])) k

abbrev pub then_fields : ℕ → ℕ → Fields → Levels → Scope → After (List Value) → After (Unit {0})
then_fields t n fields ls scope k = on_value (λ _. set_fields t n (fields_of fields) ls scope) (built t k)

abbrev pub then_items : ℕ → ℕ → List Value → Levels → After (List Value) → After (Unit {0})
then_items t n vs ls k = on_value (λ _. set_items t n vs ls) (built t k)

-- an assignment, from its targets on
abbrev pub all_targets : Exps → Scope → After Scope → After (List Target)
all_targets right scope k = on_value (λ ts. values (expressions right) scope [] >>= (λ vs. assign_each (reverse (with_values ts vs)) >> give scope)) k

abbrev pub more_targets : Exps → List Target → Exps → Scope → After Scope → After Target
more_targets more ts right scope k = on_value (λ t. targets (targets_of more) scope (ts ++ t ∷ [])) (all_targets right scope k)

abbrev pub more_sets : List (Target × Value) → Scope → After Scope → After (Unit {0})
more_sets ps scope k = on_value (λ _. assign_each ps) (on_value (λ _. give scope) k)

-- a counting loop whose first index, limit and step are evaluated
abbrev pub counted : Bytes → BlockPart → ℕ → Scope → Value → Value → Value → Act Scope
counted x body line scope a b c =
    for_number (levels scope line) no_initial_value (number_in a) >>= (λ index.
    for_number (levels scope line) no_limit (number_in b) >>= (λ limit.
    for_number (levels scope line) no_step (number_in c) >>= (λ step.
    count_from x index limit step body scope >> give scope)))

-- a function is left
abbrev pub leaving : After (List Value) → After (List Value)
leaving k o = Leaves (k o)

-- the end of an invocation, and of the load of a data module; and the texts of an answer, one after another
abbrev pub invoked : After End
invoked o = Ends (invoke_outcome o)

abbrev pub data_loaded : After End
data_loaded o = Ends (data_outcome o)

abbrev pub paid_text : After Bytes
paid_text = on_value (λ t. tick (length t) >> give (Done t)) invoked

abbrev pub then_texts : List Value → Bytes → After Bytes
then_texts vs before = on_value (λ t. answer_texts vs (before ++ t)) paid_text

-- a truth that is given as it is; or the negation of one, for `~=`, and for `<=` by a handler of `<`
pub data SameTruth (k : After (List Value)) : Bool → After Bool → Type 0 where
  is_truth : SameTruth k false (truth_after k)
  is_falsehood : SameTruth k true (falsehood_after k)
  is_not_less : SameTruth k true (not_after (truth_after k))

module _ (code : CWorld) where
  mutual
    -- AFTER VALUES
    pub data SameRest (m : Map) : List Var → List Activation → After (List Value) → List SFrame → Type 0 where
      -- nothing is left to do: no variable is open, and no function in progress
      at_end : (vars : List Var) (fns : List Activation) → vars ≡ [] → fns ≡ [] → SameRest m vars fns (λ o. Ends o) []
      -- EXPRESSIONS
      at_first : (vars : List Var) (fns : List Activation) (k : After (List Value)) (fs : List SFrame) → SameRest m vars fns k fs → SameRest m vars fns (first_of (alone k)) (First ∷ fs)
      at_verdict : (vars : List Var) (fns : List Activation) (negated : Bool) (t : After Bool) (k : After (List Value)) (fs : List SFrame) → SameTruth k negated t → SameRest m vars fns k fs
          → SameRest m vars fns (first_of (on_value (λ v. give (is_true v)) t)) (Verdict negated ∷ fs)
      at_key : (vars : List Var) (fns : List Activation) (e : Exp) (c : CExp) (line : ℕ) (see : Sight) (scope : Scope) (k : After (List Value)) (fs : List SFrame) → IsExp (here code fns) see e c → Inside m vars fns see scope → SameRest m vars fns k fs
          → SameRest m vars fns (first_of (on_value (λ t. value (expression e) scope >>= (λ i. index t i (levels scope line) >>= (λ v. give (v ∷ [])))) k)) (KeyNext c line ∷ fs)
      at_index : (vars : List Var) (fns : List Activation) (v w : Value) (ls : Levels) (line : ℕ) (k : After (List Value)) (fs : List SFrame) → Same m v w → ls ≡ levels_at fns (Some line) → SameRest m vars fns k fs
          → SameRest m vars fns (first_of (on_value (λ i. index v i ls >>= (λ x. give (x ∷ []))) k)) (IndexNow w line ∷ fs)
      at_decide : (vars : List Var) (fns : List Activation) (deciding : Bool) (e : Exp) (c : CExp) (see : Sight) (scope : Scope) (k : After (List Value)) (fs : List SFrame) → IsExp (here code fns) see e c → Inside m vars fns see scope → SameRest m vars fns k fs
          → SameRest m vars fns (first_of (on_value (λ v. unless_decided (decides deciding (is_true v)) v (expression e) scope) k)) (DecideNext deciding c ∷ fs)
      at_operand : (vars : List Var) (fns : List Activation) (o : Operator) (e : Exp) (c : CExp) (line : ℕ) (see : Sight) (scope : Scope) (k : After (List Value)) (fs : List SFrame) → IsExp (here code fns) see e c → Inside m vars fns see scope → SameRest m vars fns k fs
          → SameRest m vars fns (first_of (on_value (λ v. value (expression e) scope >>= (λ w. operate o v w (levels scope line) >>= (λ r. give (r ∷ [])))) k)) (OperandNext o c line ∷ fs)
      at_operate : (vars : List Var) (fns : List Activation) (o : Operator) (v w : Value) (ls : Levels) (line : ℕ) (k : After (List Value)) (fs : List SFrame) → Same m v w → ls ≡ levels_at fns (Some line) → SameRest m vars fns k fs
          → SameRest m vars fns (first_of (on_value (λ x. operate o v x ls >>= (λ r. give (r ∷ []))) k)) (OperateNow o w line ∷ fs)
      at_unary : (vars : List Var) (fns : List Activation) (o : UnaryOp) (ls : Levels) (line : ℕ) (k : After (List Value)) (fs : List SFrame) → ls ≡ levels_at fns (Some line) → SameRest m vars fns k fs
          → SameRest m vars fns (first_of (on_value (λ v. apply o v ls >>= (λ r. give (r ∷ []))) k)) (UnaryNow o line ∷ fs)
      -- calls
      at_arguments : (vars : List Var) (fns : List Activation) (es : Exps) (cs : CExps) (line : ℕ) (see : Sight) (scope : Scope) (k : After (List Value)) (fs : List SFrame) → IsExps (here code fns) see es cs → Inside m vars fns see scope → SameRest m vars fns k fs
          → SameRest m vars fns (first_of (on_value (λ g. values (expressions es) scope [] >>= (λ vs. call g vs (levels scope line))) k)) (ArgumentsNext cs line ∷ fs)
      at_call : (vars : List Var) (fns : List Activation) (v w : Value) (ls : Levels) (line : ℕ) (k : After (List Value)) (fs : List SFrame) → Same m v w → ls ≡ levels_at fns (Some line) → SameRest m vars fns k fs
          → SameRest m vars fns (on_value (λ vs. call v vs ls) k) (CallNow w line ∷ fs)
      at_method_of : (vars : List Var) (fns : List Activation) (x : Bytes) (es : Exps) (cs : CExps) (line : ℕ) (see : Sight) (scope : Scope) (k : After (List Value)) (fs : List SFrame) → IsExps (here code fns) see es cs → Inside m vars fns see scope → SameRest m vars fns k fs
          → SameRest m vars fns (first_of (on_value (λ a. index a (Text x) (levels scope line) >>= (λ f. values (expressions es) scope (a ∷ []) >>= (λ vs. call f vs (levels scope line)))) k)) (MethodNext x cs line ∷ fs)
      at_method : (vars : List Var) (fns : List Activation) (v w : Value) (es : Exps) (cs : CExps) (line : ℕ) (see : Sight) (scope : Scope) (k : After (List Value)) (fs : List SFrame) → Same m v w → IsExps (here code fns) see es cs → Inside m vars fns see scope → SameRest m vars fns k fs
          → SameRest m vars fns (first_of (on_value (λ f. values (expressions es) scope (v ∷ []) >>= (λ vs. call f vs (levels scope line))) k)) (MethodNow w cs line ∷ fs)
      -- lists
      at_last : (vars : List Var) (fns : List Activation) (vs ws : List Value) (k : After (List Value)) (fs : List SFrame) → Each (Same m) vs ws → SameRest m vars fns k fs
          → SameRest m vars fns (on_value (λ xs. give (vs ++ xs)) k) (MoreNext NoC ws ∷ fs)
      at_more : (vars : List Var) (fns : List Activation) (e : Exp) (es : Exps) (c : CExp) (cs : CExps) (vs ws : List Value) (see : Sight) (scope : Scope) (k : After (List Value)) (fs : List SFrame) → Each (Same m) vs ws
          → IsExps (here code fns) see (MoreExp e es) (MoreC c cs) → Inside m vars fns see scope → SameRest m vars fns k fs
          → SameRest m vars fns (first_of (on_value (λ v. values (expressions (MoreExp e es)) scope (vs ++ v ∷ [])) k)) (MoreNext (MoreC c cs) ws ∷ fs)
      -- a constructor: the last item with all its values, another item, a pair, and what follows when an entry is set
      at_last_item : (vars : List Var) (fns : List Activation) (t u n : ℕ) (ls : Levels) (line : ℕ) (k : After (List Value)) (fs : List SFrame) → Same m (Table t) (Table u) → ls ≡ levels_at fns (Some line) → SameRest m vars fns k fs
          → SameRest m vars fns (on_value (λ vs. set_items t n vs ls) (built t k)) (ItemNow u n NoFieldC line ∷ fs)
      at_item : (vars : List Var) (fns : List Activation) (t u n : ℕ) (fields : Fields) (cs : CFields) (line : ℕ) (see : Sight) (scope : Scope) (k : After (List Value)) (fs : List SFrame) → Same m (Table t) (Table u)
          → IsMoreFields (here code fns) see fields cs → Inside m vars fns see scope → SameRest m vars fns k fs
          → SameRest m vars fns (first_of (on_value (λ v. set_entry t (Number (pos n)) v (levels scope line)) (then_fields t (n + 1) fields (levels scope line) scope k))) (ItemNow u n cs line ∷ fs)
      at_pair : (vars : List Var) (fns : List Activation) (t u n : ℕ) (e : Exp) (c : CExp) (fields : Fields) (cs : CFields) (line : ℕ) (see : Sight) (scope : Scope) (k : After (List Value)) (fs : List SFrame) → Same m (Table t) (Table u)
          → IsExp (here code fns) see e c → IsFields (here code fns) see fields cs → Inside m vars fns see scope → SameRest m vars fns k fs
          → SameRest m vars fns (first_of (on_value (λ x. one (expression e scope) >>= (λ v. set_entry t x v (levels scope line))) (then_fields t n fields (levels scope line) scope k))) (PairNext u n c cs line ∷ fs)
      at_pair_value : (vars : List Var) (fns : List Activation) (t u n : ℕ) (v w : Value) (fields : Fields) (cs : CFields) (line : ℕ) (see : Sight) (scope : Scope) (k : After (List Value)) (fs : List SFrame) → Same m (Table t) (Table u) → Same m v w
          → IsFields (here code fns) see fields cs → Inside m vars fns see scope → SameRest m vars fns k fs
          → SameRest m vars fns (first_of (on_value (λ x. set_entry t v x (levels scope line)) (then_fields t n fields (levels scope line) scope k))) (PairNow u n w cs line ∷ fs)
      at_fields : (vars : List Var) (fns : List Activation) (t u n : ℕ) (fields : Fields) (cs : CFields) (line : ℕ) (see : Sight) (scope : Scope) (k : After (List Value)) (fs : List SFrame) → Same m (Table t) (Table u)
          → IsFields (here code fns) see fields cs → Inside m vars fns see scope → SameRest m vars fns k fs
          → SameRest m vars fns (dropped (then_fields t n fields (levels scope line) scope k)) (FieldsNext u n cs line ∷ fs)
      at_items : (vars : List Var) (fns : List Activation) (t u n : ℕ) (vs ws : List Value) (ls : Levels) (line : ℕ) (k : After (List Value)) (fs : List SFrame) → Same m (Table t) (Table u) → Each (Same m) vs ws → ls ≡ levels_at fns (Some line) → SameRest m vars fns k fs
          → SameRest m vars fns (dropped (then_items t n vs ls k)) (ItemsNext u n ws line ∷ fs)
      -- STATEMENTS
      at_target_key : (vars : List Var) (fns : List Activation) (e : Exp) (c : CExp) (line : ℕ) (left : Exps) (ts : List CTarget) (found : List Target) (sfound : List STarget) (right : Exps) (cs : CExps) (see : Sight) (scope : Scope) (k : After Scope) (fs : List SFrame)
          → IsExp (here code fns) see e c → IsTargets (here code fns) see left ts → Each (SameTarget m vars fns) found sfound → IsExps (here code fns) see right cs → Inside m vars fns see scope → SameRest m vars fns (stays scope k) fs
          → SameRest m vars fns (first_of (on_value (λ t. value (expression e) scope >>= (λ i. give (Entry t i (levels scope line)))) (more_targets left found right scope k))) (TargetKey c line ts sfound cs ∷ fs)
      at_target : (vars : List Var) (fns : List Activation) (v w : Value) (line : ℕ) (left : Exps) (ts : List CTarget) (found : List Target) (sfound : List STarget) (right : Exps) (cs : CExps) (see : Sight) (scope : Scope) (k : After Scope) (fs : List SFrame)
          → Same m v w → IsTargets (here code fns) see left ts → Each (SameTarget m vars fns) found sfound → IsExps (here code fns) see right cs → Inside m vars fns see scope → SameRest m vars fns (stays scope k) fs
          → SameRest m vars fns (first_of (on_value (λ i. give (Entry v i (levels scope line))) (more_targets left found right scope k))) (TargetNow w line ts sfound cs ∷ fs)
      at_assign : (vars : List Var) (fns : List Activation) (found : List Target) (sfound : List STarget) (scope : Scope) (k : After Scope) (fs : List SFrame) → Each (SameTarget m vars fns) found sfound → SameRest m vars fns (stays scope k) fs
          → SameRest m vars fns (on_value (λ vs. assign_each (reverse (with_values found vs)) >> give scope) k) (AssignNow sfound ∷ fs)
      at_sets : (vars : List Var) (fns : List Activation) (ps : List (Target × Value)) (qs : List (STarget × Value)) (scope : Scope) (k : After Scope) (fs : List SFrame) → Each (SameSet m vars fns) ps qs → SameRest m vars fns (stays scope k) fs
          → SameRest m vars fns (dropped (more_sets ps scope k)) (SetsNext qs ∷ fs)
      at_declare : (vars : List Var) (fns : List Activation) (tail : Option (Exp × CExp)) (names : List Bytes) (flags : List Bool) (b : Block) (c : CBlock) (see : Sight) (scope : Scope) (k : After Scope) (fs : List SFrame)
          → AreAsMany names flags → IsBlock (here code fns) (end_of code fns tail) (with_locals names flags see) b c → Inside m vars fns see scope → SameEnd m tail vars fns k fs
          → SameRest m vars fns (on_value (λ vs. declare names vs scope) (on_value (λ after. block b after) k)) (DeclareNow flags c ∷ fs)
      at_stats : (vars : List Var) (fns : List Activation) (tail : Option (Exp × CExp)) (b : Block) (c : CBlock) (see : Sight) (scope : Scope) (k : After Scope) (fs : List SFrame)
          → IsBlock (here code fns) (end_of code fns tail) see b c → Inside m vars fns see scope → SameEnd m tail vars fns k fs
          → SameRest m vars fns (stays scope (on_value (λ after. block b after) k)) (StatsNext c ∷ fs)
      at_branch : (vars : List Var) (fns : List Activation) (b : Block) (c : CBlock) (arms : Arms) (cs : CArms) (other : Option Block) (d : Option CBlock) (see : Sight) (scope : Scope) (k : After Scope) (fs : List SFrame)
          → IsBlock (here code fns) any_sight see b c → IsArms (here code fns) see arms cs → IsOther (here code fns) see other d → Inside m vars fns see scope → SameRest m vars fns (stays scope k) fs
          → SameRest m vars fns (first_of (on_value (λ v. choose (is_true v) (within (block b) scope) (branches (branches_of arms) (other_of other) scope)) k)) (BranchNext c cs d ∷ fs)
      at_return : (vars : List Var) (fns : List Activation) (scope : Scope) (k : After Scope) (fs : List SFrame) → SameRest m vars fns (stays scope k) fs → SameRest m vars fns (on_value (λ vs. jump {X = Scope} (Returned vs)) k) (ReturnNow ∷ fs)
      -- LOOPS
      at_while : (vars : List Var) (fns : List Activation) (e : Exp) (c : CExp) (b : Block) (d : CBlock) (see : Sight) (scope : Scope) (k : After (List Value)) (fs : List SFrame)
          → IsExp (here code fns) see e c → IsBlock (here code fns) any_sight see b d → Inside m vars fns see scope → SameRest m vars fns k fs
          → SameRest m vars fns (first_of (on_value (λ v. choose (is_true v) (begin (WhileTurn e b scope)) (give [])) k)) (WhileTest c d ∷ fs)
      at_test : (vars all : List Var) (fns : List Activation) (b : Block) (c : CBlock) (e : Exp) (d : CExp) (depth : ℕ) (see : Sight) (scope : Scope) (k : After (List Value)) (fs : List SFrame)
          → IsBlock (here code fns) (λ end. IsExp (here code fns) end e d) see b c → Inside m vars fns see scope → Opens vars all → depth ≡ length vars → SameRest m vars fns k fs
          → SameRest m all fns (first_of (λ o. until (repeat_from (block_part b) (exp_part e) scope) o k)) (TestNow d depth c ∷ fs)
      at_count_from : (vars : List Var) (fns : List Activation) (x : Bytes) (boxed : Bool) (e : Exp) (d : CExp) (by : Option Exp) (dby : Option CExp) (b : Block) (c : CBlock) (line : ℕ) (see : Sight) (scope : Scope) (k : After Scope) (fs : List SFrame)
          → IsExp (here code fns) see e d → IsStep (here code fns) see by dby → IsBlock (here code fns) any_sight (with_local x boxed see) b c → Inside m vars fns see scope → SameRest m vars fns (stays scope k) fs
          → SameRest m vars fns (first_of (on_value (λ from. value (expression e) scope >>= (λ to. step_value (step_of by) scope >>= (λ step. counted x (block_part b) line scope from to step))) k)) (CountFrom boxed d dby c line ∷ fs)
      at_count_to : (vars : List Var) (fns : List Activation) (x : Bytes) (boxed : Bool) (v w : Value) (by : Option Exp) (dby : Option CExp) (b : Block) (c : CBlock) (line : ℕ) (see : Sight) (scope : Scope) (k : After Scope) (fs : List SFrame)
          → Same m v w → IsStep (here code fns) see by dby → IsBlock (here code fns) any_sight (with_local x boxed see) b c → Inside m vars fns see scope → SameRest m vars fns (stays scope k) fs
          → SameRest m vars fns (first_of (on_value (λ to. step_value (step_of by) scope >>= (λ step. counted x (block_part b) line scope v to step)) k)) (CountTo boxed w dby c line ∷ fs)
      at_count_by : (vars : List Var) (fns : List Activation) (x : Bytes) (boxed : Bool) (v w t u : Value) (b : Block) (c : CBlock) (line : ℕ) (see : Sight) (scope : Scope) (k : After Scope) (fs : List SFrame)
          → Same m v w → Same m t u → IsBlock (here code fns) any_sight (with_local x boxed see) b c → Inside m vars fns see scope → SameRest m vars fns (stays scope k) fs
          → SameRest m vars fns (first_of (on_value (λ step. counted x (block_part b) line scope v t step) k)) (CountBy boxed w u c line ∷ fs)
      at_each_values : (vars : List Var) (fns : List Activation) (names : List Bytes) (flags : List Bool) (b : Block) (c : CBlock) (line : ℕ) (see : Sight) (scope : Scope) (k : After Scope) (fs : List SFrame) → AreAsMany names flags
          → IsBlock (here code fns) any_sight (with_locals names flags see) b c → Inside m vars fns see scope → SameRest m vars fns (stays scope k) fs
          → SameRest m vars fns (on_value (λ vs. each_from names (first vs) (second vs) (third vs) (block_part b) line scope >> give scope) k) (EachValues flags c line ∷ fs)
      at_each_next : (vars : List Var) (fns : List Activation) (names : List Bytes) (flags : List Bool) (f g t u : Value) (b : Block) (c : CBlock) (line : ℕ) (see : Sight) (scope : Scope) (k : After (List Value)) (fs : List SFrame) → AreAsMany names flags
          → IsBlock (here code fns) any_sight (with_locals names flags see) b c → Inside m vars fns see scope → Same m f g → Same m t u → SameRest m vars fns k fs
          → SameRest m vars fns (on_value (λ vs. choose (is_nil (first vs)) (give []) (begin (EachTurn names f t vs b line scope))) k) (EachNext flags g u c line ∷ fs)
      -- THE LIBRARY: a function of it is left; it waits for a call, or for an answer
      at_library : (vars : List Var) (fns : List Activation) (k : After (List Value)) (fs : List SFrame) → SameRest m vars fns k fs → SameRest m vars fns (leaving k) (LibraryEnd ∷ fs)
      at_wait : (vars : List Var) (fns : List Activation) (p q : Pending) (ls : Levels) (line : Option ℕ) (k : After (List Value)) (fs : List SFrame) → SamePending m p q → ls ≡ levels_at fns line → SameRest m vars fns k fs
          → SameRest m vars fns (λ o. resumes p ls o k) (Waits q line ∷ fs)
      at_hearing : (vars : List Var) (fns : List Activation) (asked : Asked) (ls : Levels) (line : Option ℕ) (k : After (List Value)) (fs : List SFrame) → ls ≡ levels_at fns line → SameRest m vars fns k fs
          → SameRest m vars fns (λ o. hears asked ls o k) (Hears asked line ∷ fs)
      -- A WHOLE RUN, at whose bottom nothing else is left to do
      at_module : (vars : List Var) (fns : List Activation) (name : Bytes) (v w : Value) → vars ≡ [] → fns ≡ [] → Same m v w → SameRest m vars fns (first_of (on_value (λ t. invoke_in name t v) invoked)) (ModuleFound name w ∷ [])
      at_function : (vars : List Var) (fns : List Activation) (name : Bytes) (v w : Value) → vars ≡ [] → fns ≡ [] → Same m v w → SameRest m vars fns (first_of (on_value (λ f. invoke_function name f v) invoked)) (FunctionFound name w ∷ [])
      at_answer : (vars : List Var) (fns : List Activation) → vars ≡ [] → fns ≡ [] → SameRest m vars fns (on_value (λ vs. answer vs) invoked) (AnswerNow ∷ [])
      at_text : (vars : List Var) (fns : List Activation) (vs ws : List Value) (before : Bytes) → vars ≡ [] → fns ≡ [] → Each (Same m) vs ws
          → SameRest m vars fns (on_value (λ xs. string_or_fail [] (text_in (first xs))) (then_texts vs before)) (TextNow ws before ∷ [])
      at_data : (vars : List Var) (fns : List Activation) → vars ≡ [] → fns ≡ [] → SameRest m vars fns (on_value (λ vs. give (data_value (first vs))) data_loaded) (DataNow ∷ [])

    -- AFTER A BLOCK: its end, with the scope that its statements gave. More variables may be open than there were before it.
    pub data SameEnd (m : Map) : Option (Exp × CExp) → List Var → List Activation → After Scope → List SFrame → Type 0 where
      ends_block : (vars all : List Var) (fns : List Activation) (depth : ℕ) (scope : Scope) (k : After Scope) (fs : List SFrame) → Opens vars all → depth ≡ length vars → SameRest m vars fns (stays scope k) fs
          → SameEnd m None all fns (on_value (λ _. give scope) k) (BlockEnd depth ∷ fs)
      ends_body : (vars all : List Var) (a : Activation) (fns : List Activation) (k : After (List Value)) (fs : List SFrame) → Opens vars all → a.base ≡ length vars → HeldFunction m a → SameRest m vars fns k fs
          → SameEnd m None all (a ∷ fns) (λ o. after_body o (leaving k)) (BodyEnd ∷ fs)
      ends_while : (vars all : List Var) (fns : List Activation) (e : Exp) (c : CExp) (b : Block) (d : CBlock) (depth : ℕ) (see : Sight) (scope : Scope) (k : After (List Value)) (fs : List SFrame)
          → IsExp (here code fns) see e c → IsBlock (here code fns) any_sight see b d → Inside m vars fns see scope → Opens vars all → depth ≡ length vars → SameRest m vars fns k fs
          → SameEnd m None all fns (λ o. then_next (while_from (exp_part e) (block_part b) scope) o k) (WhileEnd depth c d ∷ fs)
      ends_repeat : (vars all : List Var) (fns : List Activation) (b : Block) (c : CBlock) (e : Exp) (d : CExp) (depth : ℕ) (see : Sight) (scope : Scope) (k : After (List Value)) (fs : List SFrame)
          → IsBlock (here code fns) (λ end. IsExp (here code fns) end e d) see b c → Inside m vars fns see scope → Opens vars all → depth ≡ length vars → SameRest m vars fns k fs
          → SameEnd m (Some (e, d)) all fns (on_value (λ inner. value (expression e) inner) (λ o. until (repeat_from (block_part b) (exp_part e) scope) o k)) (TestNext d depth c ∷ fs)
      ends_count : (vars all : List Var) (fns : List Activation) (x : Bytes) (boxed : Bool) (index limit step : ℤ) (b : Block) (c : CBlock) (depth : ℕ) (see : Sight) (scope : Scope) (k : After (List Value)) (fs : List SFrame)
          → IsBlock (here code fns) any_sight (with_local x boxed see) b c → Inside m vars fns see scope → Opens vars all → depth ≡ length vars → SameRest m vars fns k fs
          → SameEnd m None all fns (λ o. then_next (count_next x index limit step (block_part b) scope) o k) (CountEnd depth boxed index limit step c ∷ fs)
      ends_each : (vars all : List Var) (fns : List Activation) (names : List Bytes) (flags : List Bool) (f g t u p q : Value) (b : Block) (c : CBlock) (line depth : ℕ) (see : Sight) (scope : Scope) (k : After (List Value)) (fs : List SFrame) → AreAsMany names flags
          → IsBlock (here code fns) any_sight (with_locals names flags see) b c → Inside m vars fns see scope → Same m f g → Same m t u → Same m p q → Opens vars all → depth ≡ length vars → SameRest m vars fns k fs
          → SameEnd m None all fns (λ o. then_next (each_from names f t p (block_part b) line scope) o k) (EachEnd depth flags g u q c line ∷ fs)

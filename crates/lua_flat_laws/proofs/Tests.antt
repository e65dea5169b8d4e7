-- TESTS: where code goes on for a true value and for a false one.
use Rattle.std.proofs.Common.{◌≡◌, ℕ, ◌+◌, ◌≤◌, ◌∙◌, Bool, true, false, not, List, [], ◌∷◌, ◌++◌, Option, Some, refl, sym, ap, subst, arith, length-append, append_assoc}
use Rattle.std.specs.Prelude.{length, slice_get}
use Rattle.lua_flat.specs.LuaSyntaxDeclaredUnaryOpTheVariants as sign
use Rattle.lua_goes.specs.PageRunOutcome.{Goes, Jumps}
use Rattle.lua_goes.specs.LuaHeapValue.{Value, Truth, is_true}
use Rattle.lua_goes.specs.LuaMeaningValues.{first}
use Rattle.lua_goes.specs.LuaMeaningActs.{Raised}
use Rattle.lua_flat.specs.LuaMeaningOperators.{Operator}
use Rattle.lua_goes.specs.LuaSlotsCode.{Constants, CExp, CBlock, CArms, AndC, OrC, OperateC, UnaryC, ParenC, CWorld}
use Rattle.lua_goes.specs.LuaSlotsSlots.{Slot, Activation, Slots, cut}
use Rattle.lua_goes.specs.LuaSlotsPoints.{WhileTurnS, RepeatTurnS, SFrame, First, DecideNext, OperandNext, OperateNow, UnaryNow, BlockEnd, Point, Gives, Evals, Starts, Now}
use Rattle.lua_goes.specs.LuaSlotsErrors.{choose, gives}
use Rattle.lua_goes.specs.LuaSlotsStatements.{within as within_block, branches}
use Rattle.lua_goes.specs.LuaSlotsMoves.{moves}
use Rattle.lua_goes.specs.LuaSlotsOperators as operators
use Rattle.lua_flat.specs.Operations.{Operand, Op, TestF, CompareF, FlatFunction, Codes}
use Rattle.lua_flat.specs.Registers.{operand}
use Rattle.lua_flat.specs.Does.{Landing, at_place, is_so, place_if, becomes}
use Rattle.lua_flat.specs.Flat.{Act, Flat, FNodes, FNow}
use Rattle.lua_flat.specs.Moves.{landed, goes_on, does, flat_moves}
use Rattle.lua_flat.specs.IsExpression.{Has, HasAt, in_place, made, IsTest, test_true, test_miss, test_hit, compare_miss, compare_hit, test_and, test_or, test_not, test_paren}
use Rattle.lua_flat.specs.Locals.{Local, local_of, with_row}
use Rattle.lua_flat.specs.IsStatement.{IsJoin, IsBlock, block_end, block_pays, block_declares, block_names, block_then, IsArms, arms_end, arms_else, arm_then}
use Rattle.lua_flat.specs.Keeps.{Keeps, Tidy}
use Rattle.lua_flat.specs.WaitsStatement.{Resumes, resume_jump, Finishes, finish_block, StatTakes, take_branch, take_while, take_repeat}
use Rattle.lua_flat.specs.WaitsExpression.{IsFork, to_miss, to_hit, wait_compared, wait_compare, wait_test, in_register, Takes, take_first, take_not, take_and, take_or, take_stat}
use Rattle.lua_flat.specs.Stands.{erased, in_tree, in_code, constants_in, Within, await_compare, at_test, at_block, at_end_of_statement, at_while, at_repeat}
use Rattle.lua_flat_laws.specs.Follows.{Follows, follow_free, follow_stands}
use Rattle.lua_flat_laws.proofs.Kept.{moved, code_there, depth_there, variables_there, bounded_there, callers_there}
use Rattle.lua_flat_laws.proofs.Likewise as like
use Rattle.lua_flat_laws.proofs.Unwinds.{unwind_takes}
use Rattle.lua_flat_laws.proofs.Cuts.{variables_length, cuts}
use Rattle.lua_flat_laws.proofs.Meets.{Meets, by_free, by_node, by_operation}
use Rattle.lua_flat_laws.proofs.Acts as acts_of
use Rattle.lua_flat_laws.proofs.Values as values_of

-- TESTS, but for a constant that is always true, which needs no operation
abbrev pub IsPlainTest : {g : FlatFunction} {locals : List Local} {free : ℕ} {e : CExp} {c pc hit ch miss cm : ℕ} → IsTest g locals free e c pc hit ch miss cm → Type 0
IsPlainTest (test_true t) = ⊥
IsPlainTest (test_and x y) = IsPlainTest x × IsPlainTest y
IsPlainTest (test_or x y) = IsPlainTest x × IsPlainTest y
IsPlainTest (test_not x) = IsPlainTest x
IsPlainTest (test_paren x) = IsPlainTest x
IsPlainTest test = Unit {0}

-- the free registers behind a block are above those before
pub block_rises : {g : FlatFunction} {away : Option ℕ} {locals inner : List Local} {free free' c pc c' pc' : ℕ} {b : CBlock} → IsBlock g away locals free b c pc c' pc' inner free' → free ≤ free'
block_rises block_end = omega arith
block_rises (block_pays h k) = block_rises k
block_rises (block_declares {free} {free'} {flags} l e o k) = let n : free + length flags ≤ free' = block_rises k in omega (arith, n)
block_rises (block_names {free} {free'} l o h k) = let n : free + 1 ≤ free' = block_rises k in omega (arith, n)
block_rises (block_then s k) = block_rises k

-- A BLOCK leaves the variables that were there
pub row_extends : (r : ℕ) (flags : List Bool) (locals : List Local) → (news : List Local) × (with_row r flags locals ≡ news ++ locals)
row_extends r [] locals = ([], refl)
row_extends r (b ∷ flags) locals = let k = row_extends (r + 1) flags (local_of b r ∷ locals) in (k.0 ++ local_of b r ∷ [], k.1 ∙ sym (append_assoc k.0 (local_of b r ∷ []) locals))

pub block_extends : {g : FlatFunction} {away : Option ℕ} {locals inner : List Local} {free free' c pc c' pc' : ℕ} {b : CBlock} → IsBlock g away locals free b c pc c' pc' inner free' → (news : List Local) × (inner ≡ news ++ locals)
block_extends block_end = ([], refl)
block_extends (block_pays h k) = block_extends k
block_extends (block_declares {locals} {free} {flags} l e o k) =
    let x = block_extends k in
    let y = row_extends free flags locals in
    (x.0 ++ y.0, x.1 ∙ ap (λ (zs : List Local). x.0 ++ zs) y.1 ∙ sym (append_assoc x.0 y.0 locals))
block_extends (block_names {locals} {free} {boxed} l o h k) = let x = block_extends k in (x.0 ++ local_of boxed free ∷ [], x.1 ∙ sym (append_assoc x.0 (local_of boxed free ∷ []) locals))
block_extends (block_then s k) = block_extends k

module _ (world : CWorld) (codes : Codes) (room : ℕ) (index base : ℕ) (frames : List SFrame) (acts : List Act) (fn : Activation) (fns : List Activation) (g : FlatFunction) (mine theirs : List Slot) (beneath : List SFrame) (regs : List Slot) (top : ℕ) (s : Slots) where
  abbrev at : ℕ → Act
  at pc = record { index = index; pc = pc; base = base; frames = frames }

  abbrev cs : Constants
  cs = constants_in world fn.source

  abbrev tree : Slots
  tree = in_tree (mine ++ theirs) (fn ∷ fns) s

  abbrev flat : ℕ → Flat
  flat pc = in_code (at pc) acts regs top tree

  abbrev There : ℕ → List Local → ℕ → Keeps → Type 0
  There pc locals low keeps = Within world codes regs (at pc) acts fn fns g mine theirs beneath locals low keeps

  -- where it goes on
  abbrev Goes_on : ℕ → List Value → List SFrame → Type 0
  Goes_on pc vs fs = Follows world codes (FNow (flat pc)) (moves world (Gives (Goes vs) fs) tree)

  -- a block of a statement
  enters_block : {away : Option ℕ} {locals inner : List Local} {low free' pc c' pc' end : ℕ} {keeps : Keeps} {b : CBlock} {fs : List SFrame} → There pc locals low keeps → Tidy low locals keeps → IsBlock g away locals low b 0 pc c' pc' inner free' → IsJoin g c' pc' end
      → Resumes cs g (length theirs) beneath away locals low keeps end 0 fs → Follows world codes (FNow (flat pc)) (within_block b fs tree)
  enters_block {away} {locals} {inner} {low} {free'} {pc} {c'} {pc'} {keeps} {fs} w tidy code join r =
      let x = block_extends code in
      let d : length (mine ++ theirs) ≡ length locals + length theirs = length-append mine theirs ∙ ap (λ (n : ℕ). n + length theirs) (variables_length regs base locals mine (variables_there world codes w)) in
      let f : Finishes cs g (length theirs) beneath away inner free' keeps pc' c' (BlockEnd (length (mine ++ theirs)) ∷ fs) =
      subst (λ (zs : List Local). Finishes cs g (length theirs) beneath away zs free' keeps pc' c' (BlockEnd (length (mine ++ theirs)) ∷ fs)) (sym x.1) (finish_block x.0 d (block_rises code) tidy (resume_jump join r)) in
      let left : length (mine ++ theirs) ≤ length locals + length theirs = omega (arith, d) in
      follow_stands (at_block s w tidy left code f)

  -- the branches that are left
  enters_arms : {away : Option ℕ} {locals : List Local} {low pc end : ℕ} {keeps : Keeps} {arms : CArms} {other : Option CBlock} {fs : List SFrame} → There pc locals low keeps → Tidy low locals keeps → IsArms g away locals low arms other 0 pc end
      → Resumes cs g (length theirs) beneath away locals low keeps end 0 fs → Follows world codes (FNow (flat pc)) (branches arms other fs tree)
  enters_arms w tidy (arms_end join) r = follow_stands (at_end_of_statement s w (resume_jump join r))
  enters_arms w tidy (arms_else code join) r = enters_block w tidy code join r
  enters_arms w tidy (arm_then test code join more) r = follow_stands (at_test s w (omega arith) test (take_stat (take_branch tidy code join more r)))

  stat_rises : {locals : List Local} {low pc miss cm : ℕ} {keeps : Keeps} {fs : List SFrame} → StatTakes cs g (length theirs) beneath locals low keeps pc 0 miss cm fs → There pc locals low keeps → (vs : List Value) → is_true (first vs) ≡ true → Goes_on pc vs fs
  stat_rises {pc} (take_branch {b} {arms} {other} {fs} tidy code join more r) w vs t =
      (subst (λ (x : Bool). Follows world codes (FNow (flat pc)) (choose x (within_block b fs tree) (branches arms other fs tree))) (sym t) (enters_block w tidy code join r))
  stat_rises {pc} (take_while {test} {body} {fs} tidy loop r) w vs t =
      (subst (λ (x : Bool). Follows world codes (FNow (flat pc)) (choose x (Now (Starts (WhileTurnS test body) fs) tree) (gives [] fs tree))) (sym t) (follow_stands (at_while s w tidy loop r)))
  stat_rises {pc} (take_repeat {locals} inner {d} {test} {body} {fs} e l1 tidy loop r) w vs t =
      let k = cuts world codes inner locals w e l1 tidy.bounded in
      subst (λ (x : Bool). Follows world codes (FNow (flat pc)) (choose x (gives [] fs (cut d tree)) (Now (Starts (RepeatTurnS body test) fs) (cut d tree)))) (sym t)
      (subst (λ (zs : List Slot). Follows world codes (FNow (flat pc)) (gives [] fs (in_tree zs (fn ∷ fns) s))) (sym k.is) (follow_stands (at_end_of_statement {mine = k.olds} s k.stays r)))

  stat_falls : {locals : List Local} {low pc hit ch : ℕ} {keeps : Keeps} {fs : List SFrame} → StatTakes cs g (length theirs) beneath locals low keeps hit ch pc 0 fs → There pc locals low keeps → (vs : List Value) → is_true (first vs) ≡ false → Goes_on pc vs fs
  stat_falls {pc} (take_branch {b} {arms} {other} {fs} tidy code join more r) w vs t =
      (subst (λ (x : Bool). Follows world codes (FNow (flat pc)) (choose x (within_block b fs tree) (branches arms other fs tree))) (sym t) (enters_arms w tidy more r))
  stat_falls {pc} (take_while {test} {body} {fs} tidy loop r) w vs t =
      (subst (λ (x : Bool). Follows world codes (FNow (flat pc)) (choose x (Now (Starts (WhileTurnS test body) fs) tree) (gives [] fs tree))) (sym t) (follow_stands (at_end_of_statement s w r)))
  stat_falls {pc} (take_repeat {locals} inner {d} {test} {body} {fs} e l1 tidy loop r) w vs t =
      let k = cuts world codes inner locals w e l1 tidy.bounded in
      subst (λ (x : Bool). Follows world codes (FNow (flat pc)) (choose x (gives [] fs (cut d tree)) (Now (Starts (RepeatTurnS body test) fs) (cut d tree)))) (sym t)
      (subst (λ (zs : List Slot). Follows world codes (FNow (flat pc)) (Now (Starts (RepeatTurnS body test) fs) (in_tree zs (fn ∷ fns) s))) (sym k.is) (follow_stands (at_repeat {mine = k.olds} s k.stays tidy loop r)))

  mutual
    pub rises : {locals : List Local} {low pc miss cm : ℕ} {keeps : Keeps} {fs : List SFrame} → There pc locals low keeps → Takes cs g (length theirs) beneath locals low keeps pc 0 miss cm fs → (vs : List Value) → is_true (first vs) ≡ true → Goes_on pc vs fs
    rises w (take_first {fs} k) vs t = follow_free (Gives (Goes (first vs ∷ [])) fs) tree (rises w k (first vs ∷ []) t)
    rises w (take_not {fs} k) vs t = follow_free (Gives (Goes (Truth (not (is_true (first vs))) ∷ [])) fs) tree (falls w k (Truth (not (is_true (first vs))) ∷ []) (ap not t))
    rises {pc} w (take_and {y} {fs} l test k) vs t =
        subst (λ (x : Bool). Follows world codes (FNow (flat pc)) (choose (not x) (gives (first vs ∷ []) fs tree) (Now (Evals y (First ∷ fs)) tree))) (sym t) (follow_stands (at_test s w l test (take_first k)))
    rises {pc} w (take_or {y} {fs} l test k) vs t =
        subst (λ (x : Bool). Follows world codes (FNow (flat pc)) (choose x (gives (first vs ∷ []) fs tree) (Now (Evals y (First ∷ fs)) tree))) (sym t)
        (follow_free (Gives (Goes (first vs ∷ [])) fs) tree (rises w k (first vs ∷ []) t))
    rises w (take_stat k) vs t = stat_rises k w vs t

    pub falls : {locals : List Local} {low pc hit ch : ℕ} {keeps : Keeps} {fs : List SFrame} → There pc locals low keeps → Takes cs g (length theirs) beneath locals low keeps hit ch pc 0 fs → (vs : List Value) → is_true (first vs) ≡ false → Goes_on pc vs fs
    falls w (take_first {fs} k) vs t = follow_free (Gives (Goes (first vs ∷ [])) fs) tree (falls w k (first vs ∷ []) t)
    falls w (take_not {fs} k) vs t = follow_free (Gives (Goes (Truth (not (is_true (first vs))) ∷ [])) fs) tree (rises w k (Truth (not (is_true (first vs))) ∷ []) (ap not t))
    falls {pc} w (take_and {y} {fs} l test k) vs t =
        subst (λ (x : Bool). Follows world codes (FNow (flat pc)) (choose (not x) (gives (first vs ∷ []) fs tree) (Now (Evals y (First ∷ fs)) tree))) (sym t)
        (follow_free (Gives (Goes (first vs ∷ [])) fs) tree (falls w k (first vs ∷ []) t))
    falls {pc} w (take_or {y} {fs} l test k) vs t =
        subst (λ (x : Bool). Follows world codes (FNow (flat pc)) (choose x (gives (first vs ∷ []) fs tree) (Now (Evals y (First ∷ fs)) tree))) (sym t) (follow_stands (at_test s w l test (take_first k)))
    falls w (take_stat k) vs t = stat_falls k w vs t

  -- THE PLACE to which a test leads
  pub forks : {locals : List Local} {low pc target hit miss : ℕ} {keeps : Keeps} {fs : List SFrame} {when : Bool} → There pc locals low keeps → IsFork when (pc + 1) target hit miss → Takes cs g (length theirs) beneath locals low keeps hit 0 miss 0 fs → (vs : List Value) (b : Bool) → is_true (first vs) ≡ b
      → Goes_on (place_if (is_so when b) target (pc + 1)) vs fs
  forks {pc} w to_miss k vs true t = rises (moved world codes (pc + 1) w) k vs t
  forks {target} w to_miss k vs false t = falls (moved world codes target w) k vs t
  forks {target} w to_hit k vs true t = rises (moved world codes target w) k vs t
  forks {pc} w to_hit k vs false t = falls (moved world codes (pc + 1) w) k vs t

module _ (world : CWorld) (codes : Codes) (room : ℕ) (index pc base : ℕ) (frames : List SFrame) (acts : List Act) (fn : Activation) (fns : List Activation) (g : FlatFunction) (mine theirs : List Slot) (beneath : List SFrame) (regs : List Slot) (top : ℕ) (s : Slots) where
  abbrev act : Act
  act = record { index = index; pc = pc; base = base; frames = frames }

  abbrev csts : Constants
  csts = constants_in world fn.source

  abbrev trees : Slots → Slots
  trees t = in_tree (mine ++ theirs) (fn ∷ fns) t

  abbrev here : Flat
  here = in_code act acts regs top (trees s)

  abbrev Here : List Local → ℕ → Keeps → Type 0
  Here locals low keeps = Within world codes regs act acts fn fns g mine theirs beneath locals low keeps

  abbrev pub Met : ℕ → Point → Type 0
  Met c p = Meets world codes room here c p (trees s)

  abbrev read_of : Operand → Value
  read_of o = operand csts regs base o

  -- an outcome comes back to a test
  pub comes_to : {locals : List Local} {low target hit miss : ℕ} {keeps : Keeps} {fs : List SFrame} {when : Bool} → Here locals low keeps → (c : ℕ) (op : Op) → Has g pc c op → IsFork when (pc + 1) target hit miss → Takes csts g (length theirs) beneath locals low keeps hit 0 miss 0 fs → (us vs : List Value)
      → becomes op base pc us regs top ≡ at_place (place_if (is_so when (is_true (first vs))) target (pc + 1)) regs top → (t : Slots)
      → Follows world codes (FNow (goes_on codes us act acts (in_code act acts regs top (trees t)))) (moves world (Gives (Goes vs) fs) (trees t))
  comes_to {fs} w c op has fork k us vs same t =
      subst (λ (x : Flat). Follows world codes (FNow x) (moves world (Gives (Goes vs) fs) (trees t)))
      (sym (acts_of.goes_on_at world codes room index pc base frames acts fn fns g mine theirs beneath regs top t c op (code_there world codes w) has us ∙ ap (λ (l : Landing). landed l act acts (erased (trees t))) same))
      (forks world codes room index base frames acts fn fns g mine theirs beneath regs top t w fork k vs (is_true (first vs)) refl)

  next_is : {locals : List Local} {low : ℕ} {keeps : Keeps} → Here locals low keeps → (c : ℕ) (op : Op) → Has g pc c op → flat_moves world codes room here ≡ FNodes c (does codes csts (slice_get g.lines pc) op act acts here)
  next_is w c op has = acts_of.operation_at world codes room index pc base frames acts fn fns g mine theirs beneath regs top s c op (code_there world codes w) has

  pub tests_met : {locals : List Local} {low target hit miss : ℕ} {keeps : Keeps} {fs : List SFrame} {when : Bool} (c : ℕ) (a : Operand) → Here locals low keeps → Has g pc c (TestF when a target) → IsFork when (pc + 1) target hit miss → Takes csts g (length theirs) beneath locals low keeps hit 0 miss 0 fs
      → (vs : List Value) → read_of a ≡ first vs → Met c (Gives (Goes vs) fs)
  tests_met {target} {fs} {when} c a w has fork k vs ea =
      by_operation world codes room here c (Gives (Goes vs) fs) (trees s) (does codes csts (slice_get g.lines pc) (TestF when a target) act acts here) (next_is w c (TestF when a target) has)
      (comes_to w c (TestF when a target) has fork k (read_of a ∷ []) vs (ap (λ (v : Value). at_place (place_if (is_so when (is_true v)) target (pc + 1)) regs top) ea) s)

  pub compares_met : {locals : List Local} {low target hit miss : ℕ} {keeps : Keeps} {fs : List SFrame} {when : Bool} (c line : ℕ) (op : Operator) (a b : Operand) → Here locals low keeps → HasAt g pc c line (CompareF op a b when target) → IsFork when (pc + 1) target hit miss
      → Takes csts g (length theirs) beneath locals low keeps hit 0 miss 0 fs → (u : Value) (vs : List Value) → read_of a ≡ u → read_of b ≡ first vs → Met c (Gives (Goes vs) (OperateNow op u line ∷ fs))
  compares_met {target} {fs} {when} c line op a b w h fork k u vs ea eb =
      by_operation world codes room here c (Gives (Goes vs) (OperateNow op u line ∷ fs)) (trees s) (does codes csts (slice_get g.lines pc) (CompareF op a b when target) act acts here) (next_is w c (CompareF op a b when target) h.0)
      (acts_of.read_both world codes room index pc base frames acts fn fns g mine theirs beneath regs top (λ l x y. operators.operate op x y l [] (erased (trees s))) (operators.operate op u (first vs) (Some line) fs (trees s)) s a b u (first vs) (Some line) ea eb h.1
      (acts_of.operates world codes room index pc base frames acts fn fns g mine theirs beneath regs top w (λ v t. follow_free (Gives (Goes (v ∷ [])) fs) (trees t) (comes_to w c (CompareF op a b when target) h.0 fork k (v ∷ []) (v ∷ []) refl t))
      (λ v t. follow_free (Gives (Jumps (Raised v)) fs) (trees t) (unwind_takes world codes csts g top theirs fn t v (depth_there world codes w) (callers_there world codes w) k mine))
      (λ h' one. await_compare one h.0 fork k) (like.operate fs op u (first vs) (Some line) (trees s)) s))

  -- EACH TEST, down to the operation that stands there
  pub test_meets : {locals : List Local} {free c hit ch miss cm low : ℕ} {e : CExp} {keeps : Keeps} {fs : List SFrame} → Here locals low keeps → low ≤ free → (test : IsTest g locals free e c pc hit ch miss cm) → IsPlainTest test → Takes csts g (length theirs) beneath locals low keeps hit ch miss cm fs
      → Met c (Evals e fs)
  test_meets w l (test_true t) plain k = absurd plain
  test_meets w l (test_miss (made r v) has) plain k = values_of.value_meets world codes room index pc base frames acts fn fns g mine theirs beneath regs top s w (omega (arith, l)) v (in_register l (wait_test has to_miss k))
  test_meets {c} {fs} w l (test_miss {o} (in_place th) has) plain k = values_of.reads world codes room index pc base frames acts fn fns g mine theirs beneath regs top s c w th fs (tests_met (c + 1) o w has to_miss k (read_of o ∷ []) refl)
  test_meets w l (test_hit (made r v) has) plain k = values_of.value_meets world codes room index pc base frames acts fn fns g mine theirs beneath regs top s w (omega (arith, l)) v (in_register l (wait_test has to_hit k))
  test_meets {c} {fs} w l (test_hit {o} (in_place th) has) plain k = values_of.reads world codes room index pc base frames acts fn fns g mine theirs beneath regs top s c w th fs (tests_met (c + 1) o w has to_hit k (read_of o ∷ []) refl)
  test_meets {c} {fs} w l (compare_miss {line} {op} {x} {y} q (made r v) ob h) plain k =
      by_node world codes room here c (Evals (OperateC op x y line) fs) (trees s) (Evals x (OperandNext op y line ∷ fs)) (trees s) refl
      (values_of.value_meets world codes room index pc base frames acts fn fns g mine theirs beneath regs top s w (omega (arith, l)) v (in_register l (wait_compared (omega (arith, l)) (omega arith) q ob h to_miss k)))
  test_meets {c} {fs} w l (compare_miss {line} {op} {x} {y} {a} q (in_place th) (made r v) h) plain k =
      by_node world codes room here c (Evals (OperateC op x y line) fs) (trees s) (Evals x (OperandNext op y line ∷ fs)) (trees s) refl
      (values_of.reads world codes room index pc base frames acts fn fns g mine theirs beneath regs top s (c + 1) w th (OperandNext op y line ∷ fs)
      (by_free world codes room here (c + 1 + 1) (Gives (Goes (read_of a ∷ [])) (OperandNext op y line ∷ fs)) (trees s) (Evals y (OperateNow op (read_of a) line ∷ fs)) (trees s) refl
      (values_of.value_meets world codes room index pc base frames acts fn fns g mine theirs beneath regs top s
      (values_of.keeping world codes room index pc base frames acts fn fns g mine theirs beneath regs top s a (read_of a) refl (values_of.there_below world codes room index pc base frames acts fn fns g mine theirs beneath regs top s w l th) l (omega (arith, r)) w) (omega arith) v
      (in_register (omega arith) (wait_compare l (bounded_there world codes w) q h to_miss k)))))
  test_meets {c} {fs} w l (compare_miss {line} {op} {x} {y} {a} {b} q (in_place th) (in_place th') h) plain k =
      by_node world codes room here c (Evals (OperateC op x y line) fs) (trees s) (Evals x (OperandNext op y line ∷ fs)) (trees s) refl
      (values_of.reads world codes room index pc base frames acts fn fns g mine theirs beneath regs top s (c + 1) w th (OperandNext op y line ∷ fs)
      (by_free world codes room here (c + 1 + 1) (Gives (Goes (read_of a ∷ [])) (OperandNext op y line ∷ fs)) (trees s) (Evals y (OperateNow op (read_of a) line ∷ fs)) (trees s) refl
      (values_of.reads world codes room index pc base frames acts fn fns g mine theirs beneath regs top s (c + 1 + 1) w th' (OperateNow op (read_of a) line ∷ fs) (compares_met (c + 1 + 1 + 1) line op a b w h to_miss k (read_of a) (read_of b ∷ []) refl refl))))
  test_meets {c} {fs} w l (compare_hit {line} {op} {x} {y} q (made r v) ob h) plain k =
      by_node world codes room here c (Evals (OperateC op x y line) fs) (trees s) (Evals x (OperandNext op y line ∷ fs)) (trees s) refl
      (values_of.value_meets world codes room index pc base frames acts fn fns g mine theirs beneath regs top s w (omega (arith, l)) v (in_register l (wait_compared (omega (arith, l)) (omega arith) q ob h to_hit k)))
  test_meets {c} {fs} w l (compare_hit {line} {op} {x} {y} {a} q (in_place th) (made r v) h) plain k =
      by_node world codes room here c (Evals (OperateC op x y line) fs) (trees s) (Evals x (OperandNext op y line ∷ fs)) (trees s) refl
      (values_of.reads world codes room index pc base frames acts fn fns g mine theirs beneath regs top s (c + 1) w th (OperandNext op y line ∷ fs)
      (by_free world codes room here (c + 1 + 1) (Gives (Goes (read_of a ∷ [])) (OperandNext op y line ∷ fs)) (trees s) (Evals y (OperateNow op (read_of a) line ∷ fs)) (trees s) refl
      (values_of.value_meets world codes room index pc base frames acts fn fns g mine theirs beneath regs top s
      (values_of.keeping world codes room index pc base frames acts fn fns g mine theirs beneath regs top s a (read_of a) refl (values_of.there_below world codes room index pc base frames acts fn fns g mine theirs beneath regs top s w l th) l (omega (arith, r)) w) (omega arith) v
      (in_register (omega arith) (wait_compare l (bounded_there world codes w) q h to_hit k)))))
  test_meets {c} {fs} w l (compare_hit {line} {op} {x} {y} {a} {b} q (in_place th) (in_place th') h) plain k =
      by_node world codes room here c (Evals (OperateC op x y line) fs) (trees s) (Evals x (OperandNext op y line ∷ fs)) (trees s) refl
      (values_of.reads world codes room index pc base frames acts fn fns g mine theirs beneath regs top s (c + 1) w th (OperandNext op y line ∷ fs)
      (by_free world codes room here (c + 1 + 1) (Gives (Goes (read_of a ∷ [])) (OperandNext op y line ∷ fs)) (trees s) (Evals y (OperateNow op (read_of a) line ∷ fs)) (trees s) refl
      (values_of.reads world codes room index pc base frames acts fn fns g mine theirs beneath regs top s (c + 1 + 1) w th' (OperateNow op (read_of a) line ∷ fs) (compares_met (c + 1 + 1 + 1) line op a b w h to_hit k (read_of a) (read_of b ∷ []) refl refl))))
  test_meets {c} {fs} w l (test_and {x} {y} tx ty) plain k =
      by_node world codes room here c (Evals (AndC x y) fs) (trees s) (Evals x (DecideNext false y ∷ fs)) (trees s) refl (test_meets w l tx plain.0 (take_and l ty k))
  test_meets {c} {fs} w l (test_or {x} {y} tx ty) plain k =
      by_node world codes room here c (Evals (OrC x y) fs) (trees s) (Evals x (DecideNext true y ∷ fs)) (trees s) refl (test_meets w l tx plain.0 (take_or l ty k))
  test_meets {c} {fs} w l (test_not {line} {x} tx) plain k =
      by_node world codes room here c (Evals (UnaryC sign.Not x line) fs) (trees s) (Evals x (UnaryNow sign.Not line ∷ fs)) (trees s) refl (test_meets w l tx plain (take_not k))
  test_meets {c} {fs} w l (test_paren {x} tx) plain k =
      by_node world codes room here c (Evals (ParenC x) fs) (trees s) (Evals x (First ∷ fs)) (trees s) refl (test_meets w l tx plain (take_first k))

-- STATEMENTS: down their code to the operation that stands there. What comes at the end of a block, a statement or a test is handed in.
use Rattle.std.proofs.Common.{◌≡◌, ℕ, zero, suc, ◌+◌, ◌≤◌, ◌∙◌, Bool, true, false, not, List, [], ◌∷◌, ◌++◌, Option, Some, None, refl, sym, ap, subst, arith, length-append, append_assoc}
use Rattle.std.proofs.lemmas.List.{length-reverse}
use Rattle.std.specs.Prelude.{ℤ, length, reverse, slice_get}
use Rattle.lua_goes.specs.PageRunOutcome.{Goes, Jumps}
use Rattle.lua_goes.specs.LuaHeapProc.{Proc}
use Rattle.lua_goes.specs.LuaHeapHeap.{Heap}
use Rattle.lua_goes.specs.LuaHeapValue.{Value, Number, Text, Truth, is_true}
use Rattle.lua_goes.specs.LuaMeaningValues.{first}
use Rattle.lua_goes.specs.LuaMeaningActs.{Raised, Broke}
use Rattle.lua_flat.specs.LuaMeaningMessages.{no_target as no_target_text}
use Rattle.lua_flat.specs.LuaSyntaxDeclaredUnaryOpTheVariants as sign
use Rattle.lua_goes.specs.LuaSlotsCode.{Reg, Box, Up, Constants, CExp, ConstantC, AndC, OrC, UnaryC, ParenC, CExps, NoC, MoreC, CTarget, PlaceC, EntryC, RefusedC, CStat, CBlock, EndC, DeclareC, ThenC, CArms, CWorld}
use Rattle.lua_goes.specs.LuaSlotsSlots.{Slot, Activation, Slots, with_all, all_opened, with_heap, cut}
use Rattle.lua_goes.specs.LuaSlotsPoints.{STarget, PlaceS, GlobalS, EntryS, WhileTurnS, RepeatTurnS, CountTurnS, EachTurnS, SFrame, First, DecideNext, UnaryNow, MoreNext, TargetKey, TargetNow, AssignNow, SetsNext, DeclareNow, StatsNext, BranchNext, BlockEnd, WhileTest, WhileEnd, TestNext, TestNow, CountFrom, CountEnd, EachValues, EachEnd, ReturnNow, Point, Gives, Evals, Lists, Finds, Sets, Runs, Starts, Move, Now}
use Rattle.lua_goes.specs.LuaSlotsErrors.{node, choose, gives}
use Rattle.lua_goes.specs.LuaSlotsStatements.{with_values, within as within_block, branches, executes}
use Rattle.lua_goes.specs.LuaSlotsMoves.{moves}
use Rattle.lua_flat.specs.Locals.{Local, local_of, with_row}
use Rattle.lua_flat.specs.Operations.{Operand, RegisterO, Wanted, Op, PayF, JumpF, NilsF, OpenF, RefuseF, FlatFunction, Codes}
use Rattle.lua_flat.specs.Registers.{operand, values_at, adjusted, put_slots, put_values}
use Rattle.lua_flat.specs.Flat.{Act, Flat, FlatMove, FNow}
use Rattle.lua_flat.specs.Moves.{landed, goes_on, in_order, does}
use Rattle.lua_flat.specs.Does.{becomes}
use Rattle.lua_flat.specs.IsExpression.{Has, in_place, made, IsExact, exact_none, exact_nils, exact_one, exact_one_nils, exact_dropped, exact_many, exact_more, exact_skips, IsTest, test_true, test_miss, test_hit, compare_miss, compare_hit, test_and, test_or, test_not, test_paren}
use Rattle.lua_flat.specs.IsStatement.{FlatTarget, EntryT, IsJoin, joined, by_jump, by_pay, IsOpening, no_cells, cells, IsTargets, no_target, to_variable, to_entry, IsRefused, refused, behind_variable, behind_entry, IsSets, no_more, one_set, IsVariable, plain_variable, celled_variable, captured_variable, global_variable}
use Rattle.lua_flat.specs.IsStatement.{IsStat, assign_into, assign_variable, assign_entry, assign_many, assign_refused, call_alone, value_alone, do_block, while_loop, repeat_loop, if_arms, if_else, count_loop, count_by_loop, each_loop, return_row, return_one, break_away, IsBlock, block_end, block_pays, block_declares, block_names, block_then, IsArms, arms_end, arms_else, arm_then}
use Rattle.lua_flat.specs.Keeps.{Keeps, AreKept, AllBelow, AllAbove, Bounded, Tidy}
use Rattle.lua_flat.specs.WaitsStatement.{IsFound, found_plain, found_celled, found_captured, found_global, found_entry, AreFound, none_found, one_found, AreSet, none_set, one_set as set_of, IsAssigning, Leaves, IsWhile, IsRepeat, IsCount, IsEach, by_one, by_step}
use Rattle.lua_flat.specs.WaitsStatement.{Resumes, resume_jump, resume_stats, resume_sets, Finishes, finish_block, finish_body, finish_while, finish_repeat, finish_count, finish_each, finish_each_top, StatTakes, take_branch, take_while, take_repeat, row_return, StatExact, exact_declare, exact_assign, exact_each, exact_next}
use Rattle.lua_flat.specs.WaitsStatement.{StatWaits, wait_only_key, wait_only_value, wait_target_key, wait_target_now, wait_refused_key, wait_refused_now, wait_alone, wait_count_from, wait_count_to, wait_count_loaded, wait_count_by}
use Rattle.lua_flat.specs.WaitsExpression.{Waits, wait_last, wait_assign, wait_stat, Lands, in_register, in_variable, land_nothing, RowWaits, row_stat, Takes, take_first, take_not, take_and, take_or, take_stat}
use Rattle.lua_flat.specs.Stands.{erased, in_tree, in_code, constants_in, Within, StandsFor, at_test, at_exact, at_block, at_end_of_statement, at_repeat}
use Rattle.lua_flat_laws.specs.Follows.{Follows, follow_free, follow_stands}
use Rattle.lua_flat_laws.specs.Laws.{in_block, behind_statement, behind_block, has_values, begins_while, begins_repeat, begins_count, begins_each, BlocksAreMoves, in_test, TestsAreMoves}
use Rattle.lua_flat_laws.proofs.Kept.{moved, with_keeps, code_there, depth_there, variables_there, kept_there, bounded_there, room_there, callers_there, locals_below_more, all_below_more}
use Rattle.lua_flat_laws.proofs.Unwinds.{unwind_resumes}
use Rattle.lua_flat_laws.proofs.Meets.{Meets, by_free, by_node, by_operation, by_standing, whole}
use Rattle.lua_flat_laws.proofs.Rows.{keep_values, values_put, adjusted_length}
use Rattle.lua_flat_laws.proofs.Cuts.{variables_length, cuts}
use Rattle.lua_flat_laws.proofs.Enters.{rev_onto, rev_append, with_all_in_order}
use Rattle.lua_flat_laws.proofs.Openings.{plains, plain_order, order_adjusted, row_tidy, plain_opens, cells_open, leaves_row, keep_three}
use Rattle.lua_flat_laws.proofs.Targets.{kept_left, kept_right, kept_both, below_left, below_right, below_both, above_right, all_apart, sets_of}
use Rattle.lua_flat_laws.proofs.Breaks.{break_resumes}
use Rattle.lua_flat_laws.proofs.Acts as acts_of
use Rattle.lua_flat_laws.proofs.Values as values_of
use Rattle.lua_flat_laws.proofs.Lists as lists_of
use Rattle.lua_flat_laws.proofs.Exacts as exacts_of
use Rattle.lua_flat_laws.proofs.Returns as returns_of
use Rattle.lua_flat_laws.proofs.Settings as settings_of
use Rattle.lua_flat_laws.proofs.StatGiven as stat_of
use Rattle.lua_flat_laws.proofs.Tests as tests_of
use Rattle.lua_flat_laws.proofs.Turns as turns_of
use Rattle.lua_flat_laws.proofs.Named as named_of

targets_length : {g : FlatFunction} {locals : List Local} {free c pc c' pc' free' : ℕ} {targets : List CTarget} {ts : List FlatTarget} → IsTargets g locals free targets c ts pc c' pc' free' → length targets ≡ length ts
targets_length no_target = refl
targets_length (to_variable var more) = ap suc (targets_length more)
targets_length (to_entry r v1 v2 more) = ap suc (targets_length more)

append_nothing : (us : List FlatTarget) → us ++ [] ≡ us
append_nothing [] = refl
append_nothing (u ∷ us) = ap (λ (zs : List FlatTarget). u ∷ zs) (append_nothing us)

-- the values of an assignment, and the operations that set its targets
record IsList (g : FlatFunction) (locals : List Local) (row : ℕ) (values : CExps) (c pc c' pc' : ℕ) (all : List FlatTarget) : Type 0 where
  room : row + length all ≤ g.registers
  owed : ℕ
  place : ℕ
  lists : IsExact g locals row values (length all) c pc owed place
  sets : IsSets g (reverse all) (row + length all) owed place c' pc'

module _ (world : CWorld) (codes : Codes) (room : ℕ) (index base : ℕ) (frames : List SFrame) (acts : List Act) (fn : Activation) (fns : List Activation) (g : FlatFunction) (theirs : List Slot) (beneath : List SFrame) (regs : List Slot) (top : ℕ) (s : Slots) where
  abbrev at : ℕ → Act
  at pc = record { index = index; pc = pc; base = base; frames = frames }

  abbrev cs : Constants
  cs = constants_in world fn.source

  abbrev slots : List Slot → Slots
  slots mine = in_tree (mine ++ theirs) (fn ∷ fns) s

  abbrev flat : ℕ → Flat
  flat pc = in_code (at pc) acts regs top (slots [])

  abbrev There : ℕ → List Slot → List Local → ℕ → Keeps → Type 0
  There pc mine locals low keeps = Within world codes regs (at pc) acts fn fns g mine theirs beneath locals low keeps

  abbrev pub Met : ℕ → List Slot → ℕ → Point → Type 0
  Met pc mine c p = Meets world codes room (flat pc) c p (slots mine)

  abbrev read_of : Operand → Value
  read_of o = operand cs regs base o

  abbrev Resuming : Option ℕ → List Local → ℕ → Keeps → ℕ → ℕ → List SFrame → Type 0
  Resuming away locals low keeps pc c fs = Resumes cs g (length theirs) beneath away locals low keeps pc c fs

  abbrev Finishing : Option ℕ → List Local → ℕ → Keeps → ℕ → ℕ → List SFrame → Type 0
  Finishing away locals low keeps pc c fs = Finishes cs g (length theirs) beneath away locals low keeps pc c fs

  -- what is met at an end, with whatever variables there are
  abbrev Ends : List Local → ℕ → Keeps → ℕ → ℕ → List SFrame → Type 0
  Ends locals low keeps pc c fs = (mine : List Slot) (vs : List Value) → There pc mine locals low keeps → Met pc mine c (Gives (Goes vs) fs)

  -- AN OPERATION that gives nothing, and leads to where both stand
  quiet : {pc c q : ℕ} {mine : List Slot} {locals : List Local} {low : ℕ} {keeps : Keeps} (op : Op) (p : Point) → There pc mine locals low keeps → Has g pc c op → does codes cs (slice_get g.lines pc) op (at pc) acts (flat pc) ≡ FNow (goes_on codes [] (at pc) acts (flat pc))
      → landed (becomes op base pc [] regs top) (at pc) acts (erased (slots [])) ≡ flat q → StandsFor world codes (flat q) p (slots mine) → Met pc mine c p
  quiet {pc} {c} {mine} op p w has own goes stands =
      by_standing world codes room (flat pc) c p (slots mine) (does codes cs (slice_get g.lines pc) op (at pc) acts (flat pc)) (acts_of.operation_at world codes room index pc base frames acts fn fns g mine theirs beneath regs top s c op (code_there world codes w) has)
      (subst (λ (x : FlatMove). Follows world codes x (Now p (slots mine))) (sym own)
      (subst (λ (x : Flat). Follows world codes (FNow x) (Now p (slots mine))) (sym (acts_of.goes_on_at world codes room index pc base frames acts fn fns g mine theirs beneath regs top s c op (code_there world codes w) has [] ∙ goes)) (follow_stands stands)))

  joins : {pc c q : ℕ} {mine : List Slot} {locals : List Local} {low : ℕ} {keeps : Keeps} (p : Point) → There pc mine locals low keeps → IsJoin g c pc q → Met q mine 0 p → StandsFor world codes (flat q) p (slots mine) → Met pc mine c p
  joins p w joined met stands = met
  joins {q} p w (by_jump has) met stands = quiet (JumpF q) p w has refl refl stands
  joins p w (by_pay has) met stands = quiet PayF p w has refl refl stands

  -- A BLOCK OF ITS OWN ends
  deep : {pc : ℕ} {mine : List Slot} {locals : List Local} {low : ℕ} {keeps : Keeps} → There pc mine locals low keeps → length (mine ++ theirs) ≡ length locals + length theirs
  deep {mine} {locals} w = length-append mine theirs ∙ ap (λ (n : ℕ). n + length theirs) (variables_length regs base locals mine (variables_there world codes w))

  ends_block : {locals inner : List Local} {low low' d pc c : ℕ} {keeps : Keeps} {fs : List SFrame} (news : List Local) → inner ≡ news ++ locals → d ≡ length locals + length theirs → low' ≤ low → Tidy low' locals keeps → Ends locals low' keeps pc c fs → Ends inner low keeps pc c (BlockEnd d ∷ fs)
  ends_block {locals} {low} {d} {pc} {c} {keeps} {fs} news e ed l tidy ends mine vs w =
      let w' : There pc mine (news ++ locals) low keeps = subst (λ (zs : List Local). There pc mine zs low keeps) e w in
      let k = cuts world codes news locals w' ed l tidy.bounded in
      by_free world codes room (flat pc) c (Gives (Goes vs) (BlockEnd d ∷ fs)) (slots mine) (Gives (Goes []) fs) (slots k.olds) (ap (λ (zs : List Slot). Now (Gives (Goes []) fs) (in_tree zs (fn ∷ fns) s)) k.is) (ends k.olds [] k.stays)

  -- A VARIABLE that is a target
  record Target (locals : List Local) (target : CTarget) (u : FlatTarget) : Type 0 where
    of : STarget
    found : IsFound cs g locals of u []
    finds_it : (mine : List Slot) (more : List CTarget) (before : List STarget) (values : CExps) (fs : List SFrame) → moves world (Finds (target ∷ more) before values fs) (slots mine) ≡ Now (Finds more (before ++ of ∷ []) values fs) (slots mine)

  target_of : {locals : List Local} {target : CTarget} {u : FlatTarget} → IsVariable g locals target u → Target locals target u
  target_of (plain_variable {i} e) = record { of = PlaceS (Reg i); found = found_plain e; finds_it = λ mine more before values fs. refl }
  target_of (celled_variable {i} e) = record { of = PlaceS (Box i); found = found_celled e; finds_it = λ mine more before values fs. refl }
  target_of (captured_variable {i}) = record { of = PlaceS (Up i); found = found_captured; finds_it = λ mine more before values fs. refl }
  target_of (global_variable {x} {line}) = record { of = GlobalS (cs x) line; found = found_global; finds_it = λ mine more before values fs. refl }

  -- A TEST, with what is met where it is true, and where it is false, without an operation: then a step is owed there
  abbrev Truths : Bool → List Local → ℕ → Keeps → ℕ → ℕ → List Slot → List SFrame → Type 0
  Truths b locals low keeps pc c mine fs = 1 ≤ c → (vs : List Value) → is_true (first vs) ≡ b → There pc mine locals low keeps → Met pc mine c (Gives (Goes vs) fs)

  test_goes : {mine : List Slot} {locals : List Local} {free low : ℕ} {keeps : Keeps} {pc c hit ch miss cm : ℕ} {e : CExp} {fs : List SFrame} → There pc mine locals low keeps → low ≤ free → IsTest g locals free e c pc hit ch miss cm → Takes cs g (length theirs) beneath locals low keeps hit ch miss cm fs
      → Truths true locals low keeps hit ch mine fs → Truths false locals low keeps miss cm mine fs → Met pc mine c (Evals e fs)
  test_goes {mine} {pc} {c} {fs} w l (test_true {v} t) k hits misses = by_node world codes room (flat pc) c (Evals (ConstantC v) fs) (slots mine) (Gives (Goes (v ∷ [])) fs) (slots mine) refl (hits (omega arith) (v ∷ []) t w)
  test_goes {mine} {pc} w l (test_miss ob has) k hits misses = tests_of.test_meets world codes room index pc base frames acts fn fns g mine theirs beneath regs top s w l (test_miss ob has) tt k
  test_goes {mine} {pc} w l (test_hit ob has) k hits misses = tests_of.test_meets world codes room index pc base frames acts fn fns g mine theirs beneath regs top s w l (test_hit ob has) tt k
  test_goes {mine} {pc} w l (compare_miss q oa ob h) k hits misses = tests_of.test_meets world codes room index pc base frames acts fn fns g mine theirs beneath regs top s w l (compare_miss q oa ob h) tt k
  test_goes {mine} {pc} w l (compare_hit q oa ob h) k hits misses = tests_of.test_meets world codes room index pc base frames acts fn fns g mine theirs beneath regs top s w l (compare_hit q oa ob h) tt k
  test_goes {mine} {pc} {c} {miss} {cm} {fs} w l (test_and {mid} {cd} {hit} {ch} {x} {y} tx ty) k hits misses =
      by_node world codes room (flat pc) c (Evals (AndC x y) fs) (slots mine) (Evals x (DecideNext false y ∷ fs)) (slots mine) refl
      (test_goes w l tx (take_and l ty k)
      (λ o vs t w'. by_free world codes room (flat mid) cd (Gives (Goes vs) (DecideNext false y ∷ fs)) (slots mine) (Evals y (First ∷ fs)) (slots mine) (ap (λ (b : Bool). choose (not b) (gives (first vs ∷ []) fs (slots mine)) (Now (Evals y (First ∷ fs)) (slots mine))) t)
      (test_goes w' l ty (take_first k) (λ o' us tu wu. by_free world codes room (flat hit) ch (Gives (Goes us) (First ∷ fs)) (slots mine) (Gives (Goes (first us ∷ [])) fs) (slots mine) refl (hits o' (first us ∷ []) tu wu))
      (λ o' us tu wu. by_free world codes room (flat miss) cm (Gives (Goes us) (First ∷ fs)) (slots mine) (Gives (Goes (first us ∷ [])) fs) (slots mine) refl (misses o' (first us ∷ []) tu wu))))
      (λ o vs t w'. by_free world codes room (flat miss) cm (Gives (Goes vs) (DecideNext false y ∷ fs)) (slots mine) (Gives (Goes (first vs ∷ [])) fs) (slots mine) (ap (λ (b : Bool). choose (not b) (gives (first vs ∷ []) fs (slots mine)) (Now (Evals y (First ∷ fs)) (slots mine))) t)
      (misses o (first vs ∷ []) t w')))
  test_goes {mine} {pc} {c} {hit} {ch} {fs} w l (test_or {mid} {cd} {miss} {cm} {x} {y} tx ty) k hits misses =
      by_node world codes room (flat pc) c (Evals (OrC x y) fs) (slots mine) (Evals x (DecideNext true y ∷ fs)) (slots mine) refl
      (test_goes w l tx (take_or l ty k)
      (λ o vs t w'. by_free world codes room (flat hit) ch (Gives (Goes vs) (DecideNext true y ∷ fs)) (slots mine) (Gives (Goes (first vs ∷ [])) fs) (slots mine) (ap (λ (b : Bool). choose b (gives (first vs ∷ []) fs (slots mine)) (Now (Evals y (First ∷ fs)) (slots mine))) t)
      (hits o (first vs ∷ []) t w'))
      (λ o vs t w'. by_free world codes room (flat mid) cd (Gives (Goes vs) (DecideNext true y ∷ fs)) (slots mine) (Evals y (First ∷ fs)) (slots mine) (ap (λ (b : Bool). choose b (gives (first vs ∷ []) fs (slots mine)) (Now (Evals y (First ∷ fs)) (slots mine))) t)
      (test_goes w' l ty (take_first k) (λ o' us tu wu. by_free world codes room (flat hit) ch (Gives (Goes us) (First ∷ fs)) (slots mine) (Gives (Goes (first us ∷ [])) fs) (slots mine) refl (hits o' (first us ∷ []) tu wu))
      (λ o' us tu wu. by_free world codes room (flat miss) cm (Gives (Goes us) (First ∷ fs)) (slots mine) (Gives (Goes (first us ∷ [])) fs) (slots mine) refl (misses o' (first us ∷ []) tu wu)))))
  test_goes {mine} {pc} {c} {hit} {ch} {miss} {cm} {fs} w l (test_not {line} {x} tx) k hits misses =
      by_node world codes room (flat pc) c (Evals (UnaryC sign.Not x line) fs) (slots mine) (Evals x (UnaryNow sign.Not line ∷ fs)) (slots mine) refl
      (test_goes w l tx (take_not k)
      (λ o vs t w'. by_free world codes room (flat miss) cm (Gives (Goes vs) (UnaryNow sign.Not line ∷ fs)) (slots mine) (Gives (Goes (Truth (not (is_true (first vs))) ∷ [])) fs) (slots mine) refl (misses o (Truth (not (is_true (first vs))) ∷ []) (ap not t) w'))
      (λ o vs t w'. by_free world codes room (flat hit) ch (Gives (Goes vs) (UnaryNow sign.Not line ∷ fs)) (slots mine) (Gives (Goes (Truth (not (is_true (first vs))) ∷ [])) fs) (slots mine) refl (hits o (Truth (not (is_true (first vs))) ∷ []) (ap not t) w')))
  test_goes {mine} {pc} {c} {hit} {ch} {miss} {cm} {fs} w l (test_paren {x} tx) k hits misses =
      by_node world codes room (flat pc) c (Evals (ParenC x) fs) (slots mine) (Evals x (First ∷ fs)) (slots mine) refl
      (test_goes w l tx (take_first k) (λ o' us tu wu. by_free world codes room (flat hit) ch (Gives (Goes us) (First ∷ fs)) (slots mine) (Gives (Goes (first us ∷ [])) fs) (slots mine) refl (hits o' (first us ∷ []) tu wu))
      (λ o' us tu wu. by_free world codes room (flat miss) cm (Gives (Goes us) (First ∷ fs)) (slots mine) (Gives (Goes (first us ∷ [])) fs) (slots mine) refl (misses o' (first us ∷ []) tu wu)))

  -- A LIST that a statement takes
  list_more : {pc : ℕ} {mine : List Slot} {locals : List Local} {low r n c pc' c' : ℕ} {e : CExp} {es : CExps} {keeps : Keeps} {fs : List SFrame} → IsExact g locals r (MoreC e es) n c pc c' pc' → There pc mine locals low keeps → low ≤ r → Bounded low locals keeps
      → StatExact cs g (length theirs) beneath locals low keeps pc' c' r n fs → Met pc mine c (Lists (MoreC e es) [] fs)
  list_more {pc} {mine} {locals} {low} {r} {n} {pc'} {c'} {keeps} {fs} code w l b k =
      let first_place : r ≡ r + zero = omega arith in
      let count : n ≡ zero + n = omega arith in
      exacts_of.exact_meets world codes room index pc base frames acts fn fns g mine theirs beneath regs top s {r = r} {before = []} {keeps = keeps} first_place code w (omega arith) l b
      (subst (λ (m : ℕ). StatExact cs g (length theirs) beneath locals low keeps pc' c' r m fs) count k)

  list_goes : {pc : ℕ} {mine : List Slot} {locals : List Local} {low r n c pc' c' : ℕ} {values : CExps} {keeps : Keeps} {fs : List SFrame} → IsExact g locals r values n c pc c' pc' → There pc mine locals low keeps → low ≤ r → Bounded low locals keeps → StatExact cs g (length theirs) beneath locals low keeps pc' c' r n fs
      → ((vs : List Value) → values_at regs (base + r) n ≡ adjusted n vs → There pc' mine locals low keeps → Met pc' mine c' (Gives (Goes vs) fs)) → Met pc mine c (Lists values [] fs)
  list_goes {pc} {mine} {c} {fs} exact_none w l b k given = by_free world codes room (flat pc) c (Lists NoC [] fs) (slots mine) (Gives (Goes []) fs) (slots mine) refl (given [] refl w)
  list_goes {pc} {mine} {r} {c} {fs} (exact_nils {n} has) w l b k given =
      let after : List Slot = put_values (base + r) (adjusted n []) regs in
      let filled : values_at after (base + r) n ≡ adjusted n [] = ap (λ (m : ℕ). values_at after (base + r) m) (sym (adjusted_length n [])) ∙ values_put (adjusted n []) (base + r) regs in
      by_free world codes room (flat pc) c (Lists NoC [] fs) (slots mine) (Gives (Goes []) fs) (slots mine) refl
      (by_standing world codes room (flat pc) c (Gives (Goes []) fs) (slots mine) (does codes cs (slice_get g.lines pc) (NilsF r n) (at pc) acts (flat pc)) (acts_of.operation_at world codes room index pc base frames acts fn fns g mine theirs beneath regs top s c (NilsF r n) (code_there world codes w) has)
      (subst (λ (x : Flat). Follows world codes (FNow x) (Now (Gives (Goes []) fs) (slots mine))) (sym (acts_of.goes_on_at world codes room index pc base frames acts fn fns g mine theirs beneath regs top s c (NilsF r n) (code_there world codes w) has []))
      (follow_stands (at_exact s (moved world codes (pc + 1) (keep_values world codes (adjusted n []) regs (base + r) (omega (arith, l)) w)) filled k))))
  list_goes (exact_one l v) w lr b k given = list_more (exact_one l v) w lr b k
  list_goes (exact_one_nils l v has) w lr b k given = list_more (exact_one_nils l v has) w lr b k
  list_goes (exact_dropped l v) w lr b k given = list_more (exact_dropped l v) w lr b k
  list_goes (exact_many l m) w lr b k given = list_more (exact_many l m) w lr b k
  list_goes (exact_more l v more) w lr b k given = list_more (exact_more l v more) w lr b k
  list_goes (exact_skips l v more) w lr b k given = list_more (exact_skips l v more) w lr b k

  -- NEW VARIABLES whose values are there, in front of a block
  opens_goes : {pc : ℕ} {mine : List Slot} {locals inner : List Local} {low r after c c1 pc1 c' pc' free' : ℕ} {keeps : Keeps} {away : Option ℕ} {flags : List Bool} {b : CBlock} {fs : List SFrame} → IsOpening g flags r c pc c1 pc1 → low ≤ r → r + length flags ≡ after → after ≤ g.registers
      → IsBlock g away (with_row r flags locals) after b c1 pc1 c' pc' inner free' → Finishing away inner free' keeps pc' c' fs → There pc mine locals low keeps → Tidy low locals keeps → Leaves (length locals + length theirs) fs → (vs : List Value) → values_at regs (base + r) (length flags) ≡ adjusted (length flags) vs
      → ((here : List Slot) → There pc1 here (with_row r flags locals) after keeps → Tidy after (with_row r flags locals) keeps → Leaves (length (with_row r flags locals) + length theirs) fs → Met pc1 here c1 (Runs b fs)) → Meets world codes room (flat pc) c (Runs b fs) (all_opened flags vs (slots mine))
  opens_goes {pc} {mine} {locals} {low} {r} {after} {c} {keeps} {flags} {b} {fs} (no_cells none) l ea room_left code f w tidy left vs ev again =
      let here : List Slot = rev_onto (plains (adjusted (length flags) vs)) mine in
      let opened : with_all flags vs (s.heap, mine ++ theirs) ≡ (s.heap, here ++ theirs) =
      with_all_in_order flags vs s.heap (mine ++ theirs) ∙ ap (λ (x : Heap Proc × List Slot). (x.0, rev_onto x.1 (mine ++ theirs))) (plain_order flags vs s.heap none) ∙ ap (λ (xs : List Slot). (s.heap, xs)) (rev_append (plains (adjusted (length flags) vs)) mine theirs) in
      subst (λ (x : Heap Proc × List Slot). Meets world codes room (flat pc) c (Runs b fs) (record (slots mine) { heap = x.0; regs = x.1 })) (sym opened)
      (again here (subst (λ (n : ℕ). There pc here (with_row r flags locals) n keeps) ea (plain_opens world codes r flags vs w tidy l (omega (arith, ea, room_left)) none ev)) (subst (λ (n : ℕ). Tidy n (with_row r flags locals) keeps) ea (row_tidy low r flags locals keeps l tidy))
      (leaves_row r (length theirs) flags locals fs left))
  opens_goes {pc} {mine} {locals} {low} {r} {after} {c} {keeps} {flags} {b} {fs} (cells some has) l ea room_left code f w tidy left vs ev again =
      let x : Heap Proc × List Slot = in_order flags vs s.heap in
      let here : List Slot = rev_onto x.1 mine in
      let regs' : List Slot = put_slots (base + r) x.1 regs in
      let opened : with_all flags vs (s.heap, mine ++ theirs) ≡ (x.0, here ++ theirs) = with_all_in_order flags vs s.heap (mine ++ theirs) ∙ ap (λ (xs : List Slot). (x.0, xs)) (rev_append x.1 mine theirs) in
      let same : in_order flags (values_at regs (base + r) (length flags)) s.heap ≡ x = ap (λ (us : List Value). in_order flags us s.heap) ev ∙ order_adjusted flags vs s.heap in
      let now : Flat = in_code (at (pc + 1)) acts regs' top (in_tree (here ++ theirs) (fn ∷ fns) (with_heap x.0 s)) in
      let there : Within world codes regs' (at pc) acts fn fns g here theirs beneath (with_row r flags locals) after keeps =
      subst (λ (n : ℕ). Within world codes regs' (at pc) acts fn fns g here theirs beneath (with_row r flags locals) n keeps) ea (cells_open world codes r flags vs s.heap w tidy l (omega (arith, ea, room_left))) in
      by_standing world codes room (flat pc) c (Runs b fs) (all_opened flags vs (slots mine)) (does codes cs (slice_get g.lines pc) (OpenF r flags) (at pc) acts (flat pc))
      (acts_of.operation_at world codes room index pc base frames acts fn fns g mine theirs beneath regs top s c (OpenF r flags) (code_there world codes w) has)
      (subst (λ (y : Heap Proc × List Slot). Follows world codes (FNow (in_code (at (pc + 1)) acts (put_slots (base + r) y.1 regs) top (in_tree [] (fn ∷ fns) (with_heap y.0 s)))) (Now (Runs b fs) (all_opened flags vs (slots mine)))) (sym same)
      (subst (λ (y : Heap Proc × List Slot). Follows world codes (FNow now) (Now (Runs b fs) (record (slots mine) { heap = y.0; regs = y.1 }))) (sym opened)
      (follow_stands (at_block {a = at (pc + 1)} {mine = here} {regs = regs'} (with_heap x.0 s) (moved world codes (pc + 1) there) (subst (λ (n : ℕ). Tidy n (with_row r flags locals) keeps) ea (row_tidy low r flags locals keeps l tidy)) (leaves_row r (length theirs) flags locals fs left) code f))))

  -- where the branches of an `if` lead
  record Leads (pc : ℕ) (mine : List Slot) (c : ℕ) (mv : Move) : Type 0 where
    point : Point
    is : mv ≡ Now point (slots mine)
    met : Met pc mine c point

  -- a block of a statement
  own_left : {pc : ℕ} {mine : List Slot} {locals : List Local} {low : ℕ} {keeps : Keeps} → There pc mine locals low keeps → length (mine ++ theirs) ≤ length locals + length theirs
  own_left w = let n = deep w in omega (arith, n)

  inside_of : {pc : ℕ} {mine : List Slot} {locals inner : List Local} {low c c' pc' free' : ℕ} {keeps : Keeps} {away : Option ℕ} {b : CBlock} {fs : List SFrame} → IsBlock g away locals low b c pc c' pc' inner free' → Resuming away locals low keeps pc' c' fs → Ends locals low keeps pc' c' fs → There pc mine locals low keeps
      → Tidy low locals keeps
      → (Leaves (length locals + length theirs) (BlockEnd (length (mine ++ theirs)) ∷ fs) → Finishing away inner free' keeps pc' c' (BlockEnd (length (mine ++ theirs)) ∷ fs) → Ends inner free' keeps pc' c' (BlockEnd (length (mine ++ theirs)) ∷ fs) → Met pc mine c (Runs b (BlockEnd (length (mine ++ theirs)) ∷ fs)))
      → Met pc mine c (Runs b (BlockEnd (length (mine ++ theirs)) ∷ fs))
  inside_of {mine} {c'} {pc'} {free'} {keeps} {away} {fs} code r ends w tidy again =
      let x = tests_of.block_extends code in
      again (own_left w) (subst (λ (zs : List Local). Finishing away zs free' keeps pc' c' (BlockEnd (length (mine ++ theirs)) ∷ fs)) (sym x.1) (finish_block x.0 (deep w) (tests_of.block_rises code) tidy r)) (ends_block x.0 x.1 (deep w) (tests_of.block_rises code) tidy ends)

  -- an assignment to one target evaluates its value
  assigns_value : {pc : ℕ} (mine : List Slot) {c : ℕ} (target : CTarget) (of : STarget) (x : CExp) (fs : List SFrame) → moves world (Finds (target ∷ []) [] (MoreC x NoC) fs) (slots mine) ≡ Now (Finds [] (of ∷ []) (MoreC x NoC) fs) (slots mine) → Met pc mine c (Evals x (MoreNext NoC [] ∷ AssignNow (of ∷ []) ∷ fs))
      → Met pc mine c (Finds (target ∷ []) [] (MoreC x NoC) fs)
  assigns_value {pc} mine {c} target of x fs is met =
      by_free world codes room (flat pc) c (Finds (target ∷ []) [] (MoreC x NoC) fs) (slots mine) (Finds [] (of ∷ []) (MoreC x NoC) fs) (slots mine) is
      (by_free world codes room (flat pc) c (Finds [] (of ∷ []) (MoreC x NoC) fs) (slots mine) (Lists (MoreC x NoC) [] (AssignNow (of ∷ []) ∷ fs)) (slots mine) refl
      (by_free world codes room (flat pc) c (Lists (MoreC x NoC) [] (AssignNow (of ∷ []) ∷ fs)) (slots mine) (Evals x (MoreNext NoC [] ∷ AssignNow (of ∷ []) ∷ fs)) (slots mine) refl met))

  -- two ways come together behind a block of a statement
  joined_ends : {locals : List Local} {low pc c end : ℕ} {keeps : Keeps} {away : Option ℕ} {fs : List SFrame} → IsJoin g c pc end → Resuming away locals low keeps end 0 fs → Ends locals low keeps end 0 fs → Ends locals low keeps pc c fs
  joined_ends {end} {fs} join r ends mine vs w = joins (Gives (Goes vs) fs) w join (ends mine vs (moved world codes end w)) (at_end_of_statement s (moved world codes end w) r)

  -- WHAT IS STILL TO BE SET of an assignment
  sets_goes : {mine : List Slot} {locals : List Local} {r pc low low' n c pc' c' : ℕ} {k keeps : Keeps} {away : Option ℕ} {ps : List (STarget × Value)} {us : List FlatTarget} {fs : List SFrame} → AreSet cs g locals r ps us k → IsSets g us n c pc c' pc' → n ≡ r + length us → There pc mine locals low (k ++ keeps)
      → low' ≤ low → Tidy low' locals keeps → AllAbove low' k → Resuming away locals low' keeps pc' c' fs → Ends locals low' keeps pc' c' fs → Met pc mine c (Sets ps fs)
  sets_goes {mine} {pc} {low'} {c} {fs} none_set no_more e w l tidy above r ends =
      let room_left : low' ≤ g.registers = let n = room_there world codes w in omega (arith, l, n) in
      by_free world codes room (flat pc) c (Sets [] fs) (slots mine) (Gives (Goes []) fs) (slots mine) refl (ends mine [] (with_keeps world codes (kept_there world codes w) tidy.bounded room_left w))
  sets_goes {mine} {locals} {r} {pc} {low} {low'} {c} {pc'} {c'} {keeps} (set_of {v} {us} {k = k1} {keeps = k2} found more) (one_set {from} setting sets) e w l tidy above resumes ends =
      let there = kept_there world codes w in
      let bound = bounded_there world codes w in
      let count : from + 1 ≡ r + suc (length us) = e in
      let from_is : from ≡ r + length us = omega (arith, count) in
      let assoc : (k1 ++ k2) ++ keeps ≡ k1 ++ (k2 ++ keeps) = append_assoc k1 k2 keeps in
      let kept : AreKept cs regs base (k1 ++ (k2 ++ keeps)) = subst (λ (ks : Keeps). AreKept cs regs base ks) assoc there.1 in
      let below : AllBelow low (k1 ++ (k2 ++ keeps)) = subst (λ (ks : Keeps). AllBelow low ks) assoc bound.keeps_below.1 in
      let others : AllAbove low' k2 = above_right low' k1 k2 above.1 in
      let small : There pc mine locals low (k2 ++ keeps) = with_keeps world codes (kept_right cs regs base k1 (k2 ++ keeps) kept) (record { locals_below = bound.locals_below; keeps_below = below_right low k1 (k2 ++ keeps) below }) (room_there world codes w) w in
      settings_of.sets_target world codes room index pc base frames acts fn fns g mine theirs beneath regs top s small kept tidy.falling (all_apart low' locals k2 keeps tidy.bounded.locals_below others tidy.apart) found setting
      (resume_sets l tidy others more (subst (λ (m : ℕ). IsSets g us m 0 (pc + 1) c' pc') from_is sets) resumes) v (ap (λ (m : ℕ). read_of (RegisterO m)) from_is ∙ there.0)

  -- AN ASSIGNMENT whose values are there
  assigns : {pc : ℕ} {mine : List Slot} {locals : List Local} {low low' r c pc' c' : ℕ} {k keeps : Keeps} {away : Option ℕ} {ts : List STarget} {us : List FlatTarget} {fs : List SFrame} → low' ≤ low → low ≤ r → r + length us ≤ g.registers → Tidy low' locals keeps → AllAbove low' k → AreFound cs g locals ts us k
      → IsSets g (reverse us) (r + length us) c pc c' pc' → Resuming away locals low' keeps pc' c' fs → Ends locals low' keeps pc' c' fs → (vs : List Value) → There pc mine locals low (k ++ keeps) → values_at regs (base + r) (length us) ≡ adjusted (length us) vs → Met pc mine c (Gives (Goes vs) (AssignNow ts ∷ fs))
  assigns {pc} {mine} {locals} {low} {low'} {r} {c} {k} {keeps} {ts} {us} {fs} l1 l2 room_left tidy above found sets resumes ends vs w ev =
      let there = kept_there world codes w in
      let bound = bounded_there world codes w in
      let x = sets_of cs g locals regs base r (length us) low' vs ev (omega (arith, l1, l2)) found (omega arith) (kept_left cs regs base k keeps there) (all_below_more low r k l2 (below_left low k keeps bound.keeps_below)) above in
      let count : length (reverse us) ≡ length us = length-reverse us in
      let here : There pc mine locals (r + length us) (x.kept ++ keeps) =
      with_keeps world codes (kept_both cs regs base x.kept keeps x.there (kept_right cs regs base k keeps there))
      (record { locals_below = locals_below_more low (r + length us) locals (omega (arith, l2)) bound.locals_below; keeps_below = below_both (r + length us) x.kept keeps x.below (all_below_more low (r + length us) keeps (omega (arith, l2)) (below_right low k keeps bound.keeps_below)) }) room_left w in
      by_free world codes room (flat pc) c (Gives (Goes vs) (AssignNow ts ∷ fs)) (slots mine) (Sets (reverse (with_values ts vs)) fs) (slots mine) refl
      (sets_goes x.are sets (omega (arith, count)) here (omega (arith, l1, l2)) tidy x.above resumes ends)

  -- TARGETS that are found, one after another, and then the values
  finds_goes : {mine : List Slot} {locals : List Local} {pc low low' free row c pc1 c1 pc' c' : ℕ} {k keeps : Keeps} {away : Option ℕ} {targets : List CTarget} {ts : List FlatTarget} {us : List FlatTarget} {values : CExps} {fs : List SFrame} (before : List STarget) → IsTargets g locals free targets c ts pc c1 pc1 row
      → AreFound cs g locals before us k → There pc mine locals low (k ++ keeps) → low' ≤ low → low ≤ free → Tidy low' locals keeps → AllAbove low' k → IsList g locals row values c1 pc1 c' pc' (us ++ ts) → Resuming away locals low' keeps pc' c' fs → Ends locals low' keeps pc' c' fs → Met pc mine c (Finds targets before values fs)
  finds_goes {mine} {locals} {pc} {free} {c} {pc'} {c'} {k} {us} {values} {fs} before no_target found w l1 l2 tidy above list resumes ends =
      let all : IsList g locals free values c pc c' pc' us = subst (λ (zs : List FlatTarget). IsList g locals free values c pc c' pc' zs) (append_nothing us) list in
      by_free world codes room (flat pc) c (Finds [] before values fs) (slots mine) (Lists values [] (AssignNow before ∷ fs)) (slots mine) refl
      (list_goes all.lists w l2 (bounded_there world codes w) (exact_assign {k = k} l1 l2 all.room tidy above found all.sets resumes)
      (λ vs ev w'. assigns {k = k} l1 l2 all.room tidy above found all.sets resumes ends vs w' ev))
  finds_goes {mine} {locals} {pc} {row} {c} {pc1} {c1} {pc'} {c'} {us} {values} {fs} before (to_variable {target} {t} {targets} {ts} var more) found w l1 l2 tidy above list resumes ends =
      let to = target_of var in
      by_free world codes room (flat pc) c (Finds (target ∷ targets) before values fs) (slots mine) (Finds targets (before ++ to.of ∷ []) values fs) (slots mine) (to.finds_it mine targets before values fs)
      (finds_goes (before ++ to.of ∷ []) more (one_found found to.found) w l1 l2 tidy above (subst (λ (zs : List FlatTarget). IsList g locals row values c1 pc1 c' pc' zs) (sym (append_assoc us (t ∷ []) ts)) list) resumes ends)
  finds_goes {mine} {locals} {pc} {free} {row} {c} {pc1} {c1} {pc'} {c'} {k} {us} {values} {fs} before (to_entry {line} {pc2} {of} {key} {targets} {ts} r v1 v2 more) found w l1 l2 tidy above list resumes ends =
      let all : IsList g locals row values c1 pc1 c' pc' ((us ++ EntryT (RegisterO free) (RegisterO (free + 1)) line ∷ []) ++ ts) =
      subst (λ (zs : List FlatTarget). IsList g locals row values c1 pc1 c' pc' zs) (sym (append_assoc us (EntryT (RegisterO free) (RegisterO (free + 1)) line ∷ []) ts)) list in
      let assigning : IsAssigning cs g locals (free + 2) (us ++ EntryT (RegisterO free) (RegisterO (free + 1)) line ∷ []) targets values 0 pc2 c' pc' =
      record { targets = ts; owed = c1; place = pc1; row = row; finds = more; room = all.room; owed_then = all.owed; place_then = all.place; lists = all.lists; sets = all.sets } in
      by_node world codes room (flat pc) c (Finds (EntryC of key line ∷ targets) before values fs) (slots mine) (Evals of (TargetKey key line targets before values ∷ fs)) (slots mine) refl
      (values_of.value_meets world codes room index pc base frames acts fn fns g mine theirs beneath regs top s w (omega (arith, l2)) v1 (in_register l2 (wait_stat (wait_target_key {k = k} l1 l2 r tidy above found v2 assigning resumes))))

  -- A TARGET that can't be assigned to
  refused_goes : {mine : List Slot} {locals there : List Local} {pc low low' free c pc' owed : ℕ} {keeps kept : Keeps} {away : Option ℕ} {targets : List CTarget} {values : CExps} {fs : List SFrame} (before : List STarget) → IsRefused g locals free targets c pc pc' → There pc mine locals low keeps → low ≤ free
      → Resuming away there low' kept pc' owed fs → Met pc mine c (Finds targets before values fs)
  refused_goes {mine} {pc} {c} {values} {fs} before (refused {targets} has) w l resumes =
      by_operation world codes room (flat pc) c (Finds (RefusedC ∷ targets) before values fs) (slots mine) (does codes cs (slice_get g.lines pc) RefuseF (at pc) acts (flat pc)) (acts_of.operation_at world codes room index pc base frames acts fn fns g mine theirs beneath regs top s c RefuseF (code_there world codes w) has)
      (follow_free (Gives (Jumps (Raised (Text no_target_text))) fs) (slots mine) (unwind_resumes world codes cs g top theirs fn s (Text no_target_text) (depth_there world codes w) (callers_there world codes w) resumes mine))
  refused_goes {mine} {pc} {c} {values} {fs} before (behind_variable {target} {targets} var more) w l resumes =
      let to = target_of var in
      by_free world codes room (flat pc) c (Finds (target ∷ targets) before values fs) (slots mine) (Finds targets (before ++ to.of ∷ []) values fs) (slots mine) (to.finds_it mine targets before values fs) (refused_goes (before ++ to.of ∷ []) more w l resumes)
  refused_goes {mine} {pc} {c} {values} {fs} before (behind_entry {line} {of} {key} {targets} r v1 v2 more) w l resumes =
      by_node world codes room (flat pc) c (Finds (EntryC of key line ∷ targets) before values fs) (slots mine) (Evals of (TargetKey key line targets before values ∷ fs)) (slots mine) refl
      (values_of.value_meets world codes room index pc base frames acts fn fns g mine theirs beneath regs top s w (omega (arith, l)) v1 (in_register l (wait_stat (wait_refused_key l r v2 more resumes))))

  mutual
    -- A BLOCK
    pub block_goes : {pc : ℕ} {mine : List Slot} {locals inner : List Local} {low c c' pc' free' : ℕ} {keeps : Keeps} {away : Option ℕ} {b : CBlock} {fs : List SFrame} → IsBlock g away locals low b c pc c' pc' inner free' → Leaves (length locals + length theirs) fs → Finishing away inner free' keeps pc' c' fs
        → Ends inner free' keeps pc' c' fs → There pc mine locals low keeps → Tidy low locals keeps → Met pc mine c (Runs b fs)
    block_goes {pc} {mine} {c} {fs} block_end left f ends w tidy = by_free world codes room (flat pc) c (Runs EndC fs) (slots mine) (Gives (Goes []) fs) (slots mine) refl (ends mine [] w)
    block_goes {pc} {b} {fs} (block_pays has code) left f ends w tidy = quiet PayF (Runs b fs) w has refl refl (at_block s (moved world codes (pc + 1) w) tidy left code f)
    block_goes {pc} {mine} {c} {fs} (block_declares {c1} {pc1} {flags} {values} {b} l list opening code) left f ends w tidy =
        by_node world codes room (flat pc) c (Runs (DeclareC flags values b) fs) (slots mine) (Lists values [] (DeclareNow flags b ∷ fs)) (slots mine) refl
        (list_goes list w (omega arith) tidy.bounded (exact_declare (omega arith) l tidy left opening code f)
        (λ vs ev w'. by_free world codes room (flat pc1) c1 (Gives (Goes vs) (DeclareNow flags b ∷ fs)) (slots mine) (Runs b fs) (all_opened flags vs (slots mine)) refl
        (opens_goes opening (omega arith) refl l code f w' tidy left vs ev (λ here w2 tidy2 left2. block_goes code left2 f ends w2 tidy2))))
    block_goes {pc} {mine} (block_names l origins has code) left f ends w tidy = named_of.named_met world codes room index pc base frames acts fn fns g mine theirs beneath regs top s w tidy left l origins has code f
    block_goes {pc} {mine} {c} {fs} (block_then {c1} {pc1} {s = stat} {b} first_one code) left f ends w tidy =
        stat_goes first_one (resume_stats tidy left code f)
        (λ mine' vs w'. by_free world codes room (flat pc1) c1 (Gives (Goes vs) (StatsNext b ∷ fs)) (slots mine') (Runs b fs) (slots mine') refl (block_goes code left f ends w' tidy)) w tidy (Runs (ThenC stat b) fs) refl

    -- THE BRANCHES of an `if`
    arms_go : {pc : ℕ} {mine : List Slot} {locals : List Local} {low c end : ℕ} {keeps : Keeps} {away : Option ℕ} {arms : CArms} {other : Option CBlock} {fs : List SFrame} → IsArms g away locals low arms other c pc end → Resuming away locals low keeps end 0 fs → Ends locals low keeps end 0 fs
        → There pc mine locals low keeps → Tidy low locals keeps → Leads pc mine c (branches arms other fs (slots mine))
    arms_go {mine} {end} {fs} (arms_end join) r ends w tidy =
        record { point = Gives (Goes []) fs; is = refl; met = joins (Gives (Goes []) fs) w join (ends mine [] (moved world codes end w)) (at_end_of_statement s (moved world codes end w) r) }
    arms_go {mine} {end} {fs} (arms_else {b} code join) r ends w tidy =
        record { point = Runs b (BlockEnd (length (mine ++ theirs)) ∷ fs); is = refl; met = inside_of code (resume_jump join r) (joined_ends join r ends) w tidy (λ left f e. block_goes code left f e w tidy) }
    arms_go {mine} {end} {fs} (arm_then {hit} {ch} {miss} {cm} {test} {b} {arms} {other} tests code join more) r ends w tidy =
        record {
          point = Evals test (BranchNext b arms other ∷ fs);
          is = refl;
          met = test_goes w (omega arith) tests (take_stat (take_branch tidy code join more r))
              (λ o vs t w'. by_free world codes room (flat hit) ch (Gives (Goes vs) (BranchNext b arms other ∷ fs)) (slots mine) (Runs b (BlockEnd (length (mine ++ theirs)) ∷ fs)) (slots mine) (ap (λ (x : Bool). choose x (within_block b fs (slots mine)) (branches arms other fs (slots mine))) t)
              (inside_of code (resume_jump join r) (joined_ends join r ends) w' tidy (λ left f e. block_goes code left f e w' tidy)))
              (λ o vs t w'. let leads = arms_go more r ends w' tidy in
              by_free world codes room (flat miss) cm (Gives (Goes vs) (BranchNext b arms other ∷ fs)) (slots mine) leads.point (slots mine) (ap (λ (x : Bool). choose x (within_block b fs (slots mine)) (branches arms other fs (slots mine))) t ∙ leads.is) leads.met);
        }

    -- A STATEMENT
    stat_goes : {pc : ℕ} {mine : List Slot} {locals : List Local} {low c c' pc' : ℕ} {keeps : Keeps} {away : Option ℕ} {st : CStat} {fs : List SFrame} → IsStat g away locals low st c pc c' pc' → Resuming away locals low keeps pc' c' fs → Ends locals low keeps pc' c' fs
        → There pc mine locals low keeps → Tidy low locals keeps → (p : Point) → moves world p (slots mine) ≡ executes st fs (slots mine) → Met pc mine c p
    stat_goes {pc} {mine} {locals} {low} {c} {pc'} {keeps} {fs} (assign_into {i = n} {r = to} {e = x} e last v) r ends w tidy p is =
        let set : STarget = PlaceS (Reg n) in
        by_node world codes room (flat pc) c p (slots mine) (Finds (PlaceC (Reg n) ∷ []) [] (MoreC x NoC) fs) (slots mine) is
        (assigns_value mine (PlaceC (Reg n)) set x fs refl
        (values_of.value_meets world codes room index pc base frames acts fn fns g mine theirs beneath regs top s w (omega arith) v
        (subst (λ (b : Bool). Lands cs g (length theirs) beneath b false locals low keeps pc' to (MoreNext NoC [] ∷ AssignNow (set ∷ []) ∷ fs)) (sym last) (in_variable tidy e r))))
    stat_goes {pc} {mine} {c} {fs} (assign_variable {e = x} {target} {t} var (made l v) setting) r ends w tidy p is =
        let to = target_of var in
        by_node world codes room (flat pc) c p (slots mine) (Finds (target ∷ []) [] (MoreC x NoC) fs) (slots mine) is
        (assigns_value mine target to.of x fs (to.finds_it mine [] [] (MoreC x NoC) fs)
        (values_of.value_meets world codes room index pc base frames acts fn fns g mine theirs beneath regs top s w (omega arith) v (in_register (omega arith) (wait_assign {k = []} (omega arith) tidy to.found setting r))))
    stat_goes {pc} {mine} {c} {fs} (assign_variable {e = x} {o} {target} {t} var (in_place th) setting) r ends w tidy p is =
        let to = target_of var in
        by_node world codes room (flat pc) c p (slots mine) (Finds (target ∷ []) [] (MoreC x NoC) fs) (slots mine) is
        (assigns_value mine target to.of x fs (to.finds_it mine [] [] (MoreC x NoC) fs)
        (values_of.reads world codes room index pc base frames acts fn fns g mine theirs beneath regs top s (c + 1) w th (MoreNext NoC [] ∷ AssignNow (to.of ∷ []) ∷ fs)
        (settings_of.assigned_met world codes room index pc base frames acts fn fns g mine theirs beneath regs top s {k = []} w (omega arith) tidy to.found setting r (read_of o ∷ []) refl)))
    stat_goes {pc} {mine} {c} {fs} (assign_entry {line} {of = x} {key} {e = y} (made l v) ok oe h) r ends w tidy p is =
        by_node world codes room (flat pc) c p (slots mine) (Finds (EntryC x key line ∷ []) [] (MoreC y NoC) fs) (slots mine) is
        (by_node world codes room (flat pc) (c + 1) (Finds (EntryC x key line ∷ []) [] (MoreC y NoC) fs) (slots mine) (Evals x (TargetKey key line [] [] (MoreC y NoC) ∷ fs)) (slots mine) refl
        (values_of.value_meets world codes room index pc base frames acts fn fns g mine theirs beneath regs top s w (omega arith) v (in_register (omega arith) (wait_stat (wait_only_key tidy (omega arith) (omega arith) ok oe h r)))))
    stat_goes {pc} {mine} {c} {fs} (assign_entry {line} {of = x} {key} {e = y} {a} (in_place th) ok oe h) r ends w tidy p is =
        by_node world codes room (flat pc) c p (slots mine) (Finds (EntryC x key line ∷ []) [] (MoreC y NoC) fs) (slots mine) is
        (by_node world codes room (flat pc) (c + 1) (Finds (EntryC x key line ∷ []) [] (MoreC y NoC) fs) (slots mine) (Evals x (TargetKey key line [] [] (MoreC y NoC) ∷ fs)) (slots mine) refl
        (values_of.reads world codes room index pc base frames acts fn fns g mine theirs beneath regs top s (c + 1 + 1) w th (TargetKey key line [] [] (MoreC y NoC) ∷ fs)
        (stat_of.stat_given world codes room index pc base frames acts fn fns g mine theirs beneath regs top s (read_of a ∷ [])
        (wait_only_key tidy (omega arith) (values_of.there_below world codes room index pc base frames acts fn fns g mine theirs beneath regs top s w (omega arith) th) ok oe h r) w refl tt)))
    stat_goes {pc} {mine} {locals} {c} {c'} {pc'} {fs} (assign_many {c1} {pc1} {free1} {c2} {pc2} {targets} {ts} {es} finds room_left list sets) r ends w tidy p is =
        let count : length targets ≡ length ts = targets_length finds in
        let all : IsList g locals free1 es c1 pc1 c' pc' ts =
        record { room = omega (arith, count, room_left); owed = c2; place = pc2; lists = subst (λ (n : ℕ). IsExact g locals free1 es n c1 pc1 c2 pc2) count list; sets = subst (λ (n : ℕ). IsSets g (reverse ts) (free1 + n) c2 pc2 c' pc') count sets } in
        by_node world codes room (flat pc) c p (slots mine) (Finds targets [] es fs) (slots mine) is (finds_goes {k = []} [] finds none_found w (omega arith) (omega arith) tidy tt all r ends)
    stat_goes {pc} {mine} {c} {fs} (assign_refused {targets} {es} refusal) r ends w tidy p is = by_node world codes room (flat pc) c p (slots mine) (Finds targets [] es fs) (slots mine) is (refused_goes [] refusal w (omega arith) r)
    stat_goes {pc} {mine} {c} {fs} (call_alone {e = x} many) r ends w tidy p is =
        by_node world codes room (flat pc) c p (slots mine) (Evals x fs) (slots mine) is (values_of.many_meets world codes room index pc base frames acts fn fns g mine theirs beneath regs top s w (omega arith) many (land_nothing r))
    stat_goes {pc} {mine} {c} {fs} (value_alone {e = x} l v) r ends w tidy p is =
        by_node world codes room (flat pc) c p (slots mine) (Evals x fs) (slots mine) is (values_of.value_meets world codes room index pc base frames acts fn fns g mine theirs beneath regs top s w (omega arith) v (in_register (omega arith) (wait_stat (wait_alone r))))
    stat_goes {pc} {mine} {c} {fs} (do_block {b} code) r ends w tidy p is =
        by_node world codes room (flat pc) c p (slots mine) (Runs b (BlockEnd (length (mine ++ theirs)) ∷ fs)) (slots mine) is (inside_of code r ends w tidy (λ left f e. block_goes code left f e w tidy))
    stat_goes {pc} {mine} {locals} {low} {c} {fs} (while_loop {locals'} {free'} {hit} {ch} {cb} {pe} {test} {body} has tests code jump) r ends w tidy p is =
        let loop : IsWhile cs g locals low test body (pc + 1) hit ch (pe + 1) = record { owed = cb; back = pe; inner = locals'; behind = free'; tests = tests; inside = code; jumps = jump } in
        by_node world codes room (flat pc) c p (slots mine) (Evals test (WhileTest test body ∷ fs)) (slots mine) is
        (quiet PayF (Evals test (WhileTest test body ∷ fs)) w has refl refl (at_test s (moved world codes (pc + 1) w) (omega arith) tests (take_stat (take_while tidy loop r))))
    stat_goes {pc} {mine} {locals} {low} {c} {fs} (repeat_loop {locals'} {free'} {cb} {pt} {end} {test} {body} has code tests) r ends w tidy p is =
        let loop : IsRepeat cs g locals low body test (pc + 1) end = record { owed = cb; then_tests = pt; inner = locals'; behind = free'; inside = code; tests = tests } in
        by_node world codes room (flat pc) c p (slots mine) (Starts (RepeatTurnS body test) fs) (slots mine) is (quiet PayF (Starts (RepeatTurnS body test) fs) w has refl refl (at_repeat s (moved world codes (pc + 1) w) tidy loop r))
    stat_goes {pc} {mine} {c} {fs} (if_arms code) r ends w tidy p is = let leads = arms_go code r ends w tidy in by_node world codes room (flat pc) c p (slots mine) leads.point (slots mine) (is ∙ ap node leads.is) leads.met
    stat_goes {pc} {mine} {c} {fs} (if_else code) r ends w tidy p is = let leads = arms_go code r ends w tidy in by_node world codes room (flat pc) c p (slots mine) leads.point (slots mine) (is ∙ ap node leads.is) leads.met
    stat_goes {pc} {mine} {locals} {low} {c} {fs} (count_loop {locals'} {free'} {pc2} {line} {cb} {c3} {p3} {pe} {from} {to} {boxed} {body} l vf vt has h opening code goes) r ends w tidy p is =
        let count : IsCount cs g locals low boxed body (pc2 + 2) (pe + 1) = record { room = l; owed = c3; begins = p3; opening = opening; owed_then = cb; back = pe; inner = locals'; behind = free'; inside = code; goes_on = goes; ends = refl } in
        by_node world codes room (flat pc) c p (slots mine) (Evals from (CountFrom boxed to None body line ∷ fs)) (slots mine) is
        (values_of.value_meets world codes room index pc base frames acts fn fns g mine theirs beneath regs top s w (omega arith) vf (in_register (omega arith) (wait_stat (wait_count_from (omega arith) tidy vt (by_one has h count) r))))
    stat_goes {pc} {mine} {locals} {low} {c} {fs} (count_by_loop {locals'} {free'} {pc3} {line} {cb} {c3} {p3} {pe} {from} {to} {by} {boxed} {body} l vf vt vb h opening code goes) r ends w tidy p is =
        let count : IsCount cs g locals low boxed body (pc3 + 1) (pe + 1) = record { room = l; owed = c3; begins = p3; opening = opening; owed_then = cb; back = pe; inner = locals'; behind = free'; inside = code; goes_on = goes; ends = refl } in
        by_node world codes room (flat pc) c p (slots mine) (Evals from (CountFrom boxed to (Some by) body line ∷ fs)) (slots mine) is
        (values_of.value_meets world codes room index pc base frames acts fn fns g mine theirs beneath regs top s w (omega arith) vf (in_register (omega arith) (wait_stat (wait_count_from (omega arith) tidy vt (by_step vb h count) r))))
    stat_goes {pc} {mine} {locals} {low} {c} {fs} (each_loop {locals'} {free'} {pc1} {top = place} {line} {c3} {p3} {cb} {pe} {flags} {values} {body} some l list join calls tests opening code jump) r ends w tidy p is =
        let each : IsEach cs g locals low flags body line place (pe + 1) = record { some = some; room = l; calls = calls; tests = tests; owed = c3; begins = p3; opening = opening; owed_then = cb; back = pe; inner = locals'; behind = free'; inside = code; jumps = jump } in
        by_node world codes room (flat pc) c p (slots mine) (Lists values [] (EachValues flags body line ∷ fs)) (slots mine) is
        (list_goes list w (omega arith) tidy.bounded (exact_each (omega arith) tidy join each r)
        (λ vs ev w'. turns_of.results_given world codes room index pc1 base frames acts fn fns g mine theirs beneath regs top s vs (exact_each (omega arith) tidy join each r) w' ev tt))
    stat_goes {pc} {mine} {locals} {low} {c} {keeps} {fs} (return_row {c1} {pc1} {values} {count} row has) r ends w tidy p is =
        let first_place : low ≡ low + zero = omega arith in
        by_node world codes room (flat pc) c p (slots mine) (Lists values [] (ReturnNow ∷ fs)) (slots mine) is
        (lists_of.row_meets world codes room index pc base frames acts fn fns g mine theirs beneath regs top s {r = low} {before = []} {keeps = keeps} first_place row w (omega arith) (omega arith) tidy.bounded
        (subst (λ (n : Wanted). RowWaits cs g (length theirs) beneath locals low keeps pc1 c1 low n (ReturnNow ∷ fs)) (sym (lists_of.counted_none count)) (row_stat (row_return has r))))
    stat_goes {pc} {mine} {locals} {low} {c} {keeps} {fs} (return_one {pc1} {e = x} (made l v) has) r ends w tidy p is =
        let first_place : low ≡ low + zero = omega arith in
        by_node world codes room (flat pc) c p (slots mine) (Lists (MoreC x NoC) [] (ReturnNow ∷ fs)) (slots mine) is
        (by_free world codes room (flat pc) (c + 1) (Lists (MoreC x NoC) [] (ReturnNow ∷ fs)) (slots mine) (Evals x (MoreNext NoC [] ∷ ReturnNow ∷ fs)) (slots mine) refl
        (values_of.value_meets world codes room index pc base frames acts fn fns g mine theirs beneath regs top s w (omega arith) v
        (in_register (omega arith) (subst (λ (n : ℕ). Waits cs g (length theirs) beneath true locals low keeps pc1 0 (RegisterO n) (MoreNext NoC [] ∷ ReturnNow ∷ fs)) (sym first_place)
        (wait_last {r = low} {before = []} (omega arith) (omega arith) tidy.bounded (row_stat (row_return has r)))))))
    stat_goes {pc} {mine} {c} {fs} (return_one {r = place} {e = x} (in_place th) has) r ends w tidy p is =
        let v : Value = read_of (RegisterO place) in
        by_node world codes room (flat pc) c p (slots mine) (Lists (MoreC x NoC) [] (ReturnNow ∷ fs)) (slots mine) is
        (by_free world codes room (flat pc) (c + 1) (Lists (MoreC x NoC) [] (ReturnNow ∷ fs)) (slots mine) (Evals x (MoreNext NoC [] ∷ ReturnNow ∷ fs)) (slots mine) refl
        (values_of.reads world codes room index pc base frames acts fn fns g mine theirs beneath regs top s (c + 1) w th (MoreNext NoC [] ∷ ReturnNow ∷ fs)
        (by_free world codes room (flat pc) (c + 1 + 1) (Gives (Goes (v ∷ [])) (MoreNext NoC [] ∷ ReturnNow ∷ fs)) (slots mine) (Gives (Goes (v ∷ [])) (ReturnNow ∷ fs)) (slots mine) refl
        (returns_of.row_returns world codes room index pc base frames acts fn fns g mine theirs beneath regs top s (v ∷ []) w refl has r))))
    stat_goes {pc} {mine} {c} {fs} (break_away {target} e has) r ends w tidy p is =
        by_node world codes room (flat pc) c p (slots mine) (Gives (Jumps Broke) fs) (slots mine) is
        (by_operation world codes room (flat pc) (c + 1) (Gives (Jumps Broke) fs) (slots mine) (does codes cs (slice_get g.lines pc) (JumpF target) (at pc) acts (flat pc)) (acts_of.operation_at world codes room index pc base frames acts fn fns g mine theirs beneath regs top s (c + 1) (JumpF target) (code_there world codes w) has)
        (subst (λ (x : Flat). Follows world codes (FNow x) (moves world (Gives (Jumps Broke) fs) (slots mine))) (sym (acts_of.goes_on_at world codes room index pc base frames acts fn fns g mine theirs beneath regs top s (c + 1) (JumpF target) (code_there world codes w) has []))
        (break_resumes world codes index base target frames acts fn fns g theirs beneath regs top s r e mine (moved world codes target w))))

  mutual
    -- A STATEMENT'S END, and a block's
    pub resumes_goes : {locals : List Local} {low pc c : ℕ} {keeps : Keeps} {away : Option ℕ} {fs : List SFrame} → Resuming away locals low keeps pc c fs → Ends locals low keeps pc c fs
    resumes_goes {fs} (resume_jump {end} join r) mine vs w = joins (Gives (Goes vs) fs) w join (resumes_goes r mine vs (moved world codes end w)) (at_end_of_statement s (moved world codes end w) r)
    resumes_goes {pc} {c} (resume_stats {b} {fs} tidy left code f) mine vs w =
        by_free world codes room (flat pc) c (Gives (Goes vs) (StatsNext b ∷ fs)) (slots mine) (Runs b fs) (slots mine) refl (block_goes code left f (finishes_goes f) w tidy)
    resumes_goes {pc} {c} (resume_sets {k} {ps} {fs} l tidy above found sets r) mine vs w =
        by_free world codes room (flat pc) c (Gives (Goes vs) (SetsNext ps ∷ fs)) (slots mine) (Sets ps fs) (slots mine) refl (sets_goes {k = k} found sets refl w l tidy above r (resumes_goes r))

    pub finishes_goes : {locals : List Local} {low pc c : ℕ} {keeps : Keeps} {away : Option ℕ} {fs : List SFrame} → Finishing away locals low keeps pc c fs → Ends locals low keeps pc c fs
    finishes_goes (finish_block inner e l tidy r) mine vs w = ends_block inner refl e l tidy (resumes_goes r) mine vs w
    finishes_goes {pc} {c} (finish_repeat inner {d} {test} {body} {fs} e l tidy loop tests r) mine vs w =
        by_free world codes room (flat pc) c (Gives (Goes vs) (TestNext test d body ∷ fs)) (slots mine) (Evals test (TestNow test d body ∷ fs)) (slots mine) refl
        (test_goes w (omega arith) tests (take_stat (take_repeat inner e l tidy loop r)) (λ o us t w'. absurd (omega (arith, o))) (λ o us t w'. absurd (omega (arith, o))))
    finishes_goes {pc} (finish_body has) mine vs w = turns_of.turn_ends world codes room index pc base frames acts fn fns g mine theirs beneath regs top s vs (finish_body has) w tt
    finishes_goes {pc} (finish_while inner e l tidy loop has r) mine vs w = turns_of.turn_ends world codes room index pc base frames acts fn fns g mine theirs beneath regs top s vs (finish_while inner e l tidy loop has r) w tt
    finishes_goes {pc} (finish_count inner {index = n} {limit} {step} e l1 l2 tidy count has ends r) mine vs w =
        turns_of.turn_ends world codes room index pc base frames acts fn fns g mine theirs beneath regs top s vs (finish_count inner {index = n} {limit = limit} {step = step} e l1 l2 tidy count has ends r) w tt
    finishes_goes {pc} (finish_each inner {f} {state} {before} e l1 l2 tidy each has r) mine vs w =
        turns_of.turn_ends world codes room index pc base frames acts fn fns g mine theirs beneath regs top s vs (finish_each inner {f = f} {state = state} {before = before} e l1 l2 tidy each has r) w tt
    finishes_goes {pc} (finish_each_top inner {f} {state} {before} e l1 l2 tidy each r) mine vs w =
        turns_of.turn_ends world codes room index pc base frames acts fn fns g mine theirs beneath regs top s vs (finish_each_top inner {f = f} {state = state} {before = before} e l1 l2 tidy each r) w tt

  -- A TURN begins
  pub while_begins : {pc c : ℕ} {mine : List Slot} {locals : List Local} {low first_place end : ℕ} {keeps : Keeps} {away : Option ℕ} {test : CExp} {body : CBlock} {fs : List SFrame} → IsWhile cs g locals low test body first_place pc c end → Resuming away locals low keeps end 0 fs
      → There pc mine locals low keeps → Tidy low locals keeps → Met pc mine c (Starts (WhileTurnS test body) fs)
  while_begins {pc} {c} {mine} {locals} {end} {keeps} {test} {body} {fs} loop r w tidy =
      let x = tests_of.block_extends loop.inside in
      let d : ℕ = length (mine ++ theirs) in
      by_node world codes room (flat pc) c (Starts (WhileTurnS test body) fs) (slots mine) (Runs body (WhileEnd d test body ∷ fs)) (slots mine) refl
      (block_goes loop.inside (own_left w) (subst (λ (zs : List Local). Finishing (Some end) zs loop.behind keeps loop.back loop.owed (WhileEnd d test body ∷ fs)) (sym x.1) (finish_while x.0 (deep w) (tests_of.block_rises loop.inside) tidy loop loop.jumps r))
      (λ mine' vs w'. turns_of.turn_ends world codes room index loop.back base frames acts fn fns g mine' theirs beneath regs top s vs (finish_while x.0 (deep w) (tests_of.block_rises loop.inside) tidy loop loop.jumps r)
      (subst (λ (zs : List Local). There loop.back mine' zs loop.behind keeps) x.1 w') tt) w tidy)

  pub repeat_begins : {pc : ℕ} {mine : List Slot} {locals : List Local} {low end : ℕ} {keeps : Keeps} {away : Option ℕ} {test : CExp} {body : CBlock} {fs : List SFrame} → IsRepeat cs g locals low body test pc end → Resuming away locals low keeps end 0 fs
      → There pc mine locals low keeps → Tidy low locals keeps → Met pc mine 0 (Starts (RepeatTurnS body test) fs)
  repeat_begins {pc} {mine} {locals} {end} {keeps} {test} {body} {fs} loop r w tidy =
      let x = tests_of.block_extends loop.inside in
      let d : ℕ = length (mine ++ theirs) in
      let tests : IsTest g (x.0 ++ locals) loop.behind test loop.owed loop.then_tests end 0 pc 0 = subst (λ (zs : List Local). IsTest g zs loop.behind test loop.owed loop.then_tests end 0 pc 0) x.1 loop.tests in
      by_node world codes room (flat pc) 0 (Starts (RepeatTurnS body test) fs) (slots mine) (Runs body (TestNext test d body ∷ fs)) (slots mine) refl
      (block_goes loop.inside (own_left w) (subst (λ (zs : List Local). Finishing (Some end) zs loop.behind keeps loop.then_tests loop.owed (TestNext test d body ∷ fs)) (sym x.1) (finish_repeat x.0 (deep w) (tests_of.block_rises loop.inside) tidy loop tests r))
      (λ mine' vs w'. finishes_goes (finish_repeat x.0 (deep w) (tests_of.block_rises loop.inside) tidy loop tests r) mine' vs (subst (λ (zs : List Local). There loop.then_tests mine' zs loop.behind keeps) x.1 w')) w tidy)

  pub count_begins : {pc : ℕ} {mine : List Slot} {locals : List Local} {low q end : ℕ} {keeps : Keeps} {away : Option ℕ} {boxed : Bool} {n limit step : ℤ} {body : CBlock} {fs : List SFrame} → IsCount cs g locals q boxed body pc end → Resuming away locals low keeps end 0 fs
      → There pc mine locals (q + 4) ((RegisterO (q + 3), Number n) ∷ (RegisterO q, Number n) ∷ (RegisterO (q + 1), Number limit) ∷ (RegisterO (q + 2), Number step) ∷ keeps) → low ≤ q → Tidy low locals keeps → Met pc mine 0 (Starts (CountTurnS boxed n limit step body) fs)
  count_begins {pc} {mine} {locals} {low} {q} {end} {keeps} {boxed} {n} {limit} {step} {body} {fs} count r w l tidy =
      let d : ℕ = length (mine ++ theirs) in
      let three : Keeps = (RegisterO q, Number n) ∷ (RegisterO (q + 1), Number limit) ∷ (RegisterO (q + 2), Number step) ∷ keeps in
      let tidy3 : Tidy (q + 3) locals three = keep_three low q (Number n) (Number limit) (Number step) locals keeps l tidy in
      let kept = kept_there world codes w in
      let room3 : q + 3 ≤ g.registers = let m = count.room in omega (arith, m) in
      let room4 : q + 4 ≤ g.registers = let m = count.room in omega (arith, m) in
      let w3 : There pc mine locals (q + 3) three = with_keeps world codes kept.1 tidy3.bounded room3 w in
      let ev : values_at regs (base + (q + 3)) 1 ≡ adjusted 1 (Number n ∷ []) = ap (λ (v : Value). v ∷ []) kept.0 in
      let x = tests_of.block_extends count.inside in
      let new : List Local = local_of boxed (q + 3) ∷ [] in
      let e : count.inner ≡ (x.0 ++ new) ++ locals = x.1 ∙ sym (append_assoc x.0 new locals) in
      let up : q + 3 ≤ count.behind = let m = tests_of.block_rises count.inside in omega (arith, m) in
      let fin : Finishing (Some end) count.inner count.behind three count.back count.owed_then (CountEnd d boxed n limit step body ∷ fs) =
      subst (λ (zs : List Local). Finishing (Some end) zs count.behind three count.back count.owed_then (CountEnd d boxed n limit step body ∷ fs)) (sym e) (finish_count (x.0 ++ new) {index = n} {limit = limit} {step = step} (deep w) l up tidy count count.goes_on count.ends r) in
      by_node world codes room (flat pc) 0 (Starts (CountTurnS boxed n limit step body) fs) (slots mine) (Runs body (CountEnd d boxed n limit step body ∷ fs)) (all_opened (boxed ∷ []) (Number n ∷ []) (slots mine)) refl
      (opens_goes count.opening (omega arith) (let one : length (boxed ∷ []) ≡ 1 = refl in omega (arith, one)) room4 count.inside fin w3 tidy3 (own_left w) (Number n ∷ []) ev
      (λ here wh th left. block_goes count.inside left fin
      (λ mine' vs w'. turns_of.turn_ends world codes room index count.back base frames acts fn fns g mine' theirs beneath regs top s vs (finish_count (x.0 ++ new) {index = n} {limit = limit} {step = step} (deep w) l up tidy count count.goes_on count.ends r)
      (subst (λ (zs : List Local). There count.back mine' zs count.behind three) e w') tt) wh th))

  pub each_begins : {pc : ℕ} {mine : List Slot} {locals : List Local} {low q line first_place end : ℕ} {keeps : Keeps} {away : Option ℕ} {flags : List Bool} {f state : Value} {results : List Value} {body : CBlock} {fs : List SFrame} → IsEach cs g locals q flags body line first_place end
      → Resuming away locals low keeps end 0 fs → pc ≡ first_place + 2 → There pc mine locals (q + 3) ((RegisterO q, f) ∷ (RegisterO (q + 1), state) ∷ (RegisterO (q + 2), first results) ∷ keeps) → values_at regs (base + q + 3) (length flags) ≡ adjusted (length flags) results → low ≤ q → Tidy low locals keeps
      → Met pc mine 0 (Starts (EachTurnS flags f state results body line) fs)
  each_begins {pc} {mine} {locals} {low} {q} {line} {first_place} {end} {keeps} {flags} {f} {state} {results} {body} {fs} each r place w ev l tidy =
      let d : ℕ = length (mine ++ theirs) in
      let three : Keeps = (RegisterO q, f) ∷ (RegisterO (q + 1), state) ∷ (RegisterO (q + 2), first results) ∷ keeps in
      let tidy3 : Tidy (q + 3) locals three = keep_three low q f state (first results) locals keeps l tidy in
      let room3 : q + 3 + length flags ≤ g.registers = let m = each.room in omega (arith, m) in
      let opening : IsOpening g flags (q + 3) 1 pc each.owed each.begins = subst (λ (m : ℕ). IsOpening g flags (q + 3) 1 m each.owed each.begins) (sym place) each.opening in
      let place_is : base + q + 3 ≡ base + (q + 3) = omega arith in
      let ev' : values_at regs (base + (q + 3)) (length flags) ≡ adjusted (length flags) results = subst (λ (m : ℕ). values_at regs m (length flags) ≡ adjusted (length flags) results) place_is ev in
      let x = tests_of.block_extends each.inside in
      let y = tests_of.row_extends (q + 3) flags locals in
      let e : each.inner ≡ (x.0 ++ y.0) ++ locals = x.1 ∙ ap (λ (zs : List Local). x.0 ++ zs) y.1 ∙ sym (append_assoc x.0 y.0 locals) in
      let up : q + 3 ≤ each.behind = let m = tests_of.block_rises each.inside in omega (arith, m) in
      let fin : Finishing (Some end) each.inner each.behind three each.back each.owed_then (EachEnd d flags f state (first results) body line ∷ fs) =
      subst (λ (zs : List Local). Finishing (Some end) zs each.behind three each.back each.owed_then (EachEnd d flags f state (first results) body line ∷ fs)) (sym e) (finish_each (x.0 ++ y.0) {f = f} {state = state} {before = first results} (deep w) l up tidy each each.jumps r) in
      by_node world codes room (flat pc) 0 (Starts (EachTurnS flags f state results body line) fs) (slots mine) (Runs body (EachEnd d flags f state (first results) body line ∷ fs)) (all_opened flags results (slots mine)) refl
      (opens_goes opening (omega arith) refl room3 each.inside fin w tidy3 (own_left w) results ev'
      (λ here wh th left. block_goes each.inside left fin
      (λ mine' vs w'. turns_of.turn_ends world codes room index each.back base frames acts fn fns g mine' theirs beneath regs top s vs (finish_each (x.0 ++ y.0) {f = f} {state = state} {before = first results} (deep w) l up tidy each each.jumps r)
      (subst (λ (zs : List Local). There each.back mine' zs each.behind three) e w') tt) wh th))

  -- A LIST IS THERE that a statement takes
  pub exact_given : {pc : ℕ} {mine : List Slot} {locals : List Local} {low c r n : ℕ} {keeps : Keeps} {fs : List SFrame} (vs : List Value) → StatExact cs g (length theirs) beneath locals low keeps pc c r n fs → There pc mine locals low keeps → values_at regs (base + r) n ≡ adjusted n vs → Met pc mine c (Gives (Goes vs) fs)
  exact_given {pc} {mine} {c} vs (exact_declare {flags} {b} {fs} l l2 tidy left opening code f) w ev =
      by_free world codes room (flat pc) c (Gives (Goes vs) (DeclareNow flags b ∷ fs)) (slots mine) (Runs b fs) (all_opened flags vs (slots mine)) refl
      (opens_goes opening l refl l2 code f w tidy left vs ev (λ here w2 tidy2 left2. block_goes code left2 f (finishes_goes f) w2 tidy2))
  exact_given vs (exact_assign {k} l1 l2 l3 tidy above found sets r) w ev = assigns {k = k} l1 l2 l3 tidy above found sets r (resumes_goes r) vs w ev
  exact_given {pc} {mine} vs (exact_each l tidy join each r) w ev = turns_of.results_given world codes room index pc base frames acts fn fns g mine theirs beneath regs top s vs (exact_each l tidy join each r) w ev tt
  exact_given {pc} {mine} vs (exact_next {f} {state} l1 l2 tidy each pe r) w ev = turns_of.results_given world codes room index pc base frames acts fn fns g mine theirs beneath regs top s vs (exact_next {f = f} {state = state} l1 l2 tidy each pe r) w ev tt

  -- A VALUE IS THERE that a statement takes
  pub stat_taken : {pc : ℕ} {mine : List Slot} {locals : List Local} {low c : ℕ} {o : Operand} {keeps : Keeps} {fs : List SFrame} (vs : List Value) → StatWaits cs g (length theirs) beneath locals low keeps pc c o fs → There pc mine locals low keeps → read_of o ≡ first vs → Met pc mine c (Gives (Goes vs) fs)
  stat_taken {pc} {mine} vs (wait_only_key tidy l b ok oe h r) w e = stat_of.stat_given world codes room index pc base frames acts fn fns g mine theirs beneath regs top s vs (wait_only_key tidy l b ok oe h r) w e tt
  stat_taken {pc} {mine} vs (wait_only_value {of} l tidy lf b oe h r) w e = stat_of.stat_given world codes room index pc base frames acts fn fns g mine theirs beneath regs top s vs (wait_only_value {of = of} l tidy lf b oe h r) w e tt
  stat_taken {pc} {mine} vs (wait_target_key {k} l1 l2 l3 tidy above found v more r) w e = stat_of.stat_given world codes room index pc base frames acts fn fns g mine theirs beneath regs top s vs (wait_target_key {k = k} l1 l2 l3 tidy above found v more r) w e tt
  stat_taken {pc} {mine} {locals} {low} vs (wait_target_now {low'} {k} {keeps} {q} {line} {of} {before} {more} {values} {fs} l1 l2 l3 l4 tidy above found assigning r) w e =
      let key : Value = first vs in
      let bound = bounded_there world codes w in
      let here : There pc mine locals (q + 2) ((RegisterO (q + 1), key) ∷ (RegisterO q, of) ∷ k ++ keeps) =
      with_keeps world codes (e, kept_there world codes w) (record { locals_below = locals_below_more low (q + 2) locals (omega (arith, l3)) bound.locals_below; keeps_below = (omega arith, (omega arith, all_below_more low (q + 2) (k ++ keeps) (omega (arith, l3)) bound.keeps_below.1)) }) (omega (arith, l4)) w in
      by_free world codes room (flat pc) 0 (Gives (Goes vs) (TargetNow of line more before values ∷ fs)) (slots mine) (Finds more (before ++ EntryS of key line ∷ []) values fs) (slots mine) refl
      (finds_goes {k = (RegisterO (q + 1), key) ∷ (RegisterO q, of) ∷ k} (before ++ EntryS of key line ∷ []) assigning.finds (one_found found (found_entry {of = of} {key = key} {a = RegisterO q} {b = RegisterO (q + 1)} {line = line})) here (omega (arith, l1)) (omega arith) tidy (omega (arith, l1), (l1, above))
      (record { room = assigning.room; owed = assigning.owed_then; place = assigning.place_then; lists = assigning.lists; sets = assigning.sets }) r (resumes_goes r))
  stat_taken {pc} {mine} vs (wait_refused_key l1 l2 v more r) w e = stat_of.stat_given world codes room index pc base frames acts fn fns g mine theirs beneath regs top s vs (wait_refused_key l1 l2 v more r) w e tt
  stat_taken {pc} {mine} vs (wait_refused_now {line} {of} {before} {more} {values} {fs} q l refusal r) w e =
      by_free world codes room (flat pc) 0 (Gives (Goes vs) (TargetNow of line more before values ∷ fs)) (slots mine) (Finds more (before ++ EntryS of (first vs) line ∷ []) values fs) (slots mine) refl (refused_goes (before ++ EntryS of (first vs) line ∷ []) refusal w l r)
  stat_taken {mine} vs (wait_alone r) w e = resumes_goes r mine vs w
  stat_taken {pc} {mine} vs (wait_count_from l tidy v more r) w e = stat_of.stat_given world codes room index pc base frames acts fn fns g mine theirs beneath regs top s vs (wait_count_from l tidy v more r) w e tt
  stat_taken {pc} {mine} vs (wait_count_to {from} l1 l2 tidy more r) w e = stat_of.stat_given world codes room index pc base frames acts fn fns g mine theirs beneath regs top s vs (wait_count_to {from = from} l1 l2 tidy more r) w e tt
  stat_taken {pc} {mine} vs (wait_count_loaded {from} l1 l2 tidy h more r) w e = stat_of.stat_given world codes room index pc base frames acts fn fns g mine theirs beneath regs top s vs (wait_count_loaded {from = from} l1 l2 tidy h more r) w e tt
  stat_taken {pc} {mine} vs (wait_count_by {from} {to} l1 l2 tidy h more r) w e = stat_of.stat_given world codes room index pc base frames acts fn fns g mine theirs beneath regs top s vs (wait_count_by {from = from} {to = to} l1 l2 tidy h more r) w e tt

  -- A TRUTH that a statement takes, where steps are still owed
  stat_true : {pc : ℕ} {mine : List Slot} {locals : List Local} {low c miss cm : ℕ} {keeps : Keeps} {fs : List SFrame} → StatTakes cs g (length theirs) beneath locals low keeps pc c miss cm fs → (vs : List Value) → is_true (first vs) ≡ true → There pc mine locals low keeps → Met pc mine c (Gives (Goes vs) fs)
  stat_true {pc} {mine} {c} (take_branch {b} {arms} {other} {fs} tidy code join more r) vs t w =
      by_free world codes room (flat pc) c (Gives (Goes vs) (BranchNext b arms other ∷ fs)) (slots mine) (Runs b (BlockEnd (length (mine ++ theirs)) ∷ fs)) (slots mine) (ap (λ (x : Bool). choose x (within_block b fs (slots mine)) (branches arms other fs (slots mine))) t)
      (inside_of code (resume_jump join r) (joined_ends join r (resumes_goes r)) w tidy (λ left f e. block_goes code left f e w tidy))
  stat_true {pc} {mine} {c} (take_while {test} {body} {fs} tidy loop r) vs t w =
      by_free world codes room (flat pc) c (Gives (Goes vs) (WhileTest test body ∷ fs)) (slots mine) (Starts (WhileTurnS test body) fs) (slots mine) (ap (λ (x : Bool). choose x (Now (Starts (WhileTurnS test body) fs) (slots mine)) (gives [] fs (slots mine))) t) (while_begins loop r w tidy)
  stat_true {pc} {mine} {c} (take_repeat {locals} inner {d} {test} {body} {fs} e l tidy loop r) vs t w =
      let k = cuts world codes inner locals w e l tidy.bounded in
      by_free world codes room (flat pc) c (Gives (Goes vs) (TestNow test d body ∷ fs)) (slots mine) (Gives (Goes []) fs) (slots k.olds)
      (ap (λ (x : Bool). choose x (gives [] fs (cut d (slots mine))) (Now (Starts (RepeatTurnS body test) fs) (cut d (slots mine)))) t ∙ ap (λ (zs : List Slot). Now (Gives (Goes []) fs) (in_tree zs (fn ∷ fns) s)) k.is) (resumes_goes r k.olds [] k.stays)

  stat_false : {pc : ℕ} {mine : List Slot} {locals : List Local} {low c hit ch : ℕ} {keeps : Keeps} {fs : List SFrame} → StatTakes cs g (length theirs) beneath locals low keeps hit ch pc c fs → (vs : List Value) → is_true (first vs) ≡ false → There pc mine locals low keeps → Met pc mine c (Gives (Goes vs) fs)
  stat_false {pc} {mine} {c} (take_branch {b} {arms} {other} {fs} tidy code join more r) vs t w =
      let leads = arms_go more r (resumes_goes r) w tidy in
      by_free world codes room (flat pc) c (Gives (Goes vs) (BranchNext b arms other ∷ fs)) (slots mine) leads.point (slots mine) (ap (λ (x : Bool). choose x (within_block b fs (slots mine)) (branches arms other fs (slots mine))) t ∙ leads.is) leads.met
  stat_false {pc} {mine} {c} (take_while {test} {body} {fs} tidy loop r) vs t w =
      by_free world codes room (flat pc) c (Gives (Goes vs) (WhileTest test body ∷ fs)) (slots mine) (Gives (Goes []) fs) (slots mine) (ap (λ (x : Bool). choose x (Now (Starts (WhileTurnS test body) fs) (slots mine)) (gives [] fs (slots mine))) t) (resumes_goes r mine [] w)
  stat_false {pc} {mine} {c} (take_repeat {locals} inner {d} {test} {body} {fs} e l tidy loop r) vs t w =
      let k = cuts world codes inner locals w e l tidy.bounded in
      by_free world codes room (flat pc) c (Gives (Goes vs) (TestNow test d body ∷ fs)) (slots mine) (Starts (RepeatTurnS body test) fs) (slots k.olds)
      (ap (λ (x : Bool). choose x (gives [] fs (cut d (slots mine))) (Now (Starts (RepeatTurnS body test) fs) (cut d (slots mine)))) t ∙ ap (λ (zs : List Slot). Now (Starts (RepeatTurnS body test) fs) (in_tree zs (fn ∷ fns) s)) k.is) (repeat_begins loop r k.stays tidy)

  mutual
    takes_true : {hit : ℕ} {mine : List Slot} {locals : List Local} {low ch miss cm : ℕ} {keeps : Keeps} {fs : List SFrame} → Takes cs g (length theirs) beneath locals low keeps hit ch miss cm fs → Truths true locals low keeps hit ch mine fs
    takes_true {hit} {mine} {ch} (take_first {fs} k) o vs t w = by_free world codes room (flat hit) ch (Gives (Goes vs) (First ∷ fs)) (slots mine) (Gives (Goes (first vs ∷ [])) fs) (slots mine) refl (takes_true k o (first vs ∷ []) t w)
    takes_true {hit} {mine} {ch} (take_not {line} {fs} k) o vs t w =
        by_free world codes room (flat hit) ch (Gives (Goes vs) (UnaryNow sign.Not line ∷ fs)) (slots mine) (Gives (Goes (Truth (not (is_true (first vs))) ∷ [])) fs) (slots mine) refl (takes_false k o (Truth (not (is_true (first vs))) ∷ []) (ap not t) w)
    takes_true {hit} {mine} {ch} (take_and {miss} {cm} {hit'} {ch'} {y} {fs} l test k) o vs t w =
        by_free world codes room (flat hit) ch (Gives (Goes vs) (DecideNext false y ∷ fs)) (slots mine) (Evals y (First ∷ fs)) (slots mine) (ap (λ (b : Bool). choose (not b) (gives (first vs ∷ []) fs (slots mine)) (Now (Evals y (First ∷ fs)) (slots mine))) t)
        (test_goes w l test (take_first k) (λ o' us tu wu. by_free world codes room (flat hit') ch' (Gives (Goes us) (First ∷ fs)) (slots mine) (Gives (Goes (first us ∷ [])) fs) (slots mine) refl (takes_true k o' (first us ∷ []) tu wu))
        (λ o' us tu wu. by_free world codes room (flat miss) cm (Gives (Goes us) (First ∷ fs)) (slots mine) (Gives (Goes (first us ∷ [])) fs) (slots mine) refl (takes_false k o' (first us ∷ []) tu wu)))
    takes_true {hit} {mine} {ch} (take_or {y} {fs} l test k) o vs t w =
        by_free world codes room (flat hit) ch (Gives (Goes vs) (DecideNext true y ∷ fs)) (slots mine) (Gives (Goes (first vs ∷ [])) fs) (slots mine) (ap (λ (b : Bool). choose b (gives (first vs ∷ []) fs (slots mine)) (Now (Evals y (First ∷ fs)) (slots mine))) t) (takes_true k o (first vs ∷ []) t w)
    takes_true (take_stat k) o vs t w = stat_true k vs t w

    takes_false : {miss : ℕ} {mine : List Slot} {locals : List Local} {low cm hit ch : ℕ} {keeps : Keeps} {fs : List SFrame} → Takes cs g (length theirs) beneath locals low keeps hit ch miss cm fs → Truths false locals low keeps miss cm mine fs
    takes_false {miss} {mine} {cm} (take_first {fs} k) o vs t w = by_free world codes room (flat miss) cm (Gives (Goes vs) (First ∷ fs)) (slots mine) (Gives (Goes (first vs ∷ [])) fs) (slots mine) refl (takes_false k o (first vs ∷ []) t w)
    takes_false {miss} {mine} {cm} (take_not {line} {fs} k) o vs t w =
        by_free world codes room (flat miss) cm (Gives (Goes vs) (UnaryNow sign.Not line ∷ fs)) (slots mine) (Gives (Goes (Truth (not (is_true (first vs))) ∷ [])) fs) (slots mine) refl (takes_true k o (Truth (not (is_true (first vs))) ∷ []) (ap not t) w)
    takes_false {miss} {mine} {cm} (take_and {y} {fs} l test k) o vs t w =
        by_free world codes room (flat miss) cm (Gives (Goes vs) (DecideNext false y ∷ fs)) (slots mine) (Gives (Goes (first vs ∷ [])) fs) (slots mine) (ap (λ (b : Bool). choose (not b) (gives (first vs ∷ []) fs (slots mine)) (Now (Evals y (First ∷ fs)) (slots mine))) t) (takes_false k o (first vs ∷ []) t w)
    takes_false {miss} {mine} {cm} (take_or {hit} {ch} {miss'} {cm'} {y} {fs} l test k) o vs t w =
        by_free world codes room (flat miss) cm (Gives (Goes vs) (DecideNext true y ∷ fs)) (slots mine) (Evals y (First ∷ fs)) (slots mine) (ap (λ (b : Bool). choose b (gives (first vs ∷ []) fs (slots mine)) (Now (Evals y (First ∷ fs)) (slots mine))) t)
        (test_goes w l test (take_first k) (λ o' us tu wu. by_free world codes room (flat hit) ch (Gives (Goes us) (First ∷ fs)) (slots mine) (Gives (Goes (first us ∷ [])) fs) (slots mine) refl (takes_true k o' (first us ∷ []) tu wu))
        (λ o' us tu wu. by_free world codes room (flat miss') cm' (Gives (Goes us) (First ∷ fs)) (slots mine) (Gives (Goes (first us ∷ [])) fs) (slots mine) refl (takes_false k o' (first us ∷ []) tu wu)))
    takes_false (take_stat k) o vs t w = stat_false k vs t w

  -- A TEST
  pub tests_go : {pc : ℕ} {mine : List Slot} {locals : List Local} {free low : ℕ} {keeps : Keeps} {c hit ch miss cm : ℕ} {e : CExp} {fs : List SFrame} → There pc mine locals low keeps → low ≤ free → IsTest g locals free e c pc hit ch miss cm → Takes cs g (length theirs) beneath locals low keeps hit ch miss cm fs → Met pc mine c (Evals e fs)
  tests_go w l test k = test_goes w l test k (takes_true k) (takes_false k)

pub blocks_are_moves : BlocksAreMoves
blocks_are_moves world codes room f p s (in_block {a} {acts} {fn} {fns} {g} {mine} {theirs} {regs} {beneath} {fs} {top} {b} t w tidy left code k) =
    whole world codes room (flat world codes room a.index a.base a.frames acts fn fns g theirs beneath regs top t a.pc) (Runs b fs) (in_tree (mine ++ theirs) (fn ∷ fns) t)
    (block_goes world codes room a.index a.base a.frames acts fn fns g theirs beneath regs top t code left k (finishes_goes world codes room a.index a.base a.frames acts fn fns g theirs beneath regs top t k) w tidy)
blocks_are_moves world codes room f p s (behind_statement {a} {acts} {fn} {fns} {g} {mine} {theirs} {regs} {beneath} {fs} {top} {vs} t w r) =
    whole world codes room (flat world codes room a.index a.base a.frames acts fn fns g theirs beneath regs top t a.pc) (Gives (Goes vs) fs) (in_tree (mine ++ theirs) (fn ∷ fns) t)
    (resumes_goes world codes room a.index a.base a.frames acts fn fns g theirs beneath regs top t r mine vs w)
blocks_are_moves world codes room f p s (behind_block {a} {acts} {fn} {fns} {g} {mine} {theirs} {regs} {beneath} {fs} {top} {vs} t w k) =
    whole world codes room (flat world codes room a.index a.base a.frames acts fn fns g theirs beneath regs top t a.pc) (Gives (Goes vs) fs) (in_tree (mine ++ theirs) (fn ∷ fns) t)
    (finishes_goes world codes room a.index a.base a.frames acts fn fns g theirs beneath regs top t k mine vs w)
blocks_are_moves world codes room f p s (has_values {a} {acts} {fn} {fns} {g} {mine} {theirs} {regs} {beneath} {fs} {top} {vs} t w e k) =
    whole world codes room (flat world codes room a.index a.base a.frames acts fn fns g theirs beneath regs top t a.pc) (Gives (Goes vs) fs) (in_tree (mine ++ theirs) (fn ∷ fns) t)
    (exact_given world codes room a.index a.base a.frames acts fn fns g theirs beneath regs top t vs k w e)
blocks_are_moves world codes room f p s (begins_while {a} {acts} {fn} {fns} {g} {mine} {theirs} {regs} {beneath} {fs} {top} {test} {body} t w tidy loop r) =
    whole world codes room (flat world codes room a.index a.base a.frames acts fn fns g theirs beneath regs top t a.pc) (Starts (WhileTurnS test body) fs) (in_tree (mine ++ theirs) (fn ∷ fns) t)
    (while_begins world codes room a.index a.base a.frames acts fn fns g theirs beneath regs top t loop r w tidy)
blocks_are_moves world codes room f p s (begins_repeat {a} {acts} {fn} {fns} {g} {mine} {theirs} {regs} {beneath} {fs} {top} {test} {body} t w tidy loop r) =
    whole world codes room (flat world codes room a.index a.base a.frames acts fn fns g theirs beneath regs top t a.pc) (Starts (RepeatTurnS body test) fs) (in_tree (mine ++ theirs) (fn ∷ fns) t)
    (repeat_begins world codes room a.index a.base a.frames acts fn fns g theirs beneath regs top t loop r w tidy)
blocks_are_moves world codes room f p s (begins_count {a} {acts} {fn} {fns} {g} {mine} {theirs} {regs} {beneath} {fs} {top} {boxed} {index} {limit} {step} {body} t w l tidy count r) =
    whole world codes room (flat world codes room a.index a.base a.frames acts fn fns g theirs beneath regs top t a.pc) (Starts (CountTurnS boxed index limit step body) fs) (in_tree (mine ++ theirs) (fn ∷ fns) t)
    (count_begins world codes room a.index a.base a.frames acts fn fns g theirs beneath regs top t count r w l tidy)
blocks_are_moves world codes room f p s (begins_each {a} {acts} {fn} {fns} {g} {mine} {theirs} {regs} {beneath} {fs} {line} {top} {flags} {f = value} {state} {results} {body} t w ev l tidy place each r) =
    whole world codes room (flat world codes room a.index a.base a.frames acts fn fns g theirs beneath regs top t a.pc) (Starts (EachTurnS flags value state results body line) fs) (in_tree (mine ++ theirs) (fn ∷ fns) t)
    (each_begins world codes room a.index a.base a.frames acts fn fns g theirs beneath regs top t each r place w ev l tidy)

pub tests_are_moves : TestsAreMoves
tests_are_moves world codes room f p s (in_test {a} {acts} {fn} {fns} {g} {mine} {theirs} {regs} {beneath} {fs} {top} {e} t w l test k) =
    whole world codes room (flat world codes room a.index a.base a.frames acts fn fns g theirs beneath regs top t a.pc) (Evals e fs) (in_tree (mine ++ theirs) (fn ∷ fns) t)
    (tests_go world codes room a.index a.base a.frames acts fn fns g theirs beneath regs top t w l test k)

-- What corresponds under one map corresponds under another that agrees on what the machine names. Growing maps are a case of this
-- (the set of everything), and maps that are cut down are another (the set itself).
use Rattle.std.proofs.Common.{◌≡◌, ℕ, zero, suc, true, List, [], ◌∷◌, ◌++◌, map, Option, Some, IsTrue, refl, subst, slice_get}
use Rattle.std.specs.List.{flat_map}
use Rattle.lua_slots.specs.LuaSyntaxTree.{Exp}
use Rattle.lua_slots.specs.PageRunOutcome.{Outcome, Jumps}
use Rattle.lua_heap.specs.Proc.{proc_names}
use Rattle.lua_heap.specs.Value.{Value, Table}
use Rattle.lua_heap.specs.Heap.{Ref, cel}
use Rattle.lua_heap.specs.Related.{Map, Grows, Each, none, more, Same, GrowsWith}
use Rattle.lua_heap.specs.Reach.{Set, AllIn, value_names, values_names, LooksAtNames}
use Rattle.lua_heap.proofs.Names.{all-split, all-any}
use Rattle.lua_heap.proofs.Carried.{value-carried, values-carried}
use Rattle.lua_slots.specs.LuaMeaningScope.{Scope, Function}
use Rattle.lua_slots.specs.LuaMeaningActs.{Jump, Thing, LuaRun, Progress, Frame}
use Rattle.lua_library_agree.specs.LuaMeaningParts.{Target}
use Rattle.lua_library_agree.specs.LuaMeaningGsub.{Replacement, replacement_value, Job}
use Rattle.lua_slots.specs.LuaMeaningPending.{Pending}
use Rattle.lua_slots.specs.LuaMeaningTitled.{ByTitle}
use Rattle.lua_slots.specs.Code.{Place, CExp, CWorld}
use Rattle.lua_slots.specs.Sight.{Sight}
use Rattle.lua_slots.specs.Slots.{Activation, newest_function}
use Rattle.lua_slots.specs.Points.{STarget, SThing, SFrame, Point}
use Rattle.lua_library_agree.specs.Same.{SameFrame}
use Rattle.lua_library_agree.specs.SameGsub.{SameReplacement, same_text, same_table, same_function, SameJob, same_job}
use Rattle.lua_agree.specs.Variables.{Var, HasCells, HeldFunction, SameVar, at_reg, at_box, at_up, Inside}
use Rattle.lua_agree.specs.Values.{SameJump, returned, broke, raised, SameOutcome, values_, jumps_, SameTarget, places, globals_, entries_, SameSet, SamePending, pcalls, xpcalls, handlers, to_strings, walks, replacings, modules, SameProgress, running, finished, SameTitled}
use Rattle.lua_agree.specs.Functions.{SameFunction}
use Rattle.lua_agree.specs.Rests.{After, SameRest, SameEnd, at_end, at_first, at_verdict, at_key, at_index, at_decide, at_operand, at_operate, at_unary, at_arguments, at_call, at_method_of, at_method, at_last, at_more, at_last_item, at_item, at_pair, at_pair_value, at_fields, at_items, at_target_key, at_target, at_assign, at_sets, at_declare, at_stats, at_branch, at_return, at_while, at_test, at_count_from, at_count_to, at_count_by, at_each_values, at_each_next, at_library, at_wait, at_hearing, at_module, at_function, at_answer, at_text, at_data, ends_block, ends_body, ends_while, ends_repeat, ends_count, ends_each}
use Rattle.lua_agree.specs.Agree.{SameThing, while_turns, repeat_turns, count_turns, each_turns, bodies, texts_of, libraries, index_links, set_links, call_links, SamePoint, gives, jumps, ends, evaluates, lists, finds, sets, runs, starts, texts, asks, works}
use Rattle.lua_agree.specs.Named.{activation_names, functions_names, target_names, targets_names, set_names, pending_names, frames_names, thing_names, outcome_names, point_names, progress_names, module_names, data_names, run_frame_names}

-- the two parts of what is named
pub split : (S : Set) (xs ys : List Ref) → AllIn S (xs ++ ys) → AllIn S xs × AllIn S ys
split S xs ys a = all-split (λ r. IsTrue (S r)) xs ys a

module _ (m n : Map) (S : Set) (f : (q r : Ref) → m.to q ≡ Some r → IsTrue (S r) → n.to q ≡ Some r) where
  cell-in : (cells : List ℕ) (i r : ℕ) → slice_get cells i ≡ Some r → AllIn S (map cel cells) → IsTrue (S (cel r))
  cell-in [] i r e a = cc
  cell-in (c ∷ cells) zero r e a = let k : c ≡ r = some_back e in subst (λ z. IsTrue (S (cel z))) k a.0
    where
      some_back : {x y : ℕ} → Some x ≡ Some y → x ≡ y
      some_back g = cc
  cell-in (c ∷ cells) (suc i) r e a = cell-in cells i r e a.1

  var-carried : {vars : List Var} {cells : List ℕ} {p : Place} {o : Option ℕ} → SameVar m vars cells p o → AllIn S (map cel cells) → SameVar n vars cells p o
  var-carried (at_reg i c e) a = at_reg i c e
  var-carried (at_box i c e) a = at_box i c e
  var-carried {cells = cells} (at_up i c r e g) a = at_up i c r e (f _ _ g (cell-in cells i r e a))

  held-carried : (cs : List ℕ) → HasCells m cs → AllIn S (map cel cs) → HasCells n cs
  held-carried [] h a = tt
  held-carried (c ∷ cs) h a = ((h.0.0, f _ _ h.0.1 a.0), held-carried cs h.1 a.1)

  function-held : {a : Activation} → HeldFunction m a → AllIn S (activation_names a) → HeldFunction n a
  function-held {a} h i =
      let p = split S (map cel a.cells) (values_names a.dots) i in
      record { cells = held-carried a.cells h.cells p.0; values = h.values; dots = values-carried m n S f _ _ h.dots p.1 }

  -- the newest function is one of them
  newest-in : (fns : List Activation) → AllIn S (functions_names fns) → AllIn S (map cel (newest_function fns).cells) × AllIn S (values_names (newest_function fns).dots)
  newest-in [] j = (tt, tt)
  newest-in (a ∷ fns) j = let p = split S (activation_names a) (functions_names fns) j in split S (map cel a.cells) (values_names a.dots) p.0

  inside-carried : {vars : List Var} {fns : List Activation} {see : Sight} {scope : Scope} → Inside m vars fns see scope → AllIn S (functions_names fns) → Inside n vars fns see scope
  inside-carried {fns = fns} i j =
      let p = newest-in fns j in
      record {
        locals = λ x q e. var-carried (i.locals x q e) p.0;
        globals = i.globals;
        dots = values-carried m n S f _ _ i.dots p.1;
        levels = i.levels;
        source = i.source;
      }

  target-carried : {vars : List Var} {fns : List Activation} {t : Target} {u : STarget} → SameTarget m vars fns t u → AllIn S (target_names u) → AllIn S (functions_names fns) → SameTarget n vars fns t u
  target-carried {fns = fns} (places c p e) i j = places c p (var-carried e (newest-in fns j).0)
  target-carried (globals_ x ls line e) i j = globals_ x ls line e
  target-carried (entries_ a b k l ls line e g h) i j =
      let p = split S (value_names b) (value_names l) i in
      entries_ a b k l ls line (value-carried m n S f a b e p.0) (value-carried m n S f k l g p.1) h

  targets-carried : {vars : List Var} {fns : List Activation} {ts : List Target} {us : List STarget} → Each (SameTarget m vars fns) ts us → AllIn S (targets_names us) → AllIn S (functions_names fns) → Each (SameTarget n vars fns) ts us
  targets-carried none i j = none
  targets-carried (more t u ts us r e) i j = let p = split S (target_names u) (targets_names us) i in more t u ts us (target-carried r p.0 j) (targets-carried e p.1 j)

  sets-carried : {vars : List Var} {fns : List Activation} {ps : List (Target × Value)} {qs : List (STarget × Value)} → Each (SameSet m vars fns) ps qs → AllIn S (flat_map set_names qs) → AllIn S (functions_names fns) → Each (SameSet n vars fns) ps qs
  sets-carried none i j = none
  sets-carried (more x y xs ys r e) i j =
      let p = split S (set_names y) (flat_map set_names ys) i in
      let q = split S (target_names y.0) (value_names y.1) p.0 in
      more x y xs ys (record { target = target-carried r.target q.0 j; value = value-carried m n S f _ _ r.value q.1 }) (sets-carried e p.1 j)

  jump-carried : {j j' : Jump} → SameJump m j j' → AllIn S (outcome_names (Jumps j')) → SameJump n j j'
  jump-carried (returned vs ws e) i = returned vs ws (values-carried m n S f vs ws e i)
  jump-carried broke i = broke
  jump-carried (raised v w e) i = raised v w (value-carried m n S f v w e i)

  outcome-carried : {o o' : Outcome (List Value) Jump} → SameOutcome m o o' → AllIn S (outcome_names o') → SameOutcome n o o'
  outcome-carried (values_ vs ws e) i = values_ vs ws (values-carried m n S f vs ws e i)
  outcome-carried (jumps_ j j' e) i = jumps_ j j' (jump-carried e i)

  replacement-carried : {x y : Replacement} → SameReplacement m x y → AllIn S (value_names (replacement_value y)) → SameReplacement n x y
  replacement-carried (same_text t) i = same_text t
  replacement-carried (same_table a b e) i = same_table a b (value-carried m n S f (Table a) (Table b) e i)
  replacement-carried (same_function v w e) i = same_function v w (value-carried m n S f v w e i)

  job-carried : {x y : Job} → SameJob m x y → AllIn S (value_names (replacement_value y.by)) → SameJob n x y
  job-carried (same_job a t anchored items slots x y e) i = same_job a t anchored items slots x y (replacement-carried e i)

  pending-carried : {p q : Pending} → SamePending m p q → AllIn S (pending_names q) → SamePending n p q
  pending-carried pcalls i = pcalls
  pending-carried (xpcalls h h' e) i = xpcalls h h' (value-carried m n S f h h' e i)
  pending-carried handlers i = handlers
  pending-carried to_strings i = to_strings
  pending-carried walks i = walks
  pending-carried (replacings x y limit far whole e) i = replacings x y limit far whole (job-carried e i)
  pending-carried (modules title) i = modules title

  -- what is kept of the run
  progress-carried : {a b : Progress} → SameProgress m a b → AllIn S (progress_names b) → SameProgress n a b
  progress-carried running i = running
  progress-carried (finished v w e) i = finished v w (value-carried m n S f v w e i)

  pub modules-carried : {xs ys : ByTitle Progress} → Each (SameTitled (SameProgress m)) xs ys → AllIn S (flat_map module_names ys) → Each (SameTitled (SameProgress n)) xs ys
  modules-carried none i = none
  modules-carried (more x y xs ys e es) i =
      let p = split S (module_names y) (flat_map module_names ys) i in more x y xs ys (record { title = e.title; item = progress-carried e.item p.0 }) (modules-carried es p.1)

  pub data-carried : {xs ys : ByTitle Value} → Each (SameTitled (Same m)) xs ys → AllIn S (flat_map data_names ys) → Each (SameTitled (Same n)) xs ys
  data-carried none i = none
  data-carried (more x y xs ys e es) i =
      let p = split S (data_names y) (flat_map data_names ys) i in more x y xs ys (record { title = e.title; item = value-carried m n S f _ _ e.item p.0 }) (data-carried es p.1)

  pub frames-carried : {xs ys : List Frame} → Each (SameFrame m) xs ys → AllIn S (flat_map run_frame_names ys) → Each (SameFrame n) xs ys
  frames-carried none i = none
  frames-carried (more x y xs ys e es) i =
      let p = split S (run_frame_names y) (flat_map run_frame_names ys) i in
      more x y xs ys (record { scene = e.scene; table = value-carried m n S f _ _ e.table p.0; parent = e.parent }) (frames-carried es p.1)

  module _ (code : CWorld) where
    pub function-carried : (a : Function) (b : _) → SameFunction code m a b → AllIn S (proc_names b) → SameFunction code n a b
    function-carried a b s i = record {
      title = s.title;
      see = s.see;
      names = s.names;
      proto = s.proto;
      found = s.found;
      code_ = s.code_;
      cells = λ x k e. var-carried (s.cells x k e) i;
      globals = s.globals;
      has_cells = held-carried b.cells s.has_cells i;
    }

    thing-carried : {vars : List Var} {fns : List Activation} {t : Thing} {u : SThing} → SameThing code m vars fns t u → AllIn S (thing_names u) → AllIn S (functions_names fns) → SameThing code n vars fns t u
    thing-carried (while_turns e c b d see scope x y k) i j = while_turns e c b d see scope x y (inside-carried k j)
    thing-carried (repeat_turns b c e d see scope x k) i j = repeat_turns b c e d see scope x (inside-carried k j)
    thing-carried (count_turns x boxed index limit step b c see scope y k) i j = count_turns x boxed index limit step b c see scope y (inside-carried k j)
    thing-carried (each_turns names flags g h t u vs ws b c line see scope x y k e e' es) i j =
        let p = split S (value_names h) (value_names u ++ values_names ws) i in
        let q = split S (value_names u) (values_names ws) p.1 in
        each_turns names flags g h t u vs ws b c line see scope x y (inside-carried k j) (value-carried m n S f _ _ e p.0) (value-carried m n S f _ _ e' q.0) (values-carried m n S f _ _ es q.1)
    thing-carried (texts_of source b p x) i j = texts_of source b p x
    thing-carried (bodies a b vs ws ls line s es l) i j =
        let p = split S (proc_names b) (values_names ws) i in
        bodies a b vs ws ls line (function-carried a b s p.0) (values-carried m n S f _ _ es p.1) l
    thing-carried (libraries which vs ws ls line es l) i j = libraries which vs ws ls line (values-carried m n S f _ _ es i) l
    thing-carried (index_links a b h h' k l ls line x y z e) i j =
        let p = split S (value_names b) (value_names h' ++ value_names l) i in
        let q = split S (value_names h') (value_names l) p.1 in
        index_links a b h h' k l ls line (value-carried m n S f _ _ x p.0) (value-carried m n S f _ _ y q.0) (value-carried m n S f _ _ z q.1) e
    thing-carried (set_links a b h h' k l v w ls line x y z u e) i j =
        let p = split S (value_names b) (value_names h' ++ (value_names l ++ value_names w)) i in
        let q = split S (value_names h') (value_names l ++ value_names w) p.1 in
        let t = split S (value_names l) (value_names w) q.1 in
        set_links a b h h' k l v w ls line (value-carried m n S f _ _ x p.0) (value-carried m n S f _ _ y q.0) (value-carried m n S f _ _ z t.0) (value-carried m n S f _ _ u t.1) e
    thing-carried (call_links h h' vs ws ls line x es e) i j =
        let p = split S (value_names h') (values_names ws) i in
        call_links h h' vs ws ls line (value-carried m n S f _ _ x p.0) (values-carried m n S f _ _ es p.1) e

    -- WHAT FOLLOWS
    mutual
      pub rest-carried : {vars : List Var} {fns : List Activation} {k : After (List Value)} {fs : List SFrame} → SameRest code m vars fns k fs → AllIn S (frames_names fs) → AllIn S (functions_names fns) → SameRest code n vars fns k fs
      rest-carried (at_end vars fns p0 p1) i j = at_end vars fns p0 p1
      rest-carried (at_first vars fns k fs p0) i j = at_first vars fns k fs (rest-carried p0 i j)
      rest-carried (at_verdict vars fns negated t k fs p0 p1) i j = at_verdict vars fns negated t k fs p0 (rest-carried p1 i j)
      rest-carried (at_key vars fns e c line see scope k fs p0 p1 p2) i j = at_key vars fns e c line see scope k fs p0 (inside-carried p1 j) (rest-carried p2 i j)
      rest-carried (at_index vars fns v w ls line k fs p0 p1 p2) i j = let u0 = split S (value_names w) (frames_names fs) i in at_index vars fns v w ls line k fs (value-carried m n S f _ _ p0 u0.0) p1 (rest-carried p2 u0.1 j)
      rest-carried (at_decide vars fns deciding e c see scope k fs p0 p1 p2) i j = at_decide vars fns deciding e c see scope k fs p0 (inside-carried p1 j) (rest-carried p2 i j)
      rest-carried (at_operand vars fns o e c line see scope k fs p0 p1 p2) i j = at_operand vars fns o e c line see scope k fs p0 (inside-carried p1 j) (rest-carried p2 i j)
      rest-carried (at_operate vars fns o v w ls line k fs p0 p1 p2) i j = let u0 = split S (value_names w) (frames_names fs) i in at_operate vars fns o v w ls line k fs (value-carried m n S f _ _ p0 u0.0) p1 (rest-carried p2 u0.1 j)
      rest-carried (at_unary vars fns o ls line k fs p0 p1) i j = at_unary vars fns o ls line k fs p0 (rest-carried p1 i j)
      rest-carried (at_arguments vars fns es cs line see scope k fs p0 p1 p2) i j = at_arguments vars fns es cs line see scope k fs p0 (inside-carried p1 j) (rest-carried p2 i j)
      rest-carried (at_call vars fns v w ls line k fs p0 p1 p2) i j = let u0 = split S (value_names w) (frames_names fs) i in at_call vars fns v w ls line k fs (value-carried m n S f _ _ p0 u0.0) p1 (rest-carried p2 u0.1 j)
      rest-carried (at_method_of vars fns x es cs line see scope k fs p0 p1 p2) i j = at_method_of vars fns x es cs line see scope k fs p0 (inside-carried p1 j) (rest-carried p2 i j)
      rest-carried (at_method vars fns v w es cs line see scope k fs p0 p1 p2 p3) i j = let u0 = split S (value_names w) (frames_names fs) i in at_method vars fns v w es cs line see scope k fs (value-carried m n S f _ _ p0 u0.0) p1 (inside-carried p2 j) (rest-carried p3 u0.1 j)
      rest-carried (at_last vars fns vs ws k fs p0 p1) i j = let u0 = split S (values_names ws) (frames_names fs) i in at_last vars fns vs ws k fs (values-carried m n S f _ _ p0 u0.0) (rest-carried p1 u0.1 j)
      rest-carried (at_more vars fns e es c cs vs ws see scope k fs p0 p1 p2 p3) i j = let u0 = split S (values_names ws) (frames_names fs) i in at_more vars fns e es c cs vs ws see scope k fs (values-carried m n S f _ _ p0 u0.0) p1 (inside-carried p2 j) (rest-carried p3 u0.1 j)
      rest-carried (at_last_item vars fns t u n_ ls line k fs p0 p1 p2) i j = let u0 = split S (value_names (Table u)) (frames_names fs) i in at_last_item vars fns t u n_ ls line k fs (value-carried m n S f _ _ p0 u0.0) p1 (rest-carried p2 u0.1 j)
      rest-carried (at_item vars fns t u n_ fields cs line see scope k fs p0 p1 p2 p3) i j = let u0 = split S (value_names (Table u)) (frames_names fs) i in at_item vars fns t u n_ fields cs line see scope k fs (value-carried m n S f _ _ p0 u0.0) p1 (inside-carried p2 j) (rest-carried p3 u0.1 j)
      rest-carried (at_pair vars fns t u n_ e c fields cs line see scope k fs p0 p1 p2 p3 p4) i j = let u0 = split S (value_names (Table u)) (frames_names fs) i in at_pair vars fns t u n_ e c fields cs line see scope k fs (value-carried m n S f _ _ p0 u0.0) p1 p2 (inside-carried p3 j) (rest-carried p4 u0.1 j)
      rest-carried (at_pair_value vars fns t u n_ v w fields cs line see scope k fs p0 p1 p2 p3 p4) i j = let u0 = split S (value_names (Table u) ++ value_names w) (frames_names fs) i in let u1 = split S (value_names (Table u)) (value_names w) u0.0 in at_pair_value vars fns t u n_ v w fields cs line see scope k fs (value-carried m n S f _ _ p0 u1.0) (value-carried m n S f _ _ p1 u1.1) p2 (inside-carried p3 j) (rest-carried p4 u0.1 j)
      rest-carried (at_fields vars fns t u n_ fields cs line see scope k fs p0 p1 p2 p3) i j = let u0 = split S (value_names (Table u)) (frames_names fs) i in at_fields vars fns t u n_ fields cs line see scope k fs (value-carried m n S f _ _ p0 u0.0) p1 (inside-carried p2 j) (rest-carried p3 u0.1 j)
      rest-carried (at_items vars fns t u n_ vs ws ls line k fs p0 p1 p2 p3) i j = let u0 = split S (value_names (Table u) ++ values_names ws) (frames_names fs) i in let u1 = split S (value_names (Table u)) (values_names ws) u0.0 in at_items vars fns t u n_ vs ws ls line k fs (value-carried m n S f _ _ p0 u1.0) (values-carried m n S f _ _ p1 u1.1) p2 (rest-carried p3 u0.1 j)
      rest-carried (at_target_key vars fns e c line left ts found sfound right cs see scope k fs p0 p1 p2 p3 p4 p5) i j = let u0 = split S (targets_names sfound) (frames_names fs) i in at_target_key vars fns e c line left ts found sfound right cs see scope k fs p0 p1 (targets-carried p2 u0.0 j) p3 (inside-carried p4 j) (rest-carried p5 u0.1 j)
      rest-carried (at_target vars fns v w line left ts found sfound right cs see scope k fs p0 p1 p2 p3 p4 p5) i j = let u0 = split S (value_names w ++ targets_names sfound) (frames_names fs) i in let u1 = split S (value_names w) (targets_names sfound) u0.0 in at_target vars fns v w line left ts found sfound right cs see scope k fs (value-carried m n S f _ _ p0 u1.0) p1 (targets-carried p2 u1.1 j) p3 (inside-carried p4 j) (rest-carried p5 u0.1 j)
      rest-carried (at_assign vars fns found sfound scope k fs p0 p1) i j = let u0 = split S (targets_names sfound) (frames_names fs) i in at_assign vars fns found sfound scope k fs (targets-carried p0 u0.0 j) (rest-carried p1 u0.1 j)
      rest-carried (at_sets vars fns ps qs scope k fs p0 p1) i j = let u0 = split S (flat_map set_names qs) (frames_names fs) i in at_sets vars fns ps qs scope k fs (sets-carried p0 u0.0 j) (rest-carried p1 u0.1 j)
      rest-carried (at_declare vars fns tail names flags b c see scope k fs p0 p1 p2 p3) i j = at_declare vars fns tail names flags b c see scope k fs p0 p1 (inside-carried p2 j) (end-carried p3 i j)
      rest-carried (at_stats vars fns tail b c see scope k fs p0 p1 p2) i j = at_stats vars fns tail b c see scope k fs p0 (inside-carried p1 j) (end-carried p2 i j)
      rest-carried (at_branch vars fns b c arms cs other d see scope k fs p0 p1 p2 p3 p4) i j = at_branch vars fns b c arms cs other d see scope k fs p0 p1 p2 (inside-carried p3 j) (rest-carried p4 i j)
      rest-carried (at_return vars fns scope k fs p0) i j = at_return vars fns scope k fs (rest-carried p0 i j)
      rest-carried (at_while vars fns e c b d see scope k fs p0 p1 p2 p3) i j = at_while vars fns e c b d see scope k fs p0 p1 (inside-carried p2 j) (rest-carried p3 i j)
      rest-carried (at_test vars all fns b c e d depth see scope k fs p0 p1 p2 p3 p4) i j = at_test vars all fns b c e d depth see scope k fs p0 (inside-carried p1 j) p2 p3 (rest-carried p4 i j)
      rest-carried (at_count_from vars fns x boxed e d by dby b c line see scope k fs p0 p1 p2 p3 p4) i j = at_count_from vars fns x boxed e d by dby b c line see scope k fs p0 p1 p2 (inside-carried p3 j) (rest-carried p4 i j)
      rest-carried (at_count_to vars fns x boxed v w by dby b c line see scope k fs p0 p1 p2 p3 p4) i j = let u0 = split S (value_names w) (frames_names fs) i in at_count_to vars fns x boxed v w by dby b c line see scope k fs (value-carried m n S f _ _ p0 u0.0) p1 p2 (inside-carried p3 j) (rest-carried p4 u0.1 j)
      rest-carried (at_count_by vars fns x boxed v w t u b c line see scope k fs p0 p1 p2 p3 p4) i j = let u0 = split S (value_names w ++ value_names u) (frames_names fs) i in let u1 = split S (value_names w) (value_names u) u0.0 in at_count_by vars fns x boxed v w t u b c line see scope k fs (value-carried m n S f _ _ p0 u1.0) (value-carried m n S f _ _ p1 u1.1) p2 (inside-carried p3 j) (rest-carried p4 u0.1 j)
      rest-carried (at_each_values vars fns names flags b c line see scope k fs p0 p1 p2 p3) i j = at_each_values vars fns names flags b c line see scope k fs p0 p1 (inside-carried p2 j) (rest-carried p3 i j)
      rest-carried (at_each_next vars fns names flags f_ g t u b c line see scope k fs p0 p1 p2 p3 p4 p5) i j = let u0 = split S (value_names g ++ value_names u) (frames_names fs) i in let u1 = split S (value_names g) (value_names u) u0.0 in at_each_next vars fns names flags f_ g t u b c line see scope k fs p0 p1 (inside-carried p2 j) (value-carried m n S f _ _ p3 u1.0) (value-carried m n S f _ _ p4 u1.1) (rest-carried p5 u0.1 j)
      rest-carried (at_library vars fns k fs p0) i j = at_library vars fns k fs (rest-carried p0 i j)
      rest-carried (at_wait vars fns p_ q_ ls line k fs p0 p1 p2) i j = let u0 = split S (pending_names q_) (frames_names fs) i in at_wait vars fns p_ q_ ls line k fs (pending-carried p0 u0.0) p1 (rest-carried p2 u0.1 j)
      rest-carried (at_hearing vars fns asked ls line k fs p0 p1) i j = at_hearing vars fns asked ls line k fs p0 (rest-carried p1 i j)
      rest-carried (at_module vars fns name v w p0 p1 p2) i j = let u0 = split S (value_names w) (frames_names []) i in at_module vars fns name v w p0 p1 (value-carried m n S f _ _ p2 u0.0)
      rest-carried (at_function vars fns name v w p0 p1 p2) i j = let u0 = split S (value_names w) (frames_names []) i in at_function vars fns name v w p0 p1 (value-carried m n S f _ _ p2 u0.0)
      rest-carried (at_answer vars fns p0 p1) i j = at_answer vars fns p0 p1
      rest-carried (at_text vars fns vs ws before p0 p1 p2) i j = let u0 = split S (values_names ws) (frames_names []) i in at_text vars fns vs ws before p0 p1 (values-carried m n S f _ _ p2 u0.0)
      rest-carried (at_data vars fns p0 p1) i j = at_data vars fns p0 p1

      pub end-carried : {tail : Option (Exp × CExp)} {vars : List Var} {fns : List Activation} {k : After Scope} {fs : List SFrame} → SameEnd code m tail vars fns k fs → AllIn S (frames_names fs) → AllIn S (functions_names fns) → SameEnd code n tail vars fns k fs
      end-carried (ends_block vars all fns depth scope k fs p0 p1 p2) i j = ends_block vars all fns depth scope k fs p0 p1 (rest-carried p2 i j)
      end-carried (ends_body vars all a fns k fs p0 p1 p2 p3) i j = let v0 = split S (activation_names a) (functions_names fns) j in ends_body vars all a fns k fs p0 p1 (function-held p2 v0.0) (rest-carried p3 i v0.1)
      end-carried (ends_while vars all fns e c b d depth see scope k fs p0 p1 p2 p3 p4 p5) i j = ends_while vars all fns e c b d depth see scope k fs p0 p1 (inside-carried p2 j) p3 p4 (rest-carried p5 i j)
      end-carried (ends_repeat vars all fns b c e d depth see scope k fs p0 p1 p2 p3 p4) i j = ends_repeat vars all fns b c e d depth see scope k fs p0 (inside-carried p1 j) p2 p3 (rest-carried p4 i j)
      end-carried (ends_count vars all fns x boxed index limit step b c depth see scope k fs p0 p1 p2 p3 p4) i j = ends_count vars all fns x boxed index limit step b c depth see scope k fs p0 (inside-carried p1 j) p2 p3 (rest-carried p4 i j)
      end-carried (ends_each vars all fns names flags f_ g t u p_ q_ b c line depth see scope k fs p0 p1 p2 p3 p4 p5 p6 p7 p8) i j = let u0 = split S (value_names g ++ (value_names u ++ value_names q_)) (frames_names fs) i in let u1 = split S (value_names g) (value_names u ++ value_names q_) u0.0 in let u2 = split S (value_names u) (value_names q_) u1.1 in ends_each vars all fns names flags f_ g t u p_ q_ b c line depth see scope k fs p0 p1 (inside-carried p2 j) (value-carried m n S f _ _ p3 u1.0) (value-carried m n S f _ _ p4 u2.0) (value-carried m n S f _ _ p5 u2.1) p6 p7 (rest-carried p8 u0.1 j)

    -- POINTS
    pub point-carried : {vars : List Var} {fns : List Activation} {p : LuaRun} {point : Point} → SamePoint code m vars fns p point → AllIn S (point_names point) → AllIn S (functions_names fns) → SamePoint code n vars fns p point
    point-carried (gives o o' k fs e g) i j = let p = split S (outcome_names o') (frames_names fs) i in gives o o' k fs (outcome-carried e p.0) (rest-carried g p.1 j)
    point-carried (jumps tail a b k fs e g) i j = let p = split S (outcome_names (Jumps b)) (frames_names fs) i in jumps tail a b k fs (jump-carried e p.0) (end-carried g p.1 j)
    point-carried (ends tail see scope k fs x e g) i j = ends tail see scope k fs x (inside-carried e j) (end-carried g i j)
    point-carried (evaluates e c see scope k fs x y g) i j = evaluates e c see scope k fs x (inside-carried y j) (rest-carried g i j)
    point-carried (lists es cs vs ws see scope k fs x y e g) i j = let p = split S (values_names ws) (frames_names fs) i in lists es cs vs ws see scope k fs x (inside-carried y j) (values-carried m n S f vs ws e p.0) (rest-carried g p.1 j)
    point-carried (finds left ts found sfound right cs see scope k fs x e y z g) i j =
        let p = split S (targets_names sfound) (frames_names fs) i in
        finds left ts found sfound right cs see scope k fs x (targets-carried e p.0 j) y (inside-carried z j) (rest-carried g p.1 j)
    point-carried (sets ps qs scope k fs e g) i j = let p = split S (flat_map set_names qs) (frames_names fs) i in sets ps qs scope k fs (sets-carried e p.0 j) (rest-carried g p.1 j)
    point-carried (runs tail b c see scope k fs x y g) i j = runs tail b c see scope k fs x (inside-carried y j) (end-carried g i j)
    point-carried (starts t t' k fs e g) i j = let p = split S (thing_names t') (frames_names fs) i in starts t t' k fs (thing-carried e p.0 j) (rest-carried g p.1 j)
    point-carried (asks q k fs g) i j = asks q k fs (rest-carried g i j)
    point-carried (texts vs ws before x y e) i j = let p = split S (values_names ws) (frames_names []) i in texts vs ws before x y (values-carried m n S f vs ws e p.0)
    point-carried (works world work w x y) i j = works world work w x y

pub function-looks : (code : CWorld) → LooksAtNames (SameFunction code) proc_names
function-looks code m n S f a b s i = function-carried m n S f code a b s i

-- WHEN THE MAP GROWS
abbrev everywhere : Set
everywhere r = true

every : (refs : List Ref) → AllIn everywhere refs
every refs = all-any (λ r. IsTrue (everywhere r)) (λ r. refl) refs

module _ {m n : Map} (up : Grows m n) where
  pub inside-grows : {vars : List Var} {fns : List Activation} {see : Sight} {scope : Scope} → Inside m vars fns see scope → Inside n vars fns see scope
  inside-grows i = inside-carried m n everywhere (λ q r e x. up q r e) i (every _)

  pub held-in-grows : {a : Activation} → HeldFunction m a → HeldFunction n a
  held-in-grows h = function-held m n everywhere (λ q r e x. up q r e) h (every _)

  pub pending-grows : {p q : Pending} → SamePending m p q → SamePending n p q
  pending-grows e = pending-carried m n everywhere (λ q r e x. up q r e) e (every _)

  pub modules-grow : {xs ys : ByTitle Progress} → Each (SameTitled (SameProgress m)) xs ys → Each (SameTitled (SameProgress n)) xs ys
  modules-grow e = modules-carried m n everywhere (λ q r e x. up q r e) e (every _)

  pub data-grow : {xs ys : ByTitle Value} → Each (SameTitled (Same m)) xs ys → Each (SameTitled (Same n)) xs ys
  data-grow e = data-carried m n everywhere (λ q r e x. up q r e) e (every _)

  pub frames-grow : {xs ys : List Frame} → Each (SameFrame m) xs ys → Each (SameFrame n) xs ys
  frames-grow e = frames-carried m n everywhere (λ q r e x. up q r e) e (every _)

module _ (code : CWorld) {m n : Map} (up : Grows m n) where
  pub rest-grows : {vars : List Var} {fns : List Activation} {k : After (List Value)} {fs : List SFrame} → SameRest code m vars fns k fs → SameRest code n vars fns k fs
  rest-grows g = rest-carried m n everywhere (λ q r e x. up q r e) code g (every _) (every _)

  pub end-grows : {tail : Option (Exp × CExp)} {vars : List Var} {fns : List Activation} {k : After Scope} {fs : List SFrame} → SameEnd code m tail vars fns k fs → SameEnd code n tail vars fns k fs
  end-grows g = end-carried m n everywhere (λ q r e x. up q r e) code g (every _) (every _)

pub function-grows : (code : CWorld) → GrowsWith (SameFunction code)
function-grows code m n a b up s = function-carried m n everywhere (λ q r e x. up q r e) code a b s (every _)

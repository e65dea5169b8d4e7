-- WHATEVER A MACHINE NAMES STANDS FOR SOMETHING, under the map that says how its run stands in the store.
use Rattle.std.proofs.Common.{◌≡◌, ℕ, List, [], ◌∷◌, ◌++◌, map, Option, Some, IsTrue, sym, subst}
use Rattle.std.specs.List.{flat_map}
use Rattle.lua_agree.specs.LuaSyntaxTree.{Exp}
use Rattle.page_run.specs.Outcome.{Outcome, Jumps}
use Rattle.lua_heap.specs.Proc.{proc_names}
use Rattle.lua_heap.specs.Value.{Value, Table}
use Rattle.lua_heap.specs.Heap.{Heap, Ref, cel}
use Rattle.lua_heap.specs.Related.{Map, Each, none, more, Same}
use Rattle.lua_heap.specs.Reach.{Set, AllIn, value_names, values_names, NamesStand}
use Rattle.lua_heap.proofs.Names.{all-join}
use Rattle.lua_heap.proofs.Carried.{each-names, value-image, values-image}
use Rattle.lua_agree.specs.LuaMeaningScope.{Scope, Function}
use Rattle.lua_goes.specs.LuaMeaningActs.{Jump, Thing, LuaRun, Progress, Frame}
use Rattle.lua_agree.specs.LuaMeaningParts.{Target}
use Rattle.lua_agree.specs.LuaMeaningGsub.{Replacement, replacement_value, Job}
use Rattle.lua_goes.specs.LuaMeaningPending.{Pending}
use Rattle.lua_agree.specs.LuaMeaningTitled.{ByTitle}
use Rattle.lua_goes.specs.LuaSlotsCode.{CExp, CWorld}
use Rattle.lua_goes.specs.LuaSlotsSlots.{Slot, Activation}
use Rattle.lua_goes.specs.LuaSlotsPoints.{STarget, SThing, SFrame, Point}
use Rattle.lua_agree.specs.LuaLibraryAgreeSame.{SameFrame}
use Rattle.lua_agree.specs.LuaLibraryAgreeSameGsub.{SameReplacement, same_text, same_table, same_function, SameJob, same_job}
use Rattle.lua_agree.specs.Variables.{Var, Vars, vnone, vplain, vboxed, HasCells, HeldFunction}
use Rattle.lua_agree.specs.Values.{SameJump, returned, broke, raised, SameOutcome, values_, jumps_, SameTarget, places, globals_, entries_, SameSet, SamePending, pcalls, xpcalls, handlers, to_strings, walks, replacings, modules, SameProgress, running, finished, SameTitled}
use Rattle.lua_agree.specs.Functions.{SameFunction}
use Rattle.lua_agree.specs.Rests.{After, SameRest, SameEnd, at_end, at_first, at_verdict, at_key, at_index, at_decide, at_operand, at_operate, at_unary, at_arguments, at_call, at_method_of, at_method, at_last, at_more, at_last_item, at_item, at_pair, at_pair_value, at_fields, at_items, at_target_key, at_target, at_assign, at_sets, at_declare, at_stats, at_branch, at_return, at_while, at_test, at_count_from, at_count_to, at_count_by, at_each_values, at_each_next, at_library, at_wait, at_hearing, at_module, at_function, at_answer, at_text, at_data, ends_block, ends_body, ends_while, ends_repeat, ends_count, ends_each}
use Rattle.lua_agree.specs.Agree.{SameThing, while_turns, repeat_turns, count_turns, each_turns, bodies, texts_of, libraries, index_links, set_links, call_links, SamePoint, gives, jumps, ends, evaluates, lists, finds, sets, runs, starts, texts, asks, works}
use Rattle.lua_agree.specs.Named.{slot_names, activation_names, functions_names, target_names, targets_names, set_names, pending_names, frames_names, thing_names, outcome_names, point_names, progress_names, module_names, data_names, run_frame_names}

pub join : (S : Set) (xs ys : List Ref) → AllIn S xs → AllIn S ys → AllIn S (xs ++ ys)
join S xs ys a b = all-join (λ r. IsTrue (S r)) xs ys a b

module _ (m : Map) (S : Set) (f : (q r : Ref) → m.to q ≡ Some r → IsTrue (S r)) where
  held-image : (cs : List ℕ) → HasCells m cs → AllIn S (map cel cs)
  held-image [] h = tt
  held-image (c ∷ cs) h = (f _ _ h.0.1, held-image cs h.1)

  function-image : (a : Activation) → HeldFunction m a → AllIn S (activation_names a)
  function-image a h = join S (map cel a.cells) (values_names a.dots) (held-image a.cells h.cells) (values-image m S f _ _ h.dots)

  pub regs-image : (h : Heap Function) {vars : List Var} {regs : List Slot} → Vars m h vars regs → AllIn S (flat_map slot_names regs)
  regs-image h vnone = tt
  regs-image h (vplain c v w vars regs a b s n rest) = join S (value_names w) (flat_map slot_names regs) (value-image m S f v w s) (regs-image h rest)
  regs-image h (vboxed c r vars regs a rest) = (f _ _ a, regs-image h rest)

  target-image : {vars : List Var} {fns : List Activation} {t : Target} {u : STarget} → SameTarget m vars fns t u → AllIn S (target_names u)
  target-image (places c p e) = tt
  target-image (globals_ x ls line e) = tt
  target-image (entries_ a b k l ls line e g h) = join S (value_names b) (value_names l) (value-image m S f a b e) (value-image m S f k l g)

  targets-image : {vars : List Var} {fns : List Activation} {ts : List Target} {us : List STarget} → Each (SameTarget m vars fns) ts us → AllIn S (targets_names us)
  targets-image none = tt
  targets-image (more t u ts us r e) = join S (target_names u) (targets_names us) (target-image r) (targets-image e)

  sets-image : {vars : List Var} {fns : List Activation} {ps : List (Target × Value)} {qs : List (STarget × Value)} → Each (SameSet m vars fns) ps qs → AllIn S (flat_map set_names qs)
  sets-image none = tt
  sets-image (more x y xs ys r e) =
      join S (set_names y) (flat_map set_names ys) (join S (target_names y.0) (value_names y.1) (target-image r.target) (value-image m S f _ _ r.value)) (sets-image e)

  jump-image : {j j' : Jump} → SameJump m j j' → AllIn S (outcome_names (Jumps j'))
  jump-image (returned vs ws e) = values-image m S f vs ws e
  jump-image broke = tt
  jump-image (raised v w e) = value-image m S f v w e

  pub outcome-image : {o o' : Outcome (List Value) Jump} → SameOutcome m o o' → AllIn S (outcome_names o')
  outcome-image (values_ vs ws e) = values-image m S f vs ws e
  outcome-image (jumps_ j j' e) = jump-image e

  replacement-image : {x y : Replacement} → SameReplacement m x y → AllIn S (value_names (replacement_value y))
  replacement-image (same_text t) = tt
  replacement-image (same_table a b e) = value-image m S f (Table a) (Table b) e
  replacement-image (same_function v w e) = value-image m S f v w e

  job-image : {x y : Job} → SameJob m x y → AllIn S (value_names (replacement_value y.by))
  job-image (same_job a t anchored items slots x y e) = replacement-image e

  pending-image : {p q : Pending} → SamePending m p q → AllIn S (pending_names q)
  pending-image pcalls = tt
  pending-image (xpcalls h h' e) = value-image m S f h h' e
  pending-image handlers = tt
  pending-image to_strings = tt
  pending-image walks = tt
  pending-image (replacings x y limit far whole e) = job-image e
  pending-image (modules title) = tt

  -- what is kept of the run
  progress-image : {a b : Progress} → SameProgress m a b → AllIn S (progress_names b)
  progress-image running = tt
  progress-image (finished v w e) = value-image m S f v w e

  pub modules-image : (xs ys : ByTitle Progress) → Each (SameTitled (SameProgress m)) xs ys → AllIn S (flat_map module_names ys)
  modules-image xs ys e = each-names (SameTitled (SameProgress m)) module_names S (λ x y k. progress-image k.item) xs ys e

  pub data-image : (xs ys : ByTitle Value) → Each (SameTitled (Same m)) xs ys → AllIn S (flat_map data_names ys)
  data-image xs ys e = each-names (SameTitled (Same m)) data_names S (λ x y k. value-image m S f _ _ k.item) xs ys e

  pub frames-image : (xs ys : List Frame) → Each (SameFrame m) xs ys → AllIn S (flat_map run_frame_names ys)
  frames-image xs ys e = each-names (SameFrame m) run_frame_names S (λ x y k. value-image m S f _ _ k.table) xs ys e

  module _ (code : CWorld) where
    thing-image : {vars : List Var} {fns : List Activation} {t : Thing} {u : SThing} → SameThing code m vars fns t u → AllIn S (thing_names u)
    thing-image (while_turns e c b d see scope x y k) = tt
    thing-image (repeat_turns b c e d see scope x k) = tt
    thing-image (count_turns x boxed index limit step b c see scope y k) = tt
    thing-image (each_turns names flags g h t u vs ws b c line see scope x y k e e' es) =
        join S (value_names h) (value_names u ++ values_names ws) (value-image m S f _ _ e) (join S (value_names u) (values_names ws) (value-image m S f _ _ e') (values-image m S f _ _ es))
    thing-image (texts_of source b p x) = tt
    thing-image (bodies a b vs ws ls line s es l) = join S (proc_names b) (values_names ws) (held-image b.cells s.has_cells) (values-image m S f _ _ es)
    thing-image (libraries which vs ws ls line es l) = values-image m S f _ _ es
    thing-image (index_links a b h h' k l ls line x y z e) =
        join S (value_names b) (value_names h' ++ value_names l) (value-image m S f _ _ x) (join S (value_names h') (value_names l) (value-image m S f _ _ y) (value-image m S f _ _ z))
    thing-image (set_links a b h h' k l v w ls line x y z u e) =
        join S (value_names b) (value_names h' ++ (value_names l ++ value_names w)) (value-image m S f _ _ x)
        (join S (value_names h') (value_names l ++ value_names w) (value-image m S f _ _ y) (join S (value_names l) (value_names w) (value-image m S f _ _ z) (value-image m S f _ _ u)))
    thing-image (call_links h h' vs ws ls line x es e) = join S (value_names h') (values_names ws) (value-image m S f _ _ x) (values-image m S f _ _ es)

    no-functions : (fns : List Activation) → fns ≡ [] → AllIn S (functions_names fns)
    no-functions fns e = subst (λ z. AllIn S (functions_names z)) (sym e) tt

    -- WHAT FOLLOWS: what the frames name, and what the functions name that are in progress below them
    mutual
      pub rest-image : {vars : List Var} {fns : List Activation} {k : After (List Value)} {fs : List SFrame} → SameRest code m vars fns k fs → AllIn S (frames_names fs) × AllIn S (functions_names fns)
      rest-image (at_end vars fns p0 p1) = (tt, no-functions fns p1)
      rest-image (at_first vars fns k fs p0) = rest-image p0
      rest-image (at_verdict vars fns negated t k fs p0 p1) = rest-image p1
      rest-image (at_key vars fns e c line see scope k fs p0 p1 p2) = rest-image p2
      rest-image (at_index vars fns v w ls line k fs p0 p1 p2) = let below = rest-image p2 in (join S (value_names w) (frames_names fs) (value-image m S f _ _ p0) below.0, below.1)
      rest-image (at_decide vars fns deciding e c see scope k fs p0 p1 p2) = rest-image p2
      rest-image (at_operand vars fns o e c line see scope k fs p0 p1 p2) = rest-image p2
      rest-image (at_operate vars fns o v w ls line k fs p0 p1 p2) = let below = rest-image p2 in (join S (value_names w) (frames_names fs) (value-image m S f _ _ p0) below.0, below.1)
      rest-image (at_unary vars fns o ls line k fs p0 p1) = rest-image p1
      rest-image (at_arguments vars fns es cs line see scope k fs p0 p1 p2) = rest-image p2
      rest-image (at_call vars fns v w ls line k fs p0 p1 p2) = let below = rest-image p2 in (join S (value_names w) (frames_names fs) (value-image m S f _ _ p0) below.0, below.1)
      rest-image (at_method_of vars fns x es cs line see scope k fs p0 p1 p2) = rest-image p2
      rest-image (at_method vars fns v w es cs line see scope k fs p0 p1 p2 p3) = let below = rest-image p3 in (join S (value_names w) (frames_names fs) (value-image m S f _ _ p0) below.0, below.1)
      rest-image (at_last vars fns vs ws k fs p0 p1) = let below = rest-image p1 in (join S (values_names ws) (frames_names fs) (values-image m S f _ _ p0) below.0, below.1)
      rest-image (at_more vars fns e es c cs vs ws see scope k fs p0 p1 p2 p3) = let below = rest-image p3 in (join S (values_names ws) (frames_names fs) (values-image m S f _ _ p0) below.0, below.1)
      rest-image (at_last_item vars fns t u n_ ls line k fs p0 p1 p2) = let below = rest-image p2 in (join S (value_names (Table u)) (frames_names fs) (value-image m S f _ _ p0) below.0, below.1)
      rest-image (at_item vars fns t u n_ fields cs line see scope k fs p0 p1 p2 p3) = let below = rest-image p3 in (join S (value_names (Table u)) (frames_names fs) (value-image m S f _ _ p0) below.0, below.1)
      rest-image (at_pair vars fns t u n_ e c fields cs line see scope k fs p0 p1 p2 p3 p4) = let below = rest-image p4 in (join S (value_names (Table u)) (frames_names fs) (value-image m S f _ _ p0) below.0, below.1)
      rest-image (at_pair_value vars fns t u n_ v w fields cs line see scope k fs p0 p1 p2 p3 p4) = let below = rest-image p4 in (join S (value_names (Table u) ++ value_names w) (frames_names fs) (join S (value_names (Table u)) (value_names w) (value-image m S f _ _ p0) (value-image m S f _ _ p1)) below.0, below.1)
      rest-image (at_fields vars fns t u n_ fields cs line see scope k fs p0 p1 p2 p3) = let below = rest-image p3 in (join S (value_names (Table u)) (frames_names fs) (value-image m S f _ _ p0) below.0, below.1)
      rest-image (at_items vars fns t u n_ vs ws ls line k fs p0 p1 p2 p3) = let below = rest-image p3 in (join S (value_names (Table u) ++ values_names ws) (frames_names fs) (join S (value_names (Table u)) (values_names ws) (value-image m S f _ _ p0) (values-image m S f _ _ p1)) below.0, below.1)
      rest-image (at_target_key vars fns e c line left ts found sfound right cs see scope k fs p0 p1 p2 p3 p4 p5) = let below = rest-image p5 in (join S (targets_names sfound) (frames_names fs) (targets-image p2) below.0, below.1)
      rest-image (at_target vars fns v w line left ts found sfound right cs see scope k fs p0 p1 p2 p3 p4 p5) = let below = rest-image p5 in (join S (value_names w ++ targets_names sfound) (frames_names fs) (join S (value_names w) (targets_names sfound) (value-image m S f _ _ p0) (targets-image p2)) below.0, below.1)
      rest-image (at_assign vars fns found sfound scope k fs p0 p1) = let below = rest-image p1 in (join S (targets_names sfound) (frames_names fs) (targets-image p0) below.0, below.1)
      rest-image (at_sets vars fns ps qs scope k fs p0 p1) = let below = rest-image p1 in (join S (flat_map set_names qs) (frames_names fs) (sets-image p0) below.0, below.1)
      rest-image (at_declare vars fns tail names flags b c see scope k fs p0 p1 p2 p3) = end-image p3
      rest-image (at_stats vars fns tail b c see scope k fs p0 p1 p2) = end-image p2
      rest-image (at_branch vars fns b c arms cs other d see scope k fs p0 p1 p2 p3 p4) = rest-image p4
      rest-image (at_return vars fns scope k fs p0) = rest-image p0
      rest-image (at_while vars fns e c b d see scope k fs p0 p1 p2 p3) = rest-image p3
      rest-image (at_test vars all fns b c e d depth see scope k fs p0 p1 p2 p3 p4) = rest-image p4
      rest-image (at_count_from vars fns x boxed e d by dby b c line see scope k fs p0 p1 p2 p3 p4) = rest-image p4
      rest-image (at_count_to vars fns x boxed v w by dby b c line see scope k fs p0 p1 p2 p3 p4) = let below = rest-image p4 in (join S (value_names w) (frames_names fs) (value-image m S f _ _ p0) below.0, below.1)
      rest-image (at_count_by vars fns x boxed v w t u b c line see scope k fs p0 p1 p2 p3 p4) = let below = rest-image p4 in (join S (value_names w ++ value_names u) (frames_names fs) (join S (value_names w) (value_names u) (value-image m S f _ _ p0) (value-image m S f _ _ p1)) below.0, below.1)
      rest-image (at_each_values vars fns names flags b c line see scope k fs p0 p1 p2 p3) = rest-image p3
      rest-image (at_each_next vars fns names flags f_ g t u b c line see scope k fs p0 p1 p2 p3 p4 p5) = let below = rest-image p5 in (join S (value_names g ++ value_names u) (frames_names fs) (join S (value_names g) (value_names u) (value-image m S f _ _ p3) (value-image m S f _ _ p4)) below.0, below.1)
      rest-image (at_library vars fns k fs p0) = rest-image p0
      rest-image (at_wait vars fns p_ q_ ls line k fs p0 p1 p2) = let below = rest-image p2 in (join S (pending_names q_) (frames_names fs) (pending-image p0) below.0, below.1)
      rest-image (at_hearing vars fns asked ls line k fs p0 p1) = rest-image p1
      rest-image (at_module vars fns name v w p0 p1 p2) = (join S (value_names w) (frames_names []) (value-image m S f _ _ p2) tt, no-functions fns p1)
      rest-image (at_function vars fns name v w p0 p1 p2) = (join S (value_names w) (frames_names []) (value-image m S f _ _ p2) tt, no-functions fns p1)
      rest-image (at_answer vars fns p0 p1) = (tt, no-functions fns p1)
      rest-image (at_text vars fns vs ws before p0 p1 p2) = (join S (values_names ws) (frames_names []) (values-image m S f _ _ p2) tt, no-functions fns p1)
      rest-image (at_data vars fns p0 p1) = (tt, no-functions fns p1)

      pub end-image : {tail : Option (Exp × CExp)} {vars : List Var} {fns : List Activation} {k : After Scope} {fs : List SFrame} → SameEnd code m tail vars fns k fs → AllIn S (frames_names fs) × AllIn S (functions_names fns)
      end-image (ends_block vars all fns depth scope k fs p0 p1 p2) = rest-image p2
      end-image (ends_body vars all a fns k fs p0 p1 p2 p3) = let below = rest-image p3 in (below.0, join S (activation_names a) (functions_names fns) (function-image a p2) below.1)
      end-image (ends_while vars all fns e c b d depth see scope k fs p0 p1 p2 p3 p4 p5) = rest-image p5
      end-image (ends_repeat vars all fns b c e d depth see scope k fs p0 p1 p2 p3 p4) = rest-image p4
      end-image (ends_count vars all fns x boxed index limit step b c depth see scope k fs p0 p1 p2 p3 p4) = rest-image p4
      end-image (ends_each vars all fns names flags f_ g t u p_ q_ b c line depth see scope k fs p0 p1 p2 p3 p4 p5 p6 p7 p8) = let below = rest-image p8 in (join S (value_names g ++ (value_names u ++ value_names q_)) (frames_names fs) (join S (value_names g) (value_names u ++ value_names q_) (value-image m S f _ _ p3) (join S (value_names u) (value_names q_) (value-image m S f _ _ p4) (value-image m S f _ _ p5))) below.0, below.1)

    -- POINTS
    pub point-image : {vars : List Var} {fns : List Activation} {p : LuaRun} {point : Point} → SamePoint code m vars fns p point → AllIn S (point_names point) × AllIn S (functions_names fns)
    point-image (gives o o' k fs e g) = let below = rest-image g in (join S (outcome_names o') (frames_names fs) (outcome-image e) below.0, below.1)
    point-image (jumps tail a b k fs e g) = let below = end-image g in (join S (outcome_names (Jumps b)) (frames_names fs) (jump-image e) below.0, below.1)
    point-image (ends tail see scope k fs x e g) = end-image g
    point-image (evaluates e c see scope k fs x y g) = rest-image g
    point-image (lists es cs vs ws see scope k fs x y e g) = let below = rest-image g in (join S (values_names ws) (frames_names fs) (values-image m S f vs ws e) below.0, below.1)
    point-image (finds left ts found sfound right cs see scope k fs x e y z g) = let below = rest-image g in (join S (targets_names sfound) (frames_names fs) (targets-image e) below.0, below.1)
    point-image (sets ps qs scope k fs e g) = let below = rest-image g in (join S (flat_map set_names qs) (frames_names fs) (sets-image e) below.0, below.1)
    point-image (runs tail b c see scope k fs x y g) = end-image g
    point-image (starts t t' k fs e g) = let below = rest-image g in (join S (thing_names t') (frames_names fs) (thing-image e) below.0, below.1)
    point-image (texts vs ws before x y e) = (join S (values_names ws) (frames_names []) (values-image m S f vs ws e) tt, no-functions _ y)
    point-image (asks q k fs g) = rest-image g
    point-image (works world work w x y) = (tt, no-functions _ y)

pub function-names_stand : (code : CWorld) → NamesStand (SameFunction code) proc_names
function-names_stand code m S f a b s = held-image m S f b.cells s.has_cells

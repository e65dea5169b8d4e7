-- The loads of a run are paid: their charges, with what is left, are no more than the steps that there were; and so it is with the loads
-- inside each of them. Then the charges of the repeats among them are paid too.
use Rattle.std.proofs.Common.{◌≡◌, ℕ, zero, suc, ◌+◌, ◌≤◌, Bool, true, false, List, [], Option, Some, None, refl, sym, ◌∙◌, subst, arith}
use Rattle.std.specs.Prelude.{◌&&◌}
use Rattle.wk_base.specs.declared.left.Left.{Left}
use Rattle.wk_base.specs.declared.title.Title.{Title}
use Rattle.expand_meaning.specs.MwFrameDeclaredSceneArg.{Arg}
use Rattle.expand_meaning.specs.MwFrameDeclaredSceneScene.{Scene}
use Rattle.lua_meaning_laws.specs.MwFrameDeclaredQuestionAsk.{Ask}
use Rattle.lua_meaning_laws.specs.MwFrameDeclaredQuestionAskTheVariants.{Template, Preprocess, Data}
use Rattle.page_run.specs.Run.{Use, TakeBytes, EnterDepth, LeaveDepth, HasTemplate, EnterTemplate, LeaveTemplate, Run, Ends, Takes, Counts, Notes, Sees, Changes, Calls, Leaves, Uses, Begins, Opens, Asks, Meaning}
use Rattle.page_run.specs.State.{Loads, NoLoads, Load, join_loads, Response, Gives, Exhausts, Reply, Replier, Moment, State, moment, start, Event, moment_of}
use Rattle.page_run.specs.Perform.{less, after_bytes, after_depth, after_template, apply_use, after_use, with_steps, enter_call, with_call, give_back, leave_call, count_node, with_node, take_reply, after_response, with_computed, with_reply, nothing_begins, perform_with, perform_by, perform, size, to_come}
use Rattle.page_run.specs.Walk.{WalkState, empty_walk, is_in, walk_load, walk}
use Rattle.page_run.proofs.Less.{less_some}
use Rattle.page_run.proofs.ChargeLaws.{back_replies}
use Rattle.expand_meaning.specs.WikiMarkupTrees.{Trees}
use Rattle.expand_meaning.specs.Expand.{thing_text}
use Rattle.expand_meaning.specs.Outcome.{Work as PageWork, Reading, Including, expansion, page_scene}
use Rattle.lua_meaning_laws.specs.LuaMeaningWorld.{Module}
use Rattle.lua_meaning_laws.specs.LuaMeaningThings.{meaning_of}
use Rattle.lua_meaning_laws.specs.LuaMeaningHome.{home}
use Rattle.lua_meaning_laws.specs.LuaMeaningStart.{Work, Invoke, DataOf, run_of}
use Rattle.page_meaning.specs.Wiki.{Wiki, setting, world, read}
use Rattle.page_meaning.specs.Told.{invoked}
use Rattle.page_meaning.specs.Drive.{Runs, invocation_reply, expansion_reply, template_reply, data_reply, reply, replies, one_run, drive_by, drive}
use Rattle.page_meaning.specs.Page.{page_event}
use Rattle.page_meaning.specs.Laws.{KeptIsPaid}

-- what loads were charged, without those inside them
abbrev charges : Loads → ℕ
charges NoLoads = 0
charges (Load name charge nodes completed inner rest) = charge + charges rest

-- each covers those inside it
abbrev Cover : Loads → Type 0
Cover NoLoads = Unit {0}
Cover (Load name charge nodes completed inner rest) = (charges inner ≤ charge) × Cover inner × Cover rest

joined_charges : (a b : Loads) → charges (join_loads a b) ≡ charges a + charges b
joined_charges NoLoads b = omega arith
joined_charges (Load name charge nodes completed inner rest) b =
    let e = joined_charges rest b in
    omega arith

joined_cover : (a b : Loads) → Cover a → Cover b → Cover (join_loads a b)
joined_cover NoLoads b p q = q
joined_cover (Load name charge nodes completed inner rest) b p q = (p.0, p.1, joined_cover rest b p.2 q)

-- THE WALK keeps no more than was charged
walked_load : (repeat : Bool) (name : List ℕ) (charge nodes : ℕ) (completed : Bool) (inner : WalkState → WalkState) (w : WalkState) → (inner w).repeat_charges ≤ w.repeat_charges + charge → (walk_load repeat name charge nodes completed inner w).repeat_charges ≤ w.repeat_charges + charge
walked_load true name charge nodes completed inner w le = omega arith
walked_load false name charge nodes completed inner w le = le

walked : (loads : Loads) → Cover loads → (w : WalkState) → (walk loads w).repeat_charges ≤ w.repeat_charges + charges loads
walked NoLoads p w = omega arith
walked (Load name charge nodes completed inner rest) p w =
    let repeat = completed && is_in name w.completed_modules in
    let inside = walked inner p.1 w in
    let here : (walk_load repeat name charge nodes completed (walk inner) w).repeat_charges ≤ w.repeat_charges + charge = walked_load repeat name charge nodes completed (walk inner) w (omega (arith, p.0)) in
    let behind = walked rest p.2 (walk_load repeat name charge nodes completed (walk inner) w) in
    omega (arith, here, behind)

-- WHAT AN EXPANSION USES leaves the steps as they are
bytes_steps : (o : Option ℕ) (l : Left) → (after_bytes o l).1.steps ≡ l.steps
bytes_steps (Some r) l = refl
bytes_steps None l = refl

depth_steps : (o : Option ℕ) (l : Left) → (after_depth o l).1.steps ≡ l.steps
depth_steps (Some r) l = refl
depth_steps None l = refl

template_steps : (o : Option ℕ) (l : Left) → (after_template o l).1.steps ≡ l.steps
template_steps (Some r) l = refl
template_steps None l = refl

used_steps : (u : Use) (l : Left) → (apply_use u l).1.steps ≡ l.steps
used_steps (TakeBytes n) l = bytes_steps (less n l.bytes) l
used_steps EnterDepth l = depth_steps (less 1 l.depth) l
used_steps LeaveDepth l = refl
used_steps HasTemplate l = refl
used_steps EnterTemplate l = template_steps (less 1 l.templates) l
used_steps LeaveTemplate l = refl

-- A MOMENT IS PAID, where there were so many steps
record Paid {H : Type 0} (k : ℕ) (m : Moment H) : Type 0 where
  steps : charges m.tally.loads + m.left.steps ≤ k
  cover : Cover m.tally.loads

record PaysReply {A : Type 0} (l : Left) (r : Reply A) : Type 0 where
  steps : charges r.tally.loads + r.left.steps ≤ l.steps
  cover : Cover r.tally.loads

abbrev Pays : {Q A : Type 0} → Replier Q A → Type 0
Pays {Q = Q} {A = A} b = (q : Q) (l : Left) (r : Reply A) → b q l ≡ Some r → PaysReply l r

back_paid : {H A : Type 0} → (k n : ℕ) (s : State H A) → Paid k (moment s) → Paid k (moment (give_back n s))
back_paid k zero s p = p
back_paid k (suc n) s p = record { steps = p.steps; cover = p.cover }

told_paid : {H A : Type 0} → (k : ℕ) (r : Reply A) (s : State H A) → Paid k (moment s) → PaysReply s.left r → Paid k (moment (take_reply r [] s))
told_paid k r s p q = record {
  steps =
      let e = joined_charges s.tally.loads r.tally.loads in
      omega (arith, e, p.steps, q.steps);
  cover = joined_cover s.tally.loads r.tally.loads p.cover q.cover;
}

module _ {H Q A O : Type 0} (k : ℕ) where
  steps_paid : (o : Option ℕ) (n : ℕ) (s : State H A) (go : State H A → Event H Q O) → less n s.left.steps ≡ o → Paid k (moment s) → ((r : ℕ) → r + n ≡ s.left.steps → Paid k (moment_of (go record s { left = record s.left { steps = r } }))) → Paid k (moment_of (with_steps o s go))
  steps_paid (Some r) n s go e p h = h r (less_some n s.left.steps r e)
  steps_paid None n s go e p h = record { steps = omega (arith, p.steps); cover = p.cover }

  call_paid : (o : Option ℕ) (s : State H A) (go : State H A → Event H Q O) → Paid k (moment s) → ((r : ℕ) → Paid k (moment_of (go (enter_call r s)))) → Paid k (moment_of (with_call o s go))
  call_paid (Some r) s go p h = h r
  call_paid None s go p h = record { steps = p.steps; cover = p.cover }

  node_paid : (o : Option ℕ) (s : State H A) (go without : State H A → Event H Q O) → ((r : ℕ) → Paid k (moment_of (go record s { left = record s.left { nodes = r } }))) → Paid k (moment_of (without s)) → Paid k (moment_of (with_node o s go without))
  node_paid (Some r) s go without h i = h r
  node_paid None s go without h i = i

  said_paid : (x : Response A) (s : State H A) (go : A → State H A → Event H Q O) → Paid k (moment s) → ((a : A) → Paid k (moment_of (go a s))) → Paid k (moment_of (after_response x s go))
  said_paid (Gives a) s go p h = h a
  said_paid (Exhausts w) s go p h = record { steps = p.steps; cover = p.cover }

  computed_paid : (o : Option (Reply A)) (q : Q) (s : State H A) (go : A → State H A → Event H Q O) → Paid k (moment s) → ((r : Reply A) → o ≡ Some r → PaysReply s.left r) → ((a : A) (t : State H A) → t.replies ≡ [] → Paid k (moment t) → Paid k (moment_of (go a t))) → Paid k (moment_of (with_computed o q s go))
  computed_paid (Some r) q s go p x h =
      let now = told_paid k r s p (x r refl) in
      said_paid r.response (take_reply r [] s) go now (λ a. h a (take_reply r [] s) refl now)
  computed_paid None q s go p x h = p

module _ {M H T Q A O : Type 0} (meaning : Meaning M H T Q A O) (b : Replier Q A) (pays : Pays b) (k : ℕ) where
  with_paid : (g : Run M H T Q A O → State H A → Event H Q O) → ((p : Run M H T Q A O) (s : State H A) → s.replies ≡ [] → Paid k (moment s) → Paid k (moment_of (g p s))) → (p : Run M H T Q A O) (s : State H A) → s.replies ≡ [] → Paid k (moment s) → Paid k (moment_of (perform_with meaning b g p s))
  with_paid g h (Ends o) s e m = record { steps = m.steps; cover = m.cover }
  with_paid g h (Takes n p) s e m =
      steps_paid k (less n s.left.steps) n s (perform_with meaning b g p) refl m (λ r i. with_paid g h p record s { left = record s.left { steps = r } } e record { steps = omega (arith, m.steps); cover = m.cover })
  with_paid g h (Counts p) s e m = with_paid g h p (count_node s) e record { steps = m.steps; cover = m.cover }
  with_paid g h (Notes source name p) s e m = with_paid g h p s e m
  with_paid g h (Sees f) s e m = with_paid g h (f s.heap) s e m
  with_paid g h (Changes heap p) s e m = with_paid g h p record s { heap = heap } e record { steps = m.steps; cover = m.cover }
  with_paid g h (Calls p) s e m = call_paid k (less 1 s.left.calls) s (perform_with meaning b g p) m (λ r. with_paid g h p (enter_call r s) e record { steps = m.steps; cover = m.cover })
  with_paid g h (Leaves p) s e m = with_paid g h p (leave_call s) (back_replies s.in_progress s ∙ e) (back_paid k s.in_progress s m)
  with_paid g h (Uses v u f) s e m = with_paid g h (f (apply_use u s.left).0) (after_use u s) e record { steps = omega (arith, m.steps, used_steps u s.left); cover = m.cover }
  with_paid g h (Begins t f) s e m =
      steps_paid k (less 1 s.left.steps) 1 s (g (meaning t f)) refl m (λ r i. h (meaning t f) record s { left = record s.left { steps = r } } e record { steps = omega (arith, m.steps); cover = m.cover })
  with_paid g h (Opens v t p f) s e m =
      node_paid k (less 1 s.left.nodes) s (g (meaning t f)) (perform_with meaning b g p) (λ r. h (meaning t f) record s { left = record s.left { nodes = r } } e record { steps = m.steps; cover = m.cover }) (with_paid g h p s e m)
  with_paid g h (Asks q f) s e m =
      subst (λ rs. Paid k (moment_of (with_reply b rs q s (λ a. perform_with meaning b g (f a))))) (sym e) (computed_paid k (b q s.left) q s (λ a. perform_with meaning b g (f a)) m (λ r i. pays q s.left r i) (λ a t i n. with_paid g h (f a) t i n))

  by_paid : (n : ℕ) (p : Run M H T Q A O) (s : State H A) → s.replies ≡ [] → Paid k (moment s) → Paid k (moment_of (perform_by meaning b n p s))
  by_paid zero p s e m = with_paid nothing_begins (λ p' s' e' m'. record { steps = m'.steps; cover = m'.cover }) p s e m
  by_paid (suc n) p s e m = with_paid (perform_by meaning b n) (λ p' s' e' m'. by_paid n p' s' e' m') p s e m

  perform_paid : (p : Run M H T Q A O) (s : State H A) → s.replies ≡ [] → Paid k (moment s) → Paid k (moment_of (perform meaning b p s))
  unfolding perform
  perform_paid p s e m = by_paid (to_come s) p s e m

-- from its start
run_paid : {M H T Q A O : Type 0} (meaning : Meaning M H T Q A O) (b : Replier Q A) → Pays b → (p : Run M H T Q A O) (heap : H) (l : Left) → Paid l.steps (moment_of (perform meaning b p (start heap l [])))
run_paid meaning b pays p heap l = perform_paid meaning b pays l.steps p (start heap l []) refl record { steps = omega arith; cover = tt }

abbrev AllPaid : Runs → Type 0
AllPaid runs = (work : Work) (l : Left) → Paid l.steps (moment_of (runs work l))

module _ (wiki : Wiki) (page : Title) where
  module _ (runs : Runs) (paid : AllPaid runs) where
    invocations_pay : Pays (invocation_reply wiki page runs)
    invocations_pay job l r e =
        let same : invoked (runs (Invoke job) l) ≡ r = cc in
        let m = paid (Invoke job) l in
        subst (λ x. PaysReply l x) same record { steps = m.steps; cover = m.cover }

    expansions_pay : (work : PageWork) (l : Left) → PaysReply l (expansion_reply wiki page runs work l)
    expansions_pay work l =
        let m = run_paid (thing_text (setting wiki page)) (invocation_reply wiki page runs) invocations_pay (expansion work) tt l in
        record { steps = m.steps; cover = m.cover }

    templates_pay : (held : Option Trees) (title : Title) (scene : Scene) (args : List Arg) (l : Left) → PaysReply l (template_reply wiki page runs held title scene args l)
    templates_pay (Some trees) title scene args l = expansions_pay (Including trees title record scene { args = args }) l
    templates_pay None title scene args l = record { steps = omega arith; cover = tt }

    data_pays : (held : Option Module) (title : Title) (l : Left) → PaysReply l (data_reply wiki page runs held title l)
    data_pays (Some m) title l =
        let p = paid (DataOf title) l in
        record { steps = omega (arith, p.steps); cover = (omega (arith, p.steps), p.cover, tt) }
    data_pays None title l = record { steps = omega arith; cover = tt }

    reply_pays : (question : Ask) (l : Left) → PaysReply l (reply wiki page runs question l)
    reply_pays (Template scene title args) l = templates_pay (wiki.included title) title scene args l
    reply_pays (Preprocess scene text) l = expansions_pay (Reading (read text) scene) l
    reply_pays (Data title) l = data_pays (wiki.modules title) title l

    replies_pay : Pays (replies wiki page runs)
    replies_pay question l r e =
        let same : reply wiki page runs question l ≡ r = cc in
        subst (λ x. PaysReply l x) same (reply_pays question l)

    one_paid : AllPaid (one_run wiki page runs)
    one_paid work l = run_paid (meaning_of (world wiki page)) (replies wiki page runs) replies_pay (run_of (world wiki page) work) home l

  by_runs : (n : ℕ) → AllPaid (drive_by wiki page n)
  by_runs zero work l = record { steps = omega arith; cover = tt }
  by_runs (suc n) work l = one_paid (drive_by wiki page n) (by_runs n) work l

  drive_paid : AllPaid (drive wiki page)
  unfolding drive
  drive_paid work l = by_runs (suc (size l)) work l

pub kept_is_paid : KeptIsPaid
kept_is_paid wiki title trees full =
    let m = run_paid (thing_text (setting wiki title)) (invocation_reply wiki title (drive wiki title)) (invocations_pay wiki title (drive wiki title) (drive_paid wiki title)) (expansion (Reading trees (page_scene title))) tt full in
    let w = walked (moment_of (page_event wiki title trees full)).tally.loads m.cover empty_walk in
    omega (arith, m.steps, w)

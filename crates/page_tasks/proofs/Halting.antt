-- A run of Lua goes on until it halts.
use Rattle.std.proofs.Common.{◌≡◌, ◌≤◌, ℕ, ◌+◌, ◌*◌, true, sym, ap, ◌∙◌, subst, arith}
use Rattle.page_run.specs.WkBaseDeclaredLeftLeft.{Left}
use Rattle.lua_code.specs.WkBaseTitles.{is_module}
use Rattle.mw_frame.specs.declared.scene.Job.{Job}
use Rattle.page_run.specs.State.{Response, Gives}
use Rattle.lua_code.specs.LuaMeaningWorld.{Modules}
use Rattle.page_ground.specs.LuaMeaningQuestions.{Answer, Expanded}
use Rattle.lua_machine.specs.LuaSlotsPoints.{Asking}
use Rattle.page_ground.specs.LuaMeaningStart.{Work, Invoke, DataOf, end_of}
use Rattle.lua_machine.specs.LuaPointsClauses.{CanGo as MachineCanGo, GoIs}
use Rattle.lua_machine.specs.LuaStoreSeen.{StoreView}
use Rattle.page_ground.specs.LuaStateDeclaredCodesWorld.{World}
use Rattle.lua_machine.specs.LuaStateWorlds.{world_seen}
use Rattle.page_ground.specs.LuaStateSeen.{slots_of, frames_of, outcome_seen}
use Rattle.lua_machine.specs.declared.machine.Machine.{Machine}
use Rattle.lua_machine.specs.declared.event.Event.{Event}
use Rattle.lua_machine.specs.declared.event.Event.TheVariants as event
use Rattle.lua_machine.specs.Moved.{point_of}
use Rattle.lua_machine.specs.Events.{BackAt, stop_seen, funds_after}
use Rattle.page_ground.specs.PageMeaningWiki.{world}
use Rattle.page_ground.specs.PageMeaningDeclaredOutcomeJobOutcome.{JobOutcome}
use Rattle.page_ground.specs.PageMeaningDeclaredOutcomeJobOutcomeTheVariants as ending
use Rattle.page_ground.specs.PageMeaningOutcomes.{end_outcome}
use Rattle.page_ground.specs.PageMeaningTasks.{Running, OfLua, Wants}
use Rattle.page_ground.proofs.PageMeaningOutcomeLaws.{end_is_told}
use Rattle.page_ground.specs.PagePointsPlaces.{Place, next_of}
use Rattle.page_ground.specs.PagePointsMachines.{KnowsHeight, MachineStands, gone, end_told, spent_told, EndedSo, EndsAs}
use Rattle.page_ground.specs.PagePointsApart.{LeavesAlone}
use Rattle.page_ground.proofs.PagePointsMachines.{machine_asks, machine_ends, machine_is_spent}
use Rattle.page_ground.proofs.PagePointsApart.{going_leaves}
use Rattle.page_tasks.specs.declared.task.Begun.{Begun}
use Rattle.page_tasks.specs.declared.task.Task.TheVariants as task
use Rattle.page_tasks.specs.declared.task.Reply.{Reply}
use Rattle.page_tasks.specs.declared.task.Halt.{Halt}
use Rattle.page_tasks.specs.declared.task.Halt.TheVariants as halt
use Rattle.page_ground.specs.Ground.{Ground, page_of, wiki_of}
use Rattle.page_tasks.specs.Tasks.{at_halt, HaltOf, MachineReady, MachineWaits, HasHalted}
use Rattle.page_tasks.specs.Going.{MachineGoes, IsInvocationHalt, IsLoadHalt, Halts, GoesOn}
use Rattle.page_tasks.specs.Falling.{StepsFall, FallsAt, Falls}

work_is : (v w : Work) → Running v ≡ Running w → v ≡ w
work_is v w e = cc

-- SUMS
abbrev Comes : Event → Halt → Type 0
Comes (event.Asks q) h = h ≡ halt.Asks q
Comes e h = (r : Reply) × (h ≡ halt.Comes r)

invocation_comes : (s : StoreView) (e : Event) (h : Halt) → IsInvocationHalt s e h → Comes e h
invocation_comes s (event.Over o) h i = (_, i)
invocation_comes s (event.Spent w) h i = (_, i)
invocation_comes s (event.Asks q) h i = i

load_comes : (s : StoreView) (e : Event) (h : Halt) → IsLoadHalt s e h → Comes e h
load_comes s (event.Over o) h i = (_, i.1)
load_comes s (event.Spent w) h i = (_, i)
load_comes s (event.Asks q) h i = i

calls_sum : (e : Event) (h : Halt) (old new : Left) (calls calls' : ℕ) → Comes e h → BackAt e old calls new calls' → new.calls + at_halt h calls' ≡ old.calls + calls
calls_sum (event.Over o) h old new calls calls' i k = rw i.1 (omega (arith, k.0))
calls_sum (event.Spent w) h old new calls calls' i k = rw i.1 (omega (arith, k.0))
calls_sum (event.Asks q) h old new calls calls' i k = rw i k

none_sum : (h : Halt) (a b : ℕ) → a ≡ b → a + at_halt h 0 ≡ b + 0
none_sum (halt.Comes r) a b e = omega (arith, e)
none_sum (halt.Invokes job) a b e = omega (arith, e)
none_sum (halt.Asks q) a b e = omega (arith, e)

module _ (s : StoreView) (left : Left) (k : ℕ) (m : Machine) (s' : StoreView) (left' : Left) (k' : ℕ) (m' : Machine) (e : Event) (c : MachineGoes s left k m s' left' k' m' e) where
  depth_same : left'.depth ≡ left.depth
  depth_same = ap (λ (l : Left). l.depth) c.takes

  templates_same : left'.templates ≡ left.templates
  templates_same = ap (λ (l : Left). l.templates) c.takes

  -- WITHOUT A PLACE
  invocation_of : (h : Halt) (e : Event) → IsInvocationHalt s' e h → HaltOf (task.Invocation m') h
  invocation_of h (event.Over o) i = rw i tt
  invocation_of h (event.Spent w) i = rw i tt
  invocation_of h (event.Asks q) i = rw i tt

  load_of : (b : Begun) (h : Halt) (e : Event) → IsLoadHalt s' e h → HaltOf (task.Load b m') h
  load_of b h (event.Over o) i = rw i.1 i.3
  load_of b h (event.Spent w) i = rw i tt
  load_of b h (event.Asks q) i = rw i tt

  pub invocation_halts : (h : Halt) → IsInvocationHalt s' e h → Halts s left k (task.Invocation m) s' left' k' (record { task = task.Invocation m'; halt = h })
  invocation_halts h i = record {
    of = c.of.0;
    halts = invocation_of h e i;
    ground = λ g same. c.world ∙ same;
    later = c.later;
    sums = record { calls = calls_sum e h left left' m.state.calls m'.state.calls (invocation_comes s' e h i) c.back; depth = none_sum h left'.depth left.depth depth_same; templates = none_sum h left'.templates left.templates templates_same };
    rises = c.counts.0;
    paid = c.counts.1;
  }

  pub load_halts : (b : Begun) (h : Halt) → is_module b.title.ns ≡ true → IsLoadHalt s' e h → Halts s left k (task.Load b m) s' left' k' (record { task = task.Load b m'; halt = h })
  load_halts b h named i = record {
    of = (c.of.0, named);
    halts = load_of b h e i;
    ground = λ g same. c.world ∙ same;
    later = c.later;
    sums = record { calls = calls_sum e h left left' m.state.calls m'.state.calls (load_comes s' e h i) c.back; depth = none_sum h left'.depth left.depth depth_same; templates = none_sum h left'.templates left.templates templates_same };
    rises = c.counts.0;
    paid = c.counts.1;
  }

  -- WHAT IT TAKES
  nodes_same : left'.nodes ≡ left.nodes
  nodes_same = ap (λ (l : Left). l.nodes) c.takes

  steps_taken : left'.steps ≤ left.steps
  steps_taken = omega (arith, c.counts.0, c.counts.1)

  falls_by : (e : Event) (h : Halt) → Comes e h → StepsFall e left.steps left'.steps → FallsAt h left.steps (2 * left.nodes + 0) left'.steps (2 * left'.nodes + 0)
  falls_by (event.Over o) h i f = rw i.1 (steps_taken, omega (arith, nodes_same))
  falls_by (event.Spent w) h i f = rw i.1 (steps_taken, omega (arith, nodes_same))
  falls_by (event.Asks q) h i f = rw i (f, omega (arith, nodes_same))

  pub invocation_falls : (h : Halt) → IsInvocationHalt s' e h → StepsFall e left.steps left'.steps → Falls left (task.Invocation m) left' (record { task = task.Invocation m'; halt = h })
  invocation_falls h i f = falls_by e h (invocation_comes s' e h i) f

  pub load_falls : (b : Begun) (h : Halt) → IsLoadHalt s' e h → StepsFall e left.steps left'.steps → Falls left (task.Load b m) left' (record { task = task.Load b m'; halt = h })
  load_falls b h i f = falls_by e h (load_comes s' e h i) f

  -- AT A PLACE
  module _ (g : Ground) (modules : Modules) (p : Place) (n : ℕ) (counted : k' ≡ k + n) (same : m.state.codes.world ≡ g.world) (stood : MachineReady g modules s left m p) where
    abbrev there : Place
    there = gone p s.heap s'.heap n

    abbrev Ended : JobOutcome → Response Answer → Left → ℕ → Type 0
    Ended so says l high = EndsAs (wiki_of g modules) (page_of g) there stood.work so says l high

    abbrev Came : Event → Type 0
    Came (event.Over o) = Ended (end_outcome (end_of (outcome_seen s'.texts o))) (Gives (end_told stood.work s'.heap (outcome_seen s'.texts o))) left' m'.height
    Came (event.Spent w) = Ended (ending.Spent w) (spent_told stood.work w) left' m'.height
    Came (event.Asks q) = (next_of (wiki_of g modules) (page_of g) there ≡ Wants (OfLua q) left') × MachineWaits g modules s' m' there

    goes_to : GoIs (world_seen g.world) (point_of s m.state m.next) (slots_of s m.state) left m.state.calls (stop_seen s' m'.state e (funds_after left' m'.state n))
    goes_to =
        (subst (λ (w : World). MachineCanGo (world_seen w) (point_of s m.state m.next) (slots_of s m.state) left m.state.calls → GoIs (world_seen w) (point_of s m.state m.next) (slots_of s m.state) left m.state.calls (stop_seen s' m'.state e (funds_after left' m'.state n))) same (c.goes n counted))
        (stood.tally, record { within = p.within; world = world (wiki_of g modules) (page_of g); work = stood.work; first = p.first; given = p.given; at = stood.at })

    all_back : (l : Left) (n : ℕ) → n ≡ 0 → record l { calls = l.calls + n } ≡ l
    all_back l n e = let z : l.calls + n ≡ l.calls = omega (arith, e) in ap (λ x. record l { calls = x }) z

    comes_by : (e : Event) → GoIs (world_seen g.world) (point_of s m.state m.next) (slots_of s m.state) left m.state.calls (stop_seen s' m'.state e (funds_after left' m'.state n)) → BackAt e left m.state.calls left' m'.state.calls → Came e × LeavesAlone p.within s.heap s'.heap there.within
    comes_by (event.Over o) i back =
        let x = machine_ends (world_seen g.world) (wiki_of g modules) (page_of g) p (point_of s m.state m.next) (slots_of s m.state) left m.state.calls m.height stood (outcome_seen s'.texts o) (slots_of s' m'.state) left' m'.state.calls m'.state.height n i in (
          subst (λ (l : Left). Ended (end_outcome (end_of (outcome_seen s'.texts o))) (Gives (end_told stood.work s'.heap (outcome_seen s'.texts o))) l m'.height) (all_back left' m'.state.calls back.1)
              (subst (Ended (end_outcome (end_of (outcome_seen s'.texts o))) (Gives (end_told stood.work s'.heap (outcome_seen s'.texts o))) (record left' { calls = left'.calls + m'.state.calls })) (sym c.height) x.0),
          going_leaves p.within s.heap s'.heap x.1,
        )
    comes_by (event.Spent w) i back =
        let x = machine_is_spent (world_seen g.world) (wiki_of g modules) (page_of g) p (point_of s m.state m.next) (slots_of s m.state) left m.state.calls m.height stood w s'.heap left' m'.state.calls m'.state.height n i in
        (subst (Ended (ending.Spent w) (spent_told stood.work w) left') (sym c.height) x.0, going_leaves p.within s.heap s'.heap x.1)
    comes_by (event.Asks q) i back =
        let x = machine_asks (world_seen g.world) (wiki_of g modules) (page_of g) p (point_of s m.state m.next) (slots_of s m.state) left m.state.calls m.height stood q (frames_of s' m'.state) (slots_of s' m'.state) left' m'.state.calls m'.state.height n i in
        ((x.1, record { question = q; left = left'; stood = subst (MachineStands (world_seen g.world) (world (wiki_of g modules) (page_of g)) there (Asking q (frames_of s' m'.state)) (slots_of s' m'.state) left' m'.state.calls) (sym c.height) x.0 }), going_leaves p.within s.heap s'.heap x.2)

    comes : Came e × LeavesAlone p.within s.heap s'.heap there.within
    comes = comes_by e goes_to c.back

    invocation_at : (job : Job) → p.task ≡ Running (Invoke job) → (h : Halt) (e : Event) → IsInvocationHalt s' e h → Came e → HasHalted g modules s' left' (task.Invocation m') there h
    invocation_at job is h (event.Over o) i x =
        let work : stood.work ≡ Invoke job = work_is stood.work (Invoke job) (sym stood.is ∙ is) in
        rw i (record {
          task = (job, is);
          reply = x.reply;
          comes = x.comes;
          says = x.says_so ∙ ap (λ w. Gives (end_told w s'.heap (outcome_seen s'.texts o))) work ∙ ap (λ t. Gives (Expanded t)) (end_is_told (end_of (outcome_seen s'.texts o)));
          leaves = x.leaves;
          height = tt;
          ends_with = (job, is, subst (λ w. EndedSo (wiki_of g modules) (page_of g) there w (end_outcome (end_of (outcome_seen s'.texts o)))) work x.ends_so);
        })
    invocation_at job is h (event.Spent w) i x =
        let work : stood.work ≡ Invoke job = work_is stood.work (Invoke job) (sym stood.is ∙ is) in
        rw i (record {
          task = (job, is);
          reply = x.reply;
          comes = x.comes;
          says = x.says_so ∙ ap (λ v. spent_told v w) work;
          leaves = x.leaves;
          height = tt;
          ends_with = (job, is, subst (λ v. EndedSo (wiki_of g modules) (page_of g) there v (ending.Spent w)) work x.ends_so);
        })
    invocation_at job is h (event.Asks q) i x = rw i (x.0, record { task = (job, is); waits = x.1 })

    load_at : (b : Begun) → p.task ≡ Running (DataOf b.title) → p.first.steps ≡ b.steps → (h : Halt) (e : Event) → IsLoadHalt s' e h → Came e → HasHalted g modules s' left' (task.Load b m') there h
    load_at b is steps h (event.Over o) i x =
        let work : stood.work ≡ DataOf b.title = work_is stood.work (DataOf b.title) (sym stood.is ∙ is) in
        rw i.1 (record {
          task = (is, steps);
          reply = x.reply;
          comes = x.comes;
          says = x.says_so ∙ ap (λ w. Gives (end_told w s'.heap (outcome_seen s'.texts o))) work ∙ ap Gives (sym i.2);
          leaves = x.leaves;
          height = subst (λ w. KnowsHeight w x.reply.tally.height m'.height) work x.height;
          ends_with = tt;
        })
    load_at b is steps h (event.Spent w) i x =
        let work : stood.work ≡ DataOf b.title = work_is stood.work (DataOf b.title) (sym stood.is ∙ is) in
        rw i (record { task = (is, steps); reply = x.reply; comes = x.comes; says = x.says_so ∙ ap (λ v. spent_told v w) work; leaves = x.leaves; height = tt; ends_with = tt })
    load_at b is steps h (event.Asks q) i x = rw i (x.0, record { task = (is, steps); waits = x.1 })

  pub invocation_goes : (h : Halt) → IsInvocationHalt s' e h → (n : ℕ) → k' ≡ k + n → GoesOn s left (task.Invocation m) s' left' n (record { task = task.Invocation m'; halt = h })
  invocation_goes h i n counted g same modules agree p r =
      let x = comes g modules p n counted same r.stands in
      record { halted = invocation_at g modules p n counted same r.stands r.task.0 r.task.1 h e i x.0; alone = x.1 }

  pub load_goes : (b : Begun) (h : Halt) → IsLoadHalt s' e h → (n : ℕ) → k' ≡ k + n → GoesOn s left (task.Load b m) s' left' n (record { task = task.Load b m'; halt = h })
  load_goes b h i n counted g same modules agree p r =
      let x = comes g modules p n counted same r.stands in
      record { halted = load_at g modules p n counted same r.stands b r.task.0 r.task.1 h e i x.0; alone = x.1 }

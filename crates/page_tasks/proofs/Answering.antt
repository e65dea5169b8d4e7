-- A run of Lua goes on with an answer, also with one that is put into the store first.
use Rattle.std.proofs.Common.{◌≡◌, ℕ, ◌+◌, ◌<◌, ◌≤◌, ◌^◌, max, Result, Ok, Err, refl, sym, ap, ◌∙◌, subst, arith}
use Rattle.std.specs.Prelude.{List, [], IfOk, OnOk}
use Rattle.page_run.specs.WkBaseDeclaredLeftLeft.{Left}
use Rattle.page_run.specs.Outcome.{Outcome}
use Rattle.page_run.specs.State.{Gives as Says, Exhausts, Reply as PlainReply}
use Rattle.page_run.specs.declared.which.Which.{Which}
use Rattle.lua_code.specs.LuaHeapProc.{Proc}
use Rattle.lua_code.specs.LuaHeapValue.{Value}
use Rattle.lua_code.specs.LuaHeapHeap.{Heap}
use Rattle.lua_machine.specs.LuaHeapReach.{Set, union}
use Rattle.lua_code.specs.LuaMeaningWorld.{Modules}
use Rattle.page_ground.specs.LuaMeaningQuestions.{Answer}
use Rattle.lua_machine.specs.LuaMeaningActs.{Jump}
use Rattle.page_ground.specs.LuaMeaningStart.{Work, Invoke, DataOf}
use Rattle.mw_frame.specs.declared.question.Ask.{Ask}
use Rattle.lua_code.specs.LuaSlotsCode.{CWorld}
use Rattle.lua_machine.specs.LuaSlotsSlots.{Slots}
use Rattle.lua_machine.specs.LuaSlotsPoints.{SFrame, Point, Gives}
use Rattle.page_ground.specs.LuaPointsTold.{IsToldAs}
use Rattle.lua_machine.specs.LuaPointsClauses.{GoesOnWith as AnswersWith}
use Rattle.lua_machine.specs.LuaStoreSeen.{StoreView}
use Rattle.lua_machine.specs.LuaStoreParts.{IsLater}
use Rattle.page_ground.proofs.LuaStoreLater.{later-itself, later-then}
use Rattle.lua_machine.specs.LuaStateDeclaredStateState.{State}
use Rattle.lua_machine.specs.LuaStateWorlds.{world_seen}
use Rattle.page_ground.specs.LuaStateSeen.{slots_of, frames_of}
use Rattle.lua_machine.proofs.LuaStateStaying.{frames_stay}
use Rattle.lua_machine.specs.declared.machine.Machine.{Machine}
use Rattle.lua_machine.specs.Moved.{point_of}
use Rattle.lua_machine.specs.Events.{MachineOf}
use Rattle.page_ground.specs.PageMeaningWiki.{world}
use Rattle.wiki_expand.specs.declared.expander.Expander.{Expander}
use Rattle.page_ground.specs.PageMeaningDeclaredOutcomeJobOutcomeTheVariants as ending
use Rattle.page_ground.specs.PageMeaningTasks.{Running, text_of}
use Rattle.page_ground.specs.PagePointsPlaces.{Place, replied}
use Rattle.page_ground.specs.PagePointsMachines.{KnowsHeight, MachineStands, spent_told, EndedSo, EndsAs}
use Rattle.page_ground.specs.PagePointsApart.{LeavesAlone}
use Rattle.page_ground.proofs.PagePointsMachines.{machine_is_answered, machine_is_refused}
use Rattle.page_ground.proofs.PagePointsApart.{nothing_changes, answering_leaves, one_after_another}
use Rattle.page_tasks.specs.declared.task.Begun.{Begun}
use Rattle.page_ground.specs.declared.data.Data.{Data}
use Rattle.page_ground.specs.declared.data.Data.TheVariants as data_
use Rattle.page_ground.specs.Seen.{data_seen}
use Rattle.page_tasks.specs.declared.task.Task.{Task}
use Rattle.page_tasks.specs.declared.task.Task.TheVariants as task
use Rattle.page_tasks.specs.declared.task.Reply.TheVariants as reply
use Rattle.page_tasks.specs.declared.task.Halt.TheVariants as halt
use Rattle.page_tasks.specs.declared.task.Halted.{Halted}
use Rattle.page_ground.specs.Ground.{Ground, page_of, wiki_of}
use Rattle.page_tasks.specs.Tasks.{TaskIn, MachineReady, MachineWaits}
use Rattle.page_tasks.specs.Going.{HeightTold, Halts, HaltsAt, GoesOn, GoesOnWith, ToldFrom, PutsAnswer}
use Rattle.page_tasks.specs.Calls.{MachineIsTold}
use Rattle.page_tasks.specs.Falling.{CanGiveBack, Falls}
use Rattle.page_tasks.proofs.Waiting.{waits_later}
use Rattle.page_tasks.proofs.Passing.{if_ok}

-- by the clauses of its call
pub by_answer : {U E : Type 0} (s : StoreView) (m : Machine) (o : Outcome (List Value) Jump) (high : ℕ) (s₁ : StoreView) (m₁ : Machine) (r : Result U E) → OnOk r (IsLater s s₁) → OnOk r (s₁.heap ≡ s.heap) → OnOk r (m₁.state ≡ m.state) → OnOk r (point_of s₁ m₁.state m₁.next ≡ Gives o (frames_of s₁ m₁.state))
    → OnOk r (slots_of s₁ m₁.state ≡ slots_of s m.state) → OnOk r ((code : CWorld) (q : Ask) (a : Answer) → AnswersWith code q (frames_of s₁ m₁.state) (slots_of s₁ m₁.state) a o) → OnOk r (m₁.height ≡ max m.height (m.state.calls + high)) → OnOk r (MachineIsTold s m o high s₁ m₁)
by_answer s m o high s₁ m₁ (Ok u) later heap state point slots goes_on height = record { later = later; heap = heap; state = state; point = point; slots = slots; goes_on = goes_on; height = height }
by_answer s m o high s₁ m₁ (Err x) later heap state point slots goes_on height = tt

work_is : (v w : Work) → Running v ≡ Running w → v ≡ w
work_is v w e = cc

module _ (s : StoreView) (m : Machine) (o : Outcome (List Value) Jump) (high : ℕ) (s₁ : StoreView) (m₁ : Machine) (of : MachineOf s m) (c : MachineIsTold s m o high s₁ m₁) where
  frames : frames_of s₁ m₁.state ≡ frames_of s m.state
  frames = ap (frames_of s₁) c.state ∙ frames_stay s s₁ c.later m.state of.state

  calls : m₁.state.calls ≡ m.state.calls
  calls = ap (λ (x : State). x.calls) c.state

  -- WITHOUT A PLACE
  pub invocation_told_halts : (l l' : Left) (k k' : ℕ) (s' : StoreView) (x : Halted) → Halts s₁ l k (task.Invocation m₁) s' l' k' x → Halts s l k (task.Invocation m) s' l' k' x
  invocation_told_halts l l' k k' s' x h = record {
    of = h.of;
    halts = h.halts;
    ground = λ g i. h.ground g (ap (λ (y : State). y.codes.world) c.state ∙ i);
    later = later-then s s₁ s' c.later h.later;
    sums = record { calls = h.sums.calls ∙ ap (λ n. l.calls + n) calls; depth = h.sums.depth; templates = h.sums.templates };
    rises = h.rises;
    paid = h.paid;
  }

  pub load_told_halts : (b : Begun) (l l' : Left) (k k' : ℕ) (s' : StoreView) (x : Halted) → Halts s₁ l k (task.Load b m₁) s' l' k' x → Halts s l k (task.Load b m) s' l' k' x
  load_told_halts b l l' k k' s' x h = record {
    of = h.of;
    halts = h.halts;
    ground = λ g i. h.ground g (ap (λ (y : State). y.codes.world) c.state ∙ i);
    later = later-then s s₁ s' c.later h.later;
    sums = record { calls = h.sums.calls ∙ ap (λ n. l.calls + n) calls; depth = h.sums.depth; templates = h.sums.templates };
    rises = h.rises;
    paid = h.paid;
  }

  pub invocation_told_back : (l : Left) → CanGiveBack l (task.Invocation m) → CanGiveBack l (task.Invocation m₁)
  invocation_told_back l b = record { calls = omega (arith, b.calls, calls); depth = b.depth; templates = b.templates }

  pub load_told_back : (b : Begun) (l : Left) → CanGiveBack l (task.Load b m) → CanGiveBack l (task.Load b m₁)
  load_told_back b l k = record { calls = omega (arith, k.calls, calls); depth = k.depth; templates = k.templates }

  -- AT A PLACE it can go on
  module _ (g : Ground) (modules : Modules) (p : Place) (w : MachineWaits g modules s m p) (a : Answer) (K : Set) (told : IsToldAs K p.within s.heap a o) (r : PlainReply Answer) (says : r.response ≡ Says a) (l : Left) (leaves : r.left ≡ l) (knows : KnowsHeight w.stood.work r.tally.height high) where
    abbrev there : Place
    there = record (replied p r) { within = union p.within K }

    abbrev StoodAt : Point → Slots → Left → ℕ → ℕ → Type 0
    StoodAt point slots left calls height = MachineStands (world_seen g.world) (world (wiki_of g modules) (page_of g)) there point slots left calls height

    answers : AnswersWith (world_seen g.world) w.question (frames_of s m.state) (slots_of s m.state) a o
    answers =
        subst (λ (fs : List SFrame). AnswersWith (world_seen g.world) w.question fs (slots_of s m.state) a o) frames
        (subst (λ (x : Slots). AnswersWith (world_seen g.world) w.question (frames_of s₁ m₁.state) x a o) c.slots (c.goes_on (world_seen g.world) w.question a))

    point : point_of s₁ m₁.state m₁.next ≡ Gives o (frames_of s m.state)
    point = c.point ∙ ap (Gives o) frames

    is_ready : MachineReady g modules s₁ l m₁ there
    is_ready =
        let x = machine_is_answered (world_seen g.world) (wiki_of g modules) (page_of g) p w.question (frames_of s m.state) (slots_of s m.state) w.left m.state.calls m.height w.stood a o K answers told r says high knows in
        subst (λ (v : Point). StoodAt v (slots_of s₁ m₁.state) l m₁.state.calls m₁.height) (sym point)
        (subst (λ (v : Slots). StoodAt (Gives o (frames_of s m.state)) v l m₁.state.calls m₁.height) (sym c.slots)
        (subst (λ (v : Left). StoodAt (Gives o (frames_of s m.state)) (slots_of s m.state) v m₁.state.calls m₁.height) leaves
        (subst (λ n. StoodAt (Gives o (frames_of s m.state)) (slots_of s m.state) r.left n m₁.height) (sym calls)
        (subst (λ n. StoodAt (Gives o (frames_of s m.state)) (slots_of s m.state) r.left m.state.calls n) (sym c.height) x))))

    leaves_alone : LeavesAlone p.within s.heap s₁.heap (union p.within K)
    leaves_alone = subst (λ (h : Heap Proc). LeavesAlone p.within s.heap h (union p.within K)) (sym c.heap) (answering_leaves K p.within s.heap a o told)

  -- and goes on
  goes_there : (g : Ground) (modules : Modules) (p p₁ p' : Place) (s' : StoreView) (l' : Left) (x : Halted) → LeavesAlone p.within s.heap s₁.heap p₁.within → HaltsAt g modules s₁ s' l' x p₁ p' → HaltsAt g modules s s' l' x p p'
  goes_there g modules p p₁ p' s' l' x alone h = record { halted = h.halted; alone = one_after_another p.within p₁.within p'.within s.heap s₁.heap s'.heap alone h.alone }

  pub invocation_told_goes : (l l' : Left) (n : ℕ) (s' : StoreView) (x : Halted) (a : Answer) → GoesOn s₁ l (task.Invocation m₁) s' l' n x → ToldFrom s l (task.Invocation m) a o high s' l' n x
  invocation_told_goes l l' n s' x a goes g ground modules agree p w K told r says leaves well =
      let work = work_is w.waits.stood.work (Invoke w.task.0) (sym w.waits.stood.is ∙ w.task.1) in
      let knows : KnowsHeight w.waits.stood.work r.tally.height high = subst (λ v. KnowsHeight v r.tally.height high) (sym work) tt in
      let ready = is_ready g modules p w.waits a K told r says l leaves knows in
      let alone = leaves_alone g modules p w.waits a K told r says l leaves knows in
      let there : Place = record (replied p r) { within = union p.within K } in
      let h = goes g (ap (λ (y : State). y.codes.world) c.state ∙ ground) modules agree there (record { task = w.task; stands = ready }) in
      (_, goes_there g modules p there _ s' l' x alone h)

  pub load_told_goes : (b : Begun) (l l' : Left) (n : ℕ) (s' : StoreView) (x : Halted) (a : Answer) → GoesOn s₁ l (task.Load b m₁) s' l' n x → ToldFrom s l (task.Load b m) a o high s' l' n x
  load_told_goes b l l' n s' x a goes g ground modules agree p w K told r says leaves well =
      let work = work_is w.waits.stood.work (DataOf b.title) (sym w.waits.stood.is ∙ w.task.0) in
      let height : r.tally.height ≡ high = subst (λ v. HeightTold v r.tally.height high) says well in
      let knows : KnowsHeight w.waits.stood.work r.tally.height high = subst (λ v. KnowsHeight v r.tally.height high) (sym work) height in
      let ready = is_ready g modules p w.waits a K told r says l leaves knows in
      let alone = leaves_alone g modules p w.waits a K told r says l leaves knows in
      let there : Place = record (replied p r) { within = union p.within K } in
      let h = goes g (ap (λ (y : State). y.codes.world) c.state ∙ ground) modules agree there (record { task = w.task; stands = ready }) in
      (_, goes_there g modules p there _ s' l' x alone h)

-- AN ANSWER OF THE STORE is told as it is, or is put into the store first
pub tells_at_once : (s : StoreView) (l : Left) (t : Task) (a : Answer) (o : Outcome (List Value) Jump) (high : ℕ) (s' : StoreView) (l' : Left) (n : ℕ) (x : Halted) → ((S : Set) → (K : Set) × IsToldAs K S s.heap a o) → ToldFrom s l t a o high s' l' n x → GoesOnWith s l t (Says a) high s' l' n x
tells_at_once s l t a o high s' l' n x tells goes g ground modules agree p w _ r says leaves well = let k = tells p.within in goes g ground modules agree p w k.0 k.1 r says leaves well

pub tells_put : (s s₁ : StoreView) (l : Left) (t : Task) (a : Answer) (o : Outcome (List Value) Jump) (high : ℕ) (s' : StoreView) (l' : Left) (n : ℕ) (x : Halted) → TaskIn s t → IsLater s s₁ → PutsAnswer s.heap s₁.heap a o → ToldFrom s₁ l t a o high s' l' n x → GoesOnWith s l t (Says a) high s' l' n x
tells_put s s₁ l t a o high s' l' n x of later puts goes g ground modules agree p w there r says leaves well =
    let k = puts.tells p.within there in
    let h = goes g ground modules agree p (waits_later g modules s s₁ later t p of (λ v b i e. puts.stays v b e) w) k.0 k.1 r says leaves well in
    (h.0, record { halted = h.1.halted; alone = one_after_another p.within p.within h.0 s.heap s₁.heap s'.heap (puts.alone p.within) h.1.alone })

pub put_halts : (s s₁ s' : StoreView) (l l' : Left) (k k' : ℕ) (t : Task) (x : Halted) → IsLater s s₁ → Halts s₁ l k t s' l' k' x → Halts s l k t s' l' k' x
put_halts s s₁ s' l l' k k' t x later h = record { of = h.of; halts = h.halts; ground = h.ground; later = later-then s s₁ s' later h.later; sums = h.sums; rises = h.rises; paid = h.paid }

-- a text, or that there is none, has no calls
pub no_calls_fit : (n : ℕ) → 0 ≤ n
no_calls_fit n = omega arith

-- the calls of an answer with the most that were in progress in it
pub calls_fit : (calls left high : ℕ) → left + calls < 2 ^ 64 → high ≤ left → calls + high < 2 ^ 64
calls_fit calls left high a b = omega (arith, a, b)

-- IT IS SPENT with the answer
module _ (m : Machine) (l l' : Left) (back : l' ≡ record l { calls = l.calls + m.state.calls }) where
  pub invocation_refused_falls : (which : Which) → Falls l (task.Invocation m) l' (record { task = task.Invocation m; halt = halt.Comes (reply.Ended (ending.Spent which)) })
  invocation_refused_falls which = (omega (arith, ap (λ (v : Left). v.steps) back), omega (arith, ap (λ (v : Left). v.nodes) back))

  pub load_refused_falls : (b : Begun) (which : Which) → Falls l (task.Load b m) l' (record { task = task.Load b m; halt = halt.Comes (reply.Spent which) })
  load_refused_falls b which = (omega (arith, ap (λ (v : Left). v.steps) back), omega (arith, ap (λ (v : Left). v.nodes) back))

module _ (m : Machine) (which : Which) (s : StoreView) (l l' : Left) (back : l' ≡ record l { calls = l.calls + m.state.calls }) where
  abbrev done : Place → PlainReply Answer → Place
  done p r = record (replied p r) { nodes = p.nodes + 0; within = p.within }

  refused : (g : Ground) (modules : Modules) (p : Place) → MachineWaits g modules s m p → (r : PlainReply Answer) → r.response ≡ Exhausts which → r.left ≡ l
      → (work : Work) × (p.task ≡ Running work) × ((high : ℕ) × EndsAs (wiki_of g modules) (page_of g) (done p r) work (ending.Spent which) (spent_told work which) l' high)
  refused g modules p w r says leaves =
      let x = machine_is_refused (world_seen g.world) (wiki_of g modules) (page_of g) p w.question (frames_of s m.state) (slots_of s m.state) w.left m.state.calls m.height w.stood which r says in
      let same : record r.left { calls = r.left.calls + m.state.calls } ≡ l' = ap (λ (v : Left). record v { calls = v.calls + m.state.calls }) leaves ∙ sym back in
      let zero : p.nodes + 0 ≡ p.nodes = omega arith in
      (w.stood.work, w.stood.is, (x.0, subst (λ n. EndsAs (wiki_of g modules) (page_of g) (record (replied p r) { nodes = n }) w.stood.work (ending.Spent which) (spent_told w.stood.work which) l' x.0) (sym zero) (subst (λ (v : Left). EndsAs (wiki_of g modules) (page_of g) (replied p r) w.stood.work (ending.Spent which) (spent_told w.stood.work which) v x.0) same x.1)))

  sums : (n : ℕ) → l'.calls + 0 ≡ l.calls + m.state.calls
  sums n = omega (arith, ap (λ (v : Left). v.calls) back)

  depth_same : l'.depth ≡ l.depth
  depth_same = ap (λ (v : Left). v.depth) back

  templates_same : l'.templates ≡ l.templates
  templates_same = ap (λ (v : Left). v.templates) back

  steps_same : l'.steps ≡ l.steps
  steps_same = ap (λ (v : Left). v.steps) back

  pub invocation_refused_halts : (k : ℕ) → MachineOf s m → Halts s l k (task.Invocation m) s l' k (record { task = task.Invocation m; halt = halt.Comes (reply.Ended (ending.Spent which)) })
  invocation_refused_halts k of = record {
    of = of;
    halts = tt;
    ground = λ g i. i;
    later = later-itself s;
    sums = record { calls = sums 0; depth = omega (arith, depth_same); templates = omega (arith, templates_same) };
    rises = omega arith;
    paid = omega (arith, steps_same);
  }

  pub load_refused_halts : (k : ℕ) (b : Begun) → TaskIn s (task.Load b m) → Halts s l k (task.Load b m) s l' k (record { task = task.Load b m; halt = halt.Comes (reply.Spent which) })
  load_refused_halts k b of = record {
    of = of;
    halts = tt;
    ground = λ g i. i;
    later = later-itself s;
    sums = record { calls = sums 0; depth = omega (arith, depth_same); templates = omega (arith, templates_same) };
    rises = omega arith;
    paid = omega (arith, steps_same);
  }

  pub invocation_refused : (high : ℕ) → GoesOnWith s l (task.Invocation m) (Exhausts which) high s l' 0 (record { task = task.Invocation m; halt = halt.Comes (reply.Ended (ending.Spent which)) })
  invocation_refused high g ground modules agree p w _ r says leaves well =
      let x = refused g modules p w.waits r says leaves in
      let work = work_is x.0 (Invoke w.task.0) (sym x.1 ∙ w.task.1) in
      let y = x.2.1 in (
        p.within,
        record {
          halted = record {
            task = w.task;
            reply = y.reply;
            comes = y.comes;
            says = y.says_so ∙ ap (λ v. spent_told v which) work;
            leaves = y.leaves;
            height = tt;
            ends_with = (w.task.0, w.task.1, subst (λ v. EndedSo (wiki_of g modules) (page_of g) (done p r) v (ending.Spent which)) work y.ends_so);
          };
          alone = nothing_changes p.within s.heap;
        },
      )

  pub load_refused : (high : ℕ) (b : Begun) → GoesOnWith s l (task.Load b m) (Exhausts which) high s l' 0 (record { task = task.Load b m; halt = halt.Comes (reply.Spent which) })
  load_refused high b g ground modules agree p w _ r says leaves well =
      let x = refused g modules p w.waits r says leaves in
      let work = work_is x.0 (DataOf b.title) (sym x.1 ∙ w.task.0) in
      let y = x.2.1 in (
        p.within,
        record {
          halted = record {
            task = w.task;
            reply = y.reply;
            comes = y.comes;
            says = y.says_so ∙ ap (λ v. spent_told v which) work;
            leaves = y.leaves;
            height = tt;
            ends_with = tt;
          };
          alone = nothing_changes p.within s.heap;
        },
      )

-- an expansion is not told that an allowance is spent
pub expansion_not_refused : (e : Expander) (which : Which) (s : StoreView) (l : Left) (high : ℕ) (s' : StoreView) (l' : Left) (n : ℕ) (x : Halted) → GoesOnWith s l (task.Expansion e) (Exhausts which) high s' l' n x
expansion_not_refused e which s l high s' l' n x g ground modules agree p w there r says leaves well = absurd (exhausts (sym says ∙ well.1))
  where
    exhausts : Exhausts which ≡ Says well.0 → ⊥
    exhausts i = absurd cc

-- data is no text
pub no_text : (d : Data) → text_of (data_seen d) ≡ []
no_text (data_.Tables graph) = refl
no_text (data_.Failed message) = refl

-- A CALL that is the last of its function: what it gave is told so
pub without_text : {E : Type 0} (t : Task) (l : Left) (s' : StoreView) (l' : Left) (r : Result Halted E) (s : StoreView) (k k' : ℕ) (told : List ℕ) (o : Outcome (List Value) Jump) (high : ℕ) → IfOk r (λ x. (n : ℕ) → k' ≡ k + n → (a : Answer) → ToldFrom s l t a o high s' l' n x)
    → IfOk r (λ x. (n : ℕ) → k' ≡ k + n → (a : Answer) → told ≡ text_of a → ToldFrom s l t a o high s' l' n x)
without_text t l s' l' (Ok x) s k k' told o high h = λ n e a is. h n e a
without_text t l s' l' (Err y) s k k' told o high h = tt

module _ {E : Type 0} (l : Left) (t : Task) (s' : StoreView) (l' : Left) (r : Result Halted E) where
  pub at_once : (s : StoreView) (k k' : ℕ) (told : List ℕ) (a : Answer) (o : Outcome (List Value) Jump) → told ≡ text_of a → ((S : Set) → (K : Set) × IsToldAs K S s.heap a o) → IfOk r (λ x. (n : ℕ) → k' ≡ k + n → (b : Answer) → told ≡ text_of b → ToldFrom s l t b o 0 s' l' n x) → IfOk r (λ x. (n : ℕ) → k' ≡ k + n → GoesOnWith s l t (Says a) 0 s' l' n x)
  at_once s k k' told a o is tells h =
      if_ok (λ x. (n : ℕ) → k' ≡ k + n → (b : Answer) → told ≡ text_of b → ToldFrom s l t b o 0 s' l' n x) (λ x. (n : ℕ) → k' ≡ k + n → GoesOnWith s l t (Says a) 0 s' l' n x) r
      (λ x goes n e. tells_at_once s l t a o 0 s' l' n x tells (goes n e a is)) h

  pub put_first : (s s₁ : StoreView) (k k' : ℕ) (told : List ℕ) (a : Answer) (o : Outcome (List Value) Jump) (high : ℕ) → told ≡ text_of a → TaskIn s t → IsLater s s₁ → PutsAnswer s.heap s₁.heap a o → IfOk r (λ x. (n : ℕ) → k' ≡ k + n → (b : Answer) → told ≡ text_of b → ToldFrom s₁ l t b o high s' l' n x)
      → IfOk r (λ x. (n : ℕ) → k' ≡ k + n → GoesOnWith s l t (Says a) high s' l' n x)
  put_first s s₁ k k' told a o high is of later puts h =
      if_ok (λ x. (n : ℕ) → k' ≡ k + n → (b : Answer) → told ≡ text_of b → ToldFrom s₁ l t b o high s' l' n x) (λ x. (n : ℕ) → k' ≡ k + n → GoesOnWith s l t (Says a) high s' l' n x) r
      (λ x goes n e. tells_put s s₁ l t a o high s' l' n x of later puts (goes n e a is)) h

pub expansion_spent_halts : {E : Type 0} (e : Expander) (l l' : Left) (r : Result Halted E) → ((s : StoreView) (k : ℕ) → IfOk r (λ x. Halts s l k (task.Expansion e) s l' k x)) → IfOk r (λ x. (s : StoreView) (k : ℕ) → TaskIn s (task.Expansion e) → Halts s l k (task.Expansion e) s l' k x)
expansion_spent_halts e l l' (Ok x) h = λ s k of. h s k
expansion_spent_halts e l l' (Err n) h = tt

pub expansion_spent_goes : {E : Type 0} (e : Expander) (which : Which) (l l' : Left) (r : Result Halted E) → IfOk r (λ x. (s : StoreView) (high : ℕ) → GoesOnWith s l (task.Expansion e) (Exhausts which) high s l' 0 x)
expansion_spent_goes e which l l' (Ok x) = λ s high. expansion_not_refused e which s l high s l' 0 x
expansion_spent_goes e which l l' (Err n) = tt

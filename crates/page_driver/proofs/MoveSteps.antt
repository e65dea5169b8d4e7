-- THE MOVES OF A PAGE, as the functions make them.
use Rattle.std.proofs.Common.{◌≡◌, ◌⊎◌, inl, inr, ℕ, ◌+◌, ◌-◌, ◌<◌, ◌≤◌, true, false, List, ◌∷◌, Option, Some, None, IsTrue, refl, sym, ap, ◌∙◌, subst, arith}
use Rattle.std.specs.Prelude.{min, is_some}
use Rattle.page_meaning.specs.WkBaseDeclaredLeftLeft.{Left}
use Rattle.lua_code.specs.WkBaseDeclaredTitleTitle.{Title}
use Rattle.lua_code.specs.WkBaseTitles.{is_module, title_text}
use Rattle.page_meaning.specs.PageRunDeclaredWhichWhich.{Which}
use Rattle.page_meaning.specs.PageRunState.{Gives, Exhausts, Reply as PlainReply}
use Rattle.page_meaning.specs.PageRunWalk.{WalkState, pass_repeat, add_if, is_in}
use Rattle.mw_frame.specs.declared.scene.Arg.{Arg}
use Rattle.mw_frame.specs.declared.scene.Scene.{Scene}
use Rattle.mw_frame.specs.declared.scene.Job.{Job}
use Rattle.mw_frame.specs.declared.question.Ask.{Ask}
use Rattle.mw_frame.specs.declared.question.Ask.TheVariants.{Template, Preprocess, Data}
use Rattle.page_meaning.specs.WikiMarkupTrees.{Trees}
use Rattle.page_meaning.specs.ExpandMeaningOutcome.{Reading, Including}
use Rattle.page_tasks.specs.WikiPagesPages.{included_in}
use Rattle.lua_code.specs.LuaMeaningWorld.{Module, Modules}
use Rattle.page_meaning.specs.LuaMeaningQuestions.{Answer, Expanded, NoPage}
use Rattle.page_meaning.specs.LuaMeaningStart.{Invoke, DataOf}
use Rattle.lua_code.specs.LuaSlotsCode.{CModule}
use Rattle.lua_code.specs.LuaSlotsIsCode.{IsModule}
use Rattle.lua_code.specs.Held.{modules_seen}
use Rattle.page_tasks.specs.LuaStoreSeen.{StoreView}
use Rattle.page_tasks.specs.LuaMachineDeclaredMachineMachine.{Machine}
use Rattle.page_meaning.specs.Wiki.{read}
use Rattle.page_meaning.specs.declared.outcome.JobOutcome.{JobOutcome}
use Rattle.page_meaning.specs.Told.{absent, completes}
use Rattle.page_meaning.specs.Outcomes.{outcome_text}
use Rattle.page_meaning.specs.Laws.{IsKept}
use Rattle.page_meaning.specs.Drive.{load}
use Rattle.page_meaning.specs.Tasks.{Task as PlainTask, Running, Expanding, OfLua, OfPage, including, loading, total_or_absent, answer_to}
use Rattle.page_tasks.specs.PagePointsLoads.{IsPaid}
use Rattle.page_tasks.specs.PagePointsPlaces.{EndsWalk, IsFresh}
use Rattle.page_tasks.proofs.PagePointsMoves.{come_to}
use Rattle.page_tasks.proofs.PagePointsLoads.{answer_is_load, kept_is_served, short_is_fresh, new_is_fresh, load_is_kept}
use Rattle.page_tasks.specs.declared.task.Begun.{Begun}
use Rattle.page_tasks.specs.PageGroundDeclaredDataData.{Data as Given}
use Rattle.page_tasks.specs.declared.task.Task.{Task}
use Rattle.page_tasks.specs.declared.task.Task.TheVariants as task
use Rattle.page_tasks.specs.declared.task.Reply.TheVariants as reply
use Rattle.page_tasks.specs.declared.task.Halt.TheVariants as halt
use Rattle.page_tasks.specs.declared.task.Halted.{Halted}
use Rattle.page_tasks.specs.PageGroundDeclaredKeepKept.{Kept}
use Rattle.page_driver.specs.declared.tower.Tower.{Tower}
use Rattle.page_driver.specs.declared.tower.Next.TheVariants as next
use Rattle.page_tasks.specs.PageGroundGround.{Ground, page_of, wiki_of, named_module, AreModulesOf}
use Rattle.page_tasks.specs.PageGroundSeen.{data_seen}
use Rattle.page_tasks.specs.Going.{HeightTold, IsToldWell, Halts, GoesOn, GoesOnWith}
use Rattle.page_tasks.specs.Beginning.{Begins, BeginsWith}
use Rattle.page_tasks.specs.PageGroundKept.{kept_for, keep_with, KeepOf, IsEntry, Keeps, IsShort}
use Rattle.page_driver.specs.Driven.{IsHalted, Driven, Starting, Telling, MovesOn, StartsOn}
use Rattle.page_tasks.specs.Refusing.{start_charge, none_left, refusal}
use Rattle.page_driver.proofs.Refusals.{refused_reply, is_refused, reply_leaves}
use Rattle.page_driver.proofs.Goings.{driven_goes, driven_told}
use Rattle.page_driver.proofs.Hands.{driven_hands, no_data_keeps, text_height, spent_height}
use Rattle.page_driver.proofs.Asks.{AsksFor, driven_begins, driven_answers}
use Rattle.page_tasks.proofs.PageGroundKeepLaws.{entry_is, keep_with_of, keeps_with}

-- A TASK HAS COME TO ITS REPLY, and p was taken off the stack
module _ (g : Ground) (s : StoreView) (left : Left) (k : ℕ) (tower : Tower) (p : Task) where
  abbrev full : Tower
  full = record tower { stack = p ∷ tower.stack }

  pub text_moves : (top : Task) (so : JobOutcome) (s' : StoreView) (left' : Left) (k' : ℕ) (x : Halted) → Halts s left k p s' left' k' x → ((n : ℕ) → k' ≡ k + n → GoesOnWith s left p (Gives (Expanded (outcome_text so))) 0 s' left' n x)
      → MovesOn g s left k full (record { task = top; halt = halt.Comes (reply.Ended so) }) s' left' k' tower (next.On x)
  text_moves top so s' left' k' x h goes root first k₀ fits d =
      driven_told g root first k₀ s left k tower s' left' k' x p (Gives (Expanded (outcome_text so))) 0
      (driven_hands g root first k₀ s left k full tower top p (reply.Ended so) tower.stack 0 refl refl refl refl d.accounts.keep
      (λ modules agree i next w. no_data_keeps g root first k₀ s left k modules full tower top (reply.Ended so) refl d.halts tt i next w)
      (λ modules agree i q title w is f. text_height g root first k₀ s left k modules (outcome_text so) q title i.halted.reply w i.halted.says is f) d)
      h goes

  none_counted : (n : ℕ) → k ≡ k + n → n ≡ 0
  none_counted n e = omega (arith, e)

  pub spent_moves : (top : Task) (which : Which) (left' : Left) (x : Halted) → Halts s left k p s left' k x → ((high : ℕ) → GoesOnWith s left p (Exhausts which) high s left' 0 x)
      → MovesOn g s left k full (record { task = top; halt = halt.Comes (reply.Spent which) }) s left' k tower (next.On x)
  spent_moves top which left' x h goes root first k₀ fits d =
      driven_told g root first k₀ s left k tower s left' k x p (Exhausts which) 0
      (driven_hands g root first k₀ s left k full tower top p (reply.Spent which) tower.stack 0 refl refl refl refl d.accounts.keep
      (λ modules agree i next w. no_data_keeps g root first k₀ s left k modules full tower top (reply.Spent which) refl d.halts tt i next w)
      (λ modules agree i q title w is f. spent_height g root first k₀ s left k which i.halted.reply 0 i.halted.says) d)
      h (λ n e. subst (λ c. GoesOnWith s left p (Exhausts which) 0 s left' c x) (sym (none_counted n e)) (goes 0))

  -- data is kept
  module _ (b : Begun) (m : Machine) (given : Given) where
    abbrev kept : Kept
    kept = record { given = given; charge = b.steps - left.steps; height = min m.height left.calls }

    abbrev tower' : Tower
    tower' = record tower { keep = keep_with tower.keep b.title kept }

    least : (a c : ℕ) → a ≤ c → min a c ≡ a
    least a c le = grind (arith, le)

    module _ (root : PlainTask) (first : Left) (k₀ : ℕ) (modules : Modules) (i : IsHalted g modules root first k₀ s left k full (record { task = task.Load b m; halt = halt.Comes (reply.Data given) })) where
      paid : IsKept (wiki_of g modules) (page_of g) b.title (data_seen given) (i.top.first.steps - i.halted.reply.left.steps) i.halted.reply.tally.height × IsPaid i.top.first i.halted.reply
      paid = load_is_kept (wiki_of g modules) (page_of g) b.title i.top i.halted.reply (data_seen given) i.halted.task.0
          (come_to (wiki_of g modules) (page_of g) root first i.top i.below i.now i.halted.reply i.standing.going i.halted.comes) i.halted.says

      height_is : min m.height left.calls ≡ i.halted.reply.tally.height
      height_is =
          let calls = ap (λ (l : Left). l.calls) i.halted.leaves in
          least m.height left.calls (omega (arith, i.halted.height, paid.1.covers, paid.1.keeps, calls)) ∙ sym i.halted.height

      charge_is : b.steps - left.steps ≡ i.top.first.steps - i.halted.reply.left.steps
      charge_is = omega (arith, i.halted.task.1, ap (λ (l : Left). l.steps) i.halted.leaves)

      entry : IsEntry g modules (b.title, kept)
      entry = subst (λ n. IsKept (wiki_of g modules) (page_of g) b.title (data_seen given) n (min m.height left.calls)) (sym charge_is)
          (subst (λ n. IsKept (wiki_of g modules) (page_of g) b.title (data_seen given) (i.top.first.steps - i.halted.reply.left.steps) n) (sym height_is) paid.0)

      keeps : is_module b.title.ns ≡ true → (next : WalkState) → EndsWalk i.top.task i.halted.reply i.now next → Keeps g modules tower'.keep next
      keeps named next w =
          let e = subst (λ x. EndsWalk x i.halted.reply i.now next) i.halted.task.0 w in
          keeps_with g modules tower.keep b.title kept i.now next named entry (e.1 ∙ ap (λ x. add_if (completes x) (title_text b.title) i.now.completed_modules) i.halted.says) i.standing.keeps

      told : HeightTold i.halted.reply.response i.halted.reply.tally.height (min m.height left.calls)
      told = subst (λ v. HeightTold v i.halted.reply.tally.height (min m.height left.calls)) (sym i.halted.says) (sym height_is)

    pub data_moves : (s' : StoreView) (left' : Left) (k' : ℕ) (x : Halted) → Halts s left k p s' left' k' x → ((n : ℕ) → k' ≡ k + n → GoesOnWith s left p (Gives (data_seen given)) (min m.height left.calls) s' left' n x)
        → MovesOn g s left k full (record { task = task.Load b m; halt = halt.Comes (reply.Data given) }) s' left' k' tower' (next.On x)
    data_moves s' left' k' x h goes root first k₀ fits d =
        driven_told g root first k₀ s left k tower' s' left' k' x p (Gives (data_seen given)) (min m.height left.calls)
        (driven_hands g root first k₀ s left k full tower' (task.Load b m) p (reply.Data given) tower.stack (min m.height left.calls) refl refl refl refl (keep_with_of tower.keep b.title kept d.accounts.keep (d.of.1, d.halts))
        (λ modules agree i next w. keeps root first k₀ modules i d.of.1 next w)
        (λ modules agree i q title w is f. told root first k₀ modules i) d)
        h goes

-- A TASK BEGINS above the one that asks
pub starts_on : (g : Ground) (s : StoreView) (left : Left) (k : ℕ) (tower : Tower) (t : Task) (s' : StoreView) (left' : Left) (k' : ℕ) (x : Halted) → Halts s left k t s' left' k' x → ((n : ℕ) → k' ≡ k + n → GoesOn s left t s' left' n x) → StartsOn g s left k tower t s' left' k' tower (next.On x)
starts_on g s left k tower t s' left' k' x h goes root first k₀ fits st = driven_goes g root first k₀ s left k tower s' left' k' x t st h goes

module _ (g : Ground) (s : StoreView) (left : Left) (k : ℕ) (tower : Tower) (t : Task) where
  abbrev with_top : Tower
  with_top = record tower { stack = t ∷ tower.stack }

  pub asks_job : (job : Job) (root : PlainTask) (first : Left) (k₀ : ℕ) → Driven g root first k₀ s left k tower (record { task = t; halt = halt.Invokes job }) → AsksFor g s left t (halt.Invokes job) (OfPage job)
  asks_job job root first k₀ d = record { counts = λ n. refl; waits = d.halts.0; asks = λ modules p h. h }

  pub asks_lua : (q : Ask) (root : PlainTask) (first : Left) (k₀ : ℕ) → Driven g root first k₀ s left k tower (record { task = t; halt = halt.Asks q }) → AsksFor g s left t (halt.Asks q) (OfLua q)
  asks_lua q root first k₀ d = record { counts = λ n. refl; waits = d.halts; asks = λ modules p h. h }

  pub invocation_starts : (job : Job) (inner : Task) (s' : StoreView) → Begins g (Running (Invoke job)) s s' inner → (root : PlainTask) (first : Left) (k₀ : ℕ) → Driven g root first k₀ s left k tower (record { task = t; halt = halt.Invokes job }) → Starting g root first k₀ s' left k with_top inner
  invocation_starts job inner s' b root first k₀ d =
      driven_begins g root first k₀ s left k tower with_top t (halt.Invokes job) (OfPage job) (asks_job job root first k₀ d) d inner s' (Running (Invoke job)) b.begins refl refl refl refl
      (λ modules agree began. b.starts modules agree left began) (λ modules agree. refl) (λ modules agree now keeps. tt)

  pub text_starts : (scene : Scene) (text : List ℕ) (inner : Task) → Begins g (Expanding (Reading (read text) scene)) s s inner → (root : PlainTask) (first : Left) (k₀ : ℕ) → Driven g root first k₀ s left k tower (record { task = t; halt = halt.Asks (Preprocess scene text) }) → Starting g root first k₀ s left k with_top inner
  text_starts scene text inner b root first k₀ d =
      driven_begins g root first k₀ s left k tower with_top t (halt.Asks (Preprocess scene text)) (OfLua (Preprocess scene text)) (asks_lua (Preprocess scene text) root first k₀ d) d inner s (Expanding (Reading (read text) scene)) b.begins refl refl refl refl
      (λ modules agree began. b.starts modules agree left began) (λ modules agree. refl) (λ modules agree now keeps. tt)

  pub template_starts : (scene : Scene) (title : Title) (args : List Arg) (trees : Trees) (inner : Task) → included_in g.pages title ≡ Some trees → Begins g (Expanding (Including trees title record scene { args = args })) s s inner → (root : PlainTask) (first : Left) (k₀ : ℕ)
      → Driven g root first k₀ s left k tower (record { task = t; halt = halt.Asks (Template scene title args) }) → Starting g root first k₀ s left k with_top inner
  template_starts scene title args trees inner e b root first k₀ d =
      driven_begins g root first k₀ s left k tower with_top t (halt.Asks (Template scene title args)) (OfLua (Template scene title args)) (asks_lua (Template scene title args) root first k₀ d) d inner s (Expanding (Including trees title record scene { args = args })) b.begins refl refl refl refl
      (λ modules agree began. b.starts modules agree left began) (λ modules agree. ap (λ o. including o title scene args) e) (λ modules agree now keeps. tt)

  -- THERE IS NO SUCH PAGE
  well_none : (x : Task) → IsToldWell x (absent left) 0
  well_none (task.Expansion e) = (NoPage, refl)
  well_none (task.Invocation m) = tt
  well_none (task.Load b m) = refl

  no_charge : (w : WalkState) → w ≡ pass_repeat 0 w
  no_charge w = let z : w.repeat_charges ≡ w.repeat_charges + 0 = omega arith in ap (λ n. record w { repeat_charges = n }) z

  none_told : (q : Ask) → ((modules : Modules) → AreModulesOf g modules → answer_to (wiki_of g modules) (page_of g) (OfLua q) left ≡ absent left) → (root : PlainTask) (first : Left) (k₀ : ℕ)
      → Driven g root first k₀ s left k tower (record { task = t; halt = halt.Asks q }) → Telling g root first k₀ s left k tower t (Gives NoPage) 0
  none_told q bare root first k₀ d =
      let kept : tower.repeat_charges ≡ tower.repeat_charges + 0 = omega arith in
      driven_answers g root first k₀ s left k tower tower t (halt.Asks q) (OfLua q) (asks_lua q root first k₀ d) d left 0 (Gives NoPage) 0 refl refl kept refl refl (omega arith)
      (λ modules agree now keeps. record { reply = absent left; is = bare modules agree; says_so = refl; leaves = refl; invokes = refl; walks = no_charge now; well = well_none t })

  pub none_moves : (q : Ask) → ((modules : Modules) → AreModulesOf g modules → answer_to (wiki_of g modules) (page_of g) (OfLua q) left ≡ absent left) → (s' : StoreView) (left' : Left) (k' : ℕ) (x : Halted) → Halts s left k t s' left' k' x → ((n : ℕ) → k' ≡ k + n → GoesOnWith s left t (Gives NoPage) 0 s' left' n x)
      → MovesOn g s left k tower (record { task = t; halt = halt.Asks q }) s' left' k' tower (next.On x)
  none_moves q bare s' left' k' x h goes root first k₀ fits d = driven_told g root first k₀ s left k tower s' left' k' x t (Gives NoPage) 0 (none_told q bare root first k₀ d) h goes

  pub no_template : (scene : Scene) (title : Title) (args : List Arg) → included_in g.pages title ≡ None → (modules : Modules) → answer_to (wiki_of g modules) (page_of g) (OfLua (Template scene title args)) left ≡ absent left
  no_template scene title args e modules = ap (λ o. total_or_absent (wiki_of g modules) (page_of g) (including o title scene args) left) e

  pub no_module : (title : Title) (modules : Modules) → modules title ≡ None → answer_to (wiki_of g modules) (page_of g) (OfLua (Data title)) left ≡ absent left
  no_module title modules e = ap (λ o. total_or_absent (wiki_of g modules) (page_of g) (loading o title) left) e

  -- DATA
  held : (o : Option Module) (c : Option CModule) → IsModule o c → IsTrue (is_some c) → (m : Module) × (o ≡ Some m)
  held None None i h = absurd cc
  held None (Some c) i h = absurd i
  held (Some m) None i h = absurd i
  held (Some m) (Some c) i h = (m, refl)

  lacks : (o : Option Module) (c : Option CModule) → IsModule o c → c ≡ None → o ≡ None
  lacks None c i h = refl
  lacks (Some m) None i h = absurd i
  lacks (Some m) (Some c) i h = absurd cc

  pub module_held : (title : Title) (modules : Modules) → AreModulesOf g modules → IsTrue (is_some (modules_seen g.world.modules.now (title_text title))) → (m : Module) × (modules title ≡ Some m)
  module_held title modules agree h = held (modules title) (modules_seen g.world.modules.now (title_text title)) (agree.agree.modules title) h

  pub module_lacks : (title : Title) (modules : Modules) → AreModulesOf g modules → (named_module (title_text title) ≡ false) ⊎ (modules_seen g.world.modules.now (title_text title) ≡ None) → modules title ≡ None
  module_lacks title modules agree (inl h) = agree.named title h
  module_lacks title modules agree (inr h) = lacks (modules title) (modules_seen g.world.modules.now (title_text title)) (agree.agree.modules title) h

  fresh_by : (title : Title) (modules : Modules) (now : WalkState) → is_module title.ns ≡ true → KeepOf tower.keep → Keeps g modules tower.keep now → (o : Option Kept) → kept_for tower.keep title ≡ o → IsShort o left → IsFresh (wiki_of g modules) (page_of g) (Running (DataOf title)) left now
  fresh_by title modules now named of keeps None e short = new_is_fresh (wiki_of g modules) (page_of g) title left now (keeps.names title named ∙ ap is_some e)
  fresh_by title modules now named of keeps (Some x) e short = short_is_fresh (wiki_of g modules) (page_of g) title (data_seen x.given) x.charge x.height left now (entry_is g modules tower.keep now title x named of keeps e) short

  pub load_starts : (title : Title) (inner : Task) (s' : StoreView) → is_module title.ns ≡ true → IsTrue (is_some (modules_seen g.world.modules.now (title_text title))) → IsShort (kept_for tower.keep title) left → BeginsWith g (Running (DataOf title)) left.steps s s' inner → (root : PlainTask) (first : Left) (k₀ : ℕ)
      → Driven g root first k₀ s left k tower (record { task = t; halt = halt.Asks (Data title) }) → Starting g root first k₀ s' left k with_top inner
  load_starts title inner s' named there short b root first k₀ d =
      driven_begins g root first k₀ s left k tower with_top t (halt.Asks (Data title)) (OfLua (Data title)) (asks_lua (Data title) root first k₀ d) d inner s' (Running (DataOf title)) b.begins refl refl refl refl
      (λ modules agree began. b.starts modules agree left began refl)
      (λ modules agree. ap (λ o. loading o title) (module_held title modules agree there).1)
      (λ modules agree now keeps. fresh_by title modules now named d.accounts.keep keeps (kept_for tower.keep title) refl short)

  -- what was kept is told
  well_kept : (x : Task) (r : PlainReply Answer) (a : Answer) (high : ℕ) → r.response ≡ Gives a → r.tally.height ≡ high → IsToldWell x r high
  well_kept (task.Expansion e) r a high says h = (a, says)
  well_kept (task.Invocation m) r a high says h = tt
  well_kept (task.Load b m) r a high says h = subst (λ v. HeightTold v r.tally.height high) (sym says) h

  -- AN INVOCATION THAT CAN'T BE PAID is told so
  refused_told : (job : Job) → left.steps < start_charge → (root : PlainTask) (first : Left) (k₀ : ℕ) → Driven g root first k₀ s left k tower (record { task = t; halt = halt.Invokes job }) → Telling g root first k₀ s (none_left left) k tower t (Gives refusal) 0
  refused_told job h root first k₀ d =
      let same : tower.repeat_charges ≡ tower.repeat_charges + 0 = omega arith in
      driven_answers g root first k₀ s left k tower tower t (halt.Invokes job) (OfPage job) (asks_job job root first k₀ d) d (none_left left) 0 (Gives refusal) 0 refl refl same refl refl (omega arith)
      (λ modules agree now keeps. record {
        reply = refused_reply job left;
        is = is_refused (wiki_of g modules) (page_of g) job left h;
        says_so = refl;
        leaves = reply_leaves job left;
        invokes = refl;
        walks = no_charge now;
        well = well_kept t (refused_reply job left) refusal 0 refl refl;
      })

  pub refused_moves : (job : Job) → left.steps < start_charge → (s' : StoreView) (left' : Left) (k' : ℕ) (x : Halted) → Halts s (none_left left) k t s' left' k' x → ((n : ℕ) → k' ≡ k + n → GoesOnWith s (none_left left) t (Gives refusal) 0 s' left' n x)
      → MovesOn g s left k tower (record { task = t; halt = halt.Invokes job }) s' left' k' tower (next.On x)
  refused_moves job h s' left' k' x halts goes root first k₀ fits d =
      driven_told g root first k₀ s (none_left left) k tower s' left' k' x t (Gives refusal) 0 (refused_told job h root first k₀ d) halts goes

  module _ (title : Title) (kept : Kept) (named : is_module title.ns ≡ true) (there : IsTrue (is_some (modules_seen g.world.modules.now (title_text title)))) (found : kept_for tower.keep title ≡ Some kept) (paid : kept.charge ≤ left.steps) (covered : kept.height ≤ left.calls) where
    abbrev left_after : Left
    left_after = record left { steps = left.steps - kept.charge }

    abbrev tower_after : Tower
    tower_after = record tower { repeat_charges = tower.repeat_charges + kept.charge }

    kept_told : (root : PlainTask) (first : Left) (k₀ : ℕ) → Driven g root first k₀ s left k tower (record { task = t; halt = halt.Asks (Data title) }) → Telling g root first k₀ s left_after k tower_after t (Gives (data_seen kept.given)) kept.height
    kept_told root first k₀ d =
        driven_answers g root first k₀ s left k tower tower_after t (halt.Asks (Data title)) (OfLua (Data title)) (asks_lua (Data title) root first k₀ d) d left_after kept.charge (Gives (data_seen kept.given)) kept.height refl refl refl refl refl (omega (arith, paid))
        (λ modules agree now keeps.
        let m = module_held title modules agree there in
        let entry = entry_is g modules tower.keep now title kept named d.accounts.keep keeps found in
        let completed : is_in (title_text title) now.completed_modules ≡ true = keeps.names title named ∙ ap is_some found in
        let x = kept_is_served (wiki_of g modules) (page_of g) title (data_seen kept.given) kept.charge kept.height left now entry paid covered completed in
        record {
          reply = load (wiki_of g modules) (page_of g) title left;
          is = answer_is_load (wiki_of g modules) (page_of g) title left m.0 m.1;
          says_so = x.gives;
          leaves = x.leaves;
          invokes = x.invokes;
          walks = x.walks;
          well = well_kept t (load (wiki_of g modules) (page_of g) title left) (data_seen kept.given) kept.height x.gives x.height_is;
        })

    pub kept_moves : (s' : StoreView) (left' : Left) (k' : ℕ) (x : Halted) → Halts s left_after k t s' left' k' x → ((n : ℕ) → k' ≡ k + n → GoesOnWith s left_after t (Gives (data_seen kept.given)) kept.height s' left' n x)
        → MovesOn g s left k tower (record { task = t; halt = halt.Asks (Data title) }) s' left' k' tower_after (next.On x)
    kept_moves s' left' k' x h goes root first k₀ fits d = driven_told g root first k₀ s left_after k tower_after s' left' k' x t (Gives (data_seen kept.given)) kept.height (kept_told root first k₀ d) h goes

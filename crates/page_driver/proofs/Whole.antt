-- The whole page: its own expansion begins, and what it comes to is the page; and an invocation by itself.
use Rattle.std.proofs.Common.{◌≡◌, ℕ, ◌+◌, ◌≤◌, [], Option, Some, None, Result, Ok, Err, refl, sym, ap, ◌∙◌, subst, arith}
use Rattle.std.specs.Prelude.{IfSome, IsSome, IfOk, OnOk}
use Rattle.page_meaning.specs.WkBaseDeclaredLeftLeft.{Left}
use Rattle.mw_frame.specs.WkBaseDeclaredLeftLimits.{Limits}
use Rattle.page_meaning.specs.PageRunWalk.{empty_walk}
use Rattle.page_meaning.specs.WikiMarkupTrees.{Trees}
use Rattle.mw_frame.specs.declared.scene.Job.{Job}
use Rattle.page_meaning.specs.ExpandMeaningOutcome.{Reading, page_scene}
use Rattle.lua_code.specs.LuaMeaningWorld.{Modules}
use Rattle.page_meaning.specs.LuaMeaningStart.{Invoke}
use Rattle.page_tasks.specs.LuaStoreSeen.{StoreView}
use Rattle.page_tasks.specs.LuaStoreParts.{nothing}
use Rattle.page_tasks.specs.PageGroundDeclaredNumbersNumbers.{Numbers}
use Rattle.page_tasks.specs.PageGroundNumbered.{none_started, after_start, IsNumbered}
use Rattle.page_tasks.proofs.PageGroundNumbering.{nothing_numbered, numbered_later, start_renumbers}
use Rattle.page_meaning.specs.Told.{Seen, invoked}
use Rattle.page_meaning.specs.Drive.{invoke}
use Rattle.page_meaning.specs.Page.{Page as PlainPage, kept_in, begun_in}
use Rattle.page_meaning.specs.Points.{drive_after}
use Rattle.page_meaning.proofs.DriveLaws.{drive-is}
use Rattle.page_meaning.specs.Tasks.{Task as PlainTask, Running, Expanding, given_text}
use Rattle.page_meaning.proofs.TaskLaws.{pages_are_tasks}
use Rattle.page_tasks.specs.PagePointsPlaces.{beginning, IsFresh}
use Rattle.page_tasks.proofs.PagePointsMoves.{page_begins, nothing_begun, going_with}
use Rattle.page_tasks.proofs.PagePointsApart.{nobody_is_there}
use Rattle.page_tasks.specs.declared.task.Task.{Task}
use Rattle.page_tasks.specs.declared.task.Reply.{Reply}
use Rattle.page_driver.specs.declared.tower.Tower.{Tower}
use Rattle.page_driver.specs.declared.wiki.Page.{Page}
use Rattle.page_driver.specs.declared.job.JobEnd.{JobEnd}
use Rattle.page_tasks.specs.PageGroundGround.{Ground, page_of, wiki_of, AreModulesOf}
use Rattle.page_tasks.specs.Seen.{reply_seen, outcome_of}
use Rattle.page_tasks.specs.Beginning.{Begins}
use Rattle.page_tasks.proofs.Starts.{of_made}
use Rattle.page_tasks.specs.PageGroundKept.{KeepOf, Keeps}
use Rattle.page_driver.specs.Driven.{sum_of, AllWait, IsBelow, IsReady, Starting, IsStarting, Fits, IsExpanded, Expanded, ComesTo}
use Rattle.page_driver.specs.Page.{full_of, IsPage, IsHeldPage}
use Rattle.page_driver.specs.Job.{IsJob, IsEndOf}
use Rattle.page_tasks.specs.Tasks.{calls_in, depth_of, templates_of}
use Rattle.std.specs.List.{AllByRecursion}

-- ANY ROOT starts where nothing waits and nothing is kept
module _ (g : Ground) (root : PlainTask) (s s' : StoreView) (left : Left) (k : ℕ) (tower : Tower) (task : Task) where
  module _ (fresh : (modules : Modules) → IsFresh (wiki_of g modules) (page_of g) root left empty_walk) (b : Begins g root s s' task) (e : tower.stack ≡ []) (e' : tower.keep ≡ []) (e'' : tower.repeat_charges ≡ 0) (n : IsNumbered s tower.numbers) where
    nothing_kept : (modules : Modules) → Keeps g modules [] empty_walk
    nothing_kept modules = record { all = tt; names = λ t i. refl }

    ready : (modules : Modules) → AreModulesOf g modules → IsReady g modules root left k s' left k tower task
    ready modules agree =
        let x = b.starts modules agree left empty_walk in
        record {
          top = record (beginning root left empty_walk) { within = x.within };
          below = [];
          now = empty_walk;
          standing = record {
            going = going_with (wiki_of g modules) (page_of g) root left (beginning root left empty_walk) [] empty_walk 0 x.within (page_begins (wiki_of g modules) (page_of g) root left (fresh modules));
            others = subst (λ ts. AllWait g modules s' ts []) (sym e) tt;
            apart = x.alone.apart [] (nobody_is_there s.heap [] tt);
            keeps = subst (λ keep. Keeps g modules keep empty_walk) (sym e') (nothing_kept modules);
            charges = sym e'';
            begun = omega (arith, nothing_begun (wiki_of g modules) (page_of g) root left);
          };
          ready = x.ready;
        }

    pub root_starts : Starting g root left k s' left k tower task
    root_starts = record {
      of = b.begins.of;
      ground = b.begins.ground;
      can = b.begins.can;
      numbered = numbered_later s s' tower.numbers b.begins.later n;
      accounts = record {
        below = subst (AllByRecursion (IsBelow g s')) (sym e) tt;
        keep = subst KeepOf (sym e') tt;
        calls_are = omega (arith, b.begins.calls, ap (sum_of calls_in) e);
        depth_is = omega (arith, b.begins.depth, ap (sum_of depth_of) e);
        templates_are = omega (arith, b.begins.templates, ap (sum_of templates_of) e);
        rises = omega arith;
        paid = omega (arith, e'');
      };
      placed = ready;
    }

-- a page's own expansion
page_starts : (g : Ground) (trees : Trees) (s : StoreView) (left : Left) (k : ℕ) (tower : Tower) (root : Task) → Begins g (Expanding (Reading trees (page_scene (page_of g)))) s s root → tower.stack ≡ [] → tower.keep ≡ [] → tower.repeat_charges ≡ 0 → IsNumbered s tower.numbers
    → Starting g (Expanding (Reading trees (page_scene (page_of g)))) left k s left k tower root
page_starts g trees s left k tower root b e e' e'' n = root_starts g (Expanding (Reading trees (page_scene (page_of g)))) s s left k tower root (λ modules. tt) b e e' e'' n

-- no run has started in a new store
pub numbers_none : (s : StoreView) (ns : Numbers) → s ≡ nothing → ns ≡ none_started → IsNumbered s ns
numbers_none s ns e e' = subst (IsNumbered s) (sym e') (subst (λ (t : StoreView). IsNumbered t none_started) (sym e) (nothing_numbered nothing refl refl))

-- what is left at the start
pub full_is : (l : Left) (m : Limits) → l.steps ≡ m.steps → l.nodes ≡ m.nodes → l.bytes ≡ m.bytes → l.calls ≡ m.calls → l.depth ≡ m.depth → l.templates ≡ m.templates → l ≡ full_of m
full_is l m a b c d e f =
    ap (λ x. record l { steps = x }) a ∙ ap (λ x. record l { steps = m.steps; nodes = x }) b ∙ ap (λ x. record l { steps = m.steps; nodes = m.nodes; bytes = x }) c ∙ ap (λ x. record l { steps = m.steps; nodes = m.nodes; bytes = m.bytes; calls = x }) d
    ∙ ap (λ x. record l { steps = m.steps; nodes = m.nodes; bytes = m.bytes; calls = m.calls; depth = x }) e ∙ ap (λ x. record l { steps = m.steps; nodes = m.nodes; bytes = m.bytes; calls = m.calls; depth = m.depth; templates = x }) f

-- what was paid, against the limits
pub paid_within : (k' steps kept k s m : ℕ) → k' + steps + kept ≤ k + s → s ≡ m → k' + steps + kept ≤ k + m
paid_within k' steps kept k s m a e = omega (arith, a, e)

-- THE PAGE
pub is_page : (g : Ground) (modules : Modules) (trees : Trees) (full left : Left) (k k' kept : ℕ) (r : Reply) (p : Page) → p.title ≡ page_of g → p.text ≡ given_text (reply_seen r) → p.left ≡ left → p.repeat_charges ≡ kept → IsExpanded g modules (Expanding (Reading trees (page_scene (page_of g)))) full k left k' kept r → IsPage (wiki_of g modules) (page_of g) trees full k k' p
is_page g modules trees full left k k' kept r p title text is same x =
    let told = pages_are_tasks (wiki_of g modules) (page_of g) trees full in
    record {
      title_is = title;
      text_is = text ∙ ap given_text (sym x.says) ∙ ap (λ (v : PlainPage). v.text) (sym told);
      left_is = is ∙ sym x.leaves ∙ ap (λ (v : PlainPage). v.left) (sym told);
      repeat_charges_are = same ∙ sym x.keeps ∙ ap (λ (v : PlainPage). v.repeat_charges) (sym told);
      begun = omega (arith, x.begun, ap (λ (v : PlainPage). v.begun) told);
    }

-- of a page that is held
module _ (g : Ground) (s : StoreView) (left : Left) (k : ℕ) (tower : Tower) (root : Task) (e : tower.stack ≡ []) (e' : tower.keep ≡ []) (e'' : tower.repeat_charges ≡ 0) (n : IsNumbered s tower.numbers) (f : Fits left) where
  abbrev Root : Option Trees → Type 0
  Root o = IfSome o (λ trees. (s : StoreView) → Begins g (Expanding (Reading trees (page_scene (page_of g)))) s s root)

  pub starting_held : (o : Option Trees) → IsSome o → Root o → IsStarting g s left k tower root
  starting_held (Some trees) h b = record { root = Expanding (Reading trees (page_scene (page_of g))); first = left; start = k; fits = f; starting = page_starts g trees s left k tower root (b s) e e' e'' n }
  starting_held None h b = absurd cc

  module _ (s' : StoreView) (left' : Left) (k' : ℕ) (tower' : Tower) (r : Reply) (comes : ComesTo g s left k tower root s' left' k' tower' r) where
    expanded : (trees : Trees) → Root (Some trees) → Expanded g (Expanding (Reading trees (page_scene (page_of g)))) left k s' left' k' tower' r
    expanded trees b = comes (Expanding (Reading trees (page_scene (page_of g)))) left k f (page_starts g trees s left k tower root (b s) e e' e'' n)

    pub page_held : (o : Option Trees) → IsSome o → Root o → (modules : Modules) → AreModulesOf g modules → (p : Page) → p.title ≡ page_of g → p.text ≡ given_text (reply_seen r) → p.left ≡ left' → p.repeat_charges ≡ tower'.repeat_charges → (full : Left) → left ≡ full
        → IsHeldPage (wiki_of g modules) (page_of g) o full k k' p
    page_held (Some trees) h b modules agree p title text is same full i =
        subst (λ l. IsPage (wiki_of g modules) (page_of g) trees l k k' p) i (is_page g modules trees left left' k k' tower'.repeat_charges r p title text is same ((expanded trees b).expanded modules agree))
    page_held None h b modules agree p title text is same full i = absurd cc

    pub turns_held : (o : Option Trees) → IsSome o → Root o → (k ≤ k') × (k' + left'.steps + tower'.repeat_charges ≤ k + left.steps)
    turns_held (Some trees) h b = ((expanded trees b).rises, (expanded trees b).paid)
    turns_held None h b = absurd cc

-- AN INVOCATION BY ITSELF
pub is_job : (g : Ground) (modules : Modules) (job : Job) (full left : Left) (k k' kept : ℕ) (r : Reply) (e : JobEnd) → e.outcome ≡ outcome_of r → e.left ≡ left → k' + left.steps + kept ≤ k + full.steps → IsExpanded g modules (Running (Invoke job)) full k left k' kept r
    → IsJob (wiki_of g modules) (page_of g) job full k k' e
is_job g modules job full left k k' kept r e so is paid x =
    let told = drive-is (wiki_of g modules) (page_of g) (Invoke job) full in
    let begun : begun_in (invoke (wiki_of g modules) (page_of g) job full).tally ≡ begun_in (invoked (drive_after (wiki_of g modules) (page_of g) (Invoke job) full [])).tally = ap (λ (v : Seen). begun_in (invoked v).tally) told in
    let keeps : kept_in (invoke (wiki_of g modules) (page_of g) job full).tally ≡ kept = ap (λ (v : Seen). kept_in (invoked v).tally) told ∙ x.keeps in
    record {
      outcome_is = so ∙ sym x.ends;
      left_is = is ∙ sym x.leaves ∙ ap (λ (v : Seen). (invoked v).left) (sym told);
      begun = omega (arith, x.begun, begun);
      paid = omega (arith, paid, keeps, ap (λ (l : Left). l.steps) is);
    }

-- the first run of a new store has the number 0
pub first_number : (s t : StoreView) (ns ms : Numbers) → s ≡ nothing → ns ≡ none_started → ms ≡ after_start ns → t ≡ record s { env = ns.started } → IsNumbered t ms
first_number s t ns ms e e' e'' e''' = (start_renumbers s ns t ms e'' e''').numbered (numbers_none s ns e e')

module _ (g : Ground) (job : Job) (s s₁ : StoreView) (left : Left) (k : ℕ) (tower : Tower) (root : Task) (b : Begins g (Running (Invoke job)) s s₁ root) (e : tower.stack ≡ []) (e' : tower.keep ≡ []) (e'' : tower.repeat_charges ≡ 0) (n : IsNumbered s tower.numbers) (f : Fits left) where
  job_starts : Starting g (Running (Invoke job)) left k s₁ left k tower root
  job_starts = root_starts g (Running (Invoke job)) s s₁ left k tower root (λ modules. tt) b e e' e'' n

  pub starting_job : IsStarting g s₁ left k tower root
  starting_job = record { root = Running (Invoke job); first = left; start = k; fits = f; starting = job_starts }

  pub job_expanded : (s' : StoreView) (left' : Left) (k' : ℕ) (tower' : Tower) (r : Reply) → ComesTo g s₁ left k tower root s' left' k' tower' r → Expanded g (Running (Invoke job)) left k s' left' k' tower' r
  job_expanded s' left' k' tower' r comes = comes (Running (Invoke job)) left k f job_starts

-- where it came to a reply, that is how it ended
module _ {E : Type 0} (g : Ground) (job : Job) (left : Left) (k : ℕ) (s' : StoreView) (left' : Left) (k' : ℕ) (tower' : Tower) (full : Left) (i : left ≡ full) (came : Result Reply E) (comes : IfOk came (Expanded g (Running (Invoke job)) left k s' left' k' tower')) where
  expanded_at : (r : Reply) → came ≡ Ok r → Expanded g (Running (Invoke job)) left k s' left' k' tower' r
  expanded_at r is = of_made (Expanded g (Running (Invoke job)) left k s' left' k' tower') came r is comes

  pub job_ends : (b : Result JobEnd E) → IfOk b (IsEndOf came left') → IfOk b (λ x. (modules : Modules) → AreModulesOf g modules → IsJob (wiki_of g modules) (page_of g) job full k k' x)
  job_ends (Ok x) e = λ modules agree.
      let ended = expanded_at e.0 e.1 in
      subst (λ l. IsJob (wiki_of g modules) (page_of g) job l k k' x) i (is_job g modules job left left' k k' tower'.repeat_charges e.0 x e.2 e.3 ended.paid (ended.expanded modules agree))
  job_ends (Err n) e = tt

  pub job_rises : (b : Result JobEnd E) → IfOk b (IsEndOf came left') → OnOk b (k ≤ k')
  job_rises (Ok x) e = (expanded_at e.0 e.1).rises
  job_rises (Err n) e = tt

  pub job_paid : (b : Result JobEnd E) → IfOk b (IsEndOf came left') → IfOk b (λ x. k' + x.left.steps ≤ k + full.steps)
  job_paid (Ok x) e = omega (arith, (expanded_at e.0 e.1).paid, ap (λ (l : Left). l.steps) i, ap (λ (l : Left). l.steps) e.3)
  job_paid (Err n) e = tt

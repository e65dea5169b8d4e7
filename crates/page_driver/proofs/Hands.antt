-- A task has come to its reply: the page is expanded, or the one below is to be told it.
use Rattle.std.proofs.Common.{◌≡◌, ℕ, ◌+◌, ◌≤◌, List, [], ◌∷◌, refl, sym, ap, ◌∙◌, subst, arith}
use Rattle.std.specs.Prelude.{map}
use Rattle.std.specs.List.{AllByRecursion}
use Rattle.page_meaning.specs.WkBaseDeclaredLeftLeft.{Left}
use Rattle.lua_code.specs.WkBaseDeclaredTitleTitle.{Title}
use Rattle.lua_code.specs.WkBaseTitles.{title_text}
use Rattle.page_meaning.specs.PageRunState.{Gives, Exhausts, Reply as PlainReply}
use Rattle.page_meaning.specs.PageRunDeclaredWhichWhich.{Which}
use Rattle.page_meaning.specs.PageRunWalk.{WalkState, add_if, is_in}
use Rattle.mw_frame.specs.declared.scene.Job.{Job}
use Rattle.page_meaning.specs.ExpandMeaningOutcome.{Work as PageWork}
use Rattle.lua_code.specs.LuaMeaningWorld.{Modules}
use Rattle.page_meaning.specs.LuaMeaningQuestions.{Answer, Expanded}
use Rattle.page_meaning.specs.LuaMeaningStart.{Invoke, DataOf}
use Rattle.page_tasks.specs.LuaPointsFamilies.{AreApart}
use Rattle.page_tasks.specs.LuaStoreSeen.{StoreView}
use Rattle.page_meaning.specs.Told.{completes}
use Rattle.page_meaning.specs.Outcomes.{job_outcome}
use Rattle.page_meaning.specs.Drive.{drive}
use Rattle.page_meaning.specs.Page.{kept_in, begun_in}
use Rattle.page_meaning.specs.Tasks.{Task as PlainTask, Running, Expanding}
use Rattle.page_tasks.specs.PagePointsPlaces.{Place, WaitsFor, EndsWalk, Going, begun_so_far}
use Rattle.page_tasks.proofs.PagePointsMoves.{come_to, kept_same, one_ends, page_ends, root_is_seen}
use Rattle.page_tasks.proofs.PagePointsExpansions.{expansion_is_answered}
use Rattle.page_tasks.proofs.PagePointsLoads.{load_gets_data}
use Rattle.page_tasks.specs.declared.task.Task.{Task}
use Rattle.page_tasks.specs.declared.task.Task.TheVariants as task
use Rattle.page_tasks.specs.declared.task.Reply.{Reply}
use Rattle.page_tasks.specs.declared.task.Reply.TheVariants as reply
use Rattle.page_tasks.specs.declared.task.Halt.TheVariants as halt
use Rattle.page_driver.specs.declared.tower.Tower.{Tower}
use Rattle.page_tasks.specs.PageGroundGround.{Ground, page_of, wiki_of, AreModulesOf}
use Rattle.page_tasks.specs.Seen.{reply_seen}
use Rattle.page_tasks.specs.Tasks.{IsTask, EndsWith, ReplyBy, IsNoData, calls_in, depth_of, templates_of}
use Rattle.page_tasks.specs.Going.{IsToldWell, HeightTold}
use Rattle.page_tasks.specs.PageGroundKept.{Keeps, KeepOf}
use Rattle.page_tasks.specs.PageGroundDeclaredKeepKept.{Kept}
use Rattle.page_tasks.specs.PageGroundNumbered.{IsNumbered}
use Rattle.page_driver.specs.Driven.{sum_of, IsBelow, EndsSo, set_of, AllWait, IsHalted, IsTold, IsExpanded, Driven, Telling, Expanded as PageExpanded}

job_is : (a b : Job) → Running (Invoke a) ≡ Running (Invoke b) → a ≡ b
job_is a b e = cc

-- AN INVOCATION BY ITSELF has come to its reply, and so it ended
ends_so : (g : Ground) (first : Left) (modules : Modules) (root : PlainTask) (t : Task) (r : Reply) (top : Place) (now : WalkState) → IsTask t top → EndsWith g modules t top r → Going (wiki_of g modules) (page_of g) root first top [] now → EndsSo g modules root first r
ends_so g first modules (Expanding work) t r top now is w going = tt
ends_so g first modules (Running (DataOf title)) t r top now is w going = tt
ends_so g first modules (Running (Invoke job)) (task.Invocation m) r top now is w going =
    let x = root_is_seen (wiki_of g modules) (page_of g) (Running (Invoke job)) first top now (Invoke w.0) w.2.seen going w.1 w.2.is_seen w.2.over in
    ap (λ j. job_outcome (drive (wiki_of g modules) (page_of g) (Invoke j) first)) (job_is job w.0 x.0) ∙ ap job_outcome x.1 ∙ w.2.outcome_is
ends_so g first modules (Running (Invoke job)) (task.Expansion e) r top now is w going = absurd (no_expansion is.0 (sym is.1 ∙ going.chain.0))
  where
    no_expansion : (v : PageWork) → Expanding v ≡ Running (Invoke job) → ⊥
    no_expansion v i = absurd cc
ends_so g first modules (Running (Invoke job)) (task.Load b m) r top now is w going = absurd (no_load (sym is.0 ∙ going.chain.0))
  where
    no_load : Running (DataOf b.title) ≡ Running (Invoke job) → ⊥
    no_load i = absurd cc

module _ (g : Ground) (root : PlainTask) (first : Left) (k₀ : ℕ) (s : StoreView) (left : Left) (k : ℕ) where
  -- THE PAGE IS EXPANDED where nobody waits
  lone : (modules : Modules) (ts : List Task) (ps : List Place) → ts ≡ [] → AllWait g modules s ts ps → ps ≡ []
  lone modules [] [] e w = refl
  lone modules [] (p ∷ ps) e w = absurd w
  lone modules (t ∷ ts) ps e w = absurd cc

  is_expanded : (modules : Modules) (tower : Tower) (t : Task) (r : Reply) → tower.stack ≡ [] → IsHalted g modules root first k₀ s left k tower (record { task = t; halt = halt.Comes r }) → IsExpanded g modules root first k₀ left k tower.repeat_charges r
  is_expanded modules tower t r e h =
      let d = h.standing in
      let none = lone modules tower.stack h.below e d.others in
      let going = subst (λ ps. Going (wiki_of g modules) (page_of g) root first h.top ps h.now) none d.going in
      let begun = subst (λ ps. k₀ + begun_so_far (wiki_of g modules) (page_of g) h.top ps h.now ≤ k) none d.begun in
      let x = page_ends (wiki_of g modules) (page_of g) root first h.top h.now h.halted.reply going h.halted.comes in
      record {
        says = ap (λ (y : PlainReply Answer). y.response) x.0 ∙ h.halted.says;
        leaves = ap (λ (y : PlainReply Answer). y.left) x.0 ∙ h.halted.leaves;
        keeps = ap (λ (y : PlainReply Answer). kept_in y.tally) x.0 ∙ x.1 ∙ d.charges;
        begun = omega (arith, x.2, begun, ap (λ (y : PlainReply Answer). begun_in y.tally) x.0);
        ends = ends_so g first modules root t r h.top h.now h.halted.task h.halted.ends_with going;
      }

  pub page_is_expanded : (tower tower' : Tower) (t : Task) (r : Reply) → tower.stack ≡ [] → tower'.repeat_charges ≡ tower.repeat_charges → tower'.numbers ≡ tower.numbers → Driven g root first k₀ s left k tower (record { task = t; halt = halt.Comes r }) → PageExpanded g root first k₀ s left k tower' r
  page_is_expanded tower tower' t r e same numbers d = record {
    numbered = subst (IsNumbered s) (sym numbers) d.numbered;
    rises = d.accounts.rises;
    paid = omega (arith, d.accounts.paid, same);
    expanded = λ modules agree. subst (λ n. IsExpanded g modules root first k₀ left k n r) (sym same) (is_expanded modules tower t r e (d.placed modules agree));
  }

  -- WHAT THE ONE BELOW IS TOLD
  well : (modules : Modules) (t : Task) (p : Place) (r : PlainReply Answer) (w : WalkState) (high : ℕ) → IsTask t p → WaitsFor (wiki_of g modules) (page_of g) p r w → ((title : Title) → p.task ≡ Running (DataOf title) → HeightTold r.response r.tally.height high) → IsToldWell t r high
  well modules (task.Expansion e) p r w high is k h = let a = expansion_is_answered (wiki_of g modules) (page_of g) p is.0 r w is.1 k in (Expanded a.0, a.1)
  well modules (task.Invocation m) p r w high is k h = tt
  well modules (task.Load b m) p r w high is k h = h b.title is.0

  module _ (tower tower' : Tower) (t p : Task) (r : Reply) (rest : List Task) (high : ℕ) where
    hands : (modules : Modules) → tower.stack ≡ p ∷ rest → tower'.stack ≡ rest → tower'.repeat_charges ≡ tower.repeat_charges
        → (h : IsHalted g modules root first k₀ s left k tower (record { task = t; halt = halt.Comes r }))
        → ((next : WalkState) → EndsWalk h.top.task h.halted.reply h.now next → Keeps g modules tower'.keep next)
        → ((q : Place) (title : Title) (w : WalkState) → q.task ≡ Running (DataOf title) → WaitsFor (wiki_of g modules) (page_of g) q h.halted.reply w → HeightTold h.halted.reply.response h.halted.reply.tally.height high)
        → IsTold g modules root first k₀ s left k tower' p (reply_seen r) high
    hands modules e e' same h keeps height = placed h.below refl (subst (λ ts. AllWait g modules s ts h.below) e h.standing.others)
      where
        placed : (ps : List Place) → h.below ≡ ps → AllWait g modules s (p ∷ rest) ps → IsTold g modules root first k₀ s left k tower' p (reply_seen r) high
        placed [] i w = absurd w
        placed (q ∷ qs) i w =
            let d = h.standing in
            let going = subst (λ ps. Going (wiki_of g modules) (page_of g) root first h.top ps h.now) i d.going in
            let begun = subst (λ ps. k₀ + begun_so_far (wiki_of g modules) (page_of g) h.top ps h.now ≤ k) i d.begun in
            let apart = subst (λ ps. AreApart s.heap (h.top.within ∷ map set_of ps)) i d.apart in
            let x = one_ends (wiki_of g modules) (page_of g) root first h.top q qs h.now h.halted.reply going h.halted.comes in
            let waits_for = subst (λ y. WaitsFor (wiki_of g modules) (page_of g) q y h.top.began) (come_to (wiki_of g modules) (page_of g) root first h.top (q ∷ qs) h.now h.halted.reply going h.halted.comes) going.chain.0 in
            record {
              top = q;
              below = qs;
              now = x.0;
              reply = h.halted.reply;
              standing = record {
                going = x.1;
                others = subst (λ ts. AllWait g modules s ts qs) (sym e') w.1;
                apart = apart.2;
                keeps = keeps x.0 x.2;
                charges = kept_same (wiki_of g modules) (page_of g) h.top.task h.halted.reply h.now x.0 x.2 ∙ d.charges ∙ sym same;
                begun = omega (arith, x.3, begun);
              };
              waits = w.0;
              says_so = h.halted.says;
              leaves = h.halted.leaves;
              well = well modules p q h.halted.reply h.top.began high w.0.task waits_for (λ title is. height q title h.top.began is waits_for);
            }

    pub driven_hands : tower.stack ≡ p ∷ rest → tower'.stack ≡ rest → tower'.repeat_charges ≡ tower.repeat_charges → tower'.numbers ≡ tower.numbers → KeepOf tower'.keep
        → ((modules : Modules) → AreModulesOf g modules → (h : IsHalted g modules root first k₀ s left k tower (record { task = t; halt = halt.Comes r })) → (next : WalkState) → EndsWalk h.top.task h.halted.reply h.now next → Keeps g modules tower'.keep next)
        → ((modules : Modules) → AreModulesOf g modules → (h : IsHalted g modules root first k₀ s left k tower (record { task = t; halt = halt.Comes r })) → (q : Place) (title : Title) (w : WalkState) → q.task ≡ Running (DataOf title) → WaitsFor (wiki_of g modules) (page_of g) q h.halted.reply w → HeightTold h.halted.reply.response h.halted.reply.tally.height high)
        → Driven g root first k₀ s left k tower (record { task = t; halt = halt.Comes r }) → Telling g root first k₀ s left k tower' p (reply_seen r) high
    driven_hands e e' same numbers keep keeps height d =
        let all = subst (AllByRecursion (IsBelow g s)) e d.accounts.below in
        record {
          of = all.0.of;
          ground = all.0.ground;
          waits = all.0.waits;
          numbered = subst (IsNumbered s) (sym numbers) d.numbered;
          accounts = record {
            below = subst (AllByRecursion (IsBelow g s)) (sym e') all.1;
            keep = keep;
            calls_are = omega (arith, d.accounts.calls_are, ap (sum_of calls_in) e, ap (sum_of calls_in) e');
            depth_is = omega (arith, d.accounts.depth_is, ap (sum_of depth_of) e, ap (sum_of depth_of) e');
            templates_are = omega (arith, d.accounts.templates_are, ap (sum_of templates_of) e, ap (sum_of templates_of) e');
            rises = d.accounts.rises;
            paid = omega (arith, d.accounts.paid, same);
          };
          placed = λ modules agree. let h = d.placed modules agree in hands modules e e' same h (keeps modules agree h) (height modules agree h);
        }

  -- WHAT IS KEPT stays, where no data was given
  keeps_same : (modules : Modules) (keep : List (Title × Kept)) (t : Task) (r : Reply) (p : Place) (answer : PlainReply Answer) (now next : WalkState) → ReplyBy t r → IsNoData r → IsTask t p → answer.response ≡ reply_seen r → EndsWalk p.task answer now next → Keeps g modules keep now → Keeps g modules keep next
  keeps_same modules keep (task.Expansion e) r p answer now next by bare is says w k = subst (Keeps g modules keep) (sym (subst (λ x. EndsWalk x answer now next) is.1 w)) k
  keeps_same modules keep (task.Invocation m) r p answer now next by bare is says w k = subst (Keeps g modules keep) (sym (subst (λ x. EndsWalk x answer now next) is.1 w)) k
  keeps_same modules keep (task.Load b m) (reply.Ended so) p answer now next by bare is says w k = absurd by
  keeps_same modules keep (task.Load b m) (reply.Data d) p answer now next by bare is says w k = absurd bare
  keeps_same modules keep (task.Load b m) (reply.Spent which) p answer now next by bare is says w k =
      let e = subst (λ x. EndsWalk x answer now next) is.0 w in
      record {
        all = k.all;
        names = λ t i. ap (is_in (title_text t)) (e.1 ∙ ap (λ x. add_if (completes x) (title_text b.title) now.completed_modules) says) ∙ k.names t i;
      }

  pub no_data_keeps : (modules : Modules) (tower tower' : Tower) (t : Task) (r : Reply) → tower'.keep ≡ tower.keep → ReplyBy t r → IsNoData r → (h : IsHalted g modules root first k₀ s left k tower (record { task = t; halt = halt.Comes r })) → (next : WalkState) → EndsWalk h.top.task h.halted.reply h.now next → Keeps g modules tower'.keep next
  no_data_keeps modules tower tower' t r e by bare h next w = subst (λ keep. Keeps g modules keep next) (sym e) (keeps_same modules tower.keep t r h.top h.halted.reply h.now next by bare h.halted.task h.halted.says w h.standing.keeps)

  -- the height that is told: a text tells none, and no load is told one; where an allowance is spent none is asked for
  pub text_height : (modules : Modules) (text : List ℕ) (q : Place) (title : Title) (answer : PlainReply Answer) (w : WalkState) → answer.response ≡ Gives (Expanded text) → q.task ≡ Running (DataOf title) → WaitsFor (wiki_of g modules) (page_of g) q answer w → HeightTold answer.response answer.tally.height 0
  text_height modules text q title answer w says is k = absurd (load_gets_data (wiki_of g modules) (page_of g) q title answer w is k text says)

  pub spent_height : (which : Which) (answer : PlainReply Answer) (high : ℕ) → answer.response ≡ Exhausts which → HeightTold answer.response answer.tally.height high
  spent_height which answer high says = subst (λ x. HeightTold x answer.tally.height high) (sym says) tt

-- the newest of those that wait
pub below_in : (g : Ground) (s : StoreView) (ts : List Task) (t : Task) (rest : List Task) → ts ≡ t ∷ rest → AllByRecursion (IsBelow g s) ts → IsBelow g s t
below_in g s ts t rest e all = (subst (AllByRecursion (IsBelow g s)) e all).0

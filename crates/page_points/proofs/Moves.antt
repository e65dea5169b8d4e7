-- The stack's moves: a task begins, one is told a reply, one has come to its own, and the page ends.
use Rattle.std.proofs.Common.{◌≡◌, ℕ, ◌+◌, ◌-◌, ◌≤◌, false, List, [], ◌∷◌, ◌++◌, Some, refl, sym, ap, ◌∙◌, subst, arith}
use Rattle.std.specs.Prelude.{map, ◌&&◌}
use Rattle.std.proofs.lemmas.List.{map-append}
use Rattle.page_meaning.specs.WkBaseDeclaredLeftLeft.{Left}
use Rattle.page_meaning.specs.WkBaseDeclaredTitleTitle.{Title}
use Rattle.page_meaning.specs.WkBaseTitles.{title_text}
use Rattle.page_meaning.specs.PageRunState.{Loads, Reply, Ended, Spent, Asked, start}
use Rattle.page_meaning.specs.PageRunWalk.{WalkState, empty_walk, walk, walk_load, count_fresh, is_in, tally_of}
use Rattle.page_meaning.proofs.PageRunLoadLaws.{tells_none, tells_reply, walk_of_joined}
use Rattle.lua_walk.specs.LuaHeapReach.{Set}
use Rattle.page_meaning.specs.ExpandMeaningExpand.{thing_text}
use Rattle.page_meaning.specs.ExpandMeaningOutcome.{Work as PageWork, expansion, next_event}
use Rattle.page_meaning.specs.LuaMeaningQuestions.{Answer}
use Rattle.page_meaning.specs.LuaMeaningThings.{meaning_of}
use Rattle.page_meaning.specs.LuaMeaningHome.{home}
use Rattle.page_meaning.specs.LuaMeaningStart.{Work, Invoke, DataOf, run_of, lua}
use Rattle.page_meaning.specs.Wiki.{Wiki, setting, world}
use Rattle.page_meaning.specs.Told.{Seen, PageSeen, completes, expanded}
use Rattle.page_meaning.specs.Drive.{reply, drive}
use Rattle.page_meaning.specs.Points.{drive_after, Follows}
use Rattle.page_meaning.specs.Laws.{IsOver}
use Rattle.page_meaning.specs.Page.{kept_in, begun_in}
use Rattle.page_meaning.specs.Tasks.{Task, Running, Expanding, Question, Comes, Wants, as_text, lua_reply, lua_progress, page_progress, task_of, progress, sight, total, total_or_absent, answer_to, GoesOn}
use Rattle.page_meaning.proofs.DriveLaws.{drive-is}
use Rattle.page_meaning.proofs.PointsLaws.{runs_go_on}
use Rattle.page_meaning.proofs.TaskLaws.{tasks_go_on, tasks_tell_loads}
use Rattle.page_points.specs.Places.{Place, beginning, replied, TellsAll, EndsWalk, from_start, from_here, next_of, loads_of, invoked_so_far, IsFresh, WaitsFor, Going, begun_so_far, HasCome}

module _ (wiki : Wiki) (page : Title) where
  -- INVOCATIONS of which a task was told
  none_invoked : (task : Task) (first : Left) → invoked_so_far wiki page task first [] ≡ 0
  unfolding next_event
  none_invoked (Running work) first = (tells_none (meaning_of (world wiki page)) (run_of (world wiki page) work) (start home first []) refl).1
  none_invoked (Expanding work) first = (tells_none (thing_text (setting wiki page)) (expansion work) (start tt first []) refl).1

  lua_invokes : (work : Work) (first : Left) (given : List (Reply Answer)) (e : Seen) (question : Question) (left : Left) → lua (world wiki page) work first given ≡ e → lua_progress work first e ≡ Wants question left → (r : Reply Answer) → (tally_of (lua (world wiki page) work first (given ++ r ∷ []))).invoked_nodes ≡ (tally_of e).invoked_nodes + r.tally.invoked_nodes
  lua_invokes work first given (Ended outcome m) question left e i r = absurd cc
  lua_invokes work first given (Spent which m) question left e i r = absurd cc
  lua_invokes work first given (Asked q m) question left e i r = (tells_reply (meaning_of (world wiki page)) (run_of (world wiki page) work) (start home first given) q m e r).1

  page_invokes : (work : PageWork) (first : Left) (given : List (Reply (List ℕ))) (e : PageSeen) (question : Question) (left : Left) → next_event (setting wiki page) work first given ≡ e → page_progress e ≡ Wants question left → (r : Reply (List ℕ)) → (tally_of (next_event (setting wiki page) work first (given ++ r ∷ []))).invoked_nodes ≡ (tally_of e).invoked_nodes + r.tally.invoked_nodes
  unfolding next_event
  page_invokes work first given (Ended text m) question left e i r = absurd cc
  page_invokes work first given (Spent which m) question left e i r = absurd cc
  page_invokes work first given (Asked job m) question left e i r = (tells_reply (thing_text (setting wiki page)) (expansion work) (start tt first given) job m e r).1

  more_invoked : (task : Task) (first : Left) (given : List (Reply Answer)) (question : Question) (left : Left) → progress wiki page task first given ≡ Wants question left → (r : Reply Answer) → invoked_so_far wiki page task first (given ++ r ∷ []) ≡ invoked_so_far wiki page task first given + r.tally.invoked_nodes
  more_invoked (Running work) first given question left i r = lua_invokes work first given (lua (world wiki page) work first given) question left refl i r
  more_invoked (Expanding work) first given question left i r =
      ap (λ rs. (tally_of (next_event (setting wiki page) work first rs)).invoked_nodes) (map-append as_text given (r ∷ []))
      ∙ page_invokes work first (map as_text given) (next_event (setting wiki page) work first (map as_text given)) question left refl i (as_text r)

  -- WHAT IS SEEN OF A TASK and what it comes to, where it asks and where it has come to a reply
  total_alike : (task : Task) (first : Left) (given others : List (Reply Answer)) → sight wiki page task first given ≡ sight wiki page task first others → total wiki page task first given ≡ total wiki page task first others
  total_alike (Running work) first given others e = ap (lua_reply work first) e
  total_alike (Expanding work) first given others e = ap expanded e

  asked : (p : Place) (q : Question) (l : Left) → next_of wiki page p ≡ Wants q l → sight wiki page p.task p.first p.given ≡ sight wiki page p.task p.first (p.given ++ answer_to wiki page q l ∷ [])
  asked p q l e = subst (GoesOn wiki page p.task p.first p.given) e (tasks_go_on wiki page p.task p.first p.given)

  ended : (p : Place) (r : Reply Answer) → next_of wiki page p ≡ Comes r → from_here wiki page p ≡ r
  ended p r e = subst (GoesOn wiki page p.task p.first p.given) e (tasks_go_on wiki page p.task p.first p.given)

  pub come_to : (root : Task) (full : Left) (top : Place) (below : List Place) (now : WalkState) (r : Reply Answer) → Going wiki page root full top below now → HasCome wiki page top r → from_start wiki page top ≡ r
  come_to root full top below now r g c = sym (total_alike top.task top.first top.given [] g.same) ∙ ended top r c.comes

  walked_next : (p : Place) (q : Question) (l : Left) (r : Reply Answer) (now : WalkState) → next_of wiki page p ≡ Wants q l → walk (loads_of wiki page p) p.began ≡ now → walk (loads_of wiki page (replied p r)) p.began ≡ walk r.tally.loads now
  walked_next p q l r now e h =
      ap (λ v. walk v p.began) ((tasks_tell_loads wiki page p.task p.first).1 p.given q l e r) ∙ walk_of_joined (loads_of wiki page p) r.tally.loads p.began ∙ ap (walk r.tally.loads) h

  -- nothing of this hangs on what was counted, nor on what a machine has
  pub going_with : (root : Task) (full : Left) (top : Place) (below : List Place) (now : WalkState) (nodes : ℕ) (S : Set) → Going wiki page root full top below now → Going wiki page root full (record top { nodes = nodes; within = S }) below now
  going_with root full top below now nodes S g = record { same = g.same; walked = g.walked; fresh = g.fresh; chain = g.chain }

  -- THE ROOT BEGINS
  pub page_begins : (task : Task) (first : Left) → IsFresh wiki page task first empty_walk → Going wiki page task first (beginning task first empty_walk) [] empty_walk
  page_begins task first f = record { same = refl; walked = ap (λ v. walk v empty_walk) (tasks_tell_loads wiki page task first).0; fresh = f; chain = (refl, refl, refl) }

  pub nothing_begun : (task : Task) (first : Left) → begun_so_far wiki page (beginning task first empty_walk) [] empty_walk ≡ 0
  nothing_begun task first = omega (arith, none_invoked task first)

  -- THE TOP ONE ASKS, and a task begins that answers it
  pub one_begins : (root : Task) (full : Left) (top : Place) (below : List Place) (now : WalkState) (q : Question) (l : Left) (task : Task) → Going wiki page root full top below now → next_of wiki page top ≡ Wants q l → task_of wiki q ≡ Some task → IsFresh wiki page task l now → Going wiki page root full (beginning task l now) (top ∷ below) now
  one_begins root full top below now q l task g e t f =
      let answer : answer_to wiki page q l ≡ total wiki page task l [] = ap (λ o. total_or_absent wiki page o l) t in
      record {
        same = refl;
        walked = ap (λ v. walk v now) (tasks_tell_loads wiki page task l).0;
        fresh = f;
        chain = (
          record {
            question = q;
            left = l;
            wants = e;
            answer = answer;
            answered = sym (asked top q l e ∙ ap (λ r. sight wiki page top.task top.first (top.given ++ r ∷ [])) answer) ∙ g.same;
            walked = g.walked;
            fresh = g.fresh;
          },
          g.chain,
        );
      }

  pub begin_counts : (top : Place) (below : List Place) (now : WalkState) (task : Task) (l : Left) → begun_so_far wiki page (beginning task l now) (top ∷ below) now ≡ begun_so_far wiki page top below now
  begin_counts top below now task l = omega (arith, none_invoked task l)

  -- THE TOP ONE ASKS, and is told the answer
  pub one_is_told : (root : Task) (full : Left) (top : Place) (below : List Place) (now : WalkState) (q : Question) (l : Left) (r : Reply Answer) → Going wiki page root full top below now → next_of wiki page top ≡ Wants q l → answer_to wiki page q l ≡ r → Going wiki page root full (replied top r) below (walk r.tally.loads now)
  one_is_told root full top below now q l r g e h = record {
    same = sym (asked top q l e ∙ ap (λ x. sight wiki page top.task top.first (top.given ++ x ∷ [])) h) ∙ g.same;
    walked = walked_next top q l r now e g.walked;
    fresh = g.fresh;
    chain = g.chain;
  }

  pub told_counts : (top : Place) (below : List Place) (now : WalkState) (q : Question) (l : Left) (r : Reply Answer) → next_of wiki page top ≡ Wants q l → r.tally.invoked_nodes ≡ 0 → (walk r.tally.loads now).fresh_nodes ≡ now.fresh_nodes → begun_so_far wiki page (replied top r) below (walk r.tally.loads now) ≡ begun_so_far wiki page top below now
  told_counts top below now q l r e none same = omega (arith, more_invoked top.task top.first top.given q l e r, none, same)

  -- THE WALK after a task that has come to a reply
  ends_walk : (task : Task) (first : Left) (nodes invoked : ℕ) (loads : Loads) (r : Reply Answer) (began now : WalkState) → total wiki page task first [] ≡ r → IsFresh wiki page task first began → TellsAll task first nodes invoked loads r → walk loads began ≡ now
      → EndsWalk task r now (walk r.tally.loads began) × ((walk r.tally.loads began).fresh_nodes + r.tally.invoked_nodes ≤ now.fresh_nodes + (nodes + invoked))
  ends_walk (Running (Invoke job)) first nodes invoked loads r began now e f t h =
      let same : walk r.tally.loads began ≡ now = ap (λ v. walk v began) t.0 ∙ h in
      (same, omega (arith, ap (λ (w : WalkState). w.fresh_nodes) same, t.1))
  ends_walk (Expanding work) first nodes invoked loads r began now e f t h =
      let same : walk r.tally.loads began ≡ now = ap (λ v. walk v began) t.0 ∙ h in
      (same, omega (arith, ap (λ (w : WalkState). w.fresh_nodes) same, t.1))
  ends_walk (Running (DataOf title)) first nodes invoked loads r began now e f t h =
      let name : List ℕ = title_text title in
      let new : (completes r.response && is_in name began.completed_modules) ≡ false = subst (λ (x : Reply Answer). (completes x.response && is_in name began.completed_modules) ≡ false) e f in
      let same : walk r.tally.loads began ≡ count_fresh name nodes (completes r.response) now =
      ap (λ v. walk v began) t.0
      ∙ ap (λ b. walk_load b name (first.steps - r.left.steps) nodes (completes r.response) (walk loads) began) new
      ∙ ap (count_fresh name nodes (completes r.response)) h in
      ((ap (λ (w : WalkState). w.repeat_charges) same, ap (λ (w : WalkState). w.completed_modules) same), omega (arith, ap (λ (w : WalkState). w.fresh_nodes) same, t.1))

  -- THE TOP ONE HAS COME to a reply, and the one below it is told
  pub one_ends : (root : Task) (full : Left) (top p : Place) (below : List Place) (now : WalkState) (r : Reply Answer) → Going wiki page root full top (p ∷ below) now → HasCome wiki page top r
      → (next : WalkState) × Going wiki page root full (replied p r) below next × EndsWalk top.task r now next × (begun_so_far wiki page (replied p r) below next ≤ begun_so_far wiki page top (p ∷ below) now)
  one_ends root full top p below now r g c =
      let same = come_to root full top (p ∷ below) now r g c in
      let w = subst (λ x. WaitsFor wiki page p x top.began) same g.chain.0 in
      let e = ends_walk top.task top.first top.nodes (invoked_so_far wiki page top.task top.first top.given) (loads_of wiki page top) r top.began now same g.fresh c.tells g.walked in (
        walk r.tally.loads top.began,
        record { same = w.answered; walked = walked_next p w.question w.left r top.began w.wants w.walked; fresh = w.fresh; chain = g.chain.1 },
        e.0,
        omega (arith, e.1, more_invoked p.task p.first p.given w.question w.left w.wants r),
      )

  -- THE ROOT HAS COME to its reply
  pub kept_same : (task : Task) (r : Reply Answer) (now next : WalkState) → EndsWalk task r now next → next.repeat_charges ≡ now.repeat_charges
  kept_same (Running (Invoke job)) r now next e = ap (λ (w : WalkState). w.repeat_charges) e
  kept_same (Running (DataOf title)) r now next e = e.0
  kept_same (Expanding work) r now next e = ap (λ (w : WalkState). w.repeat_charges) e

  pub page_ends : (root : Task) (full : Left) (top : Place) (now : WalkState) (r : Reply Answer) → Going wiki page root full top [] now → HasCome wiki page top r
      → (total wiki page root full [] ≡ r) × (kept_in r.tally ≡ now.repeat_charges) × (begun_in r.tally ≤ begun_so_far wiki page top [] now)
  page_ends root full top now r g c =
      let same = come_to root full top [] now r g c in
      let e = ends_walk top.task top.first top.nodes (invoked_so_far wiki page top.task top.first top.given) (loads_of wiki page top) r top.began now same g.fresh c.tells g.walked in
      let walks : walk r.tally.loads top.began ≡ walk r.tally.loads empty_walk = ap (walk r.tally.loads) g.chain.2 in (
        ap (λ t. total wiki page t full []) (sym g.chain.0) ∙ ap (λ l. total wiki page top.task l []) (sym g.chain.1) ∙ same,
        ap (λ (w : WalkState). w.repeat_charges) (sym walks) ∙ kept_same top.task r now (walk r.tally.loads top.began) e.0,
        omega (arith, e.1, ap (λ (w : WalkState). w.fresh_nodes) walks),
      )

  -- THE ROOT IS A RUN OF LUA, and it is over
  seen_at_end : (work : Work) (first : Left) (given : List (Reply Answer)) (e : Seen) → lua (world wiki page) work first given ≡ e → IsOver e → drive_after wiki page work first given ≡ e
  seen_at_end work first given e h over = by_event e over (subst (λ (x : Seen). Follows x (reply wiki page (drive wiki page)) (drive_after wiki page work first) given) h (runs_go_on wiki page work first given))
    where
      by_event : (e : Seen) → IsOver e → Follows e (reply wiki page (drive wiki page)) (drive_after wiki page work first) given → drive_after wiki page work first given ≡ e
      by_event (Ended o m) over f = f
      by_event (Spent w m) over f = f
      by_event (Asked q m) over f = absurd over

  pub root_is_seen : (root : Task) (full : Left) (top : Place) (now : WalkState) (work : Work) (e : Seen) → Going wiki page root full top [] now → top.task ≡ Running work → lua (world wiki page) work top.first top.given ≡ e → IsOver e
      → (root ≡ Running work) × (drive wiki page work full ≡ e)
  root_is_seen root full top now work e g is h over =
      let same : drive_after wiki page work top.first top.given ≡ drive_after wiki page work top.first [] = subst (λ t. sight wiki page t top.first top.given ≡ sight wiki page t top.first []) is g.same in (
        sym g.chain.0 ∙ is,
        drive-is wiki page work full ∙ ap (λ l. drive_after wiki page work l []) (sym g.chain.1) ∙ sym same ∙ seen_at_end work top.first top.given e h over,
      )

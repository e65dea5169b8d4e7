-- Tasks go on as their runs do, and tell the loads that they were told.
use Rattle.std.proofs.Common.{◌≡◌, ℕ, List, [], ◌∷◌, ◌++◌, Option, Some, None, refl, sym, ap, ◌∙◌, subst}
use Rattle.std.specs.Prelude.{map}
use Rattle.std.proofs.lemmas.List.{map-append}
use Rattle.wk_base.specs.declared.left.Left.{Left}
use Rattle.wk_base.specs.declared.title.Title.{Title}
use Rattle.page_run.specs.State.{NoLoads, join_loads, Response, Gives, Exhausts, Reply, Ended, Spent, Asked, start}
use Rattle.page_run.specs.Walk.{tally_of}
use Rattle.page_run.proofs.LoadLaws.{tells_none, tells_reply}
use Rattle.expand_meaning.specs.MwFrameDeclaredSceneArg.{Arg}
use Rattle.expand_meaning.specs.MwFrameDeclaredSceneScene.{Scene}
use Rattle.expand_meaning.specs.MwFrameDeclaredSceneJob.{Job}
use Rattle.lua_meaning_laws.specs.MwFrameDeclaredQuestionAsk.{Ask}
use Rattle.lua_meaning_laws.specs.MwFrameDeclaredQuestionAskTheVariants.{Template, Preprocess, Data}
use Rattle.expand_meaning.specs.WikiMarkupTrees.{Trees}
use Rattle.expand_meaning.specs.Expand.{thing_text}
use Rattle.expand_meaning.specs.Outcome.{Work as PageWork, expansion, next_event}
use Rattle.lua_meaning_laws.specs.LuaMeaningWorld.{Module}
use Rattle.lua_meaning_laws.specs.LuaMeaningQuestions.{Answer}
use Rattle.lua_meaning_laws.specs.LuaMeaningThings.{meaning_of}
use Rattle.lua_meaning_laws.specs.LuaMeaningHome.{home}
use Rattle.lua_meaning_laws.specs.LuaMeaningStart.{Work, Invoke, DataOf, run_of, lua}
use Rattle.page_meaning.specs.Wiki.{Wiki, setting, world}
use Rattle.page_meaning.specs.Told.{Seen, PageSeen, invoked, loaded, expanded}
use Rattle.page_meaning.specs.Drive.{template_reply, data_reply, reply, drive}
use Rattle.page_meaning.specs.Page.{page_of, page_event}
use Rattle.page_meaning.specs.Points.{drive_after, expand_after, Follows}
use Rattle.page_meaning.specs.Tasks.{Task, Running, Expanding, Question, OfLua, OfPage, Comes, Wants, answer_response, text_response, as_answer, as_text, lua_reply, lua_progress, page_progress, including, loading, progress, total_or_absent, answer_to, loads_so_far, GoesOn, TasksGoOn, Tells, TasksTellLoads, page_told, PagesAreTasks}
use Rattle.page_meaning.proofs.DriveLaws.{drive-is}
use Rattle.page_meaning.proofs.PointsLaws.{runs_go_on, expansions_go_on}

-- there and back
text_stays : (r : Reply (List ℕ)) → as_text (as_answer r) ≡ r
text_stays r = ap (λ x. record r { response = x }) (same r.response)
  where
    same : (x : Response (List ℕ)) → text_response (answer_response x) ≡ x
    same (Gives text) = refl
    same (Exhausts which) = refl

module _ (wiki : Wiki) (page : Title) where
  -- ANSWERS are what tasks come to
  template_is : (held : Option Trees) (title : Title) (scene : Scene) (args : List Arg) (l : Left) → template_reply wiki page (drive wiki page) held title scene args l ≡ total_or_absent wiki page (including held title scene args) l
  template_is (Some trees) title scene args l = refl
  template_is None title scene args l = refl

  data_is : (held : Option Module) (title : Title) (l : Left) → data_reply wiki page (drive wiki page) held title l ≡ total_or_absent wiki page (loading held title) l
  data_is (Some m) title l = ap (loaded title l) (drive-is wiki page (DataOf title) l)
  data_is None title l = refl

  reply_is : (question : Ask) (l : Left) → reply wiki page (drive wiki page) question l ≡ answer_to wiki page (OfLua question) l
  reply_is (Template scene title args) l = template_is (wiki.included title) title scene args l
  reply_is (Preprocess scene text) l = refl
  reply_is (Data title) l = data_is (wiki.modules title) title l

  invocation_is : (job : Job) (l : Left) → invoked (drive wiki page (Invoke job) l) ≡ as_text (answer_to wiki page (OfPage job) l)
  invocation_is job l = ap invoked (drive-is wiki page (Invoke job) l) ∙ sym (text_stays (invoked (drive_after wiki page (Invoke job) l [])))

  -- GOING ON
  lua_goes : (work : Work) (first : Left) (given : List (Reply Answer)) (e : Seen) → Follows e (reply wiki page (drive wiki page)) (drive_after wiki page work first) given → GoesOn wiki page (Running work) first given (lua_progress work first e)
  lua_goes work first given (Ended outcome m) f = ap (lua_reply work first) f
  lua_goes work first given (Spent which m) f = ap (lua_reply work first) f
  lua_goes work first given (Asked question m) f =
      f ∙ ap (λ r. drive_after wiki page work first (given ++ r ∷ [])) (reply_is question m.left)

  page_goes : (work : PageWork) (first : Left) (given : List (Reply Answer)) (e : PageSeen) → Follows e (λ job l. invoked (drive wiki page (Invoke job) l)) (expand_after wiki page work first) (map as_text given) → GoesOn wiki page (Expanding work) first given (page_progress e)
  page_goes work first given (Ended text m) f = ap expanded f
  page_goes work first given (Spent which m) f = ap expanded f
  page_goes work first given (Asked job m) f =
      f
      ∙ ap (λ r. expand_after wiki page work first (map as_text given ++ r ∷ [])) (invocation_is job m.left)
      ∙ ap (expand_after wiki page work first) (sym (map-append as_text given (answer_to wiki page (OfPage job) m.left ∷ [])))

  goes_on : (task : Task) (first : Left) (given : List (Reply Answer)) → GoesOn wiki page task first given (progress wiki page task first given)
  goes_on (Running work) first given = lua_goes work first given (lua (world wiki page) work first given) (runs_go_on wiki page work first given)
  goes_on (Expanding work) first given = page_goes work first given (next_event (setting wiki page) work first (map as_text given)) (expansions_go_on wiki page work first (map as_text given))

  -- LOADS
  none_told : (task : Task) (first : Left) → loads_so_far wiki page task first [] ≡ NoLoads
  unfolding next_event
  none_told (Running work) first = (tells_none (meaning_of (world wiki page)) (run_of (world wiki page) work) (start home first []) refl).0
  none_told (Expanding work) first = (tells_none (thing_text (setting wiki page)) (expansion work) (start tt first []) refl).0

  lua_tells_more : (work : Work) (first : Left) (given : List (Reply Answer)) (e : Seen) (question : Question) (left : Left) → lua (world wiki page) work first given ≡ e → lua_progress work first e ≡ Wants question left → (r : Reply Answer) → (tally_of (lua (world wiki page) work first (given ++ r ∷ []))).loads ≡ join_loads (tally_of e).loads r.tally.loads
  lua_tells_more work first given (Ended outcome m) question left e i r = absurd cc
  lua_tells_more work first given (Spent which m) question left e i r = absurd cc
  lua_tells_more work first given (Asked q m) question left e i r = (tells_reply (meaning_of (world wiki page)) (run_of (world wiki page) work) (start home first given) q m e r).0

  page_tells_more : (work : PageWork) (first : Left) (given : List (Reply (List ℕ))) (e : PageSeen) (question : Question) (left : Left) → next_event (setting wiki page) work first given ≡ e → page_progress e ≡ Wants question left → (r : Reply (List ℕ)) → (tally_of (next_event (setting wiki page) work first (given ++ r ∷ []))).loads ≡ join_loads (tally_of e).loads r.tally.loads
  unfolding next_event
  page_tells_more work first given (Ended text m) question left e i r = absurd cc
  page_tells_more work first given (Spent which m) question left e i r = absurd cc
  page_tells_more work first given (Asked job m) question left e i r = (tells_reply (thing_text (setting wiki page)) (expansion work) (start tt first given) job m e r).0

  more_told : (task : Task) (first : Left) (given : List (Reply Answer)) (question : Question) (left : Left) → progress wiki page task first given ≡ Wants question left → (r : Reply Answer) → loads_so_far wiki page task first (given ++ r ∷ []) ≡ join_loads (loads_so_far wiki page task first given) r.tally.loads
  more_told (Running work) first given question left i r = lua_tells_more work first given (lua (world wiki page) work first given) question left refl i r
  more_told (Expanding work) first given question left i r =
      ap (λ rs. (tally_of (next_event (setting wiki page) work first rs)).loads) (map-append as_text given (r ∷ []))
      ∙ page_tells_more work first (map as_text given) (next_event (setting wiki page) work first (map as_text given)) question left refl i (as_text r)

  -- its own reply
  lua_tells : (work : Work) (first : Left) (e : Seen) → Tells (Running work) first (lua_reply work first e) (tally_of e).loads
  lua_tells (Invoke job) first e = refl
  lua_tells (DataOf title) first e = ((tally_of e).nodes, refl)

  lua_ends : (work : Work) (first : Left) (e : Seen) (r : Reply Answer) → lua_progress work first e ≡ Comes r → lua_reply work first e ≡ r
  lua_ends work first (Ended outcome m) r i = cc
  lua_ends work first (Spent which m) r i = cc
  lua_ends work first (Asked question m) r i = absurd cc

  page_ends : (e : PageSeen) (r : Reply Answer) → page_progress e ≡ Comes r → expanded e ≡ r
  page_ends (Ended text m) r i = cc
  page_ends (Spent which m) r i = cc
  page_ends (Asked job m) r i = absurd cc

  end_told : (task : Task) (first : Left) (given : List (Reply Answer)) (r : Reply Answer) → progress wiki page task first given ≡ Comes r → Tells task first r (loads_so_far wiki page task first given)
  end_told (Running work) first given r i =
      subst (λ x. Tells (Running work) first x (tally_of (lua (world wiki page) work first given)).loads) (lua_ends work first (lua (world wiki page) work first given) r i) (lua_tells work first (lua (world wiki page) work first given))
  end_told (Expanding work) first given r i = ap (λ (x : Reply Answer). x.tally.loads) (sym (page_ends (next_event (setting wiki page) work first (map as_text given)) r i))

pub tasks_go_on : TasksGoOn
tasks_go_on wiki page task first given = goes_on wiki page task first given

pub tasks_tell_loads : TasksTellLoads
tasks_tell_loads wiki page task first = (none_told wiki page task first, more_told wiki page task first, end_told wiki page task first)

page_of_event : (e : PageSeen) → page_of e ≡ page_told (expanded e)
page_of_event (Ended text m) = refl
page_of_event (Spent which m) = refl
page_of_event (Asked job m) = refl

pub pages_are_tasks : PagesAreTasks
pages_are_tasks wiki title trees full = page_of_event (page_event wiki title trees full)

-- Where each question has its reply, no run waits in the end; and so each gives its calls back.
use Rattle.std.proofs.Common.{◌≡◌, ℕ, zero, suc, ◌+◌, List, [], ◌∷◌, Option, Some, None, refl, sym, ◌∙◌, subst, arith}
use Rattle.wk_base.specs.declared.left.Left.{Left}
use Rattle.wk_base.specs.declared.title.Title.{Title}
use Rattle.expand_meaning.specs.MwFrameDeclaredSceneArg.{Arg}
use Rattle.expand_meaning.specs.MwFrameDeclaredSceneScene.{Scene}
use Rattle.lua_meaning_laws.specs.MwFrameDeclaredQuestionAsk.{Ask}
use Rattle.lua_meaning_laws.specs.MwFrameDeclaredQuestionAskTheVariants.{Template, Preprocess, Data}
use Rattle.page_run.specs.Run.{Run, Ends, Takes, Counts, Notes, Sees, Changes, Calls, Leaves, Uses, Begins, Opens, Asks, Meaning}
use Rattle.page_run.specs.State.{Response, Gives, Exhausts, Reply, Replier, State, start, Event, Ended, Spent, Asked, moment_of}
use Rattle.page_run.specs.Perform.{less, apply_use, after_use, with_steps, enter_call, with_call, leave_call, count_node, with_node, take_reply, after_response, with_computed, with_reply, nothing_begins, perform_with, perform_by, perform, size, to_come}
use Rattle.page_run.specs.Charges.{KeepsCalls, GivenBack}
use Rattle.page_run.proofs.ChargeLaws.{calls_come_back}
use Rattle.expand_meaning.specs.WikiMarkupTrees.{Trees}
use Rattle.expand_meaning.specs.Expand.{thing_text}
use Rattle.expand_meaning.specs.Outcome.{Work as PageWork, Reading, Including, expansion}
use Rattle.lua_meaning_laws.specs.LuaMeaningWorld.{Module}
use Rattle.lua_meaning_laws.specs.LuaMeaningThings.{meaning_of}
use Rattle.lua_meaning_laws.specs.LuaMeaningHome.{home}
use Rattle.lua_meaning_laws.specs.LuaMeaningStart.{Work, Invoke, DataOf, run_of}
use Rattle.page_meaning.specs.Wiki.{Wiki, setting, world, read}
use Rattle.page_meaning.specs.Told.{Seen, invocation_response, invoked}
use Rattle.page_meaning.specs.Drive.{Runs, invocation_reply, expansion_reply, template_reply, data_reply, reply, replies, one_run, drive_by, drive}
use Rattle.page_meaning.specs.Laws.{RepliesGiveCallsBack, IsOver, RunsComeToAnEnd, ExpansionsComeToTexts}
use Rattle.page_meaning.proofs.DriveLaws.{drive-invocation}
use Rattle.page_meaning.proofs.Texts.{comes_to_text}

-- each question has its reply
abbrev Answers : {Q A : Type 0} → Replier Q A → Type 0
Answers {Q = Q} {A = A} b = (q : Q) (l : Left) → (r : Reply A) × (b q l ≡ Some r)

module _ {H Q A O : Type 0} where
  steps_end : (o : Option ℕ) (s : State H A) (go : State H A → Event H Q O) → ((r : ℕ) → IsOver (go record s { left = record s.left { steps = r } })) → IsOver (with_steps o s go)
  steps_end (Some r) s go h = h r
  steps_end None s go h = tt

  call_ends : (o : Option ℕ) (s : State H A) (go : State H A → Event H Q O) → ((r : ℕ) → IsOver (go (enter_call r s))) → IsOver (with_call o s go)
  call_ends (Some r) s go h = h r
  call_ends None s go h = tt

  node_ends : (o : Option ℕ) (s : State H A) (go without : State H A → Event H Q O) → ((r : ℕ) → IsOver (go record s { left = record s.left { nodes = r } })) → IsOver (without s) → IsOver (with_node o s go without)
  node_ends (Some r) s go without h i = h r
  node_ends None s go without h i = i

  said_ends : (x : Response A) (s : State H A) (go : A → State H A → Event H Q O) → ((a : A) → IsOver (go a s)) → IsOver (after_response x s go)
  said_ends (Gives a) s go h = h a
  said_ends (Exhausts w) s go h = tt

  reply_ends : (b : Replier Q A) (rs : List (Reply A)) (q : Q) (s : State H A) (go : A → State H A → Event H Q O) → Answers b → ((a : A) (t : State H A) → IsOver (go a t)) → IsOver (with_reply b rs q s go)
  reply_ends b [] q s go answers h =
      let x = answers q s.left in
      subst (λ o. IsOver (with_computed o q s go)) (sym x.1) (said_ends x.0.response (take_reply x.0 [] s) go (λ a. h a (take_reply x.0 [] s)))
  reply_ends b (r ∷ rs) q s go answers h = said_ends r.response (take_reply r rs s) go (λ a. h a (take_reply r rs s))

module _ {M H T Q A O : Type 0} (meaning : Meaning M H T Q A O) (b : Replier Q A) (answers : Answers b) where
  with_end : (g : Run M H T Q A O → State H A → Event H Q O) → ((p : Run M H T Q A O) (s : State H A) → IsOver (g p s)) → (p : Run M H T Q A O) (s : State H A) → IsOver (perform_with meaning b g p s)
  with_end g h (Ends o) s = tt
  with_end g h (Takes n p) s = steps_end (less n s.left.steps) s (perform_with meaning b g p) (λ r. with_end g h p record s { left = record s.left { steps = r } })
  with_end g h (Counts p) s = with_end g h p (count_node s)
  with_end g h (Notes source name p) s = with_end g h p s
  with_end g h (Sees f) s = with_end g h (f s.heap) s
  with_end g h (Changes heap p) s = with_end g h p record s { heap = heap }
  with_end g h (Calls p) s = call_ends (less 1 s.left.calls) s (perform_with meaning b g p) (λ r. with_end g h p (enter_call r s))
  with_end g h (Leaves p) s = with_end g h p (leave_call s)
  with_end g h (Uses v u f) s = with_end g h (f (apply_use u s.left).0) (after_use u s)
  with_end g h (Begins t f) s = steps_end (less 1 s.left.steps) s (g (meaning t f)) (λ r. h (meaning t f) record s { left = record s.left { steps = r } })
  with_end g h (Opens v t p f) s = node_ends (less 1 s.left.nodes) s (g (meaning t f)) (perform_with meaning b g p) (λ r. h (meaning t f) record s { left = record s.left { nodes = r } }) (with_end g h p s)
  with_end g h (Asks q f) s = reply_ends b s.replies q s (λ a. perform_with meaning b g (f a)) answers (λ a t. with_end g h (f a) t)

  by_end : (n : ℕ) (p : Run M H T Q A O) (s : State H A) → IsOver (perform_by meaning b n p s)
  by_end zero p s = with_end nothing_begins (λ p' s'. tt) p s
  by_end (suc n) p s = with_end (perform_by meaning b n) (λ p' s'. by_end n p' s') p s

  perform_end : (p : Run M H T Q A O) (s : State H A) → IsOver (perform meaning b p s)
  unfolding perform
  perform_end p s = by_end (to_come s) p s

-- what is over has given back its calls
left_calls : {H Q O : Type 0} → (n : ℕ) (e : Event H Q O) → IsOver e → GivenBack n e → (moment_of e).left.calls ≡ n
left_calls n (Ended o m) over back = back.0
left_calls n (Spent w m) over back = back.0
left_calls n (Asked q m) over back = absurd over

no_more : (n : ℕ) → n + 0 ≡ n
no_more n = omega arith

abbrev Returns : Runs → Type 0
Returns runs = (work : Work) (l : Left) → (moment_of (runs work l)).left.calls ≡ l.calls

module _ (wiki : Wiki) (page : Title) where
  invocations_answer : (runs : Runs) → Answers (invocation_reply wiki page runs)
  invocations_answer runs job l = (invoked (runs (Invoke job) l), refl)

  replies_answer : (runs : Runs) → Answers (replies wiki page runs)
  replies_answer runs question l = (reply wiki page runs question l, refl)

  by_over : (n : ℕ) (work : Work) (l : Left) → IsOver (drive_by wiki page n work l)
  by_over zero work l = tt
  by_over (suc n) work l = perform_end (meaning_of (world wiki page)) (replies wiki page (drive_by wiki page n)) (replies_answer (drive_by wiki page n)) (run_of (world wiki page) work) (start home l [])

  module _ (runs : Runs) (back : Returns runs) where
    invocation_keeps : KeepsCalls (invocation_reply wiki page runs)
    invocation_keeps job l r e =
        let same : invoked (runs (Invoke job) l) ≡ r = cc in
        subst (λ x. x.left.calls ≡ l.calls) same (back (Invoke job) l)

    expansion_keeps : (work : PageWork) (l : Left) → (expansion_reply wiki page runs work l).left.calls ≡ l.calls
    expansion_keeps work l =
        let meaning = thing_text (setting wiki page) in
        let b = invocation_reply wiki page runs in
        left_calls (l.calls + 0) (perform meaning b (expansion work) (start tt l [])) (perform_end meaning b (invocations_answer runs) (expansion work) (start tt l [])) (calls_come_back meaning b invocation_keeps (expansion work) (start tt l []) refl) ∙ no_more l.calls

    template_keeps : (held : Option Trees) (title : Title) (scene : Scene) (args : List Arg) (l : Left) → (template_reply wiki page runs held title scene args l).left.calls ≡ l.calls
    template_keeps (Some trees) title scene args l = expansion_keeps (Including trees title record scene { args = args }) l
    template_keeps None title scene args l = refl

    data_keeps : (held : Option Module) (title : Title) (l : Left) → (data_reply wiki page runs held title l).left.calls ≡ l.calls
    data_keeps (Some m) title l = back (DataOf title) l
    data_keeps None title l = refl

    reply_keeps : (question : Ask) (l : Left) → (reply wiki page runs question l).left.calls ≡ l.calls
    reply_keeps (Template scene title args) l = template_keeps (wiki.included title) title scene args l
    reply_keeps (Preprocess scene text) l = expansion_keeps (Reading (read text) scene) l
    reply_keeps (Data title) l = data_keeps (wiki.modules title) title l

    replies_keep : KeepsCalls (replies wiki page runs)
    replies_keep question l r e =
        let same : reply wiki page runs question l ≡ r = cc in
        subst (λ x. x.left.calls ≡ l.calls) same (reply_keeps question l)

    one_returns : Returns (one_run wiki page runs)
    one_returns work l =
        let meaning = meaning_of (world wiki page) in
        let b = replies wiki page runs in
        let p = run_of (world wiki page) work in
        left_calls (l.calls + 0) (perform meaning b p (start home l [])) (perform_end meaning b (replies_answer runs) p (start home l [])) (calls_come_back meaning b replies_keep p (start home l []) refl) ∙ no_more l.calls

  by_returns : (n : ℕ) → Returns (drive_by wiki page n)
  by_returns zero work l = refl
  by_returns (suc n) work l = one_returns (drive_by wiki page n) (by_returns n) work l

  drive_returns : Returns (drive wiki page)
  unfolding drive
  drive_returns work l = by_returns (suc (size l)) work l

  drive_over : (work : Work) (l : Left) → IsOver (drive wiki page work l)
  unfolding drive
  drive_over work l = by_over (suc (size l)) work l

pub replies_give_calls_back : RepliesGiveCallsBack
replies_give_calls_back wiki page = (replies_keep wiki page (drive wiki page) (drive_returns wiki page), invocation_keeps wiki page (drive wiki page) (drive_returns wiki page))

pub runs_come_to_an_end : RunsComeToAnEnd
runs_come_to_an_end wiki page work l = drive_over wiki page work l

-- an invocation gives a text in any case
invocation_gives : (e : Seen) → (x : List ℕ) × (invocation_response e ≡ Gives x)
invocation_gives (Ended outcome m) = (_, refl)
invocation_gives (Spent which m) = (_, refl)
invocation_gives (Asked question m) = (_, refl)

pub expansions_come_to_texts : ExpansionsComeToTexts
expansions_come_to_texts wiki page work l =
    comes_to_text (setting wiki page) (invocation_reply wiki page (drive wiki page)) (drive-invocation wiki page) (λ job now. (invoked (drive wiki page (Invoke job) now), refl, invocation_gives (drive wiki page (Invoke job) now))) work l

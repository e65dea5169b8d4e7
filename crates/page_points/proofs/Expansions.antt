-- An expansion at its place: it asks for an invocation, or it has come to its text.
use Rattle.std.proofs.Common.{◌≡◌, ℕ, List, [], refl, sym, ap, ◌∙◌, subst}
use Rattle.std.specs.Prelude.{map}
use Rattle.page_meaning.specs.WkBaseDeclaredLeftLeft.{Left}
use Rattle.page_meaning.specs.WkBaseDeclaredTitleTitle.{Title}
use Rattle.page_meaning.specs.PageRunState.{Ended, Spent, Asked, Gives, Reply}
use Rattle.page_meaning.specs.PageRunWalk.{WalkState, tally_of}
use Rattle.page_meaning.specs.MwFrameDeclaredSceneJob.{Job}
use Rattle.page_meaning.specs.ExpandMeaningOutcome.{Work, Comes, Asks, next_event}
use Rattle.page_meaning.specs.LuaMeaningStart.{Invoke}
use Rattle.page_meaning.specs.LuaMeaningQuestions.{Answer, Expanded}
use Rattle.page_meaning.specs.Wiki.{Wiki, setting}
use Rattle.page_meaning.specs.Told.{Seen, PageSeen, invoked, expanded}
use Rattle.page_meaning.specs.Points.{drive_after}
use Rattle.page_meaning.specs.Tasks.{Expanding, Question, OfPage, as_answer, answer_to, Wants, Comes as HasReply, as_text, page_progress, progress}
use Rattle.page_points.specs.Places.{Place, TellsAll, WaitsFor, HasCome, next_of}
use Rattle.page_points.specs.Machines.{EndsText}

asks_is : (e : PageSeen) (job : Job) (left : Left) → Asks e job left → page_progress e ≡ Wants (OfPage job) left
asks_is (Ended x m) job left a = absurd a
asks_is (Spent w m) job left a = absurd a
asks_is (Asked q m) job left a = rw (a.0, a.1) refl

module _ (wiki : Wiki) (page : Title) where
  -- what is seen of the expansion at a place
  abbrev event_at : Work → Place → PageSeen
  event_at work p = next_event (setting wiki page) work p.first (map as_text p.given)

  pub expansion_asks : (p : Place) (work : Work) (job : Job) (left : Left) → p.task ≡ Expanding work → Asks (event_at work p) job left → next_of wiki page p ≡ Wants (OfPage job) left
  expansion_asks p work job left is a = ap (λ t. progress wiki page t p.first p.given) is ∙ asks_is (event_at work p) job left a

  come : (p : Place) (work : Work) (e : PageSeen) → p.task ≡ Expanding work → event_at work p ≡ e → page_progress e ≡ HasReply (expanded e) → HasCome wiki page p (expanded e)
  come p work e is h c =
      subst (λ t. HasCome wiki page (record p { task = t }) (expanded e)) (sym is) (record {
        comes = ap page_progress h ∙ c;
        tells = subst (λ x. TellsAll (Expanding work) p.first p.nodes (tally_of x).invoked_nodes (tally_of x).loads (expanded e)) (sym h) (refl, refl);
      })

  comes_is : (p : Place) (work : Work) (text : List ℕ) (left : Left) → p.task ≡ Expanding work → (e : PageSeen) → event_at work p ≡ e → Comes e text left → EndsText wiki page p text left
  comes_is p work text left is (Ended x m) h c = record { reply = expanded (Ended x m); comes = come p work (Ended x m) is h refl; says_so = ap (λ t. Gives (Expanded t)) c.0; leaves = c.1 }
  comes_is p work text left is (Spent w m) h c = absurd c
  comes_is p work text left is (Asked q m) h c = absurd c

  pub expansion_ends : (p : Place) (work : Work) (text : List ℕ) (left : Left) → p.task ≡ Expanding work → Comes (event_at work p) text left → EndsText wiki page p text left
  expansion_ends p work text left is c = comes_is p work text left is (event_at work p) refl c

  -- IT IS ANSWERED with a text: what it asked for is an invocation
  invocation_answers : (job : Job) (left : Left) → (x : List ℕ) × ((answer_to wiki page (OfPage job) left).response ≡ Gives (Expanded x))
  invocation_answers job left = text_of_run (drive_after wiki page (Invoke job) left [])
    where
      text_of_run : (e : Seen) → (x : List ℕ) × ((as_answer (invoked e)).response ≡ Gives (Expanded x))
      text_of_run (Ended outcome m) = (_, refl)
      text_of_run (Spent which m) = (_, refl)
      text_of_run (Asked question m) = (_, refl)

  wants_answer : (e : PageSeen) (q : Question) (left : Left) → page_progress e ≡ Wants q left → (x : List ℕ) × ((answer_to wiki page q left).response ≡ Gives (Expanded x))
  wants_answer (Ended x m) q left h = absurd cc
  wants_answer (Spent w m) q left h = absurd cc
  wants_answer (Asked job m) q left h = subst (λ v. (x : List ℕ) × ((answer_to wiki page v left).response ≡ Gives (Expanded x))) (job_is h) (invocation_answers job left)
    where
      job_is : Wants (OfPage job) m.left ≡ Wants q left → OfPage job ≡ q
      job_is h = cc

  pub expansion_is_answered : (p : Place) (work : Work) (r : Reply Answer) (w : WalkState) → p.task ≡ Expanding work → WaitsFor wiki page p r w → (x : List ℕ) × (r.response ≡ Gives (Expanded x))
  expansion_is_answered p work r w is k =
      let a = wants_answer (event_at work p) k.question k.left (sym (ap (λ t. progress wiki page t p.first p.given) is) ∙ k.wants) in
      (a.0, ap (λ (x : Reply Answer). x.response) (sym k.answer) ∙ a.1)

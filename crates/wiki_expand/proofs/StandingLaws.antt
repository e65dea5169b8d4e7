-- What an expander does at a point of a run is what the definition does.
use Rattle.std.proofs.Common.{◌≡◌, ℕ, ◌+◌, List, [], ◌∷◌, ◌++◌, Option, Some, None, IfSome, append-nil, append_assoc, refl, sym, ap, ◌∙◌, subst, arith}
use Rattle.page_run.specs.WkBaseDeclaredLeftLeft.{Left}
use Rattle.mw_frame.specs.declared.scene.Job.{Job}
use Rattle.page_run.specs.Run.{Run, Ends}
use Rattle.page_run.specs.State.{no_tally, join, Gives, Reply}
use Rattle.page_run.specs.Perform.{perform, wait}
use Rattle.page_run.proofs.ReplyLaws.{no_rise-wait}
use Rattle.page_run.proofs.EventLaws.{ends_is, asks_is}
use Rattle.expand_texts.specs.ExpandMeaningExpand.{Setting, Page, thing_text}
use Rattle.expand_texts.specs.ExpandMeaningOutcome.{Work, Reading, Including, next_event, Comes, Asks}
use Rattle.wiki_expand.specs.Points.{wiki_setting, scene_in, waiting, state, Leads}
use Rattle.wiki_expand.specs.declared.frame.Wiki.{Wiki}
use Rattle.wiki_expand.specs.declared.frame.Machine.{Machine}
use Rattle.wiki_expand.specs.Standing.{AtPoint, AtIf, LeadsIf, MoveAt, IsDoing, AfterIs, Moves, work_page}
use Rattle.wiki_expand.specs.Weights.{levels, bodies}
use Rattle.wiki_expand.specs.declared.expander.Move.{Move}
use Rattle.wiki_expand.specs.declared.expander.Move.TheVariants.{Text as Came, Invoke as Invokes}
use Rattle.wiki_expand.specs.declared.expander.Doing.{Doing}

-- the event at a point, with no more replies
pub now_is : (w : Setting) (p q : Page) (work : Work) (first l l' : Left) (given : List (Reply (List ℕ))) (at : AtPoint w p work first given l) → Leads w p l q l' → next_event w work first given ≡ perform (thing_text w) wait q (state l' at.tally [])
now_is w p q work first l l' given at h = ap (next_event w work first) (sym (append-nil given)) ∙ sym (at.goes_on []) ∙ h.runs at.tally []

pub text_is : (w : Setting) (p : Page) (work : Work) (first l l' : Left) (given : List (Reply (List ℕ))) (x : List ℕ) → AtPoint w p work first given l → Leads w p l (Ends x) l' → Comes (next_event w work first given) x l'
text_is w p work first l l' given x at h =
    let back : l'.calls + 0 ≡ l'.calls = omega arith in
    subst (λ e. Comes e x l') (sym (now_is w p (Ends x) work first l l' given at h ∙ ends_is (thing_text w) wait no_rise-wait x (state l' at.tally []))) (refl, ap (λ n. record l' { calls = n }) back)

pub question_is : (w : Setting) (p : Page) (k : List ℕ → Page) (work : Work) (first l l' : Left) (given : List (Reply (List ℕ))) (job : Job) → AtPoint w p work first given l → Leads w p l (Run.Asks job k) l' → Asks (next_event w work first given) job l'
question_is w p k work first l l' given job at h =
    subst (λ e. Asks e job l') (sym (now_is w p (Run.Asks job k) work first l l' given at h ∙ (asks_is (thing_text w) wait no_rise-wait job k (state l' at.tally [])).2 refl refl)) (refl, refl)

pub waits_is : (w : Setting) (p : Page) (k : List ℕ → Page) (work : Work) (first l l' : Left) (given : List (Reply (List ℕ))) (job : Job) → AtPoint w p work first given l → Leads w p l (Run.Asks job k) l' → (r : Reply (List ℕ)) (x : List ℕ) → r.response ≡ Gives x → AtPoint w (k x) work first (given ++ r ∷ []) r.left
waits_is w p k work first l l' given job at h r x said = record {
  tally = join 0 at.tally r.tally;
  goes_on = λ more.
      sym (((asks_is (thing_text w) wait no_rise-wait job k (state l' at.tally (r ∷ more))).0 r more refl).0 x said)
      ∙ sym (h.runs at.tally (r ∷ more))
      ∙ at.goes_on (r ∷ more)
      ∙ ap (next_event w work first) (sym (append_assoc given (r ∷ []) more));
}

-- a run at its beginning
pub begins_is : (w : Setting) (p : Page) (work : Work) (l : Left) → p ≡ work_page work Ends → AtPoint w p work l [] l
unfolding next_event
begins_is w p (Reading trees sc) l e = record { tally = no_tally; goes_on = λ more. ap (λ q. perform (thing_text w) wait q (state l no_tally more)) e }
begins_is w p (Including trees title sc) l e = record { tally = no_tally; goes_on = λ more. ap (λ q. perform (thing_text w) wait q (state l no_tally more)) e }

-- the point that a run comes to
at_point : (w : Setting) (p q : Page) (work : Work) (first l l' : Left) (given : List (Reply (List ℕ))) → AtPoint w p work first given l → Leads w p l q l' → AtPoint w q work first given l'
at_point w p q work first l l' given at h = record { tally = at.tally; goes_on = λ more. sym (h.runs at.tally more) ∙ at.goes_on more }

pub at_focus : (w : Setting) (o : Option Page) (q : Page) (work : Work) (first l l' : Left) (given : List (Reply (List ℕ))) → AtIf w o work first given l → LeadsIf w o l q l' → AtPoint w q work first given l'
at_focus w (Some p) q work first l l' given at h = at_point w p q work first l l' given at h
at_focus w None q work first l l' given at h = absurd at

pub move_of : (w : Wiki) (q : Page) (work : Work) (first l l' : Left) (given : List (Reply (List ℕ))) (m : Move) (e : Machine) → AtPoint (wiki_setting w) q work first given l → Moves w q l m e l' → MoveAt m (wiki_setting w) e.stack (scene_in e.scene) work first given l'
move_of w q work first l l' given (Came x) e at h = text_is (wiki_setting w) q work first l l' given x at h.0
move_of w q work first l l' given (Invokes job) e at h =
    (question_is (wiki_setting w) q (waiting w e) work first l l' given job at h, waits_is (wiki_setting w) q (waiting w e) work first l l' given job at h)

-- after a move that ends nothing is in progress
pub over_is : (w : Wiki) (q : Page) (l l' : Left) (m : Move) (e : Machine) (d : Doing) → Moves w q l m e l' → IsDoing m d → AfterIs m d e.stack
over_is w q l l' (Came x) e d h i = (ap levels h.1, ap bodies h.1)
over_is w q l l' (Invokes job) e d h i = i

pub moved : (w : Setting) (p q : Page) (work : Work) (first l l' : Left) (given : List (Reply (List ℕ))) → p ≡ q → l ≡ l' → AtPoint w p work first given l → AtPoint w q work first given l'
moved w p q work first l l' given e i at = subst (λ m. AtPoint w q work first given m) i (subst (λ r. AtPoint w r work first given l) e at)

pub start_is : (w : Setting) (o : Option Work) (work : Work) (d : Option Page) → o ≡ Some work → d ≡ Some (work_page work Ends) → IfSome o (λ v. (l : Left) → AtIf w d v l [] l)
start_is w o work d e i = subst (λ o. IfSome o (λ v. (l : Left) → AtIf w d v l [] l)) (sym e) (subst (λ d. (l : Left) → AtIf w d work l [] l) (sym i) (λ l. begins_is w (work_page work Ends) work l refl))

-- The laws of events, from the steps of `perform`.
use Rattle.std.proofs.Common.{◌≡◌, ℕ, zero, suc, ◌+◌, ◌-◌, ◌<◌, Bool, List, [], ◌∷◌, refl, sym, ap, ◌∙◌, arith}
use Rattle.wk_base.specs.declared.left.Left.{Left}
use Rattle.page_run.specs.declared.which.Which.TheVariants.{Steps}
use Rattle.page_run.specs.Run.{TakeBytes, EnterDepth, LeaveDepth, HasTemplate, EnterTemplate, LeaveTemplate, Run, Notes, Asks, Meaning}
use Rattle.page_run.specs.State.{Reply, Replier, State, Event, Spent}
use Rattle.page_run.specs.Perform.{after_bytes, after_depth, after_template, with_steps, with_call, give_back, with_node, take_reply, after_response, with_computed, with_reply, perform, NoRise, to_come}
use Rattle.page_run.specs.Trace.{trace_by, trace, NotesAreTold}
use Rattle.page_run.specs.Events.{EndsIs, TakesIs, CountsIs, NotesAre, SeesIs, ChangesIs, CallsIs, LeavesIs, BytesAre, DepthIs, TemplatesAre, BeginsIs, OpensIs, GoesOn, AsksIs, moment_at_end}
use Rattle.std.proofs.lemmas.Bool.{le-leb, lt-leb}
use Rattle.page_run.proofs.Less.{less_of, less_over}
use Rattle.page_run.proofs.Enough.{perform-Ends, perform-Takes, perform-Counts, perform-Notes, perform-Sees, perform-Changes, perform-Calls, perform-Leaves, perform-Uses, perform-Begins, perform-Opens, perform-Asks}

back_some : {H A : Type 0} → (n : ℕ) (s : State H A) → 0 < n → give_back n s ≡ record s { left = record s.left { calls = s.left.calls + 1 }; in_progress = n - 1 }
back_some zero s h = absurd (omega arith)
back_some (suc n) s h =
    let e : n ≡ suc n - 1 = omega arith in
    ap (λ k. record s { left = record s.left { calls = s.left.calls + 1 }; in_progress = k }) e

back_none : {H A : Type 0} → (n : ℕ) (s : State H A) → n ≡ 0 → give_back n s ≡ s
back_none zero s h = refl
back_none (suc n) s h = absurd (omega arith)

module _ {M H T Q A O : Type 0} (meaning : Meaning M H T Q A O) (b : Replier Q A) (nr : NoRise b) where
  pub ends_is : EndsIs meaning b
  ends_is o s = perform-Ends meaning b nr o s

  pub takes_is : TakesIs meaning b
  takes_is n p s = (
    λ h. perform-Takes meaning b nr n p s ∙ ap (λ o. with_steps o s (perform meaning b p)) (less_of n s.left.steps h),
    λ h. perform-Takes meaning b nr n p s ∙ ap (λ o. with_steps o s (perform meaning b p)) (less_over n s.left.steps h),
  )

  pub counts_is : CountsIs meaning b
  counts_is p s = perform-Counts meaning b nr p s

  pub notes_are : NotesAre meaning b
  notes_are source name p s = perform-Notes meaning b nr source name p s

  told_by : (n : ℕ) (source name : List ℕ) (p : Run M H T Q A O) (s : State H A) → trace_by meaning b n (Notes source name p) s ≡ record { source = source; name = name } ∷ trace_by meaning b n p s
  told_by zero source name p s = refl
  told_by (suc n) source name p s = refl

  pub notes_are_told : NotesAreTold meaning b
  unfolding trace
  notes_are_told source name p s = told_by (to_come s) source name p s

  pub sees_is : SeesIs meaning b
  sees_is f s = perform-Sees meaning b nr f s

  pub changes_is : ChangesIs meaning b
  changes_is h p s = perform-Changes meaning b nr h p s

  pub calls_is : CallsIs meaning b
  calls_is p s = (
    λ h. perform-Calls meaning b nr p s ∙ ap (λ o. with_call o s (perform meaning b p)) (less_of 1 s.left.calls (omega arith)),
    λ h. perform-Calls meaning b nr p s ∙ ap (λ o. with_call o s (perform meaning b p)) (less_over 1 s.left.calls (omega arith)),
  )

  pub leaves_is : LeavesIs meaning b
  leaves_is p s = (
    λ h. perform-Leaves meaning b nr p s ∙ ap (perform meaning b p) (back_some s.in_progress s h),
    λ h. perform-Leaves meaning b nr p s ∙ ap (perform meaning b p) (back_none s.in_progress s h),
  )

  -- a use, by what is told and left
  use_goes : (f : Bool → Run M H T Q A O) (s : State H A) → Bool × Left → Event H Q O
  use_goes f s x = perform meaning b (f x.0) record s { left = x.1 }

  pub bytes_are : BytesAre meaning b
  unfolding use_goes
  bytes_are v n f s = (
    λ h. perform-Uses meaning b nr v (TakeBytes n) f s ∙ ap (λ o. use_goes f s (after_bytes o s.left)) (less_of n s.left.bytes h),
    λ h. perform-Uses meaning b nr v (TakeBytes n) f s ∙ ap (λ o. use_goes f s (after_bytes o s.left)) (less_over n s.left.bytes h),
  )

  pub depth_is : DepthIs meaning b
  unfolding use_goes
  depth_is v f s = (
    λ h. perform-Uses meaning b nr v EnterDepth f s ∙ ap (λ o. use_goes f s (after_depth o s.left)) (less_of 1 s.left.depth (omega arith)),
    λ h. perform-Uses meaning b nr v EnterDepth f s ∙ ap (λ o. use_goes f s (after_depth o s.left)) (less_over 1 s.left.depth (omega arith)),
    perform-Uses meaning b nr v LeaveDepth f s,
  )

  pub templates_are : TemplatesAre meaning b
  unfolding use_goes
  templates_are v f s = (
    λ h. perform-Uses meaning b nr v HasTemplate f s ∙ ap (λ t. use_goes f s (t, s.left)) (le-leb 1 s.left.templates (omega arith)),
    λ h. perform-Uses meaning b nr v HasTemplate f s ∙ ap (λ t. use_goes f s (t, s.left)) (lt-leb 1 s.left.templates (omega arith)),
    λ h. perform-Uses meaning b nr v EnterTemplate f s ∙ ap (λ o. use_goes f s (after_template o s.left)) (less_of 1 s.left.templates (omega arith)),
    λ h. perform-Uses meaning b nr v EnterTemplate f s ∙ ap (λ o. use_goes f s (after_template o s.left)) (less_over 1 s.left.templates (omega arith)),
    perform-Uses meaning b nr v LeaveTemplate f s,
  )

  pub begins_is : BeginsIs meaning b
  begins_is t k s = (
    λ h. perform-Begins meaning b nr t k s ∙ ap (λ o. with_steps o s (perform meaning b (meaning t k))) (less_of 1 s.left.steps (omega arith)),
    λ h.
        let none : 0 ≡ s.left.steps = sym h in
        perform-Begins meaning b nr t k s
        ∙ ap (λ o. with_steps o s (perform meaning b (meaning t k))) (less_over 1 s.left.steps (omega arith))
        ∙ ap (λ n. Spent Steps (moment_at_end record s { left = record s.left { steps = n } })) none,
  )

  pub opens_is : OpensIs meaning b
  opens_is v t p k s = (
    λ h. perform-Opens meaning b nr v t p k s ∙ ap (λ o. with_node o s (perform meaning b (meaning t k)) (perform meaning b p)) (less_of 1 s.left.nodes (omega arith)),
    λ h. perform-Opens meaning b nr v t p k s ∙ ap (λ o. with_node o s (perform meaning b (meaning t k)) (perform meaning b p)) (less_over 1 s.left.nodes (omega arith)),
  )

  goes_on : (q : Q) (f : A → Run M H T Q A O) (s : State H A) (r : Reply A) (rs : List (Reply A)) → perform meaning b (Asks q f) s ≡ after_response r.response (take_reply r rs s) (λ a. perform meaning b (f a)) → GoesOn meaning b q f s r rs
  goes_on q f s r rs e =
      (λ a h. e ∙ ap (λ x. after_response x (take_reply r rs s) (λ a. perform meaning b (f a))) h, λ w h. e ∙ ap (λ x. after_response x (take_reply r rs s) (λ a. perform meaning b (f a))) h)

  pub asks_is : AsksIs meaning b
  asks_is q f s = (
    λ r rs h. goes_on q f s r rs (perform-Asks meaning b nr q f s ∙ ap (λ xs. with_reply b xs q s (λ a. perform meaning b (f a))) h),
    λ r h i.
        goes_on q f s r [] (perform-Asks meaning b nr q f s ∙ ap (λ xs. with_reply b xs q s (λ a. perform meaning b (f a))) h ∙ ap (λ o. with_computed o q s (λ a. perform meaning b (f a))) i),
    λ h i. perform-Asks meaning b nr q f s ∙ ap (λ xs. with_reply b xs q s (λ a. perform meaning b (f a))) h ∙ ap (λ o. with_computed o q s (λ a. perform meaning b (f a))) i,
  )

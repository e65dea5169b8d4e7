-- The walk over loads; and the loads that a run tells, which are those of its replies.
use Rattle.std.proofs.Common.{◌≡◌, ℕ, zero, suc, true, [], ◌∷◌, Option, Some, None, refl, sym, ap, ◌∙◌, subst}
use Rattle.std.specs.Prelude.{◌&&◌}
use Rattle.page_run.specs.Run.{Run, Ends, Takes, Counts, Notes, Sees, Changes, Calls, Leaves, Uses, Begins, Opens, Asks, Meaning}
use Rattle.page_run.specs.State.{NoLoads, Load, Tally, Response, Gives, Exhausts, State, at, Event}
use Rattle.page_run.specs.Perform.{less, apply_use, after_use, with_steps, enter_call, with_call, give_back, leave_call, count_node, with_node, take_reply, after_response, nothing_begins, perform_with, perform_by, perform, to_come, wait}
use Rattle.page_run.specs.Walk.{is_in, walk_load, walk, tally_of, RepeatIsKept, OtherIsFresh, WalkOfJoined, TellsNone, TellsReply}
use Rattle.page_run.proofs.ReplyLaws.{no_rise-wait, waiting_is_asking}
use Rattle.page_run.proofs.ChargeLaws.{back_replies}
use Rattle.page_run.proofs.Enough.{perform-Asks}

pub repeat_is_kept : RepeatIsKept
repeat_is_kept name charge nodes inner rest w e = ap (λ b. walk rest (walk_load (true && b) name charge nodes true (walk inner) w)) e

pub other_is_fresh : OtherIsFresh
other_is_fresh = (λ name charge nodes inner rest w e. ap (λ b. walk rest (walk_load (true && b) name charge nodes true (walk inner) w)) e, λ name charge nodes inner rest w. refl)

pub walk_of_joined : WalkOfJoined
walk_of_joined NoLoads second w = refl
walk_of_joined (Load name charge nodes completed inner rest) second w = walk_of_joined rest second (walk_load (completed && is_in name w.completed_modules) name charge nodes completed (walk inner) w)

-- the same loads and invocations
abbrev Tells : Tally → Tally → Type 0
Tells a b = (a.loads ≡ b.loads) × (a.invoked_nodes ≡ b.invoked_nodes)

module _ {H Q A O : Type 0} (t : Tally) where
  steps_tell : (o : Option ℕ) (s : State H A) (go : State H A → Event H Q O) → Tells s.tally t → ((r : ℕ) → Tells (tally_of (go record s { left = record s.left { steps = r } })) t) → Tells (tally_of (with_steps o s go)) t
  steps_tell (Some r) s go e h = h r
  steps_tell None s go e h = e

  call_tells : (o : Option ℕ) (s : State H A) (go : State H A → Event H Q O) → Tells s.tally t → ((r : ℕ) → Tells (tally_of (go (enter_call r s))) t) → Tells (tally_of (with_call o s go)) t
  call_tells (Some r) s go e h = h r
  call_tells None s go e h = e

  node_tells : (o : Option ℕ) (s : State H A) (go without : State H A → Event H Q O) → ((r : ℕ) → Tells (tally_of (go record s { left = record s.left { nodes = r } })) t) → Tells (tally_of (without s)) t → Tells (tally_of (with_node o s go without)) t
  node_tells (Some r) s go without h i = h r
  node_tells None s go without h i = i

  said_tells : (x : Response A) (s : State H A) (go : A → State H A → Event H Q O) → Tells s.tally t → ((a : A) → Tells (tally_of (go a s)) t) → Tells (tally_of (after_response x s go)) t
  said_tells (Gives a) s go e h = h a
  said_tells (Exhausts w) s go e h = e

back_tells : {H A : Type 0} → (n : ℕ) (s : State H A) → (give_back n s).tally ≡ s.tally
back_tells zero s = refl
back_tells (suc n) s = refl

module _ {M H T Q A O : Type 0} (meaning : Meaning M H T Q A O) where
  with_tells : (g : Run M H T Q A O → State H A → Event H Q O) (t : Tally) → ((p : Run M H T Q A O) (s : State H A) → s.replies ≡ [] → Tells s.tally t → Tells (tally_of (g p s)) t) → (p : Run M H T Q A O) (s : State H A) → s.replies ≡ [] → Tells s.tally t → Tells (tally_of (perform_with meaning wait g p s)) t
  with_tells g t h (Ends o) s i e = e
  with_tells g t h (Takes n p) s i e = steps_tell t (less n s.left.steps) s (perform_with meaning wait g p) e (λ r. with_tells g t h p record s { left = record s.left { steps = r } } i e)
  with_tells g t h (Counts p) s i e = with_tells g t h p (count_node s) i e
  with_tells g t h (Notes source name p) s i e = with_tells g t h p s i e
  with_tells g t h (Sees f) s i e = with_tells g t h (f s.heap) s i e
  with_tells g t h (Changes heap p) s i e = with_tells g t h p record s { heap = heap } i e
  with_tells g t h (Calls p) s i e = call_tells t (less 1 s.left.calls) s (perform_with meaning wait g p) e (λ r. with_tells g t h p (enter_call r s) i e)
  with_tells g t h (Leaves p) s i e = with_tells g t h p (leave_call s) (back_replies s.in_progress s ∙ i) (subst (λ x. Tells x t) (sym (back_tells s.in_progress s)) e)
  with_tells g t h (Uses v u f) s i e = with_tells g t h (f (apply_use u s.left).0) (after_use u s) i e
  with_tells g t h (Begins x f) s i e = steps_tell t (less 1 s.left.steps) s (g (meaning x f)) e (λ r. h (meaning x f) record s { left = record s.left { steps = r } } i e)
  with_tells g t h (Opens v x p f) s i e =
      node_tells t (less 1 s.left.nodes) s (g (meaning x f)) (perform_with meaning wait g p) (λ r. h (meaning x f) record s { left = record s.left { nodes = r } } i e) (with_tells g t h p s i e)
  with_tells g t h (Asks q f) s i e = subst (λ rs. Tells (tally_of (perform_with meaning wait g (Asks q f) record s { replies = rs })) t) (sym i) e

  by_tells : (n : ℕ) (t : Tally) (p : Run M H T Q A O) (s : State H A) → s.replies ≡ [] → Tells s.tally t → Tells (tally_of (perform_by meaning wait n p s)) t
  by_tells zero t p s i e = with_tells nothing_begins t (λ p' s' i' e'. e') p s i e
  by_tells (suc n) t p s i e = with_tells (perform_by meaning wait n) t (λ p' s' i' e'. by_tells n t p' s' i' e') p s i e

  pub tells_none : TellsNone meaning
  unfolding perform
  tells_none p s i = by_tells (to_come s) s.tally p s i (refl, refl)

  -- after its question a run goes on without replies
  pub tells_reply : TellsReply meaning
  tells_reply p s q m e r =
      let w = waiting_is_asking meaning p s q m e in
      let now : State H A = take_reply r [] (at m []) in
      subst (λ x. Tells (tally_of x) now.tally) (sym (w.1 wait no_rise-wait (r ∷ []) ∙ perform-Asks meaning wait no_rise-wait q w.0 (at m (r ∷ [])))) (said_tells now.tally r.response now (λ a. perform meaning wait (w.0 a)) (refl, refl) (λ a. tells_none (w.0 a) now refl))

-- A run that waits, and one that is over, under more replies: one induction over events, with the laws of events on the other side.
use Rattle.std.proofs.Common.{◌≡◌, ℕ, zero, suc, ◌+◌, ◌≤◌, List, [], ◌∷◌, ◌++◌, append-nil, Option, Some, None, refl, sym, ap, ◌∙◌, subst, arith}
use Rattle.page_run.specs.Run.{Run, Ends, Takes, Counts, Notes, Sees, Changes, Calls, Leaves, Uses, Begins, Opens, Asks, Meaning}
use Rattle.page_run.specs.State.{Response, Gives, Exhausts, Reply, Replier, Moment, State, at, Event, Ended, Spent, Asked}
use Rattle.page_run.specs.Perform.{less, apply_use, after_use, with_steps, enter_call, with_call, give_back, count_node, with_node, take_reply, after_response, with_computed, with_reply, nothing_begins, perform_with, perform_by, perform, size, size_in, to_come, wait, add_replies, NoRise}
use Rattle.page_run.specs.Replies.{WaitingIsAsking, EndStands, SpentStands, ComputedIsGiven, UnansweredWaits, AgreeingIsEnough}
use Rattle.page_run.proofs.Less.{less_some, used_size}
use Rattle.page_run.proofs.Enough.{perform_agree, perform-Ends, perform-Takes, perform-Counts, perform-Notes, perform-Sees, perform-Changes, perform-Calls, perform-Leaves, perform-Uses, perform-Begins, perform-Opens, perform-Asks}

pub no_rise-wait : {Q A : Type 0} → NoRise {Q = Q} {A = A} wait
no_rise-wait q l r e = absurd cc

pub add_no_replies : {H A : Type 0} → (s : State H A) → add_replies [] s ≡ s
add_no_replies s = ap (λ rs. record s { replies = rs }) (append-nil s.replies)

module _ {M H T Q A O : Type 0} (meaning : Meaning M H T Q A O) where
  -- what a run comes to, under ways to compute replies and more that are given
  abbrev Later : Type 0
  Later = Replier Q A → List (Reply A) → Event H Q O

  -- the same, where the run that waits comes to this event
  abbrev Stands : Event H Q O → Later → Type 0
  Stands (Ended o m) later = (b : Replier Q A) → NoRise b → (more : List (Reply A)) → later b more ≡ Ended o m
  Stands (Spent w m) later = (b : Replier Q A) → NoRise b → (more : List (Reply A)) → later b more ≡ Spent w m
  Stands (Asked q m) later = (f : A → Run M H T Q A O) × ((b : Replier Q A) → NoRise b → (more : List (Reply A)) → later b more ≡ perform meaning b (Asks q f) (at m more))

  by_step : (later later' : Later) → ((b : Replier Q A) → NoRise b → (more : List (Reply A)) → later' b more ≡ later b more) → (e : Event H Q O) → Stands e later → Stands e later'
  by_step later later' same (Ended o m) h = λ b nr more. same b nr more ∙ h b nr more
  by_step later later' same (Spent w m) h = λ b nr more. same b nr more ∙ h b nr more
  by_step later later' same (Asked q m) h = (h.0, λ b nr more. same b nr more ∙ h.1 b nr more)

  -- the run from this state on
  abbrev from : Run M H T Q A O → State H A → Later
  from p s b more = perform meaning b p (add_replies more s)

  steps_stand : (o : Option ℕ) (n : ℕ) (s : State H A) (go : State H A → Event H Q O) (p : Run M H T Q A O) → less n s.left.steps ≡ o → ((r : ℕ) → r + n ≡ s.left.steps → Stands (go record s { left = record s.left { steps = r } }) (from p record s { left = record s.left { steps = r } })) → Stands (with_steps o s go) (λ b more. with_steps o (add_replies more s) (perform meaning b p))
  steps_stand (Some r) n s go p e h = h r (less_some n s.left.steps r e)
  steps_stand None n s go p e h = λ b nr more. refl

  call_stands : (o : Option ℕ) (s : State H A) (go : State H A → Event H Q O) (p : Run M H T Q A O) → ((r : ℕ) → Stands (go (enter_call r s)) (from p (enter_call r s))) → Stands (with_call o s go) (λ b more. with_call o (add_replies more s) (perform meaning b p))
  call_stands (Some r) s go p h = h r
  call_stands None s go p h = λ b nr more. refl

  back_stands : (n : ℕ) (s : State H A) (go : State H A → Event H Q O) (p : Run M H T Q A O) → ((s' : State H A) → to_come s' ≡ to_come s → Stands (go s') (from p s')) → Stands (go (give_back n s)) (λ b more. perform meaning b p (give_back n (add_replies more s)))
  back_stands zero s go p h = h s refl
  back_stands (suc n) s go p h = h (give_back (suc n) s) refl

  node_stands : (o : Option ℕ) (s : State H A) (go without : State H A → Event H Q O) (p p' : Run M H T Q A O) → less 1 s.left.nodes ≡ o → ((r : ℕ) → r + 1 ≡ s.left.nodes → Stands (go record s { left = record s.left { nodes = r } }) (from p record s { left = record s.left { nodes = r } })) → Stands (without s) (from p' s) → Stands (with_node o s go without) (λ b more. with_node o (add_replies more s) (perform meaning b p) (perform meaning b p'))
  node_stands (Some r) s go without p p' e h i = h r (less_some 1 s.left.nodes r e)
  node_stands None s go without p p' e h i = i

  said_stands : (x : Response A) (s : State H A) (go : A → State H A → Event H Q O) (f : A → Run M H T Q A O) → ((a : A) → Stands (go a s) (from (f a) s)) → Stands (after_response x s go) (λ b more. after_response x (add_replies more s) (λ a. perform meaning b (f a)))
  said_stands (Gives a) s go f h = h a
  said_stands (Exhausts w) s go f h = λ b nr more. refl

  asks_stand : (q : Q) (f : A → Run M H T Q A O) (rs : List (Reply A)) (s : State H A) (go : A → State H A → Event H Q O) (k : ℕ) → size s.left + size_in rs ≤ k → ((a : A) (s' : State H A) → to_come s' ≤ k → Stands (go a s') (from (f a) s')) → Stands (with_reply wait rs q s go) (λ b more. perform meaning b (Asks q f) record s { replies = rs ++ more })
  asks_stand q f [] s go k le h = (f, λ b nr more. refl)
  asks_stand q f (r ∷ rs) s go k le h =
      by_step (λ b more. after_response r.response (add_replies more (take_reply r rs s)) (λ a. perform meaning b (f a))) (λ b more. perform meaning b (Asks q f) record s { replies = r ∷ (rs ++ more) }) (λ b nr more. perform-Asks meaning b nr q f record s { replies = r ∷ (rs ++ more) }) (with_reply wait (r ∷ rs) q s go) (said_stands r.response (take_reply r rs s) go f (λ a. h a (take_reply r rs s) (omega arith)))

  with_stands : (g : Run M H T Q A O → State H A → Event H Q O) (k : ℕ) → ((p : Run M H T Q A O) (s : State H A) → suc (to_come s) ≤ k → Stands (g p s) (from p s)) → (p : Run M H T Q A O) (s : State H A) → to_come s ≤ k → Stands (perform_with meaning wait g p s) (from p s)
  with_stands g k h (Ends o) s le = λ b nr more. perform-Ends meaning b nr o (add_replies more s)
  with_stands g k h (Takes n p) s le =
      by_step (λ b more. with_steps (less n s.left.steps) (add_replies more s) (perform meaning b p)) (from (Takes n p) s) (λ b nr more. perform-Takes meaning b nr n p (add_replies more s)) (perform_with meaning wait g (Takes n p) s) (steps_stand (less n s.left.steps) n s (perform_with meaning wait g p) p refl (λ r e. with_stands g k h p record s { left = record s.left { steps = r } } (omega arith)))
  with_stands g k h (Counts p) s le = by_step (from p (count_node s)) (from (Counts p) s) (λ b nr more. perform-Counts meaning b nr p (add_replies more s)) (perform_with meaning wait g p (count_node s)) (with_stands g k h p (count_node s) le)
  with_stands g k h (Notes source name p) s le = by_step (from p s) (from (Notes source name p) s) (λ b nr more. perform-Notes meaning b nr source name p (add_replies more s)) (perform_with meaning wait g p s) (with_stands g k h p s le)
  with_stands g k h (Sees f) s le = by_step (from (f s.heap) s) (from (Sees f) s) (λ b nr more. perform-Sees meaning b nr f (add_replies more s)) (perform_with meaning wait g (f s.heap) s) (with_stands g k h (f s.heap) s le)
  with_stands g k h (Changes heap p) s le =
      by_step (from p record s { heap = heap }) (from (Changes heap p) s) (λ b nr more. perform-Changes meaning b nr heap p (add_replies more s)) (perform_with meaning wait g p record s { heap = heap }) (with_stands g k h p record s { heap = heap } le)
  with_stands g k h (Calls p) s le =
      by_step (λ b more. with_call (less 1 s.left.calls) (add_replies more s) (perform meaning b p)) (from (Calls p) s) (λ b nr more. perform-Calls meaning b nr p (add_replies more s)) (perform_with meaning wait g (Calls p) s) (call_stands (less 1 s.left.calls) s (perform_with meaning wait g p) p (λ r. with_stands g k h p (enter_call r s) le))
  with_stands g k h (Leaves p) s le =
      by_step (λ b more. perform meaning b p (give_back s.in_progress (add_replies more s))) (from (Leaves p) s) (λ b nr more. perform-Leaves meaning b nr p (add_replies more s)) (perform_with meaning wait g (Leaves p) s) (back_stands s.in_progress s (perform_with meaning wait g p) p (λ s' e. with_stands g k h p s' (omega arith)))
  with_stands g k h (Uses v u f) s le =
      by_step (from (f (apply_use u s.left).0) (after_use u s)) (from (Uses v u f) s) (λ b nr more. perform-Uses meaning b nr v u f (add_replies more s)) (perform_with meaning wait g (f (apply_use u s.left).0) (after_use u s)) (with_stands g k h (f (apply_use u s.left).0) (after_use u s) (omega (arith, used_size u s.left)))
  with_stands g k h (Begins t f) s le =
      by_step (λ b more. with_steps (less 1 s.left.steps) (add_replies more s) (perform meaning b (meaning t f))) (from (Begins t f) s) (λ b nr more. perform-Begins meaning b nr t f (add_replies more s)) (perform_with meaning wait g (Begins t f) s) (steps_stand (less 1 s.left.steps) 1 s (g (meaning t f)) (meaning t f) refl (λ r e. h (meaning t f) record s { left = record s.left { steps = r } } (omega arith)))
  with_stands g k h (Opens v t p f) s le =
      by_step (λ b more. with_node (less 1 s.left.nodes) (add_replies more s) (perform meaning b (meaning t f)) (perform meaning b p)) (from (Opens v t p f) s) (λ b nr more. perform-Opens meaning b nr v t p f (add_replies more s)) (perform_with meaning wait g (Opens v t p f) s) (node_stands (less 1 s.left.nodes) s (g (meaning t f)) (perform_with meaning wait g p) (meaning t f) p refl (λ r e. h (meaning t f) record s { left = record s.left { nodes = r } } (omega arith)) (with_stands g k h p s le))
  with_stands g k h (Asks q f) s le = asks_stand q f s.replies s (λ a. perform_with meaning wait g (f a)) k le (λ a s' le'. with_stands g k h (f a) s' le')

  by_stands : (n : ℕ) (p : Run M H T Q A O) (s : State H A) → to_come s ≤ n → Stands (perform_by meaning wait n p s) (from p s)
  by_stands zero p s le = with_stands nothing_begins 0 (λ p' s' h. absurd (omega arith)) p s le
  by_stands (suc n) p s le = with_stands (perform_by meaning wait n) (suc n) (λ p' s' h. by_stands n p' s' (omega arith)) p s le

  pub stands : (p : Run M H T Q A O) (s : State H A) → Stands (perform meaning wait p s) (from p s)
  unfolding perform
  stands p s = by_stands (to_come s) p s (omega arith)

  pub waiting_is_asking : WaitingIsAsking meaning
  waiting_is_asking p s q m e = subst (λ x. Stands x (from p s)) e (stands p s)

  pub end_stands : EndStands meaning
  end_stands p s o m e = subst (λ x. Stands x (from p s)) e (stands p s)

  pub spent_stands : SpentStands meaning
  spent_stands p s w m e = subst (λ x. Stands x (from p s)) e (stands p s)

  -- with none given beyond its own
  first_asks : (p : Run M H T Q A O) (s : State H A) (q : Q) (m : Moment H) (f : A → Run M H T Q A O) (b : Replier Q A) → NoRise b → perform meaning b p (add_replies [] s) ≡ perform meaning b (Asks q f) (at m []) → perform meaning b p s ≡ with_computed (b q m.left) q (at m []) (λ a. perform meaning b (f a))
  first_asks p s q m f b nr e = ap (perform meaning b p) (sym (add_no_replies s)) ∙ e ∙ perform-Asks meaning b nr q f (at m [])

  pub computed_is_given : ComputedIsGiven meaning
  computed_is_given p s q m e b nr r i =
      let w = waiting_is_asking p s q m e in
      first_asks p s q m w.0 b nr (w.1 b nr [])
      ∙ ap (λ o. with_computed o q (at m []) (λ a. perform meaning b (w.0 a))) i
      ∙ sym (w.1 b nr (r ∷ []) ∙ perform-Asks meaning b nr q w.0 (at m (r ∷ [])))

  pub unanswered_waits : UnansweredWaits meaning
  unanswered_waits p s q m e b nr i =
      let w = waiting_is_asking p s q m e in
      first_asks p s q m w.0 b nr (w.1 b nr []) ∙ ap (λ o. with_computed o q (at m []) (λ a. perform meaning b (w.0 a))) i

  pub agreeing_is_enough : AgreeingIsEnough meaning
  agreeing_is_enough b other nr p s same = perform_agree meaning b other nr p s same

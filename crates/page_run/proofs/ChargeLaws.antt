-- What is left never rises, and calls are given back: an induction over events each.
use Rattle.std.proofs.Common.{◌≡◌, ℕ, zero, suc, ◌+◌, ◌≤◌, List, [], ◌∷◌, Option, Some, None, refl, sym, ap, ◌∙◌, subst, arith}
use Rattle.page_run.specs.Run.{Run, Ends, Takes, Counts, Notes, Sees, Changes, Calls, Leaves, Uses, Begins, Opens, Asks, Meaning}
use Rattle.page_run.specs.State.{Response, Gives, Exhausts, Reply, Replier, State, Event, moment_of}
use Rattle.page_run.specs.Perform.{less, apply_use, after_use, with_steps, enter_call, with_call, give_back, leave_call, count_node, with_node, take_reply, after_response, with_computed, with_reply, size, size_in, to_come, nothing_begins, perform_with, perform_by, perform, NoRise}
use Rattle.page_run.specs.Charges.{KeepsCalls, GivenBack, NothingRises, CallsComeBack}
use Rattle.page_run.proofs.Less.{less_some, used_size, used_calls}
use Rattle.page_run.proofs.Enough.{back_size}

-- WHAT IS LEFT
abbrev left_of : {H Q O : Type 0} → Event H Q O → ℕ
left_of e = size (moment_of e).left

module _ {H Q A O : Type 0} (k : ℕ) where
  steps_fall : (o : Option ℕ) (n : ℕ) (s : State H A) (go : State H A → Event H Q O) → less n s.left.steps ≡ o → to_come s ≤ k → ((r : ℕ) → r + n ≡ s.left.steps → left_of (go record s { left = record s.left { steps = r } }) ≤ k) → left_of (with_steps o s go) ≤ k
  steps_fall (Some r) n s go e le h = h r (less_some n s.left.steps r e)
  steps_fall None n s go e le h = omega arith

  call_falls : (o : Option ℕ) (s : State H A) (go : State H A → Event H Q O) → to_come s ≤ k → ((r : ℕ) → left_of (go (enter_call r s)) ≤ k) → left_of (with_call o s go) ≤ k
  call_falls (Some r) s go le h = h r
  call_falls None s go le h = omega arith

  node_falls : (o : Option ℕ) (s : State H A) (go without : State H A → Event H Q O) → less 1 s.left.nodes ≡ o → ((r : ℕ) → r + 1 ≡ s.left.nodes → left_of (go record s { left = record s.left { nodes = r } }) ≤ k) → left_of (without s) ≤ k → left_of (with_node o s go without) ≤ k
  node_falls (Some r) s go without e h i = h r (less_some 1 s.left.nodes r e)
  node_falls None s go without e h i = i

  said_falls : (x : Response A) (s : State H A) (go : A → State H A → Event H Q O) → to_come s ≤ k → ((a : A) → left_of (go a s) ≤ k) → left_of (after_response x s go) ≤ k
  said_falls (Gives a) s go le h = h a
  said_falls (Exhausts w) s go le h = omega arith

  computed_falls : (o : Option (Reply A)) (q : Q) (s : State H A) (go : A → State H A → Event H Q O) → size s.left ≤ k → ((r : Reply A) → o ≡ Some r → size r.left ≤ k) → ((a : A) (s' : State H A) → to_come s' ≤ k → left_of (go a s') ≤ k) → left_of (with_computed o q s go) ≤ k
  computed_falls (Some r) q s go le hr h =
      let e : size r.left ≤ k = hr r refl in
      said_falls r.response (take_reply r [] s) go (omega arith) (λ a. h a (take_reply r [] s) (omega arith))
  computed_falls None q s go le hr h = le

  reply_falls : (b : Replier Q A) (rs : List (Reply A)) (q : Q) (s : State H A) (go : A → State H A → Event H Q O) → NoRise b → size s.left + size_in rs ≤ k → ((a : A) (s' : State H A) → to_come s' ≤ k → left_of (go a s') ≤ k) → left_of (with_reply b rs q s go) ≤ k
  reply_falls b [] q s go nr le h = computed_falls (b q s.left) q s go (omega arith) (λ r e. omega (arith, nr q s.left r e)) h
  reply_falls b (r ∷ rs) q s go nr le h = said_falls r.response (take_reply r rs s) go (omega arith) (λ a. h a (take_reply r rs s) (omega arith))

module _ {M H T Q A O : Type 0} (meaning : Meaning M H T Q A O) (b : Replier Q A) (nr : NoRise b) where
  with_falls : (g : Run M H T Q A O → State H A → Event H Q O) (k : ℕ) → ((p : Run M H T Q A O) (s : State H A) → to_come s ≤ k → left_of (g p s) ≤ k) → (p : Run M H T Q A O) (s : State H A) → to_come s ≤ k → left_of (perform_with meaning b g p s) ≤ k
  with_falls g k h (Ends o) s le = omega arith
  with_falls g k h (Takes n p) s le = steps_fall k (less n s.left.steps) n s (perform_with meaning b g p) refl le (λ r e. with_falls g k h p record s { left = record s.left { steps = r } } (omega arith))
  with_falls g k h (Counts p) s le = with_falls g k h p (count_node s) le
  with_falls g k h (Notes source name p) s le = with_falls g k h p s le
  with_falls g k h (Sees f) s le = with_falls g k h (f s.heap) s le
  with_falls g k h (Changes heap p) s le = with_falls g k h p record s { heap = heap } le
  with_falls g k h (Calls p) s le = call_falls k (less 1 s.left.calls) s (perform_with meaning b g p) le (λ r. with_falls g k h p (enter_call r s) le)
  with_falls g k h (Leaves p) s le = with_falls g k h p (leave_call s) (omega (arith, back_size s.in_progress s))
  with_falls g k h (Uses v u f) s le = with_falls g k h (f (apply_use u s.left).0) (after_use u s) (omega (arith, used_size u s.left))
  with_falls g k h (Begins t f) s le = steps_fall k (less 1 s.left.steps) 1 s (g (meaning t f)) refl le (λ r e. h (meaning t f) record s { left = record s.left { steps = r } } (omega arith))
  with_falls g k h (Opens v t p f) s le =
      node_falls k (less 1 s.left.nodes) s (g (meaning t f)) (perform_with meaning b g p) refl (λ r e. h (meaning t f) record s { left = record s.left { nodes = r } } (omega arith)) (with_falls g k h p s le)
  with_falls g k h (Asks q f) s le = reply_falls k b s.replies q s (λ a. perform_with meaning b g (f a)) nr le (λ a s' le'. with_falls g k h (f a) s' le')

  by_falls : (n k : ℕ) (p : Run M H T Q A O) (s : State H A) → to_come s ≤ k → left_of (perform_by meaning b n p s) ≤ k
  by_falls zero k p s le = with_falls nothing_begins k (λ p' s' le'. omega arith) p s le
  by_falls (suc n) k p s le = with_falls (perform_by meaning b n) k (λ p' s' le'. by_falls n k p' s' le') p s le

  perform_falls : (p : Run M H T Q A O) (s : State H A) → left_of (perform meaning b p s) ≤ to_come s
  unfolding perform
  perform_falls p s = by_falls (to_come s) (to_come s) p s (omega arith)

pub nothing_rises : {M H T Q A O : Type 0} (meaning : Meaning M H T Q A O) → NothingRises meaning
nothing_rises meaning b nr p s = perform_falls meaning b nr p s

-- CALLS, those left and those in progress together
abbrev calls : {H A : Type 0} → State H A → ℕ
calls s = s.left.calls + s.in_progress

pub back_calls : {H A : Type 0} → (n : ℕ) (s : State H A) → s.in_progress ≡ n → calls (give_back n s) ≡ calls s
back_calls zero s e = refl
back_calls (suc n) s e = omega arith

pub back_replies : {H A : Type 0} → (n : ℕ) (s : State H A) → (give_back n s).replies ≡ s.replies
back_replies zero s = refl
back_replies (suc n) s = refl

module _ {H Q A O : Type 0} (n : ℕ) where
  steps_back : (o : Option ℕ) (s : State H A) (go : State H A → Event H Q O) → calls s ≡ n → ((r : ℕ) → GivenBack n (go record s { left = record s.left { steps = r } })) → GivenBack n (with_steps o s go)
  steps_back (Some r) s go e h = h r
  steps_back None s go e h = (e, refl)

  call_back : (o : Option ℕ) (s : State H A) (go : State H A → Event H Q O) → less 1 s.left.calls ≡ o → calls s ≡ n → ((r : ℕ) → r + 1 ≡ s.left.calls → GivenBack n (go (enter_call r s))) → GivenBack n (with_call o s go)
  call_back (Some r) s go i e h = h r (less_some 1 s.left.calls r i)
  call_back None s go i e h = (e, refl)

  node_back : (o : Option ℕ) (s : State H A) (go without : State H A → Event H Q O) → ((r : ℕ) → GivenBack n (go record s { left = record s.left { nodes = r } })) → GivenBack n (without s) → GivenBack n (with_node o s go without)
  node_back (Some r) s go without h i = h r
  node_back None s go without h i = i

  said_back : (x : Response A) (s : State H A) (go : A → State H A → Event H Q O) → calls s ≡ n → ((a : A) → GivenBack n (go a s)) → GivenBack n (after_response x s go)
  said_back (Gives a) s go e h = h a
  said_back (Exhausts w) s go e h = (e, refl)

  computed_back : (o : Option (Reply A)) (q : Q) (s : State H A) (go : A → State H A → Event H Q O) → ((r : Reply A) → o ≡ Some r → r.left.calls ≡ s.left.calls) → calls s ≡ n → ((a : A) (s' : State H A) → s'.replies ≡ [] → calls s' ≡ n → GivenBack n (go a s')) → GivenBack n (with_computed o q s go)
  computed_back (Some r) q s go k e h =
      let same : calls (take_reply r [] s) ≡ n = omega (arith, k r refl) in
      said_back r.response (take_reply r [] s) go same (λ a. h a (take_reply r [] s) refl same)
  computed_back None q s go k e h = e

module _ {M H T Q A O : Type 0} (meaning : Meaning M H T Q A O) (b : Replier Q A) (keeps : KeepsCalls b) where
  with_back : (g : Run M H T Q A O → State H A → Event H Q O) (n : ℕ) → ((p : Run M H T Q A O) (s : State H A) → s.replies ≡ [] → calls s ≡ n → GivenBack n (g p s)) → (p : Run M H T Q A O) (s : State H A) → s.replies ≡ [] → calls s ≡ n → GivenBack n (perform_with meaning b g p s)
  with_back g n h (Ends o) s i e = (e, refl)
  with_back g n h (Takes c p) s i e = steps_back n (less c s.left.steps) s (perform_with meaning b g p) e (λ r. with_back g n h p record s { left = record s.left { steps = r } } i e)
  with_back g n h (Counts p) s i e = with_back g n h p (count_node s) i e
  with_back g n h (Notes source name p) s i e = with_back g n h p s i e
  with_back g n h (Sees f) s i e = with_back g n h (f s.heap) s i e
  with_back g n h (Changes heap p) s i e = with_back g n h p record s { heap = heap } i e
  with_back g n h (Calls p) s i e = call_back n (less 1 s.left.calls) s (perform_with meaning b g p) refl e (λ r j. with_back g n h p (enter_call r s) i (omega arith))
  with_back g n h (Leaves p) s i e = with_back g n h p (leave_call s) (back_replies s.in_progress s ∙ i) (back_calls s.in_progress s refl ∙ e)
  with_back g n h (Uses v u f) s i e = with_back g n h (f (apply_use u s.left).0) (after_use u s) i (ap (λ c. c + s.in_progress) (used_calls u s.left) ∙ e)
  with_back g n h (Begins t f) s i e = steps_back n (less 1 s.left.steps) s (g (meaning t f)) e (λ r. h (meaning t f) record s { left = record s.left { steps = r } } i e)
  with_back g n h (Opens v t p f) s i e =
      node_back n (less 1 s.left.nodes) s (g (meaning t f)) (perform_with meaning b g p) (λ r. h (meaning t f) record s { left = record s.left { nodes = r } } i e) (with_back g n h p s i e)
  with_back g n h (Asks q f) s i e =
      subst (λ rs. GivenBack n (with_reply b rs q s (λ a. perform_with meaning b g (f a)))) (sym i) (computed_back n (b q s.left) q s (λ a. perform_with meaning b g (f a)) (keeps q s.left) e (λ a s' j k. with_back g n h (f a) s' j k))

  by_back : (k n : ℕ) (p : Run M H T Q A O) (s : State H A) → s.replies ≡ [] → calls s ≡ n → GivenBack n (perform_by meaning b k p s)
  by_back zero n p s i e = with_back nothing_begins n (λ p' s' i' e'. (e', refl)) p s i e
  by_back (suc k) n p s i e = with_back (perform_by meaning b k) n (λ p' s' i' e'. by_back k n p' s' i' e') p s i e

  perform_back : (p : Run M H T Q A O) (s : State H A) → s.replies ≡ [] → GivenBack (calls s) (perform meaning b p s)
  unfolding perform
  perform_back p s i = by_back (to_come s) (calls s) p s i refl

pub calls_come_back : {M H T Q A O : Type 0} (meaning : Meaning M H T Q A O) → CallsComeBack meaning
calls_come_back meaning b keeps p s i = perform_back meaning b keeps p s i

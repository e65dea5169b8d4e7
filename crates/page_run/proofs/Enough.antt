-- More things than can begin change nothing: so each event of a run is one step of `perform`, and what is beyond the given replies is asked only with what can be left.
use Rattle.std.proofs.Common.{◌≡◌, ℕ, zero, suc, ◌+◌, ◌≤◌, Bool, List, [], ◌∷◌, Option, Some, None, refl, sym, ap, ◌∙◌, arith}
use Rattle.wk_base.specs.declared.left.Left.{Left}
use Rattle.page_run.specs.Run.{Use, Run, Ends, Takes, Counts, Notes, Sees, Changes, Calls, Leaves, Uses, Begins, Opens, Asks, Meaning}
use Rattle.page_run.specs.State.{Response, Gives, Exhausts, Reply, Replier, State, with_calls_back, Event, Ended}
use Rattle.page_run.specs.Perform.{less, apply_use, after_use, with_steps, after_steps, enter_call, with_call, after_call, give_back, leave_call, count_node, with_node, after_node, take_reply, after_response, with_computed, with_reply, size, size_in, to_come, nothing_begins, perform_with, perform_by, perform, NoRise}
use Rattle.page_run.proofs.Less.{less_some, used_size}

pub back_size : {H A : Type 0} → (n : ℕ) (s : State H A) → to_come (give_back n s) ≡ to_come s
back_size zero s = refl
back_size (suc n) s = refl

-- TWO WAYS TO GO ON that agree where an event leads
module _ {H Q A O : Type 0} where
  steps_agree : (o : Option ℕ) (n : ℕ) (s : State H A) (go go' : State H A → Event H Q O) → less n s.left.steps ≡ o → ((r : ℕ) → r + n ≡ s.left.steps → go record s { left = record s.left { steps = r } } ≡ go' record s { left = record s.left { steps = r } }) → with_steps o s go ≡ with_steps o s go'
  steps_agree (Some r) n s go go' e h = h r (less_some n s.left.steps r e)
  steps_agree None n s go go' e h = refl

  pub after_steps_agree : (n : ℕ) (s : State H A) (go go' : State H A → Event H Q O) → ((r : ℕ) → r + n ≡ s.left.steps → go record s { left = record s.left { steps = r } } ≡ go' record s { left = record s.left { steps = r } }) → after_steps n s go ≡ after_steps n s go'
  after_steps_agree n s go go' h = steps_agree (less n s.left.steps) n s go go' refl h

  call_agree : (o : Option ℕ) (s : State H A) (go go' : State H A → Event H Q O) → ((r : ℕ) → go (enter_call r s) ≡ go' (enter_call r s)) → with_call o s go ≡ with_call o s go'
  call_agree (Some r) s go go' h = h r
  call_agree None s go go' h = refl

  node_agree : (o : Option ℕ) (s : State H A) (go go' w w' : State H A → Event H Q O) → less 1 s.left.nodes ≡ o → ((r : ℕ) → r + 1 ≡ s.left.nodes → go record s { left = record s.left { nodes = r } } ≡ go' record s { left = record s.left { nodes = r } }) → w s ≡ w' s → with_node o s go w ≡ with_node o s go' w'
  node_agree (Some r) s go go' w w' e h i = h r (less_some 1 s.left.nodes r e)
  node_agree None s go go' w w' e h i = i

  said_agree : (x : Response A) (s : State H A) (go go' : A → State H A → Event H Q O) → ((a : A) → go a s ≡ go' a s) → after_response x s go ≡ after_response x s go'
  said_agree (Gives a) s go go' h = h a
  said_agree (Exhausts w) s go go' h = refl

  computed_agree : (o : Option (Reply A)) (q : Q) (s : State H A) (go go' : A → State H A → Event H Q O) → ((r : Reply A) → o ≡ Some r → (a : A) → go a (take_reply r [] s) ≡ go' a (take_reply r [] s)) → with_computed o q s go ≡ with_computed o q s go'
  computed_agree (Some r) q s go go' h = said_agree r.response (take_reply r [] s) go go' (h r refl)
  computed_agree None q s go go' h = refl

  reply_agree : (b b' : Replier Q A) (rs : List (Reply A)) (q : Q) (s : State H A) (go go' : A → State H A → Event H Q O) (k : ℕ) → NoRise b → (size s.left ≤ k → b q s.left ≡ b' q s.left) → size s.left + size_in rs ≤ k → ((a : A) (s' : State H A) → to_come s' ≤ k → go a s' ≡ go' a s') → with_reply b rs q s go ≡ with_reply b' rs q s go'
  reply_agree b b' [] q s go go' k nr same le h =
      computed_agree (b q s.left) q s go go' (λ x e a. h a (take_reply x [] s) (omega (arith, nr q s.left x e)))
      ∙ ap (λ o. with_computed o q s go') (same (omega arith))
  reply_agree b b' (x ∷ rs) q s go go' k nr same le h = said_agree x.response (take_reply x rs s) go go' (λ a. h a (take_reply x rs s) (omega arith))

module _ {M H T Q A O : Type 0} (meaning : Meaning M H T Q A O) where
  agree : (g g' : Run M H T Q A O → State H A → Event H Q O) (b b' : Replier Q A) (k : ℕ) → ((p : Run M H T Q A O) (s : State H A) → suc (to_come s) ≤ k → g p s ≡ g' p s) → NoRise b → ((q : Q) (l : Left) → size l ≤ k → b q l ≡ b' q l) → (p : Run M H T Q A O) (s : State H A) → to_come s ≤ k → perform_with meaning b g p s ≡ perform_with meaning b' g' p s
  agree g g' b b' k h nr same (Ends o) s le = refl
  agree g g' b b' k h nr same (Takes n p) s le = after_steps_agree n s (perform_with meaning b g p) (perform_with meaning b' g' p) (λ r e. agree g g' b b' k h nr same p record s { left = record s.left { steps = r } } (omega arith))
  agree g g' b b' k h nr same (Counts p) s le = agree g g' b b' k h nr same p (count_node s) le
  agree g g' b b' k h nr same (Notes source name p) s le = agree g g' b b' k h nr same p s le
  agree g g' b b' k h nr same (Sees f) s le = agree g g' b b' k h nr same (f s.heap) s le
  agree g g' b b' k h nr same (Changes heap p) s le = agree g g' b b' k h nr same p record s { heap = heap } le
  agree g g' b b' k h nr same (Calls p) s le = call_agree (less 1 s.left.calls) s (perform_with meaning b g p) (perform_with meaning b' g' p) (λ r. agree g g' b b' k h nr same p (enter_call r s) le)
  agree g g' b b' k h nr same (Leaves p) s le = agree g g' b b' k h nr same p (leave_call s) (omega (arith, back_size s.in_progress s))
  agree g g' b b' k h nr same (Uses v u f) s le = agree g g' b b' k h nr same (f (apply_use u s.left).0) (after_use u s) (omega (arith, used_size u s.left))
  agree g g' b b' k h nr same (Begins t f) s le = after_steps_agree 1 s (g (meaning t f)) (g' (meaning t f)) (λ r e. h (meaning t f) record s { left = record s.left { steps = r } } (omega arith))
  agree g g' b b' k h nr same (Opens v t p f) s le =
      node_agree (less 1 s.left.nodes) s (g (meaning t f)) (g' (meaning t f)) (perform_with meaning b g p) (perform_with meaning b' g' p) refl (λ r e. h (meaning t f) record s { left = record s.left { nodes = r } } (omega arith)) (agree g g' b b' k h nr same p s le)
  agree g g' b b' k h nr same (Asks q f) s le =
      reply_agree b b' s.replies q s (λ a. perform_with meaning b g (f a)) (λ a. perform_with meaning b' g' (f a)) k nr (same q s.left) le (λ a s' le'. agree g g' b b' k h nr same (f a) s' le')

  enough : (b b' : Replier Q A) (k n m : ℕ) → k ≤ n → k ≤ m → NoRise b → ((q : Q) (l : Left) → size l ≤ k → b q l ≡ b' q l) → (p : Run M H T Q A O) (s : State H A) → to_come s ≤ k → perform_by meaning b n p s ≡ perform_by meaning b' m p s
  enough b b' zero zero zero i j nr same p s le = agree nothing_begins nothing_begins b b' 0 (λ p' s' h. absurd (omega arith)) nr same p s le
  enough b b' zero zero (suc m) i j nr same p s le = agree nothing_begins (perform_by meaning b' m) b b' 0 (λ p' s' h. absurd (omega arith)) nr same p s le
  enough b b' zero (suc n) zero i j nr same p s le = agree (perform_by meaning b n) nothing_begins b b' 0 (λ p' s' h. absurd (omega arith)) nr same p s le
  enough b b' zero (suc n) (suc m) i j nr same p s le = agree (perform_by meaning b n) (perform_by meaning b' m) b b' 0 (λ p' s' h. absurd (omega arith)) nr same p s le
  enough b b' (suc k) zero m i j nr same p s le = absurd (omega arith)
  enough b b' (suc k) (suc n) zero i j nr same p s le = absurd (omega arith)
  enough b b' (suc k) (suc n) (suc m) i j nr same p s le =
      agree (perform_by meaning b n) (perform_by meaning b' m) b b' (suc k) (λ p' s' h. enough b b' k n m (omega arith) (omega arith) nr (λ q l h'. same q l (omega arith)) p' s' (omega arith)) nr same p s le

  -- AGREEMENT: two ways to compute replies that agree wherever at most so much is left
  pub perform_agree : (b b' : Replier Q A) → NoRise b → (p : Run M H T Q A O) (s : State H A) → ((q : Q) (l : Left) → size l ≤ to_come s → b q l ≡ b' q l) → perform meaning b p s ≡ perform meaning b' p s
  unfolding perform
  perform_agree b b' nr p s same = enough b b' (to_come s) (to_come s) (to_come s) (omega arith) (omega arith) nr same p s (omega arith)

  -- so many things at most are as good as any
  pub perform_is : (b : Replier Q A) → NoRise b → (n : ℕ) (p : Run M H T Q A O) (s : State H A) → to_come s ≤ n → perform meaning b p s ≡ perform_by meaning b n p s
  unfolding perform
  perform_is b nr n p s le = enough b b (to_come s) (to_come s) n (omega arith) le nr (λ q l h. refl) p s (omega arith)

  -- THE EVENTS, one step each
  module _ (b : Replier Q A) (nr : NoRise b) where
    pub perform-Ends : (o : O) (s : State H A) → perform meaning b (Ends o) s ≡ Ended o (with_calls_back s)
    perform-Ends o s = perform_is b nr (suc (to_come s)) (Ends o) s (omega arith)

    pub perform-Takes : (n : ℕ) (p : Run M H T Q A O) (s : State H A) → perform meaning b (Takes n p) s ≡ after_steps n s (perform meaning b p)
    perform-Takes n p s =
        perform_is b nr (suc (to_come s)) (Takes n p) s (omega arith)
        ∙ after_steps_agree n s (perform_by meaning b (suc (to_come s)) p) (perform meaning b p) (λ r e. sym (perform_is b nr (suc (to_come s)) p record s { left = record s.left { steps = r } } (omega arith)))

    pub perform-Counts : (p : Run M H T Q A O) (s : State H A) → perform meaning b (Counts p) s ≡ perform meaning b p (count_node s)
    perform-Counts p s = perform_is b nr (suc (to_come s)) (Counts p) s (omega arith) ∙ sym (perform_is b nr (suc (to_come s)) p (count_node s) (omega arith))

    pub perform-Notes : (source name : List ℕ) (p : Run M H T Q A O) (s : State H A) → perform meaning b (Notes source name p) s ≡ perform meaning b p s
    perform-Notes source name p s = perform_is b nr (suc (to_come s)) (Notes source name p) s (omega arith) ∙ sym (perform_is b nr (suc (to_come s)) p s (omega arith))

    pub perform-Sees : (f : H → Run M H T Q A O) (s : State H A) → perform meaning b (Sees f) s ≡ perform meaning b (f s.heap) s
    perform-Sees f s = perform_is b nr (suc (to_come s)) (Sees f) s (omega arith) ∙ sym (perform_is b nr (suc (to_come s)) (f s.heap) s (omega arith))

    pub perform-Changes : (h : H) (p : Run M H T Q A O) (s : State H A) → perform meaning b (Changes h p) s ≡ perform meaning b p record s { heap = h }
    perform-Changes h p s = perform_is b nr (suc (to_come s)) (Changes h p) s (omega arith) ∙ sym (perform_is b nr (suc (to_come s)) p record s { heap = h } (omega arith))

    pub perform-Calls : (p : Run M H T Q A O) (s : State H A) → perform meaning b (Calls p) s ≡ after_call s (perform meaning b p)
    perform-Calls p s =
        perform_is b nr (suc (to_come s)) (Calls p) s (omega arith)
        ∙ call_agree (less 1 s.left.calls) s (perform_by meaning b (suc (to_come s)) p) (perform meaning b p) (λ r. sym (perform_is b nr (suc (to_come s)) p (enter_call r s) (omega arith)))

    pub perform-Leaves : (p : Run M H T Q A O) (s : State H A) → perform meaning b (Leaves p) s ≡ perform meaning b p (leave_call s)
    perform-Leaves p s = perform_is b nr (suc (to_come s)) (Leaves p) s (omega arith) ∙ sym (perform_is b nr (suc (to_come s)) p (leave_call s) (omega (arith, back_size s.in_progress s)))

    pub perform-Uses : (v : M) (u : Use) (f : Bool → Run M H T Q A O) (s : State H A) → perform meaning b (Uses v u f) s ≡ perform meaning b (f (apply_use u s.left).0) (after_use u s)
    perform-Uses v u f s =
        perform_is b nr (suc (to_come s)) (Uses v u f) s (omega arith)
        ∙ sym (perform_is b nr (suc (to_come s)) (f (apply_use u s.left).0) (after_use u s) (omega (arith, used_size u s.left)))

    pub perform-Begins : (t : T) (k : O → Run M H T Q A O) (s : State H A) → perform meaning b (Begins t k) s ≡ after_steps 1 s (perform meaning b (meaning t k))
    perform-Begins t k s =
        perform_is b nr (suc (to_come s)) (Begins t k) s (omega arith)
        ∙ after_steps_agree 1 s (perform_by meaning b (to_come s) (meaning t k)) (perform meaning b (meaning t k)) (λ r e. sym (perform_is b nr (to_come s) (meaning t k) record s { left = record s.left { steps = r } } (omega arith)))

    pub perform-Opens : (v : M) (t : T) (p : Run M H T Q A O) (k : O → Run M H T Q A O) (s : State H A) → perform meaning b (Opens v t p k) s ≡ after_node s (perform meaning b (meaning t k)) (perform meaning b p)
    perform-Opens v t p k s =
        perform_is b nr (suc (to_come s)) (Opens v t p k) s (omega arith)
        ∙ node_agree (less 1 s.left.nodes) s (perform_by meaning b (to_come s) (meaning t k)) (perform meaning b (meaning t k)) (perform_by meaning b (suc (to_come s)) p) (perform meaning b p) refl (λ r e. sym (perform_is b nr (to_come s) (meaning t k) record s { left = record s.left { nodes = r } } (omega arith))) (sym (perform_is b nr (suc (to_come s)) p s (omega arith)))

    pub perform-Asks : (q : Q) (f : A → Run M H T Q A O) (s : State H A) → perform meaning b (Asks q f) s ≡ with_reply b s.replies q s (λ a. perform meaning b (f a))
    perform-Asks q f s =
        perform_is b nr (suc (to_come s)) (Asks q f) s (omega arith)
        ∙ reply_agree b b s.replies q s (λ a. perform_by meaning b (suc (to_come s)) (f a)) (λ a. perform meaning b (f a)) (to_come s) nr (λ h. refl) (omega arith) (λ a s' le. sym (perform_is b nr (suc (to_come s)) (f a) s' (omega arith)))

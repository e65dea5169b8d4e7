-- A first charge that is not covered spends a run, whatever would come behind it.
use Rattle.std.proofs.Common.{◌≡◌, ℕ, zero, suc, ◌<◌, refl, ap}
use Rattle.page_run.specs.declared.which.Which.TheVariants.{Steps}
use Rattle.page_run.specs.Run.{Run, Takes, Meaning}
use Rattle.page_run.specs.State.{Replier, Event, Spent, State, with_calls_back}
use Rattle.page_run.specs.Perform.{with_steps, nothing_begins, perform_with, perform_by, perform, to_come}
use Rattle.page_run.proofs.Less.{less_over}

-- it is spent with no step left
abbrev pub spent_at : {H Q A O : Type 0} → State H A → Event H Q O
spent_at s = Spent Steps (with_calls_back record s { left = record s.left { steps = 0 } })

module _ {M H T Q A O : Type 0} (meaning : Meaning M H T Q A O) (b : Replier Q A) where
  spent_by : (k n : ℕ) (p : Run M H T Q A O) (s : State H A) → s.left.steps < n → perform_by meaning b k (Takes n p) s ≡ spent_at s
  spent_by zero n p s h = ap (λ o. with_steps o s (perform_with meaning b nothing_begins p)) (less_over n s.left.steps h)
  spent_by (suc k) n p s h = ap (λ o. with_steps o s (perform_with meaning b (perform_by meaning b k) p)) (less_over n s.left.steps h)

  pub first_spends : (n : ℕ) (p : Run M H T Q A O) (s : State H A) → s.left.steps < n → perform meaning b (Takes n p) s ≡ spent_at s
  unfolding perform
  first_spends n p s h = spent_by (to_come s) n p s h

-- THE LAWS OF CHARGES.
use Rattle.std.specs.Prelude.{◌≡◌, ℕ, ◌+◌, ◌-◌, ◌≤◌, [], Some}
use Rattle.wk_base.specs.declared.left.Left.{Left}
use Rattle.page_run.specs.Run.{Run, Meaning}
use Rattle.page_run.specs.State.{Tally, Gives, Reply, Replier, Moment, State, start, resume, Event, Ended, Spent, Asked, moment_of}
use Rattle.page_run.specs.Perform.{size, to_come, perform, NoRise}

-- replies that leave the calls as they are
abbrev pub KeepsCalls : {Q A : Type 0} → Replier Q A → Type 0
KeepsCalls {Q = Q} {A = A} beyond = (q : Q) (l : Left) (r : Reply A) → beyond q l ≡ Some r → r.left.calls ≡ l.calls

-- at an end so many calls are left and none is in progress; at a question both together are so many
abbrev pub GivenBack : {H Q O : Type 0} → ℕ → Event H Q O → Type 0
GivenBack n (Ended o m) = (m.left.calls ≡ n) × (m.in_progress ≡ 0)
GivenBack n (Spent w m) = (m.left.calls ≡ n) × (m.in_progress ≡ 0)
GivenBack n (Asked q m) = m.left.calls + m.in_progress ≡ n

-- A reply FITS elsewhere: from whatever covers its charge and its height, the other way gives the same reply at the same charge.
pub record ReplyFits {Q A : Type 0} (q : Q) (now : Left) (r : Reply A) (other : Replier Q A) : Type 0 where
  pub falls : r.left.steps ≤ now.steps
  pub keeps : r.left.calls ≡ now.calls
  pub covers : r.tally.height ≤ now.calls
  pub fits : (l : Left) (d : ℕ) → l.steps ≡ d + (now.steps - r.left.steps) → r.tally.height ≤ l.calls → other q l ≡ Some record r { left = record l { steps = d } }

-- each reply that gives an answer does
abbrev pub RepliesFit : {Q A : Type 0} → Replier Q A → Replier Q A → Type 0
RepliesFit {Q = Q} {A = A} beyond other = (q : Q) (now : Left) (r : Reply A) (a : A) → beyond q now ≡ Some r → r.response ≡ Gives a → ReplyFits q now r other

-- A run that ends so, from what is left now, with n calls in progress, FITS elsewhere: from any `l` with its charge and d more in steps,
-- and with calls for its height, `go` ends alike and leaves d.
pub record Fits {H Q A O : Type 0} (go : State H A → Event H Q O) (heap : H) (now : Left) (n : ℕ) (tally : Tally) (o : O) (end : Moment H) : Type 0 where
  pub falls : end.left.steps ≤ now.steps
  pub keeps : end.left.calls ≡ now.calls + n
  pub higher : tally.height ≤ end.tally.height
  pub covers : tally.height ≤ now.calls + n → end.tally.height ≤ now.calls + n
  pub fits : (l : Left) (d : ℕ) → l.steps ≡ d + (now.steps - end.left.steps) → end.tally.height ≤ l.calls + n →
      go (resume heap l n tally) ≡ Ended o (record { heap = end.heap; left = record l { steps = d; calls = l.calls + n }; in_progress = 0; tally = end.tally })

module _ {M H T Q A O : Type 0} (meaning : Meaning M H T Q A O) where
  abbrev pub NothingRises : Type 0
  NothingRises = (beyond : Replier Q A) → NoRise beyond → (p : Run M H T Q A O) (s : State H A) → size (moment_of (perform meaning beyond p s)).left ≤ to_come s

  abbrev pub CallsComeBack : Type 0
  CallsComeBack = (beyond : Replier Q A) → KeepsCalls beyond → (p : Run M H T Q A O) (s : State H A) → s.replies ≡ [] →
      GivenBack (s.left.calls + s.in_progress) (perform meaning beyond p s)

  -- of a run that may not use the allowances of expansions
  abbrev pub EndFits : Type 0
  EndFits = (M → ⊥) → (beyond other : Replier Q A) → NoRise other → RepliesFit beyond other →
      (p : Run M H T Q A O) (heap : H) (now : Left) (n : ℕ) (tally : Tally) (o : O) (end : Moment H) → perform meaning beyond p (resume heap now n tally) ≡ Ended o end → Fits (perform meaning other p) heap now n tally o end

  abbrev pub MoreIsAsGood : Type 0
  MoreIsAsGood = (M → ⊥) → (beyond : Replier Q A) → NoRise beyond → RepliesFit beyond beyond →
      (p : Run M H T Q A O) (heap : H) (l : Left) (o : O) (end : Moment H) → perform meaning beyond p (start heap l []) ≡ Ended o end → (a b : ℕ) →
      perform meaning beyond p (start heap record l { steps = l.steps + a; calls = l.calls + b } [])
      ≡ Ended o (record { heap = end.heap; left = record l { steps = end.left.steps + a; calls = l.calls + b }; in_progress = 0; tally = end.tally })

  abbrev pub OneCharge : Type 0
  OneCharge = (M → ⊥) → (beyond : Replier Q A) → NoRise beyond → RepliesFit beyond beyond →
      (p : Run M H T Q A O) (heap : H) (l l' : Left) (o o' : O) (end end' : Moment H) → perform meaning beyond p (start heap l []) ≡ Ended o end → perform meaning beyond p (start heap l' []) ≡ Ended o' end' →
      (o ≡ o') × (end.heap ≡ end'.heap) × (end.tally ≡ end'.tally)
      × (l.steps - end.left.steps ≡ l'.steps - end'.left.steps) × (l.steps - end.left.steps ≤ l'.steps) × (end.tally.height ≤ l'.calls)

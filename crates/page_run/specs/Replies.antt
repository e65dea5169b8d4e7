-- THE LAWS OF REPLIES.
use Rattle.std.specs.Prelude.{◌≡◌, ◌≤◌, List, [], ◌∷◌, Some, None}
use Rattle.wk_base.specs.declared.left.Left.{Left}
use Rattle.page_run.specs.declared.which.Which.{Which}
use Rattle.page_run.specs.Run.{Run, Asks, Meaning}
use Rattle.page_run.specs.State.{Reply, Replier, Moment, State, at, Ended, Spent, Asked}
use Rattle.page_run.specs.Perform.{size, to_come, perform, wait, add_replies, NoRise}

module _ {M H T Q A O : Type 0} (meaning : Meaning M H T Q A O) where
  abbrev pub WaitingIsAsking : Type 0
  WaitingIsAsking = (p : Run M H T Q A O) (s : State H A) (q : Q) (m : Moment H) → perform meaning wait p s ≡ Asked q m →
      (f : A → Run M H T Q A O) × ((beyond : Replier Q A) → NoRise beyond → (more : List (Reply A)) → perform meaning beyond p (add_replies more s) ≡ perform meaning beyond (Asks q f) (at m more))

  abbrev pub EndStands : Type 0
  EndStands = (p : Run M H T Q A O) (s : State H A) (o : O) (m : Moment H) → perform meaning wait p s ≡ Ended o m →
      (beyond : Replier Q A) → NoRise beyond → (more : List (Reply A)) → perform meaning beyond p (add_replies more s) ≡ Ended o m

  abbrev pub SpentStands : Type 0
  SpentStands = (p : Run M H T Q A O) (s : State H A) (w : Which) (m : Moment H) → perform meaning wait p s ≡ Spent w m →
      (beyond : Replier Q A) → NoRise beyond → (more : List (Reply A)) → perform meaning beyond p (add_replies more s) ≡ Spent w m

  abbrev pub ComputedIsGiven : Type 0
  ComputedIsGiven = (p : Run M H T Q A O) (s : State H A) (q : Q) (m : Moment H) → perform meaning wait p s ≡ Asked q m →
      (beyond : Replier Q A) → NoRise beyond → (r : Reply A) → beyond q m.left ≡ Some r → perform meaning beyond p s ≡ perform meaning beyond p (add_replies (r ∷ []) s)

  abbrev pub UnansweredWaits : Type 0
  UnansweredWaits = (p : Run M H T Q A O) (s : State H A) (q : Q) (m : Moment H) → perform meaning wait p s ≡ Asked q m →
      (beyond : Replier Q A) → NoRise beyond → beyond q m.left ≡ None → perform meaning beyond p s ≡ Asked q m

  abbrev pub AgreeingIsEnough : Type 0
  AgreeingIsEnough = (beyond other : Replier Q A) → NoRise beyond → (p : Run M H T Q A O) (s : State H A) →
      ((q : Q) (l : Left) → size l ≤ to_come s → beyond q l ≡ other q l) → perform meaning beyond p s ≡ perform meaning other p s

-- THE WALK over the data loads of a run: what is found kept, and what begins afresh (Scribunto, mw.loadData: a module is evaluated once per page).
use Rattle.std.specs.Prelude.{◌≡◌, ℕ, ◌+◌, Bool, true, false, ◌&&◌, List, [], ◌∷◌, bytes_eq}
use Rattle.std.specs.List.{list_any}
use Rattle.page_run.specs.Run.{Run, Meaning}
use Rattle.page_run.specs.State.{Loads, NoLoads, Load, join_loads, Tally, Reply, Moment, State, Event, Asked, moment_of}
use Rattle.page_run.specs.Perform.{perform, wait, add_replies}

-- the charges of the repeats so far, the nodes begun in the fresh loads, and the names of the modules whose loads completed
pub record WalkState : Type 0 where
  pub repeat_charges : ℕ
  pub fresh_nodes : ℕ
  pub completed_modules : List (List ℕ)

abbrev pub empty_walk : WalkState
empty_walk = record { repeat_charges = 0; fresh_nodes = 0; completed_modules = [] }

abbrev pub is_in : List ℕ → List (List ℕ) → Bool
is_in name names = list_any (bytes_eq name) names

abbrev pub add_if : Bool → List ℕ → List (List ℕ) → List (List ℕ)
add_if true name names = name ∷ names
add_if false name names = names

abbrev pub pass_repeat : ℕ → WalkState → WalkState
pass_repeat charge w = record w { repeat_charges = w.repeat_charges + charge }

abbrev pub count_fresh : List ℕ → ℕ → Bool → WalkState → WalkState
count_fresh name nodes completed w = record { repeat_charges = w.repeat_charges; fresh_nodes = w.fresh_nodes + nodes; completed_modules = add_if completed name w.completed_modules }

-- one load: is it a repeat? Its inner loads are walked only where it is none.
abbrev pub walk_load : Bool → List ℕ → ℕ → ℕ → Bool → (WalkState → WalkState) → WalkState → WalkState
walk_load true name charge nodes completed inner w = pass_repeat charge w
walk_load false name charge nodes completed inner w = count_fresh name nodes completed (inner w)

abbrev pub walk : Loads → WalkState → WalkState
walk NoLoads w = w
walk (Load name charge nodes completed inner rest) w = walk rest (walk_load (completed && is_in name w.completed_modules) name charge nodes completed (walk inner) w)

-- THE LAWS OF LOADS
abbrev pub RepeatIsKept : Type 0
RepeatIsKept = (name : List ℕ) (charge nodes : ℕ) (inner rest : Loads) (w : WalkState) → is_in name w.completed_modules ≡ true →
    walk (Load name charge nodes true inner rest) w ≡ walk rest record w { repeat_charges = w.repeat_charges + charge }

abbrev pub OtherIsFresh : Type 0
OtherIsFresh =
    ((name : List ℕ) (charge nodes : ℕ) (inner rest : Loads) (w : WalkState) → is_in name w.completed_modules ≡ false →
    walk (Load name charge nodes true inner rest) w ≡ walk rest (record { repeat_charges = (walk inner w).repeat_charges; fresh_nodes = (walk inner w).fresh_nodes + nodes; completed_modules = name ∷ (walk inner w).completed_modules }))
    × ((name : List ℕ) (charge nodes : ℕ) (inner rest : Loads) (w : WalkState) →
    walk (Load name charge nodes false inner rest) w ≡ walk rest record (walk inner w) { fresh_nodes = (walk inner w).fresh_nodes + nodes })

abbrev pub WalkOfJoined : Type 0
WalkOfJoined = (first second : Loads) (w : WalkState) → walk (join_loads first second) w ≡ walk second (walk first w)

abbrev pub tally_of : {H Q O : Type 0} → Event H Q O → Tally
tally_of e = (moment_of e).tally

module _ {M H T Q A O : Type 0} (meaning : Meaning M H T Q A O) where
  abbrev pub TellsNone : Type 0
  TellsNone = (p : Run M H T Q A O) (s : State H A) → s.replies ≡ [] →
      ((tally_of (perform meaning wait p s)).loads ≡ s.tally.loads) × ((tally_of (perform meaning wait p s)).invoked_nodes ≡ s.tally.invoked_nodes)

  abbrev pub TellsReply : Type 0
  TellsReply = (p : Run M H T Q A O) (s : State H A) (q : Q) (m : Moment H) → perform meaning wait p s ≡ Asked q m → (r : Reply A) →
      ((tally_of (perform meaning wait p (add_replies (r ∷ []) s))).loads ≡ join_loads m.tally.loads r.tally.loads)
      × ((tally_of (perform meaning wait p (add_replies (r ∷ []) s))).invoked_nodes ≡ m.tally.invoked_nodes + r.tally.invoked_nodes)

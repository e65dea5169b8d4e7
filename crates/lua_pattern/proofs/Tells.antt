-- A search tells of a hit.
use Rattle.std.proofs.Common.{◌≡◌, ℕ, zero, suc, ◌-◌, ◌<◌, ◌≤◌, List, [], ◌∷◌, map, length, refl, sym, subst, arith}
use Rattle.std.specs.Prelude.{All, slice_index_or}
use Rattle.lua_pattern.specs.declared.slots.Slot.TheVariants as slot
use Rattle.lua_pattern.specs.declared.pattern.Capture.{Capture}
use Rattle.lua_pattern.specs.declared.pattern.Search.TheVariants as search
use Rattle.lua_pattern.specs.Places.{IsCaptureAt, HasPlaces}
use Rattle.lua_pattern.proofs.Inside.{AllMarks, AnswerHas}
use Rattle.lua_pattern.specs.declared.slots.Slot.{Slot}
use Rattle.lua_pattern.specs.declared.pattern.Match.{Match}
use Rattle.lua_pattern.specs.Way.{Answer, At, Nowhere, answer_tries}
use Rattle.lua_pattern.specs.Found.{capture_of, IsFound}

pub hit_tells : (slots : List Slot) (answer : Answer) (m : Match) (budget left start end : ℕ) (marks : List ℕ) →
    answer ≡ At start end marks (budget - left) → m.start ≡ start → m.end ≡ end → m.captures ≡ map (capture_of marks) slots →
    (answer_tries answer ≤ budget) × IsFound slots answer m (budget - left)
hit_tells slots answer m budget left start end marks e es ee ec =
    let P : Answer → Type 0 = λ a. (answer_tries a ≤ budget) × IsFound slots a m (budget - left) in
    subst P (sym e) (omega arith, (es, ee, ec, refl))

-- Captures stand at places, where the marks do.
kept_at : (P : ℕ → Type 0) (marks : List ℕ) → AllMarks P marks → (slot : Slot) → IsCaptureAt P (capture_of marks slot)
kept_at P marks h (slot.Text from to) = (h from, h to)
kept_at P marks h (slot.Open mark) = h mark
kept_at P marks h (slot.Point mark) = h mark

captures_at : (P : ℕ → Type 0) (marks : List ℕ) → AllMarks P marks → (slots : List Slot) (k : ℕ) (d : Capture) → k < length (map (capture_of marks) slots) →
    IsCaptureAt P (slice_index_or (map (capture_of marks) slots) k d)
captures_at P marks h [] k d lt = absurd (omega (arith, lt))
captures_at P marks h (s ∷ ss) zero d lt = kept_at P marks h s
captures_at P marks h (s ∷ ss) (suc k) d lt = captures_at P marks h ss k d (omega (arith, lt))

-- The match that is told has its places.
pub found_has : (P : ℕ → Type 0) (from : ℕ) (slots : List Slot) (answer : Answer) (m : Match) (tries : ℕ) →
    IsFound slots answer m tries → AnswerHas P from answer → HasPlaces P from (search.Found m tries)
found_has P from slots (At start end marks n) m tries f h =
    let es : start ≡ m.start = sym f.0 in
    let ee : end ≡ m.end = sym f.1 in
    let C : List Capture → Type 0 = λ cs. All (IsCaptureAt P) cs in (
      subst (λ s. from ≤ s) es h.0,
      omega (arith, es, ee, h.1),
      subst P es h.2,
      subst P ee h.3,
      subst C (sym f.2) (captures_at P marks h.4 slots),
    )
found_has P from slots (Nowhere n) m tries f h = absurd f

-- What a search tells of the first match.
use Rattle.std.specs.Prelude.{◌≡◌, ℕ, ◌<◌, ◌≤◌, List, map, slice_index}
use Rattle.lua_pattern.specs.declared.slots.Slot.{Slot}
use Rattle.lua_pattern.specs.declared.slots.Slot.TheVariants.{Text, Point, Open}
use Rattle.lua_pattern.specs.declared.pattern.Capture.{Capture}
use Rattle.lua_pattern.specs.declared.pattern.Capture.TheVariants.{Span, Place}
use Rattle.lua_pattern.specs.declared.pattern.Match.{Match}
use Rattle.lua_pattern.specs.declared.pattern.Search.{Search}
use Rattle.lua_pattern.specs.declared.pattern.Search.TheVariants as search
use Rattle.lua_pattern.specs.Way.{Answer, At, Nowhere, answer_tries}

-- a capture, by the places of the marks
abbrev pub capture_of : List ℕ → Slot → Capture
capture_of marks (Text first last) = Span (slice_index marks first) (slice_index marks last)
capture_of marks (Open mark) = Place (slice_index marks mark)
capture_of marks (Point mark) = Place (slice_index marks mark)

-- the match with its tries
abbrev pub IsFound : List Slot → Answer → Match → ℕ → Type 0
IsFound slots (At start end marks n) m tries =
    (m.start ≡ start) × (m.end ≡ end) × (m.captures ≡ map (capture_of marks) slots) × (tries ≡ n)
IsFound slots (Nowhere n) m tries = ⊥

-- It is spent exactly where the tries exceed the budget; else it tells the answer and its tries.
abbrev pub IsSearch : ℕ → List Slot → Answer → Search → Type 0
IsSearch budget slots answer (search.Found m n) = (answer_tries answer ≤ budget) × IsFound slots answer m n
IsSearch budget slots answer (search.NotFound n) = (answer_tries answer ≤ budget) × (answer ≡ Nowhere n)
IsSearch budget slots answer search.Spent = budget < answer_tries answer

-- Where a search stands, and what it gives from there.
use Rattle.std.specs.Prelude.{◌≡◌, ℕ, ◌+◌, ◌-◌, ◌*◌, ◌<◌, ◌≤◌, List, [], ◌∷◌, drop}
use Rattle.lua_pattern.specs.declared.item.Item.{Item}
use Rattle.lua_pattern.specs.declared.trail.Choice.{Choice}
use Rattle.lua_pattern.specs.declared.trail.Choice.TheVariants.{Down, Up}
use Rattle.lua_pattern.specs.declared.passes.Now.{Now}
use Rattle.lua_pattern.specs.declared.passes.Now.TheVariants.{At, Back, Spent}
use Rattle.lua_pattern.specs.declared.search.Tried.{Tried}
use Rattle.lua_pattern.specs.declared.search.Tried.TheVariants as tried
use Rattle.lua_pattern.specs.declared.search.Met.{Met}
use Rattle.lua_pattern.specs.declared.search.Met.TheVariants as met
use Rattle.lua_pattern.specs.Letters.{Letters}
use Rattle.lua_pattern.specs.Way as way
use Rattle.lua_pattern.specs.Way.{Outcome, Hit, Miss, costs, or_else, tries, Answer, answer_tries}
use Rattle.lua_pattern.specs.Trail as trail
use Rattle.lua_pattern.specs.Trail.{TrailState}

-- The present way, and where it fails the choices.
abbrev pub from_here : Letters → List Item → List ℕ → Now → TrailState → Outcome
from_here a items subject (At i at) state =
    or_else (way.way a (drop i items) subject at state.marks) (trail.tried a items subject state.choices state.marks)
from_here a items subject Back state = trail.tried a items subject state.choices state.marks
from_here a items subject Spent state = Miss 0

-- From tries that are left, an outcome's search has come to where it stands, with fewer left; or it needs more.
abbrev pub Follows : Letters → List Item → List ℕ → Outcome → ℕ → Now → ℕ → TrailState → Type 0
Follows a items subject outcome left Spent left_now state = left < tries outcome
Follows a items subject outcome left (At i at) left_now state =
    (left_now ≤ left) × (outcome ≡ costs (left - left_now) (from_here a items subject (At i at) state))
Follows a items subject outcome left Back left_now state =
    (left_now ≤ left) × (outcome ≡ costs (left - left_now) (from_here a items subject Back state))

-- what a search at one start says of the outcome: with a match its end and its marks, and how many tries are left
abbrev pub Gives : Outcome → ℕ → Tried → ℕ → List ℕ → Type 0
Gives outcome left (tried.Hit end) left_now marks = (left_now ≤ left) × (outcome ≡ Hit end marks (left - left_now))
Gives outcome left tried.Miss left_now marks = (left_now ≤ left) × (outcome ≡ Miss (left - left_now))
Gives outcome left tried.Spent left_now marks = left < tries outcome

abbrev pub Meets : Answer → ℕ → Met → ℕ → List ℕ → Type 0
Meets answer left (met.Hit start end) left_now marks =
    (left_now ≤ left) × (answer ≡ way.At start end marks (left - left_now))
Meets answer left met.Nowhere left_now marks = (left_now ≤ left) × (answer ≡ way.Nowhere (left - left_now))
Meets answer left met.Spent left_now marks = left < answer_tries answer

-- more turns than any item and the rest take without a try
abbrev pub unit : ℕ → ℕ
unit count = 2 * count + 3

abbrev pub heavy : ℕ → List Choice → ℕ
heavy count [] = 0
heavy count (Down item low high marks ∷ cs) = (high - low + 1) * unit count + heavy count cs
heavy count (Up first behind at marks ∷ cs) = behind - 1 - first + 1 + heavy count cs

abbrev pub weight : ℕ → Now → ℕ
weight count (At i at) = 2 * (count - i) + 1
weight count Back = 0
weight count Spent = 0

-- what a try pays for: one choice at each place of a whole subject of so many bytes
unfoldable pub price : ℕ → ℕ → ℕ
price count size = (size + 1) * unit count

-- what bounds the turns that are left
abbrev pub load : ℕ → ℕ → Now → ℕ → TrailState → ℕ
load count size now left state = weight count now + heavy count state.choices + left * price count size

-- A turn at the item before the next one makes the load lighter.
abbrev pub Lighter : ℕ → ℕ → ℕ → TrailState → ℕ → Now → ℕ → TrailState → Type 0
Lighter count size next state left now left_now state_now =
    load count size now left_now state_now < 2 * (count - next) + 3 + heavy count state.choices + left * price count size

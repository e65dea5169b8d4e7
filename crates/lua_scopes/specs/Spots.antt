-- WHAT THE CODE HOLDS of the functions in progress, and what it knows of names: one map for all these functions. It has for a name the
-- innermost function that knows it, and from where.
use Rattle.std.specs.Prelude.{◌≡◌, ℕ, suc, ◌-◌, Bool, true, false, if◌then◌else◌, bytes_eq, List, [], ◌∷◌, ◌++◌, map, length, drop, slice_get, Option, Some, None, option_map}
use Rattle.std.specs.Borrow.{Bor}
use Rattle.std.specs.Map.{lookup}
use Rattle.lua_code.specs.LuaMeaningScope.{Bytes}
use Rattle.lua_code.specs.LuaSlotsSight.{Here, Sight, up_of}
use Rattle.lua_code.specs.LuaSlotsIsCode.{is_plain}
use Rattle.lua_code.specs.declared.place.Place.{Place}
use Rattle.lua_code.specs.declared.place.Place.TheVariants as place
use Rattle.lua_code.specs.Seen.{place_seen}
use Rattle.lua_scopes.specs.declared.spots.Spot.{Spot}
use Rattle.lua_scopes.specs.declared.spots.Spot.TheVariants as spot
use Rattle.lua_scopes.specs.declared.spots.Entry.{Entry}
use Rattle.lua_scopes.specs.declared.spots.Found.{Found}
use Rattle.lua_scopes.specs.declared.level.Variable.{Variable}
use Rattle.lua_scopes.specs.declared.level.Capture.{Capture}
use Rattle.lua_scopes.specs.declared.level.Level.{Level as Held}
use Rattle.lua_scopes.specs.Scopes.{Local, Level, level_sight, AreCaptured, IsPlaced}

-- what a map of names has for one
abbrev pub Spots : Type 0
Spots = List (Bor Bytes × Option Entry)

abbrev pub joined : Option (Option Entry) → Option Entry
joined None = None
joined (Some s) = s

abbrev pub spot_at : Spots → Bytes → Option Entry
spot_at es x = joined (lookup (λ (k : Bor Bytes). bytes_eq x k.now) es)

-- a name stands at a place of the map
abbrev pub StandsAt : Spots → ℕ → Bytes → Type 0
StandsAt es i x = (k : Bor Bytes) × (v : Option Entry) × (slice_get es i ≡ Some (k, v)) × (k.now ≡ x)

-- a name has another entry from now on
abbrev pub IsNoted : Spots → Bytes → Option Entry → Spots → Type 0
IsNoted old name s new = (x : Bytes) → spot_at new x ≡ (if bytes_eq name x then s else spot_at old x)

-- THE FUNCTIONS as the code holds them
abbrev pub local_seen : Variable → Local
local_seen v = record { name = v.name.now; boxed = v.boxed }

abbrev pub names : List Capture → List Bytes
names cs = map (λ (c : Capture). c.name.now) cs

abbrev pub level_seen : Held → Level
level_seen l = record { locals = map local_seen l.variables; names = names l.captures; places = map place_seen l.places }

-- a function of which nothing is known yet
abbrev pub new_level : Held
new_level = record { variables = []; captures = []; places = [] }

-- where a name stands in a function: the newest variable of that name, or else one that is captured
abbrev pub spot_of : Bytes → List Variable → List Capture → Option Spot
spot_of x [] cs = option_map spot.Captured (up_of (names cs) x)
spot_of x (v ∷ vs) cs = if bytes_eq v.name.now x then Some (spot.Local (length vs) v.boxed v.number) else spot_of x vs cs

-- the innermost function that knows a name
abbrev pub entry_or : ℕ → Option Spot → Option Entry → Option Entry
entry_or n (Some s) outside = Some (record { depth = n; spot = s })
entry_or n None outside = outside

abbrev pub entry_of : Bytes → List Held → Option Entry
entry_of x [] = None
entry_of x (l ∷ ls) = entry_or (length ls) (spot_of x l.variables l.captures) (entry_of x ls)

-- each variable and each captured name has what was known of its name before
abbrev pub AreKept : List Capture → List Held → Type 0
AreKept [] ls = Unit {0}
AreKept (c ∷ cs) ls = (c.shadowed ≡ entry_of c.name.now ls) × AreKept cs ls

abbrev pub AreShadowed : List Variable → List Capture → List Held → Type 0
AreShadowed [] cs ls = AreKept cs ls
AreShadowed (v ∷ vs) cs ls = (v.shadowed ≡ entry_or (length ls) (spot_of v.name.now vs cs) (entry_of v.name.now ls)) × AreShadowed vs cs ls

abbrev pub AreAllShadowed : List Held → Type 0
AreAllShadowed [] = Unit {0}
AreAllShadowed (l ∷ ls) = AreShadowed l.variables l.captures ls × AreAllShadowed ls

-- the map says what these functions know
pub record IsRight (ls : List Held) (spots : Spots) : Type 0 where
  pub found : (x : Bytes) → spot_at spots x ≡ entry_of x ls
  pub shadowed : AreAllShadowed ls

-- what is captured stands in cells, and the map is right
abbrev pub AreSound : List Held → Spots → Type 0
AreSound ls spots = AreCaptured (map level_seen ls) × IsRight ls spots

-- WHAT HAPPENS to a function: one more variable; the newest one ends; all but the oldest end
abbrev pub IsDeclared : Held → Held → Variable → ℕ → Spots → Spots → Type 0
IsDeclared l m v depth old new = (m ≡ record l { variables = v ∷ l.variables }) × IsNoted old v.name.now (Some (record { depth = depth; spot = spot.Local (length l.variables) v.boxed v.number })) new

abbrev pub IsEndedOf : List Variable → Held → Held → Spots → Spots → Type 0
IsEndedOf [] l m old new = (m ≡ l) × (new ≡ old)
IsEndedOf (v ∷ vs) l m old new = (m ≡ record l { variables = vs }) × IsNoted old v.name.now v.shadowed new

abbrev pub IsEnded : Held → Held → Spots → Spots → Type 0
IsEnded l m old new = IsEndedOf l.variables l m old new

pub record IsClosed (n : ℕ) (l m : Held) (old new : Spots) : Type 0 where
  pub left : m ≡ record l { variables = drop (length l.variables - n) l.variables }
  pub right : (ls : List Held) → IsRight (l ∷ ls) old → IsRight (m ∷ ls) new

-- it captures a name, and captured names are given back
pub record IsCapturing (l m : Held) (c : Capture) (from : Place) (depth : ℕ) (old new : Spots) (p : Place) : Type 0 where
  pub now : m ≡ record l { captures = l.captures ++ c ∷ []; places = l.places ++ from ∷ [] }
  pub noted : IsNoted old c.name.now (Some (record { depth = depth; spot = spot.Captured (length l.captures) })) new
  pub place : p ≡ place.Captured (length l.captures)

abbrev pub IsGivenSoFar : List Capture → List Capture → Spots → Spots → Type 0
IsGivenSoFar cs left old new = (ls : List Held) → AreKept cs ls → ((x : Bytes) → up_of (names cs) x ≡ None → spot_at old x ≡ entry_of x ls)
    → AreKept left ls × ((x : Bytes) → up_of (names left) x ≡ None → spot_at new x ≡ entry_of x ls)

abbrev pub IsGivenBack : List Capture → Spots → Spots → Type 0
IsGivenBack cs old new = (ls : List Held) → AreKept cs ls → ((x : Bytes) → up_of (names cs) x ≡ None → spot_at old x ≡ entry_of x ls) → (x : Bytes) → spot_at new x ≡ entry_of x ls

-- THE PLACE of a spot among so many variables
abbrev pub found_of : Spot → ℕ → Found
found_of (spot.Captured i) n = record { place = place.Captured i; plain = None }
found_of (spot.Local older true number) n = record { place = place.Cell (n - suc older); plain = None }
found_of (spot.Local older false number) n = record { place = place.Register (n - suc older); plain = Some number }

-- what has no number of a plain register is in a cell
abbrev pub IsCelled : Found → Type 0
IsCelled f = f.plain ≡ None → is_plain (place_seen f.place) ≡ false

-- this is where a name stands in a function, and the number tells a plain register
pub record IsFound (l : Level) (x : Bytes) (f : Found) : Type 0 where
  pub here : (outside : Sight) → level_sight l outside x ≡ Here (place_seen f.place)
  pub celled : IsCelled f

-- functions that don't know a name
abbrev pub AllMiss : Bytes → List Held → Type 0
AllMiss x [] = Unit {0}
AllMiss x (l ∷ ls) = (spot_of x l.variables l.captures ≡ None) × AllMiss x ls

-- functions with some inside them, the outermost of these first
abbrev pub onto : List Held → List Held → List Held
onto [] ls = ls
onto (l ∷ inner) ls = onto inner (l ∷ ls)

-- a function has a name that was known from outside: as the functions and the map were before, and as they are now
pub record IsReached (ls ms : List Held) (new : Spots) (x : Bytes) (f : Found) (inner : List Held) : Type 0 where
  pub right : IsRight (onto inner ms) new
  pub placed : IsPlaced (map level_seen ls) (map level_seen ms) x (Some (place_seen f.place))
  pub celled : IsCelled f
  pub as_many : length ms ≡ length ls

abbrev pub Reaches : List Held → List Held → Spots → Spots → Bytes → Entry → Found → Type 0
Reaches ls ms old new x e f = (inner : List Held) → AllMiss x inner → IsRight (onto inner ls) old → entry_of x ls ≡ Some e → IsReached ls ms new x f inner

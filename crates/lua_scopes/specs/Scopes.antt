-- FUNCTIONS IN PROGRESS while a text is resolved (manual 2.6): of each its local variables and what it captures so far; and where names
-- stand by them. A name that no function around has as a local variable is global; one that a function around has, and this function
-- does not capture yet, is hidden.
use Rattle.std.specs.Prelude.{◌≡◌, ℕ, ◌-◌, Bool, true, false, if◌then◌else◌, bytes_eq, List, [], ◌∷◌, ◌++◌, drop, length, Option, Some, None, refl}
use Rattle.std.specs.Coded.{Coded, code_by, coded×, coded_ℕ, coded_bool, coded_list}
use Rattle.lua_code.specs.LuaHeapRelated.{Each}
use Rattle.lua_code.specs.LuaMeaningScope.{Bytes}
use Rattle.lua_code.specs.LuaSlotsCode.{Place, Reg, Box, Up}
use Rattle.lua_code.specs.LuaSlotsSight.{Sighted, Everywhere, Here, Hidden, Sight, nothing_local, with_local, inside, up_of}
use Rattle.lua_code.specs.LuaSlotsIsCode.{IsCaptured}

-- a local variable, and whether it has a cell
pub record Local : Type 0 where
  pub name : Bytes
  pub boxed : Bool

-- a function: its local variables, the newest first; the names that it captures, and the places of the function around from which
pub record Level : Type 0 where
  pub locals : List Local
  pub names : List Bytes
  pub places : List Place

abbrev pub nothing_known : Level
nothing_known = record { locals = []; names = []; places = [] }

abbrev pub with_variable : Bytes → Bool → Level → Level
with_variable x b l = record l { locals = record { name = x; boxed = b } ∷ l.locals }

abbrev pub with_capture : Bytes → Place → Level → Level
with_capture x p l = record l { names = l.names ++ x ∷ []; places = l.places ++ p ∷ [] }

-- only the oldest so many variables
abbrev pub closed_to : ℕ → Level → Level
closed_to n l = record l { locals = drop (length l.locals - n) l.locals }

-- WHERE NAMES STAND in a function, by its variables, what it captures, and where names stand around it
abbrev pub local_sight : List Local → Sight → Sight
local_sight [] see = see
local_sight (l ∷ ls) see = with_local l.name l.boxed (local_sight ls see)

abbrev pub level_sight : Level → Sight → Sight
level_sight l outside = local_sight l.locals (inside l.names outside)

-- of functions, the innermost first
abbrev pub stack_sight : List Level → Sight
stack_sight [] = nothing_local
stack_sight (l ∷ ls) = level_sight l (stack_sight ls)

abbrev pub is_local : Bytes → List Local → Bool
is_local x [] = false
is_local x (l ∷ ls) = if bytes_eq l.name x then true else is_local x ls

-- the function knows nothing of this name
pub record Misses (l : Level) (x : Bytes) : Type 0 where
  pub no_local : is_local x l.locals ≡ false
  pub no_capture : up_of l.names x ≡ None

-- what is captured stands in cells of the function around
abbrev pub AreCaptured : List Level → Type 0
AreCaptured [] = Unit {0}
AreCaptured (l ∷ ls) = Each (IsCaptured (stack_sight ls)) l.names l.places × AreCaptured ls

-- WHAT STAYS: where a name stands, once that is known
abbrev pub StaysAs : Sighted → Sighted → Type 0
StaysAs Hidden t = Unit {0}
StaysAs Everywhere t = t ≡ Everywhere
StaysAs (Here p) t = t ≡ Here p

abbrev pub Covers : Sight → Sight → Type 0
Covers see seen = (x : Bytes) → StaysAs (see x) (seen x)

-- the same functions with the same variables, that may capture more
abbrev pub Grows : List Level → List Level → Type 0
Grows [] [] = Unit {0}
Grows (l ∷ ls) (m ∷ ms) = (m.locals ≡ l.locals) × Covers (inside l.names (stack_sight ls)) (inside m.names (stack_sight ms)) × Grows ls ms
Grows ls ms = ⊥

-- ALL FUNCTIONS IN PROGRESS: the innermost, those around it from the inside, and whether all that was captured so far has cells
pub record Scopes : Type 0 where
  pub clean : Bool
  pub level : Level
  pub outer : List Level

abbrev pub stack : Scopes → List Level
stack s = s.level ∷ s.outer

-- one more local variable
abbrev pub declared : Bytes → Bool → Scopes → Scopes
declared x b s = record s { level = with_variable x b s.level }

-- a function begins, and one ends; the text itself doesn't
abbrev pub entered : Scopes → Scopes
entered s = record s { level = nothing_known; outer = s.level ∷ s.outer }

abbrev pub IsLeftTo : List Level → Scopes → Scopes → List Place → Type 0
IsLeftTo [] s t places = t ≡ s
IsLeftTo (l ∷ ls) s t places = (t ≡ record s { level = l; outer = ls }) × (places ≡ s.level.places) × (s.clean ≡ true → Each (IsCaptured (stack_sight (l ∷ ls))) s.level.names s.level.places)

abbrev pub IsLeft : Scopes → Scopes → List Place → Type 0
IsLeft s t places = IsLeftTo s.outer s t places

-- a name was looked for: where it stands, and what has grown for it
abbrev pub IsSighted : Option Place → Sighted → Type 0
IsSighted None s = s ≡ Everywhere
IsSighted (Some p) s = s ≡ Here p

pub record IsPlaced (old new : List Level) (x : Bytes) (p : Option Place) : Type 0 where
  pub grows : Grows old new
  pub captured : AreCaptured old → AreCaptured new
  pub sighted : IsSighted p (stack_sight new x)

-- FOR THE PROVER: these are data
abbrev coded_place : Coded Place
coded_place = code_by ((ℕ × Bool) × Bool) (coded× (coded× coded_ℕ coded_bool) coded_bool) to from back
  where
    to : Place → (ℕ × Bool) × Bool
    to (Reg i) = ((i, false), false)
    to (Box i) = ((i, true), false)
    to (Up i) = ((i, false), true)

    from : (ℕ × Bool) × Bool → Place
    from ((i, true), b) = Box i
    from ((i, false), true) = Up i
    from ((i, false), false) = Reg i

    back : (p : Place) → from (to p) ≡ p
    back (Reg i) = refl
    back (Box i) = refl
    back (Up i) = refl

abbrev coded_local : Coded Local
coded_local = code_by (List ℕ × Bool) (coded× (coded_list coded_ℕ) coded_bool) (λ l. (l.name, l.boxed)) (λ p. record { name = p.0; boxed = p.1 }) (λ _. refl)

abbrev pub coded_level : Coded Level
coded_level = code_by (List Local × (List Bytes × List Place)) (coded× (coded_list coded_local) (coded× (coded_list (coded_list coded_ℕ)) (coded_list coded_place))) (λ l. (l.locals, (l.names, l.places))) (λ p. record { locals = p.0; names = p.1.0; places = p.1.1 }) (λ _. refl)

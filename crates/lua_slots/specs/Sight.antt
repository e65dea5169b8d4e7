-- WHERE NAMES STAND at a place of the text (manual 2.6, scopes of local variables).
use Rattle.std.specs.Prelude.{ℕ, suc, Bool, true, false, List, [], ◌∷◌, Option, Some, None, if◌then◌else◌, bytes_eq}
use Rattle.std.specs.Option.{option_map}
use Rattle.lua_meaning.specs.Scope.{Bytes}
use Rattle.lua_slots.specs.Code.{Place, Reg, Box, Up}

-- a name is a global variable, or a local one at a place, or a local one of a function around that is not captured
pub data Sighted : Type 0 where
  Everywhere : Sighted
  Here : Place → Sighted
  Hidden : Sighted

abbrev pub Sight : Type 0
Sight = Bytes → Sighted

-- in front of a chunk nothing is local
abbrev pub nothing_local : Sight
nothing_local x = Everywhere

abbrev pub newest : Bool → Place
newest true = Box 0
newest false = Reg 0

abbrev pub deeper : Sighted → Sighted
deeper (Here (Reg i)) = Here (Reg (suc i))
deeper (Here (Box i)) = Here (Box (suc i))
deeper (Here (Up i)) = Here (Up i)
deeper Everywhere = Everywhere
deeper Hidden = Hidden

-- one more local variable
abbrev pub with_local : Bytes → Bool → Sight → Sight
with_local x boxed see y = if bytes_eq x y then Here (newest boxed) else deeper (see y)

abbrev pub with_locals : List Bytes → List Bool → Sight → Sight
with_locals (x ∷ xs) (b ∷ bs) see = with_locals xs bs (with_local x b see)
with_locals _ _ see = see

abbrev pub AreAsMany : List Bytes → List Bool → Type 0
AreAsMany [] [] = Unit {0}
AreAsMany (x ∷ xs) (b ∷ bs) = AreAsMany xs bs
AreAsMany _ _ = ⊥

-- the place of a name among those that a function captures
abbrev pub up_of : List Bytes → Bytes → Option ℕ
up_of [] x = None
up_of (n ∷ names) x = if bytes_eq n x then Some 0 else option_map suc (up_of names x)

abbrev pub up_or : Option ℕ → Sighted → Sighted
up_or (Some i) outside = Here (Up i)
up_or None Everywhere = Everywhere
up_or None outside = Hidden

-- what is seen in a function that captures these names
abbrev pub inside : List Bytes → Sight → Sight
inside names see x = up_or (up_of names x) (see x)

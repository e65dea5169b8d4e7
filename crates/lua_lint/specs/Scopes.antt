-- WHAT THE CODE HOLDS of the local variables that are seen: each with whether an older one binds its name, the newest first; and a map that
-- tells of a name whether any binds it.
use Rattle.std.specs.Prelude.{◌≡◌, ℕ, Bool, false, if◌then◌else◌, bytes_eq, List, [], ◌∷◌, map, unwrap_or, Result, Ok, Err}
use Rattle.std.specs.Borrow.{Bor}
use Rattle.std.specs.Map.{lookup}
use Rattle.lua_uses.specs.Uses.{is_bound}
use Rattle.lua_lint.specs.declared.scopes.Open.{Open}

abbrev pub Bytes : Type 0
Bytes = List ℕ

abbrev pub Entries : Type 0
Entries = List (Bor Bytes × Bool)

-- whether a name is bound, by the map
abbrev pub bound_at : Entries → Bytes → Bool
bound_at es x = unwrap_or (lookup (λ (k : Bor Bytes). bytes_eq x k.now) es) false

-- the names of variables
abbrev pub names_of : List Open → List Bytes
names_of os = map (λ (o : Open). o.name.now) os

abbrev pub AreKept : List Open → Type 0
AreKept [] = Unit {0}
AreKept (o ∷ os) = (o.older ≡ is_bound (names_of os) o.name.now) × AreKept os

-- the map says what these variables bind
pub record IsRight (os : List Open) (es : Entries) : Type 0 where
  pub found : (x : Bytes) → bound_at es x ≡ is_bound (names_of os) x
  pub kept : AreKept os

-- a name is noted, and others are as they were
abbrev pub IsNoted : Entries → Bytes → Bool → Entries → Type 0
IsNoted old name is new = (x : Bytes) → bound_at new x ≡ (if bytes_eq name x then is else bound_at old x)

-- where there was no memory, nothing changed, and the name wasn't bound
abbrev pub IsBoundIn : {T E : Type 0} → Entries → Bytes → Bool → Entries → Result T E → Type 0
IsBoundIn old name is new (Ok x) = IsNoted old name is new
IsBoundIn old name is new (Err e) = (new ≡ old) × (bound_at old name ≡ false)

abbrev pub without_newest : List Bytes → List Bytes
without_newest [] = []
without_newest (n ∷ names) = names

-- ---- one more variable, and the newest one ended: of what is held, whether memory ran out or not
abbrev pub KeepsRight : List Open → Entries → List Open → Entries → Type 0
KeepsRight os es os' es' = IsRight os es → IsRight os' es'

abbrev pub AreDeclared : {T E : Type 0} → Bytes → List Open → List Open → Result T E → Type 0
AreDeclared name os os' (Ok x) = names_of os' ≡ name ∷ names_of os
AreDeclared name os os' (Err e) = Unit {0}

abbrev pub AreEnded : {T E : Type 0} → List Open → List Open → Result T E → Type 0
AreEnded os os' (Ok x) = names_of os' ≡ without_newest (names_of os)
AreEnded os os' (Err e) = Unit {0}

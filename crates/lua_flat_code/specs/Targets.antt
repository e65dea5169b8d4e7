-- CODE OF ASSIGNMENTS, as the maker's functions promise it: targets are found, and get values.
use Rattle.std.specs.Prelude.{◌≡◌, ◌≤◌, ◌<◌, ℕ, ◌+◌, true, false, List, [], ◌∷◌, ◌++◌, map, reverse, length}
use Rattle.lua_flat.specs.LuaSlotsCode.{CExp, CTarget}
use Rattle.lua_flat.specs.Operations as flat
use Rattle.lua_flat.specs.IsExpression.{Has, IsValue}
use Rattle.lua_flat.specs.IsStatement.{FlatTarget, RegisterT, CellT, CapturedT, GlobalT, EntryT, IsSetting, IsVariable, IsTargets, IsRefused, IsSets}
use Rattle.lua_flat_code.specs.declared.operand.Operand.{Operand}
use Rattle.lua_flat_code.specs.declared.assignments.Found.{Found}
use Rattle.lua_flat_code.specs.declared.assignments.Found.TheVariants as found
use Rattle.lua_flat_code.specs.declared.assignments.AllFound.{AllFound}
use Rattle.lua_flat_code.specs.Seen.{Tables, operand_seen}
use Rattle.lua_flat_code.specs.Making.{State, place, Final, Later}
use Rattle.lua_flat_code.specs.Parts.{Keeps}

abbrev pub found_seen : Tables → Found → FlatTarget
found_seen k (found.Register r) = RegisterT r
found_seen k (found.Cell r) = CellT r
found_seen k (found.Captured n) = CapturedT n
found_seen k (found.Global name line) = GlobalT name line
found_seen k (found.Entry of key line) = EntryT (operand_seen k of) (operand_seen k key) line

-- a target that needs no operation to be found
abbrev pub VariableSaid : State → CTarget → Found → Type 0
VariableSaid s target t = (g : flat.FlatFunction) (k : Tables) → IsVariable g s.locals target (found_seen k t)

-- a target gets what is read there; and what a register has
pub record SettingSaid (t : Found) (from : Operand) (s u : State) : Type 0 where
  pub keeps : Keeps s u
  pub paid : u.owed ≡ 0
  pub one : place u ≡ place s + 1
  pub code : (f : Final) → Later u f → IsSetting f.code (found_seen f.tables t) (operand_seen f.tables from) s.owed (place s)

pub record SetSaid (t : Found) (from : ℕ) (s u : State) : Type 0 where
  pub keeps : Keeps s u
  pub paid : u.owed ≡ 0
  pub one : place u ≡ place s + 1
  pub code : (f : Final) → Later u f → IsSetting f.code (found_seen f.tables t) (flat.RegisterO from) s.owed (place s)

-- the last of them have their values, and then all have them if the first ones have
pub record SetsSoFar (ts left : List Found) (first : ℕ) (s u : State) : Type 0 where
  pub keeps : Keeps s u
  pub code : (f : Final) → Later u f → (c' pc' : ℕ) → IsSets f.code (reverse (map (found_seen f.tables) left)) (first + length left) u.owed (place u) c' pc'
      → IsSets f.code (reverse (map (found_seen f.tables) ts)) (first + length ts) s.owed (place s) c' pc'

pub record SetsSaid (ts : List Found) (first : ℕ) (s u : State) : Type 0 where
  pub keeps : Keeps s u
  pub code : (f : Final) → Later u f → IsSets f.code (reverse (map (found_seen f.tables) ts)) (first + length ts) s.owed (place s) u.owed (place u)

-- a table and a key stand in two registers
pub record EntrySaid (free : ℕ) (of key : CExp) (s u : State) (next : ℕ) : Type 0 where
  pub is : next ≡ free + 2
  pub keeps : Keeps s u
  pub paid : u.owed ≡ 0
  pub room : (f : Final) → Later u f → free + 1 < f.code.registers
  pub between : ℕ
  pub first : (f : Final) → Later u f → IsValue f.code s.locals false (free + 1) of (s.owed + 1) free (place s) between
  pub second : (f : Final) → Later u f → IsValue f.code s.locals false (free + 2) key 0 (free + 1) between (place u)

-- what is left has some code, and then the whole has it behind the code so far
pub record TargetsSoFar (free at : ℕ) (whole left : List CTarget) (ts : List Found) (s u : State) : Type 0 where
  pub keeps : Keeps s u
  pub counted : length ts + length left ≡ length whole
  pub code : (f : Final) → Later u f → (more : List FlatTarget) (c' pc' free' : ℕ) → IsTargets f.code s.locals at left u.owed more (place u) c' pc' free'
      → IsTargets f.code s.locals free whole s.owed (map (found_seen f.tables) ts ++ more) (place s) c' pc' free'
  pub refused : (f : Final) → Later u f → (pc' : ℕ) → IsRefused f.code s.locals at left u.owed (place u) pc' → IsRefused f.code s.locals free whole s.owed (place s) pc'

-- one more target, in front of all that follow
pub record TargetSaid (free : ℕ) (target : CTarget) (old new : List Found) (s u : State) (next : ℕ) : Type 0 where
  pub keeps : Keeps s u
  pub one : Found
  pub put : new ≡ old ++ one ∷ []
  pub code : (f : Final) → Later u f → (left : List CTarget) (more : List FlatTarget) (c' pc' free' : ℕ) → IsTargets f.code s.locals next left u.owed more (place u) c' pc' free'
      → IsTargets f.code s.locals free (target ∷ left) s.owed (found_seen f.tables one ∷ more) (place s) c' pc' free'
  pub refused : (f : Final) → Later u f → (left : List CTarget) (pc' : ℕ) → IsRefused f.code s.locals next left u.owed (place u) pc' → IsRefused f.code s.locals free (target ∷ left) s.owed (place s) pc'

-- all targets are found; or one can't be assigned to, where the operation that tells so follows
pub record TargetsSaid (free : ℕ) (targets : List CTarget) (s u : State) (all : AllFound) : Type 0 where
  pub keeps : Keeps s u
  pub code : all.refused ≡ false → (f : Final) → Later u f → IsTargets f.code s.locals free targets s.owed (map (found_seen f.tables) all.found) (place s) u.owed (place u) all.free
  pub many : all.refused ≡ false → length all.found ≡ length targets
  pub refused : all.refused ≡ true → (f : Final) → Later u f → Has f.code (place u) u.owed flat.RefuseF → IsRefused f.code s.locals free targets s.owed (place s) (place u + 1)

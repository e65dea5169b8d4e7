-- An `if` whose first test is read in place, with an `else` or without one.
use Rattle.std.proofs.Common.{◌≡◌, ◌+◌, ℕ, true, false, List, ◌∷◌, length, Option, Some, None}
use Rattle.lua_code.specs.LuaHeapValue.{Value, is_true}
use Rattle.lua_code.specs.LuaSlotsCode.{CWorld, CExp, CBlock, ThenC, CArms, NoArmC, ArmC}
use Rattle.lua_state.specs.LuaSlotsSlots.{Slots}
use Rattle.lua_state.specs.LuaSlotsCalls.{constants_of}
use Rattle.lua_state.specs.LuaSlotsPoints.{SFrame, BlockEnd, StatsNext, Runs}
use Rattle.lua_in_place.specs.InPlace.{in_place}
use Rattle.lua_in_place.proofs.Statements.{taken, taken_before, passed_by, taken_else}
use Rattle.lua_code.specs.declared.statement.Statement.{Statement}
use Rattle.lua_code.specs.declared.statement.Statement.TheVariants as statement
use Rattle.lua_code.specs.declared.statement.Branch.{Branch}
use Rattle.lua_code.specs.Seen.{statement_seen, branches_seen, block_seen}
use Rattle.lua_code.proofs.Views.{statement-If, statement-IfElse}
use Rattle.std.specs.Prelude.{option_map}
use Rattle.lua_strides.specs.Strides.{LeadsAt}
use Rattle.lua_strides.specs.Conditions.{if_seen}
use Rattle.lua_strides.proofs.Paths.{at_once}

pub chooses_body : (body : CBlock) (more : CArms) (other : Option CBlock) (world : CWorld) (test : CExp) (rest : CBlock) (s : Slots) (v : Value) (n : ℕ) (fs : List SFrame) → in_place (constants_of world s) test s ≡ Some (v, n) → is_true v ≡ true
    → LeadsAt world (Runs (ThenC (if_seen (ArmC test body more) other) rest) fs) s (1 + n) (Runs body (BlockEnd (length s.regs) ∷ StatsNext rest ∷ fs)) s
chooses_body body more None world test rest s v n fs is e = at_once world _ s (1 + n) _ s (taken world s test body more v n is e rest fs)
chooses_body body more (Some b) world test rest s v n fs is e = at_once world _ s (1 + n) _ s (taken_before world s test body more b v n is e rest fs)

pub chooses_rest : (body : CBlock) (world : CWorld) (test : CExp) (rest : CBlock) (s : Slots) (v : Value) (n : ℕ) (fs : List SFrame) → in_place (constants_of world s) test s ≡ Some (v, n) → is_true v ≡ false
    → LeadsAt world (Runs (ThenC (if_seen (ArmC test body NoArmC) None) rest) fs) s (1 + n) (Runs rest fs) s
chooses_rest body world test rest s v n fs is e = at_once world _ s (1 + n) _ s (passed_by world s test body v n is e rest fs)

pub chooses_else : (body other : CBlock) (world : CWorld) (test : CExp) (rest : CBlock) (s : Slots) (v : Value) (n : ℕ) (fs : List SFrame) → in_place (constants_of world s) test s ≡ Some (v, n) → is_true v ≡ false
    → LeadsAt world (Runs (ThenC (if_seen (ArmC test body NoArmC) (Some other)) rest) fs) s (1 + n) (Runs other (BlockEnd (length s.regs) ∷ StatsNext rest ∷ fs)) s
chooses_else body other world test rest s v n fs is e = at_once world _ s (1 + n) _ s (taken_else world s test body other v n is e rest fs)

-- an `if` as its block has it
pub if_opens : (arms : List Branch) (other : Option (List Statement)) (rest : CBlock) → statement_seen (statement.If arms other) rest ≡ ThenC (if_seen (branches_seen arms) (option_map block_seen other)) rest
if_opens arms None rest = statement-If arms rest
if_opens arms (Some b) rest = statement-IfElse arms b rest

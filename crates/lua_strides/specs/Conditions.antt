-- AN `if` as its block has it, with an `else` or without one; and what the value of its first test decides.
use Rattle.std.specs.Prelude.{◌≡◌, ◌+◌, ℕ, Bool, List, ◌∷◌, length, Option, Some, None}
use Rattle.lua_code.specs.LuaHeapValue.{Value, is_true}
use Rattle.lua_code.specs.Seen.{block_seen}
use Rattle.lua_code.specs.LuaSlotsCode.{CWorld, CExp, CStat, IfC, IfElseC, CBlock, ThenC, CArms, ArmC}
use Rattle.lua_state.specs.LuaSlotsSlots.{Slots}
use Rattle.lua_state.specs.LuaSlotsCalls.{constants_of}
use Rattle.lua_state.specs.LuaSlotsPoints.{SFrame, BlockEnd, StatsNext, Runs}
use Rattle.lua_in_place.specs.InPlace.{in_place}
use Rattle.lua_strides.specs.declared.conditions.Choice.{Choice}
use Rattle.lua_strides.specs.declared.conditions.Choice.TheVariants as chosen
use Rattle.lua_strides.specs.Strides.{LeadsAt}

abbrev pub if_seen : CArms → Option CBlock → CStat
if_seen arms None = IfC arms
if_seen arms (Some b) = IfElseC arms b

-- where the moves of an `if` lead whose first test is read in place
abbrev pub IsLed : CWorld → CExp → CBlock → CArms → Option CBlock → CBlock → Slots → ℕ → List SFrame → Choice → Type 0
IsLed world test body more other rest s n fs (chosen.Block b) = LeadsAt world (Runs (ThenC (if_seen (ArmC test body more) other) rest) fs) s (1 + n) (Runs (block_seen b.now) (BlockEnd (length s.regs) ∷ StatsNext rest ∷ fs)) s
IsLed world test body more other rest s n fs chosen.Rest = LeadsAt world (Runs (ThenC (if_seen (ArmC test body more) other) rest) fs) s (1 + n) (Runs rest fs) s
IsLed world test body more other rest s n fs chosen.Later = Unit {0}

abbrev pub IsChosen : Bool → CBlock → CArms → Option CBlock → Choice → Type 0
IsChosen holds body more other r = (world : CWorld) (test : CExp) (rest : CBlock) (s : Slots) (v : Value) (n : ℕ) (fs : List SFrame) → in_place (constants_of world s) test s ≡ Some (v, n) → is_true v ≡ holds → IsLed world test body more other rest s n fs r

-- AN ASSIGNMENT TO AN ENTRY whose table and key are read in place: its one value is still to be evaluated.
use Rattle.std.proofs.Common.{◌≡◌, ℕ, ◌+◌, List, [], ◌∷◌, Some, refl}
use Rattle.lua_loops.specs.PageRunOutcome.{Goes}
use Rattle.lua_code.specs.LuaHeapValue.{Value}
use Rattle.lua_code.specs.LuaSlotsCode.{CExp, NoC, MoreC, EntryC, AssignC, CBlock, ThenC, CWorld}
use Rattle.lua_operators.specs.LuaSlotsSlots.{Slots}
use Rattle.lua_loops.specs.LuaSlotsCalls.{constants_of}
use Rattle.lua_operators.specs.LuaSlotsPoints.{EntryS, SFrame, MoreNext, TargetKey, TargetNow, AssignNow, StatsNext, Gives, Evals, Lists, Finds, Runs}
use Rattle.lua_strides.specs.LuaInPlaceInPlace.{in_place}
use Rattle.lua_strides.proofs.LuaInPlaceReading.{reads}
use Rattle.lua_strides.proofs.LuaInPlaceStatements.{Leads, free, free_then, free_first, free_last, joined, behind_node}

pub entry_begun : (world : CWorld) (s : Slots) (of key e : CExp) (line : ℕ) (o k : Value) (a b : ℕ) → in_place (constants_of world s) of s ≡ Some (o, a) → in_place (constants_of world s) key s ≡ Some (k, b) → (rest : CBlock) (fs : List SFrame)
    → Leads world (Runs (ThenC (AssignC (EntryC of key line ∷ []) (MoreC e NoC)) rest) fs) s (1 + (1 + (a + b))) (Evals e (MoreNext NoC [] ∷ AssignNow (EntryS o k line ∷ []) ∷ StatsNext rest ∷ fs)) s
entry_begun world s of key e line o k a b x y rest fs =
    behind_node world (Runs (ThenC (AssignC (EntryC of key line ∷ []) (MoreC e NoC)) rest) fs) (Finds (EntryC of key line ∷ []) [] (MoreC e NoC) (StatsNext rest ∷ fs)) s (1 + (a + b))
    (Evals e (MoreNext NoC [] ∷ AssignNow (EntryS o k line ∷ []) ∷ StatsNext rest ∷ fs)) s refl
    (behind_node world (Finds (EntryC of key line ∷ []) [] (MoreC e NoC) (StatsNext rest ∷ fs)) (Evals of (TargetKey key line [] [] (MoreC e NoC) ∷ StatsNext rest ∷ fs)) s (a + b)
    (Evals e (MoreNext NoC [] ∷ AssignNow (EntryS o k line ∷ []) ∷ StatsNext rest ∷ fs)) s refl
    (joined world a b (reads world s of o a x (TargetKey key line [] [] (MoreC e NoC) ∷ StatsNext rest ∷ fs))
    (free_first world _ (free world (Gives (Goes (o ∷ [])) (TargetKey key line [] [] (MoreC e NoC) ∷ StatsNext rest ∷ fs)) s (Evals key (TargetNow o line [] [] (MoreC e NoC) ∷ StatsNext rest ∷ fs)) s refl)
    (free_last world _ (reads world s key k b y (TargetNow o line [] [] (MoreC e NoC) ∷ StatsNext rest ∷ fs))
    (free_then world (free world (Gives (Goes (k ∷ [])) (TargetNow o line [] [] (MoreC e NoC) ∷ StatsNext rest ∷ fs)) s (Finds [] (EntryS o k line ∷ []) (MoreC e NoC) (StatsNext rest ∷ fs)) s refl)
    (free_then world (free world (Finds [] (EntryS o k line ∷ []) (MoreC e NoC) (StatsNext rest ∷ fs)) s (Lists (MoreC e NoC) [] (AssignNow (EntryS o k line ∷ []) ∷ StatsNext rest ∷ fs)) s refl)
    (free world (Lists (MoreC e NoC) [] (AssignNow (EntryS o k line ∷ []) ∷ StatsNext rest ∷ fs)) s (Evals e (MoreNext NoC [] ∷ AssignNow (EntryS o k line ∷ []) ∷ StatsNext rest ∷ fs)) s refl)))))))

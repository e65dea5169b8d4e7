-- The small heaps compute.
use Rattle.std.proofs.Common.{refl}
use Rattle.lua_walk.specs.Examples.{DataIsTaken, FirstFaultIsMet, CopyIsMade, CopyIsPaid}

pub data_is_taken : DataIsTaken
data_is_taken = (refl, refl, refl, refl, refl)

pub first_fault_is_met : FirstFaultIsMet
first_fault_is_met = (refl, refl, refl, refl, refl, refl, refl, refl, refl, refl)

pub copy_is_made : CopyIsMade
copy_is_made = (refl, refl, refl, refl, refl, refl, refl)

pub copy_is_paid : CopyIsPaid
copy_is_paid = (refl, refl, refl)

-- The worked texts, by computation.
use Rattle.std.proofs.Common.{refl}
use Rattle.case_names.specs.Examples.{Assigned, Returned, Others}

pub assigned : Assigned
assigned = refl

pub returned : Returned
returned = refl

pub others : Others
others = refl

-- WHAT A LIST AS A TEXT COSTS, part by part: the items, and what stands between them.
use Rattle.std.specs.Prelude.{ℕ, zero, suc, ◌+◌, ◌*◌}

-- so many items need the conjunction once, and else separators
abbrev pub glue_charge : ℕ → ℕ → ℕ → ℕ
glue_charge separator conjunction zero = 0
glue_charge separator conjunction (suc zero) = 0
glue_charge separator conjunction (suc (suc n)) = conjunction + separator * n

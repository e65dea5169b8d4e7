use Rattle.std.proofs.Common.{◌≡◌, ◌+◌, ◌++◌, drop}
use Rattle.lua_table.specs.Entries.{first_live}
use Rattle.lua_table.specs.Front.{numbered}
use Rattle.lua_table.proofs.entries.live_from.Given as goal

abbrev pub invariant-loop-at : goal.invariant-loop-at
invariant-loop-at g l =
    let eq = g.V.PartialEq.eq in
    let nil = g.V.Slot.nil_value in
    let here = first_live eq nil (numbered g.V.Slot.number_of l.at (drop l.at l.front) ++ l.rest.entries) in
    let whole = first_live eq nil (numbered g.V.Slot.number_of l.from (drop l.from l.front) ++ l.rest.entries) in
    (whole.key ≡ here.key) × (whole.value ≡ here.value) × (whole.passed ≡ l.passed + here.passed) × (l.from + l.passed ≡ l.at)

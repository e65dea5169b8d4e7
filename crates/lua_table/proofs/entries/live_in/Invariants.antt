use Rattle.std.proofs.Common.{◌≡◌, ◌+◌, drop}
use Rattle.lua_table.specs.Entries.{first_live}
use Rattle.lua_table.proofs.entries.live_in.Given as goal

abbrev pub invariant-loop-at : goal.invariant-loop-at
invariant-loop-at g l =
    let eq = g.V.PartialEq.eq in
    let nil = g.V.Slot.nil_value in
    let here = first_live eq nil (drop l.at l.rest.entries) in
    let whole = first_live eq nil (drop l.from l.rest.entries) in
    (whole.key ≡ here.key) × (whole.value ≡ here.value) × (whole.passed ≡ l.passed + here.passed) × (l.from + l.passed ≡ l.at)

use Rattle.std.proofs.Common.{◌≡◌, ◌+◌, ◌≤◌, ◌-◌, drop, length}
use Rattle.lua_iterators.proofs.symbols.count_symbols.Given as goal

abbrev pub invariant-symbols : goal.invariant-symbols
invariant-symbols g l =
    let a = g.A.Alphabet.letters in
    (l.count + length (a.symbols (drop l.place l.text)) ≡ length (a.symbols l.text)) × (l.place ≤ length l.text) × (l.count ≤ l.place)

abbrev pub decreases-symbols : goal.decreases-symbols
decreases-symbols g l = length l.text - l.place

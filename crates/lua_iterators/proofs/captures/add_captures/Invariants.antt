use Rattle.std.proofs.Common.{◌≡◌, ◌++◌, length}
use Rattle.lua_strings.specs.LuaStoreParts.{IsLater}
use Rattle.lua_strings.specs.LuaBasicSeen.{values_seen, AllOf}
use Rattle.lua_strings.specs.LuaMeaningIterators.{captures_given}
use Rattle.lua_iterators.proofs.captures.add_captures.Given as goal

-- what was added and what is still to add are all
abbrev pub invariant-each : goal.invariant-each
invariant-each g l =
    let a = g.A.Alphabet.letters in
    AllOf l.store l.values
    × (values_seen l.store.texts l.values ++ captures_given a l.s (record { at = l.at; before = l.before }) l.rest ≡ values_seen l.initial.store.texts l.initial.values ++ captures_given a l.s (record { at = l.at; before = l.before }) l.captures)
    × (l.store.heap ≡ l.initial.store.heap)
    × IsLater l.initial.store l.store

abbrev pub decreases-each : goal.decreases-each
decreases-each g l = length l.rest

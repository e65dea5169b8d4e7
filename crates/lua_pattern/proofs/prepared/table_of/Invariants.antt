use Rattle.std.proofs.Common.{◌≡◌, ◌<◌, ◌≤◌, ◌||◌, ℕ, false}
use Rattle.regex_class.specs.Ranges.{in_ranges}
use Rattle.lua_pattern.specs.Sets.{in_any}
use Rattle.lua_pattern.specs.Texts.{bytes}
use Rattle.lua_pattern.specs.ByteTables.{table_has}
use Rattle.lua_pattern.proofs.prepared.table_of.Given as goal

-- The table has the bytes looked at, and no others.
abbrev pub invariant-bytes : goal.invariant-bytes
invariant-bytes l =
    ((c : ℕ) → c < l.code → table_has l.table.words c ≡ (in_ranges l.ranges.ranges.items c || in_any bytes l.classes c))
    × ((c : ℕ) → l.code ≤ c → c < 256 → table_has l.table.words c ≡ false)

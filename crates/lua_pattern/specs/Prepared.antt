-- What is prepared of a set of many parts, so that a test of it costs a bounded time: it says of each symbol what the parts say.
use Rattle.std.specs.Prelude.{◌≡◌, ℕ, ◌<◌, ◌≤◌, ◌||◌, List, Option, IfSome}
use Rattle.regex_class.specs.Ranges.{in_ranges}
use Rattle.lua_pattern.specs.declared.item.Part.{Part}
use Rattle.lua_pattern.specs.declared.prepared.Index.{Index}
use Rattle.lua_pattern.specs.Letters.{Letters}
use Rattle.lua_pattern.specs.Texts.{bytes}
use Rattle.lua_pattern.specs.Sets.{in_any}
use Rattle.lua_pattern.specs.ByteTables.{table_has}

-- The ranges and the classes of a set say, over any alphabet, what its parts say.
abbrev pub IsSplit : List Part → List (ℕ × ℕ) → List Part → Type 0
IsSplit parts ranges classes =
    (a : Letters) (c : ℕ) → c ≤ 0x10_FFFF → in_any a parts c ≡ (in_ranges ranges c || in_any a classes c)

-- A table says of each byte what the parts say over bytes.
abbrev pub IsTable : List Part → List ℕ → Type 0
IsTable parts words = (c : ℕ) → c < 256 → table_has words c ≡ in_any bytes parts c

-- An index says what the parts say.
abbrev pub IsIndexOf : List Part → Index → Type 0
IsIndexOf parts index = IsSplit parts index.ranges.ranges.items index.classes × IsTable parts index.table.words

abbrev pub IsIndex : List Part → Option Index → Type 0
IsIndex parts index = IfSome index (IsIndexOf parts)

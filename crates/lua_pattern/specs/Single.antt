-- Which symbols a single character stands for (Lua 5.1 manual, 5.4.1).
use Rattle.std.specs.Prelude.{ℕ, Bool, true, ◌==◌}
use Rattle.lua_pattern.specs.declared.item.Single.{Single}
use Rattle.lua_pattern.specs.declared.item.Single.TheVariants as single
use Rattle.lua_pattern.specs.Letters.{Letters}
use Rattle.lua_pattern.specs.Sets.{turned, in_set}

-- a single character fits a symbol
abbrev pub fits : Letters → Single → ℕ → Bool
fits a single.Any c = true
fits a (single.Plain d) c = d == c
fits a (single.Kind class negated) c = turned negated (a.has class c)
fits a (single.Of set) c = in_set a set c

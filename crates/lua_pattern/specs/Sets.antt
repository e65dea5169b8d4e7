-- Which symbols a set holds (Lua 5.1 manual, 5.4.1).
use Rattle.std.specs.Prelude.{ℕ, Bool, true, false, not, ◌||◌, List, [], ◌∷◌}
use Rattle.lua_pattern.specs.declared.item.Part.{Part}
use Rattle.lua_pattern.specs.declared.item.Part.TheVariants as part
use Rattle.lua_pattern.specs.declared.item.Set.{Set}
use Rattle.lua_pattern.specs.Letters.{Letters}
use Rattle.lua_pattern.specs.Texts.{between}

-- complemented, where the first argument says so
abbrev pub turned : Bool → Bool → Bool
turned true x = not x
turned false x = x

abbrev pub in_part : Letters → ℕ → Part → Bool
in_part a c (part.Range low high) = between low high c
in_part a c (part.Kind class negated) = turned negated (a.has class c)

abbrev pub in_any : Letters → List Part → ℕ → Bool
in_any a [] c = false
in_any a (p ∷ ps) c = in_part a c p || in_any a ps c

abbrev pub in_set : Letters → Set → ℕ → Bool
in_set a set c = turned set.negated (in_any a set.parts c)

-- Attributes that are read, and classes.
use Rattle.std.proofs.Common.{◌≡◌, refl, arith, ◌+◌, true, false, List, ◌∷◌, ◌++◌, length, Some}
use Rattle.std.specs.Prelude.{codes}
use Rattle.std.proofs.lemmas.List.{length-append}
use Rattle.mw_html.specs.Names.{with_class}
use Rattle.lua_strings.specs.LuaMeaningScope.{Bytes}
use Rattle.lua_strings.specs.LuaMeaningHtmlNodes.{is_attr, value_of}

pub value_hit : (name : Bytes) (a : Bytes × Bytes) (more : List (Bytes × Bytes)) → is_attr name a ≡ true → value_of name (a ∷ more) ≡ Some a.1
value_hit name a more h = rw h refl

pub value_miss : (name : Bytes) (a : Bytes × Bytes) (more : List (Bytes × Bytes)) → is_attr name a ≡ false → value_of name (a ∷ more) ≡ value_of name more
value_miss name a more h = rw h refl

pub classes_length : (old class : Bytes) → length (with_class (Some old) class) ≡ length old + (1 + length class)
classes_length old class =
    let whole : length (with_class (Some old) class) ≡ length (old ++ codes " ") + length class = length-append (old ++ codes " ") class in
    let first : length (old ++ codes " ") ≡ length old + 1 = length-append old (codes " ") in
    omega (arith, whole, first)

-- Byte strings in order.
use Rattle.std.specs.Prelude.{ℕ, Bool, if◌then◌else◌, List, [], ◌∷◌}
use Rattle.std.specs.Ordering.{nat_cmp, is_le}
use Rattle.std.specs.Cmp.Lexicographic.{slice_cmp}

-- the first differing byte decides; a prefix comes first
abbrev pub text_le : List ℕ → List ℕ → Bool
text_le a b = is_le (slice_cmp nat_cmp a b)

abbrev pub put_in_order : List ℕ → List (List ℕ) → List (List ℕ)
put_in_order t [] = t ∷ []
put_in_order t (u ∷ us) = if text_le t u then t ∷ u ∷ us else u ∷ put_in_order t us

-- the texts in byte order, those that are the same side by side
abbrev pub in_byte_order : List (List ℕ) → List (List ℕ)
in_byte_order [] = []
in_byte_order (t ∷ ts) = put_in_order t (in_byte_order ts)

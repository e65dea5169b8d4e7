use Rattle.std.proofs.Common.{◌≡◌, ◌++◌, ℕ, List, length, string_bytes}
use Rattle.std.specs.Option.{option_map}
use Rattle.mw_ustring.specs.Texts.{text_of_codes}
use Rattle.mw_ustring.proofs.parts.char_of.Given as goal

abbrev pub invariant-codes : goal.invariant-codes
invariant-codes l = option_map (λ (bs : List ℕ). string_bytes l.made ++ bs) (text_of_codes l.left) ≡ text_of_codes l.initial.left

abbrev pub decreases-codes : goal.decreases-codes
decreases-codes l = length l.left

-- The digits of a number, written from the last one on.
use Rattle.std.specs.Prelude.{ℕ, ◌+◌, Bool, List}
use Rattle.std.specs.Fmt.{digits_onto}

-- what is left of a number, before the digits that stand from a place on in a buffer of 24 bytes
unfoldable pub written : ℕ → ℕ → Bool → ℕ → List ℕ → List ℕ
written start base upper left text = digits_onto (start + 40) base upper left text

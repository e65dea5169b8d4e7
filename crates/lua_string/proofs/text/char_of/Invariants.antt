use Rattle.std.proofs.Common.{◌≡◌, ◌++◌, ℕ, List, length}
use Rattle.std.specs.Option.{option_map}
use Rattle.lua_string.specs.Texts.{bytes_of}
use Rattle.lua_string.proofs.text.char_of.Given as goal

abbrev pub invariant-codes : goal.invariant-codes
invariant-codes l = option_map (λ (bs : List ℕ). l.made.items ++ bs) (bytes_of l.left) ≡ bytes_of l.initial.left

abbrev pub decreases-codes : goal.decreases-codes
decreases-codes l = length l.left

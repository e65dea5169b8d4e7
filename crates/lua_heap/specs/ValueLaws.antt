-- THE LAWS OF VALUES AND BORDERS
use Rattle.std.specs.Prelude.{◌≡◌, ℕ}
use Rattle.std.specs.Bool.{Decides}
use Rattle.lua_heap.specs.Value.{Value, Nil, same, is_nil}
use Rattle.lua_heap.specs.Table.{Entries, border, IsLeast}

abbrev pub SameDecides : Type 0
SameDecides = (v w : Value) → Decides (same v w) (v ≡ w)

abbrev pub NilDecides : Type 0
NilDecides = (v : Value) → Decides (is_nil v) (v ≡ Nil)

-- `border` is a least border
abbrev pub BorderIsLeast : Type 0
BorderIsLeast = (es : Entries) → IsLeast es (border es)

-- and there is no other
abbrev pub BorderIsOnly : Type 0
BorderIsOnly = (es : Entries) (n : ℕ) → IsLeast es n → n ≡ border es

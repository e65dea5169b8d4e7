-- THE VALUES OF LUA (manual 2.2). A text is its bytes. An object is known by its number in the heap, a function of the library by its name.
use Rattle.std.specs.Prelude.{ℕ, ℤ, Bool, true, false, List}
use Rattle.std.specs.Prelude.{eqb, bytes_eq}
use Rattle.std.specs.Ordering.{int_eq}
use Rattle.std.proofs.Math.Bool.{beq}
use Rattle.lua_heap.specs.declared.library.Library.{Library}
use Rattle.lua_heap.specs.contracts.library.LibraryPartialEq.TheImpl.{ghosts as library}

pub data Value : Type 0 where
  Nil : Value
  Truth : (b : Bool) → Value
  Number : (n : ℤ) → Value
  Text : (bytes : List ℕ) → Value
  Table : (id : ℕ) → Value
  Closure : (id : ℕ) → Value
  Builtin : (which : Library) → Value
  Markup : (id : ℕ) → Value

-- whether two values are the same one: what `rawequal` tells, and what makes two keys one key (manual 2.5.2)
abbrev pub same : Value → Value → Bool
same Nil Nil = true
same (Truth a) (Truth b) = beq a b
same (Number a) (Number b) = int_eq a b
same (Text a) (Text b) = bytes_eq a b
same (Table a) (Table b) = eqb a b
same (Closure a) (Closure b) = eqb a b
same (Builtin a) (Builtin b) = library.eq a b
same (Markup a) (Markup b) = eqb a b
same _ _ = false

abbrev pub is_nil : Value → Bool
is_nil Nil = true
is_nil _ = false

-- only false and nil are false (manual 2.4.4)
abbrev pub is_true : Value → Bool
is_true Nil = false
is_true (Truth b) = b
is_true _ = true

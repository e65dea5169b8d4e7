-- Arguments that may be left out.
use Rattle.std.proofs.Common.{◌≡◌, ℕ, true, false, List, [], ◌∷◌, Ok, Err, refl}
use Rattle.std.specs.Prelude.{codes}
use Rattle.lua_basic.specs.LuaHeapValue.{Value, Nil, is_nil}
use Rattle.lua_basic.specs.LuaMeaningScope.{Bytes}
use Rattle.lua_basic.specs.LuaMeaningValues.{first}
use Rattle.lua_basic.specs.LuaMeaningMessages.{bad_argument, expected}
use Rattle.lua_basic.specs.LuaMeaningArguments.{a_text}
use Rattle.lua_basic.specs.LuaMeaningChecks.{text_or, a_nil}

pub left_out : (default : Bytes) (n : ℕ) (function : Bytes) (given : List Value) → is_nil (first given) ≡ true → text_or default n function given ≡ Ok default
left_out default n function [] h = refl
left_out default n function (Nil ∷ vs) h = refl
left_out default n function (v ∷ vs) h = absurd cc

pub not_left_out : (default : Bytes) (n : ℕ) (function : Bytes) (given : List Value) → is_nil (first given) ≡ false → text_or default n function given ≡ a_text n function given
not_left_out default n function [] h = absurd cc
not_left_out default n function (Nil ∷ vs) h = absurd cc
not_left_out default n function (v ∷ vs) h = refl

pub nil_given : (n : ℕ) (function : Bytes) (given : List Value) → is_nil (first given) ≡ true → a_nil n function given ≡ Ok Nil
nil_given n function [] h = refl
nil_given n function (Nil ∷ vs) h = refl
nil_given n function (v ∷ vs) h = absurd cc

pub value_given : (n : ℕ) (function : Bytes) (given : List Value) → is_nil (first given) ≡ false → a_nil n function given ≡ Err (bad_argument n function (expected (codes "nil") given))
value_given n function [] h = absurd cc
value_given n function (Nil ∷ vs) h = absurd cc
value_given n function (v ∷ vs) h = refl

-- ARGUMENTS THAT ARE TEXTS, of functions over code points (Scribunto, Ustring and Text libraries): those that must be in UTF-8, and
-- those that may be left out. `given` are the arguments from number n on.
use Rattle.std.specs.Prelude.{ℕ, List, [], ◌∷◌, Option, Some, None, Ok, Err, if◌then◌else◌, codes}
use Rattle.std.specs.Str.{is_utf8}
use Rattle.lua_walk.specs.LuaHeapValue.{Value, Nil}
use Rattle.lua_walk.specs.LuaHeapHeap.{Heap}
use Rattle.lua_meaning.specs.Scope.{Bytes}
use Rattle.lua_meaning.specs.Messages.{bad_argument}
use Rattle.lua_meaning.specs.Arguments.{Plain, with_charge, Argument, a_text, text_charge}
use Rattle.lua_meaning.specs.Checks.{text_or}

-- a text that was found, where it is in UTF-8
abbrev pub in_utf8 : ℕ → Bytes → Argument Bytes → Argument Bytes
in_utf8 n function (Ok text) = if is_utf8 text then Ok text else Err (bad_argument n function (codes "not UTF-8"))
in_utf8 n function (Err message) = Err message

abbrev pub utf8_text : ℕ → Bytes → List Value → Argument Bytes
utf8_text n function given = in_utf8 n function (a_text n function given)

abbrev pub utf8_text_or : Bytes → ℕ → Bytes → List Value → Argument Bytes
utf8_text_or default n function given = in_utf8 n function (text_or default n function given)

-- a text in UTF-8, or none
abbrev pub as_some : Argument Bytes → Argument (Option Bytes)
as_some (Ok text) = Ok (Some text)
as_some (Err message) = Err message

abbrev pub utf8_text_if_any : ℕ → Bytes → List Value → Argument (Option Bytes)
utf8_text_if_any n function [] = Ok None
utf8_text_if_any n function (Nil ∷ vs) = Ok None
utf8_text_if_any n function given = as_some (utf8_text n function given)

-- WHAT A FUNCTION OF TEXTS COSTS before it looks at its arguments: the bytes of those that are strings, also of those that it does
-- not use.
abbrev pub of_texts : {X : Type 0} → (List Value → Heap X → Plain X) → List Value → Heap X → Plain X
of_texts function args h = with_charge (text_charge args) (function args h)

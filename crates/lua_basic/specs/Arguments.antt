-- ARGUMENTS as they are found: the meaning's argument, for what was found or for nothing.
use Rattle.std.specs.Prelude.{ℕ, List, Option, Some, None, Ok, Err, codes}
use Rattle.lua_meaning.specs.LuaHeapValue.{Value}
use Rattle.lua_meaning.specs.Scope.{Bytes}
use Rattle.lua_meaning.specs.Messages.{bad_argument, expected}
use Rattle.lua_meaning.specs.Arguments.{Argument}
use Rattle.lua_store.specs.declared.ids.TableId.{TableId}
use Rattle.lua_store.specs.declared.value.Value.{Value as Stored}
use Rattle.lua_store.specs.Seen.{seen}
use Rattle.lua_basic.specs.Seen.{values_seen}
use Rattle.lua_basic.specs.declared.texts.TextIn.{TextIn}
use Rattle.lua_basic.specs.declared.texts.TextIn.TheVariants.{Kept, Written}

-- a table that was found as argument n, or the message that there is none
abbrev pub found_table : ℕ → Bytes → List Value → Option TableId → Argument ℕ
found_table n function given (Some id) = Ok id.at
found_table n function given None = Err (bad_argument n function (expected (codes "table") given))

-- a metatable that was found as argument 2 of `setmetatable`
abbrev pub found_meta : List (List ℕ) → List Stored → Option Stored → Argument Value
found_meta texts given (Some v) = Ok (seen texts v)
found_meta texts given None = Err (bad_argument 2 (codes "setmetatable") (expected (codes "table") (values_seen texts given)))

-- the bytes of a text that is kept in a store, or that was written for a number
abbrev pub text_bytes : TextIn → Bytes
text_bytes (Kept bytes) = bytes.now
text_bytes (Written bytes) = bytes.items

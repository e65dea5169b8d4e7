-- TEXTS AMONG WHAT A RUN OF LUA GAVE, by their names in the store.
use Rattle.std.specs.Prelude.{ℕ, List, [], ◌∷◌, Option, Some, None}
use Rattle.lua_graph.specs.LuaStoreDeclaredIdsTextId.{TextId}
use Rattle.lua_graph.specs.LuaStoreDeclaredValueValue.{Value}
use Rattle.lua_graph.specs.LuaStoreDeclaredValueValueTheVariants as own
use Rattle.lua_graph.specs.LuaStoreSeen.{text_at}
use Rattle.lua_state.specs.LuaStackDeclaredFocusJump.{Jump}
use Rattle.lua_state.specs.LuaStackDeclaredFocusJumpTheVariants as jump

abbrev pub text_in_value : Value → Option TextId
text_in_value (own.Text id) = Some id
text_in_value _ = None

-- the only one of these values, if it is a text
abbrev pub only_text_in : List Value → Option TextId
only_text_in (v ∷ []) = text_in_value v
only_text_in _ = None

-- the value of an error, if it is a text
abbrev pub raised_text_in : Jump → Option TextId
raised_text_in (jump.Raised v) = text_in_value v
raised_text_in _ = None

-- the bytes of a text, or none
abbrev pub text_or_none : List (List ℕ) → Option TextId → List ℕ
text_or_none texts (Some id) = text_at texts id.at
text_or_none texts None = []

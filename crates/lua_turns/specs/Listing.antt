-- WHAT IS LEFT OF A LIST, with the values before; nothing is, where all of its values are there.
use Rattle.std.specs.Borrow.{Bor}
use Rattle.std.specs.Prelude.{List, Option, Some, None}
use Rattle.lua_code.specs.declared.expression.Expression.{Expression}
use Rattle.lua_operators.specs.LuaStoreDeclaredValueValue.{Value}
use Rattle.lua_strides.specs.LuaStackDeclaredFocusFocus.{Focus}
use Rattle.lua_strides.specs.LuaStackDeclaredFocusFocusTheVariants as focus
use Rattle.lua_strides.specs.LuaStackDeclaredValuesGivenTheVariants as given

abbrev pub left_of : Option (Bor (List Expression)) → List Value → Focus
left_of (Some rest) before = focus.Lists rest before
left_of None before = focus.Gives (given.Many before)

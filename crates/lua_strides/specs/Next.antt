-- WHAT IS NEXT behind several moves at once, as the machine has it.
use Rattle.std.specs.Prelude.{[], ◌∷◌}
use Rattle.lua_state.specs.LuaStackDeclaredFocusFocus.{Focus}
use Rattle.lua_state.specs.LuaStackDeclaredFocusFocusTheVariants as focus
use Rattle.lua_state.specs.LuaStackDeclaredFocusJumpTheVariants as jump
use Rattle.lua_state.specs.LuaStackDeclaredValuesGivenTheVariants as given
use Rattle.lua_strides.specs.declared.next.Next.{Next}
use Rattle.lua_strides.specs.declared.next.Next.TheVariants as next

abbrev pub focus_of : Next → Focus
focus_of (next.Gives v) = focus.Gives (given.One v)
focus_of (next.GivesAll vs) = focus.Gives (given.Many vs)
focus_of next.GivesNone = focus.Gives (given.Many [])
focus_of (next.Returns v) = focus.Jumps (jump.Returned (given.One v))
focus_of (next.Evaluates e) = focus.Evaluates e
focus_of (next.Sets one) = focus.Sets (one ∷ [])
focus_of (next.Runs b) = focus.Runs b

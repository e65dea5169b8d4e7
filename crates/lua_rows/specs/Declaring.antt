-- A DECLARATION WAITS in code for the values of its one expression.
use Rattle.std.specs.Borrow.{Bor}
use Rattle.std.specs.Prelude.{◌≡◌, Bool, List, [], ◌∷◌}
use Rattle.lua_code.specs.declared.expression.Expression.{Expression}
use Rattle.lua_code.specs.declared.statement.Statement.{Statement}
use Rattle.lua_turns.specs.LuaStackDeclaredFrameFrame.{Frame}
use Rattle.lua_turns.specs.LuaStackDeclaredFrameFrameTheVariants as frame
use Rattle.lua_turns.specs.LuaStackDeclaredFrameInExpressionTheVariants as in_expression
use Rattle.lua_turns.specs.LuaStackDeclaredFrameInStatementTheVariants as in_statement

-- the frames that wait, where this is the end of its list
abbrev pub declaring : Bor (List Expression) → Bor (List Bool) → Bor (List Statement) → List Frame → List Frame
declaring none flags rest fs = frame.Expression (in_expression.MoreNext none []) ∷ frame.Statement (in_statement.DeclareNow flags rest) ∷ fs

-- they wait now
abbrev pub Declares : Bor (List Bool) → Bor (List Statement) → List Frame → List Frame → Type 0
Declares flags rest old new = (none : Bor (List Expression)) × (none.now ≡ []) × (new ≡ declaring none flags rest old)

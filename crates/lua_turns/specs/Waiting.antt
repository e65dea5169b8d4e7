-- THE NEWEST FRAME, where it is gone on with in place.
use Rattle.std.specs.Prelude.{◌≡◌, List, [], ◌∷◌}
use Rattle.lua_code.specs.declared.operator.Operator.TheVariants as operator
use Rattle.lua_strides.specs.LuaStackDeclaredFrameFrame.{Frame}
use Rattle.lua_operators.specs.LuaStackDeclaredFrameFrameTheVariants as frame
use Rattle.lua_operators.specs.LuaStoreDeclaredValueValue.{Value}
use Rattle.lua_operators.specs.LuaStackDeclaredFrameInAssignmentTheVariants as in_assignment
use Rattle.lua_operators.specs.LuaStackDeclaredFrameInLoopTheVariants as in_loop
use Rattle.lua_operators.specs.LuaStackDeclaredFrameInExpressionTheVariants as in_expression
use Rattle.lua_operators.specs.LuaStackDeclaredFrameInStatementTheVariants as in_statement
use Rattle.lua_operators.specs.LuaStackDeclaredFrameEndingTheVariants as ending
use Rattle.lua_turns.specs.declared.waiting.Waiting.{Waiting}
use Rattle.lua_turns.specs.declared.waiting.Waiting.TheVariants as waiting
use Rattle.lua_turns.specs.Rows.{IsNewest}

abbrev pub Waits : List Frame → Waiting → Type 0
Waits fs (waiting.Statements rest) = IsNewest fs (frame.Statement (in_statement.StatsNext rest))
Waits fs (waiting.Declares flags rest) = IsNewest fs (frame.Statement (in_statement.DeclareNow flags rest))
Waits fs waiting.Returns = IsNewest fs (frame.Statement in_statement.ReturnNow)
Waits fs (waiting.Operand op b line) = IsNewest fs (frame.Expression (in_expression.OperandNext op b line))
Waits fs (waiting.Operates op a line) = IsNewest fs (frame.Expression (in_expression.OperateNow op a line))
Waits fs (waiting.Calls f line) = IsNewest fs (frame.Expression (in_expression.CallNow f line))
Waits fs (waiting.Last rest) = (rest.now ≡ []) × IsNewest fs (frame.Expression (in_expression.MoreNext rest []))
Waits fs (waiting.Joins a line) = IsNewest fs (frame.Expression (in_expression.OperateNow operator.Concatenate a line))
Waits fs (waiting.Callee args line) = IsNewest fs (frame.Expression (in_expression.ArgumentsNext args line))
Waits fs (waiting.Object name args line) = IsNewest fs (frame.Expression (in_expression.MethodNext name args line))
Waits fs (waiting.Item rest) = (before : List Value) × IsNewest fs (frame.Expression (in_expression.MoreNext rest before))
Waits fs waiting.First = IsNewest fs (frame.Expression in_expression.First)
Waits fs (waiting.Decides deciding b) = IsNewest fs (frame.Expression (in_expression.DecideNext deciding b))
Waits fs (waiting.Applies op line) = IsNewest fs (frame.Expression (in_expression.UnaryNow op line))
Waits fs (waiting.Key key line) = IsNewest fs (frame.Expression (in_expression.KeyNext key line))
Waits fs (waiting.Indexes of line) = IsNewest fs (frame.Expression (in_expression.IndexNow of line))
Waits fs (waiting.Assigns target) = IsNewest fs (frame.Assignment (in_assignment.AssignNow (target ∷ [])))
Waits fs (waiting.Branches body arms other) = IsNewest fs (frame.Statement (in_statement.BranchNext body arms other))
Waits fs (waiting.Tests test body) = IsNewest fs (frame.Loop (in_loop.WhileTest test body))
Waits fs (waiting.Repeats depth test body) = IsNewest fs (frame.End (ending.WhileEnd depth test body))
Waits fs (waiting.Block depth) = IsNewest fs (frame.End (ending.BlockEnd depth))
Waits fs waiting.Body = IsNewest fs (frame.End ending.BodyEnd)
Waits fs waiting.Library = IsNewest fs (frame.End ending.LibraryEnd)
Waits fs (waiting.Counts c) = IsNewest fs (frame.End (ending.CountEnd c.depth c.boxed c.index c.limit c.step c.body))
Waits fs waiting.Other = Unit {0}

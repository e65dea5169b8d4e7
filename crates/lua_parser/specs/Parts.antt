-- Parts of functions (manual 2.5.9) as the grammar has them: the parameters, and the name. What is answered with an expression in a box.
use Rattle.std.specs.Prelude.{ℕ, List, Result, Ok, Err}
use Rattle.std.specs.declared.alloc.Global.{Global}
use Rattle.std.specs.declared.boxed.Box.{Box}
use Rattle.lua_lexer.specs.declared.token.Token.{Token}
use Rattle.lua_syntax.specs.declared.Expr.{Expr}
use Rattle.lua_syntax.specs.Tree.{Exp}
use Rattle.lua_syntax.specs.View.{expr_view}
use Rattle.lua_reading.specs.LuaGrammarDeclaredContext.{Context}
use Rattle.lua_reading.specs.declared.answer.Fault.{Fault}
use Rattle.lua_reading.specs.declared.answer.Reading.{Reading}
use Rattle.lua_reading.specs.Parsing.{ReadsExp, ReadsFault, exp_lang, goes_on}
use Rattle.lua_reading.specs.Answers.{IfFault, Parameters}
use Rattle.lua_reading.specs.StatAnswers.{Head}
use Rattle.lua_parser.specs.declared.params.ParameterList.{ParameterList}
use Rattle.lua_parser.specs.declared.functions.Named.{Named}

abbrev pub params_view : ParameterList → Parameters
params_view p = (p.names, p.dots)

abbrev pub head_view : Named → Head
head_view n = (expr_view n.path.value, n.method)

-- An expression at the lowest level, in a box.
abbrev pub BoxedAnswer : List Token → Context → ℕ → Result (Reading (Box Expr Global)) Fault → Type 0
BoxedAnswer ts w i (Ok p) = ReadsExp ts w 1 i (expr_view p.tree.value) p.end p.height
BoxedAnswer ts w i (Err f) = IfFault (ReadsFault Exp ts (exp_lang ts w 1) (goes_on 1) w.above i) f

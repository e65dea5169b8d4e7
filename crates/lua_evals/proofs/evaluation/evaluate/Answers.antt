use Rattle.std.proofs.Common.{rules}
use mir.Val.{SFits}
use mir.Syntax.{w64}
use Rattle.std.proofs.lemmas.Int.{to_z-of_z}
use Rattle.lua_code.proofs.Views.{expression-Nil, expression-Truth, expression-Number, expression-Text, expression-Dots, expression-Function, expression-Local, expression-Global, expression-Method, expression-Table}
use Rattle.lua_evals.proofs.evaluation.evaluate.Goals as goal

pub returns-in-Nil : goal.returns-in-Nil
returns-in-Nil c = rw (c.in-Nil.is, expression-Nil) (c.give.ensures c.args.left.now)

pub returns-in-Truth : goal.returns-in-Truth
returns-in-Truth c = rw (c.in-Truth.is, expression-Truth c.in-Truth.truth) (c.give-in-Truth.ensures c.args.left.now)

pub returns-in-Number : goal.returns-in-Number
returns-in-Number c =
    let fits : SFits w64 c.in-Number.number = search rules in
    rw (c.in-Number.is, expression-Number c.in-Number.number) (rw (to_z-of_z w64 c.in-Number.number fits) at (c.give-in-Number.ensures c.args.left.now))

pub returns-in-Text : goal.returns-in-Text
returns-in-Text c = rw (c.in-Text.is, expression-Text c.in-Text.number) (c.text.ensures c.args.left.now)

pub returns-in-Dots : goal.returns-in-Dots
returns-in-Dots c = rw (c.in-Dots.is, expression-Dots) c.dots.ensures

pub returns-in-Function : goal.returns-in-Function
returns-in-Function c = rw (c.in-Function.is, expression-Function c.in-Function.index c.in-Function.places, ← c.as_slice.ensures) c.closure.ensures

pub returns-in-Local : goal.returns-in-Local
returns-in-Local c = rw (c.in-Local.is, expression-Local c.in-Local.place, ← c.variable-value.ensures.value) (c.give-in-Local.ensures c.args.left.now)

pub returns-in-Global : goal.returns-in-Global
returns-in-Global c = rw (c.in-Global.is, expression-Global c.in-Global.name c.in-Global.line) c.global.ensures

pub returns-in-Table : goal.returns-in-Table
returns-in-Table c = rw (c.in-Table.is, expression-Table c.in-Table.entries c.in-Table.line, ← c.as_slice-in-Table.ensures) c.constructor.ensures

pub returns-in-Index : goal.returns-in-Index
returns-in-Index c = c.operands.ensures

pub returns-in-Call : goal.returns-in-Call
returns-in-Call c = c.operands-in-Call.ensures

pub returns-in-Method : goal.returns-in-Method
returns-in-Method c = rw (c.in-Method.is, expression-Method c.in-Method.of c.in-Method.name c.in-Method.arguments c.in-Method.line, ← c.deref.ensures) (c.method_call.ensures c.args.left.now)

pub returns-in-And : goal.returns-in-And
returns-in-And c = c.operands-in-And.ensures

pub returns-in-Or : goal.returns-in-Or
returns-in-Or c = c.operands-in-Or.ensures

pub returns-in-Operate : goal.returns-in-Operate
returns-in-Operate c = c.operands-in-Operate.ensures

pub returns-in-Unary : goal.returns-in-Unary
returns-in-Unary c = c.operands-in-Unary.ensures

pub returns-in-Paren : goal.returns-in-Paren
returns-in-Paren c = c.operands-in-Paren.ensures

use Rattle.std.proofs.Common.{refl}
use Rattle.lua_code.proofs.Views.{expression-Dots, expression-Call, expression-Method, expression-Nil, expression-Truth, expression-Number, expression-Text, expression-Function, expression-Local, expression-Global, expression-Index, expression-Table, expression-And, expression-Or, expression-Operate, expression-Unary, expression-Paren}
use Rattle.lua_flat_code.proofs.assignments.writes_last.Goals as goal

pub returns-in-Dots : goal.returns-in-Dots
returns-in-Dots c = rw (c.in-Dots.is, expression-Dots) refl

pub returns-in-Call : goal.returns-in-Call
returns-in-Call c = rw (c.in-Call.is, expression-Call) refl

pub returns-in-Method : goal.returns-in-Method
returns-in-Method c = rw (c.in-Method.is, expression-Method) refl

pub returns-in-Nil : goal.returns-in-Nil
returns-in-Nil c = rw (c.in-Nil.is, expression-Nil) refl

pub returns-in-Truth : goal.returns-in-Truth
returns-in-Truth c = rw (c.in-Truth.is, expression-Truth) refl

pub returns-in-Number : goal.returns-in-Number
returns-in-Number c = rw (c.in-Number.is, expression-Number) refl

pub returns-in-Text : goal.returns-in-Text
returns-in-Text c = rw (c.in-Text.is, expression-Text) refl

pub returns-in-Function : goal.returns-in-Function
returns-in-Function c = rw (c.in-Function.is, expression-Function) refl

pub returns-in-Local : goal.returns-in-Local
returns-in-Local c = rw (c.in-Local.is, expression-Local) refl

pub returns-in-Global : goal.returns-in-Global
returns-in-Global c = rw (c.in-Global.is, expression-Global) refl

pub returns-in-Index : goal.returns-in-Index
returns-in-Index c = rw (c.in-Index.is, expression-Index) refl

pub returns-in-Table : goal.returns-in-Table
returns-in-Table c = rw (c.in-Table.is, expression-Table) refl

pub returns-in-And : goal.returns-in-And
returns-in-And c = rw (c.in-And.is, expression-And) refl

pub returns-in-Or : goal.returns-in-Or
returns-in-Or c = rw (c.in-Or.is, expression-Or) refl

pub returns-in-Operate : goal.returns-in-Operate
returns-in-Operate c = rw (c.in-Operate.is, expression-Operate) refl

pub returns-in-Unary : goal.returns-in-Unary
returns-in-Unary c = rw (c.in-Unary.is, expression-Unary) refl

pub returns-in-Paren : goal.returns-in-Paren
returns-in-Paren c = rw (c.in-Paren.is, expression-Paren) refl

-- What workers share may be lent to threads: a wiki, from its parts; and what a closure captures, where each part may be. What they give back may
-- go from thread to thread: what is prepared of a page, from its parts.
use Rattle.std.specs.Prelude.{ℕ, List}
use denote.RattleType.{RattleType}
use denote.Param.Send.{IsSend, IsSync, AllSync, recorded_sync, struct_sync, sendable}
use denote.Struct.Declared.{shape}
use denote.Struct.Tuple.{TupleAt, field_at, type_at}
use Rattle.std.proofs.Crossing.{crosses}
use Rattle.lua_code.proofs.expression.Entry.TheLaws.TheKnot as expressions
use Rattle.lua_code.proofs.statement.Statement.TheLaws.TheKnot as statements
use Rattle.lua_code.specs.contracts.expression.Expression as Expression
use Rattle.lua_code.specs.contracts.statement.Target as Target
use Rattle.lua_code.specs.contracts.statement.Statement as Statement
use Rattle.lua_code.specs.contracts.proto.Proto as Proto
use Rattle.lua_code.specs.contracts.proto.Protos as Protos
use Rattle.lua_code.specs.contracts.modules.Module as Module
use Rattle.lua_code.specs.contracts.modules.Modules as Modules
use Rattle.wiki_texts.proofs.WikiPagesCrossing.{PageMap-sync}
use Rattle.wiki_texts.specs.contracts.prepared.Prepared as Prepared
use Rattle.page_driver.specs.contracts.wiki.Wiki as Wiki

-- ---- code, whose expressions and statements reach themselves through boxes and lists

pub Expression-field : IsSync (Expression.the_field).row
Expression-field = search (crosses, expressions.crosses, sendable) depth 60 fits 20000

pub Expression-sync : IsSync Expression.the_row
Expression-sync = let f = Expression-field in search sendable

pub Target-field : IsSync (Target.the_field).row
Target-field = let e = Expression-field in let r = Expression-sync in search (crosses, sendable) depth 60 fits 20000

pub Target-sync : IsSync Target.the_row
Target-sync = let f = Target-field in search sendable

pub Statement-field : IsSync (Statement.the_field).row
Statement-field = let e = Expression-field in let r = Expression-sync in let t = Target-field in let u = Target-sync in search (crosses, statements.crosses, sendable) depth 60 fits 20000

pub Statement-sync : IsSync Statement.the_row
Statement-sync = let f = Statement-field in search sendable

pub Proto-field : IsSync (Proto.the_field).row
Proto-field = let e = Statement-field in let r = Statement-sync in search (crosses, sendable) depth 60 fits 20000

pub Proto-sync : IsSync Proto.the_row
Proto-sync = let f = Proto-field in search sendable

pub Protos-field : IsSync (Protos.the_field).row
Protos-field = let e = Proto-field in let r = Proto-sync in search (crosses, sendable) depth 60 fits 20000

pub Protos-sync : IsSync Protos.the_row
Protos-sync = let f = Protos-field in search sendable

pub Module-field : IsSync (Module.the_field).row
Module-field = let e = Protos-field in let r = Protos-sync in search (crosses, sendable) depth 60 fits 20000

pub Module-sync : IsSync Module.the_row
Module-sync = let f = Module-field in search sendable

pub Modules-sync : IsSync Modules.the_row
Modules-sync = let e = Module-field in let r = Module-sync in search (crosses, sendable) depth 60 fits 20000

-- ---- a wiki

pub Wiki-sync : IsSync Wiki.the_row
Wiki-sync = let p = PageMap-sync in let m = Modules-sync in search sendable depth 60 fits 20000

-- ---- a closure, by what it captures

pub captured-sync : (name : List ℕ) (parts : List RattleType) → AllSync (shape (type_at name parts)).fields → IsSync (TupleAt name parts)
captured-sync name parts each = recorded_sync (field_at name parts).row _ _ (type_at name parts).to_one (struct_sync (shape (type_at name parts)) each)

-- ---- what is given back

pub Expression-field-send : IsSend (Expression.the_field).row
Expression-field-send = search (crosses, expressions.crosses, sendable) depth 60 fits 20000

pub Expression-send : IsSend Expression.the_row
Expression-send = let f = Expression-field-send in search sendable

pub Target-field-send : IsSend (Target.the_field).row
Target-field-send = let e = Expression-field-send in let r = Expression-send in search (crosses, sendable) depth 60 fits 20000

pub Target-send : IsSend Target.the_row
Target-send = let f = Target-field-send in search sendable

pub Statement-field-send : IsSend (Statement.the_field).row
Statement-field-send = let e = Expression-field-send in let r = Expression-send in let t = Target-field-send in let u = Target-send in search (crosses, statements.crosses, sendable) depth 60 fits 20000

pub Statement-send : IsSend Statement.the_row
Statement-send = let f = Statement-field-send in search sendable

pub Proto-field-send : IsSend (Proto.the_field).row
Proto-field-send = let e = Statement-field-send in let r = Statement-send in search (crosses, sendable) depth 60 fits 20000

pub Proto-send : IsSend Proto.the_row
Proto-send = let f = Proto-field-send in search sendable

pub Protos-field-send : IsSend (Protos.the_field).row
Protos-field-send = let e = Proto-field-send in let r = Proto-send in search (crosses, sendable) depth 60 fits 20000

pub Protos-send : IsSend Protos.the_row
Protos-send = let f = Protos-field-send in search sendable

pub Prepared-field-send : IsSend (Prepared.the_field).row
Prepared-field-send = let e = Protos-field-send in let r = Protos-send in search (crosses, sendable) depth 60 fits 20000

pub Prepared-send : IsSend Prepared.the_row
Prepared-send = let f = Prepared-field-send in search sendable

use Rattle.std.proofs.lemmas.Result.{IfOk-weaker}
use Rattle.lua_rows.specs.LuaStridesNext.{focus_of}
use Rattle.lua_machine.proofs.Loops.{row_behind}
use Rattle.lua_machine.proofs.going.go_behind.Goals as goal

pub row-requires-clause-state : goal.row-requires-clause-state
row-requires-clause-state g c = (rw (rw c.in-Some.is at c.given.ensures) at c.requires).0

pub row-requires-clause-first : goal.row-requires-clause-first
row-requires-clause-first g c = (rw (rw c.in-Some.is at c.given.ensures) at c.requires).1

pub returns-in-Some : goal.returns-in-Some
returns-in-Some g c = λ s m f l k goes.
    IfOk-weaker c.turn_for.result _ _ (λ r is. row_behind s m f l k c.args.store.now c.args.state.now c.args.left.now c.args.turns.now (focus_of c.in-Some.next) c.row.new.store c.row.new.state c.row.new.left c.row.new.turns c.in_ok-went-in-Some.went r
    (rw (rw c.in-Some.is at c.given.ensures) at goes) c.in_ok-went-in-Some.ensures is) c.turn_for.ensures

pub returns : goal.returns
returns g c = λ s m f l k goes. goes

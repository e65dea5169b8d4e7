use Rattle.lua_machine.proofs.Loops.{is_on}
use Rattle.lua_machine.proofs.going.go_once.Goals as goal

pub go_behind-requires : goal.go_behind-requires
go_behind-requires g c =
    is_on c.args.store.now c.args.state.now c.args.next c.args.left.now c.args.turns.now c.call_or_move.new.store c.end_call.new.state c.end_call.new.left c.call_or_move.new.turns c.in_ok-ended.ended
    (c.in_ok-ended.ensures c.args.store.now c.args.state.now c.args.next c.args.left.now c.args.turns.now c.call_or_move.new.store c.call_or_move.new.turns c.in_ok-turned.ensures)

pub returns : goal.returns
returns g c =
    c.go_behind.ensures c.args.store.now c.args.state.now c.args.next c.args.left.now c.args.turns.now
    (c.in_ok-ended.ensures c.args.store.now c.args.state.now c.args.next c.args.left.now c.args.turns.now c.call_or_move.new.store c.call_or_move.new.turns c.in_ok-turned.ensures)

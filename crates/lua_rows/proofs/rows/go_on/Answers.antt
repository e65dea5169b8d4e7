use Rattle.lua_turns.specs.LuaStridesNext.{focus_of}
use Rattle.lua_turns.specs.LuaStackSeen.{focus_seen}
use Rattle.lua_turns.specs.LuaStateSeen.{frames_of}
use Rattle.lua_rows.proofs.Turning.{goes_behind}
use Rattle.lua_rows.proofs.rows.go_on.Goals as goal

pub row-requires-clause-state : goal.row-requires-clause-state
row-requires-clause-state g c = (rw (c.in-Some-On.is, c.in-Some-On.field-0-is) at c.in_ok-begun.ensures).state

pub row-requires-clause-first : goal.row-requires-clause-first
row-requires-clause-first g c = (rw (c.in-Some-On.is, c.in-Some-On.field-0-is) at c.in_ok-begun.ensures).of

pub returns-in_ok-last-in-Some-On : goal.returns-in_ok-last-in-Some-On
returns-in_ok-last-in-Some-On g c =
    goes_behind c.args.store.now c.args.state.now (focus_seen c.args.store.now c.args.next.now (frames_of c.args.store.now c.args.state.now)) c.args.left.now c.args.turns.now c.begin.new.store c.begin.new.state c.begin.new.left c.begin.new.turns (focus_of c.in-Some-On.first)
    c.row.new.store c.row.new.state c.row.new.left c.row.new.turns c.in_ok-last-in-Some-On.last (rw (c.in-Some-On.is, c.in-Some-On.field-0-is) at c.in_ok-begun.ensures) c.in_ok-last-in-Some-On.ensures

pub returns-in-Some-Turned : goal.returns-in-Some-Turned
returns-in-Some-Turned g c = rw (c.in-Some-Turned.is, c.in-Some-Turned.field-0-is) at c.in_ok-begun.ensures

pub returns-in-None : goal.returns-in-None
returns-in-None g c = rw c.in-None.is at c.in_ok-begun.ensures

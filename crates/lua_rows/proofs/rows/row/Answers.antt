use Rattle.lua_turns.specs.LuaStridesNext.{focus_of}
use Rattle.lua_turns.specs.LuaStackSeen.{focus_seen}
use Rattle.lua_turns.specs.LuaStateSeen.{frames_of}
use Rattle.lua_turns.proofs.Following.{follows_none, follows_then, follows_idle, strides_follow}
use Rattle.lua_rows.proofs.Turning.{turns_behind}
use Rattle.lua_turns.specs.LuaStridesStrides.{Idles}
use Rattle.lua_turns.proofs.LuaStridesPaths.{idle_here}
use Rattle.lua_rows.proofs.rows.row.Goals.{then-may_call+in_ok-called+in-None, else-may_call}
use Rattle.lua_rows.proofs.rows.row.Goals as goal

pub row-init : goal.row-init
row-init g c = follows_none c.args.store.now c.args.state.now (focus_of c.args.first) c.args.left.now c.args.turns.now c.requires.state c.requires.first

pub call-requires : goal.call-requires
call-requires g c = c.row.invariant.state

pub row-preserved-in-Some-On : goal.row-preserved-in-Some-On
row-preserved-in-Some-On g c =
    follows_then c.args.store.now c.args.state.now (focus_seen c.args.store.now (focus_of c.args.first) (frames_of c.args.store.now c.args.state.now)) c.args.left.now c.args.turns.now c.row.store c.row.state c.row.left c.row.turns (focus_of c.row.next)
    c.call.new.store c.call.new.state c.call.new.left c.call.new.turns (focus_of c.in-Some-On.after) c.row.invariant
    (strides_follow c.row.store c.row.state (focus_seen c.row.store (focus_of c.row.next) (frames_of c.row.store c.row.state)) c.row.left c.row.turns c.call.new.store c.call.new.state c.call.new.left c.call.new.turns (focus_of c.in-Some-On.after)
    (rw (c.in-Some-On.is, c.in-Some-On.field-0-is) at c.in_ok-called.ensures))

pub returns-in-Some-Turned : goal.returns-in-Some-Turned
returns-in-Some-Turned g c =
    turns_behind c.args.store.now c.args.state.now (focus_seen c.args.store.now (focus_of c.args.first) (frames_of c.args.store.now c.args.state.now)) c.args.left.now c.args.turns.now c.row.store c.row.state c.row.left c.row.turns (focus_of c.row.next)
    c.row.invariant c.call.new.store c.call.new.state c.call.new.left c.call.new.turns c.in-Some-Turned.turn.value (rw (c.in-Some-Turned.is, c.in-Some-Turned.field-0-is) at c.in_ok-called.ensures)

pub follow-requires-clause-state : goal.follow-requires-clause-state
follow-requires-clause-state g c =
    let idle : Idles c.row.store c.row.state c.row.left c.row.turns c.if-may_call.store c.if-may_call.state c.if-may_call.left c.if-may_call.turns =
    elim c.if-may_call.branch [
      | then-may_call+in_ok-called+in-None w ↦ rw (w.store-is, w.state-is, w.left-is, w.turns-is) (rw w.in-None.is at w.in_ok-called.ensures)
      | else-may_call w ↦ rw (w.store-is, w.state-is, w.left-is, w.turns-is) (idle_here c.row.store c.row.state c.row.left c.row.turns)
    ] in
    rw (idle.store, idle.state) c.row.invariant.state

pub follow-requires-clause-next : goal.follow-requires-clause-next
follow-requires-clause-next g c =
    let idle : Idles c.row.store c.row.state c.row.left c.row.turns c.if-may_call.store c.if-may_call.state c.if-may_call.left c.if-may_call.turns =
    elim c.if-may_call.branch [
      | then-may_call+in_ok-called+in-None w ↦ rw (w.store-is, w.state-is, w.left-is, w.turns-is) (rw w.in-None.is at w.in_ok-called.ensures)
      | else-may_call w ↦ rw (w.store-is, w.state-is, w.left-is, w.turns-is) (idle_here c.row.store c.row.state c.row.left c.row.turns)
    ] in
    rw idle.store c.row.invariant.of

pub row-preserved : goal.row-preserved
row-preserved g c =
    let idle : Idles c.row.store c.row.state c.row.left c.row.turns c.if-may_call.store c.if-may_call.state c.if-may_call.left c.if-may_call.turns =
    elim c.if-may_call.branch [
      | then-may_call+in_ok-called+in-None w ↦ rw (w.store-is, w.state-is, w.left-is, w.turns-is) (rw w.in-None.is at w.in_ok-called.ensures)
      | else-may_call w ↦ rw (w.store-is, w.state-is, w.left-is, w.turns-is) (idle_here c.row.store c.row.state c.row.left c.row.turns)
    ] in
    follows_then c.args.store.now c.args.state.now (focus_seen c.args.store.now (focus_of c.args.first) (frames_of c.args.store.now c.args.state.now)) c.args.left.now c.args.turns.now c.row.store c.row.state c.row.left c.row.turns (focus_of c.row.next)
    c.follow.new.store c.follow.new.state c.follow.new.left c.follow.new.turns (focus_of c.in-Some.after) c.row.invariant (rw (idle.store, idle.state, idle.left, idle.counter) at (rw c.in-Some.is at c.in_ok-followed.ensures))

pub returns-in-None-followed : goal.returns-in-None-followed
returns-in-None-followed g c =
    let idle : Idles c.row.store c.row.state c.row.left c.row.turns c.if-may_call.store c.if-may_call.state c.if-may_call.left c.if-may_call.turns =
    elim c.if-may_call.branch [
      | then-may_call+in_ok-called+in-None w ↦ rw (w.store-is, w.state-is, w.left-is, w.turns-is) (rw w.in-None.is at w.in_ok-called.ensures)
      | else-may_call w ↦ rw (w.store-is, w.state-is, w.left-is, w.turns-is) (idle_here c.row.store c.row.state c.row.left c.row.turns)
    ] in
    follows_idle c.args.store.now c.args.state.now (focus_seen c.args.store.now (focus_of c.args.first) (frames_of c.args.store.now c.args.state.now)) c.args.left.now c.args.turns.now c.row.store c.row.state c.row.left c.row.turns (focus_of c.row.next)
    c.follow.new.store c.follow.new.state c.follow.new.left c.follow.new.turns c.row.invariant (rw (idle.store, idle.state, idle.left, idle.counter) at (rw c.in-None-followed.is at c.in_ok-followed.ensures))

pub returns : goal.returns
returns g c = c.row.invariant

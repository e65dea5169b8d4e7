use Rattle.std.proofs.Common.{refl, ◌∙◌, arith}
use Rattle.lua_home_laws.proofs.LuaPointsClauses.{clauses_of_go}
use Rattle.lua_blocks.specs.LuaStateSeen.{slots_of}
use Rattle.lua_runs.specs.LuaStateWorlds.{world_seen}
use Rattle.lua_machine.specs.Moved.{point_of}
use Rattle.lua_machine.specs.Events.{stop_seen, funds_after}
use Rattle.lua_machine.proofs.Events.{comes, paid_for, takes_its_own, calls_back, settled_of, settled_world, calls_at}
use Rattle.lua_machine.proofs.machine.proceed.Goals as goal

pub settle-requires : goal.settle-requires
settle-requires g c = let k = calls_at c.args.store.now (record c.args.state.now { height = 0 }) c.args.focus c.args.left.now c.args.turns.now c.advance.new.store c.advance.new.state c.advance.new.left c.advance.new.turns c.in_ok-event.event refl c.in_ok-event.ensures in omega (arith, k, c.requires.calls)

pub returns-clause-of : goal.returns-clause-of
returns-clause-of g c = (settled_of c.advance.new.store c.in_ok-event.event c.advance.new.left c.settle.new.left c.advance.new.state c.settle.new.state c.in_ok-event.ensures.state c.settle.ensures, c.in_ok-event.ensures.of)

pub returns-clause-world : goal.returns-clause-world
returns-clause-world g c = settled_world c.in_ok-event.event c.advance.new.left c.settle.new.left c.advance.new.state c.settle.new.state c.settle.ensures ∙ c.in_ok-event.ensures.world

pub returns-clause-goes : goal.returns-clause-goes
returns-clause-goes g c = λ n e can.
    clauses_of_go (world_seen c.args.state.now.codes.world) (point_of c.args.store.now c.args.state.now c.args.focus) (slots_of c.args.store.now c.args.state.now) c.args.left.now c.args.state.now.calls
    (stop_seen c.advance.new.store c.settle.new.state c.in_ok-event.event (funds_after c.settle.new.left c.settle.new.state n)) can
    (comes c.args.store.now (record c.args.state.now { height = 0 }) c.args.focus c.args.left.now c.args.turns.now c.advance.new.store c.advance.new.state c.advance.new.left c.advance.new.turns c.in_ok-event.event c.settle.new.left c.settle.new.state n refl c.in_ok-event.ensures c.settle.ensures e)

pub returns-clause-counts : goal.returns-clause-counts
returns-clause-counts g c = paid_for c.args.store.now (record c.args.state.now { height = 0 }) c.args.focus c.args.left.now c.args.turns.now c.advance.new.store c.advance.new.state c.advance.new.left c.advance.new.turns c.in_ok-event.event c.settle.new.left c.settle.new.state refl c.in_ok-event.ensures c.settle.ensures

pub returns-clause-back : goal.returns-clause-back
returns-clause-back g c = calls_back c.args.store.now (record c.args.state.now { height = 0 }) c.args.focus c.args.left.now c.args.turns.now c.advance.new.store c.advance.new.state c.advance.new.left c.advance.new.turns c.in_ok-event.event c.settle.new.left c.settle.new.state refl c.in_ok-event.ensures c.settle.ensures

pub returns-clause-takes : goal.returns-clause-takes
returns-clause-takes g c = takes_its_own c.args.store.now (record c.args.state.now { height = 0 }) c.args.focus c.args.left.now c.args.turns.now c.advance.new.store c.advance.new.state c.advance.new.left c.advance.new.turns c.in_ok-event.event c.settle.new.left c.settle.new.state refl c.in_ok-event.ensures c.settle.ensures

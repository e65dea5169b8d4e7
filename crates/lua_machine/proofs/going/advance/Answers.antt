use Rattle.std.proofs.Common.{refl, sym, ◌∙◌, arith}
use Rattle.lua_machine.proofs.Loops.{at_start, leads_then, then_spent, calls_kept, event_ends, needs_no_frame}
use Rattle.lua_machine.proofs.going.advance.Goals as goal

pub steps-init : goal.steps-init
steps-init g c = at_start c.args.store.now c.args.state.now c.args.focus c.args.left.now c.args.turns.now c.requires.state c.requires.focus

pub moves-init : goal.moves-init
moves-init g c = (refl, c.steps.invariant)

pub event_at-requires : goal.event_at-requires
event_at-requires g c = needs_no_frame c.moves.state.frames c.moves.next (sym c.stands.ensures ∙ c.if-stands.true)

pub returns-then-stands : goal.returns-then-stands
returns-then-stands g c = event_ends c.args.store.now c.args.state.now c.args.focus c.args.left.now c.args.turns.now c.moves.store c.moves.state c.moves.left c.moves.turns c.moves.next c.event_at.result (sym c.stands.ensures ∙ c.if-stands.true) c.event_at.ensures c.moves.invariant.1

pub go_on-requires-clause-calls : goal.go_on-requires-clause-calls
go_on-requires-clause-calls g c =
    let k = calls_kept c.args.store.now c.args.state.now c.args.focus c.args.left.now c.args.turns.now c.moves.store c.moves.state c.moves.left c.moves.turns c.moves.next c.moves.invariant.1 in
    omega (arith, k, c.requires.calls)

pub go_on-requires-clause-moving : goal.go_on-requires-clause-moving
go_on-requires-clause-moving g c = sym c.stands.ensures ∙ c.if-stands.false

pub steps-smaller : goal.steps-smaller
steps-smaller g c = omega (arith, c.if-left-before.true)

pub steps-preserved : goal.steps-preserved
steps-preserved g c = leads_then c.args.store.now c.args.state.now c.args.focus c.args.left.now c.args.turns.now c.moves.store c.moves.state c.moves.left c.moves.turns c.moves.next c.moves.invariant.1 c.go_on.new.store c.go_on.new.state c.go_on.new.left c.go_on.new.turns c.in-On.after (rw c.in-On.is at c.in_ok-turned.ensures).0

pub moves-smaller : goal.moves-smaller
moves-smaller g c =
    let k = rw c.in-On.is at c.in_ok-turned.ensures in
    k.2 (omega (arith, k.1, c.if-left-before.false, c.moves.invariant.0))

pub moves-preserved : goal.moves-preserved
moves-preserved g c =
    let k = rw c.in-On.is at c.in_ok-turned.ensures in
    (omega (arith, k.1, c.if-left-before.false, c.moves.invariant.0), leads_then c.args.store.now c.args.state.now c.args.focus c.args.left.now c.args.turns.now c.moves.store c.moves.state c.moves.left c.moves.turns c.moves.next c.moves.invariant.1 c.go_on.new.store c.go_on.new.state c.go_on.new.left c.go_on.new.turns c.in-On.after k.0)

pub returns-in-Spent : goal.returns-in-Spent
returns-in-Spent g c = then_spent c.args.store.now c.args.state.now c.args.focus c.args.left.now c.args.turns.now c.moves.store c.moves.state c.moves.left c.moves.turns c.moves.next c.moves.invariant.1 c.go_on.new.store c.go_on.new.state c.go_on.new.left c.go_on.new.turns c.in-Spent.which (rw c.in-Spent.is at c.in_ok-turned.ensures)

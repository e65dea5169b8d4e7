use Rattle.lua_stack.proofs.Openings.{first_of, opens_next}
use Rattle.lua_stack.proofs.opening.open_all.Goals as goal

pub open-requires-clause-value : goal.open-requires-clause-value
open-requires-clause-value c = first_of c.flags.store c.flags.values c.take_first-value.result c.take_first-value.ensures.first c.flags.invariant.values

pub flags-preserved : goal.flags-preserved
flags-preserved c =
    opens_next c.args.store.now c.flags.store c.open.new.store c.args.regs.now c.flags.regs c.open.new.regs c.args.flags.now c.flags.left.now c.in-Some.next.rest.now c.args.values.now c.flags.values c.take_first-value.new.self
    c.in-Some.next.boxed c.take_first-value.result c.flags.invariant c.in-Some.ensures c.take_first-value.ensures.first c.take_first-value.ensures.rest c.in_ok-open.ensures.of c.open.ensures.later c.open.ensures.texts c.in_ok-open.ensures.opened

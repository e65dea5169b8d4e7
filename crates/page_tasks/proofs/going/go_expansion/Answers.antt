use Rattle.page_tasks.specs.Calls.{ExpandsTo}
use Rattle.page_tasks.proofs.Expanding.{expansion_halts, expansion_goes, expansion_falls}
use Rattle.page_tasks.proofs.going.go_expansion.Goals as goal

pub run_expansion-requires-clause-can : goal.run_expansion-requires-clause-can
run_expansion-requires-clause-can c = c.requires.can

pub run_expansion-requires-clause-depth : goal.run_expansion-requires-clause-depth
run_expansion-requires-clause-depth c = c.requires.back.depth

pub run_expansion-requires-clause-templates : goal.run_expansion-requires-clause-templates
run_expansion-requires-clause-templates c = c.requires.back.templates

pub returns-in-Ok-clause-halts : goal.returns-in-Ok-clause-halts
returns-in-Ok-clause-halts c = λ s k.
    let r : ExpandsTo c.args.expander c.args.left.now c.run_expansion.new.expander c.run_expansion.new.left c.in-Ok.halt = rw c.in-Ok.is at c.run_expansion.ensures in
    rw r.halts (expansion_halts c.args.expander c.args.left.now r.next c.run_expansion.new.expander c.run_expansion.new.left r.goes s k)

pub returns-in-Ok-clause-goes : goal.returns-in-Ok-clause-goes
returns-in-Ok-clause-goes c = λ s k k' n e.
    let r : ExpandsTo c.args.expander c.args.left.now c.run_expansion.new.expander c.run_expansion.new.left c.in-Ok.halt = rw c.in-Ok.is at c.run_expansion.ensures in
    rw r.halts (expansion_goes c.args.expander c.args.left.now r.next c.run_expansion.new.expander c.run_expansion.new.left r.goes s n)

pub returns-in-Ok-clause-falls : goal.returns-in-Ok-clause-falls
returns-in-Ok-clause-falls c =
    let r : ExpandsTo c.args.expander c.args.left.now c.run_expansion.new.expander c.run_expansion.new.left c.in-Ok.halt = rw c.in-Ok.is at c.run_expansion.ensures in
    rw r.halts (expansion_falls c.args.expander c.args.left.now r.next c.run_expansion.new.expander c.run_expansion.new.left r.goes)

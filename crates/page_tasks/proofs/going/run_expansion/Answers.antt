use Rattle.std.proofs.Common.{◌≡◌}
use Rattle.page_tasks.specs.Calls.{ExpandsTo}
use Rattle.page_tasks.specs.Going.{halt_of}
use Rattle.page_tasks.proofs.Passing.{if_ok}
use Rattle.page_tasks.proofs.going.run_expansion.Goals as goal

pub go_expander-requires-clause-can : goal.go_expander-requires-clause-can
go_expander-requires-clause-can c = c.requires.can

pub go_expander-requires-clause-depth : goal.go_expander-requires-clause-depth
go_expander-requires-clause-depth c = c.requires.depth

pub go_expander-requires-clause-templates : goal.go_expander-requires-clause-templates
go_expander-requires-clause-templates c = c.requires.templates

pub returns : goal.returns
returns c =
    if_ok (λ h. h ≡ halt_of c.in_ok-next.next) (λ h. ExpandsTo c.args.expander.now c.args.left.now c.go_expander.new.expander c.go_expander.new.left h) c.move_halt.result
    (λ h is. record { next = c.in_ok-next.next; goes = c.in_ok-next.ensures; halts = is }) c.move_halt.ensures

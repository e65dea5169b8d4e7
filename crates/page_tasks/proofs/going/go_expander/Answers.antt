use Rattle.page_tasks.proofs.Expanding.{by_going}
use Rattle.page_tasks.proofs.going.go_expander.Goals as goal

pub go-requires-clause-ready : goal.go-requires-clause-ready
go-requires-clause-ready c = rw c.get_mut.ensures.value c.requires.can

pub go-requires-clause-depth : goal.go-requires-clause-depth
go-requires-clause-depth c = rw c.get_mut.ensures.value c.requires.depth

pub go-requires-clause-templates : goal.go-requires-clause-templates
go-requires-clause-templates c = rw c.get_mut.ensures.value c.requires.templates

pub returns : goal.returns
returns c =
    let e = c.go.ensures in
    rw (← c.get_mut.ensures.value) (by_going c.get_mut.result.now c.args.left.now c.go.new.self c.go.new.left c.get_mut.result.now.wiki.pages.now c.go.result e.goes e.asks e.setting e.depth e.templates e.after e.used e.falls)

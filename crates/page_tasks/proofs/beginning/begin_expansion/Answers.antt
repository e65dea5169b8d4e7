use Rattle.page_ground.specs.Ground.{ground_of}
use Rattle.page_tasks.proofs.Beginnings.{source_begins}
use Rattle.page_tasks.proofs.beginning.begin_expansion.Goals as goal

pub start-started-requires-clause-names : goal.start-started-requires-clause-names
start-started-requires-clause-names c = c.requires.names

pub start-started-requires-clause-held : goal.start-started-requires-clause-held
start-started-requires-clause-held c = c.requires.held

pub returns : goal.returns
returns c =
    let e = c.start-started.ensures in
    source_begins (ground_of c.args.around.now) c.args.source c.args.scene c.start-started.result c.in_ok-expander.expander c.in_ok-expander.ensures e.at e.setting e.ready e.rests

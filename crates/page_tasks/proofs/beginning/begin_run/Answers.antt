use Rattle.page_ground.specs.Ground.{ground_of}
use Rattle.page_tasks.proofs.Starts.{made_begins}
use Rattle.page_tasks.proofs.beginning.begin_run.Goals as goal

pub returns : goal.returns
returns c =
    let m = c.start-started.ensures in
    made_begins (ground_of c.args.around.now) c.args.work c.args.store.now c.start-started.new.store c.start-started.result c.of.result c.of.ensures m.of m.world m.next m.starts m.idle m.frame m.later

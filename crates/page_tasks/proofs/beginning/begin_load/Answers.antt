use Rattle.std.proofs.Common.{refl}
use Rattle.page_ground.specs.Ground.{ground_of}
use Rattle.page_tasks.proofs.Starts.{load_begins}
use Rattle.page_tasks.proofs.beginning.begin_load.Goals as goal

pub returns : goal.returns
returns c = load_begins (ground_of c.args.around.now) c.args.title c.args.steps c.args.store.now c.begin_run.new.store (record { title = c.in_ok-module.module; steps = c.args.steps }) c.in_ok-machine.machine c.requires c.in_ok-module.ensures refl c.in_ok-machine.ensures

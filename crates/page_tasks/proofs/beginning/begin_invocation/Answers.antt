use Rattle.page_ground.specs.Ground.{ground_of}
use Rattle.page_tasks.proofs.Starts.{invocation_begins}
use Rattle.page_tasks.proofs.beginning.begin_invocation.Goals as goal

pub returns-clause-begins : goal.returns-clause-begins
returns-clause-begins c = invocation_begins (ground_of c.args.around.now) c.args.job c.args.store.now c.begin_run.new.store c.in_ok-machine.machine c.in_ok-machine.ensures

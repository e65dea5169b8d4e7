use Rattle.page_meaning.proofs.TaskLaws.{tasks_tell_loads}
use Rattle.page_meaning.proofs.tasks.tasks_tell_loads.Goals as goal

-- src/tasks.rt
pub returns : goal.returns
returns c = tasks_tell_loads

use Rattle.page_meaning.proofs.TaskLaws.{tasks_go_on}
use Rattle.page_meaning.proofs.tasks.tasks_go_on.Goals as goal

-- src/tasks.rt
pub returns : goal.returns
returns c = tasks_go_on

use Rattle.page_meaning.proofs.TaskLaws.{pages_are_tasks}
use Rattle.page_meaning.proofs.tasks.pages_are_tasks.Goals as goal

-- src/tasks.rt
pub returns : goal.returns
returns c = pages_are_tasks

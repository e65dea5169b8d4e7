use Rattle.std.proofs.Common.{◌≡◌, ◌∷◌, ap, List}
use Rattle.page_tasks.proofs.Passing.{if_ok}
use Rattle.page_tasks.specs.declared.task.Task.{Task}
use Rattle.page_driver.specs.declared.tower.Tower.{Tower}
use Rattle.page_driver.proofs.stacking.push_task.Goals as goal

pub returns : goal.returns
returns c =
    let with_stack : List Task → Tower = λ ts. record c.args.tower.now { stack = ts } in
    if_ok (λ u. c.push.new.self ≡ c.args.task ∷ c.args.tower.now.stack) (λ u. with_stack c.push.new.self ≡ with_stack (c.args.task ∷ c.args.tower.now.stack)) c.push.result (λ u e. ap with_stack e) c.push.ensures.ok

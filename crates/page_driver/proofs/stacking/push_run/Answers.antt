use Rattle.std.proofs.Common.{◌≡◌, ap, ◌∙◌}
use Rattle.page_tasks.specs.LuaStoreSeen.{StoreView}
use Rattle.page_tasks.specs.PageGroundDeclaredNumbersNumbers.{Numbers}
use Rattle.page_tasks.specs.PageGroundNumbered.{after_start}
use Rattle.page_tasks.proofs.Passing.{if_ok}
use Rattle.page_driver.specs.declared.tower.Tower.{Tower}
use Rattle.page_driver.specs.Moving.{tower_with}
use Rattle.page_driver.proofs.stacking.push_run.Goals as goal

pub returns-clause-tower : goal.returns-clause-tower
returns-clause-tower c =
    let with_numbers : Numbers → Tower = λ ns. record c.push_task.new.tower { numbers = ns } in
    let after : Tower → Tower = λ x. record x { numbers = after_start x.numbers } in
    if_ok (λ u. c.start.new.self ≡ after_start c.push_task.new.tower.numbers) (λ u. with_numbers c.start.new.self ≡ after (tower_with c.args.task c.args.tower.now)) c.start.result (λ u e. ap with_numbers e ∙ ap after c.in_ok-push_task.ensures) c.start.ensures.numbers

pub returns-clause-store : goal.returns-clause-store
returns-clause-store c =
    let with_env : Tower → StoreView = λ x. record c.args.store.now { env = x.numbers.started } in
    if_ok (λ u. c.start.new.store ≡ with_env c.push_task.new.tower) (λ u. c.start.new.store ≡ with_env c.args.tower.now) c.start.result (λ u e. e ∙ ap with_env c.in_ok-push_task.ensures) c.start.ensures.store

use Rattle.page_driver.specs.declared.tower.Next.TheVariants.{On}
use Rattle.page_tasks.specs.PageGroundGround.{ground_of}
use Rattle.page_driver.specs.Driven.{StartsOn}
use Rattle.page_driver.specs.Moving.{steps_at}
use Rattle.page_driver.proofs.driving.drive.Given as goal

-- moves have led here
abbrev pub invariant-questions : goal.invariant-questions
invariant-questions g l = StartsOn (ground_of l.around) l.fn.store l.fn.left l.fn.turns l.fn.tower l.fn.task l.store l.left l.turns l.tower (On l.halted)

abbrev pub decreases-questions : goal.decreases-questions
decreases-questions g l = steps_at l.left l.halted.halt

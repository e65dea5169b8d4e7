use Rattle.std.proofs.Common.{◌≤◌}
use Rattle.page_driver.specs.declared.tower.Next.TheVariants.{On}
use Rattle.page_tasks.specs.PageGroundGround.{ground_of}
use Rattle.page_driver.specs.Driven.{MovesOn}
use Rattle.page_driver.specs.Moving.{steps_at, weight_of}
use Rattle.page_driver.proofs.driving.move_to_question.Given as goal

-- moves have led here, and took no step
abbrev pub invariant-moves : goal.invariant-moves
invariant-moves g l = MovesOn (ground_of l.around) l.fn.store l.fn.left l.fn.turns l.fn.tower l.fn.halted l.store l.left l.turns l.tower (On l.now) × (steps_at l.left l.now.halt ≤ steps_at l.fn.left l.fn.halted.halt)

abbrev pub decreases-moves : goal.decreases-moves
decreases-moves g l = weight_of l.left l.tower l.now

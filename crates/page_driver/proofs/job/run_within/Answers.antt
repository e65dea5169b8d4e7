use Rattle.std.proofs.Common.{◌∙◌}
use Rattle.page_tasks.specs.PageGroundGround.{ground_of}
use Rattle.page_driver.specs.Page.{full_of}
use Rattle.page_driver.proofs.Whole.{job_ends, job_rises, job_paid}
use Rattle.page_driver.proofs.job.run_within.Goals as goal

pub come_to_end-came-requires-clause-fresh : goal.come_to_end-came-requires-clause-fresh
come_to_end-came-requires-clause-fresh g c = c.requires.fresh

pub come_to_end-came-requires-clause-names : goal.come_to_end-came-requires-clause-names
come_to_end-came-requires-clause-names g c = c.requires.names

pub come_to_end-came-requires-clause-stack : goal.come_to_end-came-requires-clause-stack
come_to_end-came-requires-clause-stack g c = c.empty_tower-tower.ensures.stack

pub come_to_end-came-requires-clause-keep : goal.come_to_end-came-requires-clause-keep
come_to_end-came-requires-clause-keep g c = c.empty_tower-tower.ensures.keep

pub come_to_end-came-requires-clause-charges : goal.come_to_end-came-requires-clause-charges
come_to_end-came-requires-clause-charges g c = c.empty_tower-tower.ensures.repeat_charges

pub come_to_end-came-requires-clause-numbers : goal.come_to_end-came-requires-clause-numbers
come_to_end-came-requires-clause-numbers g c = c.empty_tower-tower.ensures.numbers ∙ c.new-numbers.ensures

pub come_to_end-came-requires-clause-fits : goal.come_to_end-came-requires-clause-fits
come_to_end-came-requires-clause-fits g c = c.full_left-left.ensures.fits

pub returns-clause-ends : goal.returns-clause-ends
returns-clause-ends g c = job_ends (ground_of c.args.around.now) c.args.job c.full_left-left.result c.args.turns.now c.come_to_end-came.new.store c.come_to_end-came.new.left c.come_to_end-came.new.turns c.come_to_end-came.new.tower (full_of c.args.limits.now) c.full_left-left.ensures.full c.come_to_end-came.result c.come_to_end-came.ensures c.job_end.result c.job_end.ensures

pub returns-clause-rises : goal.returns-clause-rises
returns-clause-rises g c = job_rises (ground_of c.args.around.now) c.args.job c.full_left-left.result c.args.turns.now c.come_to_end-came.new.store c.come_to_end-came.new.left c.come_to_end-came.new.turns c.come_to_end-came.new.tower (full_of c.args.limits.now) c.full_left-left.ensures.full c.come_to_end-came.result c.come_to_end-came.ensures c.job_end.result c.job_end.ensures

pub returns-clause-paid : goal.returns-clause-paid
returns-clause-paid g c = job_paid (ground_of c.args.around.now) c.args.job c.full_left-left.result c.args.turns.now c.come_to_end-came.new.store c.come_to_end-came.new.left c.come_to_end-came.new.turns c.come_to_end-came.new.tower (full_of c.args.limits.now) c.full_left-left.ensures.full c.come_to_end-came.result c.come_to_end-came.ensures c.job_end.result c.job_end.ensures

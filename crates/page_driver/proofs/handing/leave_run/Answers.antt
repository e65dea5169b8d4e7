use Rattle.page_tasks.proofs.PageGroundNumbering.{end_renumbers, nothing_renumbers}
use Rattle.page_driver.proofs.handing.leave_run.Goals as goal

pub returns-in-Expansion-clause-renumbers : goal.returns-in-Expansion-clause-renumbers
returns-in-Expansion-clause-renumbers c = nothing_renumbers c.args.store.now c.args.numbers.now

pub returns-in-Invocation-clause-renumbers : goal.returns-in-Invocation-clause-renumbers
returns-in-Invocation-clause-renumbers c = end_renumbers c.args.store.now c.args.numbers.now c.end.new.store c.end.new.self c.end.ensures.numbers c.end.ensures.store

pub returns-in-Load-clause-renumbers : goal.returns-in-Load-clause-renumbers
returns-in-Load-clause-renumbers c = end_renumbers c.args.store.now c.args.numbers.now c.end-in-Load.new.store c.end-in-Load.new.self c.end-in-Load.ensures.numbers c.end-in-Load.ensures.store

use Rattle.wiki_tests.proofs.RunLaws.{no_arguments, outcome_made}
use Rattle.wiki_tests.proofs.lines.counted.Goals as goal

pub run_job-requires-clause-names : goal.run_job-requires-clause-names
run_job-requires-clause-names g c = no_arguments c.args.title.now c.args.name.now _ c.in_ok-job.ensures

pub returns : goal.returns
returns g c = λ modules are. outcome_made c.args.wiki.now c.args.limits.now c.args.title.now c.args.name.now _ _ _ c.in_ok-end.end modules c.in_ok-job.ensures (c.in_ok-end.ensures.ends modules (are c.args.title.now))

use Rattle.wiki_tests.proofs.CommandLemmas.{within_steps, within_jobs}
use Rattle.wiki_tests.proofs.command.command_in.Goals as goal

pub returns-clause-countable : goal.returns-clause-countable
returns-clause-countable c = within_steps c.args.settings.steps c.unwrap_or.result c.requires.within.0 c.unwrap_or.ensures

pub returns-clause-jobs : goal.returns-clause-jobs
returns-clause-jobs c = within_jobs c.args.settings.jobs c.unwrap_or-jobs.result c.requires.within.1 c.unwrap_or-jobs.ensures

use Rattle.page_cases.proofs.jobs.one_arg.Goals as goal

pub returns : goal.returns
returns c = rw (c.in_ok-push.ensures.ok, c.new-args.ensures) (tt, tt)

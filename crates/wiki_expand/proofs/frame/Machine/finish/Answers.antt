use Rattle.wiki_expand.proofs.frame.Machine.finish.Goals as goal

pub returns-in_ok-progress-in-Invoke : goal.returns-in_ok-progress-in-Invoke
returns-in_ok-progress-in-Invoke c = rw c.in-Invoke.is (c.in_ok-progress-in-Invoke.ensures c.args.self.now.stack c.args.left.now)

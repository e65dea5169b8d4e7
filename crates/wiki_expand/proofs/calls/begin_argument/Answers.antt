use Rattle.std.proofs.Common.{arith}
use Rattle.wiki_pages.specs.Forests.{trees_in}
use Rattle.wiki_expand.proofs.CallLaws.{argument_none}
use Rattle.wiki_expand.proofs.StepLaws.{unnamed_put}
use Rattle.wiki_expand.proofs.calls.begin_argument.Goals as goal

pub returns-in_ok-push-in-None : goal.returns-in_ok-push-in-None
returns-in_ok-push-in-None c =
    unnamed_put _ _ c.args.stack.now c.push.new.self c.walk.result c.args.call
    (λ w sc. argument_none w sc c.args.stack.now c.push.new.self c.args.call (trees_in c.args.part) c.walk.result (rw c.in-None.is at c.in_ok-value.ensures.value) c.walk.ensures.starts c.in_ok-push-in-None.ensures)
    c.in_ok-push-in-None.ensures (omega (arith, c.walk.ensures.size))

use Rattle.std.proofs.Common.{arith}
use Rattle.std.proofs.lemmas.Result.{IfOk-weaker}
use Rattle.wiki_expand.proofs.SkipLaws.{puts_from}
use Rattle.wiki_expand.proofs.functions.switch.Goals as goal

pub returns : goal.returns
returns c = IfOk-weaker _ _ _ (λ f. puts_from _ _ 0 _ _ _ _ f (λ w sc k. c.in_ok-skip.ensures.same sc k) (omega (arith, c.in_ok-skip.ensures.light))) c.next_part.ensures

use Rattle.std.proofs.Common.{◌∙◌, ap, sym}
use Rattle.wiki_expand.specs.Points.{wiki_setting, waiting}
use Rattle.wiki_expand.proofs.StandingLaws.{moved}
use Rattle.wiki_expand.proofs.expander.Expander.answer.Goals as goal

pub returns-clause-at : goal.returns-clause-at
returns-clause-at c = λ work first given r waits said left.
    moved (wiki_setting c.args.self.now.wiki) _ _ work first r.left c.args.left.now _ (ap (waiting c.args.self.now.wiki c.args.self.now.machine) (sym (c.in_ok-text.ensures ∙ c.into_vec.ensures))) left (waits r c.args.text said)

use Rattle.std.proofs.Common.{◌∙◌, ap, rules}
use Rattle.expand_meaning.specs.Expand.{found}
use Rattle.expand_texts.proofs.ArgumentLaws.{found_is}
use Rattle.expand_texts.proofs.arguments.Arguments.find.Goals as goal

pub returns : goal.returns
returns c = c.get.ensures.value ∙ found_is c.args.name.now c.self.inside.by_name.entries ∙ ap (found c.args.name.now) c.self.view_is

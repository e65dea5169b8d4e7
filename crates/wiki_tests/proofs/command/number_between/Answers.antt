use Rattle.std.proofs.Common.{◌∙◌, ap, arith}
use Rattle.wiki_words.specs.Command.{between}
use Rattle.wiki_words.proofs.NumberLemmas.{parsed, unparsed}
use Rattle.wiki_tests.proofs.command.number_between.Goals as goal

pub returns-in-Ok-clause-number : goal.returns-in-Ok-clause-number
returns-in-Ok-clause-number c = c.between.ensures.number ∙ ap (between c.args.least c.args.most) c.in-Ok.ensures.value.0.1 ∙ parsed c.args.least c.args.most c.args.text.now c.in-Ok.ensures.value.0.0.0

pub returns-in-Err-clause-number : goal.returns-in-Err-clause-number
returns-in-Err-clause-number c = unparsed c.args.least c.args.most c.args.text.now (omega (arith, c.ranges.most.fits)) c.in-Err.ensures.value.0

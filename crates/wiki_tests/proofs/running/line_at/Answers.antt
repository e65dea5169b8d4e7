use Rattle.std.proofs.Common.{◌∙◌}
use Rattle.std.proofs.lemmas.List.{get_or_default}
use Rattle.wiki_tests.proofs.RunLaws.{at_number}
use Rattle.wiki_tests.proofs.running.line_at.Goals as goal

pub returns : goal.returns
returns c = at_number c.line_of.result c.args.wiki.now c.args.limits.now c.args.subjects.now c.args.i c.index-subjects-i.result
    (λ d. c.index-subjects-i.is ∙ get_or_default c.args.subjects.now c.args.i c.index-subjects-i.result d c.requires.within) c.line_of.ensures

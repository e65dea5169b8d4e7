use Rattle.std.proofs.Common.{◌∙◌, List, [], ap}
use Rattle.std.specs.BTreeSet.{insert_key}
use Rattle.wiki_output.specs.declared.choice.Titled.{Titled}
use Rattle.wiki_output.specs.Choice.{by_text, titled}
use Rattle.wiki_output.proofs.Pages.{with_title}
use Rattle.wiki_output.proofs.choice.in_text_order.Goals as goal

pub loop-title-preserved : goal.loop-title-preserved
loop-title-preserved c =
    c.in_ok-add.ensures
    ∙ ap (λ (set : List Titled). insert_key by_text set (titled c.in-Some.title)) c.loop-title.invariant
    ∙ with_title [] c.loop-title.yielded c.in-Some.title

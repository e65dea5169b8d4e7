use Rattle.std.proofs.Common.{◌≡◌, [], map}
use Rattle.wiki_output.specs.Choice.{title_in, with_titles}
use Rattle.wiki_output.proofs.choice.in_text_order.Given as goal

abbrev pub invariant-loop-title : goal.invariant-loop-title
invariant-loop-title l = l.set.keys ≡ with_titles [] l.yielded

abbrev pub invariant-loop-titled : goal.invariant-loop-titled
invariant-loop-titled l = l.sorted ≡ map title_in l.yielded

use Rattle.std.proofs.Common.{◌≡◌, ◌∙◌, ap, sym, Some, None}
use Rattle.wiki_markup.specs.WkBaseSpace.{trim}
use Rattle.expand_texts.specs.Ropes.{bytes_of}
use Rattle.expand_texts.specs.ExpandMeaningTexts.{are_equal}
use Rattle.expand_texts.specs.ExpandMeaningPlaces.{value_in}
use Rattle.wiki_pages.specs.Forests.{trees_in}
use Rattle.wiki_pages.specs.CaseTables.{constant_name, equals_name}
use Rattle.wiki_pages.proofs.FurtherLaws.{name_at}
use Rattle.wiki_pages.proofs.passing.is_named.Goals as goal

pub returns-in-Varied : goal.returns-in-Varied
returns-in-Varied c =
    let reads : constant_name (trees_in c.in_ok-part.part) ≡ None = rw c.in-Varied.is at c.in_ok-read_constant.ensures.reads in
    sym (ap (equals_name c.args.value.now) (name_at c.args.run.now c.in_ok-here.here c.in_ok-part.part c.args.at c.in_ok-here.ensures.nodes c.in_ok-here.ensures.at c.in_ok-here.ensures.end c.in_ok-part.ensures.first ∙ reads))

pub returns-in-Valueless : goal.returns-in-Valueless
returns-in-Valueless c =
    let reads : (constant_name (trees_in c.in_ok-part.part) ≡ Some (bytes_of c.in-Valueless.name)) × (value_in (trees_in c.in_ok-part.part) ≡ None) = rw c.in-Valueless.is at c.in_ok-read_constant.ensures.reads in
    c.are_equal.ensures ∙ ap (are_equal c.args.value.now) (c.trim.ensures ∙ ap trim c.as_slice.ensures)
    ∙ sym (ap (equals_name c.args.value.now) (name_at c.args.run.now c.in_ok-here.here c.in_ok-part.part c.args.at c.in_ok-here.ensures.nodes c.in_ok-here.ensures.at c.in_ok-here.ensures.end c.in_ok-part.ensures.first ∙ reads.0))

pub returns : goal.returns
returns c =
    let reads : (constant_name (trees_in c.in_ok-part.part) ≡ Some (bytes_of c.in-Valued.name)) × (value_in (trees_in c.in_ok-part.part) ≡ Some (trees_in c.in-Valued.field-1)) = rw c.in-Valued.is at c.in_ok-read_constant.ensures.reads in
    c.are_equal-in-Valued.ensures ∙ ap (are_equal c.args.value.now) (c.trim-in-Valued.ensures ∙ ap trim c.as_slice-in-Valued.ensures)
    ∙ sym (ap (equals_name c.args.value.now) (name_at c.args.run.now c.in_ok-here.here c.in_ok-part.part c.args.at c.in_ok-here.ensures.nodes c.in_ok-here.ensures.at c.in_ok-here.ensures.end c.in_ok-part.ensures.first ∙ reads.0))

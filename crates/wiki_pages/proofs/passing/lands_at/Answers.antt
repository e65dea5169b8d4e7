use Rattle.std.proofs.Common.{◌∙◌, ap, sym}
use Rattle.expand_texts.specs.ExpandMeaningPlaces.{first_in}
use Rattle.wiki_pages.specs.Stretches.{parts_from}
use Rattle.wiki_pages.specs.Forests.{nodes_in}
use Rattle.wiki_pages.specs.CaseTables.{constant_name, equals_name, find_among}
use Rattle.wiki_pages.proofs.FurtherLaws.{lands_missed, lands_behind}
use Rattle.wiki_pages.proofs.passing.lands_at.Goals as goal

pub case_of-requires : goal.case_of-requires
case_of-requires c = rw c.as_slice.ensures.value c.requires.right.order

pub returns-in-None : goal.returns-in-None
returns-in-None c =
    lands_missed c.args.value.now (nodes_in c.args.run.now.nodes) c.args.run.now.at c.args.table.now c.at_stop.result c.requires.right
    (ap (find_among c.args.table.now.cases.items) (sym c.hash_of-hash.ensures) ∙ ap (λ cs. find_among cs c.hash_of-hash.result) (sym c.as_slice.ensures.value) ∙ sym c.case_of.ensures ∙ c.in-None.is) c.at_stop.ensures

pub returns-then-branch : goal.returns-then-branch
returns-then-branch c =
    lands_behind c.args.value.now (nodes_in c.args.run.now.nodes) c.args.run.now.at c.args.table.now c.in-Some.case c.behind_equal.result c.requires.right
    (ap (find_among c.args.table.now.cases.items) (sym c.hash_of-hash.ensures) ∙ ap (λ cs. find_among cs c.hash_of-hash.result) (sym c.as_slice.ensures.value) ∙ sym c.case_of.ensures ∙ c.in-Some.is)
    (ap (λ z. equals_name c.args.value.now (constant_name (first_in (parts_from (nodes_in c.args.run.now.nodes) z c.in-Some.case.at)))) c.requires.end ∙ sym c.in_ok-is_named-in-Some.ensures ∙ c.if-branch.true) c.behind_equal.ensures

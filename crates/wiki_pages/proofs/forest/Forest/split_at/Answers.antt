use Rattle.std.proofs.Common.{◌∙◌, ap, sym}
use Rattle.wiki_markup.specs.Trees.{text}
use Rattle.wiki_markup.specs.Views.{kind_seen, node_seen}
use Rattle.expand_texts.specs.ExpandMeaningPlaces.{planted}
use Rattle.wiki_pages.specs.Forests.{trees_in, text_in}
use Rattle.wiki_pages.proofs.ForestLaws.{first_is}
use Rattle.wiki_pages.proofs.forest.Forest.split_at.Goals as goal

pub returns-in-Text-clause-splits : goal.returns-in-Text-clause-splits
returns-in-Text-clause-splits c =
    first_is c.args.self.now c.in_ok-inside.inside c.in_ok-rest.rest (node_seen c.args.node) _ c.requires.some c.requires.first c.clamped-cut.ensures
    c.in_ok-inside.ensures.nodes c.in_ok-inside.ensures.at c.in_ok-inside.ensures.end
    c.in_ok-rest.ensures.nodes c.in_ok-rest.ensures.at c.in_ok-rest.ensures.end
    ∙ ap (λ k. planted (kind_seen k) (trees_in c.in_ok-inside.inside) (trees_in c.in_ok-rest.rest)) c.in-Text.is
    ∙ ap (λ bytes. text bytes (trees_in c.in_ok-rest.rest)) (sym (c.requires.text ∙ ap (λ k. text_in (kind_seen k)) c.in-Text.is))

pub returns-in-Equals-clause-splits : goal.returns-in-Equals-clause-splits
returns-in-Equals-clause-splits c =
    first_is c.args.self.now c.in_ok-inside.inside c.in_ok-rest.rest (node_seen c.args.node) _ c.requires.some c.requires.first c.clamped-cut.ensures
    c.in_ok-inside.ensures.nodes c.in_ok-inside.ensures.at c.in_ok-inside.ensures.end
    c.in_ok-rest.ensures.nodes c.in_ok-rest.ensures.at c.in_ok-rest.ensures.end
    ∙ ap (λ k. planted (kind_seen k) (trees_in c.in_ok-inside.inside) (trees_in c.in_ok-rest.rest)) c.in-Equals.is

pub returns-in-Construct-clause-splits : goal.returns-in-Construct-clause-splits
returns-in-Construct-clause-splits c =
    first_is c.args.self.now c.in_ok-inside.inside c.in_ok-rest.rest (node_seen c.args.node) _ c.requires.some c.requires.first c.clamped-cut.ensures
    c.in_ok-inside.ensures.nodes c.in_ok-inside.ensures.at c.in_ok-inside.ensures.end
    c.in_ok-rest.ensures.nodes c.in_ok-rest.ensures.at c.in_ok-rest.ensures.end
    ∙ ap (λ k. planted (kind_seen k) (trees_in c.in_ok-inside.inside) (trees_in c.in_ok-rest.rest)) c.in-Construct.is

pub returns-in-Parameter-clause-splits : goal.returns-in-Parameter-clause-splits
returns-in-Parameter-clause-splits c =
    first_is c.args.self.now c.in_ok-inside.inside c.in_ok-rest.rest (node_seen c.args.node) _ c.requires.some c.requires.first c.clamped-cut.ensures
    c.in_ok-inside.ensures.nodes c.in_ok-inside.ensures.at c.in_ok-inside.ensures.end
    c.in_ok-rest.ensures.nodes c.in_ok-rest.ensures.at c.in_ok-rest.ensures.end
    ∙ ap (λ k. planted (kind_seen k) (trees_in c.in_ok-inside.inside) (trees_in c.in_ok-rest.rest)) c.in-Parameter.is

pub returns-clause-splits : goal.returns-clause-splits
returns-clause-splits c =
    first_is c.args.self.now c.in_ok-inside.inside c.in_ok-rest.rest (node_seen c.args.node) _ c.requires.some c.requires.first c.clamped-cut.ensures
    c.in_ok-inside.ensures.nodes c.in_ok-inside.ensures.at c.in_ok-inside.ensures.end
    c.in_ok-rest.ensures.nodes c.in_ok-rest.ensures.at c.in_ok-rest.ensures.end
    ∙ ap (λ k. planted (kind_seen k) (trees_in c.in_ok-inside.inside) (trees_in c.in_ok-rest.rest)) c.in-Part.is

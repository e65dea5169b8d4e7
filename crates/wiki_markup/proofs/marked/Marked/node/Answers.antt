use Rattle.std.proofs.Common.{◌∙◌, ap, List, slice_get}
use Rattle.wiki_markup.specs.declared.held.Kept.{Kept}
use Rattle.wiki_markup.specs.Nodes.{Marked}
use Rattle.wiki_markup.specs.Held.{nodes_from}
use Rattle.wiki_markup.proofs.marked.Marked.node.Goals as goal

pub returns : goal.returns
returns c =
    c.node_at.ensures
    ∙ ap (λ (ks : List Kept). slice_get (nodes_from c.self.inside.texts 0 ks) c.args.at) c.as_slice.ensures
    ∙ ap (λ (m : Marked). slice_get m.nodes c.args.at) c.self.view_is

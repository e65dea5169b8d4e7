use Rattle.std.proofs.Common.{◌∙◌, ap}
use Rattle.std.specs.List.{list_any}
use Rattle.std.proofs.lemmas.List.Sorted.{list_any-IsPermutation, IsPermutation-reverse}
use Rattle.expand_texts.proofs.stack.Stack.contains.Goals as goal

pub returns : goal.returns
returns g c =
    c.is_among.ensures ∙ ap (list_any (g.T.PartialEq.eq c.args.item.now)) c.as_slice.ensures.value
    ∙ list_any-IsPermutation _ c.self.inside.items.items _ (IsPermutation-reverse c.self.inside.items.items)
    ∙ ap (list_any (g.T.PartialEq.eq c.args.item.now)) c.self.view_is

use Rattle.std.proofs.Common.{◌∙◌, ◌+◌, ◌++◌, ap, sym, take, drop}
use Rattle.mw_htmls.specs.Settled.{new_items}
use Rattle.mw_htmls.proofs.Settled.{set_index}
use Rattle.mw_htmls.proofs.lists.settle_there.Goals as goal

pub returns-in-Some : goal.returns-in-Some
returns-in-Some g c =
    let xs = c.args.items.now.items in
    let at = c.args.at in
    c.put_at.ensures ∙ set_index xs at c.in-Some.item c.requires ∙ ap (λ o. take at xs ++ (new_items o ++ drop (at + 1) xs)) (sym c.in-Some.is)

pub returns-in-None : goal.returns-in-None
returns-in-None g c =
    let xs = c.args.items.now.items in
    let at = c.args.at in
    c.remove-was.ensures.by_index.2 ∙ ap (λ o. take at xs ++ (new_items o ++ drop (at + 1) xs)) (sym c.in-None.is)

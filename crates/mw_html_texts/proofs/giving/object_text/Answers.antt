use Rattle.mw_html.specs.Render.{render}
use Rattle.mw_html_texts.proofs.Covered.{stands, whole, deep, spent}
use Rattle.mw_html_texts.proofs.giving.object_text.Goals as goal

pub returns-in-Open : goal.returns-in-Open
returns-in-Open c =
    let p = render c.args.store.now.heap.markup c.args.id.at in
    whole c.args.left.now c.node.new.sheet p (stands c.args.left.now.steps c.new-sheet.result c.node.new.sheet p c.new-sheet.ensures c.in_ok-node.ensures) c.in-Open.is

pub returns-in-Sunk : goal.returns-in-Sunk
returns-in-Sunk c =
    let p = render c.args.store.now.heap.markup c.args.id.at in
    deep c.args.left.now c.node.new.sheet p (stands c.args.left.now.steps c.new-sheet.result c.node.new.sheet p c.new-sheet.ensures c.in_ok-node.ensures) c.in-Sunk.is

pub returns-in-Spent : goal.returns-in-Spent
returns-in-Spent c =
    let p = render c.args.store.now.heap.markup c.args.id.at in
    spent c.args.left.now c.node.new.sheet p (stands c.args.left.now.steps c.new-sheet.result c.node.new.sheet p c.new-sheet.ensures c.in_ok-node.ensures) c.in-Spent.is

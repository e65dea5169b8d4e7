use Rattle.std.proofs.Common.{◌∷◌, [], ap, arith, Some}
use Rattle.mw_html.specs.LuaHeapHeap.{new_markup, markup_at, set_markup_in, ChildNode}
use Rattle.lua_strings.specs.LuaHeapValue.{Markup}
use Rattle.lua_strings.specs.LuaMeaningHtmlNodes.{new_node, add_children}
use Rattle.lua_strings.specs.LuaStoreSeen.{StoreView}
use Rattle.mw_htmls.proofs.Changed.{object_given, child_heap}
use Rattle.mw_htmls.proofs.making.give_child.Goals as goal

pub add_children-requires-clause-id : goal.add_children-requires-clause-id
add_children-requires-clause-id c = let le = c.make.ensures.later.markup in omega (arith, c.requires, le)

pub add_children-requires-clause-children : goal.add_children-requires-clause-children
add_children-requires-clause-children c = (c.in_ok-id.ensures.of, tt)

pub returns-clause-answer : goal.returns-clause-answer
returns-clause-answer c =
    let made = new_markup c.args.store.now.heap (new_node c.args.name.now c.args.closed (Some c.args.parent.at)) in
    let h = set_markup_in made.0 c.args.parent.at (add_children (ChildNode made.1 ∷ []) (markup_at made.0 c.args.parent.at)) in
    object_given h c.add_children.new.store (Markup made.1) c.in_ok-id.id c.in_ok-values.values
    (child_heap c.add_children.new.store.heap c.make.new.store.heap made.0 c.args.parent.at c.in_ok-id.id.at made.1 (ap (λ (x : StoreView). x.heap) c.in_ok-add_children.ensures.added) c.in_ok-id.ensures.made c.in_ok-id.ensures.id)
    (ap Markup c.in_ok-id.ensures.id) c.in_ok-values.ensures

pub returns-clause-of : goal.returns-clause-of
returns-clause-of c = let of = c.in_ok-id.ensures.of in let le = c.add_children.ensures.later.markup in rw c.in_ok-values.ensures (omega (arith, of, le), tt)

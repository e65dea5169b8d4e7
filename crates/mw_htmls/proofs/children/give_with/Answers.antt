use Rattle.std.proofs.Common.{ap, refl, arith, map}
use Rattle.mw_html.specs.LuaHeapHeap.{markup_at, set_markup_in}
use Rattle.lua_strings.specs.LuaHeapValue.{Markup}
use Rattle.lua_strings.specs.LuaMeaningHtmlNodes.{add_children}
use Rattle.lua_strings.specs.LuaStoreSeen.{StoreView, seen_child}
use Rattle.mw_htmls.proofs.Changed.{object_given}
use Rattle.mw_htmls.proofs.children.give_with.Goals as goal

pub returns-clause-answer : goal.returns-clause-answer
returns-clause-answer c =
    let s = c.args.store.now in
    let h = set_markup_in s.heap c.args.id.at (add_children (map (seen_child s.texts) c.args.children.now) (markup_at s.heap c.args.id.at)) in
    object_given h c.add_children.new.store (Markup c.args.id.at) c.args.id c.in_ok-values.values (ap (λ (x : StoreView). x.heap) c.in_ok-add_children.ensures.added) refl c.in_ok-values.ensures

pub returns-clause-of : goal.returns-clause-of
returns-clause-of c = let le = c.add_children.ensures.later.markup in rw c.in_ok-values.ensures (omega (arith, c.requires.id, le), tt)

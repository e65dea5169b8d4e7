use Rattle.std.proofs.Common.{ap, None}
use Rattle.mw_html.specs.LuaHeapHeap.{new_markup}
use Rattle.lua_strings.specs.LuaHeapValue.{Markup}
use Rattle.lua_strings.specs.LuaMeaningHtmlNodes.{new_node}
use Rattle.mw_htmls.proofs.Changed.{object_given}
use Rattle.mw_htmls.proofs.making.give_new.Goals as goal

pub returns-clause-answer : goal.returns-clause-answer
returns-clause-answer c =
    let made = new_markup c.args.store.now.heap (new_node c.args.name.now c.args.closed None) in
    object_given made.0 c.make.new.store (Markup made.1) c.in_ok-id.id c.in_ok-values.values c.in_ok-id.ensures.made (ap Markup c.in_ok-id.ensures.id) c.in_ok-values.ensures

pub returns-clause-of : goal.returns-clause-of
returns-clause-of c = rw c.in_ok-values.ensures (c.in_ok-id.ensures.of, tt)

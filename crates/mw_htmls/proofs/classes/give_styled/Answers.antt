use Rattle.std.proofs.Common.{refl, arith}
use Rattle.mw_html.specs.LuaHeapHeap.{markup_at, set_markup_in}
use Rattle.lua_strings.specs.LuaHeapValue.{Markup}
use Rattle.lua_strings.specs.LuaMeaningHtmlNodes.{add_style_text}
use Rattle.mw_htmls.proofs.Changed.{object_given}
use Rattle.mw_htmls.proofs.classes.give_styled.Goals as goal

pub returns-clause-answer : goal.returns-clause-answer
returns-clause-answer c =
    let s = c.args.store.now in
    object_given (set_markup_in s.heap c.args.id.at (add_style_text c.args.text.now (markup_at s.heap c.args.id.at))) c.add_style_text.new.store (Markup c.args.id.at) c.args.id c.in_ok-values.values c.in_ok-add_style_text.ensures.added refl c.in_ok-values.ensures

pub returns-clause-of : goal.returns-clause-of
returns-clause-of c = let le = c.add_style_text.ensures.later.markup in rw c.in_ok-values.ensures (omega (arith, c.requires, le), tt)

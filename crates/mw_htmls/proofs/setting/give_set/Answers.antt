use Rattle.std.proofs.Common.{refl, arith}
use Rattle.mw_html.specs.LuaHeapHeap.{markup_at, set_markup_in}
use Rattle.lua_strings.specs.LuaHeapValue.{Markup}
use Rattle.mw_htmls.specs.Setters.{set_by}
use Rattle.mw_htmls.proofs.Changed.{object_given}
use Rattle.mw_htmls.proofs.setting.give_set.Goals as goal

pub returns-clause-answer : goal.returns-clause-answer
returns-clause-answer c =
    let s = c.args.store.now in
    object_given (set_markup_in s.heap c.args.id.at (set_by c.args.setter c.args.setting.now (markup_at s.heap c.args.id.at))) c.apply.new.store (Markup c.args.id.at) c.args.id c.in_ok-values.values c.in_ok-apply.ensures.set refl c.in_ok-values.ensures

pub returns-clause-of : goal.returns-clause-of
returns-clause-of c = let le = c.apply.ensures.later.markup in rw c.in_ok-values.ensures (omega (arith, c.requires, le), tt)

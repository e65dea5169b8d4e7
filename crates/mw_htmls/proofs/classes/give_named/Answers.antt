use Rattle.std.proofs.Common.{◌≡◌, ◌∙◌, ap, sym, subst, refl, [], ◌∷◌, Some, None, Ok}
use Rattle.mw_html.specs.LuaHeapHeap.{markup_at}
use Rattle.lua_strings.specs.LuaHeapValue.{Nil}
use Rattle.lua_strings.specs.LuaMeaningHtml.{gives_value}
use Rattle.lua_strings.specs.LuaMeaningHtmlNodes as nodes
use Rattle.lua_strings.specs.LuaStoreSeen.{text_at}
use Rattle.lua_strings.specs.LuaBasicSeen.{Paid}
use Rattle.lua_strings.proofs.Taken.{takes_none, values_paid}
use Rattle.mw_htmls.specs.Nodes.{bytes_in}
use Rattle.mw_htmls.proofs.classes.give_named.Goals as goal

pub returns-in-Some-clause-answer : goal.returns-in-Some-clause-answer
returns-in-Some-clause-answer c =
    let s = c.args.store.now in
    let is : Some c.in-Some.value.now ≡ nodes.value_of (text_at s.texts c.args.name.at) (markup_at s.heap c.args.id.at).attrs = ap bytes_in (sym c.in-Some.is) ∙ c.attribute_named.ensures in
    subst (λ v. Paid (gives_value s.heap v) s c.args.left.now c.give_text.new.store c.give_text.new.left c.give_text.result) is c.give_text.ensures.answer

pub returns-in_ok-values-in-None-clause-answer : goal.returns-in_ok-values-in-None-clause-answer
returns-in_ok-values-in-None-clause-answer c =
    let s = c.args.store.now in
    let is : None ≡ nodes.value_of (text_at s.texts c.args.name.at) (markup_at s.heap c.args.id.at).attrs = ap bytes_in (sym c.in-None.is) ∙ c.attribute_named.ensures in
    subst (λ v. Paid (gives_value s.heap v) s c.args.left.now s c.args.left.now (Ok c.in_ok-values-in-None.values)) is
    (values_paid 0 s s c.args.left.now c.args.left.now c.in_ok-values-in-None.values (Nil ∷ []) (takes_none c.args.left.now) refl (rw c.in_ok-values-in-None.ensures refl))

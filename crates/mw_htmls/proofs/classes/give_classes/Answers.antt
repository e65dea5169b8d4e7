use Rattle.std.proofs.Common.{◌≡◌, ◌∙◌, ap, refl, arith, length, Some, Ok, Err}
use Rattle.std.specs.Prelude.{codes}
use Rattle.std.proofs.lemmas.Result.{err_from_is_err_and}
use Rattle.mw_html.specs.Names.{with_class}
use Rattle.mw_html.specs.LuaHeapHeap.{markup_at, set_markup_in}
use Rattle.lua_strings.specs.LuaHeapValue.{Markup}
use Rattle.lua_strings.specs.LuaMeaningHtmlNodes.{attrs_with, set_classes, classes_with}
use Rattle.lua_strings.specs.LuaMeaningHtml.{changes}
use Rattle.lua_strings.proofs.LuaBasicFound.{for_nothing}
use Rattle.lua_strings.proofs.Taken.{not_paid, charged}
use Rattle.mw_htmls.specs.Nodes.{attrs_set}
use Rattle.mw_htmls.proofs.Changed.{object_given}
use Rattle.mw_htmls.proofs.classes.give_classes.Goals as goal

pub returns-in_err-pay_classes-clause-answer : goal.returns-in_err-pay_classes-clause-answer
returns-in_err-pay_classes-clause-answer c =
    let p = err_from_is_err_and c.from_residual.result c.from_residual.ensures.1 in
    let s = c.args.store.now in
    let lacks = rw c.attribute-old.ensures at c.in_err-pay_classes.ensures in
    not_paid (length (classes_with c.args.class.now (markup_at s.heap c.args.id.at))) _ s c.args.left.now c.pay_classes.new.left c.in_err-pay_classes.field-0.0 c.from_residual.result lacks (omega arith) (p.1 ∙ ap Err p.2)

pub returns-clause-answer : goal.returns-clause-answer
returns-clause-answer c =
    let s = c.args.store.now in
    let node = markup_at s.heap c.args.id.at in
    let classes = classes_with c.args.class.now node in
    let took = rw c.attribute-old.ensures at c.in_ok-pay_classes.ensures in
    let is : c.as_slice.result.now ≡ classes = c.as_slice.ensures.value ∙ c.in_ok-classes.ensures ∙ ap (λ o. with_class o c.args.class.now) c.attribute-old.ensures in
    let heap = c.in_ok-set_attr.ensures.set ∙ ap (λ b. set_markup_in s.heap c.args.id.at (attrs_set (attrs_with (codes "class") (Some b) node.attrs) node)) is in
    let t = c.set_attr.new.store in
    let free = object_given (set_markup_in s.heap c.args.id.at (set_classes classes node)) t (Markup c.args.id.at) c.args.id c.in_ok-values.values heap refl c.in_ok-values.ensures in
    charged (length classes) (changes s.heap c.args.id.at (set_classes classes)) s c.args.left.now c.pay_classes.new.left c.pay_classes.new.left t (Ok c.in_ok-values.values) took
    (for_nothing (changes s.heap c.args.id.at (set_classes classes)) s t c.pay_classes.new.left (Ok c.in_ok-values.values) free)

pub returns-clause-of : goal.returns-clause-of
returns-clause-of c = let le = c.set_attr.ensures.later.markup in rw c.in_ok-values.ensures (omega (arith, c.requires, le), tt)

use Rattle.std.proofs.Common.{subst, sym}
use Rattle.lua_strings.specs.LuaBasicSeen.{values_seen, Paid}
use Rattle.lua_strings.proofs.LuaBasicFound.{for_nothing}
use Rattle.mw_htmls.specs.Table.{method_on}
use Rattle.mw_htmls.proofs.call.method_on.Goals as goal

pub returns-in-Node-clause-answer : goal.returns-in-Node-clause-answer
returns-in-Node-clause-answer c =
    let s = c.args.store.now in
    let l = c.args.left.now in
    subst (λ w. Paid (method_on w c.args.id.at (values_seen s.texts c.args.given.now) s.heap) s l c.node.new.store l c.node.result) (sym c.in-Node.is) (for_nothing _ s c.node.new.store l c.node.result c.node.ensures.answer)

pub returns-in-Wikitext-clause-answer : goal.returns-in-Wikitext-clause-answer
returns-in-Wikitext-clause-answer c =
    let s = c.args.store.now in
    let l = c.args.left.now in
    subst (λ w. Paid (method_on w c.args.id.at (values_seen s.texts c.args.given.now) s.heap) s l c.wikitext.new.store l c.wikitext.result) (sym c.in-Wikitext.is) (for_nothing _ s c.wikitext.new.store l c.wikitext.result c.wikitext.ensures.answer)

pub returns-in-Newline-clause-answer : goal.returns-in-Newline-clause-answer
returns-in-Newline-clause-answer c =
    let s = c.args.store.now in
    let l = c.args.left.now in
    subst (λ w. Paid (method_on w c.args.id.at (values_seen s.texts c.args.given.now) s.heap) s l c.newline.new.store l c.newline.result) (sym c.in-Newline.is) (for_nothing _ s c.newline.new.store l c.newline.result c.newline.ensures.answer)

pub returns-in-CssText-clause-answer : goal.returns-in-CssText-clause-answer
returns-in-CssText-clause-answer c =
    let s = c.args.store.now in
    let l = c.args.left.now in
    subst (λ w. Paid (method_on w c.args.id.at (values_seen s.texts c.args.given.now) s.heap) s l c.css_text.new.store l c.css_text.result) (sym c.in-CssText.is) (for_nothing _ s c.css_text.new.store l c.css_text.result c.css_text.ensures.answer)

pub returns-in-Tag-clause-answer : goal.returns-in-Tag-clause-answer
returns-in-Tag-clause-answer c =
    let s = c.args.store.now in
    let l = c.args.left.now in
    subst (λ w. Paid (method_on w c.args.id.at (values_seen s.texts c.args.given.now) s.heap) s l c.tag.new.store l c.tag.result) (sym c.in-Tag.is) (for_nothing _ s c.tag.new.store l c.tag.result c.tag.ensures.answer)

pub returns-in-Done-clause-answer : goal.returns-in-Done-clause-answer
returns-in-Done-clause-answer c =
    let s = c.args.store.now in
    let l = c.args.left.now in
    subst (λ w. Paid (method_on w c.args.id.at (values_seen s.texts c.args.given.now) s.heap) s l c.done.new.store l c.done.result) (sym c.in-Done.is) (for_nothing _ s c.done.new.store l c.done.result c.done.ensures.answer)

pub returns-in-AllDone-clause-answer : goal.returns-in-AllDone-clause-answer
returns-in-AllDone-clause-answer c =
    let s = c.args.store.now in
    let l = c.args.left.now in
    subst (λ w. Paid (method_on w c.args.id.at (values_seen s.texts c.args.given.now) s.heap) s l c.all_done.new.store l c.all_done.result) (sym c.in-AllDone.is) (for_nothing _ s c.all_done.new.store l c.all_done.result c.all_done.ensures.answer)

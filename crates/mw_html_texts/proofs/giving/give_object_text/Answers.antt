use Rattle.std.proofs.Common.{◌∙◌, ap, ◌∷◌, []}
use Rattle.lua_strings.specs.LuaHeapValue.{Text}
use Rattle.mw_html.specs.Render.{render}
use Rattle.mw_html_texts.proofs.Covered.{text_given, too_deep_raised, not_covered}
use Rattle.mw_html_texts.proofs.giving.give_object_text.Goals as goal

pub returns-in_ok-values-in-Text-clause-answer : goal.returns-in_ok-values-in-Text-clause-answer
returns-in_ok-values-in-Text-clause-answer c =
    let s = c.args.store.now in
    let is = rw c.in-Text.is at c.in_ok-text.ensures in
    text_given (render s.heap.markup c.args.id.at) s c.give_kept.new.store c.args.left.now c.object_text.new.left c.in-Text.bytes c.in_ok-values-in-Text.values is c.in_ok-values-in-Text.ensures.heap
    (c.in_ok-values-in-Text.ensures.value ∙ ap (λ x. Text x ∷ []) c.as_slice.ensures.value)

pub returns-in-TooDeep-clause-answer : goal.returns-in-TooDeep-clause-answer
returns-in-TooDeep-clause-answer c =
    let s = c.args.store.now in
    let is = rw c.in-TooDeep.is at c.in_ok-text.ensures in
    too_deep_raised (render s.heap.markup c.args.id.at) s c.fail.new.store c.args.left.now c.object_text.new.left c.fail.result is c.fail.ensures.raises

pub returns-in-Spent-clause-answer : goal.returns-in-Spent-clause-answer
returns-in-Spent-clause-answer c =
    let s = c.args.store.now in
    let is = rw c.in-Spent.is at c.in_ok-text.ensures in
    not_covered (render s.heap.markup c.args.id.at) s c.args.left.now c.object_text.new.left is

use Rattle.std.proofs.Common.{◌∙◌, ap, refl, codes}
use Rattle.mw_frame_texts.specs.LuaHeapHeap.{set_in}
use Rattle.mw_frame_texts.specs.LuaHeapValue.{Text}
use Rattle.mw_frame_texts.specs.LuaStoreSeen.{StoreView}
use Rattle.mw_frame_calls.proofs.Tables.{two_set}
use Rattle.mw_frame_texts.proofs.LuaStoreLater.{later-then}
use Rattle.mw_frame_calls.proofs.reading.argument_table.Goals as goal

pub returns-clause-made : goal.returns-clause-made
returns-clause-made c =
    let heap = λ (s : StoreView). s.heap in
    let t = c.in_ok-table.table.at in
    let value = c.in_ok-set_field-2.ensures.put ∙ ap (λ x. set_in c.text.new.self.heap t (Text (codes "value")) (Text x)) c.in_ok-text.ensures.there
    ∙ ap (λ x. set_in x t (Text (codes "value")) (Text c.args.text.now)) (ap heap c.in_ok-text.ensures.added) in
    two_set c.args.store.now.heap c.new_table.new.self.heap c.set_field.new.store.heap c.set_field-2.new.store.heap t _ _ (ap heap c.in_ok-table.ensures.made) c.in_ok-set_field.ensures.put value c.in_ok-table.ensures.id refl

pub returns-in_err-text-clause-later : goal.returns-in_err-text-clause-later
returns-in_err-text-clause-later c = later-then _ _ _ c.in_ok-table.ensures.later (later-then _ _ _ c.in_ok-set_field.ensures.later c.in_err-text.ensures.later)

pub returns-in_err-set_field-2-clause-later : goal.returns-in_err-set_field-2-clause-later
returns-in_err-set_field-2-clause-later c = later-then _ _ _ c.in_ok-table.ensures.later (later-then _ _ _ c.in_ok-set_field.ensures.later (later-then _ _ _ c.in_ok-text.ensures.later c.in_err-set_field-2.ensures.later))

pub returns-clause-later : goal.returns-clause-later
returns-clause-later c = later-then _ _ _ c.in_ok-table.ensures.later (later-then _ _ _ c.in_ok-set_field.ensures.later (later-then _ _ _ c.in_ok-text.ensures.later c.in_ok-set_field-2.ensures.later))

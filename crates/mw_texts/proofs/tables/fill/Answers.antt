use Rattle.std.proofs.Common.{◌∙◌, ap, sym, refl, arith, suc}
use Rattle.std.specs.Prelude.{pos}
use Rattle.mw_ustrings.specs.LuaHeapHeap.{set_in}
use Rattle.mw_ustrings.specs.LuaHeapValue.{Number, Text}
use Rattle.mw_ustrings.specs.LuaGraphPut.{filled}
use Rattle.mw_ustrings.proofs.LuaStoreLater.{later-then, later-itself}
use Rattle.mw_ustrings.specs.LuaMeaningTexts.{text_entries}
use Rattle.mw_texts.proofs.tables.fill.Goals as goal

pub each-init : goal.each-init
each-init c = (refl, c.requires, later-itself c.args.store.now)

pub each-preserved : goal.each-preserved
each-preserved c =
    let i = c.each.invariant in
    let later = c.set_text.ensures.later in
    let t = c.args.table.at in
    let h = c.set_text.new.store.heap in (
      ap (λ n. filled t (text_entries n c.in-Some.more.now) h) c.in_ok-at.ensures
          ∙ ap (filled t (text_entries (suc c.each.at) c.in-Some.more.now)) (c.in_ok-set_text.ensures.set ∙ ap (λ x. set_in c.each.store.heap t (Number (pos c.each.at)) (Text x)) c.as_slice.ensures)
          ∙ ap (λ xs. filled t (text_entries c.each.at xs) c.each.store.heap) (sym c.in-Some.ensures) ∙ i.0,
      omega (arith, i.1, later.tables),
      later-then c.args.store.now c.each.store c.set_text.new.store i.2 later,
    )

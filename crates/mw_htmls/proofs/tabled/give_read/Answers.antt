use Rattle.std.proofs.Common.{◌∙◌, ap, arith}
use Rattle.mw_html.specs.LuaHeapHeap.{markup_at, set_markup_in}
use Rattle.mw_htmls.specs.Setters.{all_set}
use Rattle.mw_htmls.proofs.Tables.{ended_read, ended_of}
use Rattle.mw_htmls.proofs.tabled.give_read.Goals as goal

pub returns-clause-answer : goal.returns-clause-answer
returns-clause-answer c =
    let s = c.args.store.now in
    let heap = c.in_ok-apply_all.ensures.set ∙ ap (λ xs. set_markup_in s.heap c.args.id.at (all_set c.args.setter xs (markup_at s.heap c.args.id.at))) c.as_slice.ensures in
    ended_read s c.apply_all.new.store c.args.id (all_set c.args.setter c.args.read.now.settings (markup_at s.heap c.args.id.at)) c.args.read.now.fault c.give_or_raise.result heap c.apply_all.ensures.later c.requires.read c.give_or_raise.ensures

pub returns-clause-of : goal.returns-clause-of
returns-clause-of c =
    let le = c.apply_all.ensures.later.markup in
    ended_of c.args.store.now c.apply_all.new.store c.args.id c.args.read.now.fault c.give_or_raise.result c.apply_all.ensures.later (omega (arith, c.requires.id, le)) c.requires.read c.give_or_raise.ensures

use Rattle.std.proofs.Common.{◌∙◌, ap, refl, sym, Err}
use Rattle.std.proofs.lemmas.Result.{err_from_is_err_and}
use Rattle.lua_strings.specs.LuaStoreSeen.{seen_entry}
use Rattle.mw_htmls.proofs.Tables.{nil_lacks, live_lacks, entry_live}
use Rattle.mw_htmls.proofs.tabled.read_entry.Goals as goal

pub returns-in_err-take-clause-read : goal.returns-in_err-take-clause-read
returns-in_err-take-clause-read c =
    let p = err_from_is_err_and c.from_residual.result c.from_residual.ensures.1 in
    let s = c.args.store.now in
    nil_lacks c.args.setter (seen_entry s.texts c.args.entry) s c.args.left.now c.take.new.left c.in_err-take.field-0.0 c.from_residual.result (sym (c.if-is_nil.ensures s.texts)) c.in_err-take.ensures (p.1 ∙ ap Err p.2)

pub returns-then-is_nil-clause-read : goal.returns-then-is_nil-clause-read
returns-then-is_nil-clause-read c = (sym (c.if-is_nil.ensures c.args.store.now.texts), c.in_ok-take.ensures, refl)

pub take_texts-requires : goal.take_texts-requires
take_texts-requires c = (c.requires.0, (c.requires.1, tt))

pub returns-in_err-take_texts-clause-read : goal.returns-in_err-take_texts-clause-read
returns-in_err-take_texts-clause-read c =
    let p = err_from_is_err_and c.from_residual-in_err-take_texts.result c.from_residual-in_err-take_texts.ensures.1 in
    let s = c.args.store.now in
    live_lacks c.args.setter (seen_entry s.texts c.args.entry) s c.args.left.now c.take_texts.new.left c.in_err-take_texts.field-0.0 c.from_residual-in_err-take_texts.result (sym (c.if-is_nil.ensures s.texts)) c.in_err-take_texts.ensures (p.1 ∙ ap Err p.2)

pub returns-clause-read : goal.returns-clause-read
returns-clause-read c =
    let s = c.args.store.now in
    entry_live c.args.setter (seen_entry s.texts c.args.entry) s c.read_live.new.store c.args.left.now c.take_texts.new.left c.read_live.result (sym (c.if-is_nil.ensures s.texts)) c.in_ok-take_texts.ensures c.read_live.ensures.read

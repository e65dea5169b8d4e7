use Rattle.std.proofs.Common.{◌≡◌, ◌∙◌, ap, refl, rules, subst, drop, ◌+◌, Ok, Err, w64, to_z, of_z}
use Rattle.std.proofs.lemmas.Result.{err_from_is_err_and}
use Rattle.mw_html.specs.LuaHeapHeap.{table_at}
use Rattle.lua_strings.specs.LuaStoreSeen.{seen_entry}
use Rattle.lua_strings.proofs.Taken.{takes_none}
use Rattle.mw_htmls.specs.Tabled.{EntryIs}
use Rattle.mw_htmls.proofs.Tables.{none_read, goes_passed, goes_named, ends_wrong, ends_lacking, entry_among}
use Rattle.mw_htmls.proofs.tabled.read_entries.Goals as goal

pub places-init : goal.places-init
places-init c = rw c.new-settings.ensures ((0, takes_none c.args.left.now, none_read c.args.setter (table_at c.args.store.now.heap c.args.table.at).entries), refl)

pub returns-in_err-read_entry-in-Some-clause-read : goal.returns-in_err-read_entry-in-Some-clause-read
returns-in_err-read_entry-in-Some-clause-read c =
    let p = err_from_is_err_and c.from_residual.result c.from_residual.ensures.1 in
    let s = c.args.store.now in
    let t = c.places.store in
    let es = (table_at s.heap c.args.table.at).entries in
    let e = seen_entry t.texts c.in-Some.entry in
    let is = entry_among s t c.args.table.at c.places.place e c.places.invariant.1 c.in-Some.ensures.entry in
    ends_lacking c.args.setter es (drop c.places.place es) s t c.args.left.now c.places.left c.places.settings c.places.invariant (drop (c.places.place + 1) es) e is c.read_entry.new.store c.read_entry.new.left
    c.in_err-read_entry-in-Some.field-0.0 _ c.in_err-read_entry-in-Some.ensures.read (p.1 ∙ ap Err p.2)

pub places-preserved-in-Passed : goal.places-preserved-in-Passed
places-preserved-in-Passed c =
    let s = c.args.store.now in
    let t = c.places.store in
    let es = (table_at s.heap c.args.table.at).entries in
    let e = seen_entry t.texts c.in-Some.entry in
    let is = entry_among s t c.args.table.at c.places.place e c.places.invariant.1 c.in-Some.ensures.entry in
    let u = c.read_entry.new.store in
    let j = c.read_entry.new.left in
    let p = subst (λ x. EntryIs c.args.setter e t c.places.left u j (Ok x)) c.in-Passed.is c.in_ok-read_entry-in-Some.ensures.read in
    goes_passed c.args.setter es (drop c.places.place es) s t c.args.left.now c.places.left c.places.settings c.places.invariant (drop (c.places.place + 1) es) e is u j p

pub places-preserved : goal.places-preserved
places-preserved c =
    let s = c.args.store.now in
    let t = c.places.store in
    let es = (table_at s.heap c.args.table.at).entries in
    let e = seen_entry t.texts c.in-Some.entry in
    let is = entry_among s t c.args.table.at c.places.place e c.places.invariant.1 c.in-Some.ensures.entry in
    let u = c.read_entry.new.store in
    let j = c.read_entry.new.left in
    let p = subst (λ x. EntryIs c.args.setter e t c.places.left u j (Ok x)) c.in-Named.is c.in_ok-read_entry-in-Some.ensures.read in
    goes_named c.args.setter es (drop c.places.place es) s t c.args.left.now c.places.left c.places.settings c.places.invariant (drop (c.places.place + 1) es) e is u j c.push.new.self c.in-Named.setting c.in_ok-push-in-Named.ensures.ok p

pub returns-in-Wrong-clause-read : goal.returns-in-Wrong-clause-read
returns-in-Wrong-clause-read c =
    let s = c.args.store.now in
    let t = c.places.store in
    let es = (table_at s.heap c.args.table.at).entries in
    let e = seen_entry t.texts c.in-Some.entry in
    let is = entry_among s t c.args.table.at c.places.place e c.places.invariant.1 c.in-Some.ensures.entry in
    let u = c.read_entry.new.store in
    let j = c.read_entry.new.left in
    let p = subst (λ x. EntryIs c.args.setter e t c.places.left u j (Ok x)) c.in-Wrong.is c.in_ok-read_entry-in-Some.ensures.read in
    let whole : to_z w64 (of_z w64 c.in-Wrong.level) ≡ c.in-Wrong.level = search rules in
    rw whole
    (ends_wrong c.args.setter es (drop c.places.place es) s t c.args.left.now c.places.left c.places.settings c.places.invariant (drop (c.places.place + 1) es) e is u j c.in-Wrong.error c.in-Wrong.level p)

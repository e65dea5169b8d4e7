use Rattle.std.proofs.Common.{◌∙◌, ap, refl, Err, subst, sym}
use Rattle.std.proofs.lemmas.Result.{err_from_is_err_and}
use Rattle.lua_basic.specs.Seen.{Paid}
use Rattle.lua_basic.proofs.Found.{stopped, found, for_nothing}
use Rattle.lua_basic.proofs.walking.next.Goals as goal

pub next_entry-requires-clause-key : goal.next_entry-requires-clause-key
next_entry-requires-clause-key c = rw c.in_ok-table.ensures.same (c.second.ensures.of c.args.store.now c.requires)

pub returns-in_err-table-clause-answer : goal.returns-in_err-table-clause-answer
returns-in_err-table-clause-answer c =
    let p = err_from_is_err_and c.from_residual.result c.from_residual.ensures.1 in
    for_nothing _ c.args.store.now c.a_table.new.store c.args.left.now c.from_residual.result
    (stopped _ _ _ c.args.store.now c.a_table.new.store c.in_err-table.field-0.0 c.from_residual.result c.in_err-table.ensures.refused refl (p.1 ∙ ap Err p.2))

pub returns-clause-answer : goal.returns-clause-answer
returns-clause-answer c =
    let texts = c.args.store.now.texts in
    let table = found _ _ c.in_ok-table.table.at c.args.store.now.heap _ c.in_ok-table.ensures.found refl in
    let answer = rw (c.in_ok-table.ensures.same, c.second.ensures.value texts) at c.next_entry.ensures.answer in
    subst (λ q. Paid q c.args.store.now c.args.left.now c.next_entry.new.store c.next_entry.new.left c.next_entry.result) (sym table) answer

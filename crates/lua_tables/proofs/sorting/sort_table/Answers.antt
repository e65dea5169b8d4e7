use Rattle.std.proofs.Common.{◌≡◌, ◌∙◌, ap, sym, subst, pos, suc, length, [], ◌∷◌, rules, Err, w64, to_z, of_z}
use Rattle.std.specs.Prelude.{codes}
use Rattle.std.proofs.lemmas.Result.{err_from_is_err_and}
use Rattle.std.proofs.lemmas.List.{length-map}
use Rattle.lua_basic.specs.LuaHeapHeap.{table_at}
use Rattle.lua_basic.specs.LuaHeapTable.{border, get}
use Rattle.lua_basic.specs.LuaHeapValue.{Number}
use Rattle.lua_basic.specs.LuaMeaningBasic.{count_between, entries_from}
use Rattle.lua_basic.specs.LuaMeaningMessages.{bad_argument, expected}
use Rattle.lua_basic.specs.LuaMeaningArguments.{fails}
use Rattle.lua_basic.specs.LuaStoreSeen.{seen}
use Rattle.lua_basic.specs.Seen.{values_seen, AllOf, Stops, Paid}
use Rattle.lua_basic.proofs.Found.{for_nothing}
use Rattle.lua_basic.specs.LuaMeaningTableLibrary.{walk, may_stand, wanted_kind, sort_values, sort_table}
use Rattle.lua_tables.specs.Walked.{walk_charge}
use Rattle.lua_tables.specs.Paying.{IsTaken}
use Rattle.lua_tables.proofs.Put.{count_from_one}
use Rattle.lua_tables.proofs.Taken.{paid-more}
use Rattle.lua_tables.proofs.Reading.{paid-walked}
use Rattle.lua_tables.proofs.Moved.{sort-kinds, sort-passed, sort-refused, all-read, all-walked, read-dear}
use Rattle.lua_tables.proofs.sorting.sort_table.Goals as goal

pub returns-in_err-walked-clause-answer : goal.returns-in_err-walked-clause-answer
returns-in_err-walked-clause-answer c =
    let p = err_from_is_err_and c.from_residual.result c.from_residual.ensures.1 in
    let last : to_z w64 (of_z w64 c.border-border.result) ≡ c.border-border.result = search rules in
    let texts = c.args.store.now.texts in
    let h = c.args.store.now.heap in
    let t = c.args.table.at in
    let es = (table_at h t).entries in
    let edge : to_z w64 (of_z w64 c.border-border.result) ≡ pos (border es) = last ∙ c.border-border.ensures in
    let size = c.count_to.ensures.count ∙ ap (count_between (pos 1)) edge ∙ count_from_one (border es) in
    let one = c.get-one.ensures.value in
    let vs = entries_from (count_between (pos 1) (to_z w64 (of_z w64 c.border-border.result))) (pos 1) es in
    paid-walked (sort_table t h) vs (walk (may_stand c.count_to.result (seen texts c.get-one.result)) vs) c.args.store.now c.args.left.now c.walk.new.left _ c.from_residual.result
    (read-dear t h c.count_to.result (to_z w64 (of_z w64 c.border-border.result)) (seen texts c.get-one.result) size edge one) c.in_err-walked.ensures (p.1 ∙ ap Err p.2)

pub sort_values-requires-clause-of : goal.sort_values-requires-clause-of
sort_values-requires-clause-of c =
    let found = rw c.in-Passed.is at c.in_ok-walked.ensures in
    subst (AllOf c.args.store.now) (sym c.as_slice.ensures) found.0.2

pub sort_values-requires-clause-read : goal.sort_values-requires-clause-read
sort_values-requires-clause-read c =
    let last : to_z w64 (of_z w64 c.border-border.result) ≡ c.border-border.result = search rules in
    let texts = c.args.store.now.texts in
    let h = c.args.store.now.heap in
    let t = c.args.table.at in
    let es = (table_at h t).entries in
    let edge : c.border-border.result ≡ pos (border es) = c.border-border.ensures in
    let size = (rw last at c.count_to.ensures.count) ∙ ap (count_between (pos 1)) edge ∙ count_from_one (border es) in
    let found = rw last at (rw c.in-Passed.is at c.in_ok-walked.ensures) in
    ap (values_seen texts) c.as_slice.ensures ∙ found.0.1 ∙ all-read t h c.count_to.result c.border-border.result (seen texts c.get-one.result) size edge c.get-one.ensures.value

pub sort_values-requires-clause-kinds : goal.sort_values-requires-clause-kinds
sort_values-requires-clause-kinds c =
    let last : to_z w64 (of_z w64 c.border-border.result) ≡ c.border-border.result = search rules in
    let texts = c.args.store.now.texts in
    let h = c.args.store.now.heap in
    let t = c.args.table.at in
    let es = (table_at h t).entries in
    let edge : c.border-border.result ≡ pos (border es) = c.border-border.ensures in
    let size = (rw last at c.count_to.ensures.count) ∙ ap (count_between (pos 1)) edge ∙ count_from_one (border es) in
    let one = c.get-one.ensures.value in
    let found = rw last at (rw c.in-Passed.is at c.in_ok-walked.ensures) in
    let read = ap (values_seen texts) c.as_slice.ensures ∙ found.0.1 ∙ all-read t h c.count_to.result c.border-border.result (seen texts c.get-one.result) size edge one in
    let walked = sym (all-walked t h c.count_to.result c.border-border.result (seen texts c.get-one.result) size edge one) ∙ found.0.0 in
    sort-kinds es (values_seen texts c.as_slice.result.now) (length c.as_slice.result.now) read (sym (length-map c.as_slice.result.now (seen texts))) walked

pub returns-in-Passed-clause-answer : goal.returns-in-Passed-clause-answer
returns-in-Passed-clause-answer c =
    let last : to_z w64 (of_z w64 c.border-border.result) ≡ c.border-border.result = search rules in
    let texts = c.args.store.now.texts in
    let s = c.args.store.now in
    let h = s.heap in
    let t = c.args.table.at in
    let es = (table_at h t).entries in
    let edge : c.border-border.result ≡ pos (border es) = c.border-border.ensures in
    let size = (rw last at c.count_to.ensures.count) ∙ ap (count_between (pos 1)) edge ∙ count_from_one (border es) in
    let one = c.get-one.ensures.value in
    let found = rw last at (rw c.in-Passed.is at c.in_ok-walked.ensures) in
    let given = entries_from (count_between (pos 1) c.border-border.result) (pos 1) es in
    let vs = values_seen texts c.as_slice.result.now in
    let seen_ : vs ≡ given = ap (values_seen texts) c.as_slice.ensures ∙ found.0.1 in
    let read = seen_ ∙ all-read t h c.count_to.result c.border-border.result (seen texts c.get-one.result) size edge one in
    let walked = sym (all-walked t h c.count_to.result c.border-border.result (seen texts c.get-one.result) size edge one) ∙ found.0.0 in
    let whole = sort-passed t h vs read walked in
    let paid = subst (λ w. IsTaken (walk_charge given w) c.args.left.now c.walk.new.left) found.0.0 found.1 in
    let taken = subst (λ xs. IsTaken (length xs) c.args.left.now c.walk.new.left) (sym seen_) paid in
    subst (λ q. Paid q s c.args.left.now c.sort_values.new.store c.sort_values.new.left c.sort_values.result) (sym whole)
    (paid-more (length vs) (sort_values t vs h) s c.args.left.now c.walk.new.left c.sort_values.new.store c.sort_values.new.left c.sort_values.result taken c.sort_values.ensures.answer)

pub returns-clause-answer : goal.returns-clause-answer
returns-clause-answer c =
    let last : to_z w64 (of_z w64 c.border-border.result) ≡ c.border-border.result = search rules in
    let texts = c.args.store.now.texts in
    let s = c.args.store.now in
    let h = s.heap in
    let t = c.args.table.at in
    let es = (table_at h t).entries in
    let edge : c.border-border.result ≡ pos (border es) = c.border-border.ensures in
    let size = (rw last at c.count_to.ensures.count) ∙ ap (count_between (pos 1)) edge ∙ count_from_one (border es) in
    let one = c.get-one.ensures.value in
    let found = rw last at (rw c.in-Refused.is at c.in_ok-walked.ensures) in
    let given = entries_from (count_between (pos 1) c.border-border.result) (pos 1) es in
    let walked = sym (all-walked t h c.count_to.result c.border-border.result (seen texts c.get-one.result) size edge one) ∙ found.0.0 in
    let whole = sort-refused t h c.in-Refused.field-0 (seen texts c.in-Refused.value) walked in
    let taken = subst (λ w. IsTaken (walk_charge given w) c.args.left.now c.walk.new.left) found.0.0 found.1 in
    let kind_ = c.wanted_kind.ensures texts ∙ ap wanted_kind one in
    let raises = subst (λ k. Stops (fails h (bad_argument 1 (codes "sort") (expected k (seen texts c.in-Refused.value ∷ [])))) c.refuse_kind.new.store c.refuse_kind.result) kind_ c.refuse_kind.ensures.raises in
    subst (λ q. Paid q s c.args.left.now c.refuse_kind.new.store c.walk.new.left (Err c.refuse_kind.result)) (sym whole)
    (paid-more (suc c.in-Refused.field-0) (fails h (bad_argument 1 (codes "sort") (expected (wanted_kind (get es (Number (pos 1)))) (seen texts c.in-Refused.value ∷ [])))) s c.args.left.now c.walk.new.left c.refuse_kind.new.store c.walk.new.left (Err c.refuse_kind.result) taken
    (for_nothing _ s c.refuse_kind.new.store c.walk.new.left (Err c.refuse_kind.result) raises))

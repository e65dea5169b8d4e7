use Rattle.std.proofs.Common.{◌≡◌, ◌<◌, ◌≤◌, ◌∙◌, ap, sym, subst, suc, length, arith, rules, pos, ◌+ℤ◌, Err, w64, to_z, of_z}
use Rattle.std.proofs.lemmas.Int.{to_z-of_z, ints}
use Rattle.std.proofs.lemmas.Result.{err_from_is_err_and}
use Rattle.lua_basic.specs.LuaHeapHeap.{table_at}
use Rattle.lua_basic.specs.LuaMeaningArguments.{fails, gives_text}
use Rattle.lua_basic.specs.LuaMeaningBasic.{count_between, entries_from}
use Rattle.lua_basic.specs.Seen.{values_seen, AllOf, Stops, Paid}
use Rattle.lua_basic.proofs.Found.{for_nothing}
use Rattle.lua_basic.specs.LuaMeaningTableLibrary.{PassedAll, walk, is_part, joined, invalid_item, concat_between}
use Rattle.lua_tables.specs.Walked.{walk_charge}
use Rattle.lua_tables.specs.Paying.{IsTaken}
use Rattle.lua_tables.proofs.Put.{in_count, length-entries}
use Rattle.lua_tables.proofs.Taken.{paid-more}
use Rattle.lua_tables.proofs.Reading.{paid-walked}
use Rattle.lua_tables.proofs.Parts.{concat-dear, concat-passed, concat-refused, refused-within}
use Rattle.lua_tables.proofs.joining.concat_between.Goals as goal

pub place_behind-requires : goal.place_behind-requires
place_behind-requires c =
    let first = to_z-of_z w64 c.args.first c.ranges.first in
    let last = to_z-of_z w64 c.args.last c.ranges.last in
    let es = (table_at c.args.store.now.heap c.args.table.at).entries in
    let n = count_between c.args.first c.args.last in
    let found = rw (first, last) at (rw c.in-Refused.is at c.in_ok-walked.ensures) in
    let inside = refused-within is_part (entries_from n c.args.first es) c.in-Refused.offset _ found.0.0 in
    let size = length-entries n c.args.first es in
    let near : c.in-Refused.offset < n = omega (arith, inside, size) in
    let le = in_count c.args.first c.args.last c.in-Refused.offset near in
    rw first (omega (arith, ints, le, c.ranges.last.sfits))

pub join_values-requires : goal.join_values-requires
join_values-requires c =
    let found = rw c.in-Passed.is at c.in_ok-walked.ensures in
    subst (AllOf c.args.store.now) (sym c.as_slice.ensures) found.0.2

pub returns-in_err-walked-clause-answer : goal.returns-in_err-walked-clause-answer
returns-in_err-walked-clause-answer c =
    let p = err_from_is_err_and c.from_residual.result c.from_residual.ensures.1 in
    let first = to_z-of_z w64 c.args.first c.ranges.first in
    let last = to_z-of_z w64 c.args.last c.ranges.last in
    let h = c.args.store.now.heap in
    let es = (table_at h c.args.table.at).entries in
    let read = entries_from (count_between c.args.first c.args.last) c.args.first es in
    let given = entries_from (count_between (to_z w64 (of_z w64 c.args.first)) (to_z w64 (of_z w64 c.args.last))) (to_z w64 (of_z w64 c.args.first)) es in
    let same : read ≡ given = ap (λ z. entries_from (count_between z c.args.last) z es) (sym first) ∙ ap (λ z. entries_from (count_between (to_z w64 (of_z w64 c.args.first)) z) (to_z w64 (of_z w64 c.args.first)) es) (sym last) in
    let dear = subst (λ vs. walk_charge vs (walk is_part vs) ≤ (concat_between c.args.table.at c.args.separator.now c.args.first c.args.last h).charge) same
    (concat-dear h c.args.separator.now c.args.first read (walk is_part read)) in
    paid-walked (concat_between c.args.table.at c.args.separator.now c.args.first c.args.last h) given (walk is_part given) c.args.store.now c.args.left.now c.walk.new.left _ c.from_residual.result
    dear c.in_err-walked.ensures (p.1 ∙ ap Err p.2)

pub returns-in-Passed-clause-answer : goal.returns-in-Passed-clause-answer
returns-in-Passed-clause-answer c =
    let first = to_z-of_z w64 c.args.first c.ranges.first in
    let last = to_z-of_z w64 c.args.last c.ranges.last in
    let s = c.args.store.now in
    let h = s.heap in
    let sep = c.args.separator.now in
    let given = entries_from (count_between c.args.first c.args.last) c.args.first (table_at h c.args.table.at).entries in
    let found = rw (first, last) at (rw c.in-Passed.is at c.in_ok-walked.ensures) in
    let vs = values_seen s.texts c.as_slice.result.now in
    let seen_ : vs ≡ given = ap (values_seen s.texts) c.as_slice.ensures ∙ found.0.1 in
    let walked : walk is_part vs ≡ PassedAll = ap (walk is_part) seen_ ∙ found.0.0 in
    let whole = concat-passed c.args.table.at sep c.args.first c.args.last h vs seen_ walked in
    let paid = subst (λ w. IsTaken (walk_charge given w) c.args.left.now c.walk.new.left) found.0.0 found.1 in
    let taken = subst (λ xs. IsTaken (length xs) c.args.left.now c.walk.new.left) (sym seen_) paid in
    subst (λ q. Paid q s c.args.left.now c.join_values.new.store c.join_values.new.left c.join_values.result) (sym whole)
    (paid-more (length vs) (gives_text h (joined sep vs)) s c.args.left.now c.walk.new.left c.join_values.new.store c.join_values.new.left c.join_values.result taken c.join_values.ensures.answer)

pub returns-clause-answer : goal.returns-clause-answer
returns-clause-answer c =
    let first = to_z-of_z w64 c.args.first c.ranges.first in
    let last = to_z-of_z w64 c.args.last c.ranges.last in
    let place : to_z w64 (of_z w64 c.place_behind.result) ≡ c.place_behind.result = search rules in
    let s = c.args.store.now in
    let h = s.heap in
    let k = c.in-Refused.offset in
    let given = entries_from (count_between c.args.first c.args.last) c.args.first (table_at h c.args.table.at).entries in
    let found = rw (first, last) at (rw c.in-Refused.is at c.in_ok-walked.ensures) in
    let whole = concat-refused c.args.table.at c.args.separator.now c.args.first c.args.last h k _ found.0.0 in
    let taken = subst (λ w. IsTaken (walk_charge given w) c.args.left.now c.walk.new.left) found.0.0 found.1 in
    let at_ = rw first at c.place_behind.ensures in
    let raises = subst (λ z. Stops (fails h (invalid_item z)) c.refuse_item.new.store c.refuse_item.result) at_ (rw place at c.refuse_item.ensures.raises) in
    subst (λ q. Paid q s c.args.left.now c.refuse_item.new.store c.walk.new.left (Err c.refuse_item.result)) (sym whole)
    (paid-more (suc k) (fails h (invalid_item (c.args.first +ℤ pos k))) s c.args.left.now c.walk.new.left c.refuse_item.new.store c.walk.new.left (Err c.refuse_item.result) taken
    (for_nothing _ s c.refuse_item.new.store c.walk.new.left (Err c.refuse_item.result) raises))

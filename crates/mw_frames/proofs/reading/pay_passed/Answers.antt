use Rattle.std.proofs.Common.{◌∙◌, ap, subst, arith, drop, Err}
use Rattle.std.proofs.lemmas.Result.{err_from_is_err_and}
use Rattle.lua_basic.specs.LuaHeapHeap.{table_at}
use Rattle.lua_basic.specs.LuaMeaningArguments.{passed}
use Rattle.lua_basic.specs.LuaMeaningFrameMethods.{entry_arg}
use Rattle.lua_basic.specs.LuaStoreSeen.{seen_entry}
use Rattle.mw_frames.specs.Costs.{Took, MayPay}
use Rattle.mw_frames.proofs.Sums.{took_none}
use Rattle.mw_frames.proofs.ReadLemmas.{passed-one, passed-last, passed-end, passed-stop, passed-alike}
use Rattle.mw_frames.proofs.reading.pay_passed.Goals as goal

pub places-init : goal.places-init
places-init c = (0, took_none c.args.left.now, omega arith)

pub places-preserved : goal.places-preserved
places-preserved c =
    let es = (table_at c.args.store.now.heap c.args.table.at).entries in
    passed-one (seen_entry c.args.store.now.texts c.in-Some.entry) c.args.left.now c.places.left c.pass_entry.new.left (drop c.places.place es) _ (passed entry_arg es) c.places.invariant c.in-Some.ensures.entry
    (rw c.if-not-branch.false at c.in_ok-pass_entry-in-Some.ensures)

pub returns-in-None-clause-args : goal.returns-in-None-clause-args
returns-in-None-clause-args c =
    let es = (table_at c.args.store.now.heap c.args.table.at).entries in
    passed-last c.args.left.now c.places.left (drop c.places.place es) (passed entry_arg es) c.places.invariant c.in-None.ensures.entry

pub returns-in-None-clause-attributes : goal.returns-in-None-clause-attributes
returns-in-None-clause-attributes c =
    let es = (table_at c.args.store.now.heap c.args.table.at).entries in
    subst (λ n. Took n c.args.left.now c.places.left) (passed-alike es) (returns-in-None-clause-args c)

pub returns-then-not-branch-clause-args : goal.returns-then-not-branch-clause-args
returns-then-not-branch-clause-args c =
    let es = (table_at c.args.store.now.heap c.args.table.at).entries in
    passed-end (seen_entry c.args.store.now.texts c.in-Some.entry) c.args.left.now c.places.left c.pass_entry.new.left (drop c.places.place es) _ (passed entry_arg es) c.places.invariant c.in-Some.ensures.entry
    (rw c.if-not-branch.true at c.in_ok-pass_entry-in-Some.ensures)

pub returns-then-not-branch-clause-attributes : goal.returns-then-not-branch-clause-attributes
returns-then-not-branch-clause-attributes c =
    let es = (table_at c.args.store.now.heap c.args.table.at).entries in
    subst (λ n. Took n c.args.left.now c.pass_entry.new.left) (passed-alike es) (returns-then-not-branch-clause-args c)

pub returns-in_err-pass_entry-in-Some-clause-args : goal.returns-in_err-pass_entry-in-Some-clause-args
returns-in_err-pass_entry-in-Some-clause-args c =
    let p = err_from_is_err_and c.from_residual.result c.from_residual.ensures.1 in
    let es = (table_at c.args.store.now.heap c.args.table.at).entries in
    passed-stop (seen_entry c.args.store.now.texts c.in-Some.entry) c.args.left.now c.places.left c.pass_entry.new.left (drop c.places.place es) _ (passed entry_arg es) c.in_err-pass_entry-in-Some.field-0.0 c.from_residual.result c.places.invariant
    c.in-Some.ensures.entry c.in_err-pass_entry-in-Some.ensures (p.1 ∙ ap Err p.2)

pub returns-in_err-pass_entry-in-Some-clause-attributes : goal.returns-in_err-pass_entry-in-Some-clause-attributes
returns-in_err-pass_entry-in-Some-clause-attributes c =
    let es = (table_at c.args.store.now.heap c.args.table.at).entries in
    subst (λ n. MayPay n c.args.left.now c.pass_entry.new.left c.from_residual.result) (passed-alike es) (returns-in_err-pass_entry-in-Some-clause-args c)

use Rattle.std.proofs.Common.{◌∙◌, ap, sym, subst, Err}
use Rattle.std.proofs.lemmas.Result.{err_from_is_err_and}
use Rattle.lua_replacing.specs.LuaMeaningGsub.{args_charge, given_in, by_given}
use Rattle.lua_iterators.specs.LuaBasicSeen.{values_seen}
use Rattle.lua_gsubs.specs.Begun.{IsBegun}
use Rattle.lua_gsubs.specs.Table.{alphabet_of}
use Rattle.lua_gsubs.proofs.GivenArguments.{begins, begins_unpaid, given_charged}
use Rattle.lua_gsubs.proofs.beginning.gsub_begin.Goals as goal

pub returns-in_err-pay_args-clause-begun : goal.returns-in_err-pay_args-clause-begun
returns-in_err-pay_args-clause-begun c =
    let q = err_from_is_err_and c.from_residual.result c.from_residual.ensures.1 in
    let s = c.args.store.now in
    let a = alphabet_of c.args.which in
    let vs = values_seen s.texts c.args.args.now in
    subst (λ form. IsBegun form s c.args.left.now s c.pay_args.new.left c.from_residual.result) (sym (given_charged a s.heap (args_charge a vs) (given_in a vs)))
    (begins_unpaid (args_charge a vs) (by_given a s.heap 0 (given_in a vs)) s c.args.left.now c.pay_args.new.left c.in_err-pay_args.field-0.0 c.from_residual.result c.in_err-pay_args.ensures (q.1 ∙ ap Err q.2))

pub returns-clause-begun : goal.returns-clause-begun
returns-clause-begun c =
    let s = c.args.store.now in
    let a = alphabet_of c.args.which in
    let vs = values_seen s.texts c.args.args.now in
    subst (λ form. IsBegun form s c.args.left.now c.begin_given.new.store c.begin_given.new.left c.begin_given.result) (sym (given_charged a s.heap (args_charge a vs) (given_in a vs)))
    (begins (args_charge a vs) (by_given a s.heap 0 (given_in a vs)) s c.begin_given.new.store c.args.left.now c.pay_args.new.left c.begin_given.new.left c.begin_given.result c.in_ok-pay_args.ensures c.begin_given.ensures.begun)

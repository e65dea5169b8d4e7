use Rattle.std.proofs.Common.{◌∙◌, ap, sym, subst, length, Err}
use Rattle.std.proofs.lemmas.Result.{err_from_is_err_and}
use Rattle.lua_pattern.specs.Read.{read_of, codes}
use Rattle.lua_replacing.specs.LuaMeaningGsub.{letters, given_in, by_given}
use Rattle.lua_iterators.specs.LuaBasicArguments.{text_bytes}
use Rattle.lua_iterators.specs.LuaBasicSeen.{values_seen}
use Rattle.lua_gsubs.specs.Begun.{free_read, IsBegun}
use Rattle.lua_gsubs.specs.Given.{given_seen}
use Rattle.lua_gsubs.specs.Table.{alphabet_of}
use Rattle.lua_gsubs.proofs.GivenArguments.{begins, begins_unpaid, begins_refused, form_of}
use Rattle.lua_gsubs.proofs.beginning.begin_given.Goals as goal

pub returns-in_err-given-clause-begun : goal.returns-in_err-given-clause-begun
returns-in_err-given-clause-begun c =
    let q = err_from_is_err_and c.from_residual.result c.from_residual.ensures.1 in
    let s = c.args.store.now in
    let a = alphabet_of c.args.which in
    begins_refused a (given_in a (values_seen s.texts c.args.args.now)) s c.read_given.new.store c.args.left.now c.in_err-given.field-0.0 c.from_residual.result c.in_err-given.ensures.refused (q.1 ∙ ap Err q.2)

pub returns-in_err-pay-clause-begun : goal.returns-in_err-pay-clause-begun
returns-in_err-pay-clause-begun c =
    let q = err_from_is_err_and c.from_residual-in_err-pay.result c.from_residual-in_err-pay.ensures.1 in
    let s = c.args.store.now in
    let a = alphabet_of c.args.which in
    let g = given_seen s.texts c.in_ok-given.given in
    let free = free_read a s.heap g (read_of (codes (letters a) g.pattern)) in
    let unpaid = rw c.as_slice.ensures at c.in_err-pay.ensures in
    rw c.in_ok-given.ensures.same (subst (λ form. IsBegun form s c.args.left.now s c.pay.new.left c.from_residual-in_err-pay.result) (sym (ap (by_given a s.heap 0) c.in_ok-given.ensures.found ∙ form_of a s.heap g))
    (begins_unpaid (length g.pattern) free s c.args.left.now c.pay.new.left c.in_err-pay.field-0.0 c.from_residual-in_err-pay.result unpaid (q.1 ∙ ap Err q.2)))

pub begin_read-requires : goal.begin_read-requires
begin_read-requires c = rw c.in_ok-given.ensures.same c.in_ok-given.ensures.by

pub returns-clause-begun : goal.returns-clause-begun
returns-clause-begun c =
    let s = c.args.store.now in
    let a = alphabet_of c.args.which in
    let g = given_seen s.texts c.in_ok-given.given in
    let free = free_read a s.heap g (read_of (codes (letters a) g.pattern)) in
    let paid = rw c.as_slice.ensures at c.in_ok-pay.ensures in
    let begun = rw c.in_ok-given.ensures.same at c.begin_read.ensures.begun in
    subst (λ form. IsBegun form s c.args.left.now c.begin_read.new.store c.begin_read.new.left c.begin_read.result) (sym (ap (by_given a s.heap 0) c.in_ok-given.ensures.found ∙ form_of a s.heap g))
    (begins (length g.pattern) free s c.begin_read.new.store c.args.left.now c.pay.new.left c.begin_read.new.left c.begin_read.result paid begun)

use Rattle.std.proofs.Common.{◌∙◌, ◌∷◌, [], ap, refl, arith, length, Err}
use Rattle.std.proofs.lemmas.Result.{err_from_is_err_and}
use Rattle.lua_basic.specs.LuaStoreDeclaredValueValueTheVariants as value
use Rattle.lua_basic.specs.LuaStoreSeen.{StoreView}
use Rattle.lua_strings.specs.Alone.{alone}
use Rattle.lua_strings.proofs.Taken.{values_paid, not_paid}
use Rattle.lua_strings.proofs.paying.give_one_text.Goals as goal

pub returns-in_err-take-clause-answer : goal.returns-in_err-take-clause-answer
returns-in_err-take-clause-answer c =
    let p = err_from_is_err_and c.from_residual.result c.from_residual.ensures.1 in
    not_paid (length c.args.bytes.now) _ c.args.store.now c.args.left.now c.take.new.left c.in_err-take.field-0.0 (alone c.from_residual.result) c.in_err-take.ensures (omega arith) (ap alone (p.1 ∙ ap Err p.2))

pub returns-clause-answer : goal.returns-clause-answer
returns-clause-answer c =
    values_paid (length c.args.bytes.now) c.args.store.now c.text.new.self c.args.left.now c.take.new.left (value.Text c.in_ok-text.text ∷ []) _ c.in_ok-take.ensures (ap (λ (s : StoreView). s.heap) c.in_ok-text.ensures.added) (rw c.in_ok-text.ensures.there refl)

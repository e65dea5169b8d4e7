use Rattle.std.proofs.Common.{◌∙◌, ap, refl, [], ◌∷◌, arith, length, Err}
use Rattle.std.proofs.lemmas.Result.{err_from_is_err_and}
use Rattle.lua_basic.specs.LuaHeapValue as kind
use Rattle.lua_basic.specs.LuaMeaningArguments.{gives_text}
use Rattle.lua_basic.specs.LuaStoreSeen.{StoreView}
use Rattle.lua_basic.specs.Seen.{values_seen}
use Rattle.lua_basic.specs.LuaMeaningTableLibrary.{joined}
use Rattle.lua_tables.proofs.Taken.{paid-short, paid-values}
use Rattle.lua_tables.proofs.Moved.{put-gives}
use Rattle.lua_tables.proofs.joining.join_values.Goals as goal

pub returns-in_err-take_joined-clause-answer : goal.returns-in_err-take_joined-clause-answer
returns-in_err-take_joined-clause-answer c =
    let p = err_from_is_err_and c.from_residual.result c.from_residual.ensures.1 in
    let h = c.args.store.now.heap in
    let text = joined c.args.separator.now (values_seen c.args.store.now.texts c.args.values.now) in
    paid-short (length text) (gives_text h text) c.args.store.now c.args.left.now c.take_joined.new.left _ c.from_residual.result (omega arith) c.in_err-take_joined.ensures (p.1 ∙ ap Err p.2)

pub returns-clause-answer : goal.returns-clause-answer
returns-clause-answer c =
    let h = c.args.store.now.heap in
    let t = c.text.new.self in
    let text = joined c.args.separator.now (values_seen c.args.store.now.texts c.args.values.now) in
    let bytes = c.in_ok-id.ensures.there ∙ c.as_slice.ensures.value ∙ c.in_ok-text.ensures in
    let values = ap (values_seen t.texts) c.in_ok-values.ensures ∙ ap (λ b. kind.Text b ∷ []) bytes in
    paid-values (length text) (gives_text h text) c.args.store.now c.args.left.now t c.take_joined.new.left c.in_ok-values.values c.in_ok-take_joined.ensures
    (put-gives _ _ h t _ c.in_ok-values.values refl (ap (λ (s : StoreView). s.heap) c.in_ok-id.ensures.added) values)

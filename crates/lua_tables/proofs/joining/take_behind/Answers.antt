use Rattle.std.proofs.Common.{◌∙◌, ◌++◌, ap, length, subst, Err}
use Rattle.std.proofs.lemmas.Result.{err_from_is_err_and}
use Rattle.lua_basic.specs.LuaStoreSeen.{seen}
use Rattle.lua_basic.specs.Seen.{values_seen, AllOf}
use Rattle.lua_basic.specs.LuaMeaningTableLibrary.{part, behind_parts}
use Rattle.lua_tables.proofs.Taken.{paying-on, paying-all, paying-short}
use Rattle.lua_tables.proofs.Parts.{parts-length}
use Rattle.lua_tables.proofs.joining.take_behind.Goals as goal

pub parts-preserved : goal.parts-preserved
parts-preserved c =
    let s = c.args.store.now in
    let sep = c.args.separator.now in
    let total = length (behind_parts sep (values_seen s.texts c.args.values.now)) in (
      (subst (AllOf s) c.in-Some.ensures c.parts.invariant.0).1,
      paying-on (length (sep ++ part (seen s.texts c.in-Some.value))) (length (behind_parts sep (values_seen s.texts c.in-Some.more.now))) total (length (behind_parts sep (values_seen s.texts c.parts.rest.now))) c.args.left.now c.parts.left c.take_part.new.left
          (parts-length s.texts sep c.parts.rest.now c.in-Some.more.now c.in-Some.value c.in-Some.ensures) c.parts.invariant.1 c.in_ok-take_part.ensures,
    )

pub returns-in_err-take_part : goal.returns-in_err-take_part
returns-in_err-take_part c =
    let p = err_from_is_err_and c.from_residual.result c.from_residual.ensures.1 in
    let s = c.args.store.now in
    let sep = c.args.separator.now in
    let total = length (behind_parts sep (values_seen s.texts c.args.values.now)) in
    paying-short (length (sep ++ part (seen s.texts c.in-Some.value))) (length (behind_parts sep (values_seen s.texts c.in-Some.more.now))) total (length (behind_parts sep (values_seen s.texts c.parts.rest.now))) c.args.left.now c.parts.left c.take_part.new.left _ c.from_residual.result
    (parts-length s.texts sep c.parts.rest.now c.in-Some.more.now c.in-Some.value c.in-Some.ensures) c.parts.invariant.1 c.in_err-take_part.ensures (p.1 ∙ ap Err p.2)

pub returns : goal.returns
returns c =
    let s = c.args.store.now in
    let sep = c.args.separator.now in
    paying-all (length (behind_parts sep (values_seen s.texts c.args.values.now))) (length (behind_parts sep (values_seen s.texts c.parts.rest.now))) c.args.left.now c.parts.left
    (ap (λ vs. length (behind_parts sep (values_seen s.texts vs))) c.in_default.ensures) c.parts.invariant.1

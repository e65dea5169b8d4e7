use Rattle.std.proofs.Common.{◌∙◌, ap, length, Err}
use Rattle.std.proofs.lemmas.Result.{err_from_is_err_and}
use Rattle.lua_basic.specs.LuaStoreSeen.{seen}
use Rattle.lua_basic.specs.Seen.{values_seen}
use Rattle.lua_basic.specs.LuaMeaningTableLibrary.{part, behind_parts}
use Rattle.lua_tables.proofs.Taken.{both, first_short}
use Rattle.lua_tables.proofs.joining.take_parts.Goals as goal

pub returns-in_err-take_part : goal.returns-in_err-take_part
returns-in_err-take_part c =
    let p = err_from_is_err_and c.from_residual.result c.from_residual.ensures.1 in
    let s = c.args.store.now in
    first_short (length (part (seen s.texts c.args.first))) (length (behind_parts c.args.separator.now (values_seen s.texts c.args.others.now))) c.args.left.now c.take_part.new.left _ c.from_residual.result c.in_err-take_part.ensures (p.1 ∙ ap Err p.2)

pub returns : goal.returns
returns c =
    let s = c.args.store.now in
    both (length (part (seen s.texts c.args.first))) (length (behind_parts c.args.separator.now (values_seen s.texts c.args.others.now))) c.args.left.now c.take_part.new.left c.take_behind.new.left c.take_behind.result c.in_ok-take_part.ensures c.take_behind.ensures

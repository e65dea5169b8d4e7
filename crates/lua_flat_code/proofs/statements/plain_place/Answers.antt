use Rattle.std.proofs.Common.{◌≡◌, ◌∙◌, length, arith}
use Rattle.lua_flat_code.proofs.Handed.{only_one}
use Rattle.lua_flat_code.proofs.StatementLaws.{local_alone}
use Rattle.lua_flat_code.proofs.statements.plain_place.Goals as goal

pub returns : goal.returns
returns c =
    let one : length c.args.values.now ≡ 1 = omega (arith, c.if-values-ne1.false) in
    local_alone _ _ _ (only_one c.args.values.now c.index-values-0.result one c.index-values-0.is) c.plain_of.ensures

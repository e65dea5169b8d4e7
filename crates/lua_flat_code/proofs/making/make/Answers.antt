use Rattle.std.proofs.Common.{◌≡◌, ◌∙◌, length, ap, refl}
use Rattle.lua_flat_code.proofs.FunctionLaws.{said_made}
use Rattle.lua_flat_code.proofs.making.make.Goals as goal

pub returns : goal.returns
returns c = said_made c.args.protos _ _ _ _ _ _ (c.in_ok-maker.ensures.0 ∙ ap length c.as_slice.ensures) c.in_ok-maker.ensures.2 c.in_ok-text.ensures c.as_slice-2.ensures c.in_ok-functions.ensures c.in_ok-constants.ensures c.as_slice-3.ensures refl

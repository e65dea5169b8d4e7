use Rattle.std.proofs.Common.{◌∙◌, subst, sym}
use Rattle.std.specs.Prelude.{IfSome}
use Rattle.lua_state.specs.Worlds.{IsFound}
use Rattle.lua_state.proofs.FoundCode.{looked_up}
use Rattle.lua_state.proofs.codes.known_module.Goals as goal

pub returns : goal.returns
returns c = λ w s all. subst (λ o. IfSome o (λ k. IsFound w s c.args.source k.functions.now)) (sym (c.copied.ensures ∙ c.get.ensures.value)) (looked_up w s c.args.known.now.entries c.args.source all)

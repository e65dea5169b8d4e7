use Rattle.lua_flat_code.specs.Making.{state_of}
use Rattle.std.proofs.Common.{◌∙◌, sym}
use Rattle.std.proofs.lemmas.Result.{on_ok_weaker}
use Rattle.lua_flat_code.proofs.TargetLaws.{begun_into, begun_variable, variable_plain}
use Rattle.lua_flat_code.proofs.maker.Maker.assign_plain.Goals as goal

pub returns-then-writes_last : goal.returns-then-writes_last
returns-then-writes_last c = on_ok_weaker c.value.result (λ h. begun_into _ _ _ _ _ _ c.in_ok-to.ensures (sym c.writes_last.ensures ∙ c.if-writes_last.true) h) c.value.ensures

pub returns : goal.returns
returns c = on_ok_weaker c.set.result (λ h. begun_variable _ _ _ _ _ _ _ _ _ (variable_plain (state_of c.args.self.now) _ _ c.in_ok-to.ensures) c.in_ok-from.ensures h) c.set.ensures

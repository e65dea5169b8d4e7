use Rattle.std.proofs.Common.{◌∙◌}
use Rattle.lua_scopes.proofs.WholeLaws.{entered_from}
use Rattle.lua_scopes.proofs.scopes.Scopes.enter.Goals as goal

pub invariant_of-self : goal.invariant_of-self
invariant_of-self c = λ e. entered_from _ _ _ _ _ _ (c.replace-around.ensures.after ∙ c.new-inner.ensures) c.in-Ok.ensures.ok c.replace-around.ensures.value (c.self.invariant e)

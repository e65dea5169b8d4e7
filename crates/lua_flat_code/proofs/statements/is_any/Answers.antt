use Rattle.std.proofs.Common.{◌∙◌, ◌∷◌, ap, sym}
use Rattle.lua_flat.specs.IsStatement.{is_any}
use Rattle.lua_flat_code.proofs.Handed.{nothing_left}
use Rattle.lua_flat_code.proofs.statements.is_any.Goals as goal

pub returns-then-first : goal.returns-then-first
returns-then-first c = sym (sym c.flags.invariant ∙ ap is_any c.in-Some.ensures.cases.0 ∙ ap (λ b. is_any (b ∷ c.in-Some.rest.now)) c.if-first.true)

pub flags-preserved : goal.flags-preserved
flags-preserved c = sym (ap is_any c.in-Some.ensures.cases.0 ∙ ap (λ b. is_any (b ∷ c.in-Some.rest.now)) c.if-first.false) ∙ c.flags.invariant

pub returns : goal.returns
returns c = sym (sym c.flags.invariant ∙ ap is_any (nothing_left _ c.in_default.ensures.cases))

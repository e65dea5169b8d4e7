use Rattle.std.proofs.Common.{◌∙◌, sym}
use Rattle.std.proofs.lemmas.Result.{on_ok_weaker}
use Rattle.lua_flat_code.proofs.StatementLaws.{opened_none, said_opened}
use Rattle.lua_flat_code.proofs.maker.Maker.open.Goals as goal

pub returns-then-is_any : goal.returns-then-is_any
returns-then-is_any c = on_ok_weaker c.emit.result (λ e. said_opened _ _ _ _ _ _ _ (sym c.is_any.ensures ∙ c.if-is_any.true) c.in_ok-part.ensures e) c.emit.ensures

pub returns : goal.returns
returns c = opened_none _ _ _ (sym c.is_any.ensures ∙ c.if-is_any.false)

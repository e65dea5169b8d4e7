use Rattle.std.proofs.lemmas.Result.{on_ok_weaker}
use Rattle.lua_flat_code.proofs.StatementLaws.{begun_called, begun_valued_next}
use Rattle.lua_flat_code.proofs.maker.Maker.alone.Goals as goal

pub returns-then-is_many : goal.returns-then-is_many
returns-then-is_many c = on_ok_weaker c.many.result (λ h. begun_called _ _ _ _ _ c.in_ok-wanted.ensures h) c.many.ensures

pub returns : goal.returns
returns c = on_ok_weaker c.value.result (λ h. begun_valued_next _ _ _ _ _ _ c.in_ok-next.ensures.0 c.in_ok-next.ensures.1 h) c.value.ensures

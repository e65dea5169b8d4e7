use Rattle.std.proofs.Common.{◌≡◌, ◌∙◌, sym, arith}
use Rattle.std.proofs.lemmas.Result.{on_ok_weaker}
use Rattle.lua_flat_code.proofs.ListLaws.{exact_call, exact_padded, exact_one_more}
use Rattle.lua_flat_code.proofs.maker.Maker.exact_last.Goals as goal

pub returns-then-is_many : goal.returns-then-is_many
returns-then-is_many c = on_ok_weaker c.many.result (λ h. exact_call _ _ _ _ _ _ _ c.in_ok-reach.ensures c.in_ok-wanted.ensures h) c.many.ensures

pub returns-then-missing-gt1 : goal.returns-then-missing-gt1
returns-then-missing-gt1 c = on_ok_weaker c.nils.result (λ h. exact_padded _ _ _ _ _ _ _ _ c.in_ok-next.ensures.0 c.in_ok-next.ensures.1 c.in_ok-value.ensures (λ k. sym c.is_many.ensures ∙ c.if-is_many.false) (omega (arith, c.if-missing-gt1.true)) h) c.nils.ensures

pub returns : goal.returns
returns c = exact_one_more _ _ _ _ _ _ _ c.in_ok-next.ensures.0 (omega (arith, c.if-missing-gt1.false)) c.in_ok-next.ensures.1 c.in_ok-value.ensures (λ k. sym c.is_many.ensures ∙ c.if-is_many.false)

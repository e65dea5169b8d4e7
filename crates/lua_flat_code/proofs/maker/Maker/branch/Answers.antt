use Rattle.std.proofs.Common.{◌∙◌, sym}
use Rattle.lua_flat_code.proofs.ViewLaws.{operate_seen}
use Rattle.lua_flat_code.proofs.TestLaws.{branch_as}
use Rattle.lua_flat_code.proofs.maker.Maker.branch.Goals as goal

pub returns-in_ok-jump-in-Operate : goal.returns-in_ok-jump-in-Operate
returns-in_ok-jump-in-Operate c =
    branch_as _ _ _ _ _ _ _ (operate_seen _ _ _ _ _ _ _ c.in-Operate.is c.deref.ensures c.deref-in-Operate.ensures) (c.in_ok-jump-in-Operate.ensures (sym c.is_comparison.ensures ∙ c.if-not-is_comparison.false))

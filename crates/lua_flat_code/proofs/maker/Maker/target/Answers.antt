use Rattle.lua_flat_code.proofs.TargetLaws.{said_entry_target, target_variable}
use Rattle.lua_flat_code.proofs.maker.Maker.target.Goals as goal

pub returns-in_ok-push-in-At : goal.returns-in_ok-push-in-At
returns-in_ok-push-in-At c =
    said_entry_target _ _ _ _ _ _ _ _ _ _ _ _ c.in-At.is c.in_ok-next-in-At.ensures c.in_ok-table-in-At.ensures.1 c.in_ok-table-in-At.ensures.0 c.in_ok-place-in-At.ensures.1 c.in_ok-place-in-At.ensures.0 c.in_ok-push-in-At.ensures.ok

pub returns-in_ok-push-in_default : goal.returns-in_ok-push-in_default
returns-in_ok-push-in_default c = target_variable _ _ _ _ _ _ c.in_ok-variable-in_default.ensures c.in_ok-push-in_default.ensures.ok

use Rattle.lua_turns.proofs.statements.wait_to_assign.Goals as goal

pub returns : goal.returns
returns c = rw (c.in_ok-push-2.ensures.ok, c.in_ok-targets.ensures, c.in_ok-push.ensures.ok) at c.wait_for_one.ensures

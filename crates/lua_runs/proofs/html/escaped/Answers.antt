use Rattle.lua_runs.proofs.Behind.{escaped_put}
use Rattle.lua_runs.proofs.html.escaped.Goals as goal

pub bytes-preserved : goal.bytes-preserved
bytes-preserved c = escaped_put _ _ _ _ _ _ c.in-Some.ensures c.in_ok-put.ensures c.bytes.invariant

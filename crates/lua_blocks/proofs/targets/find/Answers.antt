use Rattle.std.proofs.lemmas.Result.{IfOk-weaker}
use Rattle.std.proofs.Common.{refl}
use Rattle.lua_state.proofs.Making.{counts_none}
use Rattle.lua_blocks.proofs.targets.find.Goals as goal

pub returns-in-None : goal.returns-in-None
returns-in-None g c = rw c.in-None.ensures (IfOk-weaker c.all_found.result _ _ (λ r e. counts_none _ _ _ _ _ _ _ _ _ _ refl e) (c.all_found.ensures c.args.left.now))

pub returns-in-Some : goal.returns-in-Some
returns-in-Some g c = rw c.in-Some.ensures c.find_first.ensures

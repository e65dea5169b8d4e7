use Rattle.std.proofs.Common.{refl}
use Rattle.std.proofs.lemmas.Result.{IfOk-weaker}
use Rattle.lua_state.proofs.Making.{counts_none}
use Rattle.lua_blocks.proofs.targets.find_first.Goals as goal

pub returns-in-Variable : goal.returns-in-Variable
returns-in-Variable g c = rw c.in-Variable.is (IfOk-weaker c.found.result _ _ (λ r e. counts_none _ _ _ _ _ _ _ _ _ r refl e) (c.found.ensures c.args.left.now))

pub returns-in-Global : goal.returns-in-Global
returns-in-Global g c = rw c.in-Global.is (IfOk-weaker c.find_global.result _ _ (λ r e. counts_none _ _ _ _ _ _ _ _ _ r refl e) (c.find_global.ensures c.args.left.now))

pub entry-requires-clause-waiting : goal.entry-requires-clause-waiting
entry-requires-clause-waiting g c = rw c.in_ok-finding-in-At.ensures c.requires.before

pub returns-in-Refused : goal.returns-in-Refused
returns-in-Refused g c = rw c.in-Refused.is (IfOk-weaker c.refuse.result _ _ (λ r e. counts_none _ _ _ _ _ _ _ _ _ r refl e) (c.refuse.ensures c.args.left.now))

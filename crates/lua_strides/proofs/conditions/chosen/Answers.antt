use Rattle.std.proofs.Common.{◌∙◌}
use Rattle.lua_code.specs.Seen.{block_seen}
use Rattle.lua_strides.proofs.Branching.{chooses_body}
use Rattle.lua_strides.proofs.conditions.chosen.Goals as goal

pub returns-then-holds : goal.returns-then-holds
returns-then-holds c = λ world test rest s v n fs is e. chooses_body _ _ _ world test rest s v n fs is (e ∙ c.if-holds.true)

pub returns-in-None : goal.returns-in-None
returns-in-None c = λ world test rest s v n fs is e. rw c.in-None.ensures (c.chosen_else.ensures (block_seen c.args.body.now) world test rest s v n fs is (e ∙ c.if-holds.false))

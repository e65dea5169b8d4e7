use Rattle.lua_code.specs.Seen.{block_seen}
use Rattle.lua_strides.proofs.Branching.{chooses_rest, chooses_else}
use Rattle.lua_strides.proofs.conditions.chosen_else.Goals as goal

pub returns-in-Some : goal.returns-in-Some
returns-in-Some c = λ first world test rest s v n fs is e. rw c.in-Some.is (chooses_else first (block_seen c.in-Some.body) world test rest s v n fs is e)

pub returns-in-None : goal.returns-in-None
returns-in-None c = λ first world test rest s v n fs is e. rw c.in-None.is (chooses_rest first world test rest s v n fs is e)

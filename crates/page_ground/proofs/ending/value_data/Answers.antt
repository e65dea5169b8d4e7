use Rattle.std.proofs.Common.{◌∙◌, ap, sym}
use Rattle.page_meaning.specs.LuaMeaningQuestions.{LoadFailed}
use Rattle.lua_graph.specs.LuaWalkData.{taken}
use Rattle.lua_graph.specs.LuaStoreSeen.{seen}
use Rattle.page_meaning.specs.Told.{graph_answer}
use Rattle.page_ground.proofs.ending.value_data.Goals as goal

pub returns-in-Ok-clause-data : goal.returns-in-Ok-clause-data
returns-in-Ok-clause-data c = sym (ap graph_answer c.in-Ok.ensures.graph)

pub returns-in-Ok-clause-put : goal.returns-in-Ok-clause-put
returns-in-Ok-clause-put c = c.in-Ok.ensures.made

pub returns-in_ok-copy-in-Some-clause-data : goal.returns-in_ok-copy-in-Some-clause-data
returns-in_ok-copy-in-Some-clause-data c = ap LoadFailed c.in_ok-copy-in-Some.ensures ∙ sym (c.in-Some.ensures (taken c.args.store.now.heap (seen c.args.store.now.texts c.args.value)) c.in-Err.ensures.fault)

pub returns-in_ok-copy-in-Some-clause-put : goal.returns-in_ok-copy-in-Some-clause-put
returns-in_ok-copy-in-Some-clause-put c = tt

use Rattle.std.proofs.Common.{ap, subst}
use Rattle.lua_graph.specs.declared.fault.DataFault.{DataFault}
use Rattle.lua_graph.specs.Taken.{IsFault}
use Rattle.page_meaning.specs.Told.{graph_answer}
use Rattle.page_ground.proofs.ending.fault_message.Goals as goal

pub returns-in-NotATable : goal.returns-in-NotATable
returns-in-NotATable c = λ r e. ap graph_answer (subst (λ (f : DataFault). IsFault r f) c.in-NotATable.is e)

pub returns-in-HasFunction : goal.returns-in-HasFunction
returns-in-HasFunction c = λ r e. ap graph_answer (subst (λ (f : DataFault). IsFault r f) c.in-HasFunction.is e)

pub returns-in-HasMetatable : goal.returns-in-HasMetatable
returns-in-HasMetatable c = λ r e. ap graph_answer (subst (λ (f : DataFault). IsFault r f) c.in-HasMetatable.is e)

pub returns-in-BadKey : goal.returns-in-BadKey
returns-in-BadKey c = λ r e. ap graph_answer (subst (λ (f : DataFault). IsFault r f) c.in-BadKey.is e)

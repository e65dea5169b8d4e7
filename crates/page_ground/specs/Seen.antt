-- WHAT A LOAD OF DATA GAVE, as the meaning has it.
use Rattle.page_meaning.specs.LuaMeaningQuestions.{Answer, Loaded, LoadFailed}
use Rattle.lua_graph.specs.Plain.{plain_graph}
use Rattle.lua_graph.specs.Put.{IsMade}
use Rattle.page_ground.specs.declared.data.Data.{Data}
use Rattle.page_ground.specs.declared.data.Data.TheVariants as data_

abbrev pub data_seen : Data → Answer
data_seen (data_.Tables graph) = Loaded (plain_graph graph)
data_seen (data_.Failed message) = LoadFailed message

-- a graph can be put into a store
abbrev pub CanBePut : Data → Type 0
CanBePut (data_.Tables graph) = IsMade graph
CanBePut (data_.Failed message) = Unit {0}

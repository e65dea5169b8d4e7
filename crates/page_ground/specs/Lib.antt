pub use Rattle.lua_graph.specs.LuaHeapGraph as LuaHeapGraph
pub use Rattle.lua_graph.specs.LuaStoreDeclaredIdsTextId as LuaStoreDeclaredIdsTextId
pub use Rattle.lua_graph.specs.LuaStoreDeclaredValueValue as LuaStoreDeclaredValueValue
pub use Rattle.lua_graph.specs.Plain as LuaGraphPlain
pub use Rattle.lua_graph.specs.Put as LuaGraphPut
pub use Rattle.lua_graph.specs.declared.graph.Graph as LuaGraphDeclaredGraphGraph
pub use Rattle.lua_state.specs.LuaStackDeclaredActivationActivation as LuaStackDeclaredActivationActivation
pub use Rattle.lua_state.specs.LuaStackDeclaredActivationCallee as LuaStackDeclaredActivationCallee
pub use Rattle.lua_state.specs.LuaStackDeclaredEnvironmentEnvironment as LuaStackDeclaredEnvironmentEnvironment
pub use Rattle.lua_state.specs.LuaStackDeclaredFocusWork as LuaStackDeclaredFocusWork
pub use Rattle.lua_state.specs.LuaStackDeclaredFrameThing as LuaStackDeclaredFrameThing
pub use Rattle.lua_state.specs.LuaStackDeclaredFrameThingTheVariants as LuaStackDeclaredFrameThingTheVariants
pub use Rattle.lua_state.specs.MwFramesDeclaredScenesSceneFrame as MwFramesDeclaredScenesSceneFrame
pub use Rattle.lua_state.specs.MwFramesDeclaredScenesScenes as MwFramesDeclaredScenesScenes
pub use Rattle.lua_state.specs.MwFramesScenes as MwFramesScenes
pub use Rattle.lua_state.specs.Seen as LuaStateSeen
pub use Rattle.lua_state.specs.declared.codes.Codes as LuaStateDeclaredCodesCodes
pub use Rattle.lua_state.specs.declared.codes.Recent as LuaStateDeclaredCodesRecent
pub use Rattle.lua_state.specs.declared.codes.World as LuaStateDeclaredCodesWorld
pub use Rattle.lua_state.specs.declared.held.Held as LuaStateDeclaredHeldHeld
pub use Rattle.page_meaning.specs.LuaMeaningQuestions as LuaMeaningQuestions
pub use Rattle.page_meaning.specs.LuaMeaningStart as LuaMeaningStart
pub use Rattle.page_meaning.specs.Outcomes as PageMeaningOutcomes
pub use Rattle.page_meaning.specs.Tasks as PageMeaningTasks
pub use Rattle.page_meaning.specs.Wiki as PageMeaningWiki
pub use Rattle.page_meaning.specs.declared.outcome.JobOutcome as PageMeaningDeclaredOutcomeJobOutcome
pub use Rattle.page_meaning.specs.declared.outcome.JobOutcome.TheVariants as PageMeaningDeclaredOutcomeJobOutcomeTheVariants
pub use Rattle.page_points.specs.Apart as PagePointsApart
pub use Rattle.page_points.specs.Loads as PagePointsLoads
pub use Rattle.page_points.specs.LuaPointsFamilies as LuaPointsFamilies
pub use Rattle.page_points.specs.LuaPointsTold as LuaPointsTold
pub use Rattle.page_points.specs.Machines as PagePointsMachines
pub use Rattle.page_points.specs.Places as PagePointsPlaces
pub mod Ground
pub mod Seen
pub mod Ending
pub mod Kept
pub mod Numbered

pub use Rattle.lua_basic.specs.Arguments as LuaBasicArguments
pub use Rattle.lua_basic.specs.LuaHeapDeclaredLibraryLibrary as LuaHeapDeclaredLibraryLibrary
pub use Rattle.lua_basic.specs.LuaHeapHeap as LuaHeapHeap
pub use Rattle.lua_basic.specs.LuaHeapProc as LuaHeapProc
pub use Rattle.lua_basic.specs.LuaHeapTable as LuaHeapTable
pub use Rattle.lua_basic.specs.LuaHeapValue as LuaHeapValue
pub use Rattle.lua_basic.specs.LuaMeaningActs as LuaMeaningActs
pub use Rattle.lua_basic.specs.LuaMeaningArguments as LuaMeaningArguments
pub use Rattle.lua_basic.specs.LuaMeaningBasic as LuaMeaningBasic
pub use Rattle.lua_basic.specs.LuaMeaningCharges as LuaMeaningCharges
pub use Rattle.lua_basic.specs.LuaMeaningChecks as LuaMeaningChecks
pub use Rattle.lua_basic.specs.LuaMeaningFrameMethods as LuaMeaningFrameMethods
pub use Rattle.lua_basic.specs.LuaMeaningLibraries as LuaMeaningLibraries
pub use Rattle.lua_basic.specs.LuaMeaningMessages as LuaMeaningMessages
pub use Rattle.lua_basic.specs.LuaMeaningMetatables as LuaMeaningMetatables
pub use Rattle.lua_basic.specs.LuaMeaningQuestions as LuaMeaningQuestions
pub use Rattle.lua_basic.specs.LuaMeaningScope as LuaMeaningScope
pub use Rattle.lua_basic.specs.LuaMeaningTag as LuaMeaningTag
pub use Rattle.lua_basic.specs.LuaMeaningTextArguments as LuaMeaningTextArguments
pub use Rattle.lua_basic.specs.LuaMeaningTexts as LuaMeaningTexts
pub use Rattle.lua_basic.specs.LuaMeaningUstring as LuaMeaningUstring
pub use Rattle.lua_basic.specs.LuaMeaningValues as LuaMeaningValues
pub use Rattle.lua_basic.specs.LuaMeaningWorld as LuaMeaningWorld
pub use Rattle.lua_basic.specs.LuaStoreContractsIdsTextIdPartialEqTheImpl as LuaStoreContractsIdsTextIdPartialEqTheImpl
pub use Rattle.lua_basic.specs.LuaStoreDeclaredIdsClosureId as LuaStoreDeclaredIdsClosureId
pub use Rattle.lua_basic.specs.LuaStoreDeclaredIdsTableId as LuaStoreDeclaredIdsTableId
pub use Rattle.lua_basic.specs.LuaStoreDeclaredIdsTextId as LuaStoreDeclaredIdsTextId
pub use Rattle.lua_basic.specs.LuaStoreDeclaredValueValue as LuaStoreDeclaredValueValue
pub use Rattle.lua_basic.specs.LuaStoreDeclaredValueValueTheVariants as LuaStoreDeclaredValueValueTheVariants
pub use Rattle.lua_basic.specs.LuaStoreParts as LuaStoreParts
pub use Rattle.lua_basic.specs.LuaStoreSeen as LuaStoreSeen
pub use Rattle.lua_basic.specs.Seen as LuaBasicSeen
pub use Rattle.lua_basic.specs.declared.stop.Stop as LuaBasicDeclaredStopStop
pub use Rattle.lua_basic.specs.declared.stop.Stop.TheVariants as LuaBasicDeclaredStopStopTheVariants
pub use Rattle.lua_basic.specs.declared.texts.TextIn as LuaBasicDeclaredTextsTextIn
pub use Rattle.lua_home.specs.LuaGraphPut as LuaGraphPut
pub use Rattle.lua_home.specs.LuaHeapDeclaredLibraryLibraryTheVariants as LuaHeapDeclaredLibraryLibraryTheVariants
pub use Rattle.lua_home.specs.LuaHeapGraph as LuaHeapGraph
pub use Rattle.lua_home.specs.LuaMeaningFrames as LuaMeaningFrames
pub use Rattle.mw_frame.specs.WkBaseDeclaredLeftLeft as WkBaseDeclaredLeftLeft
pub mod Scenes
pub mod Making
pub mod Costs
pub mod Reading
pub mod Merging

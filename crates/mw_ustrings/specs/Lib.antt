pub use Rattle.lua_number.specs.WkBaseDeclaredLeftLeft as WkBaseDeclaredLeftLeft
pub use Rattle.mw_frame_texts.specs.LuaBasicArguments as LuaBasicArguments
pub use Rattle.mw_frame_texts.specs.LuaBasicDeclaredStopStop as LuaBasicDeclaredStopStop
pub use Rattle.mw_frame_texts.specs.LuaBasicDeclaredStopStopTheVariants as LuaBasicDeclaredStopStopTheVariants
pub use Rattle.mw_frame_texts.specs.LuaBasicDeclaredTextsTextIn as LuaBasicDeclaredTextsTextIn
pub use Rattle.mw_frame_texts.specs.LuaBasicSeen as LuaBasicSeen
pub use Rattle.mw_frame_texts.specs.LuaGraphPut as LuaGraphPut
pub use Rattle.mw_frame_texts.specs.LuaHeapDeclaredLibraryLibrary as LuaHeapDeclaredLibraryLibrary
pub use Rattle.mw_frame_texts.specs.LuaHeapDeclaredLibraryLibraryTheVariants as LuaHeapDeclaredLibraryLibraryTheVariants
pub use Rattle.mw_frame_texts.specs.LuaHeapGraph as LuaHeapGraph
pub use Rattle.mw_frame_texts.specs.LuaHeapHeap as LuaHeapHeap
pub use Rattle.mw_frame_texts.specs.LuaHeapProc as LuaHeapProc
pub use Rattle.mw_frame_texts.specs.LuaHeapTable as LuaHeapTable
pub use Rattle.mw_frame_texts.specs.LuaHeapValue as LuaHeapValue
pub use Rattle.mw_frame_texts.specs.LuaMeaningActs as LuaMeaningActs
pub use Rattle.mw_frame_texts.specs.LuaMeaningArguments as LuaMeaningArguments
pub use Rattle.mw_frame_texts.specs.LuaMeaningBasic as LuaMeaningBasic
pub use Rattle.mw_frame_texts.specs.LuaMeaningCharges as LuaMeaningCharges
pub use Rattle.mw_frame_texts.specs.LuaMeaningChecks as LuaMeaningChecks
pub use Rattle.mw_frame_texts.specs.LuaMeaningFrames as LuaMeaningFrames
pub use Rattle.mw_frame_texts.specs.LuaMeaningLibraries as LuaMeaningLibraries
pub use Rattle.mw_frame_texts.specs.LuaMeaningMetatables as LuaMeaningMetatables
pub use Rattle.mw_frame_texts.specs.LuaMeaningScope as LuaMeaningScope
pub use Rattle.mw_frame_texts.specs.LuaMeaningTag as LuaMeaningTag
pub use Rattle.mw_frame_texts.specs.LuaMeaningTextArguments as LuaMeaningTextArguments
pub use Rattle.mw_frame_texts.specs.LuaMeaningTexts as LuaMeaningTexts
pub use Rattle.mw_frame_texts.specs.LuaMeaningValues as LuaMeaningValues
pub use Rattle.mw_frame_texts.specs.LuaMeaningWorld as LuaMeaningWorld
pub use Rattle.mw_frame_texts.specs.LuaStoreDeclaredIdsTableId as LuaStoreDeclaredIdsTableId
pub use Rattle.mw_frame_texts.specs.LuaStoreDeclaredValueValue as LuaStoreDeclaredValueValue
pub use Rattle.mw_frame_texts.specs.LuaStoreDeclaredValueValueTheVariants as LuaStoreDeclaredValueValueTheVariants
pub use Rattle.mw_frame_texts.specs.LuaStoreParts as LuaStoreParts
pub use Rattle.mw_frame_texts.specs.LuaStoreSeen as LuaStoreSeen
pub use Rattle.mw_frame_texts.specs.MwFramesCosts as MwFramesCosts
pub use Rattle.mw_frame_texts.specs.MwFramesScenes as MwFramesScenes
pub use Rattle.mw_frame_texts.specs.Read as MwFrameTextsRead
pub use Rattle.mw_text.specs.MwUstringTexts as MwUstringTexts
pub mod Table
pub mod Faults
pub mod Charges
pub mod CodePoints
pub mod Forms

pub use Rattle.lua_basic.specs.Arguments as LuaBasicArguments
pub use Rattle.lua_basic.specs.LuaHeapDeclaredLibraryLibrary as LuaHeapDeclaredLibraryLibrary
pub use Rattle.lua_basic.specs.LuaHeapDeclaredLibraryLibraryTheVariants as LuaHeapDeclaredLibraryLibraryTheVariants
pub use Rattle.lua_basic.specs.LuaHeapHeap as LuaHeapHeap
pub use Rattle.lua_basic.specs.LuaHeapProc as LuaHeapProc
pub use Rattle.lua_basic.specs.LuaHeapValue as LuaHeapValue
pub use Rattle.lua_basic.specs.LuaMeaningActs as LuaMeaningActs
pub use Rattle.lua_basic.specs.LuaMeaningArguments as LuaMeaningArguments
pub use Rattle.lua_basic.specs.LuaMeaningChecks as LuaMeaningChecks
pub use Rattle.lua_basic.specs.LuaMeaningHtml as LuaMeaningHtml
pub use Rattle.lua_basic.specs.LuaMeaningHtmlNodes as LuaMeaningHtmlNodes
pub use Rattle.lua_basic.specs.LuaMeaningIterators as LuaMeaningIterators
pub use Rattle.lua_basic.specs.LuaMeaningLibraries as LuaMeaningLibraries
pub use Rattle.lua_basic.specs.LuaMeaningMessages as LuaMeaningMessages
pub use Rattle.lua_basic.specs.LuaMeaningMetatables as LuaMeaningMetatables
pub use Rattle.lua_basic.specs.LuaMeaningScope as LuaMeaningScope
pub use Rattle.lua_basic.specs.LuaMeaningTextArguments as LuaMeaningTextArguments
pub use Rattle.lua_basic.specs.LuaMeaningTexts as LuaMeaningTexts
pub use Rattle.lua_basic.specs.LuaMeaningValues as LuaMeaningValues
pub use Rattle.lua_basic.specs.LuaMeaningWorld as LuaMeaningWorld
pub use Rattle.lua_basic.specs.LuaStoreDeclaredIdsCellId as LuaStoreDeclaredIdsCellId
pub use Rattle.lua_basic.specs.LuaStoreDeclaredIdsClosureId as LuaStoreDeclaredIdsClosureId
pub use Rattle.lua_basic.specs.LuaStoreDeclaredIdsMarkupId as LuaStoreDeclaredIdsMarkupId
pub use Rattle.lua_basic.specs.LuaStoreDeclaredIdsTextId as LuaStoreDeclaredIdsTextId
pub use Rattle.lua_basic.specs.LuaStoreDeclaredMarkupMarkupChild as LuaStoreDeclaredMarkupMarkupChild
pub use Rattle.lua_basic.specs.LuaStoreDeclaredMarkupMarkupChildTheVariants as LuaStoreDeclaredMarkupMarkupChildTheVariants
pub use Rattle.lua_basic.specs.LuaStoreDeclaredMarkupMarkupNode as LuaStoreDeclaredMarkupMarkupNode
pub use Rattle.lua_basic.specs.LuaStoreDeclaredMarkupMarkupStyle as LuaStoreDeclaredMarkupMarkupStyle
pub use Rattle.lua_basic.specs.LuaStoreDeclaredMarkupMarkupStyleTheVariants as LuaStoreDeclaredMarkupMarkupStyleTheVariants
pub use Rattle.lua_basic.specs.LuaStoreDeclaredMarkupTextPair as LuaStoreDeclaredMarkupTextPair
pub use Rattle.lua_basic.specs.LuaStoreDeclaredValueValue as LuaStoreDeclaredValueValue
pub use Rattle.lua_basic.specs.LuaStoreDeclaredValueValueTheVariants as LuaStoreDeclaredValueValueTheVariants
pub use Rattle.lua_basic.specs.LuaStoreParts as LuaStoreParts
pub use Rattle.lua_basic.specs.LuaStoreSeen as LuaStoreSeen
pub use Rattle.lua_basic.specs.Objects as LuaBasicObjects
pub use Rattle.lua_basic.specs.Seen as LuaBasicSeen
pub use Rattle.lua_basic.specs.WkBaseDeclaredLeftLeft as WkBaseDeclaredLeftLeft
pub use Rattle.lua_basic.specs.declared.stop.Stop as LuaBasicDeclaredStopStop
pub use Rattle.lua_basic.specs.declared.stop.Stop.TheVariants as LuaBasicDeclaredStopStopTheVariants
pub use Rattle.lua_basic.specs.declared.texts.TextIn as LuaBasicDeclaredTextsTextIn
pub mod Alone
pub mod Table
pub mod Costs
pub mod Found
pub mod Examples

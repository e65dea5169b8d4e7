pub use Rattle.lua_meaning.specs.Acts as LuaMeaningActs
pub use Rattle.lua_meaning.specs.Arguments as LuaMeaningArguments
pub use Rattle.lua_meaning.specs.Basic as LuaMeaningBasic
pub use Rattle.lua_meaning.specs.CallBacks as LuaMeaningCallBacks
pub use Rattle.lua_meaning.specs.Charges as LuaMeaningCharges
pub use Rattle.lua_meaning.specs.Checks as LuaMeaningChecks
pub use Rattle.lua_meaning.specs.Formats as LuaMeaningFormats
pub use Rattle.lua_meaning.specs.FrameMethods as LuaMeaningFrameMethods
pub use Rattle.lua_meaning.specs.Frames as LuaMeaningFrames
pub use Rattle.lua_meaning.specs.Html as LuaMeaningHtml
pub use Rattle.lua_meaning.specs.HtmlNodes as LuaMeaningHtmlNodes
pub use Rattle.lua_meaning.specs.Iterators as LuaMeaningIterators
pub use Rattle.lua_meaning.specs.Libraries as LuaMeaningLibraries
pub use Rattle.lua_meaning.specs.LuaHeapDeclaredLibraryLibrary as LuaHeapDeclaredLibraryLibrary
pub use Rattle.lua_meaning.specs.LuaHeapDeclaredLibraryLibraryTheVariants as LuaHeapDeclaredLibraryLibraryTheVariants
pub use Rattle.lua_meaning.specs.LuaHeapValue as LuaHeapValue
pub use Rattle.lua_meaning.specs.Messages as LuaMeaningMessages
pub use Rattle.lua_meaning.specs.Metatables as LuaMeaningMetatables
pub use Rattle.lua_meaning.specs.Mw as LuaMeaningMw
pub use Rattle.lua_meaning.specs.Numbers as LuaMeaningNumbers
pub use Rattle.lua_meaning.specs.Questions as LuaMeaningQuestions
pub use Rattle.lua_meaning.specs.Scope as LuaMeaningScope
pub use Rattle.lua_meaning.specs.Searches as LuaMeaningSearches
pub use Rattle.lua_meaning.specs.Strings as LuaMeaningStrings
pub use Rattle.lua_meaning.specs.TableLibrary as LuaMeaningTableLibrary
pub use Rattle.lua_meaning.specs.Tag as LuaMeaningTag
pub use Rattle.lua_meaning.specs.TextArguments as LuaMeaningTextArguments
pub use Rattle.lua_meaning.specs.Texts as LuaMeaningTexts
pub use Rattle.lua_meaning.specs.Ustring as LuaMeaningUstring
pub use Rattle.lua_meaning.specs.Values as LuaMeaningValues
pub use Rattle.lua_meaning.specs.World as LuaMeaningWorld
pub use Rattle.lua_number.specs.WkBaseDeclaredLeftLeft as WkBaseDeclaredLeftLeft
pub use Rattle.lua_store.specs.LuaHeapHeap as LuaHeapHeap
pub use Rattle.lua_store.specs.LuaHeapProc as LuaHeapProc
pub use Rattle.lua_store.specs.LuaHeapTable as LuaHeapTable
pub use Rattle.lua_store.specs.LuaTableEntries as LuaTableEntries
pub use Rattle.lua_store.specs.Parts as LuaStoreParts
pub use Rattle.lua_store.specs.Seen as LuaStoreSeen
pub use Rattle.lua_store.specs.contracts.ids.TextIdPartialEq.TheImpl as LuaStoreContractsIdsTextIdPartialEqTheImpl
pub use Rattle.lua_store.specs.declared.ids.CellId as LuaStoreDeclaredIdsCellId
pub use Rattle.lua_store.specs.declared.ids.ClosureId as LuaStoreDeclaredIdsClosureId
pub use Rattle.lua_store.specs.declared.ids.MarkupId as LuaStoreDeclaredIdsMarkupId
pub use Rattle.lua_store.specs.declared.ids.TableId as LuaStoreDeclaredIdsTableId
pub use Rattle.lua_store.specs.declared.ids.TextId as LuaStoreDeclaredIdsTextId
pub use Rattle.lua_store.specs.declared.markup.MarkupChild as LuaStoreDeclaredMarkupMarkupChild
pub use Rattle.lua_store.specs.declared.markup.MarkupChild.TheVariants as LuaStoreDeclaredMarkupMarkupChildTheVariants
pub use Rattle.lua_store.specs.declared.markup.MarkupNode as LuaStoreDeclaredMarkupMarkupNode
pub use Rattle.lua_store.specs.declared.markup.MarkupStyle as LuaStoreDeclaredMarkupMarkupStyle
pub use Rattle.lua_store.specs.declared.markup.MarkupStyle.TheVariants as LuaStoreDeclaredMarkupMarkupStyleTheVariants
pub use Rattle.lua_store.specs.declared.markup.TextPair as LuaStoreDeclaredMarkupTextPair
pub use Rattle.lua_store.specs.declared.value.Value as LuaStoreDeclaredValueValue
pub use Rattle.lua_store.specs.declared.value.Value.TheVariants as LuaStoreDeclaredValueValueTheVariants
pub mod Seen
pub mod Arguments
pub mod Unpack
pub mod Select
pub mod Objects

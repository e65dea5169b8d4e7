pub use Rattle.lua_number.specs.Whole as LuaNumberWhole
pub use Rattle.lua_number.specs.WkBaseTitles as WkBaseTitles
pub use Rattle.lua_number.specs.declared.arithmetic.NumberFault as LuaNumberDeclaredArithmeticNumberFault
pub use Rattle.lua_pattern.specs.Found as LuaPatternFound
pub use Rattle.lua_pattern.specs.Keeps as LuaPatternKeeps
pub use Rattle.lua_pattern.specs.Letters as LuaPatternLetters
pub use Rattle.lua_pattern.specs.Places as LuaPatternPlaces
pub use Rattle.lua_pattern.specs.Read as LuaPatternRead
pub use Rattle.lua_pattern.specs.Reads as LuaPatternReads
pub use Rattle.lua_pattern.specs.SetTexts as LuaPatternSetTexts
pub use Rattle.lua_pattern.specs.Sets as LuaPatternSets
pub use Rattle.lua_pattern.specs.Sizes as LuaPatternSizes
pub use Rattle.lua_pattern.specs.Texts as LuaPatternTexts
pub use Rattle.lua_pattern.specs.Way as LuaPatternWay
pub use Rattle.lua_pattern.specs.declared.item.Item as LuaPatternDeclaredItemItem
pub use Rattle.lua_pattern.specs.declared.item.Item.TheVariants as LuaPatternDeclaredItemItemTheVariants
pub use Rattle.lua_pattern.specs.declared.item.Set as LuaPatternDeclaredItemSet
pub use Rattle.lua_pattern.specs.declared.item.Single.TheVariants as LuaPatternDeclaredItemSingleTheVariants
pub use Rattle.lua_pattern.specs.declared.pattern.Capture as LuaPatternDeclaredPatternCapture
pub use Rattle.lua_pattern.specs.declared.pattern.Capture.TheVariants as LuaPatternDeclaredPatternCaptureTheVariants
pub use Rattle.lua_pattern.specs.declared.pattern.Match as LuaPatternDeclaredPatternMatch
pub use Rattle.lua_pattern.specs.declared.pattern.Search as LuaPatternDeclaredPatternSearch
pub use Rattle.lua_pattern.specs.declared.pattern.Search.TheVariants as LuaPatternDeclaredPatternSearchTheVariants
pub use Rattle.lua_pattern.specs.declared.read.PatternFault as LuaPatternDeclaredReadPatternFault
pub use Rattle.lua_pattern.specs.declared.read.PatternFault.TheVariants as LuaPatternDeclaredReadPatternFaultTheVariants
pub use Rattle.lua_pattern.specs.declared.slots.Slot as LuaPatternDeclaredSlotsSlot
pub mod Places
pub mod Texts
pub mod Whole
pub mod Finds
pub mod Replacements
pub mod Heads
pub mod Walk

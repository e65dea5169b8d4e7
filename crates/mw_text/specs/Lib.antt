pub use Rattle.mw_ustring.specs.Finds as MwUstringFinds
pub use Rattle.mw_ustring.specs.Forms as MwUstringForms
pub use Rattle.mw_ustring.specs.LuaPatternDeclaredItemItem as LuaPatternDeclaredItemItem
pub use Rattle.mw_ustring.specs.LuaPatternDeclaredItemSet as LuaPatternDeclaredItemSet
pub use Rattle.mw_ustring.specs.LuaPatternDeclaredPatternCapture as LuaPatternDeclaredPatternCapture
pub use Rattle.mw_ustring.specs.LuaPatternDeclaredPatternCaptureTheVariants as LuaPatternDeclaredPatternCaptureTheVariants
pub use Rattle.mw_ustring.specs.LuaPatternDeclaredPatternMatch as LuaPatternDeclaredPatternMatch
pub use Rattle.mw_ustring.specs.LuaPatternDeclaredSlotsSlot as LuaPatternDeclaredSlotsSlot
pub use Rattle.mw_ustring.specs.LuaPatternLetters as LuaPatternLetters
pub use Rattle.mw_ustring.specs.LuaPatternRead as LuaPatternRead
pub use Rattle.mw_ustring.specs.LuaPatternSizes as LuaPatternSizes
pub use Rattle.mw_ustring.specs.LuaPatternTexts as LuaPatternTexts
pub use Rattle.mw_ustring.specs.LuaPatternWay as LuaPatternWay
pub use Rattle.mw_ustring.specs.LuaStringDeclaredReplacingCaptureText as LuaStringDeclaredReplacingCaptureText
pub use Rattle.mw_ustring.specs.LuaStringFinds as LuaStringFinds
pub use Rattle.mw_ustring.specs.LuaStringPlaces as LuaStringPlaces
pub use Rattle.mw_ustring.specs.LuaStringReplacements as LuaStringReplacements
pub use Rattle.mw_ustring.specs.LuaStringTexts as LuaStringTexts
pub use Rattle.mw_ustring.specs.LuaStringWalk as LuaStringWalk
pub use Rattle.mw_ustring.specs.LuaStringWhole as LuaStringWhole
pub use Rattle.mw_ustring.specs.Texts as MwUstringTexts
pub mod Answers
pub mod Sets
pub mod Trim
pub mod Split
pub mod References
pub mod Decode
pub mod Joined
pub mod Tag

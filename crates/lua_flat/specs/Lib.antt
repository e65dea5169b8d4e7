pub use Rattle.lua_slots.specs.Code as LuaSlotsCode
pub use Rattle.lua_slots.specs.LuaHeapValue as LuaHeapValue
pub use Rattle.lua_slots.specs.LuaMeaningCharges as LuaMeaningCharges
pub use Rattle.lua_slots.specs.LuaMeaningLoops as LuaMeaningLoops
pub use Rattle.lua_slots.specs.LuaMeaningMessages as LuaMeaningMessages
pub use Rattle.lua_slots.specs.LuaMeaningOperators as LuaMeaningOperators
pub use Rattle.lua_slots.specs.LuaMeaningQuestions as LuaMeaningQuestions
pub use Rattle.lua_slots.specs.LuaMeaningScope as LuaMeaningScope
pub use Rattle.lua_slots.specs.LuaMeaningStart as LuaMeaningStart
pub use Rattle.lua_slots.specs.LuaNumberNumerals as LuaNumberNumerals
pub use Rattle.lua_slots.specs.LuaPatternTexts as LuaPatternTexts
pub use Rattle.lua_slots.specs.LuaSyntaxDeclaredUnaryOpTheVariants as LuaSyntaxDeclaredUnaryOpTheVariants
pub use Rattle.lua_slots.specs.PageRunDeclaredWhichWhichTheVariants as PageRunDeclaredWhichWhichTheVariants
pub use Rattle.lua_slots.specs.PageRunPerform as PageRunPerform
pub use Rattle.lua_slots.specs.PageRunState as PageRunState
pub use Rattle.lua_slots.specs.Trial as LuaSlotsTrial
pub use Rattle.lua_slots.specs.WkBaseTitles as WkBaseTitles
pub mod Operations
pub mod Registers
pub mod Flat
pub mod Locals
pub mod Does
pub mod Moves
pub mod IsExpression
pub mod IsStatement
pub mod Keeps
pub mod WaitsStatement
pub mod WaitsExpression
pub mod Stands
pub mod Trial
pub mod ExampleCode
pub mod ExampleCalls
pub mod ExampleLevels

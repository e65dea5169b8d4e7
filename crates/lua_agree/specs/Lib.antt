pub use Rattle.lua_library_agree.specs.LuaMeaningGsub as LuaMeaningGsub
pub use Rattle.lua_library_agree.specs.LuaMeaningParts as LuaMeaningParts
pub use Rattle.lua_library_agree.specs.LuaMeaningThings as LuaMeaningThings
pub use Rattle.lua_library_agree.specs.LuaMeaningWaiting as LuaMeaningWaiting
pub use Rattle.lua_library_agree.specs.Same as LuaLibraryAgreeSame
pub use Rattle.lua_library_agree.specs.SameGsub as LuaLibraryAgreeSameGsub
pub use Rattle.lua_slots.specs.IsCode as LuaSlotsIsCode
pub use Rattle.lua_slots.specs.LuaMeaningQuestions as LuaMeaningQuestions
pub use Rattle.lua_slots.specs.LuaMeaningScope as LuaMeaningScope
pub use Rattle.lua_slots.specs.LuaMeaningStart as LuaMeaningStart
pub use Rattle.lua_slots.specs.LuaMeaningTitled as LuaMeaningTitled
pub use Rattle.lua_slots.specs.LuaMeaningWorld as LuaMeaningWorld
pub use Rattle.lua_slots.specs.LuaSyntaxTree as LuaSyntaxTree
pub mod Variables
pub mod Values
pub mod Functions
pub mod Rests
pub mod Agree
pub mod Follows
pub mod Laws
pub mod Met
pub mod Named

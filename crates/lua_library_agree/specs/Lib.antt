pub use Rattle.lua_meaning.specs.Calls as LuaMeaningCalls
pub use Rattle.lua_meaning.specs.Constructors as LuaMeaningConstructors
pub use Rattle.lua_meaning.specs.Expressions as LuaMeaningExpressions
pub use Rattle.lua_meaning.specs.FrameMethods as LuaMeaningFrameMethods
pub use Rattle.lua_meaning.specs.Gsub as LuaMeaningGsub
pub use Rattle.lua_meaning.specs.Index as LuaMeaningIndex
pub use Rattle.lua_meaning.specs.Libraries as LuaMeaningLibraries
pub use Rattle.lua_meaning.specs.Meaning as LuaMeaningMeaning
pub use Rattle.lua_meaning.specs.MwFrameDeclaredQuestionAsk as MwFrameDeclaredQuestionAsk
pub use Rattle.lua_meaning.specs.PageRunRun as PageRunRun
pub use Rattle.lua_meaning.specs.Parts as LuaMeaningParts
pub use Rattle.lua_meaning.specs.Statements as LuaMeaningStatements
pub use Rattle.lua_meaning.specs.Things as LuaMeaningThings
pub use Rattle.lua_meaning.specs.Waiting as LuaMeaningWaiting
pub mod Same
pub mod SameGsub
pub mod Laws

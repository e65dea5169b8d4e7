pub use Rattle.lua_meaning.specs.Acts as LuaMeaningActs
pub use Rattle.lua_meaning.specs.Arguments as LuaMeaningArguments
pub use Rattle.lua_meaning.specs.CallBacks as LuaMeaningCallBacks
pub use Rattle.lua_meaning.specs.Charges as LuaMeaningCharges
pub use Rattle.lua_meaning.specs.FrameMethods as LuaMeaningFrameMethods
pub use Rattle.lua_meaning.specs.Frames as LuaMeaningFrames
pub use Rattle.lua_meaning.specs.Gsub as LuaMeaningGsub
pub use Rattle.lua_meaning.specs.Home as LuaMeaningHome
pub use Rattle.lua_meaning.specs.Html as LuaMeaningHtml
pub use Rattle.lua_meaning.specs.Libraries as LuaMeaningLibraries
pub use Rattle.lua_meaning.specs.Loops as LuaMeaningLoops
pub use Rattle.lua_meaning.specs.LuaHeapDeclaredLibraryLibrary as LuaHeapDeclaredLibraryLibrary
pub use Rattle.lua_meaning.specs.LuaHeapDeclaredLibraryLibraryTheVariants as LuaHeapDeclaredLibraryLibraryTheVariants
pub use Rattle.lua_meaning.specs.LuaHeapHeap as LuaHeapHeap
pub use Rattle.lua_meaning.specs.LuaHeapProc as LuaHeapProc
pub use Rattle.lua_meaning.specs.LuaHeapRelated as LuaHeapRelated
pub use Rattle.lua_meaning.specs.LuaHeapTable as LuaHeapTable
pub use Rattle.lua_meaning.specs.LuaHeapValue as LuaHeapValue
pub use Rattle.lua_meaning.specs.LuaNumberDeclaredArithmeticNumberFault as LuaNumberDeclaredArithmeticNumberFault
pub use Rattle.lua_meaning.specs.LuaNumberNumerals as LuaNumberNumerals
pub use Rattle.lua_meaning.specs.LuaNumberWhole as LuaNumberWhole
pub use Rattle.lua_meaning.specs.LuaPatternTexts as LuaPatternTexts
pub use Rattle.lua_meaning.specs.LuaSyntaxDeclaredBinaryOp as LuaSyntaxDeclaredBinaryOp
pub use Rattle.lua_meaning.specs.LuaSyntaxDeclaredBinaryOpTheVariants as LuaSyntaxDeclaredBinaryOpTheVariants
pub use Rattle.lua_meaning.specs.LuaSyntaxDeclaredFaultFaultAt as LuaSyntaxDeclaredFaultFaultAt
pub use Rattle.lua_meaning.specs.LuaSyntaxDeclaredUnaryOp as LuaSyntaxDeclaredUnaryOp
pub use Rattle.lua_meaning.specs.LuaSyntaxDeclaredUnaryOpTheVariants as LuaSyntaxDeclaredUnaryOpTheVariants
pub use Rattle.lua_meaning.specs.LuaSyntaxTree as LuaSyntaxTree
pub use Rattle.lua_meaning.specs.LuaTableEntries as LuaTableEntries
pub use Rattle.lua_meaning.specs.Messages as LuaMeaningMessages
pub use Rattle.lua_meaning.specs.Metatables as LuaMeaningMetatables
pub use Rattle.lua_meaning.specs.Modules as LuaMeaningModules
pub use Rattle.lua_meaning.specs.Mw as LuaMeaningMw
pub use Rattle.lua_meaning.specs.MwFrameDeclaredQuestionAsk as MwFrameDeclaredQuestionAsk
pub use Rattle.lua_meaning.specs.MwFrameDeclaredQuestionAskTheVariants as MwFrameDeclaredQuestionAskTheVariants
pub use Rattle.lua_meaning.specs.MwFrameDeclaredSceneArg as MwFrameDeclaredSceneArg
pub use Rattle.lua_meaning.specs.MwFrameDeclaredSceneJob as MwFrameDeclaredSceneJob
pub use Rattle.lua_meaning.specs.MwHtmlRender as MwHtmlRender
pub use Rattle.lua_meaning.specs.Operators as LuaMeaningOperators
pub use Rattle.lua_meaning.specs.PageRunDeclaredWhichWhich as PageRunDeclaredWhichWhich
pub use Rattle.lua_meaning.specs.PageRunDeclaredWhichWhichTheVariants as PageRunDeclaredWhichWhichTheVariants
pub use Rattle.lua_meaning.specs.PageRunOutcome as PageRunOutcome
pub use Rattle.lua_meaning.specs.PageRunPerform as PageRunPerform
pub use Rattle.lua_meaning.specs.PageRunState as PageRunState
pub use Rattle.lua_meaning.specs.Pending as LuaMeaningPending
pub use Rattle.lua_meaning.specs.Questions as LuaMeaningQuestions
pub use Rattle.lua_meaning.specs.Scope as LuaMeaningScope
pub use Rattle.lua_meaning.specs.Start as LuaMeaningStart
pub use Rattle.lua_meaning.specs.Tag as LuaMeaningTag
pub use Rattle.lua_meaning.specs.Titled as LuaMeaningTitled
pub use Rattle.lua_meaning.specs.Trial as LuaMeaningTrial
pub use Rattle.lua_meaning.specs.Values as LuaMeaningValues
pub use Rattle.lua_meaning.specs.WkBaseDeclaredTitleNamespaceTheVariants as WkBaseDeclaredTitleNamespaceTheVariants
pub use Rattle.lua_meaning.specs.WkBaseDeclaredTitleReadTitleFault as WkBaseDeclaredTitleReadTitleFault
pub use Rattle.lua_meaning.specs.WkBaseDeclaredTitleTitle as WkBaseDeclaredTitleTitle
pub use Rattle.lua_meaning.specs.WkBaseTitles as WkBaseTitles
pub use Rattle.lua_meaning.specs.World as LuaMeaningWorld
pub mod Code
pub mod Sight
pub mod IsCode
pub mod Slots
pub mod Points
pub mod Errors
pub mod Calls
pub mod Index
pub mod Operators
pub mod Expressions
pub mod Statements
pub mod Loops
pub mod CallBacks
pub mod Gsub
pub mod Modules
pub mod Libraries
pub mod Starts
pub mod Moves
pub mod Enact
pub mod Laws
pub mod Trial
pub mod ExampleCode
pub mod ExampleCalls

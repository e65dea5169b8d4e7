pub use Rattle.lua_format.specs.Format as LuaFormatFormat
pub use Rattle.lua_format.specs.LuaNumberDeclaredArithmeticNumberFault as LuaNumberDeclaredArithmeticNumberFault
pub use Rattle.lua_format.specs.LuaNumberNumerals as LuaNumberNumerals
pub use Rattle.lua_format.specs.LuaNumberWhole as LuaNumberWhole
pub use Rattle.lua_format.specs.declared.value.FormatFault as LuaFormatDeclaredValueFormatFault
pub use Rattle.lua_format.specs.declared.value.FormatFault.TheVariants as LuaFormatDeclaredValueFormatFaultTheVariants
pub use Rattle.lua_syntax.specs.FaultTexts as LuaSyntaxFaultTexts
pub use Rattle.lua_syntax.specs.Tree as LuaSyntaxTree
pub use Rattle.lua_syntax.specs.WkBaseDeclaredTitleTitle as WkBaseDeclaredTitleTitle
pub use Rattle.lua_syntax.specs.WkBaseTitles as WkBaseTitles
pub use Rattle.lua_syntax.specs.declared.BinaryOp as LuaSyntaxDeclaredBinaryOp
pub use Rattle.lua_syntax.specs.declared.BinaryOp.TheVariants as LuaSyntaxDeclaredBinaryOpTheVariants
pub use Rattle.lua_syntax.specs.declared.UnaryOp as LuaSyntaxDeclaredUnaryOp
pub use Rattle.lua_syntax.specs.declared.UnaryOp.TheVariants as LuaSyntaxDeclaredUnaryOpTheVariants
pub use Rattle.lua_syntax.specs.declared.fault.FaultAt as LuaSyntaxDeclaredFaultFaultAt
pub use Rattle.lua_walk.specs.Data as LuaWalkData
pub use Rattle.lua_walk.specs.LuaHeapDeclaredLibraryLibrary as LuaHeapDeclaredLibraryLibrary
pub use Rattle.lua_walk.specs.LuaHeapDeclaredLibraryLibraryTheVariants as LuaHeapDeclaredLibraryLibraryTheVariants
pub use Rattle.lua_walk.specs.LuaHeapGraph as LuaHeapGraph
pub use Rattle.lua_walk.specs.LuaHeapHeap as LuaHeapHeap
pub use Rattle.lua_walk.specs.LuaHeapProc as LuaHeapProc
pub use Rattle.lua_walk.specs.LuaHeapRelated as LuaHeapRelated
pub use Rattle.lua_walk.specs.LuaHeapValue as LuaHeapValue
pub use Rattle.lua_walk.specs.LuaTableEntries as LuaTableEntries
pub use Rattle.mw_frame.specs.WkBaseDeclaredTitleNamespaceTheVariants as WkBaseDeclaredTitleNamespaceTheVariants
pub use Rattle.mw_frame.specs.declared.question.Ask as MwFrameDeclaredQuestionAsk
pub use Rattle.mw_frame.specs.declared.question.Ask.TheVariants as MwFrameDeclaredQuestionAskTheVariants
pub use Rattle.mw_frame.specs.declared.scene.Arg as MwFrameDeclaredSceneArg
pub use Rattle.mw_frame.specs.declared.scene.Job as MwFrameDeclaredSceneJob
pub use Rattle.mw_frame.specs.declared.scene.Scene as MwFrameDeclaredSceneScene
pub use Rattle.mw_html.specs.LuaHeapTable as LuaHeapTable
pub use Rattle.mw_html.specs.Names as MwHtmlNames
pub use Rattle.mw_html.specs.Render as MwHtmlRender
pub use Rattle.mw_text.specs.Joined as MwTextJoined
pub use Rattle.mw_text.specs.LuaPatternDeclaredItemItem as LuaPatternDeclaredItemItem
pub use Rattle.mw_text.specs.LuaPatternDeclaredItemSet as LuaPatternDeclaredItemSet
pub use Rattle.mw_text.specs.LuaPatternDeclaredPatternCapture as LuaPatternDeclaredPatternCapture
pub use Rattle.mw_text.specs.LuaPatternDeclaredPatternCaptureTheVariants as LuaPatternDeclaredPatternCaptureTheVariants
pub use Rattle.mw_text.specs.LuaPatternDeclaredPatternMatch as LuaPatternDeclaredPatternMatch
pub use Rattle.mw_text.specs.LuaPatternDeclaredSlotsSlot as LuaPatternDeclaredSlotsSlot
pub use Rattle.mw_text.specs.LuaPatternLetters as LuaPatternLetters
pub use Rattle.mw_text.specs.LuaPatternRead as LuaPatternRead
pub use Rattle.mw_text.specs.LuaPatternSizes as LuaPatternSizes
pub use Rattle.mw_text.specs.LuaPatternTexts as LuaPatternTexts
pub use Rattle.mw_text.specs.LuaPatternWay as LuaPatternWay
pub use Rattle.mw_text.specs.LuaStringFinds as LuaStringFinds
pub use Rattle.mw_text.specs.LuaStringPlaces as LuaStringPlaces
pub use Rattle.mw_text.specs.LuaStringTexts as LuaStringTexts
pub use Rattle.mw_text.specs.LuaStringWalk as LuaStringWalk
pub use Rattle.mw_text.specs.LuaStringWhole as LuaStringWhole
pub use Rattle.mw_text.specs.MwUstringFinds as MwUstringFinds
pub use Rattle.mw_text.specs.MwUstringTexts as MwUstringTexts
pub use Rattle.mw_text.specs.Sets as MwTextSets
pub use Rattle.mw_text.specs.Split as MwTextSplit
pub use Rattle.mw_text.specs.declared.splitting.Part as MwTextDeclaredSplittingPart
pub use Rattle.page_run.specs.Outcome as PageRunOutcome
pub use Rattle.page_run.specs.Perform as PageRunPerform
pub use Rattle.page_run.specs.Run as PageRunRun
pub use Rattle.page_run.specs.State as PageRunState
pub use Rattle.page_run.specs.WkBaseDeclaredLeftLeft as WkBaseDeclaredLeftLeft
pub use Rattle.page_run.specs.WkBaseDeclaredTitleReadTitleFault as WkBaseDeclaredTitleReadTitleFault
pub use Rattle.page_run.specs.declared.which.Which as PageRunDeclaredWhichWhich
pub use Rattle.page_run.specs.declared.which.Which.TheVariants as PageRunDeclaredWhichWhichTheVariants
pub mod Charges
pub mod Scope
pub mod Titled
pub mod World
pub mod Questions
pub mod Values
pub mod Acts
pub mod Messages
pub mod Metatables
pub mod Calls
pub mod Index
pub mod Operators
pub mod Parts
pub mod Expressions
pub mod Constructors
pub mod Statements
pub mod Loops
pub mod Meaning
pub mod Arguments
pub mod Basic
pub mod Frames
pub mod Tag
pub mod FrameMethods
pub mod Mw
pub mod Checks
pub mod Strings
pub mod Searches
pub mod Formats
pub mod Numbers
pub mod Iterators
pub mod TableLibrary
pub mod TextArguments
pub mod Ustring
pub mod Texts
pub mod HtmlNodes
pub mod Html
pub mod Waiting
pub mod CallBacks
pub mod Gsub
pub mod Modules
pub mod Pending
pub mod Libraries
pub mod Home
pub mod Things
pub mod Start
pub mod Laws
pub mod Trial
pub mod ExampleCharges
pub mod ExampleCosts
pub mod ExampleValues
pub mod ExampleStatements
pub mod ExampleFunctions
pub mod ExampleHandlers
pub mod ExampleFrames
pub mod ExampleModules
pub mod ExampleLibraries
pub mod ExampleGsub
pub mod ExampleReplacing
pub mod ExampleHtml
pub mod ExampleMarkup

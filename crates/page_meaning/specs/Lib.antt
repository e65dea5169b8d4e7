pub use Rattle.expand_meaning.specs.Expand as ExpandMeaningExpand
pub use Rattle.expand_meaning.specs.MwFrameDeclaredSceneJob as MwFrameDeclaredSceneJob
pub use Rattle.expand_meaning.specs.Outcome as ExpandMeaningOutcome
pub use Rattle.expand_meaning.specs.WikiMarkupTrees as WikiMarkupTrees
pub use Rattle.lua_meaning_laws.specs.Laws as LuaMeaningLawsLaws
pub use Rattle.lua_meaning_laws.specs.LuaMeaningActs as LuaMeaningActs
pub use Rattle.lua_meaning_laws.specs.LuaMeaningHome as LuaMeaningHome
pub use Rattle.lua_meaning_laws.specs.LuaMeaningQuestions as LuaMeaningQuestions
pub use Rattle.lua_meaning_laws.specs.LuaMeaningStart as LuaMeaningStart
pub use Rattle.lua_meaning_laws.specs.LuaMeaningThings as LuaMeaningThings
pub use Rattle.lua_meaning_laws.specs.LuaMeaningWorld as LuaMeaningWorld
pub use Rattle.lua_meaning_laws.specs.MwFrameDeclaredQuestionAsk as MwFrameDeclaredQuestionAsk
pub use Rattle.lua_meaning_laws.specs.MwFrameDeclaredQuestionAskTheVariants as MwFrameDeclaredQuestionAskTheVariants
pub use Rattle.page_run.specs.Outcome as PageRunOutcome
pub use Rattle.page_run.specs.State as PageRunState
pub use Rattle.page_run.specs.Walk as PageRunWalk
pub use Rattle.page_run.specs.declared.which.Which as PageRunDeclaredWhichWhich
pub use Rattle.wk_base.specs.Titles as WkBaseTitles
pub use Rattle.wk_base.specs.declared.left.Left as WkBaseDeclaredLeftLeft
pub use Rattle.wk_base.specs.declared.title.Title as WkBaseDeclaredTitleTitle
pub mod Wiki
pub mod Told
pub mod Outcomes
pub mod Drive
pub mod Page
pub mod Points
pub mod Tasks
pub mod Laws
pub mod Modules
pub mod Trial
pub mod Examples

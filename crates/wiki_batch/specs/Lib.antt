pub use Rattle.page_driver.specs.Ground as PageDriverGround
pub use Rattle.page_driver.specs.Job as PageDriverJob
pub use Rattle.page_driver.specs.Page as PageDriverPage
pub use Rattle.page_driver.specs.contracts.wiki.Wiki as PageDriverContractsWikiWiki
pub use Rattle.page_driver.specs.declared.job.JobEnd as PageDriverDeclaredJobJobEnd
pub use Rattle.page_driver.specs.declared.wiki.Page as PageDriverDeclaredWikiPage
pub use Rattle.page_driver.specs.declared.wiki.Wiki as PageDriverDeclaredWikiWiki
pub use Rattle.wiki_texts.specs.LuaMeaningWorld as LuaMeaningWorld
pub use Rattle.wiki_texts.specs.Modules as WikiTextsModules
pub use Rattle.wiki_texts.specs.Pages as WikiTextsPages
pub use Rattle.wiki_texts.specs.declared.raw.RawPage as WikiTextsDeclaredRawRawPage
pub mod Batch
pub mod Shares
pub mod Wikis

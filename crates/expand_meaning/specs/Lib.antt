pub use Rattle.mw_frame.specs.declared.scene.Arg as MwFrameDeclaredSceneArg
pub use Rattle.mw_frame.specs.declared.scene.Job as MwFrameDeclaredSceneJob
pub use Rattle.mw_frame.specs.declared.scene.Scene as MwFrameDeclaredSceneScene
pub use Rattle.wiki_markup.specs.Items as WikiMarkupItems
pub use Rattle.wiki_markup.specs.Nodes as WikiMarkupNodes
pub use Rattle.wiki_markup.specs.Pairing as WikiMarkupPairing
pub use Rattle.wiki_markup.specs.Shown as WikiMarkupShown
pub use Rattle.wiki_markup.specs.Trees as WikiMarkupTrees
pub use Rattle.wiki_markup.specs.declared.marked.Mode.TheVariants as WikiMarkupDeclaredMarkedModeTheVariants
pub mod Texts
pub mod Kind
pub mod Places
pub mod Expand
pub mod Outcome
pub mod Examples

pub use Rattle.wk_shelf.specs.Causes as WkShelfCauses
pub use Rattle.wk_shelf.specs.Files as WkShelfFiles
pub use Rattle.wk_shelf.specs.Folder as WkShelfFolder
pub use Rattle.wk_shelf.specs.FolderFaults as WkShelfFolderFaults
pub use Rattle.wk_shelf.specs.Put as WkShelfPut
pub use Rattle.wk_shelf.specs.WkBaseContractsTitleTitlePartialEqTheImpl as WkBaseContractsTitleTitlePartialEqTheImpl
pub use Rattle.wk_shelf.specs.WkBaseDeclaredNoMemory as WkBaseDeclaredNoMemory
pub use Rattle.wk_shelf.specs.WkBaseDeclaredTitleNamespace as WkBaseDeclaredTitleNamespace
pub use Rattle.wk_shelf.specs.WkBaseDeclaredTitleNamespaceTheVariants as WkBaseDeclaredTitleNamespaceTheVariants
pub use Rattle.wk_shelf.specs.WkBaseDeclaredTitleReadTitleFault as WkBaseDeclaredTitleReadTitleFault
pub use Rattle.wk_shelf.specs.WkBaseDeclaredTitleTitle as WkBaseDeclaredTitleTitle
pub use Rattle.wk_shelf.specs.WkBaseTitles as WkBaseTitles
pub use Rattle.wk_shelf.specs.declared.folder.FolderPage as WkShelfDeclaredFolderFolderPage
pub mod Ending
pub mod Report

pub use Rattle.wk_base.specs.Titles as WkBaseTitles
pub use Rattle.wk_base.specs.contracts.title.TitlePartialEq.TheImpl as WkBaseContractsTitleTitlePartialEqTheImpl
pub use Rattle.wk_base.specs.declared.NoMemory as WkBaseDeclaredNoMemory
pub use Rattle.wk_base.specs.declared.title.Namespace as WkBaseDeclaredTitleNamespace
pub use Rattle.wk_base.specs.declared.title.Namespace.TheVariants as WkBaseDeclaredTitleNamespaceTheVariants
pub use Rattle.wk_base.specs.declared.title.Title as WkBaseDeclaredTitleTitle
pub use Rattle.wk_base.specs.declared.title_read.TitleFault as WkBaseDeclaredTitleReadTitleFault
pub mod Causes
pub mod Files
pub mod Folder
pub mod FolderFaults
pub mod MemoryFiles
pub mod Order
pub mod Put
pub mod States

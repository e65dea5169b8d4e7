pub use Rattle.wk_base.specs.Allowances as WkBaseAllowances
pub use Rattle.wk_base.specs.Titles as WkBaseTitles
pub use Rattle.wk_base.specs.declared.left.Left as WkBaseDeclaredLeftLeft
pub use Rattle.wk_base.specs.declared.left.Limits as WkBaseDeclaredLeftLimits
pub use Rattle.wk_base.specs.declared.title.Namespace.TheVariants as WkBaseDeclaredTitleNamespaceTheVariants
pub use Rattle.wk_base.specs.declared.title.Title as WkBaseDeclaredTitleTitle
pub mod Scenes

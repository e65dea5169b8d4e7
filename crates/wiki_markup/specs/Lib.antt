pub use Rattle.wk_base.specs.Space as WkBaseSpace
pub use Rattle.wk_base.specs.declared.title.Namespace as WkBaseDeclaredTitleNamespace
pub mod Shown
pub mod Items
pub mod Pairing
pub mod Nodes
pub mod Trees
pub mod Work
pub mod Roles
pub mod Formed
pub mod Build
pub mod Order
pub mod Places
pub mod Held
pub mod Views

pub use Rattle.wk_base.specs.contracts.title.Title as WkBaseContractsTitleTitle
pub use Rattle.wk_base.specs.contracts.title.TitlePartialEq.TheImpl as WkBaseContractsTitleTitlePartialEqTheImpl
pub use Rattle.wk_base.specs.declared.left.Left as WkBaseDeclaredLeftLeft
pub use Rattle.wk_base.specs.declared.title_read.TitleFault as WkBaseDeclaredTitleReadTitleFault
pub mod Run
pub mod Part
pub mod Outcome
pub mod State
pub mod Perform
pub mod Trace
pub mod Events
pub mod Replies
pub mod Charges
pub mod Walk
pub mod Examples
pub mod Jumps

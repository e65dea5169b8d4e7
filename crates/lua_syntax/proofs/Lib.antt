pub use Rattle.wk_base.proofs.Options as WkBaseOptions
pub mod Views

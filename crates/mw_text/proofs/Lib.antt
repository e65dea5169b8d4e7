pub use Rattle.mw_ustring.proofs.Offsets as MwUstringOffsets
mod Examples
pub mod Edges
pub mod Loops
pub mod Numbers
pub mod Parts
pub mod Pieces
pub mod Values

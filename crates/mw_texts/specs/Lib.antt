pub use Rattle.mw_ustrings.specs.Table as MwUstringsTable
pub mod Table
pub mod Found
pub mod Costs

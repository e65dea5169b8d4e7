pub mod Lines
pub mod NewTables

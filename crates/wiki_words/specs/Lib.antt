pub mod Command
pub mod Folders
pub mod Items

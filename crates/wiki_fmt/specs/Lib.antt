pub mod Command
pub mod Due

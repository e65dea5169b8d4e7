pub mod Command
pub mod Due
pub mod Examples
pub mod Laws
pub mod Lines
pub mod Report
pub mod Tested
pub mod Texts

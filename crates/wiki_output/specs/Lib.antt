pub mod Choice
pub mod Demo
pub mod Output
pub mod Report

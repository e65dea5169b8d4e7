pub mod Pages
pub mod Report

pub mod Loops
pub mod Lists
pub mod Tests
pub mod Cells
pub mod Texts

pub mod Allowances
pub mod Space
pub mod Titles
pub mod formers

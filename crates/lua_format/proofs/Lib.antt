pub mod Formats
pub mod Fills
pub mod Numerals

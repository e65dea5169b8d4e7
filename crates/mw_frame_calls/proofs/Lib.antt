pub mod Asked
pub mod Found
pub mod Frames
pub mod Lines
pub mod Tables
pub mod Values

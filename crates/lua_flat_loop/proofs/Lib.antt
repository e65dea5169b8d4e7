pub mod CodeSeen
pub mod Numbers
pub mod Landing
pub mod Stepping
pub mod Operations
pub mod Looping
pub mod ConstantLaws

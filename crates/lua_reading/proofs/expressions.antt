pub mod Operands
pub mod Atoms
pub mod Exits
pub mod MoreExits
pub mod ArgExits

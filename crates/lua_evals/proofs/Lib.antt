pub mod Codes
pub mod Ends
pub mod NewClosure
pub mod Tables
pub mod Places
pub mod Items
pub mod Worlds

pub mod Scopes
pub mod Seen
pub mod Reading

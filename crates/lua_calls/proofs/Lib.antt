pub mod Lines
pub mod Led
pub mod Paying
pub mod Framing
pub mod Enters
pub mod Heard
pub mod Replaces
pub mod Beginning

pub mod Bodies
pub mod PathSteps
pub mod PathExits
pub mod NamedSteps

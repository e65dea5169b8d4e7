pub mod Less
pub mod Enough
pub mod EventLaws
pub mod ReplyLaws
pub mod ChargeLaws
pub mod FitLaws
pub mod LoadLaws
pub mod ExampleLaws

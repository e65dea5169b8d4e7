pub mod ForestLaws
pub mod ConstantLaws
pub mod SearchLaws
mod SwitchLaws
pub mod CaseLaws
pub mod TableLaws
pub mod FurtherLaws
pub mod Crossing

pub mod CommandLemmas
pub mod DueLemmas
pub mod LineLaws
pub mod Rows
pub mod RunLaws
pub mod TextLaws

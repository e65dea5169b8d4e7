pub mod PageLemmas
pub mod RunLemmas

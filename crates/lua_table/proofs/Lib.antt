pub mod BorderLemmas
pub mod FrontLemmas
pub mod SetLemmas
mod TreeLemmas

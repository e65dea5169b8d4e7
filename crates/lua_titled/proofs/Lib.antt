pub mod HeldLemmas
pub mod Natural

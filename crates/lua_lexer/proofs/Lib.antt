pub mod Lists
pub mod PieceLemmas
pub mod Steps

mod ScopeLemmas
mod PlaceLemmas
pub mod ReadingLemmas

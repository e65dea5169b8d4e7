pub mod FileLemmas
pub mod FolderLemmas
pub mod OrderLemmas
pub mod ReadLemmas
pub mod SizeLemmas
pub mod WikiLemmas

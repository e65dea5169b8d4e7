pub mod CopyLemmas

pub mod LintLemmas

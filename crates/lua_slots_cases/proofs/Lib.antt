pub mod ClosureRuns
pub mod LoadRuns

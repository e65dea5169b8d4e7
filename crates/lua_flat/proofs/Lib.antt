pub mod ExampleCodeRuns
pub mod ExampleCodeFlat
pub mod ExampleCallsRuns
pub mod ExampleCallsFlat
pub mod ExampleLevelsRuns
pub mod ExampleLevelsFlat

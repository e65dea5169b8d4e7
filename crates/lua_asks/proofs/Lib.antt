pub mod CalmValues
pub mod NoData
pub mod Loading
pub mod CalmLibrary
pub mod CalmMoves
pub mod Once

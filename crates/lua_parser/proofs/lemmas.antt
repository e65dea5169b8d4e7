pub mod OneEnd
pub mod Chunks
pub mod ParameterExits
pub mod AnsweredOnce

pub use Rattle.lua_goes.specs.PageRunOutcome as PageRunOutcome
pub mod InPlace
pub mod Laws
pub mod Examples

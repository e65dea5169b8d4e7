pub use Rattle.lua_table.specs.Entries as LuaTableEntries
pub mod Value
pub mod Table
pub mod Heap
pub mod Related
pub mod Reach
pub mod Proc
pub mod Graph
pub mod ValueLaws
pub mod ObjectLaws
pub mod StandingLaws
pub mod MoveLaws
pub mod SetLaws
pub mod ReachLaws
pub mod FrameLaws
pub mod GraphLaws
pub mod Examples
pub mod ClosedLaws

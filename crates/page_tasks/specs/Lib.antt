pub use Rattle.lua_machine.specs.LuaHeapReach as LuaHeapReach
pub use Rattle.lua_machine.specs.LuaStoreParts as LuaStoreParts
pub use Rattle.lua_machine.specs.LuaStoreSeen as LuaStoreSeen
pub use Rattle.lua_machine.specs.declared.machine.Machine as LuaMachineDeclaredMachineMachine
pub use Rattle.page_ground.specs.Ground as PageGroundGround
pub use Rattle.page_ground.specs.Kept as PageGroundKept
pub use Rattle.page_ground.specs.LuaPointsFamilies as LuaPointsFamilies
pub use Rattle.page_ground.specs.Numbered as PageGroundNumbered
pub use Rattle.page_ground.specs.PagePointsApart as PagePointsApart
pub use Rattle.page_ground.specs.PagePointsLoads as PagePointsLoads
pub use Rattle.page_ground.specs.PagePointsPlaces as PagePointsPlaces
pub use Rattle.page_ground.specs.Seen as PageGroundSeen
pub use Rattle.page_ground.specs.declared.data.Data as PageGroundDeclaredDataData
pub use Rattle.page_ground.specs.declared.keep.Kept as PageGroundDeclaredKeepKept
pub use Rattle.page_ground.specs.declared.numbers.Numbers as PageGroundDeclaredNumbersNumbers
pub use Rattle.wiki_expand.specs.WikiPagesEntries as WikiPagesEntries
pub use Rattle.wiki_expand.specs.WikiPagesPages as WikiPagesPages
pub mod Seen
pub mod Tasks
pub mod Going
pub mod Falling
pub mod Calls
pub mod Beginning
pub mod Refusing

pub use Rattle.lua_code.specs.LuaHeapTable as LuaHeapTable
pub use Rattle.lua_code.specs.LuaSlotsIndex as LuaSlotsIndex
pub use Rattle.lua_loops.specs.LuaSlotsCalls as LuaSlotsCalls
pub use Rattle.lua_loops.specs.LuaSlotsMoves as LuaSlotsMoves
pub use Rattle.lua_loops.specs.LuaStateCharges as LuaStateCharges
pub use Rattle.lua_loops.specs.LuaStateDeclaredCodesWorld as LuaStateDeclaredCodesWorld
pub use Rattle.lua_loops.specs.LuaStateDeclaredTurnTurnTheVariants as LuaStateDeclaredTurnTurnTheVariants
pub use Rattle.lua_loops.specs.LuaStateOf as LuaStateOf
pub use Rattle.lua_loops.specs.LuaStateSeen as LuaStateSeen
pub use Rattle.lua_loops.specs.LuaStateWorlds as LuaStateWorlds
pub use Rattle.lua_loops.specs.PageRunOutcome as PageRunOutcome
pub use Rattle.lua_loops.specs.WkBaseDeclaredLeftLeft as WkBaseDeclaredLeftLeft
pub use Rattle.lua_operators.specs.LuaSlotsEnact as LuaSlotsEnact
pub use Rattle.lua_operators.specs.LuaSlotsErrors as LuaSlotsErrors
pub use Rattle.lua_operators.specs.LuaSlotsPoints as LuaSlotsPoints
pub use Rattle.lua_operators.specs.LuaSlotsSlots as LuaSlotsSlots
pub use Rattle.lua_operators.specs.LuaStackDeclaredFrameEndingTheVariants as LuaStackDeclaredFrameEndingTheVariants
pub use Rattle.lua_operators.specs.LuaStackDeclaredFrameFrameTheVariants as LuaStackDeclaredFrameFrameTheVariants
pub use Rattle.lua_operators.specs.LuaStackDeclaredFrameInExpressionTheVariants as LuaStackDeclaredFrameInExpressionTheVariants
pub use Rattle.lua_operators.specs.LuaStackDeclaredFrameInStatementTheVariants as LuaStackDeclaredFrameInStatementTheVariants
pub use Rattle.lua_operators.specs.LuaStackDeclaredRegisterSlot as LuaStackDeclaredRegisterSlot
pub use Rattle.lua_operators.specs.LuaStackOf as LuaStackOf
pub use Rattle.lua_operators.specs.LuaStackSeen as LuaStackSeen
pub use Rattle.lua_operators.specs.LuaStoreDeclaredIdsTextId as LuaStoreDeclaredIdsTextId
pub use Rattle.lua_operators.specs.LuaStoreDeclaredValueValue as LuaStoreDeclaredValueValue
pub use Rattle.lua_operators.specs.LuaStoreParts as LuaStoreParts
pub use Rattle.lua_operators.specs.LuaStoreSeen as LuaStoreSeen
pub use Rattle.lua_operators.specs.PageRunState as PageRunState
pub use Rattle.lua_strides.specs.LuaGoesGoing as LuaGoesGoing
pub use Rattle.lua_strides.specs.LuaInPlaceInPlace as LuaInPlaceInPlace
pub use Rattle.lua_strides.specs.LuaInPlaceLaws as LuaInPlaceLaws
pub use Rattle.lua_strides.specs.LuaStackDeclaredFocusFocus as LuaStackDeclaredFocusFocus
pub use Rattle.lua_strides.specs.LuaStackDeclaredFocusFocusTheVariants as LuaStackDeclaredFocusFocusTheVariants
pub use Rattle.lua_strides.specs.LuaStackDeclaredFrameFrame as LuaStackDeclaredFrameFrame
pub use Rattle.lua_strides.specs.LuaStackDeclaredValuesGivenTheVariants as LuaStackDeclaredValuesGivenTheVariants
pub use Rattle.lua_strides.specs.LuaStateDeclaredStateState as LuaStateDeclaredStateState
pub use Rattle.lua_strides.specs.Next as LuaStridesNext
pub use Rattle.lua_strides.specs.Reads as LuaStridesReads
pub use Rattle.lua_strides.specs.Strides as LuaStridesStrides
pub use Rattle.lua_strides.specs.declared.reading.ListRead as LuaStridesDeclaredReadingListRead
pub use Rattle.lua_strides.specs.declared.reading.ValueRead as LuaStridesDeclaredReadingValueRead
pub mod Rows
pub mod Waiting
pub mod Counting
pub mod Setting
pub mod Branching
pub mod Assigning
pub mod Methods
pub mod Deciding
pub mod Listing

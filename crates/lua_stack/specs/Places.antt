-- Places of local variables, where registers, captured cells and the heap stand apart: what `lua_slots` says of a whole machine.
use Rattle.std.specs.Prelude.{ℕ, List, Option, Some, None, slice_get, slice_set}
use Rattle.lua_code.specs.LuaHeapValue.{Value}
use Rattle.lua_store.specs.LuaHeapProc.{Proc}
use Rattle.lua_store.specs.LuaHeapHeap.{Heap, set_cell_in}
use Rattle.lua_code.specs.LuaSlotsCode.{Place, Reg, Box, Up}
use Rattle.lua_code.specs.LuaSlotsSlots.{Slot, Plain, slot_value, place_cell, cell_value}

-- the value at a place, as `read_place` has it
abbrev pub value_at : Heap Proc → List Slot → List ℕ → Place → Value
value_at h regs cells (Reg i) = slot_value (slice_get regs i)
value_at h regs cells (Box i) = cell_value h (place_cell regs cells (Box i))
value_at h regs cells (Up i) = cell_value h (place_cell regs cells (Up i))

-- the heap and the registers with a value at a place, as `write_place` has them
abbrev pub heap_with : Heap Proc → Option ℕ → Value → Heap Proc
heap_with h (Some c) v = set_cell_in h c v
heap_with h None v = h

abbrev pub written_at : Heap Proc → List Slot → List ℕ → Place → Value → Heap Proc × List Slot
written_at h regs cells (Reg i) v = (h, slice_set regs i (Plain v))
written_at h regs cells (Box i) v = (heap_with h (place_cell regs cells (Box i)) v, regs)
written_at h regs cells (Up i) v = (heap_with h (place_cell regs cells (Up i)) v, regs)

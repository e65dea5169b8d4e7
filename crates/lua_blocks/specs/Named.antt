-- A LOCAL FUNCTION (manual 2.4.7 and 2.5.9), where the heap with the registers, the cells of the running function and the title of its
-- module stand apart: what `lua_slots` says of a whole machine.
use Rattle.std.specs.Prelude.{ℕ, Bool, List, length}
use Rattle.lua_code.specs.LuaHeapProc.{Proc}
use Rattle.lua_code.specs.LuaHeapValue.{Nil, Closure as ClosureValue}
use Rattle.lua_code.specs.LuaHeapHeap.{Heap, Function as FunctionClosed, new_closure}
use Rattle.lua_code.specs.LuaMeaningScope.{Bytes}
use Rattle.lua_code.specs.LuaSlotsCode.{Place}
use Rattle.lua_code.specs.LuaSlotsSight.{newest}
use Rattle.lua_state.specs.LuaSlotsSlots.{Slot, cells_at, with_one}
use Rattle.lua_state.specs.LuaStackPlaces.{written_at}

-- a function of this number in the module of this title, with the cells at these places
abbrev pub proc_at : Bytes → ℕ → List Place → List ℕ → List Slot → Proc
proc_at title index places cells regs = record { title = title; index = index; cells = cells_at regs cells places }

-- a new closure is the value of the newest variable
abbrev pub closure_named : Bool → Proc → List ℕ → Heap Proc × List Slot → Heap Proc × List Slot
closure_named boxed p cells x = written_at (new_closure x.0 (FunctionClosed p)).0 x.1 cells (newest boxed) (ClosureValue (length x.0.closures))

-- the variable is there first, so that the function can capture itself
abbrev pub function_named : Bool → Bytes → ℕ → List Place → List ℕ → Heap Proc × List Slot → Heap Proc × List Slot
function_named boxed title index places cells x = closure_named boxed (proc_at title index places cells (with_one boxed Nil x).1) cells (with_one boxed Nil x)

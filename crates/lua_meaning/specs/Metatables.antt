-- HANDLERS (manual 2.8): the fields of metatables by which tables change what operators, indexing and calls do.
-- Only tables have metatables. A handler is looked up without metamethods, and nil is none.
use Rattle.std.specs.Prelude.{if◌then◌else◌}
use Rattle.lua_walk.specs.LuaHeapValue.{Value, Nil, Table, Text, is_nil, same}
use Rattle.mw_html.specs.LuaHeapTable.{get}
use Rattle.lua_walk.specs.LuaHeapHeap.{Heap, table_at}
use Rattle.lua_meaning.specs.Scope.{Bytes}

-- a field of what stands as a metatable
abbrev pub field : {X : Type 0} → Heap X → Value → Bytes → Value
field h (Table t) name = get (table_at h t).entries (Text name)
field h v name = Nil

abbrev pub metatable : {X : Type 0} → Heap X → Value → Value
metatable h (Table t) = (table_at h t).meta
metatable h v = Nil

-- the handler of a value for an event, or nil
abbrev pub handler : {X : Type 0} → Heap X → Value → Bytes → Value
handler h v event = field h (metatable h v) event

-- the first operand's handler, or else the second's
abbrev pub either_handler : {X : Type 0} → Heap X → Value → Value → Bytes → Value
either_handler h a b event = if is_nil (handler h a event) then handler h b event else handler h a event

-- the handler that both operands have, or nil where theirs are not the same
abbrev pub common_handler : {X : Type 0} → Heap X → Value → Value → Bytes → Value
common_handler h a b event = if same (handler h a event) (handler h b event) then handler h a event else Nil

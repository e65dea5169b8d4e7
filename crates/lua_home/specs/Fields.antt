-- FIELDS that a table of the library gets: a name, and a text, a function of the library or a table.
use Rattle.std.specs.Prelude.{List, map}
use Rattle.lua_meaning.specs.LuaHeapValue.{Value, Text, Table, Builtin}
use Rattle.lua_graph.specs.LuaHeapTable.{Entries}
use Rattle.lua_graph.specs.LuaStoreSeen.{StoreView}
use Rattle.lua_graph.specs.LuaStoreParts.{IsTableOf}
use Rattle.lua_home.specs.declared.fields.Item.{Item}
use Rattle.lua_home.specs.declared.fields.Item.TheVariants as item
use Rattle.lua_home.specs.declared.fields.Field.{Field}

abbrev pub item_seen : Item → Value
item_seen (item.Text bytes) = Text bytes.now
item_seen (item.Function which) = Builtin which
item_seen (item.Table id) = Table id.at

abbrev pub field_seen : Field → Value × Value
field_seen f = (Text f.name.now, item_seen f.value)

abbrev pub fields_seen : List Field → Entries
fields_seen fs = map field_seen fs

abbrev pub IsItemOf : StoreView → Item → Type 0
IsItemOf s (item.Text bytes) = Unit {0}
IsItemOf s (item.Function which) = Unit {0}
IsItemOf s (item.Table id) = IsTableOf s id

abbrev pub IsFieldOf : StoreView → Field → Type 0
IsFieldOf s f = IsItemOf s f.value

-- WHICH VALUES ARE OBJECTS of `mw.html` (Scribunto, HTML library).
use Rattle.std.specs.Prelude.{Option, Some, None}
use Rattle.lua_store.specs.declared.ids.MarkupId.{MarkupId}
use Rattle.lua_store.specs.declared.value.Value.{Value}
use Rattle.lua_store.specs.declared.value.Value.TheVariants as value

abbrev pub object_in : Value → Option MarkupId
object_in (value.Markup id) = Some id
object_in v = None

-- THE PARTS OF A TAG that `tag` finds: the fields of a table, or what is given one by one.
use Rattle.std.specs.Prelude.{◌∷◌, [], List, Option, Some, None, codes}
use Rattle.mw_ustrings.specs.LuaHeapProc.{Proc}
use Rattle.mw_ustrings.specs.LuaHeapHeap.{Heap}
use Rattle.mw_ustrings.specs.LuaHeapValue.{Value, Table}
use Rattle.mw_ustrings.specs.LuaMeaningMetatables.{field}
use Rattle.mw_ustrings.specs.LuaMeaningValues.{second, third}
use Rattle.mw_ustrings.specs.LuaMeaningTag.{TagParts}
use Rattle.mw_ustrings.specs.LuaStoreDeclaredIdsTableId.{TableId}
use Rattle.mw_ustrings.specs.MwFrameTextsRead.{parts}

abbrev pub found_parts : Heap Proc → List Value → Option TableId → TagParts
found_parts h given (Some table) = parts (field h (Table table.at) (codes "name") ∷ []) (field h (Table table.at) (codes "attrs")) (field h (Table table.at) (codes "content"))
found_parts h given None = parts given (second given) (third given)

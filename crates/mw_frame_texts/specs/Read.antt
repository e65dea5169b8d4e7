-- WHAT WAS READ OF A TABLE OF ATTRIBUTES: the meaning's own, for what was found or refused.
use Rattle.std.specs.Prelude.{◌≡◌, ℕ, List, [], ◌∷◌, ◌++◌, Option, Some, None, Ok, Err, codes}
use Rattle.mw_frames.specs.LuaHeapProc.{Proc}
use Rattle.mw_frames.specs.LuaHeapValue.{Value, Table}
use Rattle.mw_frames.specs.LuaHeapTable.{Entries}
use Rattle.mw_frames.specs.LuaHeapHeap.{Heap, table_at}
use Rattle.mw_frames.specs.LuaMeaningArguments.{Plain, Argument, with_argument, gives_text}
use Rattle.mw_frames.specs.LuaMeaningMetatables.{field}
use Rattle.mw_frames.specs.LuaMeaningMessages.{bad_argument, expected}
use Rattle.mw_frames.specs.LuaMeaningScope.{Bytes}
use Rattle.mw_frames.specs.LuaMeaningValues.{second, third}
use Rattle.mw_frames.specs.LuaMeaningTag.{TagParts, no_attribute, and_then, attributes, attributes_in, closed_by}
use Rattle.mw_frames.specs.LuaStoreDeclaredIdsTableId.{TableId}
use Rattle.mw_frames.specs.LuaStoreDeclaredValueValue.{Value as Stored}
use Rattle.mw_frames.specs.LuaStoreSeen.{StoreView, seen}
use Rattle.mw_frames.specs.LuaStoreParts.{IsOf}
use Rattle.mw_frames.specs.LuaBasicArguments.{text_bytes}
use Rattle.mw_frame_texts.specs.declared.attributes.AttrText.{AttrText}
use Rattle.mw_frame_texts.specs.declared.attributes.AttrValue.{AttrValue}
use Rattle.mw_frame_texts.specs.declared.attributes.AttrValue.TheVariants as value
use Rattle.mw_frame_texts.specs.declared.attributes.AttrsRead.{AttrsRead}
use Rattle.mw_frame_texts.specs.declared.attributes.AttrsRead.TheVariants as read
use Rattle.mw_frame_texts.specs.declared.contents.Content.{Content}
use Rattle.mw_frame_texts.specs.Written.{attribute_written, attrs_written, content_written}

-- what is written of a value, or that it is none
abbrev pub found_value : Bytes → Value → AttrValue → Argument Bytes
found_value name v (value.With t) = Ok (attribute_written name (Some (text_bytes t)))
found_value name v value.Alone = Ok (attribute_written name None)
found_value name v value.Absent = Ok []
found_value name v value.Refused = no_attribute v

-- an entry was read: what is written before and after it; or its key or its value is none
abbrev pub IsRead : List (List ℕ) → List AttrText → List AttrText → Value × Value → Option Stored → Type 0
IsRead texts old new e None = (more : Entries) → and_then (Ok (attrs_written new)) (attributes more) ≡ and_then (Ok (attrs_written old)) (attributes (e ∷ more))
IsRead texts old new e (Some v) = (more : Entries) → and_then (Ok (attrs_written old)) (attributes (e ∷ more)) ≡ no_attribute (seen texts v)

-- all entries were read, or one was refused
abbrev pub found_attrs : List (List ℕ) → AttrsRead → Argument Bytes
found_attrs texts (read.All attrs) = Ok (attrs_written attrs)
found_attrs texts (read.Refused v) = no_attribute (seen texts v)

abbrev pub RefusedOf : StoreView → AttrsRead → Type 0
RefusedOf s (read.All attrs) = Unit {0}
RefusedOf s (read.Refused v) = IsOf s v

-- a table of attributes, or nil for none of them
abbrev pub entries_in : Heap Proc → Option TableId → Entries
entries_in h (Some table) = (table_at h table.at).entries
entries_in h None = []

abbrev pub found_table : Heap Proc → Value → Option (Option TableId) → Argument Bytes
found_table h v (Some table) = attributes (entries_in h table)
found_table h v None = Err (bad_argument 2 (codes "tag") (expected (codes "table") (v ∷ [])))

-- what follows the attributes, or that the content is none
abbrev pub found_content : Bytes → Value → Option Content → Argument Bytes
found_content name v (Some c) = Ok (content_written name c)
found_content name v None = Err (bad_argument 3 (codes "tag") (expected (codes "string") (v ∷ [])))

-- a tag of this name, behind the charge of its cleared attributes
abbrev pub tag_behind : Bytes → Value → Value → Heap Proc → Plain Proc
tag_behind name attrs content h =
    with_argument h (and_then (attributes_in h attrs) (closed_by name content)) (λ behind.
    gives_text h (codes "<" ++ name ++ behind))

-- the parts of a tag
abbrev pub parts : List Value → Value → Value → TagParts
parts name attrs content = record { name = name; attrs = attrs; content = content }

-- where they are the fields of a table, or given one by one
abbrev pub found_parts : Heap Proc → List Value → Option TableId → TagParts
found_parts h given (Some table) = parts (field h (Table table.at) (codes "name") ∷ []) (field h (Table table.at) (codes "args")) (field h (Table table.at) (codes "content"))
found_parts h given None = parts given (third given) (second given)

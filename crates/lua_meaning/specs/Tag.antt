-- A TAG OF HTML as a text (Scribunto, mw.text.tag).
use Rattle.std.specs.Prelude.{ℕ, true, false, ◌&&◌, List, [], ◌∷◌, ◌++◌, Ok, Err, Option, Some, None, if◌then◌else◌, ◌==◌, codes}
use Rattle.std.specs.Fmt.{signed_decimal}
use Rattle.lua_syntax.specs.WkBaseTitles.{begins_with}
use Rattle.lua_walk.specs.LuaHeapValue.{Value, Nil, Truth, Number, Text, Table, is_nil}
use Rattle.mw_html.specs.LuaHeapTable.{Entries}
use Rattle.lua_walk.specs.LuaHeapHeap.{Heap, table_at}
use Rattle.lua_meaning.specs.Scope.{Bytes}
use Rattle.lua_meaning.specs.Values.{second, third, text_in}
use Rattle.lua_meaning.specs.Messages.{bad_argument, expected}
use Rattle.lua_meaning.specs.Metatables.{field}
use Rattle.lua_meaning.specs.Arguments.{Plain, gives_text, with_charge, Argument, with_argument, a_text, text_charge, passed}

-- the value of an attribute: `&`, `<`, `>`, `"`, `'` and the space that does not break are written as references
abbrev pub reference : ℕ → Bytes
reference c =
    if c == 38 then codes "&amp;" else if c == 60 then codes "&lt;" else if c == 62 then codes "&gt;"
    else if c == 34 then codes "&quot;" else if c == 39 then codes "&#39;" else c ∷ []

-- behind a byte; the space that does not break is the bytes 194 and 160
abbrev pub encode_byte : ℕ → ℕ → Bytes → Bytes
encode_byte before c more =
    if (c == 194) && begins_with 160 more then []
    else if (before == 194) && (c == 160) then codes "&nbsp;"
    else reference c

abbrev pub encode_behind : ℕ → Bytes → Bytes
encode_behind before [] = []
encode_behind before (c ∷ more) = encode_byte before c more ++ encode_behind c more

abbrev pub encode : Bytes → Bytes
encode text = encode_behind 0 text

-- AN ATTRIBUTE: a text or a number is written with its value, true without one, false not at all. A message says what is none.
abbrev pub no_attribute : Value → Argument Bytes
no_attribute v = Err (bad_argument 2 (codes "tag") (expected (codes "string") (v ∷ [])))

abbrev pub attribute : Bytes → Option Bytes → Value → Argument Bytes
attribute name (Some t) v = Ok (codes " " ++ name ++ codes "=\"" ++ encode t ++ codes "\"")
attribute name None (Truth true) = Ok (codes " " ++ name)
attribute name None (Truth false) = Ok []
attribute name None v = no_attribute v

abbrev pub named_attribute : Option Bytes → Value × Value → Argument Bytes
named_attribute (Some name) e = attribute name (text_in e.1) e.1
named_attribute None e = no_attribute e.0

-- one after another; the first message stands
abbrev pub and_then : Argument Bytes → Argument Bytes → Argument Bytes
and_then (Ok a) (Ok b) = Ok (a ++ b)
and_then (Ok a) (Err message) = Err message
and_then (Err message) b = Err message

abbrev pub entry_attribute : Value × Value → Argument Bytes
entry_attribute e = named_attribute (text_in e.0) e

abbrev pub attributes : Entries → Argument Bytes
attributes [] = Ok []
attributes (e ∷ more) = if is_nil e.1 then attributes more else and_then (entry_attribute e) (attributes more)

-- those of a table, in order of `next`; each cleared entry that is passed costs a step
abbrev pub passed_in : {X : Type 0} → Heap X → Value → ℕ
passed_in h (Table t) = passed entry_attribute (table_at h t).entries
passed_in h v = 0

abbrev pub attributes_in : {X : Type 0} → Heap X → Value → Argument Bytes
attributes_in h Nil = Ok []
attributes_in h (Table t) = attributes (table_at h t).entries
attributes_in h v = Err (bad_argument 2 (codes "tag") (expected (codes "table") (v ∷ [])))

-- WHAT FOLLOWS the attributes: a text with the closing tag, `>` alone for nil, and ` />` for false
abbrev pub closed_by : Bytes → Value → Argument Bytes
closed_by name Nil = Ok (codes ">")
closed_by name (Truth false) = Ok (codes " />")
closed_by name (Number n) = Ok (codes ">" ++ signed_decimal n ++ codes "</" ++ name ++ codes ">")
closed_by name (Text t) = Ok (codes ">" ++ t ++ codes "</" ++ name ++ codes ">")
closed_by name v = Err (bad_argument 3 (codes "tag") (expected (codes "string") (v ∷ [])))

-- THE TAG of a name (the first of a list, if it is there), attributes and content. It costs the bytes of the arguments that are strings,
-- a step for each cleared entry among the attributes, and its own bytes.
pub record TagParts : Type 0 where
  pub name : List Value
  pub attrs : Value
  pub content : Value

abbrev pub tag_of : {X : Type 0} → TagParts → Heap X → Plain X
tag_of p h =
    with_argument h (a_text 1 (codes "tag") p.name) (λ name.
    with_charge (passed_in h p.attrs) (
    with_argument h (and_then (attributes_in h p.attrs) (closed_by name p.content)) (λ behind.
    gives_text h (codes "<" ++ name ++ behind))))

-- the name, the content and the attributes, one by one or as fields of a table
abbrev pub extension_parts : {X : Type 0} → Heap X → List Value → TagParts
extension_parts h (Table t ∷ more) = record {
  name = field h (Table t) (codes "name") ∷ [];
  attrs = field h (Table t) (codes "args");
  content = field h (Table t) (codes "content");
}
extension_parts h given = record { name = given; attrs = third given; content = second given }

abbrev pub extension_tag : {X : Type 0} → List Value → Heap X → Plain X
extension_tag given h = with_charge (text_charge given) (tag_of (extension_parts h given) h)

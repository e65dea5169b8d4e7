-- FUNCTIONS OF `mw.text` that call back nobody (Scribunto, Text library), behind the charge of their arguments (`of_texts`). A text that
-- is given costs its bytes.
use Rattle.std.specs.Prelude.{ℕ, suc, ◌+◌, pos, Bool, true, false, List, [], ◌∷◌, length, Option, Some, None, Result, Ok, Err, codes, chars, encode_utf8_all}
use Rattle.mw_text.specs.LuaPatternDeclaredItemSet.{Set}
use Rattle.mw_text.specs.Sets.{chosen_set, member}
use Rattle.mw_text.specs.Trim.{is_space, trimmed, trim_tries}
use Rattle.mw_text.specs.Split.{Sought, sought_by, parts_of}
use Rattle.mw_text.specs.References.{is_special, encoded, nowiki_of}
use Rattle.mw_text.specs.Decode.{decoded}
use Rattle.mw_text.specs.Joined.{joined, truncated}
use Rattle.lua_walk.specs.LuaHeapValue.{Value, Nil, Number, Text, Table, is_true}
use Rattle.mw_html.specs.LuaHeapTable.{Entries, border}
use Rattle.lua_walk.specs.LuaHeapHeap.{Heap, table_at}
use Rattle.lua_meaning.specs.Charges.{table_charge, entry_charge}
use Rattle.lua_meaning.specs.Scope.{Bytes}
use Rattle.lua_meaning.specs.Values.{rest, second, third}
use Rattle.lua_meaning.specs.Metatables.{field}
use Rattle.lua_meaning.specs.Arguments.{Plain, with_charge, costs, gives_text, fails, Argument, with_argument, a_table, a_number, a_text}
use Rattle.lua_meaning.specs.Basic.{entries_from}
use Rattle.lua_meaning.specs.Frames.{with_table}
use Rattle.lua_meaning.specs.Tag.{TagParts, tag_of}
use Rattle.lua_meaning.specs.TextArguments.{utf8_text, utf8_text_or, utf8_text_if_any}
use Rattle.lua_meaning.specs.Checks.{text_or, fourth, malformed}

-- a text that took so many tries
abbrev pub gives_tried : {X : Type 0} → Heap X → ℕ → Bytes → Plain X
gives_tried h tries text = with_charge tries (gives_text h text)

-- ---- sets

-- a set that is given is read for a step a byte, also one with a fault
abbrev pub set_charge : Option Bytes → ℕ
set_charge None = 0
set_charge (Some set) = length set

abbrev pub by_set : {X : Type 0} → Heap X → (Option Set → Plain X) → Result (Option Set) ℕ → Plain X
by_set h given (Ok set) = given set
by_set h given (Err n) = fails h (malformed n)

-- `trim(s, set)`
abbrev pub trims : {X : Type 0} → Heap X → Bytes → Option Set → Plain X
trims h s set = gives_tried h (trim_tries (member is_space set) (chars s)) (encode_utf8_all (trimmed (member is_space set) (chars s)))

abbrev pub trim : {X : Type 0} → List Value → Heap X → Plain X
trim args h =
    with_argument h (utf8_text 1 (codes "trim") args) (λ s.
    with_argument h (utf8_text_if_any 2 (codes "trim") (rest args)) (λ set.
    with_charge (set_charge set) (by_set h (trims h s) (chosen_set set))))

-- `encode(s, set)`
abbrev pub encodes : {X : Type 0} → Heap X → Bytes → Option Set → Plain X
encodes h s set = gives_tried h (length (chars s)) (encoded (member is_special set) (chars s))

abbrev pub encode : {X : Type 0} → List Value → Heap X → Plain X
encode args h =
    with_argument h (utf8_text 1 (codes "encode") args) (λ s.
    with_argument h (utf8_text_if_any 2 (codes "encode") (rest args)) (λ set.
    with_charge (set_charge set) (by_set h (encodes h s) (chosen_set set))))

-- ---- `split`

-- a part costs its entry and its bytes
abbrev pub parts_charge : List Bytes → ℕ
parts_charge [] = 0
parts_charge (t ∷ ts) = entry_charge + length t + parts_charge ts

-- texts by number
abbrev pub text_entries : ℕ → List Bytes → Entries
text_entries n [] = []
text_entries n (t ∷ ts) = (Number (pos n), Text t) ∷ text_entries (suc n) ts

-- a new table with the parts
abbrev pub gives_parts : {X : Type 0} → Heap X → ℕ → List Bytes → Plain X
gives_parts h tries parts =
    costs (tries + (table_charge + parts_charge parts)) (with_table h (text_entries 1 parts) Nil) (Table (length h.tables) ∷ [])

abbrev pub splits : {X : Type 0} → Heap X → Bytes → Result Sought ℕ → Plain X
splits h s (Ok sought) = gives_parts h (parts_of sought s).0 (parts_of sought s).1
splits h s (Err n) = fails h (malformed n)

-- a pattern is read for a step a byte, a plain text for nothing more
abbrev pub pattern_charge : Bool → Bytes → ℕ
pattern_charge true pattern = 0
pattern_charge false pattern = length pattern

abbrev pub splits_by : {X : Type 0} → Heap X → Bool → Bytes → Bytes → Plain X
splits_by h plain s pattern = with_charge (pattern_charge plain pattern) (splits h s (sought_by plain pattern))

-- `split(s, pattern, plain)`
abbrev pub split : {X : Type 0} → List Value → Heap X → Plain X
split args h =
    with_argument h (utf8_text 1 (codes "split") args) (λ s.
    with_argument h (utf8_text 2 (codes "split") (rest args)) (λ pattern.
    splits_by h (is_true (third args)) s pattern))

-- ---- texts of any bytes

-- `decode(s)` and `nowiki(s)`
abbrev pub decode : {X : Type 0} → List Value → Heap X → Plain X
decode args h = with_argument h (a_text 1 (codes "decode") args) (λ s. gives_text h (decoded s))

abbrev pub nowiki : {X : Type 0} → List Value → Heap X → Plain X
nowiki args h = with_argument h (a_text 1 (codes "nowiki") args) (λ s. gives_text h (nowiki_of s))

-- `listToText(t, separator, conjunction)`: the items are at the numbers from 1 to the border, and each is a text or a number
abbrev pub list_values : Entries → List Value
list_values es = entries_from (border es) (pos 1) es

abbrev pub item_then : Argument Bytes → Argument (List Bytes) → Argument (List Bytes)
item_then (Ok t) (Ok ts) = Ok (t ∷ ts)
item_then (Ok t) (Err message) = Err message
item_then (Err message) more = Err message

abbrev pub items_of : List Value → Argument (List Bytes)
items_of [] = Ok []
items_of (v ∷ vs) = item_then (a_text 1 (codes "listToText") (v ∷ [])) (items_of vs)

abbrev pub list_to_text : {X : Type 0} → List Value → Heap X → Plain X
list_to_text args h =
    with_argument h (a_table 1 (codes "listToText") args) (λ t.
    with_argument h (items_of (list_values (table_at h t).entries)) (λ items.
    with_argument h (text_or (codes ", ") 2 (codes "listToText") (rest args)) (λ separator.
    with_argument h (text_or (codes " and ") 3 (codes "listToText") (rest (rest args))) (λ conjunction.
    gives_text h (joined separator conjunction items)))))

-- `tag(name, attrs, content)`, or with these as fields of a table
abbrev pub tag_parts : {X : Type 0} → Heap X → List Value → TagParts
tag_parts h (Table t ∷ more) = record {
  name = field h (Table t) (codes "name") ∷ [];
  attrs = field h (Table t) (codes "attrs");
  content = field h (Table t) (codes "content");
}
tag_parts h given = record { name = given; attrs = second given; content = third given }

abbrev pub tag : {X : Type 0} → List Value → Heap X → Plain X
tag args h = tag_of (tag_parts h args) h

-- `truncate(s, n, ellipsis, adjust)`
abbrev pub truncate : {X : Type 0} → List Value → Heap X → Plain X
truncate args h =
    with_argument h (utf8_text 1 (codes "truncate") args) (λ s.
    with_argument h (a_number 2 (codes "truncate") (rest args)) (λ n.
    with_argument h (utf8_text_or (codes "...") 3 (codes "truncate") (rest (rest args))) (λ ellipsis.
    gives_text h (encode_utf8_all (truncated (chars s) n (chars ellipsis) (is_true (fourth args)))))))

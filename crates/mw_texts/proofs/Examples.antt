-- EXAMPLES, with values of MediaWiki's own library and charges counted by hand.
use Rattle.std.proofs.Common.{◌≡◌, refl, ℕ, true, false, List, [], ◌∷◌}
use Rattle.std.specs.Prelude.{pos, negsuc, codes}
use Rattle.std.specs.Str.{is_utf8, chars}
use Rattle.std.specs.Char.{encode_utf8}
use Rattle.std.specs.Fmt.{digits}
use Rattle.lua_string.specs.LuaPatternTexts.{point_code}
use Rattle.mw_text.specs.References.{numbered}
use Rattle.mw_text.specs.Split.{parts_of}
use Rattle.mw_ustrings.specs.LuaHeapValue.{Value, Nil, Truth, Number, Text, Table}
use Rattle.mw_ustrings.specs.LuaHeapTable.{Entries}
use Rattle.mw_ustrings.specs.LuaHeapHeap.{Heap, empty}
use Rattle.mw_ustrings.specs.LuaMeaningScope.{Bytes}
use Rattle.mw_ustrings.specs.LuaMeaningArguments.{Plain, Fails, costs}
use Rattle.mw_ustrings.specs.LuaMeaningFrames.{with_table}
use Rattle.mw_texts.specs.Table.{answer_of}
use Rattle.mw_texts.specs.declared.table.TextFunction.{TextFunction}
use Rattle.mw_texts.specs.declared.table.TextFunction.TheVariants as which

-- a heap with one table
abbrev holding : Entries → Heap ℕ
holding es = with_table empty es Nil

abbrev given : TextFunction → List Value → Plain ℕ
given f args = answer_of f args empty

abbrev costing : ℕ → Bytes → Plain ℕ
costing n t = costs n empty (Text t ∷ [])

abbrev raising : ℕ → Bytes → Plain ℕ
raising n message = record { charge = n; heap = empty; end = Fails (Text message) (pos 1) }

-- three bytes are given; the space and a are compared from each side; one byte comes back
trim_spaces : given which.Trim (Text (codes " a ") ∷ []) ≡ costing 8 (codes "a")
unfolding is_utf8 chars encode_utf8
trim_spaces = refl

-- six bytes are given, the set is read for one, three are compared from each side
trim_set : given which.Trim (Text (codes "xxaxx") ∷ Text (codes "x") ∷ []) ≡ costing 14 (codes "a")
unfolding is_utf8 chars encode_utf8 point_code
trim_set = refl

-- all of them go: the right end is not looked at
trim_all : given which.Trim (Text (codes "xxx") ∷ Text (codes "x") ∷ []) ≡ costing 8 []
unfolding is_utf8 chars encode_utf8 point_code
trim_all = refl

no_set : given which.Trim (Text (codes "x") ∷ Text [] ∷ []) ≡ raising 1 (codes "malformed pattern (2)")
unfolding is_utf8 chars encode_utf8 point_code digits
no_set = refl

set_must_be_utf8 : given which.Trim (Text (codes "x") ∷ Text (255 ∷ []) ∷ []) ≡ raising 2 (codes "bad argument #2 to 'trim' (not UTF-8)")
unfolding is_utf8 chars encode_utf8 digits
set_must_be_utf8 = refl

-- five bytes are given, one is read; the comma is compared four times; a table, three entries, two bytes
split_commas : given which.Split (Text (codes "a,b,") ∷ Text (codes ",") ∷ [])
    ≡ costs 32 (with_table empty ((Number (pos 1), Text (codes "a")) ∷ (Number (pos 2), Text (codes "b")) ∷ (Number (pos 3), Text []) ∷ []) Nil) (Table 0 ∷ [])
unfolding is_utf8 chars encode_utf8 point_code parts_of
split_commas = refl

-- a plain text is not read and makes no tries
split_plain : given which.Split (Text (codes "abc") ∷ Text [] ∷ Truth true ∷ [])
    ≡ costs 26 (with_table empty ((Number (pos 1), Text (codes "a")) ∷ (Number (pos 2), Text (codes "b")) ∷ (Number (pos 3), Text (codes "c")) ∷ []) Nil) (Table 0 ∷ [])
unfolding is_utf8 chars encode_utf8 point_code parts_of
split_plain = refl

split_fault : given which.Split (Text (codes "abc") ∷ Text (codes "%") ∷ []) ≡ raising 5 (codes "malformed pattern (1)")
unfolding is_utf8 chars encode_utf8 point_code digits
split_fault = refl

-- five bytes are given, five are compared, fifteen come back
encode_markup : given which.Encode (Text (codes "<a&b>") ∷ []) ≡ costing 25 (codes "&lt;a&amp;b&gt;")
unfolding is_utf8 chars encode_utf8
encode_markup = refl

-- a set takes nothing but its members, and is read for a step a byte
encode_set : given which.Encode (Text (codes "<a>") ∷ Text (codes "a") ∷ []) ≡ costing 15 (codes "<&#97;>")
unfolding is_utf8 chars encode_utf8 point_code numbered digits
encode_set = refl

decode_once : given which.Decode (Text (codes "&amp;lt;&#65;") ∷ []) ≡ costing 18 (codes "&lt;A")
unfolding encode_utf8
decode_once = refl

nowiki_brackets : given which.Nowiki (Text (codes "[x]") ∷ []) ≡ costing 14 (codes "&#91;x&#93;")
unfolding numbered digits
nowiki_brackets = refl

truncate_first : given which.Truncate (Text (codes "abcdef") ∷ Number (pos 3) ∷ []) ≡ costing 12 (codes "abc...")
unfolding is_utf8 chars encode_utf8
truncate_first = refl

truncate_last : given which.Truncate (Text (codes "abcdef") ∷ Number (negsuc 1) ∷ Text (codes "-") ∷ []) ≡ costing 10 (codes "-ef")
unfolding is_utf8 chars encode_utf8
truncate_last = refl

truncate_counts_the_ellipsis : given which.Truncate (Text (codes "abcdef") ∷ Number (pos 2) ∷ Nil ∷ Truth true ∷ []) ≡ costing 9 (codes "...")
unfolding is_utf8 chars encode_utf8
truncate_counts_the_ellipsis = refl

-- a table is no string; its items cost nothing but what is given
abbrev three : Heap ℕ
three = holding ((Number (pos 1), Number (pos 1)) ∷ (Number (pos 2), Text (codes "b")) ∷ (Number (pos 3), Number (pos 3)) ∷ [])

list_of_three : answer_of which.ListToText (Table 0 ∷ []) three ≡ costs 10 three (Text (codes "1, b and 3") ∷ [])
unfolding digits
list_of_three = refl

list_with_words : answer_of which.ListToText (Table 0 ∷ Text (codes ";") ∷ Text (codes "&") ∷ []) three ≡ costs 7 three (Text (codes "1;b&3") ∷ [])
unfolding digits
list_with_words = refl

list_of_none : answer_of which.ListToText (Table 0 ∷ []) (holding []) ≡ costs 0 (holding []) (Text [] ∷ [])
list_of_none = refl

-- the first argument is looked at with its items, before the second one
list_of_truths : answer_of which.ListToText (Table 0 ∷ Truth true ∷ []) (holding ((Number (pos 1), Truth true) ∷ []))
    ≡ record { charge = 0; heap = holding ((Number (pos 1), Truth true) ∷ []); end = Fails (Text (codes "bad argument #1 to 'listToText' (string expected, got boolean)")) (pos 1) }
unfolding digits
list_of_truths = refl

tag_with_content : given which.Tag (Text (codes "b") ∷ Nil ∷ Text [] ∷ []) ≡ costing 8 (codes "<b></b>")
tag_with_content = refl

abbrev attributes : Heap ℕ
attributes = holding ((Text (codes "x"), Number (pos 1)) ∷ (Text (codes "y"), Truth true) ∷ (Text (codes "z"), Truth false) ∷ [])

tag_with_attributes : answer_of which.Tag (Text (codes "b") ∷ Table 0 ∷ Truth false ∷ []) attributes ≡ costs 14 attributes (Text (codes "<b x=\"1\" y />") ∷ [])
unfolding digits
tag_with_attributes = refl

-- the parts as fields of a table, which are no arguments
abbrev fields : Heap ℕ
fields = holding ((Text (codes "content"), Text (codes "t")) ∷ (Text (codes "name"), Text (codes "i")) ∷ [])

tag_of_fields : answer_of which.Tag (Table 0 ∷ []) fields ≡ costs 8 fields (Text (codes "<i>t</i>") ∷ [])
tag_of_fields = refl

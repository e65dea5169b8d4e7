-- EXAMPLES, with values of MediaWiki's own library and charges counted by hand. In `aébc` é is the bytes 195 and 169.
use Rattle.std.proofs.Common.{◌≡◌, refl, ℕ, true, false, [], ◌∷◌, List, ◌++◌}
use Rattle.std.specs.Prelude.{pos, negsuc, codes}
use Rattle.std.specs.Str.{is_utf8, chars}
use Rattle.std.specs.Char.{encode_utf8}
use Rattle.std.specs.Fmt.{digits}
use Rattle.lua_pattern.specs.Texts.{point_code}
use Rattle.mw_frame_texts.specs.LuaHeapValue.{Value, Nil, Truth, Number, Text}
use Rattle.mw_frame_texts.specs.LuaHeapHeap.{empty}
use Rattle.mw_frame_texts.specs.LuaMeaningScope.{Bytes}
use Rattle.mw_frame_texts.specs.LuaMeaningArguments.{Plain, Fails, costs}
use Rattle.mw_ustrings.specs.Table.{answer_of}
use Rattle.mw_ustrings.specs.declared.table.UstringFunction.{UstringFunction}
use Rattle.mw_ustrings.specs.declared.table.UstringFunction.TheVariants as which

abbrev e_acute : Bytes
e_acute = 195 ∷ 169 ∷ []

abbrev abc : Bytes
abc = 97 ∷ e_acute ++ 98 ∷ 99 ∷ []

abbrev given : UstringFunction → List Value → Plain ℕ
given f args = answer_of f args empty

abbrev costing : ℕ → List Value → Plain ℕ
costing n vs = costs n empty vs

abbrev raising : ℕ → Bytes → Plain ℕ
raising n message = record { charge = n; heap = empty; end = Fails (Text message) (pos 1) }

-- five bytes are given, two come back
sub_from_the_end : given which.Sub (Text abc ∷ Number (negsuc 1) ∷ []) ≡ costing 7 (Text (codes "bc") ∷ [])
unfolding is_utf8 chars encode_utf8
sub_from_the_end = refl

sub_before_the_start : given which.Sub (Text abc ∷ Number (negsuc 9) ∷ Number (negsuc 1) ∷ []) ≡ costing 9 (Text (97 ∷ e_acute ++ 98 ∷ []) ∷ [])
unfolding is_utf8 chars encode_utf8
sub_before_the_start = refl

sub_needs_a_place : given which.Sub (Text abc ∷ []) ≡ raising 5 (codes "bad argument #2 to 'sub' (number expected, got no value)")
unfolding is_utf8 chars encode_utf8 digits
sub_needs_a_place = refl

sub_needs_utf8 : given which.Sub (Text (255 ∷ []) ∷ Number (pos 1) ∷ []) ≡ raising 1 (codes "bad argument #1 to 'sub' (not UTF-8)")
unfolding is_utf8 chars encode_utf8 digits
sub_needs_utf8 = refl

-- a step for each number
codepoint_all : given which.Codepoint (Text abc ∷ Number (pos 1) ∷ Number (negsuc 0) ∷ []) ≡ costing 9 (Number (pos 97) ∷ Number (pos 233) ∷ Number (pos 98) ∷ Number (pos 99) ∷ [])
unfolding is_utf8 chars encode_utf8
codepoint_all = refl

codepoint_one : given which.Codepoint (Text abc ∷ Number (pos 2) ∷ []) ≡ costing 6 (Number (pos 233) ∷ [])
unfolding is_utf8 chars encode_utf8
codepoint_one = refl

byteoffset_third : given which.Byteoffset (Text abc ∷ Number (pos 3) ∷ []) ≡ costing 5 (Number (pos 4) ∷ [])
unfolding is_utf8 chars encode_utf8
byteoffset_third = refl

byteoffset_nowhere : given which.Byteoffset (Text abc ∷ Number (pos 5) ∷ []) ≡ costing 5 (Nil ∷ [])
unfolding is_utf8 chars encode_utf8
byteoffset_nowhere = refl

char_two : given which.Char (Number (pos 97) ∷ Number (pos 233) ∷ []) ≡ costing 3 (Text (97 ∷ e_acute) ∷ [])
unfolding encode_utf8
char_two = refl

char_surrogate : given which.Char (Number (pos 97) ∷ Number (pos 55296) ∷ []) ≡ raising 0 (codes "bad argument #2 to 'char' (out of range)")
unfolding encode_utf8 digits
char_surrogate = refl

char_first_fault : given which.Char (Number (negsuc 0) ∷ Truth true ∷ []) ≡ raising 0 (codes "bad argument #1 to 'char' (out of range)")
unfolding encode_utf8 digits
char_first_fault = refl

len_points : given which.Len (Text abc ∷ []) ≡ costing 5 (Number (pos 4) ∷ [])
unfolding is_utf8 chars encode_utf8
len_points = refl

len_of_no_text : given which.Len (Text (237 ∷ 160 ∷ 128 ∷ []) ∷ []) ≡ costing 3 (Nil ∷ [])
unfolding is_utf8 chars encode_utf8
len_of_no_text = refl

utf8_is_told : given which.IsUtf8 (Text (192 ∷ 128 ∷ []) ∷ []) ≡ costing 2 (Truth false ∷ [])
unfolding is_utf8 chars encode_utf8
utf8_is_told = refl

form_of_no_text : given which.ToNfc (Text (255 ∷ []) ∷ []) ≡ costing 1 (Nil ∷ [])
unfolding is_utf8 chars encode_utf8
form_of_no_text = refl

-- six bytes are given, one is read, and b is compared with a, é and b
find_b : given which.Find (Text abc ∷ Text (codes "b") ∷ []) ≡ costing 10 (Number (pos 3) ∷ Number (pos 3) ∷ [])
unfolding is_utf8 chars encode_utf8 point_code
find_b = refl

-- places are no texts; the mark is tested at each start
find_places : given which.Find (Text abc ∷ Text (codes "()b()") ∷ []) ≡ costing 22 (Number (pos 3) ∷ Number (pos 3) ∷ Number (pos 3) ∷ Number (pos 4) ∷ [])
unfolding is_utf8 chars encode_utf8 point_code
find_places = refl

find_past_the_end : given which.Find (Text abc ∷ Text [] ∷ Number (pos 10) ∷ []) ≡ costing 5 (Number (pos 5) ∷ Number (pos 4) ∷ [])
unfolding is_utf8 chars encode_utf8 point_code
find_past_the_end = refl

-- a plain search costs what it may look at, and the needle: behind aé there are two bytes
find_plain_text : given which.Find (Text abc ∷ Text (codes "c") ∷ Number (pos 3) ∷ Truth true ∷ []) ≡ costing 9 (Number (pos 4) ∷ Number (pos 4) ∷ [])
unfolding is_utf8 chars encode_utf8
find_plain_text = refl

-- a pattern with a fault is read too
find_fault : given which.Find (Text (codes "a") ∷ Text (codes "[a") ∷ []) ≡ raising 5 (codes "malformed pattern (2)")
unfolding is_utf8 chars encode_utf8 point_code digits
find_fault = refl

-- seven bytes are given, two are read, a and é are compared, and é is given
match_whole : given which.Match (Text abc ∷ Text e_acute ∷ []) ≡ costing 13 (Text e_acute ∷ [])
unfolding is_utf8 chars encode_utf8 point_code
match_whole = refl

match_nothing : given which.Match (Text (codes "a") ∷ Text (codes "b") ∷ []) ≡ costing 4 (Nil ∷ [])
unfolding is_utf8 chars encode_utf8 point_code
match_nothing = refl

-- FUNCTIONS OF `mw.ustring` that call back nobody (Scribunto, Ustring library), behind the charge of their arguments (`of_texts`).
-- Places are code points. A text that is given costs its bytes.
use Rattle.std.specs.Prelude.{ℕ, suc, ◌+◌, ◌-◌, ℤ, pos, negsuc, Bool, true, false, List, [], ◌∷◌, length, map, take, drop, Option, Some, None, Ok, Err, if◌then◌else◌, codes, chars, encode_utf8_all}
use Rattle.std.specs.Str.{is_utf8}
use Rattle.unicode_normalization.specs.Forms.{Form, Nfc, Nfd, Nfkc, Nfkd, normalize}
use Rattle.mw_text.specs.LuaPatternDeclaredPatternCapture.{Capture}
use Rattle.mw_text.specs.LuaPatternDeclaredPatternCaptureTheVariants.{Span, Place}
use Rattle.mw_text.specs.LuaPatternDeclaredPatternMatch.{Match}
use Rattle.mw_text.specs.LuaPatternDeclaredSlotsSlot.{Slot}
use Rattle.mw_text.specs.LuaPatternTexts.{points}
use Rattle.mw_text.specs.LuaPatternWay.{Answer, At, Nowhere, first as first_match}
use Rattle.mw_text.specs.LuaPatternRead.{Read, Fault, Fine, read_of, codes as codes_in}
use Rattle.mw_text.specs.LuaPatternSizes.{find_bytes, match_bytes}
use Rattle.mw_text.specs.LuaStringFinds.{match_of, place_of}
use Rattle.mw_text.specs.MwUstringTexts.{points_of, text_of_codes, byteoffset_of}
use Rattle.mw_text.specs.MwUstringFinds.{start_of}
use Rattle.lua_walk.specs.LuaHeapValue.{Value, Nil, Truth, Number, Text, is_true}
use Rattle.lua_walk.specs.LuaHeapHeap.{Heap}
use Rattle.lua_meaning.specs.Scope.{Bytes}
use Rattle.lua_meaning.specs.Values.{rest}
use Rattle.lua_meaning.specs.Messages.{bad_argument}
use Rattle.lua_meaning.specs.Arguments.{Plain, with_charge, gives, costs, gives_text, fails, Argument, with_argument, some_value, a_number, number_or, a_text}
use Rattle.lua_meaning.specs.Tag.{and_then}
use Rattle.lua_meaning.specs.TextArguments.{utf8_text}
use Rattle.lua_meaning.specs.Checks.{malformed, fourth}

-- `char(...)`: each argument is the number of a code point that UTF-8 can write
abbrev pub point_text : ℕ → Argument ℤ → Argument Bytes
point_text n (Ok code) = some_value (bad_argument n (codes "char") (codes "out of range")) (text_of_codes (code ∷ []))
point_text n (Err message) = Err message

abbrev pub points_text : ℕ → List Value → Argument Bytes
points_text n [] = Ok []
points_text n (v ∷ vs) = and_then (point_text n (a_number n (codes "char") (v ∷ vs))) (points_text (suc n) vs)

abbrev pub char : {X : Type 0} → List Value → Heap X → Plain X
char args h = with_argument h (points_text 1 args) (gives_text h)

-- `codepoint(s, i, j)`: each number costs a step
abbrev pub point_values : List ℕ → List Value
point_values [] = []
point_values (c ∷ cs) = Number (pos c) ∷ point_values cs

abbrev pub gives_points : {X : Type 0} → Heap X → List ℕ → Plain X
gives_points h cs = costs (length cs) h (point_values cs)

abbrev pub codepoint : {X : Type 0} → List Value → Heap X → Plain X
codepoint args h =
    with_argument h (utf8_text 1 (codes "codepoint") args) (λ s.
    with_argument h (number_or (pos 1) 2 (codes "codepoint") (rest args)) (λ i.
    with_argument h (number_or i 3 (codes "codepoint") (rest (rest args))) (λ j.
    gives_points h (points_of s i j))))

-- `byteoffset(s, l, i)`
abbrev pub place_or_nil : Option ℕ → Value
place_or_nil None = Nil
place_or_nil (Some at) = Number (pos at)

abbrev pub byteoffset : {X : Type 0} → List Value → Heap X → Plain X
byteoffset args h =
    with_argument h (utf8_text 1 (codes "byteoffset") args) (λ s.
    with_argument h (number_or (pos 1) 2 (codes "byteoffset") (rest args)) (λ l.
    with_argument h (number_or (pos 1) 3 (codes "byteoffset") (rest (rest args))) (λ i.
    gives h (place_or_nil (byteoffset_of s l i) ∷ []))))

-- `sub(s, i, j)`
abbrev pub sub : {X : Type 0} → List Value → Heap X → Plain X
sub args h =
    with_argument h (utf8_text 1 (codes "sub") args) (λ s.
    with_argument h (a_number 2 (codes "sub") (rest args)) (λ i.
    with_argument h (number_or (negsuc 0) 3 (codes "sub") (rest (rest args))) (λ j.
    gives_text h (encode_utf8_all (points_of s i j)))))

-- `len(s)` and `isutf8(s)`, of any bytes
abbrev pub length_in : Bytes → Value
length_in s = if is_utf8 s then Number (pos (length (chars s))) else Nil

abbrev pub len : {X : Type 0} → List Value → Heap X → Plain X
len args h = with_argument h (a_text 1 (codes "len") args) (λ s. gives h (length_in s ∷ []))

abbrev pub isutf8 : {X : Type 0} → List Value → Heap X → Plain X
isutf8 args h = with_argument h (a_text 1 (codes "isutf8") args) (λ s. gives h (Truth (is_utf8 s) ∷ []))

-- `toNFC(s)` and its kin, of any bytes: nil for those that aren't UTF-8
abbrev pub in_form : {X : Type 0} → Form → Heap X → Bytes → Plain X
in_form form h s = if is_utf8 s then gives_text h (encode_utf8_all (normalize form (chars s))) else gives h (Nil ∷ [])

abbrev pub to_form : {X : Type 0} → Form → Bytes → List Value → Heap X → Plain X
to_form form function args h = with_argument h (a_text 1 function args) (in_form form h)

abbrev pub to_nfc : {X : Type 0} → List Value → Heap X → Plain X
to_nfc args h = to_form Nfc (codes "toNFC") args h

abbrev pub to_nfd : {X : Type 0} → List Value → Heap X → Plain X
to_nfd args h = to_form Nfd (codes "toNFD") args h

abbrev pub to_nfkc : {X : Type 0} → List Value → Heap X → Plain X
to_nfkc args h = to_form Nfkc (codes "toNFKC") args h

abbrev pub to_nfkd : {X : Type 0} → List Value → Heap X → Plain X
to_nfkd args h = to_form Nfkd (codes "toNFKD") args h

-- ---- `find` and `match`

-- where a match begins and ends: the number of its first code point, and of its last one
abbrev pub points_before : Bytes → ℕ → ℕ
points_before s at = length (chars (take at s))

abbrev pub place_value : Bytes → ℕ → Value
place_value s at = Number (pos (suc (points_before s at)))

abbrev pub last_value : Bytes → ℕ → Value
last_value s at = Number (pos (points_before s at))

-- a capture: a text, or a place
abbrev pub text_between : Bytes → ℕ → ℕ → Bytes
text_between s from to = take (to - from) (drop from s)

abbrev pub capture_value : Bytes → Capture → Value
capture_value s (Span from to) = Text (text_between s from to)
capture_value s (Place at) = place_value s at

abbrev pub find_values : Bytes → Match → List Value
find_values s m = place_value s m.start ∷ last_value s m.end ∷ map (capture_value s) m.captures

-- the captures, or without any the whole match
abbrev pub whole_or_captures : Bytes → ℕ → ℕ → List Capture → List Value
whole_or_captures s start end [] = Text (text_between s start end) ∷ []
whole_or_captures s start end (c ∷ cs) = map (capture_value s) (c ∷ cs)

abbrev pub match_values : Bytes → Match → List Value
match_values s m = whole_or_captures s m.start m.end m.captures

-- Each try costs a step, and each byte of the texts that are given; without a match nil is given.
abbrev pub gives_match : {X : Type 0} → Heap X → (Match → ℕ) → (Match → List Value) → List Slot → Answer → Plain X
gives_match h size values slots (At start end marks tries) =
    costs (tries + size (match_of slots start end marks)) h (values (match_of slots start end marks))
gives_match h size values slots (Nowhere tries) = costs tries h (Nil ∷ [])

abbrev pub searches : {X : Type 0} → Heap X → (Match → ℕ) → (Match → List Value) → Bytes → ℕ → Read → Plain X
searches h size values s from (Fault n) = fails h (malformed n)
searches h size values s from (Fine anchored items slots) = gives_match h size values slots (first_match points anchored items s from)

-- a pattern is read for a step a byte, also one with a fault
abbrev pub by_pattern : {X : Type 0} → Heap X → (Match → ℕ) → (Match → List Value) → Bytes → Bytes → ℕ → Plain X
by_pattern h size values s pattern from =
    with_charge (length pattern) (searches h size values s from (read_of (codes_in points pattern)))

-- a plain search costs the bytes of the text from its start on, and of the needle
abbrev pub plain_values : Bytes → ℕ → ℕ → Option ℕ → List Value
plain_values s from size None = Nil ∷ []
plain_values s from size (Some k) = place_value s (from + k) ∷ last_value s (from + k + size) ∷ []

abbrev pub by_text : {X : Type 0} → Heap X → Bytes → Bytes → ℕ → Plain X
by_text h s needle from =
    costs (length (drop from s) + length needle) h (plain_values s from (length needle) (place_of needle (drop from s)))

abbrev pub find_from : {X : Type 0} → Heap X → Bool → Bytes → Bytes → ℕ → Plain X
find_from h true s needle from = by_text h s needle from
find_from h false s pattern from = by_pattern h find_bytes (find_values s) s pattern from

-- `find(s, pattern, init, plain)`
abbrev pub find : {X : Type 0} → List Value → Heap X → Plain X
find args h =
    with_argument h (utf8_text 1 (codes "find") args) (λ s.
    with_argument h (utf8_text 2 (codes "find") (rest args)) (λ pattern.
    with_argument h (number_or (pos 1) 3 (codes "find") (rest (rest args))) (λ init.
    find_from h (is_true (fourth args)) s pattern (start_of s init))))

-- `match(s, pattern, init)`
abbrev pub match_from : {X : Type 0} → List Value → Heap X → Plain X
match_from args h =
    with_argument h (utf8_text 1 (codes "match") args) (λ s.
    with_argument h (utf8_text 2 (codes "match") (rest args)) (λ pattern.
    with_argument h (number_or (pos 1) 3 (codes "match") (rest (rest args))) (λ init.
    by_pattern h match_bytes (match_values s) s pattern (start_of s init))))

-- THE FUNCTIONS of `mw.ustring` do the same to two heaps, of which the first stands in the second.
use Rattle.std.proofs.Common.{◌≡◌, ◌∙◌, ap, refl, subst, ℕ, suc, Bool, true, false, List, [], ◌∷◌, length, map, Option, Some, None, Ok, Err, chars, if◌then◌else◌, encode_utf8_all}
use Rattle.std.specs.Prelude.{pos, negsuc, codes}
use Rattle.std.specs.Str.{is_utf8}
use Rattle.unicode_normalization.specs.Forms.{Form, Nfc, Nfd, Nfkc, Nfkd, normalize}
use Rattle.lua_meaning.specs.LuaPatternDeclaredPatternCapture.{Capture}
use Rattle.lua_meaning.specs.LuaPatternDeclaredPatternCaptureTheVariants.{Span, Place}
use Rattle.lua_meaning.specs.LuaPatternDeclaredPatternMatch.{Match}
use Rattle.lua_meaning.specs.LuaPatternDeclaredSlotsSlot.{Slot}
use Rattle.lua_meaning.specs.LuaPatternRead.{Read, Fault, Fine, read_of, codes as codes_in}
use Rattle.lua_meaning.specs.LuaPatternSizes.{find_bytes, match_bytes}
use Rattle.lua_meaning.specs.LuaPatternTexts.{points}
use Rattle.lua_meaning.specs.LuaPatternWay.{Answer, At, Nowhere, first as first_match}
use Rattle.lua_meaning.specs.LuaStringFinds.{match_of, place_of}
use Rattle.lua_meaning.specs.MwUstringTexts.{points_of, byteoffset_of}
use Rattle.lua_meaning.specs.MwUstringFinds.{start_of}
use Rattle.lua_heap.specs.Value.{Value, Nil, Truth, Number, Text, is_true}
use Rattle.lua_heap.specs.Heap.{Heap}
use Rattle.lua_heap.specs.Related.{Map, Each, none, more, Same, nil, truth, number, text, table, closure, builtin, markup, Stands}
use Rattle.lua_meaning.specs.Scope.{Bytes}
use Rattle.lua_meaning.specs.Values.{rest}
use Rattle.lua_meaning.specs.Arguments.{Plain, a_number, a_text, number_or, text_charge}
use Rattle.lua_meaning.specs.Tag.{and_then}
use Rattle.lua_library_agree.specs.Same.{SamePlain}
use Rattle.lua_library_agree.proofs.Values.{one-each, rest-same, fourth-same, is_true-same, a_text-same, a_number-same, number_or-same, text_or-same}
use Rattle.lua_library_agree.proofs.Heaps.{costing, giving, giving_text, failing, branch, with-equal, charging}
use Rattle.lua_meaning.specs.TextArguments.{in_utf8, utf8_text, utf8_text_or, as_some, utf8_text_if_any, of_texts}
use Rattle.lua_meaning.specs.Checks.{text_or, fourth, malformed}
use Rattle.lua_meaning.specs.Ustring.{point_text, points_text, char, point_values, codepoint, place_or_nil, byteoffset, sub, length_in, len, isutf8, in_form, to_form, to_nfc, to_nfd, to_nfkc, to_nfkd, place_value, last_value, capture_value, find_values, whole_or_captures, match_values, gives_match, searches, by_pattern, plain_values, by_text, find_from, find, match_from}

-- ARGUMENTS
pub utf8_text-same : {m : Map} (n : ℕ) (name : Bytes) {vs ws : List Value} → Each (Same m) vs ws → utf8_text n name vs ≡ utf8_text n name ws
utf8_text-same n name e = ap (in_utf8 n name) (a_text-same n name e)

pub utf8_text_or-same : {m : Map} (default : Bytes) (n : ℕ) (name : Bytes) {vs ws : List Value} → Each (Same m) vs ws → utf8_text_or default n name vs ≡ utf8_text_or default n name ws
utf8_text_or-same d n name e = ap (in_utf8 n name) (text_or-same d n name e)

some-same : {m : Map} (n : ℕ) (name : Bytes) {vs ws : List Value} → Each (Same m) vs ws → as_some (utf8_text n name vs) ≡ as_some (utf8_text n name ws)
some-same n name e = ap as_some (utf8_text-same n name e)

pub utf8_text_if_any-same : {m : Map} (n : ℕ) (name : Bytes) {vs ws : List Value} → Each (Same m) vs ws → utf8_text_if_any n name vs ≡ utf8_text_if_any n name ws
utf8_text_if_any-same n name none = refl
utf8_text_if_any-same n name (more _ _ _ _ nil e) = refl
utf8_text_if_any-same n name (more _ _ xs ys (truth b) e) = some-same n name (more _ _ xs ys (truth b) e)
utf8_text_if_any-same n name (more _ _ xs ys (number b) e) = some-same n name (more _ _ xs ys (number b) e)
utf8_text_if_any-same n name (more _ _ xs ys (text b) e) = some-same n name (more _ _ xs ys (text b) e)
utf8_text_if_any-same n name (more _ _ xs ys (table a b x) e) = some-same n name (more _ _ xs ys (table a b x) e)
utf8_text_if_any-same n name (more _ _ xs ys (closure a b x) e) = some-same n name (more _ _ xs ys (closure a b x) e)
utf8_text_if_any-same n name (more _ _ xs ys (builtin b) e) = some-same n name (more _ _ xs ys (builtin b) e)
utf8_text_if_any-same n name (more _ _ xs ys (markup a b x) e) = some-same n name (more _ _ xs ys (markup a b x) e)

points_text-same : {m : Map} (n : ℕ) {vs ws : List Value} → Each (Same m) vs ws → points_text n vs ≡ points_text n ws
points_text-same n none = refl
points_text-same n (more x y xs ys r e) =
    ap (λ a. and_then (point_text n a) (points_text (suc n) xs)) (a_number-same n (codes "char") (more x y xs ys r e))
    ∙ ap (and_then (point_text n (a_number n (codes "char") (y ∷ ys)))) (points_text-same (suc n) e)

-- VALUES that hold no object stand for themselves
point_values-same : {m : Map} (cs : List ℕ) → Each (Same m) (point_values cs) (point_values cs)
point_values-same [] = none
point_values-same (c ∷ cs) = more _ _ _ _ (number (pos c)) (point_values-same cs)

place_or_nil-same : {m : Map} (o : Option ℕ) → Same m (place_or_nil o) (place_or_nil o)
place_or_nil-same None = nil
place_or_nil-same (Some n) = number (pos n)

number_or_nil : {m : Map} (b : Bool) (n : ℕ) → Same m (if b then Number (pos n) else Nil) (if b then Number (pos n) else Nil)
number_or_nil true n = number (pos n)
number_or_nil false n = nil

capture_value-same : {m : Map} (s : Bytes) (c : Capture) → Same m (capture_value s c) (capture_value s c)
capture_value-same s (Span from to) = text _
capture_value-same s (Place at) = number _

captures-same : {m : Map} (s : Bytes) (cs : List Capture) → Each (Same m) (map (capture_value s) cs) (map (capture_value s) cs)
captures-same s [] = none
captures-same s (c ∷ cs) = more _ _ _ _ (capture_value-same s c) (captures-same s cs)

find_values-same : {m : Map} (s : Bytes) (found : Match) → Each (Same m) (find_values s found) (find_values s found)
find_values-same s found = more _ _ _ _ (number _) (more _ _ _ _ (number _) (captures-same s found.captures))

whole-same : {m : Map} (s : Bytes) (start end : ℕ) (cs : List Capture) → Each (Same m) (whole_or_captures s start end cs) (whole_or_captures s start end cs)
whole-same s start end [] = one-each (text _)
whole-same s start end (c ∷ cs) = captures-same s (c ∷ cs)

match_values-same : {m : Map} (s : Bytes) (found : Match) → Each (Same m) (match_values s found) (match_values s found)
match_values-same s found = whole-same s found.start found.end found.captures

plain_values-same : {m : Map} (s : Bytes) (from size : ℕ) (o : Option ℕ) → Each (Same m) (plain_values s from size o) (plain_values s from size o)
plain_values-same s from size None = one-each nil
plain_values-same s from size (Some k) = more _ _ _ _ (number _) (one-each (number _))

module _ {X Y : Type 0} (R : Map → X → Y → Type 0) (m : Map) (h : Heap X) (s : Heap Y) (st : Stands R m h s) where
  abbrev Alike : Plain X → Plain Y → Type 0
  Alike a b = SamePlain R m h s a b

  -- SEARCHES
  gives_match-same : (size : Match → ℕ) (values : Match → List Value) → ((found : Match) → Each (Same m) (values found) (values found)) → (slots : List Slot) (answer : Answer)
      → Alike (gives_match h size values slots answer) (gives_match s size values slots answer)
  gives_match-same size values k slots (At start end marks n) = costing R m h s st _ _ refl (k (match_of slots start end marks))
  gives_match-same size values k slots (Nowhere n) = costing R m h s st _ _ refl (one-each nil)

  searches-same : (size : Match → ℕ) (values : Match → List Value) → ((found : Match) → Each (Same m) (values found) (values found)) → (t : Bytes) (from : ℕ) (read : Read)
      → Alike (searches h size values t from read) (searches s size values t from read)
  searches-same size values k t from (Fault n) = failing R m h s st (malformed n)
  searches-same size values k t from (Fine anchored items slots) = gives_match-same size values k slots (first_match points anchored items t from)

  by_pattern-same : (size : Match → ℕ) (values : Match → List Value) → ((found : Match) → Each (Same m) (values found) (values found)) → (t pattern : Bytes) (from : ℕ)
      → Alike (by_pattern h size values t pattern from) (by_pattern s size values t pattern from)
  by_pattern-same size values k t pattern from = charging R m h s st (length pattern) (length pattern) refl _ _ (searches-same size values k t from (read_of (codes_in points pattern)))

  find_from-same : (plain : Bool) (t pattern : Bytes) (from : ℕ) → Alike (find_from h plain t pattern from) (find_from s plain t pattern from)
  find_from-same true t needle from = costing R m h s st _ _ refl (plain_values-same t from (length needle) _)
  find_from-same false t pattern from = by_pattern-same find_bytes (find_values t) (find_values-same t) t pattern from

  find_by-same : (plain other : Bool) → plain ≡ other → (t pattern : Bytes) (from : ℕ) → Alike (find_from h plain t pattern from) (find_from s other t pattern from)
  find_by-same plain other is t pattern from = subst (λ b. Alike (find_from h plain t pattern from) (find_from s b t pattern from)) is (find_from-same plain t pattern from)

  in_form-same : (form : Form) (t : Bytes) → Alike (in_form form h t) (in_form form s t)
  in_form-same form t = branch R m h s st (is_utf8 t) (is_utf8 t) refl (λ _. giving_text R m h s st _) (λ _. giving R m h s st (one-each nil))

  module _ (vs ws : List Value) (e : Each (Same m) vs ws) where
    pub char-same : Alike (char vs h) (char ws s)
    char-same = with-equal R m h s st _ _ _ _ (points_text-same 1 e) (λ t. giving_text R m h s st t)

    pub codepoint-same : Alike (codepoint vs h) (codepoint ws s)
    codepoint-same =
        with-equal R m h s st _ _ _ _ (utf8_text-same 1 (codes "codepoint") e) (λ t.
        with-equal R m h s st _ _ _ _ (number_or-same (pos 1) (pos 1) refl 2 (codes "codepoint") (rest-same e)) (λ i.
        with-equal R m h s st _ _ _ _ (number_or-same i i refl 3 (codes "codepoint") (rest-same (rest-same e))) (λ j.
        costing R m h s st _ _ refl (point_values-same (points_of t i j)))))

    pub byteoffset-same : Alike (byteoffset vs h) (byteoffset ws s)
    byteoffset-same =
        with-equal R m h s st _ _ _ _ (utf8_text-same 1 (codes "byteoffset") e) (λ t.
        with-equal R m h s st _ _ _ _ (number_or-same (pos 1) (pos 1) refl 2 (codes "byteoffset") (rest-same e)) (λ l.
        with-equal R m h s st _ _ _ _ (number_or-same (pos 1) (pos 1) refl 3 (codes "byteoffset") (rest-same (rest-same e))) (λ i.
        giving R m h s st (one-each (place_or_nil-same (byteoffset_of t l i))))))

    pub sub-same : Alike (sub vs h) (sub ws s)
    sub-same =
        with-equal R m h s st _ _ _ _ (utf8_text-same 1 (codes "sub") e) (λ t.
        with-equal R m h s st _ _ _ _ (a_number-same 2 (codes "sub") (rest-same e)) (λ i.
        with-equal R m h s st _ _ _ _ (number_or-same (negsuc 0) (negsuc 0) refl 3 (codes "sub") (rest-same (rest-same e))) (λ j.
        giving_text R m h s st _)))

    pub len-same : Alike (len vs h) (len ws s)
    len-same = with-equal R m h s st _ _ _ _ (a_text-same 1 (codes "len") e) (λ t. giving R m h s st (one-each (number_or_nil (is_utf8 t) _)))

    pub isutf8-same : Alike (isutf8 vs h) (isutf8 ws s)
    isutf8-same = with-equal R m h s st _ _ _ _ (a_text-same 1 (codes "isutf8") e) (λ t. giving R m h s st (one-each (truth (is_utf8 t))))

    to_form-same : (form : Form) (name : Bytes) → Alike (to_form form name vs h) (to_form form name ws s)
    to_form-same form name = with-equal R m h s st _ _ _ _ (a_text-same 1 name e) (λ t. in_form-same form t)

    pub find-same : Alike (find vs h) (find ws s)
    find-same =
        with-equal R m h s st _ _ _ _ (utf8_text-same 1 (codes "find") e) (λ t.
        with-equal R m h s st _ _ _ _ (utf8_text-same 2 (codes "find") (rest-same e)) (λ pattern.
        with-equal R m h s st _ _ _ _ (number_or-same (pos 1) (pos 1) refl 3 (codes "find") (rest-same (rest-same e))) (λ init.
        find_by-same _ _ (is_true-same (fourth-same e)) t pattern (start_of t init))))

    pub match_from-same : Alike (match_from vs h) (match_from ws s)
    match_from-same =
        with-equal R m h s st _ _ _ _ (utf8_text-same 1 (codes "match") e) (λ t.
        with-equal R m h s st _ _ _ _ (utf8_text-same 2 (codes "match") (rest-same e)) (λ pattern.
        with-equal R m h s st _ _ _ _ (number_or-same (pos 1) (pos 1) refl 3 (codes "match") (rest-same (rest-same e))) (λ init.
        by_pattern-same match_bytes (match_values t) (match_values-same t) t pattern (start_of t init))))

    pub to_nfc-same : Alike (to_nfc vs h) (to_nfc ws s)
    to_nfc-same = to_form-same Nfc (codes "toNFC")

    pub to_nfd-same : Alike (to_nfd vs h) (to_nfd ws s)
    to_nfd-same = to_form-same Nfd (codes "toNFD")

    pub to_nfkc-same : Alike (to_nfkc vs h) (to_nfkc ws s)
    to_nfkc-same = to_form-same Nfkc (codes "toNFKC")

    pub to_nfkd-same : Alike (to_nfkd vs h) (to_nfkd ws s)
    to_nfkd-same = to_form-same Nfkd (codes "toNFKD")

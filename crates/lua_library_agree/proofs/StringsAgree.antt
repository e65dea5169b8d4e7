-- The functions of `string` and `math` do the same to two heaps, of which the first stands in the second (manual 5.4, 5.6).
use Rattle.std.proofs.Common.{◌≡◌, ℕ, ◌+◌, ℤ, pos, negsuc, Bool, true, false, List, [], ◌∷◌, length, map, drop, Option, Some, None, refl, ◌∙◌, ap, subst}
use Rattle.std.specs.Prelude.{Result, Ok, Err, codes, reverse as reversed}
use Rattle.std.specs.Char.{to_ascii_lowercase, to_ascii_uppercase}
use Rattle.lua_meaning.specs.LuaNumberDeclaredArithmeticNumberFault.{NumberFault}
use Rattle.lua_meaning.specs.LuaNumberWhole.{power_of}
use Rattle.lua_meaning.specs.LuaStringWhole.{abs_of, fmod_of, max_of, min_of}
use Rattle.lua_meaning.specs.LuaStringPlaces.{first_place, sub_of}
use Rattle.lua_meaning.specs.LuaStringTexts.{rep_of}
use Rattle.lua_meaning.specs.LuaStringFinds.{place_of}
use Rattle.lua_meaning.specs.LuaPatternDeclaredPatternCapture.{Capture}
use Rattle.lua_meaning.specs.LuaPatternDeclaredPatternCaptureTheVariants.{Span, Place}
use Rattle.lua_meaning.specs.LuaPatternDeclaredPatternMatch.{Match}
use Rattle.lua_meaning.specs.LuaPatternDeclaredSlotsSlot.{Slot}
use Rattle.lua_meaning.specs.LuaPatternTexts.{bytes}
use Rattle.lua_meaning.specs.LuaPatternWay.{Answer, At, Nowhere, first as first_match}
use Rattle.lua_meaning.specs.LuaPatternRead.{Read, Fault, Fine, read_of, codes as symbol_codes}
use Rattle.lua_meaning.specs.LuaPatternSizes.{find_bytes, match_bytes}
use Rattle.lua_meaning.specs.LuaFormatDeclaredValueFormatFault.{FormatFault}
use Rattle.lua_meaning.specs.LuaFormatDeclaredValueFormatFaultTheVariants as fault
use Rattle.lua_meaning.specs.LuaFormatFormat.{formatted}
use Rattle.lua_heap.specs.Value.{Value, is_true}
use Rattle.lua_heap.specs.Heap.{Heap}
use Rattle.lua_heap.specs.Related.{Map, Each, none, more, Same, nil, truth, number, text, table, closure, builtin, markup, Stands}
use Rattle.lua_meaning.specs.Scope.{Bytes}
use Rattle.lua_meaning.specs.Values.{rest}
use Rattle.lua_meaning.specs.Messages.{bad_argument}
use Rattle.lua_meaning.specs.Arguments.{Plain, fails}
use Rattle.lua_library_agree.specs.Same.{SamePlain}
use Rattle.lua_library_agree.proofs.Values.{one-each, rest-same, fourth-same, drop-same, is_true-same, expected-same, a_number-same, number_or-same, a_text-same, text_charge-same}
use Rattle.lua_library_agree.proofs.Heaps.{costing, giving, giving_text, failing, with-equal, charging}
use Rattle.lua_meaning.specs.Checks.{fourth, code_in, and_those, codes_from, numbers_from}
use Rattle.lua_meaning.specs.Strings as strings
use Rattle.lua_meaning.specs.Strings.{code_values, of_text}
use Rattle.lua_meaning.specs.Searches.{capture_value, captures_given, find_values, whole_or, match_values, answered, by_pattern, searched, plain_values, find_in, find, match_from}
use Rattle.lua_meaning.specs.Formats.{format_value, wanted_kind, format_message, laid_out, format_by, format_given, format}
use Rattle.lua_meaning.specs.Numbers as numbers
use Rattle.lua_meaning.specs.Numbers.{itself, gives_number, of_number, of_two, of_all}

-- VALUES that name no object stand for themselves
code_values-same : {m : Map} (bs : Bytes) → Each (Same m) (code_values bs) (code_values bs)
code_values-same [] = none
code_values-same (b ∷ bs) = more _ _ _ _ (number _) (code_values-same bs)

capture-same : {m : Map} (s : Bytes) (c : Capture) → Same m (capture_value s c) (capture_value s c)
capture-same s (Span from to) = text _
capture-same s (Place at) = number _

captures-same : {m : Map} (s : Bytes) (cs : List Capture) → Each (Same m) (captures_given s cs) (captures_given s cs)
captures-same s [] = none
captures-same s (c ∷ cs) = more _ _ _ _ (capture-same s c) (captures-same s cs)

find_values-same : {m : Map} (s : Bytes) (found : Match) → Each (Same m) (find_values s found) (find_values s found)
find_values-same s found = more _ _ _ _ (number _) (more _ _ _ _ (number _) (captures-same s found.captures))

pub whole_or-same : {m : Map} (s whole : Bytes) (cs : List Capture) → Each (Same m) (whole_or s whole cs) (whole_or s whole cs)
whole_or-same s whole [] = one-each (text _)
whole_or-same s whole (c ∷ cs) = captures-same s (c ∷ cs)

plain_values-same : {m : Map} (from len : ℕ) (o : Option ℕ) → Each (Same m) (plain_values from len o) (plain_values from len o)
plain_values-same from len None = one-each nil
plain_values-same from len (Some k) = more _ _ _ _ (number _) (one-each (number _))

-- ALL ARGUMENTS
numbers_from-same : {m : Map} (n : ℕ) (function : Bytes) {vs ws : List Value} → Each (Same m) vs ws → numbers_from n function vs ≡ numbers_from n function ws
numbers_from-same n function none = refl
numbers_from-same n function (more v w vs ws r e) =
    ap (λ a. and_those a (numbers_from (n + 1) function vs)) (a_number-same n function (more v w vs ws r e))
    ∙ ap (and_those _) (numbers_from-same (n + 1) function e)

codes_from-same : {m : Map} (n : ℕ) (function : Bytes) {vs ws : List Value} → Each (Same m) vs ws → codes_from n function vs ≡ codes_from n function ws
codes_from-same n function none = refl
codes_from-same n function (more v w vs ws r e) =
    ap (λ a. and_those (code_in n function a) (codes_from (n + 1) function vs)) (a_number-same n function (more v w vs ws r e))
    ∙ ap (and_those _) (codes_from-same (n + 1) function e)

-- A FORMAT
format_value-same : {m : Map} {v w : Value} → Same m v w → format_value v ≡ format_value w
format_value-same nil = refl
format_value-same (truth b) = refl
format_value-same (number n) = refl
format_value-same (text t) = refl
format_value-same (table a b e) = refl
format_value-same (closure a b e) = refl
format_value-same (builtin b) = refl
format_value-same (markup a b e) = refl

format_values-same : {m : Map} {vs ws : List Value} → Each (Same m) vs ws → map format_value vs ≡ map format_value ws
format_values-same none = refl
format_values-same (more v w vs ws r e) = ap (λ x. x ∷ map format_value vs) (format_value-same r) ∙ ap (λ xs. format_value w ∷ xs) (format_values-same e)

format_message-same : {m : Map} {vs ws : List Value} → Each (Same m) vs ws → (f : FormatFault) → format_message vs f ≡ format_message ws f
format_message-same e (fault.Missing at w) = refl
format_message-same e (fault.WrongKind at w) = ap (bad_argument (at + 2) (codes "format")) (expected-same (wanted_kind w) (drop-same at e))
format_message-same e (fault.OutOfRange at) = refl
format_message-same e fault.BadOption = refl
format_message-same e fault.NoMemory = refl

module _ {X Y : Type 0} (R : Map → X → Y → Type 0) (m : Map) (h : Heap X) (s : Heap Y) (st : Stands R m h s) where
  abbrev Alike : Plain X → Plain Y → Type 0
  Alike a b = SamePlain R m h s a b

  -- SEARCHES
  answered-same : (size : Match → ℕ) (values : Match → List Value) (each : (found : Match) → Each (Same m) (values found) (values found)) (slots : List Slot) (a : Answer)
      → Alike (answered size values slots a h) (answered size values slots a s)
  answered-same size values each slots (Nowhere tries) = costing R m h s st _ _ refl (one-each nil)
  answered-same size values each slots (At start end marks tries) = costing R m h s st _ _ refl (each _)

  by_pattern-same : (size : Match → ℕ) (values : Match → List Value) (each : (found : Match) → Each (Same m) (values found) (values found)) (t : Bytes) (from : ℕ) (r : Read)
      → Alike (by_pattern size values t from r h) (by_pattern size values t from r s)
  by_pattern-same size values each t from (Fault n) = failing R m h s st _
  by_pattern-same size values each t from (Fine anchored items slots) = answered-same size values each slots (first_match bytes anchored items t from)

  searched-same : (size : Match → ℕ) (values : Match → List Value) (each : (found : Match) → Each (Same m) (values found) (values found)) (t pattern : Bytes) (init : ℤ)
      → Alike (searched size values t pattern init h) (searched size values t pattern init s)
  searched-same size values each t pattern init =
      charging R m h s st (length pattern) (length pattern) refl _ _ (by_pattern-same size values each t (first_place (length t) init) (read_of (symbol_codes bytes pattern)))

  find_in-same : (plain : Bool) (t pattern : Bytes) (init : ℤ) → Alike (find_in plain t pattern init h) (find_in plain t pattern init s)
  find_in-same true t needle init =
      let from = first_place (length t) init in costing R m h s st _ _ refl (plain_values-same from (length needle) (place_of needle (drop from t)))
  find_in-same false t pattern init = searched-same find_bytes (find_values t) (find_values-same t) t pattern init

  -- NUMBERS
  gives_number-same : (r : Result ℤ NumberFault) → Alike (gives_number h r) (gives_number s r)
  gives_number-same (Ok n) = giving R m h s st (one-each (number n))
  gives_number-same (Err e) = failing R m h s st _

  module _ (vs ws : List Value) (e : Each (Same m) vs ws) where
    pub byte-same : Alike (strings.byte vs h) (strings.byte ws s)
    byte-same =
        with-equal R m h s st _ _ _ _ (a_text-same 1 (codes "byte") e) (λ t.
        with-equal R m h s st _ _ _ _ (number_or-same (pos 1) (pos 1) refl 2 (codes "byte") (rest-same e)) (λ i.
        with-equal R m h s st _ _ _ _ (number_or-same i i refl 3 (codes "byte") (rest-same (rest-same e))) (λ j. costing R m h s st _ _ refl (code_values-same (sub_of t i j)))))

    pub char-same : Alike (strings.char_of vs h) (strings.char_of ws s)
    char-same = with-equal R m h s st _ _ _ _ (codes_from-same 1 (codes "char") e) (λ t. giving_text R m h s st t)

    pub len-same : Alike (strings.len vs h) (strings.len ws s)
    len-same = with-equal R m h s st _ _ _ _ (a_text-same 1 (codes "len") e) (λ t. giving R m h s st (one-each (number _)))

    of_text-same : (function : Bytes) (change : Bytes → Bytes) → Alike (of_text function change vs h) (of_text function change ws s)
    of_text-same function change = with-equal R m h s st _ _ _ _ (a_text-same 1 function e) (λ t. giving_text R m h s st (change t))

    pub lower-same : Alike (strings.lower vs h) (strings.lower ws s)
    lower-same = of_text-same (codes "lower") (map to_ascii_lowercase)

    pub upper-same : Alike (strings.upper vs h) (strings.upper ws s)
    upper-same = of_text-same (codes "upper") (map to_ascii_uppercase)

    pub reverse-same : Alike (strings.reverse vs h) (strings.reverse ws s)
    reverse-same = of_text-same (codes "reverse") reversed

    pub rep-same : Alike (strings.rep vs h) (strings.rep ws s)
    rep-same =
        with-equal R m h s st _ _ _ _ (a_text-same 1 (codes "rep") e) (λ t.
        with-equal R m h s st _ _ _ _ (a_number-same 2 (codes "rep") (rest-same e)) (λ n. giving_text R m h s st (rep_of t n)))

    pub sub-same : Alike (strings.sub vs h) (strings.sub ws s)
    sub-same =
        with-equal R m h s st _ _ _ _ (a_text-same 1 (codes "sub") e) (λ t.
        with-equal R m h s st _ _ _ _ (a_number-same 2 (codes "sub") (rest-same e)) (λ i.
        with-equal R m h s st _ _ _ _ (number_or-same (negsuc 0) (negsuc 0) refl 3 (codes "sub") (rest-same (rest-same e))) (λ j. giving_text R m h s st (sub_of t i j))))

    pub find-same : Alike (find vs h) (find ws s)
    find-same =
        with-equal R m h s st _ _ _ _ (a_text-same 1 (codes "find") e) (λ t.
        with-equal R m h s st _ _ _ _ (a_text-same 2 (codes "find") (rest-same e)) (λ pattern.
        with-equal R m h s st _ _ _ _ (number_or-same (pos 1) (pos 1) refl 3 (codes "find") (rest-same (rest-same e))) (λ init.
        subst (λ plain. Alike (find_in (is_true (fourth vs)) t pattern init h) (find_in plain t pattern init s)) (is_true-same (fourth-same e)) (find_in-same (is_true (fourth vs)) t pattern init))))

    pub match-same : Alike (match_from vs h) (match_from ws s)
    match-same =
        with-equal R m h s st _ _ _ _ (a_text-same 1 (codes "match") e) (λ t.
        with-equal R m h s st _ _ _ _ (a_text-same 2 (codes "match") (rest-same e)) (λ pattern.
        with-equal R m h s st _ _ _ _ (number_or-same (pos 1) (pos 1) refl 3 (codes "match") (rest-same (rest-same e))) (λ init.
        searched-same match_bytes (match_values t) (λ found. whole_or-same t _ found.captures) t pattern init)))

    laid_out-same : (r : Result Bytes FormatFault) → Alike (laid_out vs r h) (laid_out ws r s)
    laid_out-same (Ok t) = giving_text R m h s st t
    laid_out-same (Err f) = subst (λ message. Alike (fails h (format_message vs f)) (fails s message)) (format_message-same e f) (failing R m h s st _)

    format_by-same : (spec : Bytes) → Alike (format_by spec vs h) (format_by spec ws s)
    format_by-same spec =
        subst (λ values. Alike (format_by spec vs h) (laid_out ws (formatted values spec 0) s)) (format_values-same e) (laid_out-same (formatted (map format_value vs) spec 0))

    of_number-same : (function : Bytes) (calculate : ℤ → Result ℤ NumberFault) → Alike (of_number function calculate vs h) (of_number function calculate ws s)
    of_number-same function calculate = with-equal R m h s st _ _ _ _ (a_number-same 1 function e) (λ n. gives_number-same (calculate n))

    of_two-same : (function : Bytes) (calculate : ℤ → ℤ → Result ℤ NumberFault) → Alike (of_two function calculate vs h) (of_two function calculate ws s)
    of_two-same function calculate =
        with-equal R m h s st _ _ _ _ (a_number-same 1 function e) (λ a.
        with-equal R m h s st _ _ _ _ (a_number-same 2 function (rest-same e)) (λ b. gives_number-same (calculate a b)))

    of_all-same : (function : Bytes) (choose : List ℤ → Option ℤ) → Alike (of_all function choose vs h) (of_all function choose ws s)
    of_all-same function choose =
        with-equal R m h s st _ _ _ _ (numbers_from-same 1 function e) (λ ns.
        with-equal R m h s st _ _ _ _ refl (λ n. giving R m h s st (one-each (number n))))

    pub abs-same : Alike (numbers.abs vs h) (numbers.abs ws s)
    abs-same = of_number-same (codes "abs") abs_of

    pub ceil-same : Alike (numbers.ceil vs h) (numbers.ceil ws s)
    ceil-same = of_number-same (codes "ceil") itself

    pub floor-same : Alike (numbers.floor vs h) (numbers.floor ws s)
    floor-same = of_number-same (codes "floor") itself

    pub fmod-same : Alike (numbers.fmod vs h) (numbers.fmod ws s)
    fmod-same = of_two-same (codes "fmod") fmod_of

    pub max-same : Alike (numbers.max vs h) (numbers.max ws s)
    max-same = of_all-same (codes "max") max_of

    pub min-same : Alike (numbers.min vs h) (numbers.min ws s)
    min-same = of_all-same (codes "min") min_of

    pub pow-same : Alike (numbers.pow vs h) (numbers.pow ws s)
    pow-same = of_two-same (codes "pow") power_of

  pub format-same : (vs ws : List Value) → Each (Same m) vs ws → Alike (format vs h) (format ws s)
  format-same vs ws e =
      charging R m h s st _ _ (text_charge-same e) (format_given vs h) (format_given ws s)
      (with-equal R m h s st _ _ _ _ (a_text-same 1 (codes "format") e) (λ spec. format_by-same (rest vs) (rest ws) (rest-same e) spec))

-- A format, piece by piece.
use Rattle.std.proofs.Common.{◌≡◌, ℕ, zero, suc, ◌+◌, ◌-◌, ◌*◌, ◌≤◌, ◌<◌, ◌==◌, Bool, true, false, if◌then◌else◌, List, [], ◌∷◌, ◌++◌, length, take, drop, slice_get, Option, Some, None, IfSome, Result, Ok, Err, refl, sym, ap, ◌∙◌, arith, append_assoc, append-nil, length-append, length-drop, subst, rules}
use Rattle.std.proofs.lemmas.List.{drop-drop}
use Rattle.std.proofs.Math.Seq.{take-add}
use Rattle.std.specs.Char.{is_ascii_digit}
use Rattle.std.specs.Option.{option_map}
use Rattle.lua_format.specs.declared.directive.Flags.{Flags}
use Rattle.lua_format.specs.declared.directive.Directive.{Directive}
use Rattle.lua_format.specs.declared.directive.Conversion.{Conversion}
use Rattle.lua_format.specs.declared.value.FormatValue.{FormatValue}
use Rattle.lua_format.specs.declared.value.FormatFault.{FormatFault}
use Rattle.lua_format.specs.declared.value.FormatFault.TheVariants as fault
use Rattle.lua_format.specs.Directives.{is_flag, with_flag, flag_more, flags_from, no_flags, second_digit, two_digits, precision_of, conversion_of, letter_of, behind_flags, directive_of}
use Rattle.lua_format.specs.Format.{item_of, put, and_then, is_percent, behind_percent, formatted_from, formatted, HasLength}
use Rattle.lua_format.specs.Lengths.{saturated}

-- ---- what stands behind a directive is shorter

abbrev ShorterFlags : List ℕ → Option (Flags × List ℕ) → Type 0
ShorterFlags text o = IfSome o (λ p. length p.1 ≤ length text)

flags_more : (n : ℕ) (text : List ℕ) (rest : ℕ → Option (Flags × List ℕ)) → ((m : ℕ) → ShorterFlags text (rest m)) → ShorterFlags text (flag_more n rest)
flags_more zero text rest h = tt
flags_more (suc n) text rest h = h n

longer_flags : (c : ℕ) (cs : List ℕ) (o : Option (Flags × List ℕ)) → ShorterFlags cs o → ShorterFlags (c ∷ cs) o
longer_flags c cs None h = tt
longer_flags c cs (Some p) h = omega (arith, h)

flags_short : (n : ℕ) (f : Flags) (text : List ℕ) → ShorterFlags text (flags_from n f text)
flags_short n f [] = omega arith
flags_short n f (c ∷ cs) = go (is_flag c) (λ m. longer_flags c cs (flags_from m (with_flag c f) cs) (flags_short m (with_flag c f) cs))
  where
    go : (b : Bool) → ((m : ℕ) → ShorterFlags (c ∷ cs) (flags_from m (with_flag c f) cs)) → ShorterFlags (c ∷ cs) (if b then flag_more n (λ m. flags_from m (with_flag c f) cs) else Some (f, c ∷ cs))
    go true h = flags_more n (c ∷ cs) (λ m. flags_from m (with_flag c f) cs) h
    go false h = omega arith

second_short : (n : ℕ) (text : List ℕ) → length (second_digit n text).1 ≤ length text
second_short n [] = omega arith
second_short n (c ∷ cs) = go (is_ascii_digit c)
  where
    go : (b : Bool) → length (if◌then◌else◌ {A = ℕ × List ℕ} b (10 * n + (c - 48), cs) (n, c ∷ cs)).1 ≤ length (c ∷ cs)
    go true = omega arith
    go false = omega arith

digits_short : (text : List ℕ) → length (two_digits text).1 ≤ length text
digits_short [] = omega arith
digits_short (c ∷ cs) = go (is_ascii_digit c) (second_short (c - 48) cs)
  where
    go : (b : Bool) → length (second_digit (c - 48) cs).1 ≤ length cs → length (if◌then◌else◌ {A = ℕ × List ℕ} b (second_digit (c - 48) cs) (0, c ∷ cs)).1 ≤ length (c ∷ cs)
    go true h = omega (arith, h)
    go false h = omega arith

precision_short : (text : List ℕ) → length (precision_of text).1 ≤ length text
precision_short [] = omega arith
precision_short (c ∷ cs) = go (c == 46) (digits_short cs)
  where
    go : (b : Bool) → length (two_digits cs).1 ≤ length cs → length (if◌then◌else◌ {A = Option ℕ × List ℕ} b (Some (two_digits cs).0, (two_digits cs).1) (None, c ∷ cs)).1 ≤ length (c ∷ cs)
    go true h = omega (arith, h)
    go false h = omega arith

abbrev with_letter : Flags → ℕ → Option ℕ → List ℕ → Option Conversion → Option (Directive × List ℕ)
with_letter f w p cs o = option_map (λ k. (record { flags = f; width = w; precision = p; conversion = k }, cs)) o

abbrev pub Shorter : List ℕ → Option (Directive × List ℕ) → Type 0
Shorter text o = IfSome o (λ q. length q.1 < length text)

letter_there : (f : Flags) (w : ℕ) (p : Option ℕ) (c : ℕ) (cs : List ℕ) (o : Option Conversion) → Shorter (c ∷ cs) (with_letter f w p cs o)
letter_there f w p c cs None = tt
letter_there f w p c cs (Some k) = omega arith

letter_short : (f : Flags) (w : ℕ) (p : Option ℕ) (text : List ℕ) → Shorter text (letter_of f w p text)
letter_short f w p [] = tt
letter_short f w p (c ∷ cs) = letter_there f w p c cs (conversion_of c)

shorter_still : (a b : List ℕ) (o : Option (Directive × List ℕ)) → length a ≤ length b → Shorter a o → Shorter b o
shorter_still a b None le h = tt
shorter_still a b (Some q) le h = omega (arith, le, h)

behind_short : (text : List ℕ) (o : Option (Flags × List ℕ)) → ShorterFlags text o → Shorter text (behind_flags o)
behind_short text None h = tt
behind_short text (Some p) h =
    let w : List ℕ = (two_digits p.1).1 in
    let v : List ℕ = (precision_of w).1 in
    shorter_still v text (letter_of p.0 (two_digits p.1).0 (precision_of w).0 v) (omega (arith, h, digits_short p.1, precision_short w))
    (letter_short p.0 (two_digits p.1).0 (precision_of w).0 v)

pub directive_short : (text : List ℕ) → Shorter text (directive_of text)
unfolding directive_of
directive_short text = behind_short text (flags_from 5 no_flags text) (flags_short 5 no_flags text)

-- ---- as much fuel as there are bytes is enough

module _ (values : List FormatValue) where
  abbrev Read : Type 0
  Read = List ℕ → ℕ → Result (List ℕ) FormatFault

  behind_same : (f g : Read) (cs : List ℕ) (o : Option (Directive × List ℕ)) (at : ℕ) → Shorter cs o
      → ((rest : List ℕ) (place : ℕ) → length rest ≤ length cs → f rest place ≡ g rest place) → behind_percent values f o at ≡ behind_percent values g o at
  behind_same f g cs None at h same = refl
  behind_same f g cs (Some p) at h same = go (is_percent p.0.conversion)
    where
      go : (b : Bool) → (if b then put (37 ∷ []) (f p.1 at) else and_then (item_of p.0 at (slice_get values at)) (f p.1 (at + 1)))
          ≡ (if b then put (37 ∷ []) (g p.1 at) else and_then (item_of p.0 at (slice_get values at)) (g p.1 (at + 1)))
      go true = ap (put (37 ∷ [])) (same p.1 at (omega (arith, h)))
      go false = ap (and_then (item_of p.0 at (slice_get values at))) (same p.1 (at + 1) (omega (arith, h)))

  enough : (n m : ℕ) (text : List ℕ) (at : ℕ) → length text ≤ n → length text ≤ m → formatted_from values n text at ≡ formatted_from values m text at
  enough zero zero text at hn hm = refl
  enough zero (suc m) [] at hn hm = refl
  enough zero (suc m) (c ∷ cs) at hn hm = absurd (omega (arith, hn))
  enough (suc n) zero [] at hn hm = refl
  enough (suc n) zero (c ∷ cs) at hn hm = absurd (omega (arith, hm))
  enough (suc n) (suc m) [] at hn hm = refl
  enough (suc n) (suc m) (c ∷ cs) at hn hm = go (c == 37) (λ rest place le. enough n m rest place (omega (arith, hn, le)) (omega (arith, hm, le)))
    where
      go : (b : Bool) → ((rest : List ℕ) (place : ℕ) → length rest ≤ length cs → formatted_from values n rest place ≡ formatted_from values m rest place)
          → (if b then behind_percent values (formatted_from values n) (directive_of cs) at else put (c ∷ []) (formatted_from values n cs at))
          ≡ (if b then behind_percent values (formatted_from values m) (directive_of cs) at else put (c ∷ []) (formatted_from values m cs at))
      go true same = behind_same (formatted_from values n) (formatted_from values m) cs (directive_of cs) at (directive_short cs) same
      go false same = ap (put (c ∷ [])) (same cs at (omega arith))

  pub at_end : (at : ℕ) → formatted values [] at ≡ Ok []
  unfolding formatted
  at_end at = refl

  pub plain_byte : (c : ℕ) (cs : List ℕ) (at : ℕ) → (c == 37) ≡ false → formatted values (c ∷ cs) at ≡ put (c ∷ []) (formatted values cs at)
  unfolding formatted
  plain_byte c cs at e = ap (λ b. if b then behind_percent values (formatted_from values (length cs)) (directive_of cs) at else put (c ∷ []) (formatted_from values (length cs) cs at)) e

  abbrev AtPercent : List ℕ → ℕ → Result (List ℕ) FormatFault
  AtPercent cs at = behind_percent values (formatted values) (directive_of cs) at

  at_percent : (cs : List ℕ) (at : ℕ) → formatted values (37 ∷ cs) at ≡ AtPercent cs at
  unfolding formatted
  at_percent cs at =
      behind_same (formatted_from values (length cs)) (λ text place. formatted_from values (length text) text place) cs (directive_of cs) at (directive_short cs)
      (λ rest place le. enough (length cs) (length rest) rest place le (omega arith))

  pub bad_option : (cs : List ℕ) (at : ℕ) → directive_of cs ≡ None → formatted values (37 ∷ cs) at ≡ Err fault.BadOption
  bad_option cs at e = at_percent cs at ∙ ap (λ o. behind_percent values (formatted values) o at) e

  branch : (cs rest : List ℕ) (d : Directive) (at : ℕ) → directive_of cs ≡ Some (d, rest)
      → formatted values (37 ∷ cs) at ≡ (if is_percent d.conversion then put (37 ∷ []) (formatted values rest at) else and_then (item_of d at (slice_get values at)) (formatted values rest (at + 1)))
  branch cs rest d at e = at_percent cs at ∙ ap (λ o. behind_percent values (formatted values) o at) e

  pub percent_sign : (cs rest : List ℕ) (d : Directive) (at : ℕ) → directive_of cs ≡ Some (d, rest) → is_percent d.conversion ≡ true
      → formatted values (37 ∷ cs) at ≡ put (37 ∷ []) (formatted values rest at)
  percent_sign cs rest d at e p =
      branch cs rest d at e ∙ ap (λ b. if b then put (37 ∷ []) (formatted values rest at) else and_then (item_of d at (slice_get values at)) (formatted values rest (at + 1))) p

  pub percent_piece : (cs rest text : List ℕ) (d : Directive) (at : ℕ) → directive_of cs ≡ Some (d, rest) → is_percent d.conversion ≡ true → text ≡ 37 ∷ []
      → formatted values (37 ∷ cs) at ≡ put text (formatted values rest at)
  percent_piece cs rest text d at e p t = percent_sign cs rest d at e p ∙ ap (λ l. put l (formatted values rest at)) (sym t)

  pub item_step : (cs rest : List ℕ) (d : Directive) (at : ℕ) (r : Result (List ℕ) FormatFault) → directive_of cs ≡ Some (d, rest) → is_percent d.conversion ≡ false
      → item_of d at (slice_get values at) ≡ r → formatted values (37 ∷ cs) at ≡ and_then r (formatted values rest (at + 1))
  item_step cs rest d at r e p i =
      branch cs rest d at e ∙ ap (λ b. if b then put (37 ∷ []) (formatted values rest at) else and_then (item_of d at (slice_get values at)) (formatted values rest (at + 1))) p
      ∙ ap (λ o. and_then o (formatted values rest (at + 1))) i

  pub item_text : (cs rest text : List ℕ) (d : Directive) (at : ℕ) → directive_of cs ≡ Some (d, rest) → is_percent d.conversion ≡ false → item_of d at (slice_get values at) ≡ Ok text
      → formatted values (37 ∷ cs) at ≡ put text (formatted values rest (at + 1))
  item_text cs rest text d at e p i = item_step cs rest d at (Ok text) e p i

  pub item_fault : (cs rest : List ℕ) (d : Directive) (at : ℕ) (fault : FormatFault) → directive_of cs ≡ Some (d, rest) → is_percent d.conversion ≡ false → item_of d at (slice_get values at) ≡ Err fault
      → formatted values (37 ∷ cs) at ≡ Err fault
  item_fault cs rest d at fault e p i = item_step cs rest d at (Err fault) e p i

pub put_put : (a b : List ℕ) (r : Result (List ℕ) FormatFault) → put a (put b r) ≡ put (a ++ b) r
put_put a b (Ok c) = ap Ok (sym (append_assoc a b c))
put_put a b (Err e) = refl

pub put_none : (r : Result (List ℕ) FormatFault) → put [] r ≡ r
put_none (Ok c) = refl
put_none (Err e) = refl

pub put_end : (text : List ℕ) (r : Result (List ℕ) FormatFault) (whole : Result (List ℕ) FormatFault) → r ≡ Ok [] → put text r ≡ whole → whole ≡ Ok text
put_end text r whole e h = sym h ∙ ap (put text) e ∙ ap Ok (append-nil text)

pub put_fault : (text : List ℕ) (r whole : Result (List ℕ) FormatFault) (e : FormatFault) → r ≡ Err e → put text r ≡ whole → whole ≡ Err e
put_fault text r whole e is h = sym h ∙ ap (put text) is

pub put_more : (text more : List ℕ) (r later whole : Result (List ℕ) FormatFault) → r ≡ put more later → put text r ≡ whole → put (text ++ more) later ≡ whole
put_more text more r later whole e h = sym (put_put text more later) ∙ ap (put text) (sym e) ∙ h

-- one byte more that is no `%`
abbrev Splits : List ℕ → ℕ → Type 0
Splits text count = (values : List FormatValue) (at : ℕ) → formatted values text at ≡ put (take count text) (formatted values (drop count text) at)

behind_is : (text rest behind : List ℕ) (b count : ℕ) → rest ≡ drop count text → rest ≡ b ∷ behind → behind ≡ drop (count + 1) text
behind_is text rest behind b count d e = ap (drop 1) (sym e ∙ d) ∙ drop-drop 1 count text

pub plain_more : (text rest behind : List ℕ) (b count : ℕ) → rest ≡ drop count text → count ≤ length text → rest ≡ b ∷ behind → (b == 37) ≡ false → Splits text count
    → (behind ≡ drop (count + 1) text) × (count + 1 ≤ length text) × Splits text (count + 1)
plain_more text rest behind b count d le e h is =
    let there : drop count text ≡ b ∷ behind = sym d ∙ e in
    let next : behind ≡ drop (count + 1) text = behind_is text rest behind b count d e in
    let l : length (drop count text) ≡ length text - count = length-drop count text in
    let k : length (drop count text) ≡ suc (length behind) = ap length there in (
      next,
      omega (arith, l, k, le),
      λ values at.
          is values at ∙ ap (λ t. put (take count text) (formatted values t at)) there ∙ ap (put (take count text)) (plain_byte values b behind at h)
          ∙ put_put (take count text) (b ∷ []) (formatted values behind at)
          ∙ ap (λ t. put (take count text ++ take 1 t) (formatted values behind at)) (sym there)
          ∙ ap (λ t. put t (formatted values behind at)) (sym (take-add count 1 text))
          ∙ ap (λ t. put (take (count + 1) text) (formatted values t at)) next,
    )

-- bytes behind a first one that is no `%`
pub run_text : (values : List FormatValue) (text behind : List ℕ) (b k at : ℕ) → text ≡ b ∷ behind → (b == 37) ≡ false
    → formatted values behind at ≡ put (take k behind) (formatted values (drop k behind) at) → formatted values text at ≡ put (take (1 + k) text) (formatted values (drop (1 + k) text) at)
run_text values text behind b k at e h is =
    let n : suc k ≡ 1 + k = omega arith in
    ap (λ t. formatted values t at) e ∙ plain_byte values b behind at h ∙ ap (put (b ∷ [])) is
    ∙ put_put (b ∷ []) (take k behind) (formatted values (drop k behind) at)
    ∙ ap (λ t. put (take (suc k) t) (formatted values (drop (suc k) t) at)) (sym e)
    ∙ ap (λ m. put (take m text) (formatted values (drop m text) at)) n

-- ---- at the end

none_left : (rest : List ℕ) → length rest ≡ 0 → rest ≡ []
none_left [] e = refl
none_left (b ∷ bs) e = absurd (omega (arith, e))

pub put_done : (values : List FormatValue) (text rest : List ℕ) (at : ℕ) (whole : Result (List ℕ) FormatFault) → length rest ≡ 0
    → put text (formatted values rest at) ≡ whole → whole ≡ Ok text
put_done values text rest at whole e h = put_end text (formatted values rest at) whole (ap (λ t. formatted values t at) (none_left rest e) ∙ at_end values at) h

-- some bytes of a length, with what the rest gives
abbrev pub Counts : List FormatValue → ℕ → List ℕ → ℕ → Result (List ℕ) FormatFault → Type 0
Counts values len rest at whole = (text : List ℕ) × (len ≡ saturated (length text)) × (put text (formatted values rest at) ≡ whole)

pub length_done : (values : List FormatValue) (len : ℕ) (rest : List ℕ) (at : ℕ) (whole : Result (List ℕ) FormatFault) → length rest ≡ 0 → Counts values len rest at whole → HasLength whole len
length_done values len rest at whole e h =
    let P : Result (List ℕ) FormatFault → Type 0 = λ r. HasLength r len in
    subst P (sym (put_done values h.0 rest at whole e h.2)) h.1

pub length_more : (values : List FormatValue) (len more new : ℕ) (rest behind piece : List ℕ) (at later : ℕ) (whole : Result (List ℕ) FormatFault) → new ≡ saturated (len + more)
    → more ≡ saturated (length piece) → formatted values rest at ≡ put piece (formatted values behind later) → Counts values len rest at whole → Counts values new behind later whole
length_more values len more new rest behind piece at later whole n e is h =
    let both : length (h.0 ++ piece) ≡ length h.0 + length piece = length-append h.0 piece in
    let l : len ≡ saturated (length h.0) = h.1 in (
      h.0 ++ piece,
      omega (arith, both, l, e, n),
      put_more h.0 piece (formatted values rest at) (formatted values behind later) whole is h.2,
    )

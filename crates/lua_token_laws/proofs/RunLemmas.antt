-- Texts that begin with the same bytes: places, runs and escapes (manual 2.1).
use Rattle.std.proofs.Common.{◌≡◌, ℕ, zero, suc, ◌+◌, ◌-◌, ◌<◌, ◌≤◌, ◌⊎◌, inl, inr, Bool, true, false, List, [], ◌∷◌, ◌++◌, length, take, drop, refl, sym, ap, subst, ◌∙◌, arith, length-append, length-drop, le_refl}
use Rattle.std.specs.Prelude.{not, nat_le, if◌then◌else◌, ◌==◌, ◌&&◌, ◌||◌, ◌*◌}
use Rattle.std.specs.List.{prefix_len}
use Rattle.std.proofs.lemmas.Bool.{cases_lt, cond_both, cond-true, cond-false, false_from_ne_true}
use Rattle.std.proofs.lemmas.List.{get_or_append_left, get_or-take, get_or-append_right, length-take-le, drop-append-le, drop-take, take_at}
use Rattle.std.proofs.lemmas.List.Sums.{prefix_len_is, prefix_len_passes, prefix_len_stops}
use Rattle.lua_lexer.specs.Lexis.{at, is_break, is_digit, is_number_byte, is_name_byte, Escape, Gives, Wrong, escape_of, escape_letter, Body, Closed, Open, behind_byte, with_byte, behind_escape, body_after, string_body, exponent_size, numeral_size}
use Rattle.lua_token_laws.specs.Pieces.{ends_exponent}
use Rattle.lua_token_laws.proofs.SizeLemmas.{numeral_inside, Short, body_short}

-- ---- the first n bytes of one text, in front of another

pub at_front : (n : ℕ) (t r : List ℕ) (k : ℕ) → n ≤ length t → k < n → at (take n t ++ r) k ≡ at t k
at_front n t r k h lt =
    let whole : length (take n t) ≡ n = length-take-le n t h in
    let inside : k < length (take n t) = omega (arith, whole, lt) in
    get_or_append_left (take n t) r 256 k inside ∙ get_or-take n t k 256 lt

pub at_behind : (n : ℕ) (t r : List ℕ) → n ≤ length t → at (take n t ++ r) n ≡ at r 0
at_behind n t r h =
    let none : n - n ≡ 0 = omega arith in
    get_or-append_right (take n t) r n n 256 (length-take-le n t h) (le_refl n) ∙ ap (at r) none

pub drop_front : (m n : ℕ) (t r : List ℕ) → m ≤ n → n ≤ length t → drop m (take n t ++ r) ≡ take (n - m) (drop m t) ++ r
drop_front m n t r le h =
    let whole : length (take n t) ≡ n = length-take-le n t h in
    let inside : m ≤ length (take n t) = omega (arith, whole, le) in
    let sum : n ≡ m + (n - m) = omega (arith, le) in
    drop-append-le m (take n t) r inside ∙ ap (λ (x : List ℕ). x ++ r) (ap (λ (k : ℕ). drop m (take k t)) sum ∙ drop-take m (n - m) t)

pub take_front : (n : ℕ) (t r : List ℕ) → n ≤ length t → take n (take n t ++ r) ≡ take n t
take_front n t r h = take_at (take n t) r n (length-take-le n t h)

length_front : (n : ℕ) (t r : List ℕ) → n ≤ length t → length (take n t ++ r) ≡ n + length r
length_front n t r h = length-append (take n t) r ∙ ap (λ (k : ℕ). k + length r) (length-take-le n t h)

-- ---- runs

module _ (test : ℕ → Bool) where
  -- A run that ends inside the first n bytes.
  pub run_inside : (n : ℕ) (t r : List ℕ) → n ≤ length t → prefix_len test t < n → prefix_len test (take n t ++ r) ≡ prefix_len test t
  run_inside n t r h lt =
      let whole : length (take n t ++ r) ≡ n + length r = length_front n t r h in
      prefix_len_is test (take n t ++ r) (prefix_len test t) 256 (omega (arith, whole, lt))
      (λ k below. let within : k < n = omega (arith, below, lt) in ap test (at_front n t r k h within) ∙ prefix_len_passes test t k 256 below)
      (λ shorter. let there : prefix_len test t < length t = omega (arith, lt, h) in ap test (at_front n t r (prefix_len test t) h lt) ∙ prefix_len_stops test t 256 there)

  -- One that the byte behind them ends.
  pub run_ended : (n : ℕ) (t r : List ℕ) → n ≤ length t → prefix_len test t ≡ n → test (at r 0) ≡ false → prefix_len test (take n t ++ r) ≡ n
  run_ended n t r h e stop =
      let whole : length (take n t ++ r) ≡ n + length r = length_front n t r h in
      prefix_len_is test (take n t ++ r) n 256 (omega (arith, whole))
      (λ k below. let within : k < prefix_len test t = omega (arith, below, e) in ap test (at_front n t r k h below) ∙ prefix_len_passes test t k 256 within)
      (λ shorter. ap test (at_behind n t r h) ∙ stop)

  pub run_stays : (n : ℕ) (t r : List ℕ) → n ≤ length t → prefix_len test t ≤ n → test (at r 0) ≡ false → prefix_len test (take n t ++ r) ≡ prefix_len test t
  run_stays n t r h le stop = go (cases_lt (prefix_len test t) n)
    where
      go : (prefix_len test t < n) ⊎ (n ≤ prefix_len test t) → prefix_len test (take n t ++ r) ≡ prefix_len test t
      go (inl lt) = run_inside n t r h lt
      go (inr ge) = let same : prefix_len test t ≡ n = omega (arith, le, ge) in run_ended n t r h same stop ∙ sym same

-- ---- numerals

-- The exponent mark at the front, by its first two bytes.
abbrev exponent_at : ℕ → ℕ → ℕ
exponent_at a b = if (a == 101) || (a == 69) then (if (b == 43) || (b == 45) then 2 else 1) else 0

no_exponent : (a b : ℕ) → exponent_at a b ≤ 0 → exponent_at a b ≡ 0
no_exponent a b h = omega (arith, h)

-- A mark of one byte has no sign, so another byte that is no sign changes nothing.
short_exponent : (a b c : ℕ) → exponent_at a b ≤ 1 → ((c == 43) || (c == 45)) ≡ false → exponent_at a c ≡ exponent_at a b
short_exponent a b c h s =
    cond_both ((a == 101) || (a == 69)) (if (b == 43) || (b == 45) then 2 else 1) 0 (λ (n : ℕ). n ≤ 1 → (if (a == 101) || (a == 69) then (if (c == 43) || (c == 45) then 2 else 1) else 0) ≡ n)
    (λ letter. cond_both ((b == 43) || (b == 45)) 2 1 (λ (n : ℕ). n ≤ 1 → (if (a == 101) || (a == 69) then (if (c == 43) || (c == 45) then 2 else 1) else 0) ≡ n)
    (λ sign le. absurd (omega (arith, le)))
    (λ none le. cond-true _ _ _ letter ∙ cond-false _ _ _ s))
    (λ none le. cond-false _ _ _ none)
    h

exponent_stays : (j : ℕ) (t r : List ℕ) → j ≤ length t → exponent_size t ≤ j → ends_exponent (at r 0) → exponent_size (take j t ++ r) ≡ exponent_size t
exponent_stays zero t r h le ends = let none : exponent_size t ≡ 0 = omega (arith, le) in cond-false _ _ _ ends.0 ∙ sym none
exponent_stays (suc zero) t r h le ends =
    let first : at (take 1 t ++ r) 0 ≡ at t 0 = at_front 1 t r 0 h (omega arith) in
    let second : at (take 1 t ++ r) 1 ≡ at r 0 = at_behind 1 t r h in
    ap (λ (a : ℕ). exponent_at a (at (take 1 t ++ r) 1)) first ∙ ap (exponent_at (at t 0)) second ∙ short_exponent (at t 0) (at t 1) (at r 0) le ends.1
exponent_stays (suc (suc j)) t r h le ends =
    let first : at (take (suc (suc j)) t ++ r) 0 ≡ at t 0 = at_front (suc (suc j)) t r 0 h (omega arith) in
    let second : at (take (suc (suc j)) t ++ r) 1 ≡ at t 1 = at_front (suc (suc j)) t r 1 h (omega arith) in
    ap (λ (a : ℕ). exponent_at a (at (take (suc (suc j)) t ++ r) 1)) first ∙ ap (exponent_at (at t 0)) second

-- A numeral ends where its first bytes do.
pub numeral_stays : (t r : List ℕ) → is_number_byte (at r 0) ≡ false → ends_exponent (at r 0) → is_name_byte (at r 0) ≡ false → numeral_size (take (numeral_size t) t ++ r) ≡ numeral_size t
unfolding numeral_size
numeral_stays t r number ends name =
    let d : ℕ = prefix_len is_number_byte t in
    let b : List ℕ = drop d t in
    let m : ℕ = exponent_size b in
    let l : List ℕ = drop m b in
    let k : ℕ = prefix_len is_name_byte l in
    let n : ℕ = d + m + k in
    let u : List ℕ = take n t ++ r in
    let whole : n ≤ length t = numeral_inside t in
    let left : length b ≡ length t - d = length-drop d t in
    let rest : length l ≡ length b - m = length-drop m b in
    let first : prefix_len is_number_byte u ≡ d = run_stays is_number_byte n t r whole (omega arith) number in
    let after : n - d ≡ m + k = omega arith in
    let behind : drop d u ≡ take (m + k) b ++ r = drop_front d n t r (omega arith) whole ∙ ap (λ (j : ℕ). take j b ++ r) after in
    let inside : m + k ≤ length b = omega (arith, whole, left) in
    let mark : exponent_size (take (m + k) b ++ r) ≡ m = exponent_stays (m + k) b r inside (omega arith) ends in
    let after_mark : m + k - m ≡ k = omega arith in
    let last : drop m (take (m + k) b ++ r) ≡ take k l ++ r = drop_front m (m + k) b r (omega arith) inside ∙ ap (λ (j : ℕ). take j l ++ r) after_mark in
    let names : prefix_len is_name_byte (take k l ++ r) ≡ k = run_ended is_name_byte k l r (omega (arith, inside, rest)) refl name in
    let size : List ℕ → ℕ → ℕ = λ (x : List ℕ) (e : ℕ). e + exponent_size x + prefix_len is_name_byte (drop (exponent_size x) x) in
    ap (λ (e : ℕ). e + exponent_size (drop e u) + prefix_len is_name_byte (drop (exponent_size (drop e u)) (drop e u))) first
    ∙ ap (λ (x : List ℕ). d + exponent_size x + prefix_len is_name_byte (drop (exponent_size x) x)) behind
    ∙ ap (λ (e : ℕ). d + e + prefix_len is_name_byte (drop e (take (m + k) b ++ r))) mark
    ∙ ap (λ (x : List ℕ). d + m + prefix_len is_name_byte x) last
    ∙ ap (λ (e : ℕ). d + m + e) names

-- ---- escapes

-- An escape by the first three bytes behind the backslash.
abbrev break_at : ℕ → ℕ → ℕ
break_at a b = if is_break a then (if is_break b && not (a == b) then 2 else 1) else 0

abbrev value_at : ℕ → ℕ → ℕ → ℕ
value_at a b c = if is_digit b then (if is_digit c then (a - 48) * 100 + (b - 48) * 10 + (c - 48) else (a - 48) * 10 + (b - 48)) else a - 48

abbrev digits_at : ℕ → ℕ → ℕ
digits_at b c = if is_digit b then (if is_digit c then 3 else 2) else 1

abbrev escape_at : ℕ → ℕ → ℕ → Escape
escape_at a b c =
    if nat_le 256 a then Wrong 1
    else (if is_digit a then (if nat_le (value_at a b c) 255 then Gives (value_at a b c) (digits_at b c + 1) else Wrong 3)
    else (if is_break a then Gives 10 (break_at a b + 1) else Gives (escape_letter a) 2))

-- What an escape gives takes two bytes at least.
abbrev Long : Escape → Type 0
Long (Gives b size) = 2 ≤ size
Long (Wrong fault) = Unit {0}

escape_long : (a b c : ℕ) → Long (escape_at a b c)
escape_long a b c =
    cond_both (nat_le 256 a) _ _ Long (λ e. tt)
    (λ e. cond_both (is_digit a) _ _ Long
    (λ f. cond_both (nat_le (value_at a b c) 255) (Gives (value_at a b c) (digits_at b c + 1)) (Wrong 3) Long
    (λ g. cond_both (is_digit b) _ _ (λ (n : ℕ). 2 ≤ n + 1) (λ h. cond_both (is_digit c) 3 2 (λ (n : ℕ). 2 ≤ n + 1) (λ i. omega arith) (λ i. omega arith)) (λ h. omega arith))
    (λ g. tt))
    (λ f. cond_both (is_break a) (Gives 10 (break_at a b + 1)) (Gives (escape_letter a) 2) Long
    (λ g. let one : break_at a b ≡ (if is_break b && not (a == b) then 2 else 1) = cond-true _ _ _ g in
    let some : 1 ≤ (if is_break b && not (a == b) then 2 else 1) = cond_both (is_break b && not (a == b)) 2 1 (λ (n : ℕ). 1 ≤ n) (λ h. omega arith) (λ h. omega arith) in
    omega (arith, one, some))
    (λ g. omega arith)))

-- One digit is followed by none.
one_digit : (b c : ℕ) → is_digit b ≡ true → digits_at b c + 1 ≤ 2 → ⊥
one_digit b c h le =
    let more : digits_at b c ≡ (if is_digit c then 3 else 2) = cond-true _ _ _ h in
    let two : 2 ≤ (if is_digit c then 3 else 2) = cond_both (is_digit c) 3 2 (λ (n : ℕ). 2 ≤ n) (λ i. omega arith) (λ i. omega arith) in
    omega (arith, more, two, le)

digit_short : (a b c d : ℕ) → nat_le 256 a ≡ false → is_digit a ≡ true → nat_le (value_at a b c) 255 ≡ true → digits_at b c + 1 ≤ 2 → is_digit b ≡ false → escape_at a b d ≡ Gives (value_at a b c) (digits_at b c + 1)
digit_short a b c d e f g le h =
    let value : value_at a b d ≡ value_at a b c = cond-false _ _ _ h ∙ sym (cond-false _ _ _ h) in
    let digits : digits_at b d ≡ digits_at b c = cond-false _ _ _ h ∙ sym (cond-false _ _ _ h) in
    cond-false _ _ _ e ∙ cond-true _ _ _ f
    ∙ ap (λ (x : ℕ). if nat_le x 255 then Gives x (digits_at b d + 1) else Wrong 3) value
    ∙ ap (λ (n : ℕ). if nat_le (value_at a b c) 255 then Gives (value_at a b c) (n + 1) else Wrong 3) digits
    ∙ cond-true _ _ _ g

-- One of two bytes looks at no third.
abbrev Same : ℕ → ℕ → ℕ → Escape → Type 0
Same a b d (Gives x size) = size ≤ 2 → escape_at a b d ≡ Gives x size
Same a b d (Wrong fault) = Unit {0}

escape_short : (a b c d : ℕ) → Same a b d (escape_at a b c)
escape_short a b c d =
    cond_both (nat_le 256 a) _ _ (Same a b d) (λ e. tt)
    (λ e. cond_both (is_digit a) _ _ (Same a b d)
    (λ f. cond_both (nat_le (value_at a b c) 255) (Gives (value_at a b c) (digits_at b c + 1)) (Wrong 3) (Same a b d)
    (λ g le. digit_short a b c d e f g le (false_from_ne_true (is_digit b) (λ h. one_digit b c h le)))
    (λ g. tt))
    (λ f. cond_both (is_break a) (Gives 10 (break_at a b + 1)) (Gives (escape_letter a) 2) (Same a b d)
    (λ g le. cond-false _ _ _ e ∙ cond-false _ _ _ f ∙ cond-true _ _ _ g)
    (λ g le. cond-false _ _ _ e ∙ cond-false _ _ _ f ∙ cond-false _ _ _ g)))

escape_by : (j : ℕ) (t r : List ℕ) → j ≤ length t → 2 ≤ j → escape_of (take j t ++ r) ≡ escape_at (at t 0) (at t 1) (at (take j t ++ r) 2)
escape_by j t r h two =
    ap (λ (a : ℕ). escape_at a (at (take j t ++ r) 1) (at (take j t ++ r) 2)) (at_front j t r 0 h (omega (arith, two)))
    ∙ ap (λ (b : ℕ). escape_at (at t 0) b (at (take j t ++ r) 2)) (at_front j t r 1 h (omega (arith, two)))

escape_stays : (j : ℕ) (t r : List ℕ) (b size : ℕ) → j ≤ length t → escape_of t ≡ Gives b size → size ≤ j → escape_of (take j t ++ r) ≡ Gives b size
escape_stays j t r b size h e le =
    let long : 2 ≤ size = subst Long e (escape_long (at t 0) (at t 1) (at t 2)) in
    let two : 2 ≤ j = omega (arith, long, le) in
    escape_by j t r h two ∙ go (cases_lt 2 j)
  where
    go : (2 < j) ⊎ (j ≤ 2) → escape_at (at t 0) (at t 1) (at (take j t ++ r) 2) ≡ Gives b size
    go (inl lt) = ap (escape_at (at t 0) (at t 1)) (at_front j t r 2 h lt) ∙ e
    go (inr ge) =
        let same : Same (at t 0) (at t 1) (at (take j t ++ r) 2) (Gives b size) = subst (Same (at t 0) (at t 1) (at (take j t ++ r) 2)) e (escape_short (at t 0) (at t 1) (at t 2) (at (take j t ++ r) 2)) in
        same (omega (arith, le, ge))

-- ---- strings in quotes

-- A body takes more bytes than are passed over in it.
abbrev Longer : ℕ → Body → Type 0
Longer n (Closed bytes size) = n < size
Longer n (Open fault) = Unit {0}

longer_some : (n : ℕ) (b : Body) → Short n b → Longer 0 b
longer_some n (Closed bytes size) h = h.0
longer_some n (Open fault) h = tt

longer_behind : (n : ℕ) (b : Body) → Longer n b → Longer (suc n) (behind_byte b)
longer_behind n (Closed bytes size) h = omega (arith, h)
longer_behind n (Open fault) h = tt

body_longer : (q n : ℕ) (t : List ℕ) → Longer n (body_after q n t)
body_longer q zero t = longer_some (length t) (body_after q 0 t) (body_short q 0 t)
body_longer q (suc n) [] = tt
body_longer q (suc n) (c ∷ cs) = longer_behind n (body_after q n cs) (body_longer q n cs)

-- A body that is closed stays the same in front of any bytes.
abbrev Stays : (List ℕ → Body) → List ℕ → List ℕ → Body → Type 0
Stays f t r (Closed bytes size) = f (take size t ++ r) ≡ Closed bytes size
Stays f t r (Open fault) = Unit {0}

stays_behind : (q n c : ℕ) (cs r : List ℕ) (b : Body) → Stays (body_after q n) cs r b → Stays (body_after q (suc n)) (c ∷ cs) r (behind_byte b)
stays_behind q n c cs r (Closed bytes size) h = ap behind_byte h
stays_behind q n c cs r (Open fault) h = tt

stays_plain : (q c : ℕ) (cs r : List ℕ) (b : Body) → (c == q) ≡ false → is_break c ≡ false → (c == 92) ≡ false → Stays (body_after q 0) cs r b → Stays (body_after q 0) (c ∷ cs) r (with_byte c b)
stays_plain q c cs r (Closed bytes size) e f g h = cond-false _ _ _ e ∙ cond-false _ _ _ f ∙ cond-false _ _ _ g ∙ ap (with_byte c) h
stays_plain q c cs r (Open fault) e f g h = tt

stays_escape : (q c : ℕ) (cs r : List ℕ) (x : Escape) → (c == q) ≡ false → is_break c ≡ false → (c == 92) ≡ true → escape_of cs ≡ x → ((n : ℕ) → Stays (body_after q n) cs r (body_after q n cs)) → Stays (body_after q 0) (c ∷ cs) r (behind_escape x (λ n. body_after q n cs))
stays_escape q c cs r (Wrong fault) e f g is h = tt
stays_escape q c cs r (Gives b size) e f g is h = go (body_after q (size - 1) cs) refl (h (size - 1))
  where
    go : (x : Body) → body_after q (size - 1) cs ≡ x → Stays (body_after q (size - 1)) cs r x → Stays (body_after q 0) (c ∷ cs) r (with_byte b x)
    go (Open fault) at_end stays = tt
    go (Closed bytes n) at_end stays =
        let longer : size - 1 < n = subst (Longer (size - 1)) at_end (body_longer q (size - 1) cs) in
        let fits : n ≤ length cs = (subst (Short (length cs)) at_end (body_short q (size - 1) cs)).1 in
        let same : escape_of (take n cs ++ r) ≡ Gives b size = escape_stays n cs r b size fits is (omega (arith, longer)) in
        cond-false _ _ _ e ∙ cond-false _ _ _ f ∙ cond-true _ _ _ g ∙ ap (λ (y : Escape). behind_escape y (λ k. body_after q k (take n cs ++ r))) same ∙ ap (with_byte b) stays

body_stays : (q n : ℕ) (t r : List ℕ) → Stays (body_after q n) t r (body_after q n t)
body_stays q zero [] r = tt
body_stays q (suc n) [] r = tt
body_stays q (suc n) (c ∷ cs) r = stays_behind q n c cs r (body_after q n cs) (body_stays q n cs r)
body_stays q zero (c ∷ cs) r =
    cond_both (c == q) _ _ (Stays (body_after q 0) (c ∷ cs) r) (λ e. cond-true _ _ _ e)
    (λ e. cond_both (is_break c) _ _ (Stays (body_after q 0) (c ∷ cs) r) (λ f. tt)
    (λ f. cond_both (c == 92) _ _ (Stays (body_after q 0) (c ∷ cs) r)
    (λ g. stays_escape q c cs r (escape_of cs) e f g refl (λ n. body_stays q n cs r))
    (λ g. stays_plain q c cs r (body_after q 0 cs) e f g (body_stays q 0 cs r))))

pub string_stays : (q : ℕ) (t r bytes : List ℕ) (size : ℕ) → string_body q t ≡ Closed bytes size → string_body q (take size t ++ r) ≡ Closed bytes size
unfolding string_body
string_stays q t r bytes size e = subst (Stays (body_after q 0) t r) e (body_stays q 0 t r)

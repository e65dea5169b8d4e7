-- The price of a match: its tries, and the bytes of what it gives.
use Rattle.std.proofs.Common.{◌≡◌, ℕ, ◌+◌, ◌-◌, ◌<◌, ◌≤◌, Bool, true, false, nat_le, ℤ, List, length, drop, true≢false, refl, sym, ◌∙◌, ap, subst, arith}
use Rattle.std.proofs.lemmas.Bool.{leb-true, leb-false, le-leb, lt-leb}
use Rattle.lua_pattern.specs.declared.pattern.Match.{Match}
use Rattle.lua_pattern.specs.declared.pattern.Search.{Search}
use Rattle.lua_pattern.specs.declared.pattern.Search.TheVariants as search
use Rattle.lua_pattern.specs.declared.slots.Slot.{Slot}
use Rattle.lua_pattern.specs.declared.item.Item.{Item}
use Rattle.lua_pattern.specs.Way.{Answer, At, Nowhere, answer_tries, first}
use Rattle.lua_pattern.specs.Found.{IsFound, IsSearch}
use Rattle.lua_pattern.specs.Read.{Read, Fine, read_of, codes}
use Rattle.lua_pattern.specs.Reads.{IsReadFault}
use Rattle.lua_pattern.specs.declared.read.PatternFault.{PatternFault}
use Rattle.lua_pattern.specs.declared.read.PatternFault.TheVariants as fault
use Rattle.lua_string.specs.Places.{first_place}
use Rattle.lua_pattern.specs.Texts.{bytes}
use Rattle.lua_string.specs.Finds.{IsPriced, AnswersRead, Answers, Finds, IsPlain, IsFindFault, place_of, match_of}

-- A match is the one that the answer tells.
is_match : (slots : List Slot) (start end : ℕ) (marks : List ℕ) (n tries : ℕ) (m : Match) → IsFound slots (At start end marks n) m tries → m ≡ match_of slots start end marks
is_match slots start end marks n tries m h =
    ap (λ k. let w : Match = record { start = k; end = m.end; captures = m.captures } in w) h.0
    ∙ ap (λ k. let w : Match = record { start = start; end = k; captures = m.captures } in w) h.1
    ∙ ap (λ c. let w : Match = record { start = start; end = end; captures = c } in w) h.2

found_within : (budget : ℕ) (slots : List Slot) (o : Answer) (m : Match) (tries : ℕ) → IsSearch budget slots o (search.Found m tries) → tries ≤ budget
found_within budget slots (At start end marks n) m tries h = omega (arith, h.0, h.1.3)
found_within budget slots (Nowhere n) m tries h = absurd h.1

spent : (size : Match → ℕ) (budget : ℕ) (slots : List Slot) (o : Answer) (m : Match) (tries : ℕ) → IsFound slots o m tries → budget < tries + size m → IsPriced size budget slots o search.Spent
spent size budget slots (At start end marks n) m tries h lt =
    let e : size m ≡ size (match_of slots start end marks) = ap size (is_match slots start end marks n tries m h) in
    omega (arith, e, h.3, lt)
spent size budget slots (Nowhere n) m tries h lt = absurd h

-- the match of a search, which fits or not
pub price_found : (size : Match → ℕ) (budget : ℕ) (slots : List Slot) (o : Answer) (m : Match) (tries : ℕ) → IsSearch budget slots o (search.Found m tries)
    → nat_le (size m) (budget - tries) ≡ true → IsPriced size budget slots o (search.Found m tries)
price_found size budget slots o m tries h fits =
    let within : tries ≤ budget = found_within budget slots o m tries h in
    let le : size m ≤ budget - tries = leb-true _ _ fits in
    (omega (arith, within, le), h.1)

pub price_exceeds : (size : Match → ℕ) (budget : ℕ) (slots : List Slot) (o : Answer) (m : Match) (tries : ℕ) → IsSearch budget slots o (search.Found m tries)
    → nat_le (size m) (budget - tries) ≡ false → IsPriced size budget slots o search.Spent
price_exceeds size budget slots o m tries h fits =
    let within : tries ≤ budget = found_within budget slots o m tries h in
    let gt : budget - tries < size m = leb-false _ _ fits in
    spent size budget slots o m tries h.1 (omega (arith, within, gt))

pub price_none : (size : Match → ℕ) (budget : ℕ) (slots : List Slot) (o : Answer) (tries : ℕ) → IsSearch budget slots o (search.NotFound tries) → IsPriced size budget slots o (search.NotFound tries)
price_none size budget slots o tries h =
    let e : answer_tries o ≡ tries = ap answer_tries h.1 in
    (omega (arith, e, h.0), h.1)

pub price_spent : (size : Match → ℕ) (budget : ℕ) (slots : List Slot) (o : Answer) → IsSearch budget slots o search.Spent → IsPriced size budget slots o search.Spent
price_spent size budget slots (At start end marks n) h = omega (arith, h)
price_spent size budget slots (Nowhere n) h = h

-- ---- what the read pattern answers

module _ (size : Match → ℕ) (budget : ℕ) (s pattern : List ℕ) (init : ℤ) (from : ℕ) (anchored : Bool) (items : List Item) (slots : List Slot) where
  answer : (found : Search) → from ≡ first_place (length s) init → read_of (codes bytes pattern) ≡ Fine anchored items slots
      → IsPriced size budget slots (first bytes anchored items s from) found → Answers size budget s pattern init found
  answer found ef er h =
      let P : Read → Type 0 = λ r. AnswersRead size budget s (first_place (length s) init) r found in
      let Q : ℕ → Type 0 = λ n. IsPriced size budget slots (first bytes anchored items s n) found in
      subst P (sym er) (subst Q ef h)

  pub answer_found : (m : Match) (tries : ℕ) → from ≡ first_place (length s) init → read_of (codes bytes pattern) ≡ Fine anchored items slots
      → IsSearch budget slots (first bytes anchored items s from) (search.Found m tries) → nat_le (size m) (budget - tries) ≡ true → Answers size budget s pattern init (search.Found m tries)
  answer_found m tries ef er h fits = answer (search.Found m tries) ef er (price_found size budget slots (first bytes anchored items s from) m tries h fits)

  pub answer_exceeds : (m : Match) (tries : ℕ) → from ≡ first_place (length s) init → read_of (codes bytes pattern) ≡ Fine anchored items slots
      → IsSearch budget slots (first bytes anchored items s from) (search.Found m tries) → nat_le (size m) (budget - tries) ≡ false → Answers size budget s pattern init search.Spent
  answer_exceeds m tries ef er h fits = answer search.Spent ef er (price_exceeds size budget slots (first bytes anchored items s from) m tries h fits)

  pub answer_none : (tries : ℕ) → from ≡ first_place (length s) init → read_of (codes bytes pattern) ≡ Fine anchored items slots
      → IsSearch budget slots (first bytes anchored items s from) (search.NotFound tries) → Answers size budget s pattern init (search.NotFound tries)
  answer_none tries ef er h = answer (search.NotFound tries) ef er (price_none size budget slots (first bytes anchored items s from) tries h)

  pub answer_spent : from ≡ first_place (length s) init → read_of (codes bytes pattern) ≡ Fine anchored items slots
      → IsSearch budget slots (first bytes anchored items s from) search.Spent → Answers size budget s pattern init search.Spent
  answer_spent ef er h = answer search.Spent ef er (price_spent size budget slots (first bytes anchored items s from) h)

pub find_pattern : (size : Match → ℕ) (plain : Bool) (budget : ℕ) (s pattern : List ℕ) (init : ℤ) (found : Search) → plain ≡ false
    → Answers size budget s pattern init found → Finds size plain budget s pattern init found
find_pattern size false budget s pattern init found e h = h
find_pattern size true budget s pattern init found e h = absurd (true≢false e)

pub find_plain : (size : Match → ℕ) (plain : Bool) (budget : ℕ) (s pattern : List ℕ) (init : ℤ) (from : ℕ) (found : Search) → plain ≡ true → from ≡ first_place (length s) init
    → IsPlain from (length pattern) (place_of pattern (drop from s)) found → Finds size plain budget s pattern init found
find_plain size true budget s pattern init from found e ef h =
    let P : ℕ → Type 0 = λ n. IsPlain n (length pattern) (place_of pattern (drop n s)) found in subst P ef h
find_plain size false budget s pattern init from found e ef h = absurd (true≢false (sym e))

pub find_fault : (plain : Bool) (pattern : List ℕ) (e : PatternFault) → plain ≡ false → IsReadFault (read_of (codes bytes pattern)) e → IsFindFault plain pattern e
find_fault false pattern e is h = h
find_fault true pattern e is h = absurd (true≢false is)

-- captures that fit
pub fits_more : (len rest left : ℕ) → len ≤ left → nat_le (len + rest) left ≡ nat_le rest (left - len)
fits_more len rest left le = go (nat_le rest (left - len)) refl
  where
    go : (b : Bool) → nat_le rest (left - len) ≡ b → nat_le (len + rest) left ≡ nat_le rest (left - len)
    go true e = let h : rest ≤ left - len = leb-true _ _ e in le-leb _ _ (omega (arith, h, le)) ∙ sym e
    go false e = let h : left - len < rest = leb-false _ _ e in lt-leb _ _ (omega (arith, h, le)) ∙ sym e

pub fits_not : (len rest left : ℕ) → left < len → nat_le (len + rest) left ≡ false
fits_not len rest left lt = lt-leb _ _ (omega (arith, lt))

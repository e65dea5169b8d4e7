-- What trimming, squeezing and cutting keep of a text.
use Rattle.std.proofs.Common.{◌≡◌, ℕ, ◌<◌, ◌==◌, Bool, true, false, ◌&&◌, cond, List, [], ◌∷◌, ◌++◌, reverse, length, ◌⊎◌, inl, inr, refl, sym, ap, subst, ◌∙◌, arith}
use Rattle.std.proofs.lemmas.Bool.{true≢false, cond_both, cond-true, cond-false, and_parts, and_from, and_right, eqb-true, eq-eqb}
use Rattle.std.proofs.lemmas.List.{reverse-append, length-reverse}
use Rattle.wk_base.specs.Space.{is_white, trim_start, trim_end, trim}
use Rattle.wk_base.specs.Titles.{as_space, with_spaces, begins_with, squeeze}

-- the first byte, and 0 where there is none
abbrev pub first : List ℕ → ℕ
first [] = 0
first (c ∷ cs) = c

-- the last byte, and d where there is none
abbrev pub last_or : ℕ → List ℕ → ℕ
last_or d [] = d
last_or d (c ∷ cs) = last_or c cs

-- The end of a text is trimmed from its last byte on: what is kept of c before a rest that is trimmed.
abbrev pub keep : ℕ → List ℕ → List ℕ
keep c [] = cond (is_white c) [] (c ∷ [])
keep c (d ∷ ds) = c ∷ d ∷ ds

abbrev pub ending : List ℕ → List ℕ
ending [] = []
ending (c ∷ cs) = keep c (ending cs)

pub cons_parts : (a b : ℕ) (as' bs : List ℕ) → a ∷ as' ≡ b ∷ bs → (a ≡ b) × (as' ≡ bs)
cons_parts a b as' bs e = (cc, cc)

pub cons_same : (a b : ℕ) (as' bs : List ℕ) → a ≡ b → as' ≡ bs → a ∷ as' ≡ b ∷ bs
cons_same a b as' bs e f = cc

pub keep_some : (c : ℕ) (cs : List ℕ) → 0 < length cs → keep c cs ≡ c ∷ cs
keep_some c [] some = absurd (omega arith)
keep_some c (d ∷ ds) some = refl

pub keep_plain : (c : ℕ) (cs : List ℕ) → is_white c ≡ false → keep c cs ≡ c ∷ cs
keep_plain c [] plain = cond-false _ _ _ plain
keep_plain c (d ∷ ds) plain = refl

-- `trim_end`, from the last byte on
snoc_at : (c d : ℕ) (ds : List ℕ) (b : Bool)
    → reverse (trim_start (ds ++ c ∷ [])) ≡ keep c (reverse (trim_start ds))
    → reverse (cond b (trim_start (ds ++ c ∷ [])) (d ∷ (ds ++ c ∷ []))) ≡ keep c (reverse (cond b (trim_start ds) (d ∷ ds)))
snoc_at c d ds true before = before
snoc_at c d ds false before =
    reverse-append (d ∷ ds) (c ∷ [])
    ∙ sym (keep_some c (reverse (d ∷ ds)) (omega (arith, length-reverse (d ∷ ds))))

lone : (c : ℕ) (b : Bool) → reverse (cond b [] (c ∷ [])) ≡ cond b [] (c ∷ [])
lone c true = refl
lone c false = refl

snoc : (c : ℕ) (cs : List ℕ) → reverse (trim_start (cs ++ c ∷ [])) ≡ keep c (reverse (trim_start cs))
snoc c [] = lone c (is_white c)
snoc c (d ∷ ds) = snoc_at c d ds (is_white d) (snoc c ds)

pub trim_end-ending : (text : List ℕ) → trim_end text ≡ ending text
trim_end-ending [] = refl
trim_end-ending (c ∷ cs) =
    ap (λ (t : List ℕ). reverse (trim_start t)) (reverse-append (c ∷ []) cs)
    ∙ snoc c (reverse cs) ∙ ap (keep c) (trim_end-ending cs)

-- the ends of what is trimmed
pub front_start : (text : List ℕ) → is_white (first (trim_start text)) ≡ false
front_start [] = refl
front_start (c ∷ cs) =
    cond_both (is_white c) (trim_start cs) (c ∷ cs) (λ t. is_white (first t) ≡ false) (λ _. front_start cs) (λ fails. fails)

pub back_start : (text : List ℕ) (d : ℕ) → is_white (last_or d text) ≡ false → is_white (last_or 0 (trim_start text)) ≡ false
back_start [] d back = refl
back_start (c ∷ cs) d back =
    cond_both (is_white c) (trim_start cs) (c ∷ cs) (λ t. is_white (last_or 0 t) ≡ false) (λ _. back_start cs c back) (λ _. back)

back_keep : (c : ℕ) (cs : List ℕ) → is_white (last_or 0 cs) ≡ false → is_white (last_or 0 (keep c cs)) ≡ false
back_keep c [] back = cond_both (is_white c) [] (c ∷ []) (λ t. is_white (last_or 0 t) ≡ false) (λ _. refl) (λ fails. fails)
back_keep c (d ∷ ds) back = back

pub back_ending : (text : List ℕ) → is_white (last_or 0 (ending text)) ≡ false
back_ending [] = refl
back_ending (c ∷ cs) = back_keep c (ending cs) (back_ending cs)

pub front_ending : (text : List ℕ) → is_white (first text) ≡ false → is_white (first (ending text)) ≡ false
front_ending [] front = refl
front_ending (c ∷ cs) front = subst (λ (t : List ℕ). is_white (first t) ≡ false) (sym (keep_plain c (ending cs) front)) front

pub fixed_start : (text : List ℕ) → is_white (first text) ≡ false → trim_start text ≡ text
fixed_start [] front = refl
fixed_start (c ∷ cs) front = cond-false _ _ _ front

pub fixed_ending : (text : List ℕ) → is_white (last_or 0 text) ≡ false → ending text ≡ text
fixed_ending [] back = refl
fixed_ending (c ∷ []) back = cond-false _ _ _ back
fixed_ending (c ∷ d ∷ ds) back = ap (keep c) (fixed_ending (d ∷ ds) back)

pub fixed_trim : (text : List ℕ) → is_white (first text) ≡ false → is_white (last_or 0 text) ≡ false → trim text ≡ text
fixed_trim text front back = ap trim_end (fixed_start text front) ∙ trim_end-ending text ∙ fixed_ending text back

-- texts without underscores
pub plain_spaced : (text : List ℕ) → with_spaces (with_spaces text) ≡ with_spaces text
plain_spaced [] = refl
plain_spaced (c ∷ cs) = cons_same _ _ _ _ (twice (c == 95) c refl) (plain_spaced cs)
  where
    twice : (b : Bool) (c : ℕ) → (c == 95) ≡ b → as_space (cond b 32 c) ≡ cond b 32 c
    twice true c e = refl
    twice false c e = cond-false _ _ _ e

pub plain_start : (text : List ℕ) → with_spaces text ≡ text → with_spaces (trim_start text) ≡ trim_start text
plain_start [] plain = refl
plain_start (c ∷ cs) plain =
    cond_both (is_white c) (trim_start cs) (c ∷ cs) (λ t. with_spaces t ≡ t) (λ _. plain_start cs (cons_parts _ _ _ _ plain).1) (λ _. plain)

plain_keep : (c : ℕ) (cs : List ℕ) → as_space c ≡ c → with_spaces cs ≡ cs → with_spaces (keep c cs) ≡ keep c cs
plain_keep c [] here rest =
    cond_both (is_white c) [] (c ∷ []) (λ t. with_spaces t ≡ t) (λ _. refl) (λ _. cons_same _ _ _ _ here refl)
plain_keep c (d ∷ ds) here rest = cons_same _ _ _ _ here rest

pub plain_ending : (text : List ℕ) → with_spaces text ≡ text → with_spaces (ending text) ≡ ending text
plain_ending [] plain = refl
plain_ending (c ∷ cs) plain =
    let parts = cons_parts _ _ _ _ plain in plain_keep c (ending cs) parts.0 (plain_ending cs parts.1)

pub plain_squeeze : (text : List ℕ) → with_spaces text ≡ text → with_spaces (squeeze text) ≡ squeeze text
plain_squeeze [] plain = refl
plain_squeeze (c ∷ cs) plain =
    let parts = cons_parts _ _ _ _ plain in
    cond_both ((c == 32) && begins_with 32 cs) (squeeze cs) (c ∷ squeeze cs) (λ t. with_spaces t ≡ t)
    (λ _. plain_squeeze cs parts.1) (λ _. cons_same _ _ _ _ parts.0 (plain_squeeze cs parts.1))

-- runs of spaces
pub begins_is : (text : List ℕ) → begins_with 32 text ≡ (first text == 32)
begins_is [] = refl
begins_is (c ∷ cs) = refl

pub begins_first : (text : List ℕ) → begins_with 32 text ≡ true → first text ≡ 32
begins_first text holds = eqb-true (first text) 32 (sym (begins_is text) ∙ holds)

pub begins_some : (text : List ℕ) → begins_with 32 text ≡ true → 0 < length text
begins_some [] holds = absurd (true≢false (sym holds))
begins_some (c ∷ cs) holds = omega arith

pub first_squeeze : (text : List ℕ) → first (squeeze text) ≡ first text
first_squeeze [] = refl
first_squeeze (c ∷ cs) =
    cond_both ((c == 32) && begins_with 32 cs) (squeeze cs) (c ∷ squeeze cs) (λ t. first t ≡ c)
    (λ holds. let parts = and_parts _ _ holds in first_squeeze cs ∙ begins_first cs parts.1 ∙ sym (eqb-true c 32 parts.0))
    (λ _. refl)

pub begins_squeeze : (text : List ℕ) → begins_with 32 (squeeze text) ≡ begins_with 32 text
begins_squeeze text = begins_is (squeeze text) ∙ ap (λ c. c == 32) (first_squeeze text) ∙ sym (begins_is text)

last_any : (text : List ℕ) (d e : ℕ) → 0 < length text → last_or d text ≡ last_or e text
last_any [] d e some = absurd (omega arith)
last_any (c ∷ cs) d e some = refl

pub last_squeeze : (text : List ℕ) (d : ℕ) → last_or d (squeeze text) ≡ last_or d text
last_squeeze [] d = refl
last_squeeze (c ∷ cs) d =
    cond_both ((c == 32) && begins_with 32 cs) (squeeze cs) (c ∷ squeeze cs) (λ t. last_or d t ≡ last_or c cs)
    (λ holds. last_squeeze cs d ∙ last_any cs d c (begins_some cs (and_parts _ _ holds).1))
    (λ _. last_squeeze cs c)

pub squeeze_twice : (text : List ℕ) → squeeze (squeeze text) ≡ squeeze text
squeeze_twice [] = refl
squeeze_twice (c ∷ cs) =
    cond_both ((c == 32) && begins_with 32 cs) (squeeze cs) (c ∷ squeeze cs) (λ t. squeeze t ≡ t) (λ _. squeeze_twice cs)
    (λ fails. cond-false _ _ _ (ap (λ b. (c == 32) && b) (begins_squeeze cs) ∙ fails) ∙ ap (λ t. c ∷ t) (squeeze_twice cs))

pub squeeze_some : (text : List ℕ) → 0 < length text → 0 < length (squeeze text)
squeeze_some [] some = some
squeeze_some (c ∷ cs) some =
    cond_both ((c == 32) && begins_with 32 cs) (squeeze cs) (c ∷ squeeze cs) (λ t. 0 < length t)
    (λ holds. squeeze_some cs (begins_some cs (and_parts _ _ holds).1)) (λ _. omega arith)

-- Trimming at the end and squeezing can change places.
first_keep : (c : ℕ) (cs : List ℕ) → (keep c cs ≡ []) ⊎ (first (keep c cs) ≡ c)
first_keep c [] = cond_both (is_white c) [] (c ∷ []) (λ t. (t ≡ []) ⊎ (first t ≡ c)) (λ _. inl refl) (λ _. inr refl)
first_keep c (d ∷ ds) = inr refl

first_ending : (text : List ℕ) → (ending text ≡ []) ⊎ (first (ending text) ≡ first text)
first_ending [] = inl refl
first_ending (c ∷ cs) = first_keep c (ending cs)

dropped : (c : ℕ) (cs : List ℕ) → c ≡ 32 → (cs ≡ []) ⊎ (first cs ≡ 32) → squeeze cs ≡ squeeze (keep c cs)
dropped c [] space _ = subst (λ (b : ℕ). [] ≡ squeeze (keep b [])) (sym space) refl
dropped c (d ∷ ds) space (inl none) = absurd (omega (arith, ap length none))
dropped c (d ∷ ds) space (inr next) = sym (cond-true _ _ _ (and_from _ _ (eq-eqb c 32 space) (eq-eqb d 32 next)))

kept : (c : ℕ) (cs : List ℕ) → (cs ≡ []) ⊎ (((c == 32) && begins_with 32 cs) ≡ false) → keep c (squeeze cs) ≡ squeeze (keep c cs)
kept c [] _ =
    cond_both (is_white c) [] (c ∷ []) (λ t. t ≡ squeeze t) (λ _. refl) (λ _. sym (cond-false _ _ _ (and_right (c == 32) false refl)))
kept c (d ∷ ds) (inl none) = absurd (omega (arith, ap length none))
kept c (d ∷ ds) (inr fails) = keep_some c (squeeze (d ∷ ds)) (squeeze_some (d ∷ ds) (omega arith)) ∙ sym (cond-false _ _ _ fails)

pub ending_squeeze : (text : List ℕ) → ending (squeeze text) ≡ squeeze (ending text)
ending_squeeze [] = refl
ending_squeeze (c ∷ cs) =
    cond_both ((c == 32) && begins_with 32 cs) (squeeze cs) (c ∷ squeeze cs) (λ t. ending t ≡ squeeze (keep c (ending cs)))
    (λ holds. let parts = and_parts _ _ holds in
    ending_squeeze cs ∙ dropped c (ending cs) (eqb-true c 32 parts.0) (after cs (first_ending cs) parts.1))
    (λ fails. ap (keep c) (ending_squeeze cs) ∙ kept c (ending cs) (unless cs (first_ending cs) fails))
  where
    after : (cs : List ℕ) → (ending cs ≡ []) ⊎ (first (ending cs) ≡ first cs) → begins_with 32 cs ≡ true
        → (ending cs ≡ []) ⊎ (first (ending cs) ≡ 32)
    after cs (inl none) holds = inl none
    after cs (inr same) holds = inr (same ∙ begins_first cs holds)

    unless : (cs : List ℕ) → (ending cs ≡ []) ⊎ (first (ending cs) ≡ first cs) → ((c == 32) && begins_with 32 cs) ≡ false
        → (ending cs ≡ []) ⊎ (((c == 32) && begins_with 32 (ending cs)) ≡ false)
    unless cs (inl none) fails = inl none
    unless cs (inr same) fails =
        inr (ap (λ b. (c == 32) && b) (begins_is (ending cs) ∙ ap (λ d. d == 32) same ∙ sym (begins_is cs)) ∙ fails)

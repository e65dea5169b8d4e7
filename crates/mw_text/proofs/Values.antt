-- In the value of an attribute the bytes of each code point are written as `encode` writes the code point.
use Rattle.std.proofs.Common.{◌≡◌, ℕ, ◌+◌, ◌/◌, ◌%◌, ◌<◌, ◌≤◌, ◌==◌, ◌&&◌, Bool, true, false, if◌then◌else◌, List, [], ◌∷◌, ◌++◌, codes, chars, encode_utf8_all, IsUtf8, refl, sym, ap, subst, ◌∙◌, arith, ⊎_elim}
use Rattle.std.specs.Char.{encode_utf8}
use Rattle.std.specs.Fmt.{digits}
use Rattle.std.proofs.lemmas.Bool.{cases_lt, cases_eq, cond-true, cond-false, and_parts, eqb-true}
use Rattle.std.proofs.lemmas.Bool.Decides.{nat_tests}
use Rattle.std.proofs.lemmas.Str.{encode_ascii, encodes-chars, scalars-chars}
use lib.Dec.{ltb}
use lib.Utf8.{scalar, scalars, scalar_cases}
use Rattle.mw_ustring.specs.WkBaseTitles.{begins_with}
use Rattle.mw_text.specs.References.{numbered, is_special, encoded_point, encoded}
use Rattle.mw_text.specs.Tag.{reference, encode_byte, encode_behind, encode}

by : (A : Type 0) → A → A
by A a = a

-- ---- one byte

not_both : (a x b y : ℕ) → (a ≡ x → b ≡ y → ⊥) → ((a == x) && (b == y)) ≡ false
not_both a x b y h = go (a == x) refl (b == y) refl
  where
    go : (p : Bool) → (a == x) ≡ p → (q : Bool) → (b == y) ≡ q → ((a == x) && (b == y)) ≡ false
    go false e q f = ap (λ v. v && (b == y)) e
    go true e false f = ap (λ v. v && (b == y)) e ∙ f
    go true e true f = absurd (h (eqb-true a x e) (eqb-true b y f))

-- which bytes are written otherwise
differs : (c k : ℕ) → (c ≡ k → ⊥) → (c == k) ≡ false
differs c k h = go (c == k) refl
  where
    go : (p : Bool) → (c == k) ≡ p → (c == k) ≡ false
    go false e = e
    go true e = absurd (h (eqb-true c k e))

plain_reference : (c : ℕ) → (c ≡ 38 → ⊥) → (c ≡ 60 → ⊥) → (c ≡ 62 → ⊥) → (c ≡ 34 → ⊥) → (c ≡ 39 → ⊥) → reference c ≡ c ∷ []
plain_reference c a b d e f = rw (differs c 38 a, differs c 60 b, differs c 62 d, differs c 34 e, differs c 39 f) refl

plain_point : (c : ℕ) → (c ≡ 38 → ⊥) → (c ≡ 60 → ⊥) → (c ≡ 62 → ⊥) → (c ≡ 34 → ⊥) → (c ≡ 39 → ⊥) → (c ≡ 160 → ⊥) → encoded_point is_special c ≡ encode_utf8 c
plain_point c a b d e f g = rw (differs c 38 a, differs c 60 b, differs c 62 d, differs c 34 e, differs c 39 f, differs c 160 g) refl

high_reference : (c : ℕ) → 128 ≤ c → reference c ≡ c ∷ []
high_reference c h =
    plain_reference c (λ e. omega (arith, e, h)) (λ e. omega (arith, e, h)) (λ e. omega (arith, e, h)) (λ e. omega (arith, e, h)) (λ e. omega (arith, e, h))

high_point : (c : ℕ) → 128 ≤ c → (c ≡ 160 → ⊥) → encoded_point is_special c ≡ encode_utf8 c
high_point c h n =
    plain_point c (λ e. omega (arith, e, h)) (λ e. omega (arith, e, h)) (λ e. omega (arith, e, h)) (λ e. omega (arith, e, h)) (λ e. omega (arith, e, h)) n

-- a byte that belongs to no space that does not break
alone : (before b : ℕ) (more : List ℕ) → ((b == 194) && begins_with 160 more) ≡ false → ((before == 194) && (b == 160)) ≡ false → encode_byte before b more ≡ reference b
alone before b more x y =
    ap (λ v. if v then [] else if (before == 194) && (b == 160) then codes "&nbsp;" else reference b) x
    ∙ ap (λ v. if v then codes "&nbsp;" else reference b) y

quiet : (before b : ℕ) (more : List ℕ) → (b ≡ 194 → ⊥) → (before ≡ 194 → ⊥) → encode_byte before b more ≡ reference b
quiet before b more x y =
    alone before b more (ap (λ v. v && begins_with 160 more) (differs b 194 x)) (ap (λ v. v && (b == 160)) (differs before 194 y))

high_quiet : (before b : ℕ) (more : List ℕ) → 128 ≤ b → (b ≡ 194 → ⊥) → (before ≡ 194 → ⊥) → encode_byte before b more ≡ b ∷ []
high_quiet before b more h x y = quiet before b more x y ∙ high_reference b h

-- ---- one code point

-- what its bytes give, behind a byte that begins no code point of two bytes
record Written (before c : ℕ) (rest : List ℕ) : Type 0 where
  last : ℕ
  quiet_last : last ≡ 194 → ⊥
  same : encode_behind before (encode_utf8 c ++ rest) ≡ encoded_point is_special c ++ encode_behind last rest

ascii_points : (c : ℕ) → c < 128 → reference c ≡ encoded_point is_special c
unfolding numbered digits
ascii_points c h =
    let P : ℕ → Type 0 = λ n. reference n ≡ encoded_point is_special n in
    ⊎_elim (λ e. subst P (sym e) refl) (λ a. ⊎_elim (λ e. subst P (sym e) refl) (λ b. ⊎_elim (λ e. subst P (sym e) refl) (λ d. ⊎_elim (λ e. subst P (sym e) refl)
    (λ f. ⊎_elim (λ e. subst P (sym e) refl)
    (λ g. plain_reference c a b d f g ∙ sym (encode_ascii c h) ∙ sym (plain_point c a b d f g (λ e. omega (arith, e, h))))
    (cases_eq c 39)) (cases_eq c 34)) (cases_eq c 62)) (cases_eq c 60)) (cases_eq c 38)

one_byte : (before c : ℕ) (rest : List ℕ) → c < 128 → (before ≡ 194 → ⊥) → Written before c rest
one_byte before c rest h q =
    let b : encode_byte before c rest ≡ encoded_point is_special c = quiet before c rest (λ e. omega (arith, e, h)) q ∙ ascii_points c h in
    record {
      last = c;
      quiet_last = λ e. omega (arith, e, h);
      same = ap (λ l. encode_behind before (l ++ rest)) (encode_ascii c h) ∙ ap (λ l. l ++ encode_behind c rest) b;
    }

-- bytes that are written as they are
two_bytes : (before c a b : ℕ) (rest : List ℕ) → encode_utf8 c ≡ a ∷ b ∷ [] → 128 ≤ c → (c ≡ 160 → ⊥) → 128 ≤ a → 128 ≤ b → b < 192
    → (a ≡ 194 → b ≡ 160 → ⊥) → (before ≡ 194 → ⊥) → Written before c rest
two_bytes before c a b rest is h n ha hb lb nbsp q =
    let x : encode_byte before a (b ∷ rest) ≡ a ∷ [] =
    alone before a (b ∷ rest) (not_both a 194 b 160 nbsp) (ap (λ v. v && (a == 160)) (differs before 194 q)) ∙ high_reference a ha in
    let y : encode_byte a b rest ≡ b ∷ [] =
    alone a b rest (ap (λ v. v && begins_with 160 rest) (differs b 194 (λ e. omega (arith, e, lb)))) (not_both a 194 b 160 nbsp) ∙ high_reference b hb in
    record {
      last = b;
      quiet_last = λ e. omega (arith, e, lb);
      same = ap (λ l. encode_behind before (l ++ rest)) is ∙ ap (λ l. l ++ (encode_byte a b rest ++ encode_behind b rest)) x ∙ ap (λ l. a ∷ (l ++ encode_behind b rest)) y
          ∙ ap (λ l. l ++ encode_behind b rest) (sym is ∙ sym (high_point c h n));
    }

three_bytes : (before c a b d : ℕ) (rest : List ℕ) → encode_utf8 c ≡ a ∷ b ∷ d ∷ [] → 160 < c → 224 ≤ a → 128 ≤ b → b < 192 → 128 ≤ d → d < 192
    → (before ≡ 194 → ⊥) → Written before c rest
three_bytes before c a b d rest is h ha hb lb hd ld q =
    let x : encode_byte before a (b ∷ d ∷ rest) ≡ a ∷ [] = high_quiet before a (b ∷ d ∷ rest) (omega (arith, ha)) (λ e. omega (arith, e, ha)) q in
    let y : encode_byte a b (d ∷ rest) ≡ b ∷ [] = high_quiet a b (d ∷ rest) hb (λ e. omega (arith, e, lb)) (λ e. omega (arith, e, ha)) in
    let z : encode_byte b d rest ≡ d ∷ [] = high_quiet b d rest hd (λ e. omega (arith, e, ld)) (λ e. omega (arith, e, lb)) in
    record {
      last = d;
      quiet_last = λ e. omega (arith, e, ld);
      same = ap (λ l. encode_behind before (l ++ rest)) is ∙ rw (x, y, z) refl ∙ ap (λ l. l ++ encode_behind d rest) (sym is ∙ sym (high_point c (omega (arith, h)) (λ e. omega (arith, e, h))));
    }

four_bytes : (before c a b d f : ℕ) (rest : List ℕ) → encode_utf8 c ≡ a ∷ b ∷ d ∷ f ∷ [] → 160 < c → 224 ≤ a → 128 ≤ b → b < 192 → 128 ≤ d → d < 192 → 128 ≤ f → f < 192
    → (before ≡ 194 → ⊥) → Written before c rest
four_bytes before c a b d f rest is h ha hb lb hd ld hf lf q =
    let x : encode_byte before a (b ∷ d ∷ f ∷ rest) ≡ a ∷ [] = high_quiet before a (b ∷ d ∷ f ∷ rest) (omega (arith, ha)) (λ e. omega (arith, e, ha)) q in
    let y : encode_byte a b (d ∷ f ∷ rest) ≡ b ∷ [] = high_quiet a b (d ∷ f ∷ rest) hb (λ e. omega (arith, e, lb)) (λ e. omega (arith, e, ha)) in
    let z : encode_byte b d (f ∷ rest) ≡ d ∷ [] = high_quiet b d (f ∷ rest) hd (λ e. omega (arith, e, ld)) (λ e. omega (arith, e, lb)) in
    let w : encode_byte d f rest ≡ f ∷ [] = high_quiet d f rest hf (λ e. omega (arith, e, lf)) (λ e. omega (arith, e, ld)) in
    record {
      last = f;
      quiet_last = λ e. omega (arith, e, lf);
      same = ap (λ l. encode_behind before (l ++ rest)) is ∙ rw (x, y, z, w) refl ∙ ap (λ l. l ++ encode_behind f rest) (sym is ∙ sym (high_point c (omega (arith, h)) (λ e. omega (arith, e, h))));
    }

space : (before : ℕ) (rest : List ℕ) → Written before 160 rest
unfolding encode_utf8
space before rest = record { last = 160; quiet_last = λ e. omega (arith, e); same = refl }

point_written : (before c : ℕ) (rest : List ℕ) → scalar c ≡ true → (before ≡ 194 → ⊥) → Written before c rest
unfolding encode_utf8 by
point_written before c rest s q =
    let range = scalar_cases c s in
    ⊎_elim (λ one. one_byte before c rest one q)
    (λ more. let not_one : ltb c 128 ≡ false = grind (arith, nat_tests) in ⊎_elim
    (λ two. let e : encode_utf8 c ≡ (192 + c / 64) ∷ (128 + c % 64) ∷ [] = cond-false _ _ _ not_one ∙ cond-true _ _ _ (by (ltb c 2048 ≡ true) (grind (arith, nat_tests))) in ⊎_elim
    (λ k. subst (λ (n : ℕ). Written before n rest) (sym k) (space before rest))
    (λ n. two_bytes before c (192 + c / 64) (128 + c % 64) rest e more n (omega arith) (omega arith) (omega arith) (λ a b. n (omega (arith, a, b))) q)
    (cases_eq c 160))
    (λ wide. let not_two : ltb c 2048 ≡ false = grind (arith, nat_tests) in ⊎_elim
    (λ three. let e : encode_utf8 c ≡ (224 + c / 4096) ∷ (128 + (c / 64) % 64) ∷ (128 + c % 64) ∷ [] = cond-false _ _ _ not_one ∙ cond-false _ _ _ not_two ∙ cond-true _ _ _ (by (ltb c 65536 ≡ true) (grind (arith, nat_tests))) in
    three_bytes before c (224 + c / 4096) (128 + (c / 64) % 64) (128 + c % 64) rest e (omega (arith, wide)) (omega arith) (omega arith) (omega arith) (omega arith) (omega arith) q)
    (λ four. let not_three : ltb c 65536 ≡ false = grind (arith, nat_tests) in
    let e : encode_utf8 c ≡ (240 + c / 262144) ∷ (128 + (c / 4096) % 64) ∷ (128 + (c / 64) % 64) ∷ (128 + c % 64) ∷ [] = cond-false _ _ _ not_one ∙ cond-false _ _ _ not_two ∙ cond-false _ _ _ not_three in
    four_bytes before c (240 + c / 262144) (128 + (c / 4096) % 64) (128 + (c / 64) % 64) (128 + c % 64) rest e (omega (arith, wide)) (omega arith) (omega arith) (omega arith) (omega arith) (omega arith) (omega arith) (omega arith) q)
    (cases_lt c 65536))
    (cases_lt c 2048))
    (cases_lt c 128)

-- ---- a text

points_written : (before : ℕ) (cs : List ℕ) → scalars cs ≡ true → (before ≡ 194 → ⊥) → encode_behind before (encode_utf8_all cs) ≡ encoded is_special cs
points_written before [] s q = refl
points_written before (c ∷ cs) s q =
    let parts = and_parts (scalar c) (scalars cs) s in
    let w = point_written before c (encode_utf8_all cs) parts.0 q in
    w.same ∙ ap (λ l. encoded_point is_special c ++ l) (points_written w.last cs parts.1 w.quiet_last)

pub value_written : (s : List ℕ) → IsUtf8 s → encode s ≡ encoded is_special (chars s)
value_written s u = ap encode (sym (encodes-chars s u)) ∙ points_written 0 (chars s) (scalars-chars s u) (λ e. omega (arith, e))

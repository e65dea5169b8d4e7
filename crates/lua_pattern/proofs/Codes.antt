-- The symbols of a text in UTF-8 are its code points.
use Rattle.std.proofs.Common.{◌≡◌, ℕ, zero, suc, ◌+◌, ◌/◌, ◌%◌, ◌<◌, ◌⊎◌, Bool, true, false, cond, not, List, [], ◌∷◌, ◌++◌, length, map, refl, sym, ap, ◌∙◌, arith, ⊎_elim}
use Rattle.std.specs.Char.{encode_utf8}
use Rattle.std.specs.Str.{encode_utf8_all, IsUtf8, chars}
use Rattle.std.specs.List.{AllByRecursion}
use Rattle.std.proofs.lemmas.Bool.{cases_lt, cond-true, cond-false, and_parts}
use Rattle.std.proofs.lemmas.Bool.Decides.{nat_tests}
use Rattle.std.proofs.lemmas.Str.{chars_from_encodes}
use lib.Dec.{ltb}
use lib.Utf8.{scalar, scalars, scalar_cases}
use Rattle.bstr.specs.Utf8.{or_replacement, decoded}
use Rattle.bstr.proofs.lemmas.EncodeLemmas.{decoded-encode}
use Rattle.lua_pattern.specs.Letters.{Symbol}
use Rattle.lua_pattern.specs.Texts.{goes_on, later_bytes, later_points, point, point_code, point_symbols, point_starts, points}
use Rattle.lua_pattern.specs.Read.{codes}

abbrev Goes : ℕ → Type 0
Goes b = goes_on b ≡ true

ends_points : (l : List ℕ) → point_starts l ≡ true → later_points l ≡ point_symbols l
ends_points [] e = refl
ends_points (b ∷ bs) e = go (goes_on b) refl e
  where
    go : (g : Bool) → goes_on b ≡ g → not g ≡ true → later_points (b ∷ bs) ≡ point_symbols (b ∷ bs)
    go false is h = rw is refl
    go true is h = cc

ends_bytes : (l : List ℕ) → point_starts l ≡ true → later_bytes l ≡ 0
ends_bytes [] e = refl
ends_bytes (b ∷ bs) e = go (goes_on b) refl e
  where
    go : (g : Bool) → goes_on b ≡ g → not g ≡ true → later_bytes (b ∷ bs) ≡ 0
    go false is h = rw is refl
    go true is h = cc

tail_points : (tail rest : List ℕ) → AllByRecursion Goes tail → later_points (tail ++ rest) ≡ later_points rest
tail_points [] rest a = refl
tail_points (b ∷ bs) rest a = rw a.0 (tail_points bs rest a.1)

tail_bytes : (tail rest : List ℕ) → AllByRecursion Goes tail → later_bytes (tail ++ rest) ≡ length tail + later_bytes rest
tail_bytes [] rest a = omega arith
tail_bytes (b ∷ bs) rest a = let e = tail_bytes bs rest a.1 in rw a.0 (omega (arith, e))

-- a byte with which a code point begins, and the bytes with which it goes on
first_point : (b : ℕ) (tail rest : List ℕ) → AllByRecursion Goes tail → point_starts rest ≡ true
    → point_symbols (b ∷ (tail ++ rest)) ≡ record { code = point_code (b ∷ (tail ++ rest)); size = suc (length tail) } ∷ point_symbols rest
first_point b tail rest a e =
    let n = tail_bytes tail rest a in
    let z = ends_bytes rest e in
    let size : later_bytes (tail ++ rest) ≡ length tail = omega (arith, n, z) in
    ap (λ (k : ℕ). record { code = point_code (b ∷ (tail ++ rest)); size = suc k } ∷ later_points (tail ++ rest)) size
    ∙ ap (λ (l : List Symbol). record { code = point_code (b ∷ (tail ++ rest)); size = suc (length tail) } ∷ l) (tail_points tail rest a ∙ ends_points rest e)

record Shape (c : ℕ) : Type 0 where
  first : ℕ
  tail : List ℕ
  is : encode_utf8 c ≡ first ∷ tail
  begins : not (goes_on first) ≡ true
  goes : AllByRecursion Goes tail

by : (A : Type 0) → A → A
by A a = a

shape : (c : ℕ) → scalar c ≡ true → Shape c
unfolding encode_utf8 by
shape c s =
    let range = scalar_cases c s in
    ⊎_elim
    (λ one. let e : encode_utf8 c ≡ c ∷ [] = cond-true _ _ _ (by (ltb c 128 ≡ true) (grind (arith, nat_tests))) in
    record { first = c; tail = []; is = e; begins = grind (arith, nat_tests); goes = tt })
    (λ more. let not_one : ltb c 128 ≡ false = grind (arith, nat_tests) in ⊎_elim
    (λ two. let e : encode_utf8 c ≡ (192 + c / 64) ∷ (128 + c % 64) ∷ [] = cond-false _ _ _ not_one ∙ cond-true _ _ _ (by (ltb c 2048 ≡ true) (grind (arith, nat_tests))) in
    record { first = 192 + c / 64; tail = (128 + c % 64) ∷ []; is = e; begins = grind (arith, nat_tests); goes = (grind (arith, nat_tests), tt) })
    (λ wide. let not_two : ltb c 2048 ≡ false = grind (arith, nat_tests) in ⊎_elim
    (λ three. let e : encode_utf8 c ≡ (224 + c / 4096) ∷ (128 + (c / 64) % 64) ∷ (128 + c % 64) ∷ [] = cond-false _ _ _ not_one ∙ cond-false _ _ _ not_two ∙ cond-true _ _ _ (by (ltb c 65536 ≡ true) (grind (arith, nat_tests))) in
    record { first = 224 + c / 4096; tail = (128 + (c / 64) % 64) ∷ (128 + c % 64) ∷ []; is = e; begins = grind (arith, nat_tests); goes = (grind (arith, nat_tests), (grind (arith, nat_tests), tt)) })
    (λ four. let not_three : ltb c 65536 ≡ false = grind (arith, nat_tests) in
    let top : c < 1114112 = ⊎_elim (λ low. omega arith) (λ high. high.1) range in
    let e : encode_utf8 c ≡ (240 + c / 262144) ∷ (128 + (c / 4096) % 64) ∷ (128 + (c / 64) % 64) ∷ (128 + c % 64) ∷ [] = cond-false _ _ _ not_one ∙ cond-false _ _ _ not_two ∙ cond-false _ _ _ not_three in
    record { first = 240 + c / 262144; tail = (128 + (c / 4096) % 64) ∷ (128 + (c / 64) % 64) ∷ (128 + c % 64) ∷ []; is = e; begins = grind (arith, nat_tests); goes = (grind (arith, nat_tests), (grind (arith, nat_tests), (grind (arith, nat_tests), tt))) })
    (cases_lt c 65536))
    (cases_lt c 2048))
    (cases_lt c 128)

starts_all : (cs : List ℕ) → scalars cs ≡ true → point_starts (encode_utf8_all cs) ≡ true
starts_all [] s = refl
starts_all (c ∷ cs) s = let p = shape c (and_parts (scalar c) (scalars cs) s).0 in ap (λ l. point_starts (l ++ encode_utf8_all cs)) p.is ∙ p.begins

one_code : (c : ℕ) (rest : List ℕ) → scalar c ≡ true → (first : ℕ) (tail : List ℕ) → encode_utf8 c ≡ first ∷ tail → point_code (first ∷ (tail ++ rest)) ≡ c
unfolding point_code
one_code c rest s first tail is =
    ap (λ l. or_replacement (decoded (l ++ rest)).char) (sym is) ∙ ap (λ d. or_replacement d.char) (decoded-encode c rest s)

codes_all : (cs : List ℕ) → scalars cs ≡ true → codes points (encode_utf8_all cs) ≡ cs
codes_all [] s = refl
codes_all (c ∷ cs) s =
    let parts = and_parts (scalar c) (scalars cs) s in
    let p = shape c parts.0 in
    let rest = encode_utf8_all cs in
    let code : point_code (p.first ∷ (p.tail ++ rest)) ≡ c = one_code c rest parts.0 p.first p.tail p.is in
    ap (λ l. codes points (l ++ rest)) p.is
    ∙ ap (λ (l : List Symbol). map (λ (x : Symbol). x.code) l) (first_point p.first p.tail rest p.goes (starts_all cs parts.1))
    ∙ ap (λ k. k ∷ codes points rest) code ∙ ap (λ l. c ∷ l) (codes_all cs parts.1)

-- the symbols of a text in UTF-8 are its code points
pub codes_are_chars : (s : List ℕ) → IsUtf8 s → codes points s ≡ chars s
codes_are_chars s u = ap (codes points) (sym u.1.1) ∙ codes_all u.0 u.1.0 ∙ chars_from_encodes u.0 s u u.1.1

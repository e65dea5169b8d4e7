-- A table of bits, and the parts of a set.
use Rattle.std.proofs.Common.{◌≡◌, ◌≢◌, ℕ, ◌+◌, ◌*◌, ◌/◌, ◌%◌, ◌^◌, ◌<◌, ◌==◌, ◌||◌, Bool, true, false, List, [], ◌∷◌, ◌++◌, length, slice_index_or, slice_set, bit_or, nat_eq, refl, sym, ◌∙◌, ap, arith, inl, inr, rules, eq-eqb, eqb, w64, get_or-set_same, get_or-set_other}
use Rattle.std.proofs.lemmas.Bool.{cases_eq, ne_eqb}
use Rattle.std.proofs.lemmas.Nat.Bits.{bit_at_set_same, bit_at_set_other}
use Rattle.std.specs.Int.{bit_at}
use Rattle.std.proofs.Math.Bool.{or-false}
use Rattle.regex_class.specs.Ranges.{in_range, in_ranges}
use Rattle.regex_class.proofs.RangesLemmas.{in_ranges-push}
use Rattle.lua_pattern.specs.declared.item.Part.{Part}
use Rattle.lua_pattern.specs.declared.item.Part.TheVariants as part
use Rattle.lua_pattern.specs.declared.item.Class.{Class}
use Rattle.lua_pattern.specs.Letters.{Letters}
use Rattle.lua_pattern.specs.Texts.{between}
use Rattle.lua_pattern.specs.Sets.{turned, in_any, in_part}
use Rattle.lua_pattern.specs.ByteTables.{table_has}

-- the word of a table with one more bit
abbrev with_bit : List ℕ → ℕ → ℕ
with_bit words b = bit_or (slice_index_or words (b / 64) 0) (1 * 2 ^ (b % 64) % 2 ^ 64)

abbrev inserted : List ℕ → ℕ → List ℕ
inserted words b = slice_set words (b / 64) (with_bit words b)

here : (words : List ℕ) (b : ℕ) → b / 64 < length words → table_has (inserted words b) b ≡ true
here words b le =
    eq-eqb _ 1 (ap (λ w. bit_at w (b % 64)) (get_or-set_same words (b / 64) (with_bit words b) 0 le) ∙ bit_at_set_same w64 (slice_index_or words (b / 64) 0) (b % 64) (omega arith))

same_word : (words : List ℕ) (b c : ℕ) → b / 64 < length words → c ≢ b → c / 64 ≡ b / 64 → table_has (inserted words b) c ≡ table_has words c
same_word words b c le ne e =
    let other : c % 64 ≢ b % 64 = λ h. ne (omega (arith, e, h)) in
    ap (λ n. nat_eq n 1)
    (ap (λ k. bit_at (slice_index_or (inserted words b) k 0) (c % 64)) e
    ∙ ap (λ w. bit_at w (c % 64)) (get_or-set_same words (b / 64) (with_bit words b) 0 le)
    ∙ bit_at_set_other w64 (slice_index_or words (b / 64) 0) (b % 64) (omega arith) (c % 64) other
    ∙ ap (λ k. bit_at (slice_index_or words k 0) (c % 64)) (sym e))

other_word : (words : List ℕ) (b c : ℕ) → c / 64 ≢ b / 64 → table_has (inserted words b) c ≡ table_has words c
other_word words b c ne = ap (λ w. nat_eq (bit_at w (c % 64)) 1) (get_or-set_other words (b / 64) (c / 64) (with_bit words b) 0 ne)

pub has_more : (words : List ℕ) (b c : ℕ) → b / 64 < length words → table_has (inserted words b) c ≡ ((c == b) || table_has words c)
has_more words b c le =
    elim (cases_eq c b) [
      | inl e ↦ ap (table_has (inserted words b)) e ∙ here words b le ∙ ap (λ v. v || table_has words c) (sym (eq-eqb c b e))
      | inr ne ↦ (elim (cases_eq (c / 64) (b / 64)) [ inl e ↦ same_word words b c le ne e | inr far ↦ other_word words b c far ]) ∙ ap (λ v. v || table_has words c) (sym (ne_eqb c b ne))
    ]

-- a range more
pub put_range : (rs : List (ℕ × ℕ)) (low high c : ℕ) → in_ranges (rs ++ (low, high) ∷ []) c ≡ (in_ranges rs c || between low high c)
unfolding in_range
put_range rs low high c = in_ranges-push rs (low, high) c

pub put_part : (a : Letters) (ps : List Part) (p : Part) (c : ℕ) → in_any a (ps ++ p ∷ []) c ≡ (in_any a ps c || in_part a c p)
put_part a [] p c = or-false (in_part a c p)
put_part a (q ∷ qs) p c = go (in_part a c q) (put_part a qs p c)
  where
    go : (v : Bool) → in_any a (qs ++ p ∷ []) c ≡ (in_any a qs c || in_part a c p) → (v || in_any a (qs ++ p ∷ []) c) ≡ (v || in_any a qs c || in_part a c p)
    go true e = refl
    go false e = e

-- what holds already is no more
pub put_again : (x y : Bool) → (y ≡ true → x ≡ true) → x ≡ (x || y)
put_again x true f = f refl ∙ ap (λ v. v || true) (sym (f refl))
put_again x false f = sym (or-false x)

pub none_put : (rs : List (ℕ × ℕ)) (ks ps : List Part) → rs ≡ [] → ks ≡ [] → (a : Letters) (c : ℕ) → (in_ranges rs c || in_any a ks c || in_any a ps c) ≡ in_any a ps c
unfolding in_ranges
none_put rs ks ps e f a c =
    ap (λ l. in_ranges l c || in_any a ks c || in_any a ps c) e ∙ ap (λ l. in_any a l c || in_any a ps c) f

first_moves : (r b k l : Bool) → ((r || b) || k || l) ≡ (r || k || (b || l))
first_moves true b k l = refl
first_moves false true true l = refl
first_moves false true false l = refl
first_moves false false k l = refl

second_moves : (r b k l : Bool) → (r || (k || b) || l) ≡ (r || k || (b || l))
second_moves true b k l = refl
second_moves false b true l = refl
second_moves false b false l = refl

pub range_moves : (rs more : List (ℕ × ℕ)) (ks left rest whole : List Part) (low high : ℕ) → ((c : ℕ) → in_ranges more c ≡ (in_ranges rs c || between low high c))
    → left ≡ part.Range low high ∷ rest → ((a : Letters) (c : ℕ) → (in_ranges rs c || in_any a ks c || in_any a left c) ≡ in_any a whole c)
    → (a : Letters) (c : ℕ) → (in_ranges more c || in_any a ks c || in_any a rest c) ≡ in_any a whole c
range_moves rs more ks left rest whole low high put e is a c =
    ap (λ v. v || in_any a ks c || in_any a rest c) (put c) ∙ first_moves (in_ranges rs c) (between low high c) (in_any a ks c) (in_any a rest c)
    ∙ ap (λ l. in_ranges rs c || in_any a ks c || in_any a l c) (sym e) ∙ is a c

pub kind_moves : (rs : List (ℕ × ℕ)) (ks more left rest whole : List Part) (class : Class) (negated : Bool) → ((a : Letters) (c : ℕ) → in_any a more c ≡ (in_any a ks c || turned negated (a.has class c)))
    → left ≡ part.Kind class negated ∷ rest → ((a : Letters) (c : ℕ) → (in_ranges rs c || in_any a ks c || in_any a left c) ≡ in_any a whole c)
    → (a : Letters) (c : ℕ) → (in_ranges rs c || in_any a more c || in_any a rest c) ≡ in_any a whole c
kind_moves rs ks more left rest whole class negated put e is a c =
    ap (λ v. in_ranges rs c || v || in_any a rest c) (put a c) ∙ second_moves (in_ranges rs c) (turned negated (a.has class c)) (in_any a ks c) (in_any a rest c)
    ∙ ap (λ l. in_ranges rs c || in_any a ks c || in_any a l c) (sym e) ∙ is a c

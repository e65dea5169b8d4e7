-- DECODE (Scribunto manual, mw.text.decode): references of code points, by five names or by number. Bytes by their codes:
-- 38 is &, 59 is ;.
use Rattle.std.specs.Prelude.{ℕ, zero, suc, ◌+◌, ◌*◌, Bool, ◌==◌, ◌&&◌, nat_lt, if◌then◌else◌, List, [], ◌∷◌, ◌++◌, length, drop, codes, Option, Some, None}
use Rattle.std.specs.Char.{encode_utf8, digit_value}
use Rattle.std.specs.List.{starts_with}
use lib.Utf8.{scalar}

abbrev pub begins : List ℕ → List ℕ → Bool
begins text word = starts_with ◌==◌ text word

-- Behind `&`: the code point, and how many bytes the reference takes, its `;` included.
abbrev pub named : List ℕ → Option (ℕ × ℕ)
named text =
    if begins text (codes "lt;") then Some (60, 3) else if begins text (codes "gt;") then Some (62, 3)
    else if begins text (codes "amp;") then Some (38, 4) else if begins text (codes "quot;") then Some (34, 5)
    else if begins text (codes "nbsp;") then Some (160, 5) else None

-- the digits at the head of a text, as many as there are
abbrev pub digits_of : ℕ → List ℕ → List ℕ
digits_of radix [] = []
digits_of radix (b ∷ bs) = if nat_lt (digit_value b) radix then b ∷ digits_of radix bs else []

-- their number, behind digits that have one already
abbrev pub number_from : ℕ → ℕ → List ℕ → ℕ
number_from radix n [] = n
number_from radix n (d ∷ ds) = number_from radix (n * radix + digit_value d) ds

-- a number of so many digits, if `;` stands behind them and it is a code point and no surrogate
abbrev pub closed : ℕ → ℕ → List ℕ → Option (ℕ × ℕ)
closed n count behind = if nat_lt 0 count && begins behind (codes ";") && scalar n then Some (n, suc count) else None

abbrev pub numeral : ℕ → List ℕ → Option (ℕ × ℕ)
numeral radix text = let ds = digits_of radix text in closed (number_from radix 0 ds) (length ds) (drop (length ds) text)

abbrev pub behind : ℕ → Option (ℕ × ℕ) → Option (ℕ × ℕ)
behind n None = None
behind n (Some p) = Some (p.0, n + p.1)

abbrev pub reference : List ℕ → Option (ℕ × ℕ)
reference text =
    if begins text (codes "#x") then behind 2 (numeral 16 (drop 2 text))
    else if begins text (codes "#") then behind 1 (numeral 10 (drop 1 text)) else named text

-- what a byte with the text behind it gives, and how many bytes behind it that takes
abbrev pub referred : Option (ℕ × ℕ) → List ℕ × ℕ
referred None = (38 ∷ [], 0)
referred (Some p) = (encode_utf8 p.0, p.1)

abbrev pub head : ℕ → List ℕ → List ℕ × ℕ
head b text = if b == 38 then referred (reference text) else (b ∷ [], 0)

-- a text of which so many bytes have been taken; what a reference gives is not read again
abbrev pub decoded_behind : ℕ → List ℕ → List ℕ
decoded_behind n [] = []
decoded_behind (suc n) (b ∷ bs) = decoded_behind n bs
decoded_behind zero (b ∷ bs) = let h = head b bs in h.0 ++ decoded_behind h.1 bs

abbrev pub decoded : List ℕ → List ℕ
decoded text = decoded_behind 0 text

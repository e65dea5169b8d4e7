-- The escapes of tables of test cases, which begin with a backslash: `\n`, `\r` and `\t`; `\xHH` for the byte of two small
-- hexadecimal digits; `\(N:TEXT)` for N copies of a text without escapes; and any other byte for itself.
-- Texts are lists of bytes: 40 is `(`, 41 `)`, 58 `:`, 92 the backslash, 120 `x`.
use Rattle.std.specs.Prelude.{ℕ, zero, suc, ◌+◌, ◌*◌, ◌-◌, ◌&&◌, ◌==◌, nat_le, if◌then◌else◌, List, [], ◌∷◌, ◌++◌, length, min}

-- the value of a hexadecimal digit, and 0 for any other byte
abbrev pub digit : ℕ → ℕ
digit c = if nat_le 48 c && nat_le c 57 then c - 48 else if nat_le 97 c && nat_le c 102 then c - 87 else 0

-- the byte of two digits, and 0 where one is missing
abbrev pub hex_byte : List ℕ → ℕ
hex_byte (high ∷ low ∷ rest) = digit high * 16 + digit low
hex_byte _ = 0

-- what stands before the first byte b, or all where there is none
abbrev pub before : ℕ → List ℕ → List ℕ
before b [] = []
before b (c ∷ cs) = if c == b then [] else c ∷ before b cs

-- what stands behind the first byte b, or nothing where there is none
abbrev pub behind : ℕ → List ℕ → List ℕ
behind b [] = []
behind b (c ∷ cs) = if c == b then cs else behind b cs

-- the number of decimal digits that follow those of n; one above 2^64 - 1 counts as that
abbrev pub number_after : ℕ → List ℕ → ℕ
number_after n [] = n
number_after n (c ∷ cs) = number_after (min 18446744073709551615 (n * 10 + digit c)) cs

abbrev pub copies : ℕ → List ℕ → List ℕ
copies zero text = []
copies (suc n) text = text ++ copies n text

-- N copies of TEXT, for N:TEXT
abbrev pub repeated : List ℕ → List ℕ
repeated text = copies (number_after 0 (before 58 text)) (behind 58 text)

-- what a letter behind a backslash stands for
abbrev pub letter : ℕ → ℕ
letter c = if c == 110 then 10 else if c == 114 then 13 else if c == 116 then 9 else c

-- what an escape stands for, from the byte behind its backslash on
abbrev pub meaning : List ℕ → List ℕ
meaning [] = []
meaning (c ∷ cs) = if c == 120 then hex_byte cs ∷ [] else if c == 40 then repeated (before 41 cs) else letter c ∷ []

-- how many bytes behind the backslash belong to the escape
abbrev pub extent : List ℕ → ℕ
extent [] = 0
extent (c ∷ cs) = if c == 120 then 3 else if c == 40 then length (before 41 cs) + 2 else 1

-- the text without its escapes, once so many bytes are passed over
abbrev pub unescaped_after : ℕ → List ℕ → List ℕ
unescaped_after n [] = []
unescaped_after (suc n) (c ∷ cs) = unescaped_after n cs
unescaped_after zero (c ∷ cs) = if c == 92 then meaning cs ++ unescaped_after (extent cs) cs else c ∷ unescaped_after 0 cs

-- the text, each escape replaced by what it stands for
abbrev pub unescaped : List ℕ → List ℕ
unescaped text = unescaped_after 0 text

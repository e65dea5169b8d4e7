-- White space of wikitext: space, tab, line feed, vertical tab, form feed and carriage return. Texts are lists of bytes.
use Rattle.std.specs.Prelude.{ℕ, Bool, ◌||◌, ◌&&◌, ◌==◌, nat_le, if◌then◌else◌, List, [], ◌∷◌, reverse}

abbrev pub is_white : ℕ → Bool
is_white c = (c == 32) || (nat_le 9 c && nat_le c 13)

-- the text without the white space at its start, at its end, and at both
abbrev pub trim_start : List ℕ → List ℕ
trim_start [] = []
trim_start (c ∷ cs) = if is_white c then trim_start cs else c ∷ cs

abbrev pub trim_end : List ℕ → List ℕ
trim_end text = reverse (trim_start (reverse text))

abbrev pub trim : List ℕ → List ℕ
trim text = trim_end (trim_start text)

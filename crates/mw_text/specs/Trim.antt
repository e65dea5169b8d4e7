-- TRIM (Scribunto manual, mw.text.trim), over code points. Each is compared with the set, one try each: from the left up to
-- the first that stays, then from the right down to the last that stays. Where none stays, nothing is left to compare there.
use Rattle.std.specs.Prelude.{ℕ, suc, ◌+◌, Bool, ◌||◌, ◌==◌, if◌then◌else◌, List, [], ◌∷◌, reverse, Option, Result, Ok, Err, chars, encode_utf8_all}
use Rattle.mw_ustring.specs.LuaPatternDeclaredItemSet.{Set}
use Rattle.mw_text.specs.declared.answers.TextAnswer.{TextAnswer}
use Rattle.mw_text.specs.Answers.{IsText}
use Rattle.mw_text.specs.Sets.{member}

-- tab, line feed, form feed, carriage return, space
abbrev pub is_space : ℕ → Bool
is_space c = (c == 9) || (c == 10) || (c == 12) || (c == 13) || (c == 32)

-- what is left behind the members in front
abbrev pub skipped : (ℕ → Bool) → List ℕ → List ℕ
skipped goes [] = []
skipped goes (c ∷ cs) = if goes c then skipped goes cs else c ∷ cs

-- how many are compared to find this
abbrev pub looked : (ℕ → Bool) → List ℕ → ℕ
looked goes [] = 0
looked goes (c ∷ cs) = suc (if goes c then looked goes cs else 0)

abbrev pub trimmed : (ℕ → Bool) → List ℕ → List ℕ
trimmed goes cs = reverse (skipped goes (reverse (skipped goes cs)))

abbrev pub trim_tries : (ℕ → Bool) → List ℕ → ℕ
trim_tries goes cs = looked goes cs + looked goes (reverse (skipped goes cs))

abbrev pub IsTrimmed : ℕ → List ℕ → Result (Option Set) ℕ → TextAnswer → Type 0
IsTrimmed budget s (Err n) answer = ⊥
IsTrimmed budget s (Ok set) answer =
    IsText budget (trim_tries (member is_space set) (chars s)) (encode_utf8_all (trimmed (member is_space set) (chars s))) answer

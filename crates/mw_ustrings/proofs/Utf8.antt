-- Tests of UTF-8, and what is given of bytes that aren't.
use Rattle.std.proofs.Common.{◌≡◌, ap, sym, refl, ℕ, false, List, length, Ok, Err, chars, IsUtf8}
use Rattle.std.specs.Prelude.{Result, MatchResult, is_ok, pos}
use Rattle.std.specs.Str.{is_utf8}
use Rattle.std.proofs.lemmas.Bool.{false_from_ne_true}
use Rattle.std.proofs.lemmas.Str.{is_utf8-from_IsUtf8, IsUtf8-from_is_utf8}
use Rattle.mw_frame_texts.specs.LuaHeapValue.{Nil, Number}
use Rattle.mw_frame_texts.specs.LuaMeaningScope.{Bytes}
use Rattle.mw_frame_texts.specs.LuaMeaningUstring.{length_in}

pub test_agrees : {A B : Type 0} (bs : List ℕ) (P : A → Type 0) (Q : B → Type 0) (r : Result A B)
    → MatchResult r (λ a. P a × IsUtf8 bs) (λ b. ¬ (IsUtf8 bs) × Q b) → is_ok r ≡ is_utf8 bs
test_agrees bs P Q (Ok text) h = sym (is_utf8-from_IsUtf8 bs h.1)
test_agrees bs P Q (Err fault) h = sym (false_from_ne_true _ (λ e. h.0 (IsUtf8-from_is_utf8 bs e)))

pub is_none : (s : Bytes) → (IsUtf8 s → ⊥) → is_utf8 s ≡ false
is_none s h = false_from_ne_true _ (λ e. h (IsUtf8-from_is_utf8 s e))

pub length_some : (s : Bytes) (n : ℕ) → IsUtf8 s × (n ≡ length (chars s)) → length_in s ≡ Number (pos n)
length_some s n k = rw (is_utf8-from_IsUtf8 s k.0) (ap (λ x. Number (pos x)) (sym k.1))

pub length_none : (s : Bytes) → (IsUtf8 s → ⊥) → length_in s ≡ Nil
length_none s k = rw (is_none s k) refl

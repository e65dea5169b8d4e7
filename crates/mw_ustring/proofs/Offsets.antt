-- Where the code point with a number starts, and the texts before and behind it.
use Rattle.std.proofs.Common.{◌≡◌, ℕ, ◌+◌, List, [], ◌∷◌, ◌++◌, map, length, chars, encode_utf8, encode_utf8_all, IsUtf8, refl, sym, ap, subst, ◌∙◌, arith, append_assoc, length-append, take, drop, IsCharBoundary, zero-add, length-drop, take_all, ◌-◌}
use Rattle.std.proofs.lemmas.List.{take-append-drop}
use Rattle.std.proofs.lemmas.Str.{IsUtf8-past_char, chars_past_char, IsCharBoundary-at_seam, IsUtf8-drop, IsUtf8-take, encodes-chars, encodes-append, chars_from_encodes}
use Rattle.std.proofs.Math.Seq.{drop-append_seam, take-append_seam}
use Rattle.std.specs.Iterator.{Yields}
use Rattle.std.specs.Str.Iter.{char_indices_steps, char_indices_rest, char_indices_offset}
use Rattle.mw_ustring.specs.Texts.{offset_of}

-- the code points came off the front of the text, which leaves the rest from the offset on
pub record Passed (text : List ℕ) (from : ℕ) (cs rest : List ℕ) (offset : ℕ) : Type 0 where
  pub bytes : text ≡ encode_utf8_all cs ++ rest
  pub read : chars text ≡ cs ++ chars rest
  pub utf8 : IsUtf8 rest
  pub at : offset ≡ from + length (encode_utf8_all cs)

pub passed : (xs : List (ℕ × ℕ)) (s t : _) → IsUtf8 (char_indices_rest s) → Yields char_indices_steps s xs t →
    Passed (char_indices_rest s) (char_indices_offset s) (map (λ x. x.1) xs) (char_indices_rest t) (char_indices_offset t)
passed [] s t utf8 same = rw (← same) (record { bytes = refl; read = refl; utf8 = utf8; at = omega arith })
passed (x ∷ xs) s t utf8 y =
    let step = y.1 in
    let more = passed xs y.0 t (IsUtf8-past_char _ _ x.1 utf8 step.1) y.2 in
    let cs = map (λ (p : ℕ × ℕ). p.1) xs in record {
      bytes = step.1 ∙ ap (λ l. encode_utf8 x.1 ++ l) more.bytes ∙ sym (append_assoc (encode_utf8 x.1) (encode_utf8_all cs) _);
      read = chars_past_char _ _ x.1 utf8 step.1 ∙ ap (λ l. x.1 ∷ l) more.read;
      utf8 = more.utf8;
      at = omega (arith, more.at, step.2, length-append (encode_utf8 x.1) (encode_utf8_all cs));
    }

pub taken : {text cs rest : List ℕ} {offset : ℕ} (n : ℕ) → Passed text 0 cs rest offset → take n (chars text) ≡ cs →
    (offset ≡ length (encode_utf8_all (take n (chars text)))) × IsCharBoundary text offset
taken {text} {cs} {rest} n h e =
    let at = h.at ∙ zero-add _ in
    (rw e at, rw at (IsCharBoundary-at_seam text (encode_utf8_all cs) rest h.bytes h.utf8))

-- a text in two parts at a code point
parts : (s : List ℕ) (n : ℕ) → IsUtf8 s → s ≡ encode_utf8_all (take n (chars s)) ++ encode_utf8_all (drop n (chars s))
parts s n u = sym (encodes-chars s u) ∙ ap encode_utf8_all (sym (take-append-drop n (chars s))) ∙ encodes-append (take n (chars s)) (drop n (chars s))

drop_is : (s : List ℕ) (n : ℕ) → IsUtf8 s → drop (offset_of s n) s ≡ encode_utf8_all (drop n (chars s))
drop_is s n u =
    let front = encode_utf8_all (take n (chars s)) in
    ap (drop (length front)) (parts s n u) ∙ drop-append_seam front (encode_utf8_all (drop n (chars s)))

take_is : (s : List ℕ) (n : ℕ) → IsUtf8 s → take (offset_of s n) s ≡ encode_utf8_all (take n (chars s))
take_is s n u =
    let front = encode_utf8_all (take n (chars s)) in
    ap (take (length front)) (parts s n u) ∙ take-append_seam front (encode_utf8_all (drop n (chars s)))

-- the text from a place on, as a slice gives it
tail_is : (s : List ℕ) (n : ℕ) → take (length s - n) (drop n s) ≡ drop n s
tail_is s n = let e : length (drop n s) ≡ length s - n = length-drop n s in take_all (length s - n) (drop n s) (omega (arith, e))

pub tail_text : (s : List ℕ) (at : ℕ) → IsUtf8 s → IsCharBoundary s at → IsUtf8 (take (length s - at) (drop at s))
tail_text s at u b = subst (λ (l : List ℕ). IsUtf8 l) (sym (tail_is s at)) (IsUtf8-drop s at u b)

pub rest_points : (s : List ℕ) (n at : ℕ) → IsUtf8 s → IsCharBoundary s at → at ≡ offset_of s n → chars (drop at s) ≡ drop n (chars s)
rest_points s n at u b e =
    sym (chars_from_encodes (drop n (chars s)) (drop at s) (IsUtf8-drop s at u b) (sym (ap (λ k. drop k s) e ∙ drop_is s n u)))

pub front_points : (s : List ℕ) (n at : ℕ) → IsUtf8 s → IsCharBoundary s at → at ≡ offset_of s n → chars (take at s) ≡ take n (chars s)
front_points s n at u b e =
    sym (chars_from_encodes (take n (chars s)) (take at s) (IsUtf8-take s at u b) (sym (ap (λ k. take k s) e ∙ take_is s n u)))

-- a text with given code points
pub spelled : (t cs : List ℕ) → IsUtf8 t → chars t ≡ cs → t ≡ encode_utf8_all cs
spelled t cs u e = sym (encodes-chars t u) ∙ ap encode_utf8_all e

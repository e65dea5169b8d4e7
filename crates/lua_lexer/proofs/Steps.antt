-- Steps over the bytes of a text.
use Rattle.std.proofs.Common.{◌≡◌, ℕ, zero, suc, ◌+◌, ◌-◌, ◌<◌, ◌≤◌, Bool, true, false, List, [], ◌∷◌, ◌++◌, length, drop, min, refl, sym, ap, ◌∙◌, arith, drop-cons, append_assoc, append-nil}
use Rattle.std.proofs.lemmas.Bool.{cond-true, cond-false}
use Rattle.std.specs.Prelude.{Option, Some, None, Result, Ok, Err, IfOk, ◌==◌}
use Rattle.std.specs.List.{prefix_len}
use Rattle.std.specs.declared.vec.Vec.{Vec}
use Rattle.std.specs.declared.alloc.Global.{Global}
use Rattle.lua_syntax.specs.WkBaseDeclaredNoMemory.{NoMemory as WantOfMemory}
use Rattle.lua_lexer.specs.declared.token.Stop.{Stop}
use Rattle.lua_lexer.specs.declared.token.Stop.TheVariants.{Fault, NoMemory}
use Rattle.lua_lexer.specs.declared.strings.StringBody.{StringBody}
use Rattle.lua_lexer.specs.Answers.{IsBody, IsEscape}
use borrow.Author.Tests.{eqb-true, eq-eqb}
use Rattle.std.proofs.lemmas.List.{drop_all, drop_min}
use Rattle.lua_lexer.specs.Lexis.{at, is_break, break_size, breaks_after, breaks, line_feeds_after, with_line_feeds, one_later, before_closing, closes_long, long_text, exponent_size, numeral_size, is_number_byte, is_name_byte, behind_escape, string_body, Body, Closed, Open, Gives, Wrong, escape_of, body_after, behind_byte, with_byte}

-- The rest of a text, with its first byte.
pub front_of : (t : List ℕ) (i j : ℕ) → i < length t → j ≡ i + 1 → drop i t ≡ at t i ∷ drop j t
front_of t i j h e = let same : suc i ≡ j = omega arith in drop-cons t i 256 h ∙ ap (λ k. at t i ∷ drop k t) same

-- ---- line breaks

pub breaks_skip : (t : List ℕ) (i j n m : ℕ) → i < length t → j ≡ i + 1 → n ≡ m + 1 → breaks_after n (drop i t) ≡ breaks_after m (drop j t)
breaks_skip t i j n m h e s =
    let same : n ≡ suc m = omega arith in
    ap (λ k. breaks_after k (drop i t)) same ∙ ap (breaks_after (suc m)) (front_of t i j h e)

breaks_end : (n : ℕ) → breaks_after n [] ≡ 0
breaks_end zero = refl
breaks_end (suc n) = refl

pub breaks_whole : (t : List ℕ) (i n count : ℕ) → length t ≤ i → count + breaks_after n (drop i t) ≡ breaks_after 0 t → count ≡ breaks t
unfolding breaks
breaks_whole t i n count h e =
    let none : breaks_after n (drop i t) ≡ 0 = ap (breaks_after n) (drop_all i t h) ∙ breaks_end n in
    omega (arith, e, none)

-- ---- LF for each line break

pub feeds_skip : (t : List ℕ) (i j n m : ℕ) → i < length t → j ≡ i + 1 → n ≡ m + 1 → line_feeds_after n (drop i t) ≡ line_feeds_after m (drop j t)
feeds_skip t i j n m h e s =
    let same : n ≡ suc m = omega arith in
    ap (λ k. line_feeds_after k (drop i t)) same ∙ ap (line_feeds_after (suc m)) (front_of t i j h e)

-- one byte more of what is made
pub one_more : (made made' left left' whole : List ℕ) (c : ℕ) → made ++ left ≡ whole → left ≡ c ∷ left' → made' ≡ made ++ c ∷ [] → made' ++ left' ≡ whole
one_more made made' left left' whole c inv e m = ap (λ x. x ++ left') m ∙ append_assoc made (c ∷ []) left' ∙ ap (λ x. made ++ x) (sym e) ∙ inv

feeds_end : (n : ℕ) → line_feeds_after n [] ≡ []
feeds_end zero = refl
feeds_end (suc n) = refl

pub feeds_whole : (t : List ℕ) (i n : ℕ) (made : List ℕ) → length t ≤ i → made ++ line_feeds_after n (drop i t) ≡ line_feeds_after 0 t → made ≡ with_line_feeds t
unfolding with_line_feeds
feeds_whole t i n made h e =
    let none : line_feeds_after n (drop i t) ≡ [] = ap (line_feeds_after n) (drop_all i t h) ∙ feeds_end n in
    sym (append-nil made) ∙ ap (λ x. made ++ x) (sym none) ∙ e

-- ---- closing brackets

abbrev pub later : ℕ → Option ℕ → Option ℕ
later i None = None
later i (Some n) = Some (i + n)

pub closing_later : (level : ℕ) (t : List ℕ) (i j : ℕ) → i < length t → j ≡ i + 1 → closes_long level (drop i t) ≡ false → later j (before_closing level (drop j t)) ≡ later i (before_closing level (drop i t))
closing_later level t i j h e c =
    let same : j ≡ suc i = omega arith in
    by_rest (before_closing level (drop j t)) ∙ sym (ap (later i) (ap (before_closing level) (front_of t i j h e) ∙ cond-false _ _ _ (ap (closes_long level) (sym (front_of t i j h e)) ∙ c)))
  where
    by_rest : (o : Option ℕ) → later j o ≡ later i (one_later o)
    by_rest None = refl
    by_rest (Some n) = let sum : j + n ≡ i + suc n = omega (arith, e) in ap Some sum

pub long_text_is : (inside text : List ℕ) (size first : ℕ) (r : Result (Vec ℕ Global) WantOfMemory) → size ≡ break_size inside → first ≡ min size (length inside) → text ≡ drop first inside → IfOk r (λ made. made.items ≡ with_line_feeds text) → IfOk r (λ made. made.items ≡ long_text inside)
unfolding long_text
long_text_is inside text size first (Ok made) es ef et h =
    h ∙ ap with_line_feeds (et ∙ ap (λ n. drop n inside) (ef ∙ ap (λ n. min n (length inside)) es) ∙ drop_min (break_size inside) inside)
long_text_is inside text size first (Err e) es ef et h = tt

pub numeral_size_is : (text behind last : List ℕ) (digits mark names : ℕ) → digits ≡ prefix_len is_number_byte text → behind ≡ drop digits text → mark ≡ exponent_size behind → last ≡ drop mark behind → names ≡ prefix_len is_name_byte last → digits + mark + names ≡ numeral_size text
unfolding numeral_size
numeral_size_is text behind last digits mark names ed eb em el en =
    let behind_is : behind ≡ drop (prefix_len is_number_byte text) text = eb ∙ ap (λ n. drop n text) ed in
    let mark_is : mark ≡ exponent_size (drop (prefix_len is_number_byte text) text) = em ∙ ap exponent_size behind_is in
    let last_is : last ≡ drop (exponent_size (drop (prefix_len is_number_byte text) text)) (drop (prefix_len is_number_byte text) text) = el ∙ ap (λ n. drop n behind) mark_is ∙ ap (λ b. drop (exponent_size (drop (prefix_len is_number_byte text) text)) b) behind_is in
    ap (λ n. n + mark + names) ed ∙ ap (λ n. prefix_len is_number_byte text + n + names) mark_is ∙ ap (λ n. prefix_len is_number_byte text + exponent_size (drop (prefix_len is_number_byte text) text) + n) (en ∙ ap (prefix_len is_name_byte) last_is)

-- ---- strings

-- A string of which these bytes were read already, from that many bytes of the text.
abbrev pub joined : List ℕ → ℕ → Body → Body
joined made n (Closed bytes size) = Closed (made ++ bytes) (n + size)
joined made n (Open fault) = Open fault

pub body_skip : (q : ℕ) (t : List ℕ) (made : List ℕ) (i j n m : ℕ) → i < length t → j ≡ i + 1 → n ≡ m + 1 → joined made j (body_after q m (drop j t)) ≡ joined made i (body_after q n (drop i t))
body_skip q t made i j n m h e s =
    let same : n ≡ suc m = omega arith in
    by_rest (body_after q m (drop j t)) ∙ sym (ap (joined made i) (ap (λ k. body_after q k (drop i t)) same ∙ ap (body_after q (suc m)) (front_of t i j h e)))
  where
    by_rest : (b : Body) → joined made j b ≡ joined made i (behind_byte b)
    by_rest (Closed bytes size) = let sum : j + size ≡ i + suc size = omega (arith, e) in ap (Closed (made ++ bytes)) sum
    by_rest (Open fault) = refl

with_one : (made : List ℕ) (b i j : ℕ) (body : Body) → j ≡ i + 1 → joined (made ++ b ∷ []) j body ≡ joined made i (with_byte b body)
with_one made b i j (Closed bytes size) e =
    let sum : j + size ≡ i + suc size = omega (arith, e) in
    ap (λ k. Closed ((made ++ b ∷ []) ++ bytes) k) sum ∙ ap (λ x. Closed x (i + suc size)) (append_assoc made (b ∷ []) bytes)
with_one made b i j (Open fault) e = refl

-- what stands at the front of a string
body_front : (q : ℕ) (t : List ℕ) (i j : ℕ) → i < length t → j ≡ i + 1 → body_after q 0 (drop i t) ≡ body_after q 0 (at t i ∷ drop j t)
body_front q t i j h e = ap (body_after q 0) (front_of t i j h e)

quote_test : (c q : ℕ) → (c ≡ q → ⊥) → (c == q) ≡ false
quote_test c q h = by_test (c == q) refl
  where
    by_test : (b : Bool) → (c == q) ≡ b → (c == q) ≡ false
    by_test true e = absurd (h (eqb-true _ _ e))
    by_test false e = e

pub body_close : (q c : ℕ) (t : List ℕ) (made : List ℕ) (i n : ℕ) (whole : Body) → i < length t → n ≡ 0 → c ≡ at t i → c ≡ q → joined made i (body_after q n (drop i t)) ≡ whole → whole ≡ Closed made (i + 1)
body_close q c t made i n whole h z ec eq inv =
    let test : (at t i == q) ≡ true = eq-eqb (at t i) q (sym ec ∙ eq) in
    let here : body_after q n (drop i t) ≡ Closed [] 1 = ap (λ k. body_after q k (drop i t)) z ∙ body_front q t i (i + 1) h refl ∙ cond-true _ _ _ test in
    sym inv ∙ ap (joined made i) here ∙ ap (λ x. Closed x (i + 1)) (append-nil made)

pub body_break : (q c : ℕ) (t : List ℕ) (made : List ℕ) (i n : ℕ) (whole : Body) → i < length t → n ≡ 0 → c ≡ at t i → (c ≡ q → ⊥) → is_break c ≡ true → joined made i (body_after q n (drop i t)) ≡ whole → whole ≡ Open 1
body_break q c t made i n whole h z ec ne b inv =
    let test : (at t i == q) ≡ false = quote_test (at t i) q (λ e. ne (ec ∙ e)) in
    let here : body_after q n (drop i t) ≡ Open 1 = ap (λ k. body_after q k (drop i t)) z ∙ body_front q t i (i + 1) h refl ∙ cond-false _ _ _ test ∙ cond-true _ _ _ (ap is_break (sym ec) ∙ b) in
    sym inv ∙ ap (joined made i) here

pub body_plain : (q c : ℕ) (t : List ℕ) (made made' : List ℕ) (i n : ℕ) (whole : Body) → i < length t → n ≡ 0 → c ≡ at t i → (c ≡ q → ⊥) → is_break c ≡ false → (c ≡ 92 → ⊥) → made' ≡ made ++ c ∷ [] → joined made i (body_after q n (drop i t)) ≡ whole → joined made' (i + 1) (body_after q n (drop (i + 1) t)) ≡ whole
body_plain q c t made made' i n whole h z ec ne b nb em inv =
    let test : (at t i == q) ≡ false = quote_test (at t i) q (λ e. ne (ec ∙ e)) in
    let slash : (at t i == 92) ≡ false = quote_test (at t i) 92 (λ e. nb (ec ∙ e)) in
    let here : body_after q n (drop i t) ≡ with_byte (at t i) (body_after q 0 (drop (i + 1) t)) =
    ap (λ k. body_after q k (drop i t)) z ∙ body_front q t i (i + 1) h refl ∙ cond-false _ _ _ test ∙ cond-false _ _ _ (ap is_break (sym ec) ∙ b) ∙ cond-false _ _ _ slash in
    ap (λ x. joined x (i + 1) (body_after q n (drop (i + 1) t))) (em ∙ ap (λ x. made ++ x ∷ []) ec) ∙ ap (λ k. joined (made ++ at t i ∷ []) (i + 1) (body_after q k (drop (i + 1) t))) z
    ∙ with_one made (at t i) i (i + 1) (body_after q 0 (drop (i + 1) t)) refl ∙ ap (joined made i) (sym here) ∙ inv

escaped : (q : ℕ) (t : List ℕ) (i : ℕ) → i < length t → (at t i ≡ q → ⊥) → is_break (at t i) ≡ false → at t i ≡ 92 → body_after q 0 (drop i t) ≡ behind_escape (escape_of (drop (i + 1) t)) (λ n. body_after q n (drop (i + 1) t))
escaped q t i h ne b e =
    body_front q t i (i + 1) h refl ∙ cond-false _ _ _ (quote_test (at t i) q ne) ∙ cond-false _ _ _ b ∙ cond-true _ _ _ (eq-eqb (at t i) 92 e)

pub body_escape : (q c : ℕ) (t : List ℕ) (made made' : List ℕ) (i n b size : ℕ) (whole : Body) → i < length t → n ≡ 0 → c ≡ at t i → (c ≡ q → ⊥) → is_break c ≡ false → c ≡ 92 → escape_of (drop (i + 1) t) ≡ Gives b size → made' ≡ made ++ b ∷ [] → joined made i (body_after q n (drop i t)) ≡ whole → joined made' (i + 1) (body_after q (size - 1) (drop (i + 1) t)) ≡ whole
body_escape q c t made made' i n b size whole h z ec ne nb e92 es em inv =
    let here : body_after q n (drop i t) ≡ with_byte b (body_after q (size - 1) (drop (i + 1) t)) =
    ap (λ k. body_after q k (drop i t)) z ∙ escaped q t i h (λ e. ne (ec ∙ e)) (ap is_break (sym ec) ∙ nb) (sym ec ∙ e92) ∙ ap (λ x. behind_escape x (λ k. body_after q k (drop (i + 1) t))) es in
    ap (λ x. joined x (i + 1) (body_after q (size - 1) (drop (i + 1) t))) em ∙ with_one made b i (i + 1) (body_after q (size - 1) (drop (i + 1) t)) refl ∙ ap (joined made i) (sym here) ∙ inv

pub body_wrong : (q c : ℕ) (t : List ℕ) (made : List ℕ) (i n fault : ℕ) (whole : Body) → i < length t → n ≡ 0 → c ≡ at t i → (c ≡ q → ⊥) → is_break c ≡ false → c ≡ 92 → escape_of (drop (i + 1) t) ≡ Wrong fault → joined made i (body_after q n (drop i t)) ≡ whole → whole ≡ Open fault
body_wrong q c t made i n fault whole h z ec ne nb e92 es inv =
    let here : body_after q n (drop i t) ≡ Open fault =
    ap (λ k. body_after q k (drop i t)) z ∙ escaped q t i h (λ e. ne (ec ∙ e)) (ap is_break (sym ec) ∙ nb) (sym ec ∙ e92) ∙ ap (λ x. behind_escape x (λ k. body_after q k (drop (i + 1) t))) es in
    sym inv ∙ ap (joined made i) here

body_of_end : (q n : ℕ) → body_after q n [] ≡ Open 1
body_of_end q zero = refl
body_of_end q (suc n) = refl

pub body_end : (q : ℕ) (t made : List ℕ) (i n : ℕ) (whole : Body) → length t ≤ i → joined made i (body_after q n (drop i t)) ≡ whole → whole ≡ Open 1
body_end q t made i n whole h inv = sym inv ∙ ap (joined made i) (ap (body_after q n) (drop_all i t h) ∙ body_of_end q n)

pub body_is : (q : ℕ) (t : List ℕ) (b : Body) → body_after q 0 t ≡ b → string_body q t ≡ b
unfolding string_body
body_is q t b e = e

pub body_stop : (q c : ℕ) (t behind : List ℕ) (made : List ℕ) (i n : ℕ) (stop : Stop) (whole : Body) → i < length t → n ≡ 0 → c ≡ at t i → (c ≡ q → ⊥) → is_break c ≡ false → c ≡ 92 → behind ≡ drop (i + 1) t → IsEscape (Err stop) (escape_of behind) → joined made i (body_after q n (drop i t)) ≡ whole → IsBody (Err stop) whole
body_stop q c t behind made i n (Fault k) whole h z ec ne nb e92 eb es inv = body_wrong q c t made i n k whole h z ec ne nb e92 (ap escape_of (sym eb) ∙ es) inv
body_stop q c t behind made i n NoMemory whole h z ec ne nb e92 eb es inv = absurd es

pub body_read : (q c : ℕ) (t behind : List ℕ) (made made' : List ℕ) (i n b size : ℕ) (whole : Body) → i < length t → n ≡ 0 → c ≡ at t i → (c ≡ q → ⊥) → is_break c ≡ false → c ≡ 92 → behind ≡ drop (i + 1) t → escape_of behind ≡ Gives b size → made' ≡ made ++ b ∷ [] → joined made i (body_after q n (drop i t)) ≡ whole → joined made' (i + 1) (body_after q (size - 1) (drop (i + 1) t)) ≡ whole
body_read q c t behind made made' i n b size whole h z ec ne nb e92 eb es em inv =
    body_escape q c t made made' i n b size whole h z ec ne nb e92 (ap escape_of (sym eb) ∙ es) em inv

pub body_result : (r : Result StringBody Stop) (q : ℕ) (t : List ℕ) → IsBody r (body_after q 0 t) → IsBody r (string_body q t)
unfolding string_body
body_result r q t h = h

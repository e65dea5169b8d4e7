-- A replacement text, head by head.
use Rattle.std.proofs.Common.{◌≡◌, ℕ, ◌+◌, List, [], ◌∷◌, ◌++◌, length, Result, Ok, Err, refl, sym, ap, ◌∙◌, subst, arith, append_assoc, append-nil, length-append}
use Rattle.lua_string.specs.Texts.{saturated}
use Rattle.lua_string.specs.declared.replacing.CaptureText.{CaptureText}
use Rattle.lua_string.specs.Replacements.{replaced_of, put, HasLength}

none_left : (rest : List ℕ) → length rest ≡ 0 → rest ≡ []
none_left [] e = refl
none_left (b ∷ bs) e = absurd (omega (arith, e))

put_put : (a b : List ℕ) (r : Result (List ℕ) ℕ) → put (Ok a) (put (Ok b) r) ≡ put (Ok (a ++ b)) r
put_put a b (Ok c) = ap Ok (sym (append_assoc a b c))
put_put a b (Err e) = refl

pub put_none : (r : Result (List ℕ) ℕ) → put (Ok []) r ≡ r
put_none (Ok c) = refl
put_none (Err e) = refl

pub heads_done : (whole : List ℕ) (captures : List CaptureText) (text rest : List ℕ) (all : Result (List ℕ) ℕ) → length rest ≡ 0
    → put (Ok text) (replaced_of whole captures rest) ≡ all → all ≡ Ok text
heads_done whole captures text rest all e h =
    sym h ∙ ap (λ l. put (Ok text) (replaced_of whole captures l)) (none_left rest e) ∙ ap Ok (append-nil text)

pub heads_fault : (text : List ℕ) (r all : Result (List ℕ) ℕ) → r ≡ Err 7 → put (Ok text) r ≡ all → all ≡ Err 7
heads_fault text r all e h = sym h ∙ ap (put (Ok text)) e

pub heads_more : (text more new : List ℕ) (r later all : Result (List ℕ) ℕ) → new ≡ text ++ more → r ≡ put (Ok more) later → put (Ok text) r ≡ all → put (Ok new) later ≡ all
heads_more text more new r later all n e h =
    ap (λ t. put (Ok t) later) n ∙ sym (put_put text more later) ∙ ap (put (Ok text)) (sym e) ∙ h

-- some bytes of a length, with what the rest gives
abbrev pub Counts : ℕ → Result (List ℕ) ℕ → Result (List ℕ) ℕ → Type 0
Counts len r all = (text : List ℕ) × (len ≡ saturated (length text)) × (put (Ok text) r ≡ all)

pub length_done : (whole : List ℕ) (captures : List CaptureText) (len : ℕ) (rest : List ℕ) (all : Result (List ℕ) ℕ) → length rest ≡ 0
    → Counts len (replaced_of whole captures rest) all → HasLength all len
length_done whole captures len rest all e h =
    let P : Result (List ℕ) ℕ → Type 0 = λ r. HasLength r len in
    subst P (sym (heads_done whole captures h.0 rest all e h.2)) h.1

pub length_fault : (len : ℕ) (r all : Result (List ℕ) ℕ) → r ≡ Err 7 → Counts len r all → all ≡ Err 7
length_fault len r all e h = heads_fault h.0 r all e h.2

pub length_more : (len new : ℕ) (more : List ℕ) (r later all : Result (List ℕ) ℕ) → new ≡ saturated (len + length more) → r ≡ put (Ok more) later → Counts len r all → Counts new later all
length_more len new more r later all n e h =
    let both : length (h.0 ++ more) ≡ length h.0 + length more = length-append h.0 more in
    let l : len ≡ saturated (length h.0) = h.1 in
    (h.0 ++ more, omega (arith, both, l, n), heads_more h.0 more (h.0 ++ more) r later all refl e h.2)

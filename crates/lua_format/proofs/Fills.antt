-- A content filled up to a width, and lengths that saturate.
use Rattle.std.proofs.Common.{◌≡◌, ℕ, zero, suc, ◌+◌, ◌-◌, ◌^◌, ◌<◌, ◌&&◌, Bool, true, false, if◌then◌else◌, List, [], ◌∷◌, ◌++◌, length, replicate, refl, sym, ap, ◌∙◌, arith, append_assoc, append-nil, length-append}
use Rattle.std.proofs.lemmas.List.{replicate-append-replicate}
use Rattle.lua_format.specs.declared.directive.Flags.{Flags}
use Rattle.lua_format.specs.Layouts.{spaces, noughts, filled, quoted, quoted_bytes}
use Rattle.lua_format.specs.Lengths.{saturated}

pub room_is : (width len n : ℕ) → width < 2 ^ 64 → len ≡ saturated n → width - len ≡ width - n
room_is width len n small e = omega (arith, small, e)

pub filled_left : (f : Flags) (width room : ℕ) (zeros : Bool) (p b : List ℕ) → f.minus ≡ true → room ≡ width - length (p ++ b)
    → spaces 0 ++ (p ++ b) ++ spaces room ≡ filled f width zeros p b
unfolding filled
filled_left f width room zeros p b h e =
    let r : ℕ = width - length (p ++ b) in
    ap (λ n. p ++ b ++ spaces n) e
    ∙ ap (λ v. if v then p ++ b ++ spaces r else (if f.zero && zeros then p ++ (noughts r ++ b) else spaces r ++ (p ++ b))) (sym h)

pub filled_right : (f : Flags) (width room : ℕ) (zeros : Bool) (p b : List ℕ) → f.minus ≡ false → (f.zero && zeros) ≡ false → room ≡ width - length (p ++ b)
    → spaces room ++ (p ++ b) ++ spaces 0 ≡ filled f width zeros p b
unfolding filled
filled_right f width room zeros p b h z e =
    let r : ℕ = width - length (p ++ b) in
    append-nil (spaces room ++ (p ++ b)) ∙ ap (λ n. spaces n ++ (p ++ b)) e
    ∙ ap (λ v. if v then p ++ (noughts r ++ b) else spaces r ++ (p ++ b)) (sym z)
    ∙ ap (λ v. if v then p ++ b ++ spaces r else (if f.zero && zeros then p ++ (noughts r ++ b) else spaces r ++ (p ++ b))) (sym h)

pub filled_zeros : (f : Flags) (width room count : ℕ) (zeros : Bool) (p source rest : List ℕ) → f.minus ≡ false → (f.zero && zeros) ≡ true
    → room ≡ width - length (p ++ (noughts count ++ source ++ rest))
    → spaces 0 ++ (p ++ (noughts (count + room) ++ source ++ rest)) ++ spaces 0 ≡ filled f width zeros p (noughts count ++ source ++ rest)
unfolding filled
filled_zeros f width room count zeros p source rest h z e =
    let b : List ℕ = noughts count ++ source ++ rest in
    let r : ℕ = width - length (p ++ b) in
    let swap : count + room ≡ room + count = omega arith in
    append-nil (p ++ (noughts (count + room) ++ source ++ rest))
    ∙ ap (λ n. p ++ (noughts n ++ source ++ rest)) swap
    ∙ ap (λ l. p ++ (l ++ source ++ rest)) (sym (replicate-append-replicate room count 48))
    ∙ ap (λ l. p ++ (l ++ rest)) (append_assoc (noughts room) (noughts count) source)
    ∙ ap (λ l. p ++ l) (append_assoc (noughts room) (noughts count ++ source) rest)
    ∙ ap (λ n. p ++ (noughts n ++ b)) e
    ∙ ap (λ v. if v then p ++ (noughts r ++ b) else spaces r ++ (p ++ b)) (sym z)
    ∙ ap (λ v. if v then p ++ b ++ spaces r else (if f.zero && zeros then p ++ (noughts r ++ b) else spaces r ++ (p ++ b))) (sym h)

pub quoted_end : (len : ℕ) (rest bytes : List ℕ) → rest ≡ [] → len < 2 ^ 64 → saturated (len + length (quoted_bytes rest)) ≡ saturated (2 + length (quoted_bytes bytes))
    → len ≡ saturated (length (quoted bytes))
quoted_end len rest bytes e small is =
    let none : length (quoted_bytes rest) ≡ 0 = ap (λ l. length (quoted_bytes l)) e in
    let whole : length (quoted_bytes bytes ++ 34 ∷ []) ≡ length (quoted_bytes bytes) + 1 = length-append (quoted_bytes bytes) (34 ∷ []) in
    let there : saturated len ≡ saturated (2 + length (quoted_bytes bytes)) = ap saturated (let z : len ≡ len + length (quoted_bytes rest) = omega (arith, none) in z) ∙ is in
    let same : saturated len ≡ len = omega (arith, small) in
    sym same ∙ there ∙ ap saturated (let z : 2 + length (quoted_bytes bytes) ≡ length (quoted bytes) = omega (arith, whole) in z)

-- Pieces in a row, and the white space at the ends of a text that is made of two.
use Rattle.std.proofs.Common.{◌≡◌, ◌≢◌, ℕ, ◌+◌, ◌-◌, ◌≤◌, Bool, true, false, if◌then◌else◌, List, [], ◌∷◌, ◌++◌, length, take, drop, get_or, reverse, bytes_eq, refl, sym, ap, ◌∙◌, append_assoc, append-nil, arith}
use Rattle.std.proofs.lemmas.List.{reverse-append, reverse-reverse, take_all}
use Rattle.wk_base.specs.Space.{is_white, trim_start, trim_end}
use Rattle.expand_texts.specs.Ropes.{bytes_of, joined}
use Rattle.expand_texts.specs.declared.rope.Piece.{Piece}

pub joined_append : (xs ys : List Piece) → joined (xs ++ ys) ≡ joined xs ++ joined ys
joined_append [] ys = refl
joined_append (x ∷ xs) ys = ap (λ t. bytes_of x ++ t) (joined_append xs ys) ∙ sym (append_assoc (bytes_of x) (joined xs) (joined ys))

pub joined_push : (xs : List Piece) (x : Piece) → joined (xs ++ x ∷ []) ≡ joined xs ++ bytes_of x
joined_push xs x = joined_append xs (x ∷ []) ∙ ap (λ t. joined xs ++ t) (append-nil (bytes_of x))

-- a front that is all white
front_by : (w : Bool) (c : ℕ) (cs b : List ℕ) → (if w then trim_start cs else c ∷ cs) ≡ [] → (trim_start cs ≡ [] → trim_start (cs ++ b) ≡ trim_start b) → (if w then trim_start (cs ++ b) else c ∷ (cs ++ b)) ≡ trim_start b
front_by true c cs b e h = h e
front_by false c cs b e h = absurd cc

pub white_front : (a b : List ℕ) → trim_start a ≡ [] → trim_start (a ++ b) ≡ trim_start b
white_front [] b e = refl
white_front (c ∷ cs) b e = front_by (is_white c) c cs b e (white_front cs b)

-- and one that is not
solid_by : (w : Bool) (c : ℕ) (cs b : List ℕ) → (if w then trim_start cs else c ∷ cs) ≢ [] → (trim_start cs ≢ [] → trim_start (cs ++ b) ≡ trim_start cs ++ b) → (if w then trim_start (cs ++ b) else c ∷ (cs ++ b)) ≡ (if w then trim_start cs else c ∷ cs) ++ b
solid_by true c cs b e h = h e
solid_by false c cs b e h = refl

pub solid_front : (a b : List ℕ) → trim_start a ≢ [] → trim_start (a ++ b) ≡ trim_start a ++ b
solid_front [] b e = absurd (e refl)
solid_front (c ∷ cs) b e = solid_by (is_white c) c cs b e (solid_front cs b)

-- the same of an end
pub white_back : (a b : List ℕ) → trim_end b ≡ [] → trim_end (a ++ b) ≡ trim_end a
white_back a b e =
    let none : trim_start (reverse b) ≡ [] = sym (reverse-reverse (trim_start (reverse b))) ∙ ap reverse e in
    ap (λ t. reverse (trim_start t)) (reverse-append a b) ∙ ap reverse (white_front (reverse b) (reverse a) none)

pub solid_back : (a b : List ℕ) → trim_end b ≢ [] → trim_end (a ++ b) ≡ a ++ trim_end b
solid_back a b e =
    let some : trim_start (reverse b) ≢ [] = λ n. e (ap reverse n) in
    ap (λ t. reverse (trim_start t)) (reverse-append a b)
    ∙ ap reverse (solid_front (reverse b) (reverse a) some)
    ∙ reverse-append (trim_start (reverse b)) (reverse a)
    ∙ ap (λ t. t ++ reverse (trim_start (reverse b))) (reverse-reverse a)

-- the last of some pieces
pub white_last : (xs ys : List Piece) (x : Piece) → xs ≡ ys ++ x ∷ [] → trim_end (bytes_of x) ≡ [] → trim_end (joined xs) ≡ trim_end (joined ys)
white_last xs ys x e w = ap (λ ps. trim_end (joined ps)) e ∙ ap trim_end (joined_push ys x) ∙ white_back (joined ys) (bytes_of x) w

pub solid_last : (xs ys : List Piece) (x : Piece) → xs ≡ ys ++ x ∷ [] → trim_end (bytes_of x) ≢ [] → trim_end (joined xs) ≡ joined ys ++ trim_end (bytes_of x)
solid_last xs ys x e w = ap (λ ps. trim_end (joined ps)) e ∙ ap trim_end (joined_push ys x) ∙ solid_back (joined ys) (bytes_of x) w

-- a text that begins with a piece
pub same_front : (x a t : List ℕ) → bytes_eq (take (length x) t) x ≡ true → bytes_eq (x ++ a) t ≡ bytes_eq a (drop (length x) t)
same_front [] a t e = refl
same_front (c ∷ x) a [] e = absurd cc
same_front (c ∷ x) a (d ∷ t) e = grind (arith, same_front x a t)

pub other_front : (x a t : List ℕ) → bytes_eq (take (length x) t) x ≡ false → bytes_eq (x ++ a) t ≡ false
other_front [] a t e = absurd cc
other_front (c ∷ x) a [] e = refl
other_front (c ∷ x) a (d ∷ t) e = grind (arith, other_front x a t)

-- the pieces behind the first
pub same_behind : (ps : List Piece) (x : Piece) (t rest : List ℕ) (is : Bool) → 1 ≤ length ps → x ≡ get_or ps 0 x → bytes_eq (take (length (bytes_of x)) t) (bytes_of x) ≡ true → rest ≡ drop (length (bytes_of x)) t
    → bytes_eq (joined ps) t ≡ is → bytes_eq (joined (take (length ps - 1) (drop 1 ps))) rest ≡ is
same_behind [] x t rest is n f s d e = absurd (omega (arith, n))
same_behind (p ∷ ps) x t rest is n f s d e =
    let all : take (length (p ∷ ps) - 1) ps ≡ ps = take_all (length (p ∷ ps) - 1) ps (omega arith) in
    ap (λ qs. bytes_eq (joined qs) rest) all
    ∙ ap (bytes_eq (joined ps)) d
    ∙ sym (same_front (bytes_of x) (joined ps) t s)
    ∙ ap (λ q. bytes_eq (bytes_of q ++ joined ps) t) f
    ∙ e

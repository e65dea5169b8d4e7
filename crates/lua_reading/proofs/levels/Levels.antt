-- Facts on operators and their levels.
use Rattle.std.proofs.Common.{◌≡◌, ◌≢◌, ℕ, suc, ◌<◌, ◌≤◌, ◌⊎◌, inl, inr, true, false, refl, sym, ap, ◌∙◌, arith, le-leb, leb-false, lt_of_lt_of_le}
use Rattle.std.proofs.lemmas.Bool.{lt-leb}
use Rattle.std.specs.Prelude.{nat_le, Option, Some, None}
use Rattle.lua_syntax.specs.declared.BinaryOp.{BinaryOp}
use Rattle.lua_syntax.specs.declared.BinaryOp.TheVariants.{Or as OrOp, And as AndOp, Lt, Gt, Le, Ge, Ne, Eq, Concat, Add, Sub, Mul, Div, Mod, Pow}
use Rattle.lua_syntax.proofs.WkBaseOptions.{some_same, none_some}
use Rattle.lua_grammar.specs.declared.TokenClass.{TokenClass}
use Rattle.lua_grammar.specs.declared.TokenClass.TheVariants.{Eof, Or, And, Less, More, LessEq, MoreEq, NotEq, EqEq, DotDot, Plus, Minus, Star, Slash, Percent, Caret}
use Rattle.lua_grammar.specs.Grammar.{mark_of, level, left_level, right_level}
use Rattle.lua_reading.specs.Parsing.{operator_of_class, binds_from, goes_on}

-- ---- an operator by its mark

operator_of_mark : (op : BinaryOp) → operator_of_class (mark_of op) ≡ Some op
operator_of_mark OrOp = refl
operator_of_mark AndOp = refl
operator_of_mark Lt = refl
operator_of_mark Gt = refl
operator_of_mark Le = refl
operator_of_mark Ge = refl
operator_of_mark Ne = refl
operator_of_mark Eq = refl
operator_of_mark Concat = refl
operator_of_mark Add = refl
operator_of_mark Sub = refl
operator_of_mark Mul = refl
operator_of_mark Div = refl
operator_of_mark Mod = refl
operator_of_mark Pow = refl

pub same_mark : (p q : BinaryOp) → mark_of p ≡ mark_of q → p ≡ q
same_mark p q e = some_same p q (sym (operator_of_mark p) ∙ ap operator_of_class e ∙ operator_of_mark q)

pub mark-not_eof : (op : BinaryOp) → mark_of op ≢ Eof
mark-not_eof op e = none_some op (sym (ap operator_of_class e) ∙ operator_of_mark op)

-- ---- what goes on with an expression

goes_by_level : (l : ℕ) (op : BinaryOp) → goes_on l (mark_of op) ≡ nat_le l (level op)
goes_by_level l op = ap (binds_from l) (operator_of_mark op)

pub goes : (l : ℕ) (op : BinaryOp) → l ≤ level op → goes_on l (mark_of op) ≡ true
goes l op le = goes_by_level l op ∙ le-leb l (level op) le

pub goes-not : (l : ℕ) (op : BinaryOp) → level op < l → goes_on l (mark_of op) ≡ false
goes-not l op lt = goes_by_level l op ∙ lt-leb l (level op) lt

-- What doesn't go on binds less tightly.
pub stops-low : (l : ℕ) (op : BinaryOp) → goes_on l (mark_of op) ≡ false → level op < l
stops-low l op e = leb-false l (level op) (sym (goes_by_level l op) ∙ e)

pub not_op-stops : (l : ℕ) (s : TokenClass) → ((op : BinaryOp) → s ≢ mark_of op) → goes_on l s ≡ false
not_op-stops l Or ne = absurd (ne OrOp refl)
not_op-stops l And ne = absurd (ne AndOp refl)
not_op-stops l Less ne = absurd (ne Lt refl)
not_op-stops l More ne = absurd (ne Gt refl)
not_op-stops l LessEq ne = absurd (ne Le refl)
not_op-stops l MoreEq ne = absurd (ne Ge refl)
not_op-stops l NotEq ne = absurd (ne Ne refl)
not_op-stops l EqEq ne = absurd (ne Eq refl)
not_op-stops l DotDot ne = absurd (ne Concat refl)
not_op-stops l Plus ne = absurd (ne Add refl)
not_op-stops l Minus ne = absurd (ne Sub refl)
not_op-stops l Star ne = absurd (ne Mul refl)
not_op-stops l Slash ne = absurd (ne Div refl)
not_op-stops l Percent ne = absurd (ne Mod refl)
not_op-stops l Caret ne = absurd (ne Pow refl)
not_op-stops l _ ne = refl

-- A looser expression is gone on with by more.
pub goes-mono : (l r : ℕ) (s : TokenClass) → l ≤ r → goes_on l s ≡ false → goes_on r s ≡ false
goes-mono l r s le = by_operator (operator_of_class s)
  where
    by_operator : (o : Option BinaryOp) → binds_from l o ≡ false → binds_from r o ≡ false
    by_operator None e = refl
    by_operator (Some op) e = lt-leb r (level op) (lt_of_lt_of_le (leb-false l (level op) e) le)

-- ---- the levels of the sides

-- Operators of levels 4 and 7 group to the right, all others to the left.
abbrev ToRight : BinaryOp → Type 0
ToRight op = (left_level op ≡ suc (level op)) × (right_level op ≡ level op) × ((level op ≡ 4) ⊎ (level op ≡ 7))

abbrev ToLeft : BinaryOp → Type 0
ToLeft op = (left_level op ≡ level op) × (right_level op ≡ suc (level op)) × ((level op ≤ 3) ⊎ ((5 ≤ level op) × (level op ≤ 6)))

sides : (op : BinaryOp) → ToRight op ⊎ ToLeft op
sides OrOp = inr (refl, refl, inl (omega arith))
sides AndOp = inr (refl, refl, inl (omega arith))
sides Lt = inr (refl, refl, inl (omega arith))
sides Gt = inr (refl, refl, inl (omega arith))
sides Le = inr (refl, refl, inl (omega arith))
sides Ge = inr (refl, refl, inl (omega arith))
sides Ne = inr (refl, refl, inl (omega arith))
sides Eq = inr (refl, refl, inl (omega arith))
sides Concat = inl (refl, refl, inl refl)
sides Add = inr (refl, refl, inr (omega arith, omega arith))
sides Sub = inr (refl, refl, inr (omega arith, omega arith))
sides Mul = inr (refl, refl, inr (omega arith, omega arith))
sides Div = inr (refl, refl, inr (omega arith, omega arith))
sides Mod = inr (refl, refl, inr (omega arith, omega arith))
sides Pow = inl (refl, refl, inr refl)

pub level-low : (op : BinaryOp) → level op ≤ 7
level-low op = go (sides op)
  where
    go : ToRight op ⊎ ToLeft op → level op ≤ 7
    go (inl (l, r, inl e)) = omega (arith, e)
    go (inl (l, r, inr e)) = omega (arith, e)
    go (inr (l, r, inl e)) = omega (arith, e)
    go (inr (l, r, inr e)) = omega (arith, e.1)

pub level-left : (op : BinaryOp) → level op ≤ left_level op
level-left op = go (sides op)
  where
    go : ToRight op ⊎ ToLeft op → level op ≤ left_level op
    go (inl (l, r, e)) = omega (arith, l)
    go (inr (l, r, e)) = omega (arith, l)

pub left-low : (op : BinaryOp) → left_level op ≤ 9
left-low op = go (sides op)
  where
    go : ToRight op ⊎ ToLeft op → left_level op ≤ 9
    go (inl (l, r, e)) = omega (arith, l, level-low op)
    go (inr (l, r, e)) = omega (arith, l, level-low op)

pub right-low : (op : BinaryOp) → right_level op ≤ 7
right-low op = go (sides op)
  where
    go : ToRight op ⊎ ToLeft op → right_level op ≤ 7
    go (inl (l, r, e)) = omega (arith, r, level-low op)
    go (inr (l, r, inl e)) = omega (arith, r, e)
    go (inr (l, r, inr e)) = omega (arith, r, e.1)

pub right-least : (l : ℕ) (op : BinaryOp) → l ≤ level op → l ≤ right_level op
right-least l op le = go (sides op)
  where
    go : ToRight op ⊎ ToLeft op → l ≤ right_level op
    go (inl x) = omega (arith, x.1, le)
    go (inr x) = omega (arith, x.1, le)

-- An operator to the right and one to the left are of different levels.
apart : (op q : BinaryOp) → ToRight op → ToLeft q → level q ≢ level op
apart op q (l, r, inl e) (m, s, inl f) same = absurd (omega (arith, e, f, same))
apart op q (l, r, inl e) (m, s, inr f) same = absurd (omega (arith, e, f.0, same))
apart op q (l, r, inr e) (m, s, inl f) same = absurd (omega (arith, e, f, same))
apart op q (l, r, inr e) (m, s, inr f) same = absurd (omega (arith, e, f.1, same))

below : (a b : ℕ) → a ≤ b → a ≢ b → a < b
below a b le ne = omega (arith, le, ne)

-- An operator whose left side binds no more tightly than another operator doesn't go on with the right side of that one.
pub after-right : (op q : BinaryOp) → left_level q ≤ level op → level q < right_level op
after-right op q le = go (sides op) (sides q)
  where
    go : ToRight op ⊎ ToLeft op → ToRight q ⊎ ToLeft q → level q < right_level op
    go (inl x) (inl y) = omega (arith, x.1, y.0, le)
    go (inl x) (inr y) = let lt : level q < level op = below _ _ (omega (arith, y.0, le)) (apart op q x y) in omega (arith, x.1, lt)
    go (inr x) (inl y) = omega (arith, x.1, y.0, le)
    go (inr x) (inr y) = omega (arith, x.1, y.0, le)

pub right-after : (op q : BinaryOp) → level q < right_level op → left_level q ≤ level op
right-after op q lt = go (sides op) (sides q)
  where
    go : ToRight op ⊎ ToLeft op → ToRight q ⊎ ToLeft q → left_level q ≤ level op
    go (inl x) (inl y) = omega (arith, x.1, y.0, lt)
    go (inl x) (inr y) = omega (arith, x.1, y.0, lt)
    go (inr x) (inl y) = let less : level q < level op = below _ _ (omega (arith, x.1, lt)) (λ e. apart q op y x (sym e)) in omega (arith, y.0, less)
    go (inr x) (inr y) = omega (arith, x.1, y.0, lt)

-- Under a unary operator no operator follows that wants its left side so tight.
pub low-left : (op : BinaryOp) → left_level op ≤ 7 → goes_on 7 (mark_of op) ≡ false
low-left op le = goes-not 7 op (go (sides op))
  where
    go : ToRight op ⊎ ToLeft op → level op < 7
    go (inl x) = omega (arith, x.0, le)
    go (inr (l, r, inl e)) = omega (arith, e)
    go (inr (l, r, inr e)) = omega (arith, e.1)

pub left-seven : (op : BinaryOp) → goes_on 7 (mark_of op) ≡ false → left_level op ≤ 7
left-seven op e = go (sides op)
  where
    lt : level op < 7
    lt = stops-low 7 op e

    go : ToRight op ⊎ ToLeft op → left_level op ≤ 7
    go (inl x) = omega (arith, x.0, lt)
    go (inr x) = omega (arith, x.0, lt)

-- Operands of one token, unary operands, tables and functions.
use Rattle.std.proofs.Common.{◌≡◌, ℕ, suc, [], ◌+◌, ◌<◌, ◌≤◌, true, false, List, length, refl, sym, ap, subst, ◌∙◌, inl, inr, le_refl, arith, true≢false, add-one, Option, Some, None}
use Rattle.std.specs.Prelude.{ℤ, pos}
use Rattle.lua_lexer.specs.declared.token.Token.{Token}
use Rattle.lua_grammar.specs.LuaNumberNumerals.{read_numeral_of}
use Rattle.lua_syntax.specs.declared.UnaryOp.{UnaryOp}
use Rattle.lua_syntax.specs.declared.UnaryOp.TheVariants.{Not as NotOp, Len, Minus as MinusOp}
use Rattle.lua_grammar.specs.declared.TokenClass.TheVariants.{Number, Text, Nil, True, False, Dots, Function, LeftBrace, RightBrace}
use Rattle.lua_grammar.specs.declared.Context.{Context}
use Rattle.lua_grammar.specs.Tokens.{class_at, tok_at, bytes_of}
use Rattle.lua_syntax.specs.Tree.{Exp, Fields, Fun, NilE, TrueE, FalseE, NumberE, TextE, DotsE, FunctionE, NameE, TableE, BinaryE, UnaryE}
use Rattle.lua_grammar.specs.Grammar.{given_tokens, word, Agrees, Spells, SpellsFun, SpellsFields, sign_of}
use Rattle.lua_reading.specs.Parsing.{Stops, Below, ReadsTree, Before, ReadsFault, high, exp_lang, nothing, goes_on, IsOperand, Closes, operand_lang, ReadsExp}
use Rattle.lua_reading.proofs.pieces.Steps.{Kind, Rest, Done, Word, Under, Reads, Left, opens}
use Rattle.lua_reading.proofs.pieces.Kinds.{open_name, operand_opens, fields_kind, body_kind}
use Rattle.lua_reading.proofs.expressions.Operands.{form, operand_form, operand_node}

abbrev pub room_of : (b : ℕ) → Below 1 b → b ≤ 200
room_of b x = omega (arith, x)

abbrev pub fits_of : (b : ℕ) → b ≤ 200 → Below 1 b
fits_of b x = omega (arith, x)

pub unary_form : (op : UnaryOp) → (9 ≤ form (sign_of op)) × (form (sign_of op) ≤ 11)
unary_form NotOp = (omega arith, omega arith)
unary_form Len = (omega arith, omega arith)
unary_form MinusOp = (omega arith, omega arith)

pub nil_starts : (ts : List Token) (w : Context) (i : ℕ) → class_at ts i ≡ Nil → Left Exp ts (operand_lang ts w) nothing i (Done (NilE (tok_at ts i).line)) (i + 1) 1
unfolding Spells
nil_starts ts w i e = record {
  ordered = omega arith;
  down = λ x b n f j lt s st. go x b n f j lt s.0 s.1 s.3;
  up = λ x b n f j fits r. subst (λ (z : Exp). operand_lang ts w z b n f i j) (sym r.0) (tt, 7, omega arith, (i, (refl, (λ u lt. room_of b (fits u)), refl), ((λ lt. e), sym r.1 ∙ add-one i)), tt);
}
  where
    go : (x : Exp) (b n f j : ℕ) → i + 1 < n → IsOperand x → (v : ℕ) → Spells (given_tokens ts n f) (high w b) v x i j → ((x ≡ NilE (tok_at ts i).line) × (i + 1 ≡ j)) × (f ≡ 7 → Below 1 b)
    go (NilE line) b n f j lt o v d =
        ((ap NilE d.1.0, add-one i ∙ ap suc d.1.2 ∙ sym d.2.1), λ u. fits_of b (d.1.1 u (omega (arith, lt))))
    go (BinaryE line op t r) b n f j lt o v d = elim o [ ]
    go (UnaryE line op z) b n f j lt o v d = let q = ap form (sym e) ∙ operand_form ts w n f b v (UnaryE line op z) i j (omega (arith, lt)) o d in absurd (omega (arith, q, (unary_form op).0))
    go z b n f j lt o v d = let q = ap form (sym e) ∙ operand_form ts w n f b v z i j (omega (arith, lt)) o d in absurd (omega (arith, q))

pub true_starts : (ts : List Token) (w : Context) (i : ℕ) → class_at ts i ≡ True → Left Exp ts (operand_lang ts w) nothing i (Done (TrueE (tok_at ts i).line)) (i + 1) 1
unfolding Spells
true_starts ts w i e = record {
  ordered = omega arith;
  down = λ x b n f j lt s st. go x b n f j lt s.0 s.1 s.3;
  up = λ x b n f j fits r. subst (λ (z : Exp). operand_lang ts w z b n f i j) (sym r.0) (tt, 7, omega arith, (i, (refl, (λ u lt. room_of b (fits u)), refl), ((λ lt. e), sym r.1 ∙ add-one i)), tt);
}
  where
    go : (x : Exp) (b n f j : ℕ) → i + 1 < n → IsOperand x → (v : ℕ) → Spells (given_tokens ts n f) (high w b) v x i j → ((x ≡ TrueE (tok_at ts i).line) × (i + 1 ≡ j)) × (f ≡ 7 → Below 1 b)
    go (TrueE line) b n f j lt o v d =
        ((ap TrueE d.1.0, add-one i ∙ ap suc d.1.2 ∙ sym d.2.1), λ u. fits_of b (d.1.1 u (omega (arith, lt))))
    go (BinaryE line op t r) b n f j lt o v d = elim o [ ]
    go (UnaryE line op z) b n f j lt o v d = let q = ap form (sym e) ∙ operand_form ts w n f b v (UnaryE line op z) i j (omega (arith, lt)) o d in absurd (omega (arith, q, (unary_form op).0))
    go z b n f j lt o v d = let q = ap form (sym e) ∙ operand_form ts w n f b v z i j (omega (arith, lt)) o d in absurd (omega (arith, q))

pub false_starts : (ts : List Token) (w : Context) (i : ℕ) → class_at ts i ≡ False → Left Exp ts (operand_lang ts w) nothing i (Done (FalseE (tok_at ts i).line)) (i + 1) 1
unfolding Spells
false_starts ts w i e = record {
  ordered = omega arith;
  down = λ x b n f j lt s st. go x b n f j lt s.0 s.1 s.3;
  up = λ x b n f j fits r. subst (λ (z : Exp). operand_lang ts w z b n f i j) (sym r.0) (tt, 7, omega arith, (i, (refl, (λ u lt. room_of b (fits u)), refl), ((λ lt. e), sym r.1 ∙ add-one i)), tt);
}
  where
    go : (x : Exp) (b n f j : ℕ) → i + 1 < n → IsOperand x → (v : ℕ) → Spells (given_tokens ts n f) (high w b) v x i j → ((x ≡ FalseE (tok_at ts i).line) × (i + 1 ≡ j)) × (f ≡ 7 → Below 1 b)
    go (FalseE line) b n f j lt o v d =
        ((ap FalseE d.1.0, add-one i ∙ ap suc d.1.2 ∙ sym d.2.1), λ u. fits_of b (d.1.1 u (omega (arith, lt))))
    go (BinaryE line op t r) b n f j lt o v d = elim o [ ]
    go (UnaryE line op z) b n f j lt o v d = let q = ap form (sym e) ∙ operand_form ts w n f b v (UnaryE line op z) i j (omega (arith, lt)) o d in absurd (omega (arith, q, (unary_form op).0))
    go z b n f j lt o v d = let q = ap form (sym e) ∙ operand_form ts w n f b v z i j (omega (arith, lt)) o d in absurd (omega (arith, q))

pub text_starts : (ts : List Token) (w : Context) (i : ℕ) → class_at ts i ≡ Text → Left Exp ts (operand_lang ts w) nothing i (Done (TextE (tok_at ts i).line (bytes_of (tok_at ts i)))) (i + 1) 1
unfolding Spells
text_starts ts w i e = record {
  ordered = omega arith;
  down = λ x b n f j lt s st. go x b n f j lt s.0 s.1 s.3;
  up = λ x b n f j fits r. subst (λ (z : Exp). operand_lang ts w z b n f i j) (sym r.0) (tt, 7, omega arith, (i, (refl, (λ u lt. room_of b (fits u)), refl), ((λ lt. (e, refl)), sym r.1 ∙ add-one i)), tt);
}
  where
    go : (x : Exp) (b n f j : ℕ) → i + 1 < n → IsOperand x → (v : ℕ) → Spells (given_tokens ts n f) (high w b) v x i j → ((x ≡ TextE (tok_at ts i).line (bytes_of (tok_at ts i))) × (i + 1 ≡ j)) × (f ≡ 7 → Below 1 b)
    go (TextE line y) b n f j lt o v d =
        let P : ℕ → Type 0 = λ z. z < n → bytes_of (tok_at ts z) ≡ y in (
          (ap (λ (z : ℕ). TextE z y) d.1.0 ∙ ap (λ (z : List ℕ). TextE (tok_at ts i).line z) (sym (subst P (sym d.1.2) (λ z. (d.2.0 z).1) (omega (arith, lt)))), add-one i ∙ ap suc d.1.2 ∙ sym d.2.1),
          λ u. fits_of b (d.1.1 u (omega (arith, lt))),
        )
    go (BinaryE line op t r) b n f j lt o v d = elim o [ ]
    go (UnaryE line op z) b n f j lt o v d = let q = ap form (sym e) ∙ operand_form ts w n f b v (UnaryE line op z) i j (omega (arith, lt)) o d in absurd (omega (arith, q, (unary_form op).0))
    go z b n f j lt o v d = let q = ap form (sym e) ∙ operand_form ts w n f b v z i j (omega (arith, lt)) o d in absurd (omega (arith, q))

agreed : (r : Option ℤ) (v u : ℤ) → r ≡ Some u → Agrees r v → v ≡ u
agreed None v u e a = absurd (cc)
agreed (Some z) v u e a = a ∙ some_is e
  where
    some_is : Some z ≡ Some u → z ≡ u
    some_is q = cc

agrees : (r : Option ℤ) (u : ℤ) → r ≡ Some u → Agrees r u
agrees r u e = subst (λ (z : Option ℤ). Agrees z u) (sym e) refl

pub number_starts : (ts : List Token) (w : Context) (i : ℕ) (u : ℤ) → class_at ts i ≡ Number → read_numeral_of (bytes_of (tok_at ts i)) ≡ Some u → Left Exp ts (operand_lang ts w) nothing i (Done (NumberE (tok_at ts i).line u)) (i + 1) 1
unfolding Spells
number_starts ts w i u e value = record {
  ordered = omega arith;
  down = λ x b n f j lt s st. go x b n f j lt s.0 s.1 s.3;
  up = λ x b n f j fits r. subst (λ (z : Exp). operand_lang ts w z b n f i j) (sym r.0)
      (tt, 7, omega arith, (i, (refl, (λ y lt. room_of b (fits y)), refl), ((λ lt. (e, agrees (read_numeral_of (bytes_of (tok_at ts i))) u value)), (λ y lt. value), sym r.1 ∙ add-one i)), tt);
}
  where
    go : (x : Exp) (b n f j : ℕ) → i + 1 < n → IsOperand x → (v : ℕ) → Spells (given_tokens ts n f) (high w b) v x i j → ((x ≡ NumberE (tok_at ts i).line u) × (i + 1 ≡ j)) × (f ≡ 7 → Below 1 b)
    go (NumberE line y) b n f j lt o v d =
        let P : ℕ → Type 0 = λ z. z < n → Agrees (read_numeral_of (bytes_of (tok_at ts z))) y in (
          (ap (λ (z : ℕ). NumberE z y) d.1.0 ∙ ap (λ (z : ℤ). NumberE (tok_at ts i).line z) (agreed (read_numeral_of (bytes_of (tok_at ts i))) y u value (subst P (sym d.1.2) (λ z. (d.2.0 z).1) (omega (arith, lt)))), add-one i ∙ ap suc d.1.2 ∙ sym d.2.2),
          λ z. fits_of b (d.1.1 z (omega (arith, lt))),
        )
    go (BinaryE line op t r) b n f j lt o v d = elim o [ ]
    go (UnaryE line op z) b n f j lt o v d = let q = ap form (sym e) ∙ operand_form ts w n f b v (UnaryE line op z) i j (omega (arith, lt)) o d in absurd (omega (arith, q, (unary_form op).0))
    go z b n f j lt o v d = let q = ap form (sym e) ∙ operand_form ts w n f b v z i j (omega (arith, lt)) o d in absurd (omega (arith, q))

-- A numeral without a value.
pub number_invalid : (ts : List Token) (w : Context) (i : ℕ) → i < length ts → class_at ts i ≡ Number → read_numeral_of (bytes_of (tok_at ts i)) ≡ None → ReadsFault Exp ts (operand_lang ts w) nothing w.above i 6 i
unfolding Spells
number_invalid ts w i inside e none = record {
  inside = inside;
  ordered = le_refl i;
  number = (omega arith, omega arith);
  reach = reach;
  dead = λ x b n j ab lt s st. go x b n j lt s.0 s.1 s.3;
}
  where
    reach : (n f : ℕ) → Before i 6 n f → (x : Exp) × (j : ℕ) × (n ≤ j) × operand_lang ts w x w.above n f i j
    reach n f (inl y) = operand_opens ts w w.above n f i (omega (arith, y))
    reach n f (inr y) = (
      NumberE (tok_at ts i).line zero_value,
      suc i,
      omega (arith, y.0),
      (tt, 7, omega arith, (i, (refl, (λ z lt. absurd (omega (arith, z, y.2))), refl), ((λ lt. (e, subst (λ (z : Option ℤ). Agrees z zero_value) (sym none) tt)), (λ z lt. absurd (omega (arith, z, y.2))), refl)), tt),
    )
      where
        zero_value : ℤ
        zero_value = pos 0

    go : (x : Exp) (b n j : ℕ) → i < n → IsOperand x → (v : ℕ) → Spells (given_tokens ts n 6) (high w b) v x i j → ⊥
    go (NumberE line y) b n j lt o v d =
        let P : ℕ → Type 0 = λ z. z < n → read_numeral_of (bytes_of (tok_at ts z)) ≡ Some y in
        let q : None ≡ Some y = sym none ∙ subst P (sym d.1.2) (d.2.1 refl) lt in absurd (cc)
    go (BinaryE line op t r) b n j lt o v d = elim o [ ]
    go (UnaryE line op z) b n j lt o v d = let q = ap form (sym e) ∙ operand_form ts w n 6 b v (UnaryE line op z) i j lt o d in absurd (omega (arith, q, (unary_form op).0))
    go z b n j lt o v d = let q = ap form (sym e) ∙ operand_form ts w n 6 b v z i j lt o d in absurd (omega (arith, q))

pub dots_starts : (ts : List Token) (w : Context) (i : ℕ) → class_at ts i ≡ Dots → w.vararg ≡ true → Left Exp ts (operand_lang ts w) nothing i (Done (DotsE (tok_at ts i).line)) (i + 1) 1
unfolding Spells
dots_starts ts w i e vararg = record {
  ordered = omega arith;
  down = λ x b n f j lt s st. go x b n f j lt s.0 s.1 s.3;
  up = λ x b n f j fits r. subst (λ (z : Exp). operand_lang ts w z b n f i j) (sym r.0) (tt, 7, omega arith, (i, (refl, (λ u lt. room_of b (fits u)), refl), ((λ lt. e), (λ u lt. vararg), sym r.1 ∙ add-one i)), tt);
}
  where
    go : (x : Exp) (b n f j : ℕ) → i + 1 < n → IsOperand x → (v : ℕ) → Spells (given_tokens ts n f) (high w b) v x i j → ((x ≡ DotsE (tok_at ts i).line) × (i + 1 ≡ j)) × (f ≡ 7 → Below 1 b)
    go (DotsE line) b n f j lt o v d =
        ((ap DotsE d.1.0, add-one i ∙ ap suc d.1.2 ∙ sym d.2.2), λ u. fits_of b (d.1.1 u (omega (arith, lt))))
    go (BinaryE line op t r) b n f j lt o v d = elim o [ ]
    go (UnaryE line op z) b n f j lt o v d = let q = ap form (sym e) ∙ operand_form ts w n f b v (UnaryE line op z) i j (omega (arith, lt)) o d in absurd (omega (arith, q, (unary_form op).0))
    go z b n f j lt o v d = let q = ap form (sym e) ∙ operand_form ts w n f b v z i j (omega (arith, lt)) o d in absurd (omega (arith, q))

-- `...` outside a function with `...`.
pub dots_outside : (ts : List Token) (w : Context) (i : ℕ) → i < length ts → class_at ts i ≡ Dots → w.above ≤ 200 → w.vararg ≡ false → ReadsFault Exp ts (operand_lang ts w) nothing w.above i 10 i
unfolding Spells
dots_outside ts w i inside e room vararg = record {
  inside = inside;
  ordered = le_refl i;
  number = (omega arith, omega arith);
  reach = reach;
  dead = λ x b n j ab lt s st. go x b n j lt s.0 s.1 s.3;
}
  where
    reach : (n f : ℕ) → Before i 10 n f → (x : Exp) × (j : ℕ) × (n ≤ j) × operand_lang ts w x w.above n f i j
    reach n f (inl y) = operand_opens ts w w.above n f i (omega (arith, y))
    reach n f (inr y) = (
      DotsE (tok_at ts i).line,
      suc i,
      omega (arith, y.0),
      (tt, 7, omega arith, (i, (refl, (λ z lt. room), refl), ((λ lt. e), (λ z lt. absurd (omega (arith, z, y.2))), refl)), tt),
    )

    go : (x : Exp) (b n j : ℕ) → i < n → IsOperand x → (v : ℕ) → Spells (given_tokens ts n 10) (high w b) v x i j → ⊥
    go (DotsE line) b n j lt o v d =
        let P : ℕ → Type 0 = λ z. z < n → w.vararg ≡ true in
        true≢false (sym (subst P (sym d.1.2) (d.2.1 refl) lt) ∙ vararg)
    go (BinaryE line op t r) b n j lt o v d = elim o [ ]
    go (UnaryE line op z) b n j lt o v d = let q = ap form (sym e) ∙ operand_form ts w n 10 b v (UnaryE line op z) i j lt o d in absurd (omega (arith, q, (unary_form op).0))
    go z b n j lt o v d = let q = ap form (sym e) ∙ operand_form ts w n 10 b v z i j lt o d in absurd (omega (arith, q))

-- Too deep, where the token could begin a node.
pub operand_deep : (ts : List Token) (w : Context) (i : ℕ) → i < length ts → 200 < w.above → ((n f : ℕ) → n ≡ suc i → f < 7 → (x : Exp) × (j : ℕ) × (n ≤ j) × operand_lang ts w x w.above n f i j) →
    ReadsFault Exp ts (operand_lang ts w) nothing w.above i 7 i
operand_deep ts w i inside over can = record {
  inside = inside;
  ordered = le_refl i;
  number = (omega arith, omega arith);
  reach = reach;
  dead = λ x b n j le lt l st. let y = operand_node ts w i x b n j lt l in omega (arith, y, le, over);
}
  where
    reach : (n f : ℕ) → Before i 7 n f → (x : Exp) × (j : ℕ) × (n ≤ j) × operand_lang ts w x w.above n f i j
    reach n f (inl e) = operand_opens ts w w.above n f i (omega (arith, e))
    reach n f (inr x) = can n f x.0 x.2

pub dots_can : (ts : List Token) (w : Context) (i : ℕ) → class_at ts i ≡ Dots → (n f : ℕ) → n ≡ suc i → f < 7 → (x : Exp) × (j : ℕ) × (n ≤ j) × operand_lang ts w x w.above n f i j
unfolding Spells
dots_can ts w i e n f ne hi = (
  DotsE (tok_at ts i).line,
  suc i,
  omega (arith, ne),
  (tt, 7, omega arith, (i, (refl, (λ z lt. absurd (omega (arith, z, hi))), refl), ((λ lt. e), (λ z lt. absurd (omega (arith, z, hi))), refl)), tt),
)

pub left_can : {ts : List Token} (w : Context) {i h : ℕ} {r : Rest Exp} → Left Exp ts (operand_lang ts w) nothing i r (i + 1) h → (n f : ℕ) → n ≡ suc i → f < 7 → (x : Exp) × (j : ℕ) × (n ≤ j) × operand_lang ts w x w.above n f i j
left_can {ts} w {i} {h} {r} l n f e hi =
    let o = opens ts r w.above n f (i + 1) (omega (arith, e)) in (o.0, o.1, o.2, l.up o.0 w.above n f o.1 (λ y. absurd (omega (arith, y, hi))) o.3)

-- No operand begins so.
pub operand_unexpected : (ts : List Token) (w : Context) (i : ℕ) → i < length ts → form (class_at ts i) ≡ 0 → ReadsFault Exp ts (operand_lang ts w) nothing w.above i 5 i
operand_unexpected ts w i inside e = record {
  inside = inside;
  ordered = le_refl i;
  number = (omega arith, omega arith);
  reach = reach;
  dead = λ x b n j ab lt s st. go x b n j lt s.0 s.1 s.3;
}
  where
    reach : (n f : ℕ) → Before i 5 n f → (x : Exp) × (j : ℕ) × (n ≤ j) × operand_lang ts w x w.above n f i j
    reach n f (inl y) = operand_opens ts w w.above n f i (omega (arith, y))
    reach n f (inr y) = absurd (omega (arith, y.1, y.2))

    go : (x : Exp) (b n j : ℕ) → i < n → IsOperand x → (v : ℕ) → Spells (given_tokens ts n 5) (high w b) v x i j → ⊥
    go (BinaryE line op t r) b n j lt o v d = elim o [ ]
    go (UnaryE line op z) b n j lt o v d = let q = sym e ∙ operand_form ts w n 5 b v (UnaryE line op z) i j lt o d in omega (arith, q, (unary_form op).0)
    go z b n j lt o v d = let q = sym e ∙ operand_form ts w n 5 b v z i j lt o d in omega (arith, q)

-- ---- operands with parts

-- An expression under a unary operator, which has ended.
abbrev pub closed_kind : List Token → Context → Kind Exp
closed_kind ts w = record {
  lang = λ x b n f i j. exp_lang ts w 7 x b n f i j × Stops ts (goes_on 7) n j;
  goes = nothing;
  open' = λ b n f m le. (NameE (tok_at ts m).line [], suc m, omega (arith, le), (open_name ts w n f b 7 m le, λ lt. absurd (omega (arith, le, lt))));
}

pub closed_reading : (ts : List Token) (w : Context) (i : ℕ) (e : Exp) (q h : ℕ) → ReadsExp ts w 7 i e q h → ReadsTree Exp ts (closed_kind ts w).lang nothing w.above i e q h
closed_reading ts w i e q h g = record {
  inside = g.reading.inside;
  ordered = g.reading.ordered;
  height = g.reading.height;
  stands = λ b n f x. (g.reading.stands b n f x, λ lt. g.stops_here);
  only = λ x b n f j lt s st. g.reading.only x b n f j lt s.0 s.1;
}

pub closed_fails : (ts : List Token) (w : Context) (i k p : ℕ) → ReadsFault Exp ts (exp_lang ts w 7) (goes_on 7) w.above i k p → ReadsFault Exp ts (closed_kind ts w).lang nothing w.above i k p
closed_fails ts w i k p g = record {
  inside = g.inside;
  ordered = g.ordered;
  number = g.number;
  reach = λ n f x. let r = g.reach n f x in (r.0, r.1, r.2, (r.3, λ lt. absurd (omega (arith, lt, r.2))));
  dead = λ x b n j ab lt s st. g.dead x b n j ab lt s.0 s.1;
}

abbrev pub unary_rest : List Token → Context → ℕ → UnaryOp → Rest Exp
unary_rest ts w i op = Under Exp (closed_kind ts w) (λ e. Done (UnaryE (tok_at ts i).line op e))

op_of_form : (p q : UnaryOp) → form (sign_of p) ≡ form (sign_of q) → p ≡ q
op_of_form NotOp NotOp e = refl
op_of_form NotOp Len e = absurd (omega (arith, e))
op_of_form NotOp MinusOp e = absurd (omega (arith, e))
op_of_form Len NotOp e = absurd (omega (arith, e))
op_of_form Len Len e = refl
op_of_form Len MinusOp e = absurd (omega (arith, e))
op_of_form MinusOp NotOp e = absurd (omega (arith, e))
op_of_form MinusOp Len e = absurd (omega (arith, e))
op_of_form MinusOp MinusOp e = refl

pub unary_starts : (ts : List Token) (w : Context) (i : ℕ) (op : UnaryOp) → class_at ts i ≡ sign_of op → Left Exp ts (operand_lang ts w) nothing i (unary_rest ts w i op) (i + 1) 1
unfolding Spells
unary_starts ts w i op e = record {
  ordered = omega arith;
  down = λ x b n f j lt s st. go x b n f j lt s.0 s.1 s.3 s.4;
  up = λ x b n f j fits r. subst (λ (z : Exp). operand_lang ts w z b n f i j) (sym r.3.0) (
    tt,
    7,
    omega arith,
    (le_refl 7, (i, (refl, (λ u lt. room_of b (fits u)), refl), (i + 1, ((λ lt. e), add-one i), subst (λ (z : ℕ). Spells (given_tokens ts n f) (high w (suc b)) 7 r.0 (i + 1) z) r.3.1 r.2.0))),
    subst (λ (z : ℕ). Stops ts (goes_on 7) n z) r.3.1 r.2.1,
  );
}
  where
    go : (x : Exp) (b n f j : ℕ) → i + 1 < n → IsOperand x → (v : ℕ) → Spells (given_tokens ts n f) (high w b) v x i j → Closes ts n x j → Reads ts (unary_rest ts w i op) x b n f (i + 1) j × (f ≡ 7 → Below 1 b)
    go (BinaryE line p t r) b n f j lt o v d c = elim o [ ]
    go (UnaryE line p z) b n f j lt o v d c =
        let q = ap form (sym e) ∙ operand_form ts w n f b v (UnaryE line p z) i j (omega (arith, lt)) o d in
        let same : p ≡ op = op_of_form p op (sym q) in (
          (
            z,
            j,
            (subst (λ (y : ℕ). Spells (given_tokens ts n f) (high w (suc b)) 7 z y j) (d.1.2.1.1 ∙ ap suc (sym d.1.1.2) ∙ sym (add-one i)) d.1.2.2, c),
            (ap (λ (y : ℕ). UnaryE y p z) d.1.1.0 ∙ ap (λ (y : UnaryOp). UnaryE (tok_at ts i).line y z) same, refl),
          ),
          λ u. fits_of b (d.1.1.1 u (omega (arith, lt))),
        )
    go z b n f j lt o v d c = let q = ap form (sym e) ∙ operand_form ts w n f b v z i j (omega (arith, lt)) o d in absurd (omega (arith, q, (unary_form op).0, (unary_form op).1))

abbrev pub table_rest : List Token → Context → ℕ → Rest Exp
table_rest ts w i = Under Fields (fields_kind ts w) (λ fs. Word RightBrace (Done (TableE (tok_at ts i).line fs)))

pub table_starts : (ts : List Token) (w : Context) (i : ℕ) → class_at ts i ≡ LeftBrace → Left Exp ts (operand_lang ts w) nothing i (table_rest ts w i) (i + 1) 1
unfolding Spells
table_starts ts w i e = record {
  ordered = omega arith;
  down = λ x b n f j lt s st. go x b n f j lt s.0 s.1 s.3;
  up = λ x b n f j fits r. subst (λ (z : Exp). operand_lang ts w z b n f i j) (sym r.3.2.0)
      (tt, 7, omega arith, (i, (refl, (λ u lt. room_of b (fits u)), refl), (i + 1, ((λ lt. e), add-one i), (r.1, r.2, subst (λ (z : ℕ). word (given_tokens ts n f) RightBrace r.1 z) r.3.2.1 r.3.1))), tt);
}
  where
    go : (x : Exp) (b n f j : ℕ) → i + 1 < n → IsOperand x → (v : ℕ) → Spells (given_tokens ts n f) (high w b) v x i j → Reads ts (table_rest ts w i) x b n f (i + 1) j × (f ≡ 7 → Below 1 b)
    go (TableE line z) b n f j lt o v d = (
      (
        z,
        d.2.2.0,
        subst (λ (y : ℕ). SpellsFields (given_tokens ts n f) (high w (suc b)) z y d.2.2.0) (d.2.1.1 ∙ ap suc (sym d.1.2) ∙ sym (add-one i)) d.2.2.1,
        (j, d.2.2.2, (ap (λ (y : ℕ). TableE y z) d.1.0, refl)),
      ),
      λ u. fits_of b (d.1.1 u (omega (arith, lt))),
    )
    go (BinaryE line op t r) b n f j lt o v d = elim o [ ]
    go (UnaryE line op z) b n f j lt o v d = let q = ap form (sym e) ∙ operand_form ts w n f b v (UnaryE line op z) i j (omega (arith, lt)) o d in absurd (omega (arith, q, (unary_form op).0))
    go z b n f j lt o v d = let q = ap form (sym e) ∙ operand_form ts w n f b v z i j (omega (arith, lt)) o d in absurd (omega (arith, q))

abbrev pub function_rest : List Token → Context → ℕ → Rest Exp
function_rest ts w i = Under Fun (body_kind false ts w) (λ u. Done (FunctionE (tok_at ts i).line u))

pub function_starts : (ts : List Token) (w : Context) (i : ℕ) → class_at ts i ≡ Function → Left Exp ts (operand_lang ts w) nothing i (function_rest ts w i) (i + 1) 1
unfolding Spells
function_starts ts w i e = record {
  ordered = omega arith;
  down = λ x b n f j lt s st. go x b n f j lt s.0 s.1 s.3;
  up = λ x b n f j fits r. subst (λ (z : Exp). operand_lang ts w z b n f i j) (sym r.3.0)
      (tt, 7, omega arith, (i, (refl, (λ u lt. room_of b (fits u)), refl), (i + 1, ((λ lt. e), add-one i), subst (λ (z : ℕ). SpellsFun (given_tokens ts n f) (high w (suc b)) r.0 (i + 1) z) r.3.1 r.2)), tt);
}
  where
    go : (x : Exp) (b n f j : ℕ) → i + 1 < n → IsOperand x → (v : ℕ) → Spells (given_tokens ts n f) (high w b) v x i j → Reads ts (function_rest ts w i) x b n f (i + 1) j × (f ≡ 7 → Below 1 b)
    go (FunctionE line z) b n f j lt o v d = (
      (
        z,
        j,
        subst (λ (y : ℕ). SpellsFun (given_tokens ts n f) (high w (suc b)) z y j) (d.2.1.1 ∙ ap suc (sym d.1.2) ∙ sym (add-one i)) d.2.2,
        (ap (λ (y : ℕ). FunctionE y z) d.1.0, refl),
      ),
      λ u. fits_of b (d.1.1 u (omega (arith, lt))),
    )
    go (BinaryE line op t r) b n f j lt o v d = elim o [ ]
    go (UnaryE line op z) b n f j lt o v d = let q = ap form (sym e) ∙ operand_form ts w n f b v (UnaryE line op z) i j (omega (arith, lt)) o d in absurd (omega (arith, q, (unary_form op).0))
    go z b n f j lt o v d = let q = ap form (sym e) ∙ operand_form ts w n f b v z i j (omega (arith, lt)) o d in absurd (omega (arith, q))

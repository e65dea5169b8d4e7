-- Operands, by their first token.
use Rattle.std.proofs.Common.{◌≡◌, ℕ, suc, ◌<◌, ◌≤◌, false, List, refl, sym, ap, subst, ◌∙◌, le_trans, le_refl, lt_of_le_of_lt, lt-suc_self, arith}
use Rattle.lua_lexer.specs.declared.token.Token.{Token}
use Rattle.lua_syntax.specs.declared.BinaryOp.{BinaryOp}
use Rattle.lua_syntax.specs.declared.UnaryOp.{UnaryOp}
use Rattle.lua_syntax.specs.declared.UnaryOp.TheVariants.{Not as NotOp, Len, Minus as MinusOp}
use Rattle.lua_grammar.specs.declared.TokenClass.{TokenClass}
use Rattle.lua_grammar.specs.declared.TokenClass.TheVariants.{Name, Number, Text, Nil, True, False, Dots, Function, Not, Hash, Minus, LeftParen, LeftBrace}
use Rattle.lua_grammar.specs.declared.Context.{Context}
use Rattle.lua_grammar.specs.Tokens.{class_at}
use Rattle.lua_syntax.specs.Tree.{Exp, NilE, TrueE, FalseE, NumberE, TextE, DotsE, FunctionE, NameE, IndexE, CallE, MethodE, TableE, BinaryE, UnaryE, ParenE}
use Rattle.lua_grammar.specs.Grammar.{given_tokens, Spells, IsPrefix, sign_of, mark_of, left_level, suffix_goes}
use Rattle.lua_reading.specs.Parsing.{Stops, ReadsTree, ReadsFault, high, prefix_lang, nothing, goes_on, Stands, IsOperand, Closes, operand_lang, ReadsOperand, ReadsPrefix}
use Rattle.lua_reading.proofs.pieces.Steps.{HasNode}
use Rattle.lua_reading.proofs.levels.Levels.{left-low, left-seven}
use Rattle.lua_reading.proofs.levels.Chains.{raised, before_high, raised_above}
use Rattle.lua_reading.proofs.levels.Climb.{operand_level, looser, no_suffix}

-- ---- first tokens

-- Which operands a token begins, as a number.
abbrev pub form : TokenClass → ℕ
form Nil = 1
form True = 2
form False = 3
form Number = 4
form Text = 5
form Dots = 6
form Function = 7
form LeftBrace = 8
form Not = 9
form Hash = 10
form Minus = 11
form Name = 12
form LeftParen = 12
form s = 0

abbrev pub form_exp : Exp → ℕ
form_exp (NilE line) = 1
form_exp (TrueE line) = 2
form_exp (FalseE line) = 3
form_exp (NumberE line v) = 4
form_exp (TextE line v) = 5
form_exp (DotsE line) = 6
form_exp (FunctionE line v) = 7
form_exp (TableE line v) = 8
form_exp (UnaryE line op v) = form (sign_of op)
form_exp e = 12

abbrev begins : (ts : List Token) (n i m : ℕ) (s : TokenClass) (c : ℕ) → form s ≡ c → i ≡ m → i < n → (m < n → class_at ts m ≡ s) → form (class_at ts i) ≡ c
begins ts n i m s c e im lt h = let P : ℕ → Type 0 = λ y. y < n → class_at ts y ≡ s in ap form (subst P (sym im) h lt) ∙ e

pub prefix_form : (ts : List Token) (w : Context) (n f b l : ℕ) (x : Exp) (i j : ℕ) → i < n → IsPrefix x → Spells (given_tokens ts n f) (high w b) l x i j → form (class_at ts i) ≡ 12
unfolding Spells
prefix_form ts w n f b l (NameE line y) i j lt p s = begins ts n i s.0 Name 12 refl s.1.2 lt (λ z. (s.2.1.0 z).0)
prefix_form ts w n f b l (ParenE line y) i j lt p s = begins ts n i s.0 LeftParen 12 refl s.1.2 lt s.2.1.0
prefix_form ts w n f b l (IndexE line t y) i j lt p s = prefix_form ts w n f (raised n s.0 b) 10 t i s.0 lt s.2 (subst (λ (v : Context). Spells (given_tokens ts n f) v 10 t i s.0) (before_high ts w n f s.0 b) s.1)
prefix_form ts w n f b l (CallE line t y) i j lt p s = prefix_form ts w n f (raised n s.0 b) 10 t i s.0 lt s.2 (subst (λ (v : Context). Spells (given_tokens ts n f) v 10 t i s.0) (before_high ts w n f s.0 b) s.1)
prefix_form ts w n f b l (MethodE line t z y) i j lt p s = prefix_form ts w n f (raised n s.0 b) 10 t i s.0 lt s.2 (subst (λ (v : Context). Spells (given_tokens ts n f) v 10 t i s.0) (before_high ts w n f s.0 b) s.1)
prefix_form ts w n f b l _ i j lt p s = elim p [ ]

pub operand_form : (ts : List Token) (w : Context) (n f b l : ℕ) (x : Exp) (i j : ℕ) → i < n → IsOperand x → Spells (given_tokens ts n f) (high w b) l x i j → form (class_at ts i) ≡ form_exp x
unfolding Spells
operand_form ts w n f b l (NilE line) i j lt o s = begins ts n i s.0 Nil 1 refl s.1.2 lt s.2.0
operand_form ts w n f b l (TrueE line) i j lt o s = begins ts n i s.0 True 2 refl s.1.2 lt s.2.0
operand_form ts w n f b l (FalseE line) i j lt o s = begins ts n i s.0 False 3 refl s.1.2 lt s.2.0
operand_form ts w n f b l (NumberE line v) i j lt o s = begins ts n i s.0 Number 4 refl s.1.2 lt (λ z. (s.2.0 z).0)
operand_form ts w n f b l (TextE line v) i j lt o s = begins ts n i s.0 Text 5 refl s.1.2 lt (λ z. (s.2.0 z).0)
operand_form ts w n f b l (DotsE line) i j lt o s = begins ts n i s.0 Dots 6 refl s.1.2 lt s.2.0
operand_form ts w n f b l (FunctionE line v) i j lt o s = begins ts n i s.0 Function 7 refl s.1.2 lt s.2.1.0
operand_form ts w n f b l (TableE line v) i j lt o s = begins ts n i s.0 LeftBrace 8 refl s.1.2 lt s.2.1.0
operand_form ts w n f b l (UnaryE line op v) i j lt o s = begins ts n i s.1.0 (sign_of op) (form (sign_of op)) refl s.1.1.2 lt s.1.2.1.0
operand_form ts w n f b l (BinaryE line op t r) i j lt o s = elim o [ ]
operand_form ts w n f b l (NameE line y) i j lt o s = prefix_form ts w n f b l (NameE line y) i j lt tt s
operand_form ts w n f b l (ParenE line y) i j lt o s = prefix_form ts w n f b l (ParenE line y) i j lt tt s
operand_form ts w n f b l (IndexE line t y) i j lt o s = prefix_form ts w n f b l (IndexE line t y) i j lt tt s
operand_form ts w n f b l (CallE line t y) i j lt o s = prefix_form ts w n f b l (CallE line t y) i j lt tt s
operand_form ts w n f b l (MethodE line t z y) i j lt o s = prefix_form ts w n f b l (MethodE line t z y) i j lt tt s

pub prefix_of_form : (x : Exp) → IsOperand x → form_exp x ≡ 12 → IsPrefix x
prefix_of_form (NilE line) o e = absurd (omega (arith, e))
prefix_of_form (TrueE line) o e = absurd (omega (arith, e))
prefix_of_form (FalseE line) o e = absurd (omega (arith, e))
prefix_of_form (NumberE line v) o e = absurd (omega (arith, e))
prefix_of_form (TextE line v) o e = absurd (omega (arith, e))
prefix_of_form (DotsE line) o e = absurd (omega (arith, e))
prefix_of_form (FunctionE line v) o e = absurd (omega (arith, e))
prefix_of_form (TableE line v) o e = absurd (omega (arith, e))
prefix_of_form (UnaryE line NotOp v) o e = absurd (omega (arith, e))
prefix_of_form (UnaryE line Len v) o e = absurd (omega (arith, e))
prefix_of_form (UnaryE line MinusOp v) o e = absurd (omega (arith, e))
prefix_of_form (BinaryE line op t r) o e = elim o [ ]
prefix_of_form _ o e = tt

-- ---- nodes

pub prefix_node : (ts : List Token) (w : Context) (n b l : ℕ) (x : Exp) (i j : ℕ) → i < n → IsPrefix x → Spells (given_tokens ts n 7) (high w b) l x i j → b ≤ 200
unfolding Spells
prefix_node ts w n b l (NameE line y) i j lt p s = s.1.1 refl lt
prefix_node ts w n b l (ParenE line y) i j lt p s = s.1.1 refl lt
prefix_node ts w n b l (IndexE line t y) i j lt p s =
    le_trans (raised_above n s.0 b) (prefix_node ts w n (raised n s.0 b) 10 t i s.0 lt s.2 (subst (λ (v : Context). Spells (given_tokens ts n 7) v 10 t i s.0) (before_high ts w n 7 s.0 b) s.1))
prefix_node ts w n b l (CallE line t y) i j lt p s =
    le_trans (raised_above n s.0 b) (prefix_node ts w n (raised n s.0 b) 10 t i s.0 lt s.2 (subst (λ (v : Context). Spells (given_tokens ts n 7) v 10 t i s.0) (before_high ts w n 7 s.0 b) s.1))
prefix_node ts w n b l (MethodE line t z y) i j lt p s =
    le_trans (raised_above n s.0 b) (prefix_node ts w n (raised n s.0 b) 10 t i s.0 lt s.2 (subst (λ (v : Context). Spells (given_tokens ts n 7) v 10 t i s.0) (before_high ts w n 7 s.0 b) s.1))
prefix_node ts w n b l _ i j lt p s = elim p [ ]

pub node_of : (ts : List Token) (w : Context) (n b : ℕ) (i j : ℕ) → i < n → (y : Exp) → IsOperand y → (v : ℕ) → Spells (given_tokens ts n 7) (high w b) v y i j → b ≤ 200
unfolding Spells
node_of ts w n b i j lt (NilE line) o v d = d.1.1 refl lt
node_of ts w n b i j lt (TrueE line) o v d = d.1.1 refl lt
node_of ts w n b i j lt (FalseE line) o v d = d.1.1 refl lt
node_of ts w n b i j lt (NumberE line z) o v d = d.1.1 refl lt
node_of ts w n b i j lt (TextE line z) o v d = d.1.1 refl lt
node_of ts w n b i j lt (DotsE line) o v d = d.1.1 refl lt
node_of ts w n b i j lt (FunctionE line z) o v d = d.1.1 refl lt
node_of ts w n b i j lt (TableE line z) o v d = d.1.1 refl lt
node_of ts w n b i j lt (UnaryE line op z) o v d = d.1.1.1 refl lt
node_of ts w n b i j lt (BinaryE line op t r) o v d = elim o [ ]
node_of ts w n b i j lt (NameE line y) o v d = prefix_node ts w n b v (NameE line y) i j lt tt d
node_of ts w n b i j lt (ParenE line y) o v d = prefix_node ts w n b v (ParenE line y) i j lt tt d
node_of ts w n b i j lt (IndexE line t y) o v d = prefix_node ts w n b v (IndexE line t y) i j lt tt d
node_of ts w n b i j lt (CallE line t y) o v d = prefix_node ts w n b v (CallE line t y) i j lt tt d
node_of ts w n b i j lt (MethodE line t z y) o v d = prefix_node ts w n b v (MethodE line t z y) i j lt tt d

pub operand_node : (ts : List Token) (w : Context) (i : ℕ) → HasNode Exp ts (operand_lang ts w) i
operand_node ts w i x b n j lt s = node_of ts w n b i j lt x s.0 s.1 s.3

-- ---- an operand that stands

pub tight : (ts : List Token) (w : Context) (n f b v : ℕ) (e : Exp) (i q : ℕ) → IsOperand e → v ≤ 9 → (form_exp e ≡ 9 → ⊥) → (form_exp e ≡ 10 → ⊥) → (form_exp e ≡ 11 → ⊥) →
    Spells (given_tokens ts n f) (high w b) v e i q → Spells (given_tokens ts n f) (high w b) 9 e i q
unfolding Spells
tight ts w n f b v (UnaryE line NotOp e) i q o nine x y z s = absurd (x refl)
tight ts w n f b v (UnaryE line Len e) i q o nine x y z s = absurd (y refl)
tight ts w n f b v (UnaryE line MinusOp e) i q o nine x y z s = absurd (z refl)
tight ts w n f b v (BinaryE line op t r) i q o nine x y z s = elim o [ ]
tight ts w n f b v (NameE line y') i q o nine x y z s = (s.0, s.1, (s.2.0, s.2.1, ((λ u. s.2.2.0 nine), s.2.2.1)))
tight ts w n f b v (ParenE line e) i q o nine x y z s = (s.0, s.1, (s.2.0, s.2.1, (s.2.2.0, s.2.2.1, (s.2.2.2.0, s.2.2.2.1, ((λ u. s.2.2.2.2.0 nine), s.2.2.2.2.1)))))
tight ts w n f b v (IndexE line t e) i q o nine x y z s = (s.0, s.1, s.2, (s.3.0, s.3.1, (s.3.2.0, s.3.2.1, ((λ u. s.3.2.2.0 nine), s.3.2.2.1))))
tight ts w n f b v (CallE line t es) i q o nine x y z s = (s.0, s.1, s.2, (s.3.0, s.3.1, (s.3.2.0, s.3.2.1, ((λ u. s.3.2.2.0 nine), s.3.2.2.1))))
tight ts w n f b v (MethodE line t k es) i q o nine x y z s =
    (s.0, s.1, s.2, (s.3.0, s.3.1, (s.3.2.0, s.3.2.1, (s.3.2.2.0, s.3.2.2.1, (s.3.2.2.2.0, s.3.2.2.2.1, ((λ u. s.3.2.2.2.2.0 nine), s.3.2.2.2.2.1))))))
tight ts w n f b v _ i q o nine x y z s = s

pub operand_reading : (ts : List Token) (w : Context) (i : ℕ) (e : Exp) (q h : ℕ) → ReadsTree Exp ts (operand_lang ts w) nothing w.above i e q h → i < q → 1 ≤ h → ReadsOperand ts w i e q h
unfolding Stands
operand_reading ts w i e q h s grows some = record {
  reading = s;
  grows = grows;
  some_node = some;
  stands_alone = λ b n f x. let r = s.stands b n f x in operand_level ts w n f b r.1 7 e i q r.0 (le_refl 7) r.2 r.3;
  stands_left = λ op m b n f x. let r = s.stands b n f x in by_level op m b n f r.0 r.1 r.2 r.3;
}
  where
    seven : (op : BinaryOp) → class_at ts q ≡ mark_of op → (line : ℕ) (u : UnaryOp) (x : Exp) → e ≡ UnaryE line u x → left_level op ≤ 7
    seven op m line u x same =
        let r = s.stands w.above (suc q) 5 (λ y. s.height) in
        let c : Closes ts (suc q) (UnaryE line u x) q = subst (λ (z : Exp). Closes ts (suc q) z q) same r.4 in
        let P : TokenClass → Type 0 = λ z. goes_on 7 z ≡ false in
        left-seven op (subst P m (c (lt-suc_self q)))

    by_level : (op : BinaryOp) → class_at ts q ≡ mark_of op → (b n f : ℕ) → IsOperand e → (v : ℕ) → v ≤ 9 → Spells (given_tokens ts n f) (high w b) v e i q → Spells (given_tokens ts n f) (high w b) (left_level op) e i q
    by_level op m b n f o v nine d = go e refl o d
      where
        down : (x : Exp) → IsOperand x → Spells (given_tokens ts n f) (high w b) 9 x i q → Spells (given_tokens ts n f) (high w b) (left_level op) x i q
        down x ox z = looser ts w n f b (left_level op) 9 x i q (left-low op) (le_refl 9) z

        go : (x : Exp) → e ≡ x → IsOperand x → Spells (given_tokens ts n f) (high w b) v x i q → Spells (given_tokens ts n f) (high w b) (left_level op) x i q
        go (UnaryE line u x) same ox z = operand_level ts w n f b v (left_level op) (UnaryE line u x) i q tt (seven op m line u x same) nine z
        go (BinaryE line u x y) same ox z = elim ox [ ]
        go (NilE line) same ox z = down (NilE line) tt (tight ts w n f b v (NilE line) i q tt nine (λ k. omega (arith, k)) (λ k. omega (arith, k)) (λ k. omega (arith, k)) z)
        go (TrueE line) same ox z = down (TrueE line) tt (tight ts w n f b v (TrueE line) i q tt nine (λ k. omega (arith, k)) (λ k. omega (arith, k)) (λ k. omega (arith, k)) z)
        go (FalseE line) same ox z = down (FalseE line) tt (tight ts w n f b v (FalseE line) i q tt nine (λ k. omega (arith, k)) (λ k. omega (arith, k)) (λ k. omega (arith, k)) z)
        go (NumberE line x) same ox z = down (NumberE line x) tt (tight ts w n f b v (NumberE line x) i q tt nine (λ k. omega (arith, k)) (λ k. omega (arith, k)) (λ k. omega (arith, k)) z)
        go (TextE line x) same ox z = down (TextE line x) tt (tight ts w n f b v (TextE line x) i q tt nine (λ k. omega (arith, k)) (λ k. omega (arith, k)) (λ k. omega (arith, k)) z)
        go (DotsE line) same ox z = down (DotsE line) tt (tight ts w n f b v (DotsE line) i q tt nine (λ k. omega (arith, k)) (λ k. omega (arith, k)) (λ k. omega (arith, k)) z)
        go (FunctionE line x) same ox z = down (FunctionE line x) tt (tight ts w n f b v (FunctionE line x) i q tt nine (λ k. omega (arith, k)) (λ k. omega (arith, k)) (λ k. omega (arith, k)) z)
        go (TableE line x) same ox z = down (TableE line x) tt (tight ts w n f b v (TableE line x) i q tt nine (λ k. omega (arith, k)) (λ k. omega (arith, k)) (λ k. omega (arith, k)) z)
        go (NameE line x) same ox z = down (NameE line x) tt (tight ts w n f b v (NameE line x) i q tt nine (λ k. omega (arith, k)) (λ k. omega (arith, k)) (λ k. omega (arith, k)) z)
        go (ParenE line x) same ox z = down (ParenE line x) tt (tight ts w n f b v (ParenE line x) i q tt nine (λ k. omega (arith, k)) (λ k. omega (arith, k)) (λ k. omega (arith, k)) z)
        go (IndexE line x y) same ox z = down (IndexE line x y) tt (tight ts w n f b v (IndexE line x y) i q tt nine (λ k. omega (arith, k)) (λ k. omega (arith, k)) (λ k. omega (arith, k)) z)
        go (CallE line x y) same ox z = down (CallE line x y) tt (tight ts w n f b v (CallE line x y) i q tt nine (λ k. omega (arith, k)) (λ k. omega (arith, k)) (λ k. omega (arith, k)) z)
        go (MethodE line x y y') same ox z = down (MethodE line x y y') tt (tight ts w n f b v (MethodE line x y y') i q tt nine (λ k. omega (arith, k)) (λ k. omega (arith, k)) (λ k. omega (arith, k)) z)

-- ---- prefix expressions as operands

pub to_ten : (ts : List Token) (w : Context) (n f b v : ℕ) (e : Exp) (i j : ℕ) → IsPrefix e → Spells (given_tokens ts n f) (high w b) v e i j → Spells (given_tokens ts n f) (high w b) 10 e i j
unfolding Spells
to_ten ts w n f b v (NameE line y) i j p s = (s.0, s.1, (s.2.0, s.2.1, ((λ u. absurd (omega (arith, u))), s.2.2.1)))
to_ten ts w n f b v (ParenE line e) i j p s = (s.0, s.1, (s.2.0, s.2.1, (s.2.2.0, s.2.2.1, (s.2.2.2.0, s.2.2.2.1, ((λ u. absurd (omega (arith, u))), s.2.2.2.2.1)))))
to_ten ts w n f b v (IndexE line t e) i j p s = (s.0, s.1, s.2, (s.3.0, s.3.1, (s.3.2.0, s.3.2.1, ((λ u. absurd (omega (arith, u))), s.3.2.2.1))))
to_ten ts w n f b v (CallE line t es) i j p s = (s.0, s.1, s.2, (s.3.0, s.3.1, (s.3.2.0, s.3.2.1, ((λ u. absurd (omega (arith, u))), s.3.2.2.1))))
to_ten ts w n f b v (MethodE line t k es) i j p s =
    (s.0, s.1, s.2, (s.3.0, s.3.1, (s.3.2.0, s.3.2.1, (s.3.2.2.0, s.3.2.2.1, (s.3.2.2.2.0, s.3.2.2.2.1, ((λ u. absurd (omega (arith, u))), s.3.2.2.2.2.1))))))
to_ten ts w n f b v _ i j p s = elim p [ ]

pub from_ten : (ts : List Token) (w : Context) (n f b v : ℕ) (e : Exp) (i j : ℕ) → IsPrefix e → Stops ts suffix_goes n j → Spells (given_tokens ts n f) (high w b) 10 e i j → Spells (given_tokens ts n f) (high w b) v e i j
unfolding Spells
from_ten ts w n f b v (NameE line y) i j p st s = (s.0, s.1, (s.2.0, s.2.1, ((λ u. subst (λ (z : ℕ). Stops ts suffix_goes n z) (sym s.2.2.1) st), s.2.2.1)))
from_ten ts w n f b v (ParenE line e) i j p st s = (s.0, s.1, (s.2.0, s.2.1, (s.2.2.0, s.2.2.1, (s.2.2.2.0, s.2.2.2.1, ((λ u. subst (λ (z : ℕ). Stops ts suffix_goes n z) (sym s.2.2.2.2.1) st), s.2.2.2.2.1)))))
from_ten ts w n f b v (IndexE line t e) i j p st s = (s.0, s.1, s.2, (s.3.0, s.3.1, (s.3.2.0, s.3.2.1, ((λ u. subst (λ (z : ℕ). Stops ts suffix_goes n z) (sym s.3.2.2.1) st), s.3.2.2.1))))
from_ten ts w n f b v (CallE line t es) i j p st s = (s.0, s.1, s.2, (s.3.0, s.3.1, (s.3.2.0, s.3.2.1, ((λ u. subst (λ (z : ℕ). Stops ts suffix_goes n z) (sym s.3.2.2.1) st), s.3.2.2.1))))
from_ten ts w n f b v (MethodE line t k es) i j p st s =
    (s.0, s.1, s.2, (s.3.0, s.3.1, (s.3.2.0, s.3.2.1, (s.3.2.2.0, s.3.2.2.1, (s.3.2.2.2.0, s.3.2.2.2.1, ((λ u. subst (λ (z : ℕ). Stops ts suffix_goes n z) (sym s.3.2.2.2.2.1) st), s.3.2.2.2.2.1))))))
from_ten ts w n f b v _ i j p st s = elim p [ ]

pub prefix_is_operand : (e : Exp) → IsPrefix e → IsOperand e
prefix_is_operand (BinaryE line op t r) p = elim p [ ]
prefix_is_operand _ p = tt

pub prefix_closes : (ts : List Token) (n j : ℕ) (e : Exp) → IsPrefix e → Closes ts n e j
prefix_closes ts n j (UnaryE line op e) p = elim p [ ]
prefix_closes ts n j _ p = tt

pub prefix_operand : (ts : List Token) (w : Context) (i : ℕ) (e : Exp) (q h : ℕ) → form (class_at ts i) ≡ 12 → ReadsPrefix ts w i e q h → ReadsOperand ts w i e q h
prefix_operand ts w i e q h c g = operand_reading ts w i e q h (record {
  inside = g.reading.inside;
  ordered = g.reading.ordered;
  height = g.reading.height;
  stands = λ b n f x.
      let r = g.reading.stands b n f x in
      (prefix_is_operand e r.0, 9, le_refl 9, from_ten ts w n f b 9 e i q r.0 (λ lt. g.stops_here) r.1, prefix_closes ts n q e r.0);
  only = λ x b n f j lt s st.
      let p = prefix_of_form x s.0 (sym (operand_form ts w n f b s.1 x i j (omega (arith, lt, g.grows)) s.0 s.3) ∙ c) in
      g.reading.only x b n f j lt (p, to_ten ts w n f b s.1 x i j p s.3) (λ y. no_suffix ts w n f b s.1 i j x s.2 y p s.3);
}) g.grows g.some_node

pub prefix_operand_fails : (ts : List Token) (w : Context) (i k p : ℕ) → form (class_at ts i) ≡ 12 → ReadsFault Exp ts (prefix_lang ts w) suffix_goes w.above i k p → ReadsFault Exp ts (operand_lang ts w) nothing w.above i k p
prefix_operand_fails ts w i k p c g = record {
  inside = g.inside;
  ordered = g.ordered;
  number = g.number;
  reach = λ n f x.
      let r = g.reach n f x in
      (r.0, r.1, r.2, (prefix_is_operand r.0 r.3.0, 9, le_refl 9, from_ten ts w n f w.above 9 r.0 i r.1 r.3.0 (λ lt. absurd (omega (arith, lt, r.2))) r.3.1, prefix_closes ts n r.1 r.0 r.3.0));
  dead = λ x b n j ab lt s st.
      let pr = prefix_of_form x s.0 (sym (operand_form ts w n k b s.1 x i j (lt_of_le_of_lt g.ordered lt) s.0 s.3) ∙ c) in
      g.dead x b n j ab lt (pr, to_ten ts w n k b s.1 x i j pr s.3) (λ y. no_suffix ts w n k b s.1 i j x s.2 y pr s.3);
}

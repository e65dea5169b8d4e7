-- Names, parentheses, lists of expressions and arguments.
use Rattle.std.proofs.Common.{◌≡◌, ◌≢◌, ℕ, suc, pred, [], ◌∷◌, ◌++◌, ◌+◌, ◌<◌, ◌≤◌, ◌⊎◌, max, true, false, List, length, refl, sym, ap, subst, ◌∙◌, inl, inr, le_refl, lt_of_le_of_lt, arith, add-one, eq-or-lt_of_le}
use Rattle.lua_lexer.specs.declared.token.Token.{Token}
use Rattle.lua_syntax.specs.declared.Expr.{Expr}
use Rattle.lua_grammar.specs.declared.TokenClass.{TokenClass}
use Rattle.lua_grammar.specs.declared.TokenClass.TheVariants.{Name, LeftParen, RightParen, Text, LeftBrace, Comma}
use Rattle.lua_grammar.specs.declared.Context.{Context}
use Rattle.lua_grammar.specs.Tokens.{class_at, tok_at, bytes_of}
use Rattle.lua_syntax.specs.View.{expr_view, exprs_view}
use Rattle.lua_syntax.specs.Tree.{Exp, Exps, TextE, DotsE, FunctionE, NameE, TableE, BinaryE, UnaryE, ParenE, NoExp, MoreExp}
use Rattle.lua_grammar.specs.Grammar.{given_tokens, ◌⨟◌, word, where', Spells, SpellsArgs, SpellsAll, MoreExps, IsAlone}
use Rattle.lua_reading.specs.Parsing.{Stops, Below, ReadsTree, Before, ReadsFault, high, exp_lang, args_lang, all_lang, nothing, goes_on, exps_goes, IsOperand, operand_lang, ReadsExp}
use Rattle.lua_reading.specs.Answers.{ReadsNonEmpty, primary_lang, IsPrimary, name_lang}
use Rattle.lua_reading.proofs.pieces.Steps.{CanOpen, Rest, Done, Word, Here, Under, Either, Reads, Left, HasNode, follows_word, follows_done, follows_either, here_step, here_fails, word_step, first_way, second_way, word_closed, done_closed, inline, Closed}
use Rattle.lua_reading.proofs.pieces.Kinds.{open_name, exp_kind, all_kind, args_opens}
use Rattle.lua_reading.proofs.levels.Climb.{First, first}
use Rattle.lua_reading.proofs.levels.Suffixes.{primary_prefix, IsArgs, args_begin, args_can}
use Rattle.lua_reading.proofs.expressions.Operands.{form, form_exp, prefix_node, operand_form, tight}
use Rattle.lua_reading.proofs.expressions.Atoms.{room_of, fits_of, unary_form}

-- ---- names and parentheses

pub name_starts : (ts : List Token) (w : Context) (i : ℕ) → class_at ts i ≡ Name → Left Exp ts (primary_lang ts w) nothing i (Done (NameE (tok_at ts i).line (bytes_of (tok_at ts i)))) (i + 1) 1
unfolding Spells
name_starts ts w i e = record {
  ordered = omega arith;
  down = λ x b n f j lt s st. go x b n f j lt s.0 s.1;
  up = λ x b n f j fits r. subst (λ (z : Exp). primary_lang ts w z b n f i j) (sym r.0)
      (tt, (i, (refl, (λ u lt. room_of b (fits u)), refl), (i + 1, ((λ lt. (e, refl)), add-one i), ((λ u. absurd (omega (arith, u))), r.1))));
}
  where
    go : (x : Exp) (b n f j : ℕ) → i + 1 < n → IsPrimary x → Spells (given_tokens ts n f) (high w b) 10 x i j → ((x ≡ NameE (tok_at ts i).line (bytes_of (tok_at ts i))) × (i + 1 ≡ j)) × (f ≡ 7 → Below 1 b)
    go (NameE line y) b n f j lt o d =
        let P : ℕ → Type 0 = λ z. z < n → bytes_of (tok_at ts z) ≡ y in (
          (ap (λ (z : ℕ). NameE z y) d.1.0 ∙ ap (λ (z : List ℕ). NameE (tok_at ts i).line z) (sym (subst P (sym d.1.2) (λ z. (d.2.1.0 z).1) (omega (arith, lt)))), add-one i ∙ ap suc d.1.2 ∙ sym d.2.1.1 ∙ d.2.2.1),
          λ u. fits_of b (d.1.1 u (omega (arith, lt))),
        )
    go (ParenE line y) b n f j lt o d =
        let P : ℕ → Type 0 = λ z. z < n → class_at ts z ≡ LeftParen in
        let q : Name ≡ LeftParen = sym e ∙ subst P (sym d.1.2) d.2.1.0 (omega (arith, lt)) in absurd (cc)
    go _ b n f j lt o d = elim o [ ]

abbrev pub paren_rest : List Token → Context → ℕ → Rest Exp
paren_rest ts w i = Under Exp (exp_kind ts w 1) (λ e. Word RightParen (Done (ParenE (tok_at ts i).line e)))

pub paren_starts : (ts : List Token) (w : Context) (i : ℕ) → class_at ts i ≡ LeftParen → Left Exp ts (primary_lang ts w) nothing i (paren_rest ts w i) (i + 1) 1
unfolding Spells
paren_starts ts w i e = record {
  ordered = omega arith;
  down = λ x b n f j lt s st. go x b n f j lt s.0 s.1;
  up = λ x b n f j fits r. subst (λ (z : Exp). primary_lang ts w z b n f i j) (sym r.3.2.0)
      (tt, (i, (refl, (λ u lt. room_of b (fits u)), refl), (i + 1, ((λ lt. e), add-one i), (r.1, r.2, (r.3.0, r.3.1, ((λ u. absurd (omega (arith, u))), r.3.2.1))))));
}
  where
    go : (x : Exp) (b n f j : ℕ) → i + 1 < n → IsPrimary x → Spells (given_tokens ts n f) (high w b) 10 x i j → Reads ts (paren_rest ts w i) x b n f (i + 1) j × (f ≡ 7 → Below 1 b)
    go (ParenE line y) b n f j lt o d = (
      (
        y,
        d.2.2.0,
        subst (λ (z : ℕ). Spells (given_tokens ts n f) (high w (suc b)) 1 y z d.2.2.0) (d.2.1.1 ∙ ap suc (sym d.1.2) ∙ sym (add-one i)) d.2.2.1,
        (d.2.2.2.0, d.2.2.2.1, (ap (λ (z : ℕ). ParenE z y) d.1.0, d.2.2.2.2.1)),
      ),
      λ u. fits_of b (d.1.1 u (omega (arith, lt))),
    )
    go (NameE line y) b n f j lt o d =
        let P : ℕ → Type 0 = λ z. z < n → class_at ts z ≡ Name in
        let q : LeftParen ≡ Name = sym e ∙ subst P (sym d.1.2) (λ z. (d.2.1.0 z).0) (omega (arith, lt)) in absurd (cc)
    go _ b n f j lt o d = elim o [ ]

pub primary_opens : (ts : List Token) (w : Context) → CanOpen Exp (primary_lang ts w)
primary_opens ts w b n f m le = (NameE (tok_at ts m).line [], suc m, omega (arith, le), (tt, open_name ts w n f b 10 m le))

pub primary_node : (ts : List Token) (w : Context) (i : ℕ) → HasNode Exp ts (primary_lang ts w) i
primary_node ts w i x b n j lt s = prefix_node ts w n b 10 x i j lt (primary_prefix x s.0) s.1

pub no_primary : (ts : List Token) (w : Context) (i : ℕ) → class_at ts i ≢ Name → class_at ts i ≢ LeftParen → (x : Exp) (b n f j : ℕ) → i < n → primary_lang ts w x b n f i j → Stops ts nothing n j → ⊥
unfolding Spells
no_primary ts w i e1 e2 (NameE line y) b n f j lt s st = let P : ℕ → Type 0 = λ z. z < n → class_at ts z ≡ Name in e1 (subst P (sym s.1.1.2) (λ z. (s.1.2.1.0 z).0) lt)
no_primary ts w i e1 e2 (ParenE line y) b n f j lt s st = let P : ℕ → Type 0 = λ z. z < n → class_at ts z ≡ LeftParen in e2 (subst P (sym s.1.1.2) s.1.2.1.0 lt)
no_primary ts w i e1 e2 _ b n f j lt s st = elim s.0 [ ]

-- ---- a name that is a text

pub key_starts : (ts : List Token) (w : Context) (i : ℕ) → class_at ts i ≡ Name → Left Exp ts (name_lang ts w) nothing i (Done (TextE (tok_at ts i).line (bytes_of (tok_at ts i)))) (i + 1) 1
key_starts ts w i e = record {
  ordered = omega arith;
  down = λ x b n f j lt s st. go x b n f j lt s;
  up = λ x b n f j fits r. subst (λ (z : Exp). name_lang ts w z b n f i j) (sym r.0) (i, (refl, (λ u lt. room_of b (fits u)), refl), ((λ lt. (e, refl)), sym r.1 ∙ add-one i));
}
  where
    go : (x : Exp) (b n f j : ℕ) → i + 1 < n → name_lang ts w x b n f i j → ((x ≡ TextE (tok_at ts i).line (bytes_of (tok_at ts i))) × (i + 1 ≡ j)) × (f ≡ 7 → Below 1 b)
    go (TextE line y) b n f j lt d =
        let P : ℕ → Type 0 = λ z. z < n → bytes_of (tok_at ts z) ≡ y in (
          (ap (λ (z : ℕ). TextE z y) d.1.0 ∙ ap (λ (z : List ℕ). TextE (tok_at ts i).line z) (sym (subst P (sym d.1.2) (λ z. (d.2.0 z).1) (omega (arith, lt)))), add-one i ∙ ap suc d.1.2 ∙ sym d.2.1),
          λ u. fits_of b (d.1.1 u (omega (arith, lt))),
        )
    go _ b n f j lt d = absurd d.0

pub no_key : (ts : List Token) (w : Context) (i : ℕ) → class_at ts i ≢ Name → (x : Exp) (b n f j : ℕ) → i < n → name_lang ts w x b n f i j → Stops ts nothing n j → ⊥
no_key ts w i ne (TextE line y) b n f j lt s st = let P : ℕ → Type 0 = λ z. z < n → class_at ts z ≡ Name in ne (subst P (sym s.1.2) (λ z. (s.2.0 z).0) lt)
no_key ts w i ne _ b n f j lt s st = s.0

pub key_node : (ts : List Token) (w : Context) (i : ℕ) → HasNode Exp ts (name_lang ts w) i
key_node ts w i (TextE line y) b n j lt s = s.1.1 refl lt
key_node ts w i _ b n j lt s = absurd s.0

-- ---- expressions begin

pub exp_form : (ts : List Token) (w : Context) (n f b l : ℕ) (x : Exp) (i j : ℕ) → l ≤ 9 → i < n → Spells (given_tokens ts n f) (high w b) l x i j → form (class_at ts i) ≡ 0 → ⊥
exp_form ts w n f b l x i j le lt s e =
    let y : First ts w n f b l x i j = first ts w n f b l x i j le s in
    some_form y.operand y.is_operand (sym e ∙ operand_form ts w n f y.above y.at_level y.operand i y.end lt y.is_operand y.stands)
  where
    some_form : (z : Exp) → IsOperand z → 0 ≡ form_exp z → ⊥
    some_form (BinaryE line op t r) o q = elim o [ ]
    some_form (UnaryE line op z) o q = omega (arith, q, (unary_form op).0)
    some_form _ o q = omega (arith, q)

-- ---- lists of expressions

abbrev pub list_rest : List Token → Context → Rest Exps
list_rest ts w = Here Exp (exp_kind ts w 1) (λ e. Either (Done (MoreExp e NoExp)) (Word Comma (Here Exps (all_kind ts w) (λ es. Done (MoreExp e es)))))

pub list_starts : (ts : List Token) (w : Context) (i : ℕ) → Left Exps ts (all_lang ts w) exps_goes i (list_rest ts w) i 0
unfolding SpellsAll
list_starts ts w i = record {
  ordered = le_refl i;
  down = λ x b n f j lt s st. (go x b n f j s, λ u. omega arith);
  up = λ x b n f j fits r. up x b n f j r.0 r.1 r.2 r.3;
}
  where
    go : (x : Exps) (b n f j : ℕ) → SpellsAll (given_tokens ts n f) (high w b) x i j → Reads ts (list_rest ts w) x b n f i j
    go NoExp b n f j d = elim d [ ]
    go (MoreExp e NoExp) b n f j d = (e, d.0, d.1, inl (refl, d.2))
    go (MoreExp e (MoreExp y ys)) b n f j d = (e, d.0, d.1, inr (d.2.0, d.2.1, (MoreExp y ys, j, (d.2.2.0, d.2.2.1, d.2.2.2), (refl, refl))))

    up : (x : Exps) (b n f j : ℕ) (e : Exp) (m : ℕ) → Spells (given_tokens ts n f) (high w b) 1 e i m →
        Reads ts (Either (Done (MoreExp e NoExp)) (Word Comma (Here Exps (all_kind ts w) (λ es. Done (MoreExp e es))))) x b n f m j → SpellsAll (given_tokens ts n f) (high w b) x i j
    up x b n f j e m d (inl r) = subst (λ (z : Exps). SpellsAll (given_tokens ts n f) (high w b) z i j) (sym r.0) (m, d, r.1)
    up x b n f j e m d (inr r) = subst (λ (z : Exps). SpellsAll (given_tokens ts n f) (high w b) z i j) (sym r.2.3.0) (m, d, more r.2.0 r.2.2)
      where
        more : (zs : Exps) → SpellsAll (given_tokens ts n f) (high w b) zs r.0 r.2.1 → MoreExps (given_tokens ts n f) (high w b) zs m j
        more NoExp z = elim z [ ]
        more (MoreExp y ys) z = (r.0, r.1, (z.0, z.1, subst (λ (u : ℕ). MoreExps (given_tokens ts n f) (high w b) ys z.0 u) r.2.3.1 z.2))

-- these expressions, and then the rest
abbrev pub in_front : List Expr → Exps → Exps
in_front [] es = es
in_front (x ∷ xs) es = MoreExp (expr_view x) (in_front xs es)

pub in_front_snoc : (xs : List Expr) (x : Expr) (es : Exps) → in_front (xs ++ x ∷ []) es ≡ in_front xs (MoreExp (expr_view x) es)
in_front_snoc [] x es = refl
in_front_snoc (y ∷ ys) x es = ap (λ (z : Exps). MoreExp (expr_view y) z) (in_front_snoc ys x es)

pub in_front_none : (xs : List Expr) → in_front xs NoExp ≡ exprs_view xs
in_front_none [] = refl
in_front_none (y ∷ ys) = ap (λ (z : Exps). MoreExp (expr_view y) z) (in_front_none ys)

-- What is known in the loop: so many have been read, and a comma behind each.
abbrev pub Listed : List Token → Context → ℕ → List Expr → ℕ → ℕ → Type 0
Listed ts w i xs m h = Left Exps ts (all_lang ts w) exps_goes i (Here Exps (all_kind ts w) (λ es. Done (in_front xs es))) m h

exps_stop : (x : TokenClass) → exps_goes x ≡ false → goes_on 1 x ≡ false
exps_stop Comma e = refl
exps_stop _ e = e

pub listed_one : (ts : List Token) (w : Context) (i : ℕ) (xs : List Expr) (m h : ℕ) (e : Exp) (q k : ℕ) → Listed ts w i xs m h → ReadsExp ts w 1 m e q k →
    Left Exps ts (all_lang ts w) exps_goes i (Either (Done (in_front xs (MoreExp e NoExp))) (Word Comma (Here Exps (all_kind ts w) (λ es. Done (in_front xs (MoreExp e es)))))) q (max h k)
listed_one ts w i xs m h e q k l g =
    here_step {r = λ y. Either (Done (in_front xs (MoreExp y NoExp))) (Word Comma (Here Exps (all_kind ts w) (λ es. Done (in_front xs (MoreExp y es)))))}
    (inline l (list_starts ts w m) (λ es. follows_done ts exps_goes exps_goes (in_front xs es) (λ x y. y))) g.reading
    (λ y. follows_either ts exps_goes (goes_on 1) (Done (in_front xs (MoreExp y NoExp))) (Word Comma (Here Exps (all_kind ts w) (λ es. Done (in_front xs (MoreExp y es)))))
    (follows_done ts exps_goes (goes_on 1) (in_front xs (MoreExp y NoExp)) exps_stop) (follows_word ts exps_goes (goes_on 1) Comma (Here Exps (all_kind ts w) (λ es. Done (in_front xs (MoreExp y es)))) refl))

pub listed_fails : (ts : List Token) (w : Context) (i : ℕ) (xs : List Expr) (m h k p : ℕ) → Listed ts w i xs m h → Below h w.above → ReadsFault Exp ts (exp_lang ts w 1) (goes_on 1) w.above m k p → ReadsFault Exps ts (all_lang ts w) exps_goes w.above i k p
listed_fails ts w i xs m h k p l fits g =
    here_fails {r = λ y. Either (Done (in_front xs (MoreExp y NoExp))) (Word Comma (Here Exps (all_kind ts w) (λ es. Done (in_front xs (MoreExp y es)))))}
    (inline l (list_starts ts w m) (λ es. follows_done ts exps_goes exps_goes (in_front xs es) (λ x y. y))) fits g
    (λ y. follows_either ts exps_goes (goes_on 1) (Done (in_front xs (MoreExp y NoExp))) (Word Comma (Here Exps (all_kind ts w) (λ es. Done (in_front xs (MoreExp y es)))))
    (follows_done ts exps_goes (goes_on 1) (in_front xs (MoreExp y NoExp)) exps_stop) (follows_word ts exps_goes (goes_on 1) Comma (Here Exps (all_kind ts w) (λ es. Done (in_front xs (MoreExp y es)))) refl))

pub listed_more : (ts : List Token) (w : Context) (i : ℕ) (xs : List Expr) (m h : ℕ) (x : Expr) (q k : ℕ) → Listed ts w i xs m h → ReadsExp ts w 1 m (expr_view x) q k → class_at ts q ≡ Comma → Listed ts w i (xs ++ x ∷ []) (q + 1) (max h k)
listed_more ts w i xs m h x q k l g e =
    let P : TokenClass → Type 0 = λ s. exps_goes s ≡ true in
    let r : Left Exps ts (all_lang ts w) exps_goes i (Here Exps (all_kind ts w) (λ es. Done (in_front xs (MoreExp (expr_view x) es)))) (q + 1) (max h k) =
    word_step (second_way (listed_one ts w i xs m h (expr_view x) q k l g) (done_closed ts exps_goes q (in_front xs (MoreExp (expr_view x) NoExp)) (subst P (sym e) refl))) e in
    same r
  where
    same : Left Exps ts (all_lang ts w) exps_goes i (Here Exps (all_kind ts w) (λ es. Done (in_front xs (MoreExp (expr_view x) es)))) (q + 1) (max h k) → Listed ts w i (xs ++ x ∷ []) (q + 1) (max h k)
    same r = record {
      ordered = r.ordered;
      down = λ s b n f j lt d st. let y = r.down s b n f j lt d st in ((y.0.0, y.0.1, y.0.2, (y.0.3.0 ∙ sym (in_front_snoc xs x y.0.0), y.0.3.1)), y.1);
      up = λ s b n f j fits d. r.up s b n f j fits (d.0, d.1, d.2, (d.3.0 ∙ in_front_snoc xs x d.0, d.3.1));
    }

pub listed_end : (ts : List Token) (w : Context) (i : ℕ) (xs : List Expr) (m h : ℕ) (x : Expr) (q k : ℕ) → Listed ts w i xs m h → ReadsExp ts w 1 m (expr_view x) q k → class_at ts q ≢ Comma →
    Left Exps ts (all_lang ts w) exps_goes i (Done (exprs_view (xs ++ x ∷ []))) q (max h k)
listed_end ts w i xs m h x q k l g ne = record {
  ordered = r.ordered;
  down = λ s b n f j lt d st. let y = r.down s b n f j lt d st in ((y.0.0 ∙ same, y.0.1), y.1);
  up = λ s b n f j fits d. r.up s b n f j fits (d.0 ∙ sym same, d.1);
}
  where
    r : Left Exps ts (all_lang ts w) exps_goes i (Done (in_front xs (MoreExp (expr_view x) NoExp))) q (max h k)
    r = first_way (listed_one ts w i xs m h (expr_view x) q k l g) (word_closed ts exps_goes q Comma (Here Exps (all_kind ts w) (λ es. Done (in_front xs (MoreExp (expr_view x) es)))) ne)

    same : in_front xs (MoreExp (expr_view x) NoExp) ≡ exprs_view (xs ++ x ∷ [])
    same = sym (in_front_snoc xs x NoExp) ∙ in_front_none (xs ++ x ∷ [])

-- ---- arguments

abbrev pub open_rest : List Token → Context → Rest Exps
open_rest ts w = Either (Word RightParen (Done NoExp)) (Here Exps (all_kind ts w) (λ es. Word RightParen (Done es)))

pub open_starts : (ts : List Token) (w : Context) (i : ℕ) → class_at ts i ≡ LeftParen → (tok_at ts i).line ≡ (tok_at ts (pred i)).end_line → Left Exps ts (args_lang ts w) nothing i (open_rest ts w) (i + 1) 0
unfolding SpellsArgs SpellsAll Spells
open_starts ts w i e same = record {
  ordered = omega arith;
  down = λ x b n f j lt s st. (go x b n f j lt s, λ u. omega arith);
  up = λ x b n f j fits r. up x b n f j r;
}
  where
    opens' : (n f m : ℕ) → m ≡ i + 1 → (i < n → class_at ts i ≡ LeftParen) × (f ≡ 9 → i < n → (tok_at ts i).line ≡ (tok_at ts (pred i)).end_line) × (m ≡ suc i)
    opens' n f m q = ((λ lt. e), (λ u lt. same), q ∙ add-one i)

    go : (x : Exps) (b n f j : ℕ) → i + 1 < n → SpellsArgs (given_tokens ts n f) (high w b) x i j → Reads ts (open_rest ts w) x b n f (i + 1) j
    go NoExp b n f j lt d =
        inl (j, subst (λ (z : ℕ). word (given_tokens ts n f) RightParen z j) (d.1.2 ∙ sym (add-one i)) d.2, (refl, refl))
    go (MoreExp y ys) b n f j lt d = elim d [
      | inl z ↦ inr (MoreExp y ys, z.2.2.0, (z.2.0, subst (λ (u : ℕ). Spells (given_tokens ts n f) (high w b) 1 y u z.2.0) (z.1.2 ∙ sym (add-one i)) z.2.1, z.2.2.1), (j, z.2.2.2, (refl, refl)))
      | inr z ↦ absurd (no_alone y z)
    ]
      where
        no_alone : (v : Exp) → ((where' (IsAlone v ys) ⨟ Spells (given_tokens ts n f) (high w b) 9 v) i j) → ⊥
        no_alone (TextE line u) z =
            let P : ℕ → Type 0 = λ u. u < n → class_at ts u ≡ Text in
            let q : LeftParen ≡ Text = sym e ∙ subst P (sym (z.1.1 ∙ z.2.1.2)) (λ u. (z.2.2.0 u).0) (omega (arith, lt)) in cc
        no_alone (TableE line u) z =
            let P : ℕ → Type 0 = λ u. u < n → class_at ts u ≡ LeftBrace in
            let q : LeftParen ≡ LeftBrace = sym e ∙ subst P (sym (z.1.1 ∙ z.2.1.2)) z.2.2.1.0 (omega (arith, lt)) in cc
        no_alone _ z = z.1.0

    up : (x : Exps) (b n f j : ℕ) → Reads ts (open_rest ts w) x b n f (i + 1) j → SpellsArgs (given_tokens ts n f) (high w b) x i j
    up x b n f j (inl r) = subst (λ (z : Exps). SpellsArgs (given_tokens ts n f) (high w b) z i j) (sym r.2.0) (i + 1, opens' n f (i + 1) refl, subst (λ (z : ℕ). word (given_tokens ts n f) RightParen (i + 1) z) r.2.1 r.1)
    up x b n f j (inr r) = subst (λ (z : Exps). SpellsArgs (given_tokens ts n f) (high w b) z i j) (sym r.3.2.0) (all r.0 r.2)
      where
        all : (zs : Exps) → SpellsAll (given_tokens ts n f) (high w b) zs (i + 1) r.1 → SpellsArgs (given_tokens ts n f) (high w b) zs i j
        all NoExp z = elim z [ ]
        all (MoreExp y ys) z = inl (i + 1, opens' n f (i + 1) refl, (z.0, z.1, (r.1, z.2, subst (λ (u : ℕ). word (given_tokens ts n f) RightParen r.1 u) r.3.2.1 r.3.1)))

-- No expression begins with a `)`.
pub all_closed : (ts : List Token) (w : Context) (m : ℕ) → class_at ts m ≡ RightParen → Closed ts nothing m (Here Exps (all_kind ts w) (λ es. Word RightParen (Done es)))
unfolding SpellsAll
all_closed ts w m e s b n f j lt x st = go x.0 x.2
  where
    go : (zs : Exps) → SpellsAll (given_tokens ts n f) (high w b) zs m x.1 → ⊥
    go NoExp z = z
    go (MoreExp y ys) z = exp_form ts w n f b 1 y m z.0 (omega arith) lt z.1 (ap form e)

-- The `(` of a call on another line.
pub open_apart : (ts : List Token) (w : Context) (i : ℕ) → i < length ts → class_at ts i ≡ LeftParen → (tok_at ts i).line ≢ (tok_at ts (pred i)).end_line → ReadsFault Exps ts (args_lang ts w) nothing w.above i 9 i
unfolding SpellsArgs Spells
open_apart ts w i inside e ne = record {
  inside = inside;
  ordered = le_refl i;
  number = (omega arith, omega arith);
  reach = reach;
  dead = λ x b n j ab lt s st. go x b n j lt s;
}
  where
    reach : (n f : ℕ) → Before i 9 n f → (x : Exps) × (j : ℕ) × (n ≤ j) × args_lang ts w x w.above n f i j
    reach n f (inl y) = args_opens ts w w.above n f i (omega (arith, y))
    reach n f (inr y) = (NoExp, suc (suc i), omega (arith, y.0), (suc i, ((λ lt. e), (λ u lt. absurd (omega (arith, u, y.2))), refl), ((λ lt. absurd (omega (arith, lt, y.0))), refl)))

    go : (x : Exps) (b n j : ℕ) → i < n → SpellsArgs (given_tokens ts n 9) (high w b) x i j → ⊥
    go NoExp b n j lt d = ne (d.1.1 refl lt)
    go (MoreExp (TextE line u) ys) b n j lt d = elim d [
      | inl z ↦ ne (z.1.1 refl lt)
      | inr z ↦
          let P : ℕ → Type 0 = λ u. u < n → class_at ts u ≡ Text in
          let q : LeftParen ≡ Text = sym e ∙ subst P (sym (z.1.1 ∙ z.2.1.2)) (λ u. (z.2.2.0 u).0) lt in cc
    ]
    go (MoreExp (TableE line u) ys) b n j lt d = elim d [
      | inl z ↦ ne (z.1.1 refl lt)
      | inr z ↦
          let P : ℕ → Type 0 = λ u. u < n → class_at ts u ≡ LeftBrace in
          let q : LeftParen ≡ LeftBrace = sym e ∙ subst P (sym (z.1.1 ∙ z.2.1.2)) z.2.2.1.0 lt in cc
    ]
    go (MoreExp _ ys) b n j lt d = elim d [ inl z ↦ ne (z.1.1 refl lt) | inr z ↦ z.1.0 ]

-- A string or a table as the only argument.
pub alone_reading : (ts : List Token) (w : Context) (i : ℕ) (e : Exp) (q h : ℕ) → (class_at ts i ≡ Text) ⊎ (class_at ts i ≡ LeftBrace) → i < q → ReadsTree Exp ts (operand_lang ts w) nothing w.above i e q h →
    ReadsNonEmpty Exps ts (args_lang ts w) nothing w.above i (MoreExp e NoExp) q h
unfolding SpellsArgs
alone_reading ts w i e q h class grows g = record {
  grows = grows;
  reading = record {
    inside = g.inside;
    ordered = g.ordered;
    height = g.height;
    stands = λ b n f x.
        let r = g.stands b n f x in
        inr (i, (alone, refl), tight ts w n f b r.1 e i q r.0 r.2 (λ y. no_unary class (form_of ∙ y)) (λ y. no_unary_too class (form_of ∙ y)) (λ y. no_minus class (form_of ∙ y)) r.3);
    only = λ x b n f j lt s st. go x b n f j lt s;
  };
}
  where
    o : operand_lang ts w e w.above (suc q) 5 i q
    o = g.stands w.above (suc q) 5 (λ y. g.height)

    form_of : form (class_at ts i) ≡ form_exp e
    form_of = operand_form ts w (suc q) 5 w.above o.1 e i q (omega (arith, grows)) o.0 o.3

    no_unary : (class_at ts i ≡ Text) ⊎ (class_at ts i ≡ LeftBrace) → form (class_at ts i) ≡ 9 → ⊥
    no_unary (inl a) y = let z : form Text ≡ 9 = ap form (sym a) ∙ y in omega (arith, z)
    no_unary (inr a) y = let z : form LeftBrace ≡ 9 = ap form (sym a) ∙ y in omega (arith, z)

    no_unary_too : (class_at ts i ≡ Text) ⊎ (class_at ts i ≡ LeftBrace) → form (class_at ts i) ≡ 10 → ⊥
    no_unary_too (inl a) y = let z : form Text ≡ 10 = ap form (sym a) ∙ y in omega (arith, z)
    no_unary_too (inr a) y = let z : form LeftBrace ≡ 10 = ap form (sym a) ∙ y in omega (arith, z)

    no_minus : (class_at ts i ≡ Text) ⊎ (class_at ts i ≡ LeftBrace) → form (class_at ts i) ≡ 11 → ⊥
    no_minus (inl a) y = let z : form Text ≡ 11 = ap form (sym a) ∙ y in omega (arith, z)
    no_minus (inr a) y = let z : form LeftBrace ≡ 11 = ap form (sym a) ∙ y in omega (arith, z)

    is_alone : (x : Exp) → IsOperand x → (5 ≤ form_exp x) → (form_exp x ≤ 8) → (form_exp x ≡ 6 → ⊥) → (form_exp x ≡ 7 → ⊥) → IsAlone x NoExp
    is_alone (TextE line x) ox a b u v = tt
    is_alone (TableE line x) ox a b u v = tt
    is_alone (DotsE line) ox a b u v = absurd (u refl)
    is_alone (FunctionE line x) ox a b u v = absurd (v refl)
    is_alone (UnaryE line op x) ox a b u v = absurd (omega (arith, b, (unary_form op).0))
    is_alone (BinaryE line op x y) ox a b u v = elim ox [ ]
    is_alone _ ox a b u v = absurd (omega (arith, a, b))

    alone : IsAlone e NoExp
    alone = from class
      where
        from : (class_at ts i ≡ Text) ⊎ (class_at ts i ≡ LeftBrace) → IsAlone e NoExp
        from (inl a) = let z : 5 ≡ form_exp e = ap form (sym a) ∙ form_of in is_alone e o.0 (omega (arith, z)) (omega (arith, z)) (λ y. omega (arith, y, z)) (λ y. omega (arith, y, z))
        from (inr a) = let z : 8 ≡ form_exp e = ap form (sym a) ∙ form_of in is_alone e o.0 (omega (arith, z)) (omega (arith, z)) (λ y. omega (arith, y, z)) (λ y. omega (arith, y, z))

    no_open : class_at ts i ≡ LeftParen → ⊥
    no_open y = from class
      where
        from : (class_at ts i ≡ Text) ⊎ (class_at ts i ≡ LeftBrace) → ⊥
        from (inl a) = let z : LeftParen ≡ Text = sym y ∙ a in cc
        from (inr a) = let z : LeftParen ≡ LeftBrace = sym y ∙ a in cc

    one : (b n f j : ℕ) → q < n → (y : Exp) (ys : Exps) → IsAlone y ys → Spells (given_tokens ts n f) (high w b) 9 y i j → (MoreExp y ys ≡ MoreExp e NoExp) × (j ≡ q) × (f ≡ 7 → Below h b)
    one b n f j lt (TextE line u) NoExp a d = let r = g.only (TextE line u) b n f j lt (tt, 9, le_refl 9, d, tt) (λ z. refl) in (ap (λ (z : Exp). MoreExp z NoExp) r.0, r.1, r.2)
    one b n f j lt (TableE line u) NoExp a d = let r = g.only (TableE line u) b n f j lt (tt, 9, le_refl 9, d, tt) (λ z. refl) in (ap (λ (z : Exp). MoreExp z NoExp) r.0, r.1, r.2)
    one b n f j lt _ _ a d = elim a [ ]

    go : (x : Exps) (b n f j : ℕ) → q < n → SpellsArgs (given_tokens ts n f) (high w b) x i j → (x ≡ MoreExp e NoExp) × (j ≡ q) × (f ≡ 7 → Below h b)
    go NoExp b n f j lt d = absurd (no_open (d.1.0 (omega (arith, lt, grows))))
    go (MoreExp y ys) b n f j lt d = elim d [
      | inl z ↦ absurd (no_open (z.1.0 (omega (arith, lt, grows))))
      | inr z ↦ one b n f j lt y ys z.1.0 (subst (λ (u : ℕ). Spells (given_tokens ts n f) (high w b) 9 y u j) (sym z.1.1) z.2)
    ]

pub alone_fails : (ts : List Token) (w : Context) (i k p : ℕ) → class_at ts i ≡ LeftBrace → ReadsFault Exp ts (operand_lang ts w) nothing w.above i k p → ReadsFault Exps ts (args_lang ts w) nothing w.above i k p
unfolding SpellsArgs
alone_fails ts w i k p class g = record {
  inside = g.inside;
  ordered = g.ordered;
  number = g.number;
  reach = reach;
  dead = λ x b n j ab lt s st. go x b n j ab lt s;
}
  where
    table : (n f j : ℕ) (x : Exp) → i < n → n ≤ j → operand_lang ts w x w.above n f i j → (z : Exps) × (y : ℕ) × (n ≤ y) × args_lang ts w z w.above n f i y
    table n f j x lt le o = pick x (ap form (sym class) ∙ operand_form ts w n f w.above o.1 x i j lt o.0 o.3) o.0 o.3
      where
        pick : (y : Exp) → 8 ≡ form_exp y → IsOperand y → Spells (given_tokens ts n f) (high w w.above) o.1 y i j → (z : Exps) × (u : ℕ) × (n ≤ u) × args_lang ts w z w.above n f i u
        pick (TableE line u) c oy d = (MoreExp (TableE line u) NoExp, j, le, inr (i, (tt, refl), tight ts w n f w.above o.1 (TableE line u) i j tt o.2 (λ v. omega (arith, v)) (λ v. omega (arith, v)) (λ v. omega (arith, v)) d))
        pick (UnaryE line op u) c oy d = absurd (omega (arith, c, (unary_form op).0))
        pick (BinaryE line op u v) c oy d = elim oy [ ]
        pick _ c oy d = absurd (omega (arith, c))

    reach : (n f : ℕ) → Before p k n f → (x : Exps) × (j : ℕ) × (n ≤ j) × args_lang ts w x w.above n f i j
    reach n f (inl e) = here (eq-or-lt_of_le g.ordered)
      where
        here : (i ≡ p) ⊎ (i < p) → (x : Exps) × (j : ℕ) × (n ≤ j) × args_lang ts w x w.above n f i j
        here (inl q) = args_opens ts w w.above n f i (omega (arith, e, q))
        here (inr q) = let r = g.reach n f (inl e) in table n f r.1 r.0 (omega (arith, e, q)) r.2 r.3
    reach n f (inr e) = let r = g.reach n f (inr e) in table n f r.1 r.0 (omega (arith, e.0, g.ordered)) r.2 r.3

    no_open : (n : ℕ) → i < n → (i < n → class_at ts i ≡ LeftParen) → ⊥
    no_open n lt h = let z : LeftParen ≡ LeftBrace = sym (h lt) ∙ class in cc

    go : (x : Exps) (b n j : ℕ) → w.above ≤ b → p < n → SpellsArgs (given_tokens ts n k) (high w b) x i j → ⊥
    go NoExp b n j ab lt d = no_open n (lt_of_le_of_lt g.ordered lt) d.1.0
    go (MoreExp y ys) b n j ab lt d = elim d [
      | inl z ↦ no_open n (lt_of_le_of_lt g.ordered lt) z.1.0
      | inr z ↦ one y ys z.1.0 (subst (λ (u : ℕ). Spells (given_tokens ts n k) (high w b) 9 y u j) (sym z.1.1) z.2)
    ]
      where
        one : (v : Exp) (vs : Exps) → IsAlone v vs → Spells (given_tokens ts n k) (high w b) 9 v i j → ⊥
        one (TextE line u) NoExp a s = g.dead (TextE line u) b n j ab lt (tt, 9, le_refl 9, s, tt) (λ z. refl)
        one (TableE line u) NoExp a s = g.dead (TableE line u) b n j ab lt (tt, 9, le_refl 9, s, tt) (λ z. refl)
        one _ _ a s = elim a [ ]

pub text_deep : (ts : List Token) (w : Context) (i : ℕ) → i < length ts → class_at ts i ≡ Text → 200 < w.above → ReadsFault Exps ts (args_lang ts w) nothing w.above i 7 i
unfolding SpellsArgs Spells IsArgs
text_deep ts w i inside class over = record {
  inside = inside;
  ordered = le_refl i;
  number = (omega arith, omega arith);
  reach = reach;
  dead = λ x b n j ab lt s st. go x b n j ab lt s;
}
  where
    reach : (n f : ℕ) → Before i 7 n f → (x : Exps) × (j : ℕ) × (n ≤ j) × args_lang ts w x w.above n f i j
    reach n f (inl e) = args_opens ts w w.above n f i (omega (arith, e))
    reach n f (inr e) =
        let Q : ℕ → Type 0 = λ v. (x : Exps) × (j : ℕ) × (v ≤ j) × args_lang ts w x w.above v f i j in
        subst Q (sym e.0) (args_can ts w i w.above f (inr (inl class)) e.2)

    no_open : (n : ℕ) → i < n → (i < n → class_at ts i ≡ LeftParen) → ⊥
    no_open n lt h = let z : LeftParen ≡ Text = sym (h lt) ∙ class in cc

    go : (x : Exps) (b n j : ℕ) → w.above ≤ b → i < n → SpellsArgs (given_tokens ts n 7) (high w b) x i j → ⊥
    go NoExp b n j ab lt d = no_open n lt d.1.0
    go (MoreExp (TextE line u) ys) b n j ab lt d = elim d [
      | inl z ↦ no_open n lt z.1.0
      | inr z ↦
          let P : ℕ → Type 0 = λ v. 7 ≡ 7 → v < n → b ≤ 200 in
          let r : b ≤ 200 = subst P (sym z.1.1) z.2.1.1 refl lt in omega (arith, r, ab, over)
    ]
    go (MoreExp (TableE line u) ys) b n j ab lt d = elim d [
      | inl z ↦ no_open n lt z.1.0
      | inr z ↦
          let P : ℕ → Type 0 = λ v. 7 ≡ 7 → v < n → b ≤ 200 in
          let r : b ≤ 200 = subst P (sym z.1.1) z.2.1.1 refl lt in omega (arith, r, ab, over)
    ]
    go (MoreExp _ ys) b n j ab lt d = elim d [ inl z ↦ no_open n lt z.1.0 | inr z ↦ z.1.0 ]

pub no_args : (ts : List Token) (w : Context) (i : ℕ) → class_at ts i ≢ LeftParen → class_at ts i ≢ Text → class_at ts i ≢ LeftBrace → (x : Exps) (b n f j : ℕ) → i < n → args_lang ts w x b n f i j → Stops ts nothing n j → ⊥
unfolding IsArgs
no_args ts w i e1 e2 e3 x b n f j lt s st = go (args_begin ts w n f b x i j lt s)
  where
    go : IsArgs (class_at ts i) → ⊥
    go (inl e) = e1 e
    go (inr (inl e)) = e2 e
    go (inr (inr e)) = e3 e

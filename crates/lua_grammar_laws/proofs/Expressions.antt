-- Operands, suffixes, arguments and lists are unique where what they are made of is unique behind their first token.
use Rattle.std.proofs.Common.{◌≡◌, ◌≢◌, ℕ, suc, ◌+◌, ◌<◌, ◌≤◌, ◌⊎◌, Bool, true, false, List, length, refl, sym, ap, subst, ◌∙◌, inl, inr, le_refl, arith, true≢false, add-one, Some}
use Rattle.std.specs.Prelude.{ℤ}
use Rattle.lua_reading.proofs.WkBaseOptions.{some_same}
use Rattle.lua_reading.specs.LuaLexerDeclaredTokenToken.{Token}
use Rattle.lua_reading.specs.LuaNumberNumerals.{read_numeral_of}
use Rattle.lua_reading.specs.LuaSyntaxDeclaredUnaryOp.{UnaryOp}
use Rattle.lua_reading.specs.LuaSyntaxDeclaredUnaryOpTheVariants.{Not as NotOp, Len, Minus as MinusOp}
use Rattle.lua_reading.specs.LuaGrammarDeclaredTokenClass.{TokenClass}
use Rattle.lua_reading.specs.LuaGrammarDeclaredTokenClassTheVariants.{Name, Number, Text, Nil, True, False, Dots, Function, Not, Hash, Minus, LeftParen, RightParen, LeftBrace, RightBrace, LeftBracket, RightBracket, Colon, Comma, Dot}
use Rattle.lua_reading.specs.LuaGrammarDeclaredContext.{Context}
use Rattle.lua_reading.specs.LuaGrammarTokens.{class_at, tok_at, bytes_of}
use Rattle.lua_reading.specs.LuaSyntaxTree.{Exp, Exps, NumberE, TextE, DotsE, TableE, BinaryE, UnaryE, NoExp, MoreExp}
use Rattle.lua_reading.specs.LuaGrammarGrammar.{given_tokens, ◌⨟◌, where', word, Spells, SpellsArgs, SpellsAll, IsPrefix, IsAlone, sign_of, suffix_goes}
use Rattle.lua_reading.specs.Parsing.{Stops, high, exp_lang, prefix_lang, args_lang, all_lang, operand_lang, nothing, goes_on, exps_goes, fields_goes, IsOperand}
use Rattle.lua_reading.specs.Answers.{primary_lang, suffix_lang, name_lang}
use Rattle.lua_reading.proofs.pieces.Steps.{Done, Word, Here, Reads, follows_word, follows_done, follows_either, follows_nothing}
use Rattle.lua_reading.proofs.pieces.Kinds.{all_kind}
use Rattle.lua_reading.proofs.levels.Climb.{no_suffix}
use Rattle.lua_reading.proofs.levels.Suffixes.{IsArgs, suffix_split, dot_starts, bracket_starts, colon_starts, call_starts}
use Rattle.lua_reading.proofs.expressions.Operands.{form, operand_form, prefix_of_form, to_ten}
use Rattle.lua_reading.proofs.expressions.Atoms.{unary_form, nil_starts, true_starts, false_starts, text_starts, unary_starts, table_starts, function_starts, closed_kind}
use Rattle.lua_reading.proofs.lists.ExpressionLists.{name_starts, paren_starts, no_primary, key_starts, no_key, exp_form, list_starts, open_rest, all_closed}
use Rattle.lua_reading.proofs.statements.Begins.{inner}
use Rattle.lua_grammar_laws.proofs.Rests.{EndsText, next_token, Unique, relax, other, is_name, Apart, done_apart, from_left, from_reads, from_here, from_under, from_token, Sure}

-- ---- operands

dots_is : (ts : List Token) (w : Context) (i : ℕ) → i < length ts → class_at ts i ≡ Dots → (x : Exp) (b j : ℕ) → operand_lang ts w x b (length ts) 6 i j → (x ≡ DotsE (tok_at ts i).line) × (j ≡ suc i)
unfolding Spells
dots_is ts w i lt e x b j d = go x d.0 d.1 d.3
  where
    go : (x : Exp) → IsOperand x → (v : ℕ) → Spells (given_tokens ts (length ts) 6) (high w b) v x i j → (x ≡ DotsE (tok_at ts i).line) × (j ≡ suc i)
    go (DotsE line) o v s = (ap DotsE s.1.0, s.2.2 ∙ ap suc (sym s.1.2))
    go (BinaryE line op t r) o v s = elim o [ ]
    go (UnaryE line op z) o v s = let q = ap form (sym e) ∙ operand_form ts w (length ts) 6 b v (UnaryE line op z) i j lt o s in absurd (omega (arith, q, (unary_form op).0))
    go z o v s = let q = ap form (sym e) ∙ operand_form ts w (length ts) 6 b v z i j lt o s in absurd (omega (arith, q))

-- A numeral with its value.
abbrev IsNumber : List Token → ℕ → Exp → ℕ → Type 0
IsNumber ts i x j = (u : ℤ) × (x ≡ NumberE (tok_at ts i).line u) × (read_numeral_of (bytes_of (tok_at ts i)) ≡ Some u) × (j ≡ suc i)

number_is : (ts : List Token) (w : Context) (i : ℕ) → i < length ts → class_at ts i ≡ Number → (x : Exp) (b j : ℕ) → operand_lang ts w x b (length ts) 6 i j → IsNumber ts i x j
unfolding Spells
number_is ts w i lt e x b j d = go x d.0 d.1 d.3
  where
    go : (x : Exp) → IsOperand x → (v : ℕ) → Spells (given_tokens ts (length ts) 6) (high w b) v x i j → IsNumber ts i x j
    go (NumberE line u) o v s =
        let P : ℕ → Type 0 = λ z. z < length ts → read_numeral_of (bytes_of (tok_at ts z)) ≡ Some u in
        (u, ap (λ (z : ℕ). NumberE z u) s.1.0, subst P (sym s.1.2) (s.2.1 refl) lt, s.2.2 ∙ ap suc (sym s.1.2))
    go (BinaryE line op t r) o v s = elim o [ ]
    go (UnaryE line op z) o v s = let q = ap form (sym e) ∙ operand_form ts w (length ts) 6 b v (UnaryE line op z) i j lt o s in absurd (omega (arith, q, (unary_form op).0))
    go z o v s = let q = ap form (sym e) ∙ operand_form ts w (length ts) 6 b v z i j lt o s in absurd (omega (arith, q))

number_once : (ts : List Token) (w : Context) (i : ℕ) → EndsText ts → i < length ts → class_at ts i ≡ Number → Unique 1 Exp ts (operand_lang ts w) nothing i
number_once ts w i ends lt e = record { same = λ x y b c j k dx sx dy sy. go x y j k (number_is ts w i lt e x b j dx) (number_is ts w i lt e y c k dy) }
  where
    go : (x y : Exp) (j k : ℕ) → IsNumber ts i x j → IsNumber ts i y k → (x ≡ y) × (j ≡ k) × (1 + i ≤ j) × (j < length ts)
    go x y j k u v =
        let value : u.0 ≡ v.0 = some_same u.0 v.0 (sym u.2 ∙ v.2) in
        (u.1 ∙ ap (λ (z : ℤ). NumberE (tok_at ts i).line z) value ∙ sym v.1, u.3 ∙ sym v.3, omega (arith, u.3), omega (arith, u.3, next_token ts i Number ends lt e refl))

prefix_operand : (ts : List Token) (w : Context) (i : ℕ) → i < length ts → form (class_at ts i) ≡ 12 → Unique 1 Exp ts (prefix_lang ts w) suffix_goes i → Unique 1 Exp ts (operand_lang ts w) nothing i
prefix_operand ts w i lt c u = record { same = λ x y b d j k dx sx dy sy. u.same x y b d j k (is x b j dx) (stops x b j dx) (is y d k dy) (stops y d k dy) }
  where
    of_prefix : (x : Exp) (b j : ℕ) → operand_lang ts w x b (length ts) 6 i j → IsPrefix x
    of_prefix x b j d = prefix_of_form x d.0 (sym (operand_form ts w (length ts) 6 b d.1 x i j lt d.0 d.3) ∙ c)

    is : (x : Exp) (b j : ℕ) → operand_lang ts w x b (length ts) 6 i j → prefix_lang ts w x b (length ts) 6 i j
    is x b j d = (of_prefix x b j d, to_ten ts w (length ts) 6 b d.1 x i j (of_prefix x b j d) d.3)

    stops : (x : Exp) (b j : ℕ) → operand_lang ts w x b (length ts) 6 i j → Stops ts suffix_goes (length ts) j
    stops x b j d z = no_suffix ts w (length ts) 6 b d.1 i j x d.2 z (of_prefix x b j d) d.3

unary_once : (ts : List Token) (w : Context) (i : ℕ) (op : UnaryOp) → EndsText ts → i + 1 < length ts → class_at ts i ≡ sign_of op → Sure ts (i + 1) → Unique 1 Exp ts (operand_lang ts w) nothing i
unary_once ts w i op ends inside e s =
    from_left ends (unary_starts ts w i op e) inside (omega arith) (nothing, closed, (λ x. follows_nothing ts nothing _), λ x. tt)
  where
    closed : (m : ℕ) → i + 1 ≤ m → m < length ts → Unique 0 Exp ts (closed_kind ts w).lang nothing m
    closed m lo lt = record { same = λ x y b c j k dx sx dy sy. (s.exp w 7 (le_refl 7) m lo lt).same x y b c j k dx.0 dx.1 dy.0 dy.1 }

-- An operand, where a prefix expression at its place is unique.
pub operand_once : (ts : List Token) (w : Context) (i : ℕ) → EndsText ts → i < length ts → Sure ts (i + 1) → Unique 1 Exp ts (prefix_lang ts w) suffix_goes i → Unique 1 Exp ts (operand_lang ts w) nothing i
operand_once ts w i ends lt s prefix = go (class_at ts i) refl
  where
    next : (v : TokenClass) → class_at ts i ≡ v → inner v ≡ true → i + 1 < length ts
    next v e h = next_token ts i v ends lt e h

    go : (v : TokenClass) → class_at ts i ≡ v → Unique 1 Exp ts (operand_lang ts w) nothing i
    go Nil e = from_left ends (nil_starts ts w i e) (next Nil e refl) (omega arith) tt
    go True e = from_left ends (true_starts ts w i e) (next True e refl) (omega arith) tt
    go False e = from_left ends (false_starts ts w i e) (next False e refl) (omega arith) tt
    go Text e = from_left ends (text_starts ts w i e) (next Text e refl) (omega arith) tt
    go Number e = number_once ts w i ends lt e
    go Dots e = from_token (DotsE (tok_at ts i).line) (next Dots e refl) (dots_is ts w i lt e)
    go Function e = from_left ends (function_starts ts w i e) (next Function e refl) (omega arith) (nothing, s.body false w, (λ x. follows_nothing ts nothing _), λ x. tt)
    go LeftBrace e = from_left ends (table_starts ts w i e) (next LeftBrace e refl) (omega arith) (fields_goes, s.fields w, (λ x. follows_word ts nothing fields_goes RightBrace _ refl), λ x. (refl, tt))
    go Not e = unary_once ts w i NotOp ends (next Not e refl) e s
    go Hash e = unary_once ts w i Len ends (next Hash e refl) e s
    go Minus e = unary_once ts w i MinusOp ends (next Minus e refl) e s
    go Name e = prefix_operand ts w i lt (ap form e) prefix
    go LeftParen e = prefix_operand ts w i lt (ap form e) prefix
    go _ e = record { same = λ x y b c j k dx sx dy sy. absurd (exp_form ts w (length ts) 6 b dx.1 x i j dx.2 lt dx.3 (ap form e)) }

-- ---- prefix expressions

abbrev is_paren : TokenClass → Bool
is_paren LeftParen = true
is_paren s = false

pub primary_once : (ts : List Token) (w : Context) (i : ℕ) → EndsText ts → i < length ts → Sure ts (i + 1) → Unique 1 Exp ts (primary_lang ts w) nothing i
primary_once ts w i ends lt s = go (class_at ts i) refl
  where
    none : class_at ts i ≢ Name → class_at ts i ≢ LeftParen → Unique 1 Exp ts (primary_lang ts w) nothing i
    none a b = record { same = λ x y d c j k dx sx dy sy. absurd (no_primary ts w i a b x d (length ts) 6 j lt dx sx) }

    go : (v : TokenClass) → class_at ts i ≡ v → Unique 1 Exp ts (primary_lang ts w) nothing i
    go Name e = from_left ends (name_starts ts w i e) (next_token ts i Name ends lt e refl) (omega arith) tt
    go LeftParen e =
        from_left ends (paren_starts ts w i e) (next_token ts i LeftParen ends lt e refl) (omega arith)
        (goes_on 1, s.exp w 1 (omega arith), (λ x. follows_word ts nothing (goes_on 1) RightParen _ refl), λ x. (refl, tt))
    go v e = none (other is_name e refl refl) (other is_paren e refl refl)

-- A name that is a text.
pub key_once : (ts : List Token) (w : Context) (i : ℕ) → EndsText ts → i < length ts → Unique 1 Exp ts (name_lang ts w) nothing i
key_once ts w i ends lt = go (class_at ts i) refl
  where
    none : class_at ts i ≢ Name → Unique 1 Exp ts (name_lang ts w) nothing i
    none a = record { same = λ x y b c j k dx sx dy sy. absurd (no_key ts w i a x b (length ts) 6 j lt dx sx) }

    go : (v : TokenClass) → class_at ts i ≡ v → Unique 1 Exp ts (name_lang ts w) nothing i
    go Name e = from_left ends (key_starts ts w i e) (next_token ts i Name ends lt e refl) (omega arith) tt
    go v e = none (other is_name e refl refl)

-- What an index, a call or a method begins with.
suffix_begins : (ts : List Token) (w : Context) (left : Exp) (i : ℕ) → i < length ts → (x : Exp) (b j : ℕ) → suffix_lang ts w left x b (length ts) 6 i j → suffix_goes (class_at ts i) ≡ true
unfolding IsArgs
suffix_begins ts w left i lt x b j d = elim (suffix_split ts w (length ts) 6 b left x i j lt d) [
  | inl y ↦ ap suffix_goes y.0
  | inr y ↦ elim y [ inl z ↦ ap suffix_goes z.0 | inr z ↦ elim z [ inl u ↦ ap suffix_goes u.0 | inr u ↦ args u.0 ] ]
]
  where
    args : (class_at ts i ≡ LeftParen) ⊎ ((class_at ts i ≡ Text) ⊎ (class_at ts i ≡ LeftBrace)) → suffix_goes (class_at ts i) ≡ true
    args (inl e) = ap suffix_goes e
    args (inr (inl e)) = ap suffix_goes e
    args (inr (inr e)) = ap suffix_goes e

pub suffix_once : (ts : List Token) (w : Context) (left : Exp) (i : ℕ) → EndsText ts → i < length ts → Sure ts (i + 1) → Unique 1 Exps ts (args_lang ts w) nothing i → Unique 1 Exp ts (suffix_lang ts w left) nothing i
unfolding IsArgs
suffix_once ts w left i ends lt s args = go (class_at ts i) refl
  where
    call : (class_at ts i ≡ LeftParen) ⊎ ((class_at ts i ≡ Text) ⊎ (class_at ts i ≡ LeftBrace)) → Unique 1 Exp ts (suffix_lang ts w left) nothing i
    call a = from_under nothing ends (call_starts ts w left i a) lt args (λ x. follows_nothing ts nothing _) (λ x. tt)

    go : (v : TokenClass) → class_at ts i ≡ v → Unique 1 Exp ts (suffix_lang ts w left) nothing i
    go Dot e =
        from_left ends (dot_starts ts w left i e) (next_token ts i Dot ends lt e refl) (omega arith)
        (nothing, (λ m lo lt2. relax (key_once ts w m ends lt2)), (λ x. follows_nothing ts nothing _), λ x. tt)
    go LeftBracket e =
        from_left ends (bracket_starts ts w left i e) (next_token ts i LeftBracket ends lt e refl) (omega arith)
        (goes_on 1, s.exp w 1 (omega arith), (λ x. follows_word ts nothing (goes_on 1) RightBracket _ refl), λ x. (refl, tt))
    go Colon e =
        from_left ends (colon_starts ts w left i e) (next_token ts i Colon ends lt e refl) (omega arith)
        (refl, λ n. (nothing, s.args w, (λ x. follows_nothing ts nothing _), λ x. tt))
    go LeftParen e = call (inl e)
    go Text e = call (inr (inl e))
    go LeftBrace e = call (inr (inr e))
    go v e = record { same = λ x y b c j k dx sx dy sy. absurd (true≢false (sym (suffix_begins ts w left i lt x b j dx) ∙ ap suffix_goes e)) }

-- ---- arguments

open_reads : (ts : List Token) (w : Context) (i : ℕ) → i + 1 < length ts → class_at ts i ≡ LeftParen → (x : Exps) (b j : ℕ) → args_lang ts w x b (length ts) 6 i j → Reads ts (open_rest ts w) x b (length ts) 6 (i + 1) j
unfolding SpellsArgs SpellsAll Spells
open_reads ts w i lt e NoExp b j d = inl (j, subst (λ (z : ℕ). word (given_tokens ts (length ts) 6) RightParen z j) (d.1.2 ∙ sym (add-one i)) d.2, (refl, refl))
open_reads ts w i lt e (MoreExp y ys) b j d = elim d [
  | inl z ↦ inr (MoreExp y ys, z.2.2.0, (z.2.0, subst (λ (u : ℕ). Spells (given_tokens ts (length ts) 6) (high w b) 1 y u z.2.0) (z.1.2 ∙ sym (add-one i)) z.2.1, z.2.2.1), (j, z.2.2.2, (refl, refl)))
  | inr z ↦ absurd (no_alone y z)
]
  where
    no_alone : (v : Exp) → ((where' (IsAlone v ys) ⨟ Spells (given_tokens ts (length ts) 6) (high w b) 9 v) i j) → ⊥
    no_alone (TextE line u) z =
        let P : ℕ → Type 0 = λ u. u < length ts → class_at ts u ≡ Text in
        let q : LeftParen ≡ Text = sym e ∙ subst P (sym (z.1.1 ∙ z.2.1.2)) (λ u. (z.2.2.0 u).0) (omega (arith, lt)) in cc
    no_alone (TableE line u) z =
        let P : ℕ → Type 0 = λ u. u < length ts → class_at ts u ≡ LeftBrace in
        let q : LeftParen ≡ LeftBrace = sym e ∙ subst P (sym (z.1.1 ∙ z.2.1.2)) z.2.2.1.0 (omega (arith, lt)) in cc
    no_alone _ z = z.1.0

open_once : (ts : List Token) (w : Context) (i : ℕ) → EndsText ts → i < length ts → class_at ts i ≡ LeftParen → Sure ts (i + 1) → Unique 1 Exps ts (args_lang ts w) nothing i
open_once ts w i ends lt e s = from_reads (open_rest ts w) ends (λ x b j d st. open_reads ts w i inside e x b j d) inside (omega arith) (apart, (refl, tt), (exps_goes, s.all w, (λ es. follows_word ts nothing exps_goes RightParen _ refl), λ es. (refl, tt)))
  where
    inside : i + 1 < length ts
    inside = next_token ts i LeftParen ends lt e refl

    apart : Apart Exps ts nothing (i + 1) (Word RightParen (Done NoExp)) (Here Exps (all_kind ts w) (λ es. Word RightParen (Done es)))
    apart = record { shut = λ m lo lt2 x y b c j k dx sx dy sy. all_closed ts w m (dx.1.0 lt2) y c (length ts) 6 k lt2 dy sy }

-- A string or a table as the only argument.
abbrev IsOne : List Token → Context → ℕ → Exps → ℕ → ℕ → Type 0
IsOne ts w i x b j = (e : Exp) × (x ≡ MoreExp e NoExp) × operand_lang ts w e b (length ts) 6 i j

alone_is : (ts : List Token) (w : Context) (i : ℕ) → i < length ts → class_at ts i ≢ LeftParen → (x : Exps) (b j : ℕ) → args_lang ts w x b (length ts) 6 i j → IsOne ts w i x b j
unfolding SpellsArgs
alone_is ts w i lt ne NoExp b j d = absurd (ne (d.1.0 lt))
alone_is ts w i lt ne (MoreExp y ys) b j d = elim d [
  | inl z ↦ absurd (ne (z.1.0 lt))
  | inr z ↦ one y ys z.1.0 (subst (λ (u : ℕ). Spells (given_tokens ts (length ts) 6) (high w b) 9 y u j) (sym z.1.1) z.2)
]
  where
    one : (v : Exp) (vs : Exps) → IsAlone v vs → Spells (given_tokens ts (length ts) 6) (high w b) 9 v i j → IsOne ts w i (MoreExp v vs) b j
    one (TextE line u) NoExp a d = (TextE line u, refl, (tt, 9, le_refl 9, d, tt))
    one (TableE line u) NoExp a d = (TableE line u, refl, (tt, 9, le_refl 9, d, tt))
    one _ _ a d = elim a [ ]

alone_once : (ts : List Token) (w : Context) (i : ℕ) → i < length ts → class_at ts i ≢ LeftParen → Unique 1 Exp ts (operand_lang ts w) nothing i → Unique 1 Exps ts (args_lang ts w) nothing i
alone_once ts w i lt ne u = record { same = λ x y b c j k dx sx dy sy. go x y b c j k (alone_is ts w i lt ne x b j dx) (alone_is ts w i lt ne y c k dy) }
  where
    go : (x y : Exps) (b c j k : ℕ) → IsOne ts w i x b j → IsOne ts w i y c k → (x ≡ y) × (j ≡ k) × (1 + i ≤ j) × (j < length ts)
    go x y b c j k p q =
        let o = u.same p.0 q.0 b c j k p.2 (λ z. refl) q.2 (λ z. refl) in
        (p.1 ∙ ap (λ (z : Exp). MoreExp z NoExp) o.0 ∙ sym q.1, o.1, o.2, o.3)

pub args_once : (ts : List Token) (w : Context) (i : ℕ) → EndsText ts → i < length ts → Sure ts (i + 1) → Unique 1 Exp ts (operand_lang ts w) nothing i → Unique 1 Exps ts (args_lang ts w) nothing i
args_once ts w i ends lt s operand = go (class_at ts i) refl
  where
    go : (v : TokenClass) → class_at ts i ≡ v → Unique 1 Exps ts (args_lang ts w) nothing i
    go LeftParen e = open_once ts w i ends lt e s
    go v e = alone_once ts w i lt (other is_paren e refl refl) operand

-- ---- lists of expressions

exps_stop : (x : TokenClass) → exps_goes x ≡ false → goes_on 1 x ≡ false
exps_stop Comma e = refl
exps_stop _ e = e

pub all_once : (ts : List Token) (w : Context) (i : ℕ) → EndsText ts → i < length ts → Sure ts (i + 1) → Unique 1 Exp ts (exp_lang ts w 1) (goes_on 1) i → Unique 1 Exps ts (all_lang ts w) exps_goes i
all_once ts w i ends lt s exp =
    from_here (goes_on 1) ends (list_starts ts w i) lt exp
    (λ e. follows_either ts exps_goes (goes_on 1) _ _ (follows_done ts exps_goes (goes_on 1) _ exps_stop) (follows_word ts exps_goes (goes_on 1) Comma _ refl))
    (λ e. (done_apart refl, tt, (refl, (exps_goes, s.all w, (λ es. follows_done ts exps_goes exps_goes _ (λ x z. z)), λ es. tt))))

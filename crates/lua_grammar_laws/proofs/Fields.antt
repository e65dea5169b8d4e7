-- Fields of table constructors are unique where expressions are.
use Rattle.std.proofs.Common.{◌≡◌, ◌≢◌, ℕ, suc, ◌+◌, ◌<◌, ◌≤◌, Bool, true, false, List, length, refl, sym, ap, subst, ◌∙◌, inl, inr, arith, true≢false, add-one}
use Rattle.lua_reading.specs.LuaLexerDeclaredTokenToken.{Token}
use Rattle.lua_reading.specs.LuaGrammarDeclaredTokenClass.{TokenClass}
use Rattle.lua_reading.specs.LuaGrammarDeclaredTokenClassTheVariants.{Name, LeftBracket, RightBracket, RightBrace, Assign}
use Rattle.lua_reading.specs.LuaGrammarDeclaredContext.{Context}
use Rattle.lua_reading.specs.LuaGrammarTokens.{class_at}
use Rattle.lua_reading.specs.LuaSyntaxTree.{Exp, Fields, TextE, NoField, Item, Pair}
use Rattle.lua_reading.specs.LuaGrammarGrammar.{SpellsFields}
use Rattle.lua_reading.specs.Parsing.{Stops, high, exp_lang, fields_lang, nothing, goes_on, fields_goes}
use Rattle.lua_reading.specs.Answers.{field_lang, field_goes, IsItem}
use Rattle.lua_reading.proofs.pieces.Steps.{Rest, Done, Here, Either, Follows, follows_word, follows_done, follows_nothing}
use Rattle.lua_reading.proofs.pieces.Kinds.{fields_kind}
use Rattle.lua_reading.proofs.expressions.Operands.{form}
use Rattle.lua_reading.proofs.lists.ExpressionLists.{exp_form}
use Rattle.lua_reading.proofs.lists.Fields.{bracket_field_starts, key_field_starts, fields_start, separator_lang, separator_kind, join, IsSeparator}
use Rattle.lua_reading.proofs.statements.Begins.{inner}
use Rattle.lua_grammar_laws.proofs.Rests.{EndsText, next_token, Unique, relax, other, is_name, Apart, from_left, from_here, Sure}

-- ---- one field

field_stop : (s : TokenClass) → field_goes s ≡ false → goes_on 1 s ≡ false
field_stop Assign e = refl
field_stop _ e = e

-- An expression as a field.
abbrev IsExp : List Token → Context → ℕ → Fields → ℕ → ℕ → Type 0
IsExp ts w i x b j = (e : Exp) × (x ≡ Item e NoField) × exp_lang ts w 1 e b (length ts) 6 i j

item_is : (ts : List Token) (w : Context) (i : ℕ) → EndsText ts → i < length ts → class_at ts i ≢ LeftBracket → IsItem ts i → (x : Fields) (b j : ℕ) → field_lang ts w x b (length ts) 6 i j → IsExp ts w i x b j
item_is ts w i ends lt ne it (Item y NoField) b j s = (y, refl, s)
item_is ts w i ends lt ne it (Pair (TextE line u) y NoField) b j s = elim s.1 [
  | inl z ↦
      let P : ℕ → Type 0 = λ v. v < length ts → class_at ts v ≡ Name in
      let Q : ℕ → Type 0 = λ v. v < length ts → class_at ts v ≡ Assign in
      let name : class_at ts i ≡ Name = subst P (sym z.1.2) (λ v. (z.2.0 v).0) lt in
      absurd (it name (subst Q (z.2.1 ∙ ap suc (sym z.1.2)) s.2.1.0 (omega (arith, next_token ts i Name ends lt name refl))))
  | inr z ↦ absurd (ne (z.1.0 lt))
]
item_is ts w i ends lt ne it (Pair _ y NoField) b j s = elim s.1 [ inl z ↦ absurd z.0 | inr z ↦ absurd (ne (z.1.0 lt)) ]
item_is ts w i ends lt ne it NoField b j s = elim s [ ]
item_is ts w i ends lt ne it (Item y (Item u v)) b j s = elim s [ ]
item_is ts w i ends lt ne it (Item y (Pair u v z)) b j s = elim s [ ]
item_is ts w i ends lt ne it (Pair k y (Item u v)) b j s = elim s [ ]
item_is ts w i ends lt ne it (Pair k y (Pair u v z)) b j s = elim s [ ]

item_once : (ts : List Token) (w : Context) (i : ℕ) → EndsText ts → i < length ts → class_at ts i ≢ LeftBracket → IsItem ts i → Unique 1 Exp ts (exp_lang ts w 1) (goes_on 1) i → Unique 1 Fields ts (field_lang ts w) field_goes i
item_once ts w i ends lt ne it u = record { same = λ x y b c j k dx sx dy sy. go x y b c j k sx sy (item_is ts w i ends lt ne it x b j dx) (item_is ts w i ends lt ne it y c k dy) }
  where
    go : (x y : Fields) (b c j k : ℕ) → Stops ts field_goes (length ts) j → Stops ts field_goes (length ts) k → IsExp ts w i x b j → IsExp ts w i y c k → (x ≡ y) × (j ≡ k) × (1 + i ≤ j) × (j < length ts)
    go x y b c j k sx sy p q =
        let o = u.same p.0 q.0 b c j k p.2 (λ l. field_stop (class_at ts j) (sx l)) q.2 (λ l. field_stop (class_at ts k) (sy l)) in
        (p.1 ∙ ap (λ (z : Exp). Item z NoField) o.0 ∙ sym q.1, o.1, o.2, o.3)

abbrev is_bracket : TokenClass → Bool
is_bracket LeftBracket = true
is_bracket s = false

abbrev is_assign : TokenClass → Bool
is_assign Assign = true
is_assign s = false

-- A field that begins with a name is a key with its value where a `=` follows.
name_field_once : (ts : List Token) (w : Context) (i : ℕ) → EndsText ts → i < length ts → class_at ts i ≡ Name → Sure ts (i + 1) → Unique 1 Exp ts (exp_lang ts w 1) (goes_on 1) i → Unique 1 Fields ts (field_lang ts w) field_goes i
name_field_once ts w i ends lt e s exp = go (class_at ts (i + 1)) refl
  where
    inside : i + 1 < length ts
    inside = next_token ts i Name ends lt e refl

    go : (v : TokenClass) → class_at ts (i + 1) ≡ v → Unique 1 Fields ts (field_lang ts w) field_goes i
    go Assign a =
        let two : i + 1 + 1 < length ts = next_token ts (i + 1) Assign ends inside a refl in
        from_left ends (key_field_starts ts (high w 0) i e a inside (omega arith)) (omega (arith, two)) (omega arith)
        (goes_on 1, (λ m lo lt. s.exp w 1 (omega arith) m (omega (arith, lo)) lt), (λ x. follows_done ts field_goes (goes_on 1) _ field_stop), λ x. tt)
    go v a = item_once ts w i ends lt (other is_bracket e refl refl)
        (λ n z. other is_assign a refl refl (ap (λ (y : ℕ). class_at ts y) (add-one i) ∙ z)) exp

-- Any other.
field_at : (ts : List Token) (w : Context) (i : ℕ) → EndsText ts → i < length ts → Sure ts (i + 1) → Unique 1 Exp ts (exp_lang ts w 1) (goes_on 1) i → Unique 1 Fields ts (field_lang ts w) field_goes i
field_at ts w i ends lt s exp = go (class_at ts i) refl
  where
    go : (v : TokenClass) → class_at ts i ≡ v → Unique 1 Fields ts (field_lang ts w) field_goes i
    go LeftBracket e =
        from_left ends (bracket_field_starts ts w i e) (next_token ts i LeftBracket ends lt e refl) (omega arith)
        (goes_on 1, s.exp w 1 (omega arith), (λ k. follows_word ts field_goes (goes_on 1) RightBracket _ refl), λ k. (refl, (refl, (goes_on 1, s.exp w 1 (omega arith), (λ x. follows_done ts field_goes (goes_on 1) _ field_stop), λ x. tt))))
    go Name e = name_field_once ts w i ends lt e s exp
    go v e = item_once ts w i ends lt (other is_bracket e refl refl) (λ n. absurd (other is_name e refl refl n)) exp

-- ---- fields

field_ends : (s : TokenClass) → fields_goes s ≡ false → field_goes s ≡ false
field_ends RightBrace e = refl
field_ends _ e = absurd (true≢false e)

separator_ends : (s : TokenClass) → IsSeparator s → field_goes s ≡ false
separator_ends s (inl e) = ap field_goes e
separator_ends s (inr e) = ap field_goes e

separator_goes : (s : TokenClass) → IsSeparator s → fields_goes s ≡ true
separator_goes s (inl e) = ap fields_goes e
separator_goes s (inr e) = ap fields_goes e

separator_inner : (s : TokenClass) → IsSeparator s → inner s ≡ true
separator_inner s (inl e) = ap inner e
separator_inner s (inr e) = ap inner e

-- What is left behind a field.
abbrev more_fields : List Token → Context → Fields → Rest Fields
more_fields ts w y = Here (Unit {0}) (separator_kind ts) (λ u. Here Fields (fields_kind ts w) (λ fs. Done (join y fs)))

abbrev behind_field : List Token → Context → Fields → Rest Fields
behind_field ts w y = Either (Done (join y NoField)) (more_fields ts w y)

behind_follows : (ts : List Token) (w : Context) (y : Fields) → Follows ts fields_goes field_goes (behind_field ts w y)
unfolding Follows
behind_follows ts w y t b n f m j (inl x) st lt = let S : ℕ → Type 0 = λ z. z < n → fields_goes (class_at ts z) ≡ false in field_ends (class_at ts m) (subst S (sym x.1) st lt)
behind_follows ts w y t b n f m j (inr x) st lt = separator_ends (class_at ts m) (x.2.0 lt)

separator_once : (ts : List Token) (m : ℕ) → EndsText ts → m < length ts → Unique 0 (Unit {0}) ts (separator_lang ts) nothing m
separator_once ts m ends lt = record {
  same = λ x y b c j k dx sx dy sy.
      let inside = next_token ts m (class_at ts m) ends lt refl (separator_inner (class_at ts m) (dx.0 lt)) in
      (refl, dx.1 ∙ sym dy.1, omega (arith, dx.1), omega (arith, dx.1, inside));
}

field_apart : (ts : List Token) (w : Context) (p : ℕ) (e : Fields) (y : Fields) → Apart Fields ts fields_goes p (Done e) (more_fields ts w y)
field_apart ts w p e y = record {
  shut = λ m lo lt x z b c j k dx sx dy sy.
      let P : ℕ → Type 0 = λ v. v < length ts → fields_goes (class_at ts v) ≡ false in
      true≢false (sym (separator_goes (class_at ts m) (dy.2.0 lt)) ∙ subst P (sym dx.1) sx lt);
}

-- No fields before a `}`.
no_fields : (ts : List Token) (w : Context) (i : ℕ) → i < length ts → class_at ts i ≡ RightBrace → (x : Fields) (b j : ℕ) → fields_lang ts w x b (length ts) 6 i j → (x ≡ NoField) × (i ≡ j)
unfolding SpellsFields
no_fields ts w i lt e NoField b j d = (refl, d)
no_fields ts w i lt e (Item y fs) b j d = absurd (exp_form ts w (length ts) 6 b 1 y i d.0 (omega arith) lt d.1 (ap form e))
no_fields ts w i lt e (Pair (TextE line u) y fs) b j d = elim d.1 [
  | inl z ↦ let P : ℕ → Type 0 = λ v. v < length ts → class_at ts v ≡ Name in let r : RightBrace ≡ Name = sym e ∙ subst P (sym z.1.2) (λ v. (z.2.0 v).0) lt in absurd (cc)
  | inr z ↦ let r : RightBrace ≡ LeftBracket = sym e ∙ z.1.0 lt in absurd (cc)
]
no_fields ts w i lt e (Pair _ y fs) b j d = elim d.1 [ inl z ↦ absurd z.0 | inr z ↦ let r : RightBrace ≡ LeftBracket = sym e ∙ z.1.0 lt in absurd (cc) ]

abbrev is_brace : TokenClass → Bool
is_brace RightBrace = true
is_brace s = false

pub fields_once : (ts : List Token) (w : Context) (i : ℕ) → EndsText ts → i < length ts → Sure ts (i + 1) → Unique 1 Exp ts (exp_lang ts w 1) (goes_on 1) i → Unique 0 Fields ts (fields_lang ts w) fields_goes i
fields_once ts w i ends lt s exp = go (class_at ts i) refl
  where
    some : class_at ts i ≢ RightBrace → Unique 0 Fields ts (fields_lang ts w) fields_goes i
    some ne =
        relax (from_here field_goes ends (fields_start ts w i ne) lt (field_at ts w i ends lt s exp) (behind_follows ts w)
        (λ y. (field_apart ts w (i + 1) (join y NoField) y, tt, (nothing, (λ m lo l. separator_once ts m ends l), (λ u. follows_nothing ts fields_goes _), λ u. (fields_goes, s.fields w, (λ fs. follows_done ts fields_goes fields_goes _ (λ x z. z)), λ fs. tt)))))

    go : (v : TokenClass) → class_at ts i ≡ v → Unique 0 Fields ts (fields_lang ts w) fields_goes i
    go RightBrace e = record {
      same = λ x y b c j k dx sx dy sy.
          let p = no_fields ts w i lt e x b j dx in
          let q = no_fields ts w i lt e y c k dy in
          (p.0 ∙ sym q.0, sym p.1 ∙ q.1, omega (arith, p.1), omega (arith, p.1, lt));
    }
    go v e = some (other is_brace e refl refl)

-- Fields of table constructors.
use Rattle.std.proofs.Common.{◌≡◌, ◌≢◌, ℕ, suc, [], ◌∷◌, ◌++◌, ◌-◌, ◌+◌, ◌<◌, ◌≤◌, ◌⊎◌, max, true, false, List, length, refl, sym, ap, subst, ◌∙◌, inl, inr, le_trans, le_refl, lt_of_le_of_lt, arith, true≢false, add-one}
use Rattle.lua_lexer.specs.declared.token.Token.{Token}
use Rattle.lua_syntax.specs.declared.Field.{Field}
use Rattle.lua_grammar.specs.declared.TokenClass.{TokenClass}
use Rattle.lua_grammar.specs.declared.TokenClass.TheVariants.{Name, LeftBracket, RightBracket, RightBrace, Assign, Comma, Semicolon}
use Rattle.lua_grammar.specs.declared.Context.{Context}
use Rattle.lua_grammar.specs.Tokens.{class_at, tok_at, bytes_of}
use Rattle.lua_syntax.specs.View.{field_view, fields_view}
use Rattle.lua_syntax.specs.Tree.{Exp, Fields, NameE, TextE, NoField, Item, Pair}
use Rattle.lua_grammar.specs.Grammar.{given_tokens, ◌⨟◌, text, node, separator, NoneLeft, Spells, SpellsFields, SpellsName, suffix_goes}
use Rattle.lua_syntax.proofs.Views.{FieldIs, field_is}
use Rattle.lua_reading.specs.Parsing.{Lang, Stops, Below, ReadsTree, Before, ReadsFault, high, exp_lang, fields_lang, nothing, goes_on, fields_goes, ReadsExp}
use Rattle.lua_reading.specs.Answers.{ReadsNonEmpty, field_lang, field_goes, one_field, IsItem}
use Rattle.std.proofs.lemmas.Bool.{cases_lt}
use Rattle.lua_reading.proofs.pieces.Steps.{CanOpen, Kind, Rest, Done, Word, Here, Either, Reads, Left, HasNode, Follows, follows_done, follows_nothing, here_step, here_fails, first_way, second_way, done_closed, inline, Closed, all_read}
use Rattle.lua_reading.proofs.pieces.Kinds.{exp_kind, fields_kind, field_kind, field_opens}
use Rattle.lua_reading.proofs.levels.Climb.{First, first, begin, finish}
use Rattle.lua_reading.proofs.levels.Suffixes.{chain_begins, chain_ends}
use Rattle.lua_reading.proofs.expressions.Operands.{form, node_of, prefix_operand}
use Rattle.lua_reading.proofs.expressions.Atoms.{room_of, fits_of}
use Rattle.lua_reading.proofs.lists.ExpressionLists.{exp_form, name_starts}

-- ---- one field

abbrev pub bracket_field_rest : List Token → Context → Rest Fields
bracket_field_rest ts w = Here Exp (exp_kind ts w 1) (λ k. Word RightBracket (Word Assign (Here Exp (exp_kind ts w 1) (λ e. Done (Pair k e NoField)))))

field_stop : (s : TokenClass) → field_goes s ≡ false → goes_on 1 s ≡ false
field_stop Assign e = refl
field_stop _ e = e

pub bracket_field_starts : (ts : List Token) (w : Context) (i : ℕ) → class_at ts i ≡ LeftBracket → Left Fields ts (field_lang ts w) field_goes i (bracket_field_rest ts w) (i + 1) 0
bracket_field_starts ts w i e = record {
  ordered = omega arith;
  down = λ x b n f j lt s st. (go x b n f j lt s, λ u. omega arith);
  up = λ x b n f j fits r. subst (λ (z : Fields). field_lang ts w z b n f i j) (sym r.3.2.2.3.0)
      (r.3.0, inr (i + 1, ((λ lt. e), add-one i), (r.1, r.2, r.3.1)), (r.3.2.0, r.3.2.1, subst (λ (z : ℕ). Spells (given_tokens ts n f) (high w b) 1 r.3.2.2.0 r.3.2.0 z) r.3.2.2.3.1 r.3.2.2.2));
}
  where
    go : (x : Fields) (b n f j : ℕ) → i + 1 < n → field_lang ts w x b n f i j → Reads ts (bracket_field_rest ts w) x b n f (i + 1) j
    go (Item y NoField) b n f j lt d = absurd (exp_form ts w n f b 1 y i j (omega arith) (omega (arith, lt)) d (ap form e))
    go (Pair k y NoField) b n f j lt d = elim d.1 [
      | inl z ↦ absurd (no_name k z)
      | inr z ↦ (k, z.2.0, subst (λ (u : ℕ). Spells (given_tokens ts n f) (high w b) 1 k u z.2.0) (z.1.1 ∙ sym (add-one i)) z.2.1, (d.0, z.2.2, (d.2.0, d.2.1, (y, j, d.2.2, (refl, refl)))))
    ]
      where
        no_name : (k' : Exp) → SpellsName (given_tokens ts n f) (high w b) k' i d.0 → ⊥
        no_name (TextE line u) z =
            let P : ℕ → Type 0 = λ v. v < n → class_at ts v ≡ Name in
            let q : LeftBracket ≡ Name = sym e ∙ subst P (sym z.1.2) (λ v. (z.2.0 v).0) (omega (arith, lt)) in cc
        no_name _ z = z.0
    go NoField b n f j lt d = elim d [ ]
    go (Item y (Item u v)) b n f j lt d = elim d [ ]
    go (Item y (Pair u v z)) b n f j lt d = elim d [ ]
    go (Pair k y (Item u v)) b n f j lt d = elim d [ ]
    go (Pair k y (Pair u v z)) b n f j lt d = elim d [ ]

-- A name alone as an expression.
pub name_exp : (ts : List Token) (w : Context) (i : ℕ) → class_at ts i ≡ Name → w.above ≤ 200 → i + 1 < length ts → suffix_goes (class_at ts (i + 1)) ≡ false → goes_on 1 (class_at ts (i + 1)) ≡ false →
    ReadsExp ts w 1 i (NameE (tok_at ts i).line (bytes_of (tok_at ts i))) (i + 1) 1
name_exp ts w i e room inside no_suffix no_op =
    finish ts w 1 i (NameE (tok_at ts i).line (bytes_of (tok_at ts i))) (i + 1) 1 (omega arith)
    (begin ts w 1 i (NameE (tok_at ts i).line (bytes_of (tok_at ts i))) (i + 1) 1 (omega arith)
    (prefix_operand ts w i (NameE (tok_at ts i).line (bytes_of (tok_at ts i))) (i + 1) 1 (ap form e)
    (chain_ends ts w i (NameE (tok_at ts i).line (bytes_of (tok_at ts i))) (i + 1) 1
    (chain_begins ts w i (NameE (tok_at ts i).line (bytes_of (tok_at ts i))) (i + 1) 1 (omega arith)
    (record { grows = omega arith; reading = all_read (name_starts ts w i e) inside (fits_of w.above room) }))
    no_suffix)))
    no_op

abbrev pub key_field_rest : List Token → Context → ℕ → Rest Fields
key_field_rest ts w i = Here Exp (exp_kind ts w 1) (λ e. Done (Pair (TextE (tok_at ts i).line (bytes_of (tok_at ts i))) e NoField))

pub key_field_starts : (ts : List Token) (w : Context) (i : ℕ) → class_at ts i ≡ Name → class_at ts (i + 1) ≡ Assign → i + 1 < length ts → w.above ≤ 200 → Left Fields ts (field_lang ts w) field_goes i (key_field_rest ts w i) (i + 2) 1
key_field_starts ts w i e a inside room = record {
  ordered = omega arith;
  down = λ x b n f j lt s st. go x b n f j lt s st;
  up = λ x b n f j fits r. subst (λ (z : Fields). field_lang ts w z b n f i j) (sym r.3.0)
      (suc i, inl (i, (refl, (λ u lt. room_of b (fits u)), refl), ((λ lt. (e, refl)), refl)), (i + 2, ((λ lt. subst (λ (z : ℕ). class_at ts z ≡ Assign) (add-one i) a), omega arith), subst (λ (z : ℕ). Spells (given_tokens ts n f) (high w b) 1 r.0 (i + 2) z) r.3.1 r.2));
}
  where
    named : ReadsExp ts w 1 i (NameE (tok_at ts i).line (bytes_of (tok_at ts i))) (i + 1) 1
    named =
        let P : TokenClass → Type 0 = λ s. suffix_goes s ≡ false in
        let Q : TokenClass → Type 0 = λ s. goes_on 1 s ≡ false in
        name_exp ts w i e room inside (subst P (sym a) refl) (subst Q (sym a) refl)

    go : (x : Fields) (b n f j : ℕ) → i + 2 < n → field_lang ts w x b n f i j → Stops ts field_goes n j → Reads ts (key_field_rest ts w i) x b n f (i + 2) j × (f ≡ 7 → Below 1 b)
    go (Item y NoField) b n f j lt d st =
        let r = named.reading.only y b n f j (omega (arith, lt)) d (λ l. field_stop (class_at ts j) (st l)) in
        let P : TokenClass → Type 0 = λ s. field_goes s ≡ true in
        let S : ℕ → Type 0 = λ z. z < n → field_goes (class_at ts z) ≡ false in
        absurd (true≢false (sym (subst P (sym a) refl) ∙ subst S r.1 st (omega (arith, lt))))
    go (Pair k y NoField) b n f j lt d st = elim d.1 [
      | inl z ↦ key k z
      | inr z ↦ let q : Name ≡ LeftBracket = sym e ∙ z.1.0 (omega (arith, lt)) in absurd (cc)
    ]
      where
        key : (k' : Exp) → SpellsName (given_tokens ts n f) (high w b) k' i d.0 → Reads ts (key_field_rest ts w i) (Pair k' y NoField) b n f (i + 2) j × (f ≡ 7 → Below 1 b)
        key (TextE line u) z =
            let P : ℕ → Type 0 = λ v. v < n → bytes_of (tok_at ts v) ≡ u in
            let at : d.2.0 ≡ i + 2 = d.2.1.1 ∙ ap suc (z.2.1 ∙ ap suc (sym z.1.2)) ∙ two in (
              (
                y,
                j,
                subst (λ (v : ℕ). Spells (given_tokens ts n f) (high w b) 1 y v j) at d.2.2,
                (ap (λ (v : ℕ). Pair (TextE v u) y NoField) z.1.0 ∙ ap (λ (v : List ℕ). Pair (TextE (tok_at ts i).line v) y NoField) (sym (subst P (sym z.1.2) (λ v. (z.2.0 v).1) (omega (arith, lt)))), refl),
              ),
              λ v. fits_of b (z.1.1 v (omega (arith, lt))),
            )
          where
            two : suc (suc i) ≡ i + 2
            two = omega arith
        key _ z = absurd z.0
    go NoField b n f j lt d st = elim d [ ]
    go (Item y (Item u v)) b n f j lt d st = elim d [ ]
    go (Item y (Pair u v z)) b n f j lt d st = elim d [ ]
    go (Pair k y (Item u v)) b n f j lt d st = elim d [ ]
    go (Pair k y (Pair u v z)) b n f j lt d st = elim d [ ]

exp_node : (ts : List Token) (w : Context) (n b l : ℕ) (x : Exp) (i j : ℕ) → l ≤ 7 → i < n → Spells (given_tokens ts n 7) (high w b) l x i j → b ≤ 200
exp_node ts w n b l x i j le lt s =
    let y : First ts w n 7 b l x i j = first ts w n 7 b l x i j (omega (arith, le)) s in
    le_trans y.below (node_of ts w n y.above i y.end lt y.operand y.is_operand y.at_level y.stands)

field_node : (ts : List Token) (w : Context) (i : ℕ) → class_at ts i ≡ Name → HasNode Fields ts (field_lang ts w) i
field_node ts w i e (Item y NoField) b n j lt s = exp_node ts w n b 1 y i j (omega arith) lt s
field_node ts w i e (Pair (TextE line u) y NoField) b n j lt s = elim s.1 [ inl z ↦ z.1.1 refl lt | inr z ↦ let q : Name ≡ LeftBracket = sym e ∙ z.1.0 lt in absurd (cc) ]
field_node ts w i e (Pair _ y NoField) b n j lt s = elim s.1 [ inl z ↦ absurd z.0 | inr z ↦ let q : Name ≡ LeftBracket = sym e ∙ z.1.0 lt in absurd (cc) ]
field_node ts w i e NoField b n j lt s = elim s [ ]
field_node ts w i e (Item y (Item u v)) b n j lt s = elim s [ ]
field_node ts w i e (Item y (Pair u v z)) b n j lt s = elim s [ ]
field_node ts w i e (Pair k y (Item u v)) b n j lt s = elim s [ ]
field_node ts w i e (Pair k y (Pair u v z)) b n j lt s = elim s [ ]

-- A key that is too deep.
pub key_deep : (ts : List Token) (w : Context) (i : ℕ) → i < length ts → class_at ts i ≡ Name → 200 < w.above → ReadsFault Fields ts (field_lang ts w) field_goes w.above i 7 i
unfolding Spells
key_deep ts w i inside e over = record {
  inside = inside;
  ordered = le_refl i;
  number = (omega arith, omega arith);
  reach = reach;
  dead = λ x b n j le lt l st. let y = field_node ts w i e x b n j lt l in omega (arith, y, le, over);
}
  where
    reach : (n f : ℕ) → Before i 7 n f → (x : Fields) × (j : ℕ) × (n ≤ j) × field_lang ts w x w.above n f i j
    reach n f (inl y) = field_opens ts w w.above n f i (omega (arith, y))
    reach n f (inr y) = (
      Item (NameE (tok_at ts i).line (bytes_of (tok_at ts i))) NoField,
      suc i,
      omega (arith, y.0),
      (i, (refl, (λ z lt. absurd (omega (arith, z, y.2))), refl), (suc i, ((λ lt. (e, refl)), refl), ((λ z lt. absurd (omega (arith, y.0, lt))), refl))),
    )

-- An expression as a field.
pub item_reading : (ts : List Token) (w : Context) (i : ℕ) (e : Exp) (q h : ℕ) → class_at ts i ≢ LeftBracket → IsItem ts i → ReadsExp ts w 1 i e q h → ReadsNonEmpty Fields ts (field_lang ts w) field_goes w.above i (Item e NoField) q h
item_reading ts w i e q h ne it g = record {
  grows = g.grows;
  reading = record {
    inside = g.reading.inside;
    ordered = g.reading.ordered;
    height = g.reading.height;
    stands = g.reading.stands;
    only = λ x b n f j lt s st. go x b n f j lt s st;
  };
}
  where
    go : (x : Fields) (b n f j : ℕ) → q < n → field_lang ts w x b n f i j → Stops ts field_goes n j → (x ≡ Item e NoField) × (j ≡ q) × (f ≡ 7 → Below h b)
    go (Item y NoField) b n f j lt s st = let r = g.reading.only y b n f j lt s (λ l. field_stop (class_at ts j) (st l)) in (ap (λ (z : Exp). Item z NoField) r.0, r.1, r.2)
    go (Pair (TextE line u) y NoField) b n f j lt s st = elim s.1 [
      | inl z ↦
          let P : ℕ → Type 0 = λ v. v < n → class_at ts v ≡ Name in
          let Q : ℕ → Type 0 = λ v. v < n → class_at ts v ≡ Assign in
          absurd (it (subst P (sym z.1.2) (λ v. (z.2.0 v).0) (omega (arith, lt, g.grows))) (subst Q (z.2.1 ∙ ap suc (sym z.1.2)) s.2.1.0 (omega (arith, lt, g.grows))))
      | inr z ↦ absurd (ne (z.1.0 (omega (arith, lt, g.grows))))
    ]
    go (Pair _ y NoField) b n f j lt s st = elim s.1 [ inl z ↦ absurd z.0 | inr z ↦ absurd (ne (z.1.0 (omega (arith, lt, g.grows)))) ]
    go NoField b n f j lt s st = elim s [ ]
    go (Item y (Item u v)) b n f j lt s st = elim s [ ]
    go (Item y (Pair u v z)) b n f j lt s st = elim s [ ]
    go (Pair k y (Item u v)) b n f j lt s st = elim s [ ]
    go (Pair k y (Pair u v z)) b n f j lt s st = elim s [ ]

pub item_fails : (ts : List Token) (w : Context) (i k p : ℕ) → class_at ts i ≢ LeftBracket → IsItem ts i → ReadsFault Exp ts (exp_lang ts w 1) (goes_on 1) w.above i k p → ReadsFault Fields ts (field_lang ts w) field_goes w.above i k p
unfolding Spells
item_fails ts w i k p ne it g = record {
  inside = g.inside;
  ordered = g.ordered;
  number = g.number;
  reach = λ n f x. let r = g.reach n f x in (Item r.0 NoField, r.1, r.2, r.3);
  dead = λ x b n j ab lt s st. go x b n j ab lt s st;
}
  where
    go : (x : Fields) (b n j : ℕ) → w.above ≤ b → p < n → field_lang ts w x b n k i j → Stops ts field_goes n j → ⊥
    go (Item y NoField) b n j ab lt s st = g.dead y b n j ab lt s (λ l. field_stop (class_at ts j) (st l))
    go (Pair (TextE line u) y NoField) b n j ab lt s st = elim s.1 [
      | inl z ↦ named z (cases_lt (suc i) n)
      | inr z ↦ ne (z.1.0 (lt_of_le_of_lt g.ordered lt))
    ]
      where
        named : (node (given_tokens ts n k) (high w b) line ⨟ text (given_tokens ts n k) Name u) i s.0 → (suc i < n) ⊎ (n ≤ suc i) → ⊥
        named z (inl l) =
            let P : ℕ → Type 0 = λ v. v < n → class_at ts v ≡ Name in
            let Q : ℕ → Type 0 = λ v. v < n → class_at ts v ≡ Assign in
            it (subst P (sym z.1.2) (λ v. (z.2.0 v).0) (omega (arith, l))) (subst Q (z.2.1 ∙ ap suc (sym z.1.2)) s.2.1.0 l)
        named z (inr l) =
            g.dead (NameE line u) b n (suc i) ab lt
            (z.0, z.1, (s.0, z.2, ((λ v lt'. absurd (omega (arith, l, lt', z.2.1, z.1.2))), z.2.1 ∙ ap suc (sym z.1.2))))
            (λ lt'. absurd (omega (arith, l, lt')))
    go (Pair _ y NoField) b n j ab lt s st = elim s.1 [ inl z ↦ z.0 | inr z ↦ ne (z.1.0 (lt_of_le_of_lt g.ordered lt)) ]
    go NoField b n j ab lt s st = elim s [ ]
    go (Item y (Item u v)) b n j ab lt s st = elim s [ ]
    go (Item y (Pair u v z)) b n j ab lt s st = elim s [ ]
    go (Pair k' y (Item u v)) b n j ab lt s st = elim s [ ]
    go (Pair k' y (Pair u v z)) b n j ab lt s st = elim s [ ]

-- ---- fields

-- a field, and then these
abbrev pub join : Fields → Fields → Fields
join (Item e rest) fs = Item e fs
join (Pair k e rest) fs = Pair k e fs
join NoField fs = fs

abbrev pub separator_lang : List Token → Unit {0} → Lang
separator_lang ts u b n f i j = separator (given_tokens ts n f) i j

pub separator_opens : (ts : List Token) → CanOpen (Unit {0}) (separator_lang ts)
separator_opens ts b n f m le = (tt, suc m, omega (arith, le), ((λ lt. absurd (omega (arith, le, lt))), refl))

abbrev pub separator_kind : List Token → Kind (Unit {0})
separator_kind ts = record { lang = separator_lang ts; goes = nothing; open' = separator_opens ts }

abbrev pub IsSeparator : TokenClass → Type 0
IsSeparator s = (s ≡ Comma) ⊎ (s ≡ Semicolon)

separator_reading : (ts : List Token) (a m : ℕ) → m + 1 < length ts → IsSeparator (class_at ts m) → ReadsTree (Unit {0}) ts (separator_lang ts) nothing a m tt (m + 1) 0
separator_reading ts a m inside e = record {
  inside = inside;
  ordered = omega arith;
  height = omega arith;
  stands = λ b n f x. ((λ lt. e), add-one m);
  only = λ x b n f j lt s st. (refl, s.1 ∙ sym (add-one m), λ y. omega arith);
}

abbrev pub fields_rest : List Token → Context → Rest Fields
fields_rest ts w = Here Fields (field_kind ts w) (λ x. Either (Done (join x NoField)) (Here (Unit {0}) (separator_kind ts) (λ u. Here Fields (fields_kind ts w) (λ fs. Done (join x fs)))))

pub fields_start : (ts : List Token) (w : Context) (m : ℕ) → class_at ts m ≢ RightBrace → Left Fields ts (fields_lang ts w) fields_goes m (fields_rest ts w) m 0
unfolding SpellsFields
fields_start ts w m ne = record {
  ordered = le_refl m;
  down = λ x b n f j lt s st. (go x b n f j lt s st, λ u. omega arith);
  up = λ x b n f j fits r. up x b n f j r.0 r.1 r.2 r.3;
}
  where
    goes : (s : TokenClass) → s ≢ RightBrace → fields_goes s ≡ true
    goes RightBrace h = absurd (h refl)
    goes _ h = refl

    none_left : (fs : Fields) → NoneLeft fs → NoField ≡ fs
    none_left NoField h = refl
    none_left _ h = elim h [ ]

    go : (x : Fields) (b n f j : ℕ) → m < n → SpellsFields (given_tokens ts n f) (high w b) x m j → Stops ts fields_goes n j → Reads ts (fields_rest ts w) x b n f m j
    go NoField b n f j lt d st =
        let S : ℕ → Type 0 = λ z. z < n → fields_goes (class_at ts z) ≡ false in
        absurd (true≢false (sym (goes (class_at ts m) ne) ∙ subst S (sym d) st lt))
    go (Item e fs) b n f j lt d st = elim d.2 [
      | inl z ↦ (Item e NoField, d.0, d.1, inl (ap (λ (y : Fields). Item e y) (sym (none_left fs z.0)), z.1))
      | inr z ↦ (Item e NoField, d.0, d.1, inr (tt, z.0, z.1, (fs, j, z.2, (refl, refl))))
    ]
    go (Pair k e fs) b n f j lt d st = elim d.2.2.2 [
      | inl z ↦ (Pair k e NoField, d.2.2.0, (d.0, d.1, (d.2.0, d.2.1, d.2.2.1)), inl (ap (λ (y : Fields). Pair k e y) (sym (none_left fs z.0)), z.1))
      | inr z ↦ (Pair k e NoField, d.2.2.0, (d.0, d.1, (d.2.0, d.2.1, d.2.2.1)), inr (tt, z.0, z.1, (fs, j, z.2, (refl, refl))))
    ]

    up : (x : Fields) (b n f j : ℕ) (y : Fields) (q : ℕ) → field_lang ts w y b n f m q →
        Reads ts (Either (Done (join y NoField)) (Here (Unit {0}) (separator_kind ts) (λ u. Here Fields (fields_kind ts w) (λ fs. Done (join y fs))))) x b n f q j → SpellsFields (given_tokens ts n f) (high w b) x m j
    up x b n f j (Item e NoField) q d (inl r) = subst (λ (z : Fields). SpellsFields (given_tokens ts n f) (high w b) z m j) (sym r.0) (q, d, inl (tt, r.1))
    up x b n f j (Item e NoField) q d (inr r) =
        subst (λ (z : Fields). SpellsFields (given_tokens ts n f) (high w b) z m j) (sym r.3.3.0) (q, d, inr (r.1, r.2, subst (λ (z : ℕ). SpellsFields (given_tokens ts n f) (high w b) r.3.0 r.1 z) r.3.3.1 r.3.2))
    up x b n f j (Pair k e NoField) q d (inl r) = subst (λ (z : Fields). SpellsFields (given_tokens ts n f) (high w b) z m j) (sym r.0) (d.0, d.1, (d.2.0, d.2.1, (q, d.2.2, inl (tt, r.1))))
    up x b n f j (Pair k e NoField) q d (inr r) =
        subst (λ (z : Fields). SpellsFields (given_tokens ts n f) (high w b) z m j) (sym r.3.3.0)
        (d.0, d.1, (d.2.0, d.2.1, (q, d.2.2, inr (r.1, r.2, subst (λ (z : ℕ). SpellsFields (given_tokens ts n f) (high w b) r.3.0 r.1 z) r.3.3.1 r.3.2))))
    up x b n f j NoField q d r = elim d [ ]
    up x b n f j (Item e (Item u v)) q d r = elim d [ ]
    up x b n f j (Item e (Pair u v z)) q d r = elim d [ ]
    up x b n f j (Pair k e (Item u v)) q d r = elim d [ ]
    up x b n f j (Pair k e (Pair u v z)) q d r = elim d [ ]

-- these fields, and then the rest
abbrev pub fields_front : List Field → Fields → Fields
fields_front [] fs = fs
fields_front (x ∷ xs) fs = field_view x (fields_front xs fs)

pub fields_front_snoc : (xs : List Field) (x : Field) (fs : Fields) → fields_front (xs ++ x ∷ []) fs ≡ fields_front xs (field_view x fs)
fields_front_snoc [] x fs = refl
fields_front_snoc (y ∷ ys) x fs = ap (λ (z : Fields). field_view y z) (fields_front_snoc ys x fs)

pub fields_front_none : (xs : List Field) → fields_front xs NoField ≡ fields_view xs
fields_front_none [] = refl
fields_front_none (y ∷ ys) = ap (λ (z : Fields). field_view y z) (fields_front_none ys)

pub field_joins : (x : Field) (fs : Fields) → join (one_field x) fs ≡ field_view x fs
field_joins x fs = go (field_is x)
  where
    go : FieldIs (field_view x) → join (field_view x NoField) fs ≡ field_view x fs
    go (inl e) = ap (λ (z : Fields). join z fs) (e.1 NoField) ∙ sym (e.1 fs)
    go (inr e) = ap (λ (z : Fields). join z fs) (e.2 NoField) ∙ sym (e.2 fs)

-- What is known in the loop: these fields have been read, and a separator behind each.
abbrev pub Fielded : List Token → Context → ℕ → List Field → ℕ → ℕ → Type 0
Fielded ts w i xs m h = Left Fields ts (fields_lang ts w) fields_goes i (Here Fields (fields_kind ts w) (λ fs. Done (fields_front xs fs))) m h

abbrev pub field_rest : List Token → Context → List Field → Fields → Rest Fields
field_rest ts w xs y = Either (Done (fields_front xs (join y NoField))) (Here (Unit {0}) (separator_kind ts) (λ u. Here Fields (fields_kind ts w) (λ fs. Done (fields_front xs (join y fs)))))

field_ends : (s : TokenClass) → fields_goes s ≡ false → field_goes s ≡ false
field_ends RightBrace e = refl
field_ends _ e = absurd (true≢false e)

separator_ends : (s : TokenClass) → IsSeparator s → field_goes s ≡ false
separator_ends Comma e = refl
separator_ends Semicolon e = refl
separator_ends s (inl e) = let P : TokenClass → Type 0 = λ z. field_goes z ≡ false in subst P (sym e) refl
separator_ends s (inr e) = let P : TokenClass → Type 0 = λ z. field_goes z ≡ false in subst P (sym e) refl

field_follows : (ts : List Token) (w : Context) (xs : List Field) (y : Fields) → Follows ts fields_goes field_goes (field_rest ts w xs y)
unfolding Follows
field_follows ts w xs y t b n f m j (inl x) st lt = let S : ℕ → Type 0 = λ z. z < n → fields_goes (class_at ts z) ≡ false in field_ends (class_at ts m) (subst S (sym x.1) st lt)
field_follows ts w xs y t b n f m j (inr x) st lt = separator_ends (class_at ts m) (x.2.0 lt)

pub fielded_one : (ts : List Token) (w : Context) (i : ℕ) (xs : List Field) (m h : ℕ) (y : Fields) (q k : ℕ) → Fielded ts w i xs m h → class_at ts m ≢ RightBrace → ReadsNonEmpty Fields ts (field_lang ts w) field_goes w.above m y q k →
    Left Fields ts (fields_lang ts w) fields_goes i (field_rest ts w xs y) q (max h k)
fielded_one ts w i xs m h y q k l ne g =
    here_step {r = λ z. field_rest ts w xs z} (inline l (fields_start ts w m ne) (λ fs. follows_done ts fields_goes fields_goes (fields_front xs fs) (λ x e. e))) g.reading (λ z. field_follows ts w xs z)

pub fielded_fails : (ts : List Token) (w : Context) (i : ℕ) (xs : List Field) (m h k p : ℕ) → Fielded ts w i xs m h → Below h w.above → class_at ts m ≢ RightBrace → ReadsFault Fields ts (field_lang ts w) field_goes w.above m k p →
    ReadsFault Fields ts (fields_lang ts w) fields_goes w.above i k p
fielded_fails ts w i xs m h k p l fits ne g =
    here_fails {r = λ z. field_rest ts w xs z} (inline l (fields_start ts w m ne) (λ fs. follows_done ts fields_goes fields_goes (fields_front xs fs) (λ x e. e))) fits g (λ z. field_follows ts w xs z)

pub fielded_more : (ts : List Token) (w : Context) (i : ℕ) (xs : List Field) (m h : ℕ) (x : Field) (q k : ℕ) → Fielded ts w i xs m h → class_at ts m ≢ RightBrace → ReadsNonEmpty Fields ts (field_lang ts w) field_goes w.above m (one_field x) q k →
    q + 1 < length ts → IsSeparator (class_at ts q) → Fielded ts w i (xs ++ x ∷ []) (q + 1) (max h k)
fielded_more ts w i xs m h x q k l ne g inside sep = record {
  ordered = r.ordered;
  down = λ s b n f j lt d st. let y = r.down s b n f j lt d st in ((y.0.0, y.0.1, y.0.2, (y.0.3.0 ∙ same y.0.0, y.0.3.1)), λ e. less (max h k) b (y.1 e));
  up = λ s b n f j fits d. r.up s b n f j (λ e. more (max h k) b (fits e)) (d.0, d.1, d.2, (d.3.0 ∙ sym (same d.0), d.3.1));
}
  where
    goes : (s : TokenClass) → IsSeparator s → fields_goes s ≡ true
    goes s (inl e) = let P : TokenClass → Type 0 = λ z. fields_goes z ≡ true in subst P (sym e) refl
    goes s (inr e) = let P : TokenClass → Type 0 = λ z. fields_goes z ≡ true in subst P (sym e) refl

    less : (a b : ℕ) → max a 0 ≤ 201 - b → a ≤ 201 - b
    less a b x = omega (arith, x)

    more : (a b : ℕ) → a ≤ 201 - b → max a 0 ≤ 201 - b
    more a b x = omega (arith, x)

    r : Left Fields ts (fields_lang ts w) fields_goes i (Here Fields (fields_kind ts w) (λ fs. Done (fields_front xs (join (one_field x) fs)))) (q + 1) (max (max h k) 0)
    r = here_step {r = λ u. Here Fields (fields_kind ts w) (λ fs. Done (fields_front xs (join (one_field x) fs)))}
        (second_way (fielded_one ts w i xs m h (one_field x) q k l ne g) (done_closed ts fields_goes q (fields_front xs (join (one_field x) NoField)) (goes (class_at ts q) sep)))
        (separator_reading ts w.above q inside sep) (λ u. follows_nothing ts fields_goes (Here Fields (fields_kind ts w) (λ fs. Done (fields_front xs (join (one_field x) fs)))))

    same : (fs : Fields) → fields_front xs (join (one_field x) fs) ≡ fields_front (xs ++ x ∷ []) fs
    same fs = ap (λ (z : Fields). fields_front xs z) (field_joins x fs) ∙ sym (fields_front_snoc xs x fs)

-- No separator is behind the last field.
pub fielded_last : (ts : List Token) (w : Context) (i : ℕ) (xs : List Field) (m h : ℕ) (x : Field) (q k : ℕ) → Fielded ts w i xs m h → class_at ts m ≢ RightBrace → ReadsNonEmpty Fields ts (field_lang ts w) field_goes w.above m (one_field x) q k →
    class_at ts q ≢ Comma → class_at ts q ≢ Semicolon → Left Fields ts (fields_lang ts w) fields_goes i (Done (fields_view (xs ++ x ∷ []))) q (max h k)
fielded_last ts w i xs m h x q k l ne g no_comma no_semicolon = record {
  ordered = r.ordered;
  down = λ s b n f j lt d st. let y = r.down s b n f j lt d st in ((y.0.0 ∙ same, y.0.1), y.1);
  up = λ s b n f j fits d. r.up s b n f j fits (d.0 ∙ sym same, d.1);
}
  where
    shut : Closed ts fields_goes q (Here (Unit {0}) (separator_kind ts) (λ u. Here Fields (fields_kind ts w) (λ fs. Done (fields_front xs (join (one_field x) fs)))))
    shut s b n f j lt d st = elim (d.2.0 lt) [ inl e ↦ no_comma e | inr e ↦ no_semicolon e ]

    r : Left Fields ts (fields_lang ts w) fields_goes i (Done (fields_front xs (join (one_field x) NoField))) q (max h k)
    r = first_way (fielded_one ts w i xs m h (one_field x) q k l ne g) shut

    same : fields_front xs (join (one_field x) NoField) ≡ fields_view (xs ++ x ∷ [])
    same = ap (λ (z : Fields). fields_front xs z) (field_joins x NoField) ∙ sym (fields_front_snoc xs x NoField) ∙ fields_front_none (xs ++ x ∷ [])

-- A `}` ends the fields.
pub fielded_end : (ts : List Token) (w : Context) (i : ℕ) (xs : List Field) (m h : ℕ) → Fielded ts w i xs m h → class_at ts m ≡ RightBrace → Left Fields ts (fields_lang ts w) fields_goes i (Done (fields_view xs)) m h
unfolding SpellsFields Spells
fielded_end ts w i xs m h l e = record {
  ordered = l.ordered;
  down = λ s b n f j lt d st. let y = l.down s b n f j lt d st in ((y.0.3.0 ∙ ap (λ (z : Fields). fields_front xs z) (empty b n f y.0.1 lt y.0.0 y.0.2).0 ∙ fields_front_none xs, (empty b n f y.0.1 lt y.0.0 y.0.2).1 ∙ y.0.3.1), y.1);
  up = λ s b n f j fits d. l.up s b n f j fits (NoField, m, refl, (d.0 ∙ sym (fields_front_none xs), d.1));
}
  where
    empty : (b n f q : ℕ) → m < n → (x : Fields) → SpellsFields (given_tokens ts n f) (high w b) x m q → (x ≡ NoField) × (m ≡ q)
    empty b n f q lt NoField d = (refl, d)
    empty b n f q lt (Item y fs) d = absurd (exp_form ts w n f b 1 y m d.0 (omega arith) lt d.1 (ap form e))
    empty b n f q lt (Pair (TextE line u) y fs) d = elim d.1 [
      | inl z ↦ let P : ℕ → Type 0 = λ v. v < n → class_at ts v ≡ Name in let r : RightBrace ≡ Name = sym e ∙ subst P (sym z.1.2) (λ v. (z.2.0 v).0) lt in absurd (cc)
      | inr z ↦ let r : RightBrace ≡ LeftBracket = sym e ∙ z.1.0 lt in absurd (cc)
    ]
    empty b n f q lt (Pair _ y fs) d = elim d.1 [ inl z ↦ absurd z.0 | inr z ↦ let r : RightBrace ≡ LeftBracket = sym e ∙ z.1.0 lt in absurd (cc) ]

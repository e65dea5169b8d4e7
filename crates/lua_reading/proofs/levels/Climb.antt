-- The loop over binary operators.
use Rattle.std.proofs.Common.{◌≡◌, ℕ, suc, [], ◌-◌, ◌+◌, ◌<◌, ◌≤◌, ◌⊎◌, max, true, false, List, length, refl, sym, ap, subst, ◌∙◌, inl, inr, le_trans, le_refl, lt-suc_self, arith, true≢false}
use Rattle.lua_lexer.specs.declared.token.Token.{Token}
use Rattle.lua_syntax.specs.declared.BinaryOp.{BinaryOp}
use Rattle.lua_grammar.specs.declared.TokenClass.{TokenClass}
use Rattle.lua_grammar.specs.declared.TokenClass.TheVariants.{LeftBracket, Colon, LeftParen, Text, LeftBrace, Dot}
use Rattle.lua_grammar.specs.declared.Context.{Context}
use Rattle.lua_grammar.specs.Tokens.{class_at, tok_at}
use Rattle.lua_syntax.specs.Tree.{Exp, Exps, TextE, NameE, IndexE, CallE, MethodE, TableE, BinaryE, UnaryE, ParenE, NoExp, MoreExp}
use Rattle.lua_grammar.specs.Grammar.{given_tokens, ◌⨟◌, before, under, where', Spells, SpellsArgs, IsPrefix, IsAlone, mark_of, level, left_level, right_level, suffix_goes}
use Rattle.lua_reading.specs.Parsing.{Stops, Below, Before, ReadsFault, high, exp_lang, nothing, goes_on, Stands, IsOperand, Closes, operand_lang, ReadsOperand, ReadsExp}
use Rattle.lua_reading.proofs.pieces.Kinds.{open_name}
use Rattle.lua_reading.proofs.levels.Levels.{same_mark, goes, goes-not, goes-mono, left-low, level-low, right-least, after-right, right-after, stops-low, low-left}
use Rattle.lua_reading.proofs.levels.Chains.{raised, before_high, raised_above, raised_most, raised_given, head_level, IsOn, Tail, Same, Spine, spine_end, Next, next}

-- ---- the operand at the left end

pub record First (ts : List Token) (w : Context) (n f b l : ℕ) (x : Exp) (i j : ℕ) : Type 0 where
  pub operand : Exp
  pub is_operand : IsOperand operand
  pub above : ℕ
  pub below : b ≤ above
  pub at_level : ℕ
  pub low : at_level ≤ 9
  pub end : ℕ
  pub stands : Spells (given_tokens ts n f) (high w above) at_level operand i end
  pub spine : Spine ts w n f b l x j above at_level operand end

abbrev itself : (ts : List Token) (w : Context) (n f b l : ℕ) (x : Exp) (i j : ℕ) → IsOperand x → l ≤ 9 → Spells (given_tokens ts n f) (high w b) l x i j → First ts w n f b l x i j
itself ts w n f b l x i j o le s = record {
  operand = x;
  is_operand = o;
  above = b;
  below = le_refl b;
  at_level = l;
  low = le;
  end = j;
  stands = s;
  spine = spine_end ts w n f b l x j;
}

pub first : (ts : List Token) (w : Context) (n f b l : ℕ) (x : Exp) (i j : ℕ) → l ≤ 9 → Spells (given_tokens ts n f) (high w b) l x i j → First ts w n f b l x i j
unfolding Spells Spine Tail
first ts w n f b l (BinaryE line op t r) i j le s = go (first ts w n f (raised n s.0 b) (left_level op) t i s.0 (left-low op) left)
  where
    left : Spells (given_tokens ts n f) (high w (raised n s.0 b)) (left_level op) t i s.0
    left = subst (λ (v : Context). Spells (given_tokens ts n f) v (left_level op) t i s.0) (before_high ts w n f s.0 b) s.1

    go : First ts w n f (raised n s.0 b) (left_level op) t i s.0 → First ts w n f b l (BinaryE line op t r) i j
    go x = record {
      operand = x.operand;
      is_operand = x.is_operand;
      above = x.above;
      below = le_trans (raised_above n s.0 b) x.below;
      at_level = x.at_level;
      low = x.low;
      end = x.end;
      stands = x.stands;
      spine = inr (s.0, x.spine, (s.2, s.3));
    }
first ts w n f b l x i j le s = itself ts w n f b l x i j tt le s

-- ---- what is known in the loop

-- Each expression from i has this one at its left end.
abbrev pub Has : List Token → Context → ℕ → ℕ → Exp → ℕ → ℕ → ℕ → ℕ → ℕ → Exp → ℕ → Type 0
Has ts w l i left m h b n f x j = (c : ℕ) × (k : ℕ) × (b ≤ c) × Spine ts w n f b l x j c k left m × (f ≡ 7 → Below h c)

pub record Climbs (ts : List Token) (w : Context) (l i : ℕ) (left : Exp) (m h : ℕ) : Type 0 where
  pub inside : m < length ts
  pub grows : i < m
  pub some_node : 1 ≤ h
  pub height : Below h w.above
  pub stands_alone : Stands ts w l left i m h
  pub stands_left : (op : BinaryOp) → class_at ts m ≡ mark_of op → Stands ts w (left_level op) left i m h
  pub has : (x : Exp) (b n f j : ℕ) → m < n → Spells (given_tokens ts n f) (high w b) l x i j → Stops ts (goes_on l) n j → Has ts w l i left m h b n f x j

-- A looser demand.
pub looser : (ts : List Token) (w : Context) (n f b l k : ℕ) (e : Exp) (i j : ℕ) → l ≤ k → k ≤ 9 → Spells (given_tokens ts n f) (high w b) k e i j → Spells (given_tokens ts n f) (high w b) l e i j
unfolding Spells
looser ts w n f b l k (UnaryE line op e) i j le nine s = (le_trans le s.0, s.1)
looser ts w n f b l k (BinaryE line op t r) i j le nine s = (s.0, s.1, le_trans le s.2, s.3)
looser ts w n f b l k (NameE line x) i j le nine s = (s.0, s.1, (s.2.0, s.2.1, ((λ y. s.2.2.0 nine), s.2.2.1)))
looser ts w n f b l k (ParenE line e) i j le nine s = (s.0, s.1, (s.2.0, s.2.1, (s.2.2.0, s.2.2.1, (s.2.2.2.0, s.2.2.2.1, ((λ y. s.2.2.2.2.0 nine), s.2.2.2.2.1)))))
looser ts w n f b l k (IndexE line t e) i j le nine s = (s.0, s.1, s.2, (s.3.0, s.3.1, (s.3.2.0, s.3.2.1, ((λ y. s.3.2.2.0 nine), s.3.2.2.1))))
looser ts w n f b l k (CallE line t es) i j le nine s = (s.0, s.1, s.2, (s.3.0, s.3.1, (s.3.2.0, s.3.2.1, ((λ y. s.3.2.2.0 nine), s.3.2.2.1))))
looser ts w n f b l k (MethodE line t x es) i j le nine s =
    (s.0, s.1, s.2, (s.3.0, s.3.1, (s.3.2.0, s.3.2.1, (s.3.2.2.0, s.3.2.2.1, (s.3.2.2.2.0, s.3.2.2.2.1, ((λ y. s.3.2.2.2.2.0 nine), s.3.2.2.2.2.1))))))
looser ts w n f b l k _ i j le nine s = s

-- What stands behind a prefix expression that has ended doesn't go on with it.
pub no_suffix : (ts : List Token) (w : Context) (n f b l i j : ℕ) (e : Exp) → l ≤ 9 → j < n → IsPrefix e → Spells (given_tokens ts n f) (high w b) l e i j → suffix_goes (class_at ts j) ≡ false
unfolding Spells
no_suffix ts w n f b l i j (NameE line x) nine lt p s = at s.2.2.1 (s.2.2.0 nine)
  where
    at : {m : ℕ} → m ≡ j → (m < n → suffix_goes (class_at ts m) ≡ false) → suffix_goes (class_at ts j) ≡ false
    at {m} e h = let P : ℕ → Type 0 = λ y. y < n → suffix_goes (class_at ts y) ≡ false in subst P e h lt
no_suffix ts w n f b l i j (ParenE line x) nine lt p s = let P : ℕ → Type 0 = λ y. y < n → suffix_goes (class_at ts y) ≡ false in subst P s.2.2.2.2.1 (s.2.2.2.2.0 nine) lt
no_suffix ts w n f b l i j (IndexE line t k) nine lt p s = let P : ℕ → Type 0 = λ y. y < n → suffix_goes (class_at ts y) ≡ false in subst P s.3.2.2.1 (s.3.2.2.0 nine) lt
no_suffix ts w n f b l i j (CallE line t es) nine lt p s = let P : ℕ → Type 0 = λ y. y < n → suffix_goes (class_at ts y) ≡ false in subst P s.3.2.2.1 (s.3.2.2.0 nine) lt
no_suffix ts w n f b l i j (MethodE line t x es) nine lt p s = let P : ℕ → Type 0 = λ y. y < n → suffix_goes (class_at ts y) ≡ false in subst P s.3.2.2.2.2.1 (s.3.2.2.2.2.0 nine) lt
no_suffix ts w n f b l i j _ nine lt p s = elim p [ ]

-- The tail of an operator begins with its mark, and that of anything else with what goes on with a prefix expression.
pub tail_suffix : (ts : List Token) (w : Context) (n f b l : ℕ) (t x : Exp) (o j : ℕ) → o < n → IsOn t x → (head_level x ≡ 10) → Tail ts w n f b l x o j →
    IsPrefix t × (suffix_goes (class_at ts o) ≡ true)
unfolding Tail Spells
tail_suffix ts w n f b l t (BinaryE line op a r) o j lt on e s = absurd (omega (arith, e, left-low op))
tail_suffix ts w n f b l t (IndexE line a (TextE line' x)) o j lt on e s = (
  subst IsPrefix on s.0,
  elim s.1.2.1 [
    | inl d ↦ let P : ℕ → Type 0 = λ y. y < n → class_at ts y ≡ Dot in let Q : TokenClass → Type 0 = λ y. suffix_goes y ≡ true in subst Q (sym (subst P (sym s.1.1.2) d.1.0 lt)) refl
    | inr d ↦ let P : ℕ → Type 0 = λ y. y < n → class_at ts y ≡ LeftBracket in let Q : TokenClass → Type 0 = λ y. suffix_goes y ≡ true in subst Q (sym (subst P (sym s.1.1.2) d.1.0 lt)) refl
  ],
)
tail_suffix ts w n f b l t (IndexE line a _) o j lt on e s = (
  subst IsPrefix on s.0,
  elim s.1.2.1 [
    | inl d ↦ absurd d.0
    | inr d ↦ let P : ℕ → Type 0 = λ y. y < n → class_at ts y ≡ LeftBracket in let Q : TokenClass → Type 0 = λ y. suffix_goes y ≡ true in subst Q (sym (subst P (sym s.1.1.2) d.1.0 lt)) refl
  ],
)
tail_suffix ts w n f b l t (CallE line a es) o j lt on e s = (subst IsPrefix on s.0, args_begin es s.1.2.1)
  where
    from : (s' : TokenClass) → suffix_goes s' ≡ true → (s.1.0 < n → class_at ts s.1.0 ≡ s') → suffix_goes (class_at ts o) ≡ true
    from s' e' h = let P : ℕ → Type 0 = λ y. y < n → class_at ts y ≡ s' in let Q : TokenClass → Type 0 = λ y. suffix_goes y ≡ true in subst Q (sym (subst P (sym s.1.1.2) h lt)) e'

    args_begin : (zs : Exps) → SpellsArgs (given_tokens ts n f) (high w (suc b)) zs s.1.0 s.1.2.0 → suffix_goes (class_at ts o) ≡ true
    args_begin NoExp d = from LeftParen refl d.1.0
    args_begin (MoreExp (TextE line' x) zs) d = elim d [ inl y ↦ from LeftParen refl y.1.0 | inr y ↦ from Text refl (at y) ]
      where
        at : (where' (IsAlone (TextE line' x) zs) ⨟ Spells (given_tokens ts n f) (high w (suc b)) 9 (TextE line' x)) s.1.0 s.1.2.0 → s.1.0 < n → class_at ts s.1.0 ≡ Text
        at y l' = let P : ℕ → Type 0 = λ z. z < n → class_at ts z ≡ Text in subst P (sym (y.1.1 ∙ y.2.1.2)) (λ z. (y.2.2.0 z).0) l'
    args_begin (MoreExp (TableE line' x) zs) d = elim d [ inl y ↦ from LeftParen refl y.1.0 | inr y ↦ from LeftBrace refl (at y) ]
      where
        at : (where' (IsAlone (TableE line' x) zs) ⨟ Spells (given_tokens ts n f) (high w (suc b)) 9 (TableE line' x)) s.1.0 s.1.2.0 → s.1.0 < n → class_at ts s.1.0 ≡ LeftBrace
        at y l' = let P : ℕ → Type 0 = λ z. z < n → class_at ts z ≡ LeftBrace in subst P (sym (y.1.1 ∙ y.2.1.2)) y.2.2.1.0 l'
    args_begin (MoreExp _ zs) d = elim d [ inl y ↦ from LeftParen refl y.1.0 | inr y ↦ absurd y.1.0 ]
tail_suffix ts w n f b l t (MethodE line a x es) o j lt on e s =
    (subst IsPrefix on s.0, let P : ℕ → Type 0 = λ y. y < n → class_at ts y ≡ Colon in let Q : TokenClass → Type 0 = λ y. suffix_goes y ≡ true in subst Q (sym (subst P (sym s.1.1.2) s.1.2.1.0 lt)) refl)
tail_suffix ts w n f b l t _ o j lt on e s = elim on [ ]

-- What stands next above the left side is an operator, where the left side has ended.
pub record Operator (ts : List Token) (w : Context) (n f b l : ℕ) (left : Exp) (o j : ℕ) (x : Exp) : Type 0 where
  pub line : ℕ
  pub op : BinaryOp
  pub right : Exp
  pub is : x ≡ BinaryE line op left right
  pub mark : class_at ts o ≡ mark_of op
  pub line_here : line ≡ (tok_at ts o).line
  pub room : f ≡ 7 → b ≤ 200
  pub least : l ≤ level op
  pub reads : Spells (given_tokens ts n f) (high w (suc b)) (right_level op) right (suc o) j

pub operator_of : (ts : List Token) (w : Context) (n f b l k : ℕ) (t x : Exp) (o j : ℕ) → o < n → IsOn t x → head_level x ≡ k → (k ≡ 10 → ⊥) → Tail ts w n f b l x o j → Operator ts w n f b l t o j x
unfolding Tail
operator_of ts w n f b l k t (BinaryE line op a r) o j lt on e ne s =
    let P : ℕ → Type 0 = λ y. y < n → class_at ts y ≡ mark_of op in
    record {
      line = line;
      op = op;
      right = r;
      is = ap (λ (y : Exp). BinaryE line op y r) on;
      least = s.0;
      mark = subst P (sym s.1.1.2) s.1.2.1.0 lt;
      line_here = s.1.1.0;
      room = λ y. s.1.1.1 y lt;
      reads = subst (λ (y : ℕ). Spells (given_tokens ts n f) (high w (suc b)) (right_level op) r y j) (s.1.2.1.1 ∙ ap suc (sym s.1.1.2)) s.1.2.2;
    }
operator_of ts w n f b l k t (IndexE line a y) o j lt on e ne s = absurd (ne (sym e))
operator_of ts w n f b l k t (CallE line a y) o j lt on e ne s = absurd (ne (sym e))
operator_of ts w n f b l k t (MethodE line a x y) o j lt on e ne s = absurd (ne (sym e))
operator_of ts w n f b l k t _ o j lt on e ne s = elim on [ ]

-- The first operand closes well.
pub closes_first : (ts : List Token) (w : Context) (n f b l : ℕ) (x : Exp) (i j : ℕ) → l ≤ 7 → Stops ts (goes_on l) n j → (y : First ts w n f b l x i j) → Closes ts n y.operand y.end
unfolding Spells
closes_first ts w n f b l x i j le7 st y = go y.operand refl y.stands
  where
    unary : y.at_level ≤ 7 → Stops ts (goes_on 7) n y.end
    unary le lt = after (next ts w n f b l x j y.above y.at_level y.operand y.end (omega (arith, le7)) y.spine)
      where
        after : Same b l x j y.above y.at_level y.operand y.end ⊎ Next ts w n f b l x j y.above y.at_level y.operand y.end → goes_on 7 (class_at ts y.end) ≡ false
        after (inl s) = let P : ℕ → Type 0 = λ z. z < n → goes_on l (class_at ts z) ≡ false in goes-mono l 7 (class_at ts y.end) le7 (subst P s.3 st lt)
        after (inr s) =
            let p = operator_of ts w n f s.above s.at_level y.at_level y.operand s.whole y.end s.end lt s.on s.head (λ e. absurd (omega (arith, e, le))) s.tail in
            let Q : TokenClass → Type 0 = λ z. goes_on 7 z ≡ false in
            let on : head_level (BinaryE p.line p.op y.operand p.right) ≡ y.at_level = ap head_level (sym p.is) ∙ s.head in
            subst Q (sym p.mark) (low-left p.op (subst (λ (z : ℕ). z ≤ 7) (sym on) le))

    go : (o : Exp) → y.operand ≡ o → Spells (given_tokens ts n f) (high w y.above) y.at_level o i y.end → Closes ts n o y.end
    go (UnaryE line op e) same s = unary s.0
    go (BinaryE line op t r) same s = tt
    go _ same s = tt

pub begin : (ts : List Token) (w : Context) (l i : ℕ) (e : Exp) (q h : ℕ) → l ≤ 7 → ReadsOperand ts w i e q h → Climbs ts w l i e q h
unfolding Stands
begin ts w l i e q h le7 o = record {
  inside = o.reading.inside;
  grows = o.grows;
  some_node = o.some_node;
  height = o.reading.height;
  stands_left = o.stands_left;
  stands_alone = λ b n f x. looser ts w n f b l 7 e i q le7 (omega arith) (o.stands_alone b n f x);
  has = λ x b n f j lt s st.
      let y : First ts w n f b l x i j = first ts w n f b l x i j (omega (arith, le7)) s in
      let z = o.reading.only y.operand y.above n f y.end lt (y.is_operand, y.at_level, y.low, y.stands, closes_first ts w n f b l x i j le7 st y) (λ v. refl) in
      (y.above, y.at_level, y.below, subst (λ (v : ℕ). Spine ts w n f b l x j y.above y.at_level e v) z.1 (subst (λ (v : Exp). Spine ts w n f b l x j y.above y.at_level v y.end) z.0 y.spine), z.2);
}

-- The first operand is broken.
pub operand_level : (ts : List Token) (w : Context) (n f b v l : ℕ) (e : Exp) (i j : ℕ) → IsOperand e → l ≤ 7 → v ≤ 9 → Spells (given_tokens ts n f) (high w b) v e i j → Spells (given_tokens ts n f) (high w b) l e i j
unfolding Spells
operand_level ts w n f b v l (UnaryE line op e) i j o le nine s = (le, s.1)
operand_level ts w n f b v l (BinaryE line op t r) i j o le nine s = elim o [ ]
operand_level ts w n f b v l (NameE line x) i j o le nine s = (s.0, s.1, (s.2.0, s.2.1, ((λ y. s.2.2.0 nine), s.2.2.1)))
operand_level ts w n f b v l (ParenE line e) i j o le nine s = (s.0, s.1, (s.2.0, s.2.1, (s.2.2.0, s.2.2.1, (s.2.2.2.0, s.2.2.2.1, ((λ y. s.2.2.2.2.0 nine), s.2.2.2.2.1)))))
operand_level ts w n f b v l (IndexE line t e) i j o le nine s = (s.0, s.1, s.2, (s.3.0, s.3.1, (s.3.2.0, s.3.2.1, ((λ y. s.3.2.2.0 nine), s.3.2.2.1))))
operand_level ts w n f b v l (CallE line t es) i j o le nine s = (s.0, s.1, s.2, (s.3.0, s.3.1, (s.3.2.0, s.3.2.1, ((λ y. s.3.2.2.0 nine), s.3.2.2.1))))
operand_level ts w n f b v l (MethodE line t x es) i j o le nine s =
    (s.0, s.1, s.2, (s.3.0, s.3.1, (s.3.2.0, s.3.2.1, (s.3.2.2.0, s.3.2.2.1, (s.3.2.2.2.0, s.3.2.2.2.1, ((λ y. s.3.2.2.2.2.0 nine), s.3.2.2.2.2.1))))))
operand_level ts w n f b v l _ i j o le nine s = s

pub operand_breaks : (ts : List Token) (w : Context) (l i k p : ℕ) → l ≤ 7 → ReadsFault Exp ts (operand_lang ts w) nothing w.above i k p → ReadsFault Exp ts (exp_lang ts w l) (goes_on l) w.above i k p
operand_breaks ts w l i k p le7 o = record {
  inside = o.inside;
  ordered = o.ordered;
  number = o.number;
  reach = λ n f x. let r = o.reach n f x in (r.0, r.1, r.2, operand_level ts w n f w.above r.3.1 l r.0 i r.1 r.3.0 le7 r.3.2 r.3.3);
  dead = λ x b n j le lt s st.
      let y : First ts w n k b l x i j = first ts w n k b l x i j (omega (arith, le7)) s in
      o.dead y.operand y.above n y.end (le_trans le y.below) lt (y.is_operand, y.at_level, y.low, y.stands, closes_first ts w n k b l x i j le7 st y) (λ v. refl);
}

-- ---- what stands above the left side

-- No suffix stands behind the left side, so what stands above it is an operator, if anything.
pub above_left : (ts : List Token) (w : Context) (l i : ℕ) (left : Exp) (m h : ℕ) → l ≤ 7 → Climbs ts w l i left m h → (x : Exp) (b n f j c k : ℕ) → m < n → Spine ts w n f b l x j c k left m →
    Same b l x j c k left m ⊎ ((u : Next ts w n f b l x j c k left m) × Operator ts w n f u.above u.at_level left m u.end u.whole)
unfolding Stands
above_left ts w l i left m h le7 cl x b n f j c k lt sp = go (next ts w n f b l x j c k left m (omega (arith, le7)) sp)
  where
    at_ten : (u : Next ts w n f b l x j c k left m) → k ≡ 10 → ⊥
    at_ten u e =
        let t = tail_suffix ts w n f u.above u.at_level left u.whole m u.end lt u.on (u.head ∙ e) u.tail in
        let s = no_suffix ts w (suc m) 5 w.above l i m left (omega (arith, le7)) (lt-suc_self m) t.0 (cl.stands_alone w.above (suc m) 5 (λ y. cl.height)) in
        true≢false (sym t.1 ∙ s)

    go : Same b l x j c k left m ⊎ Next ts w n f b l x j c k left m → Same b l x j c k left m ⊎ ((u : Next ts w n f b l x j c k left m) × Operator ts w n f u.above u.at_level left m u.end u.whole)
    go (inl s) = inl s
    go (inr u) = inr (u, operator_of ts w n f u.above u.at_level k left u.whole m u.end lt u.on u.head (at_ten u) u.tail)

-- No operator goes on with the expression: it has been read.
pub finish : (ts : List Token) (w : Context) (l i : ℕ) (e : Exp) (m h : ℕ) → l ≤ 7 → Climbs ts w l i e m h → goes_on l (class_at ts m) ≡ false → ReadsExp ts w l i e m h
unfolding Stands
finish ts w l i e m h le7 cl stop = record {
  grows = cl.grows;
  some_node = cl.some_node;
  stops_here = stop;
  reading = record {
    inside = cl.inside;
    ordered = omega (arith, cl.grows);
    height = cl.height;
    stands = cl.stands_alone;
    only = λ x b n f j lt s st. let y = cl.has x b n f j lt s st in ends x b n f j y.0 y.1 lt y.4 (above_left ts w l i e m h le7 cl x b n f j y.0 y.1 lt y.3);
  };
}
  where
    ends : (x : Exp) (b n f j c k : ℕ) → m < n → (f ≡ 7 → Below h c) → Same b l x j c k e m ⊎ ((u : Next ts w n f b l x j c k e m) × Operator ts w n f u.above u.at_level e m u.end u.whole) →
        (x ≡ e) × (j ≡ m) × (f ≡ 7 → Below h b)
    ends x b n f j c k lt fits (inl s) = (s.2, s.3, λ y. subst (λ (z : ℕ). Below h z) (sym s.0) (fits y))
    ends x b n f j c k lt fits (inr u) =
        let P : TokenClass → Type 0 = λ s. goes_on l s ≡ false in
        absurd (true≢false (sym (goes l u.1.op (le_trans u.0.least u.1.least)) ∙ subst P u.1.mark stop))

-- An operator that has been read with both its sides.
pub binary_stands : (ts : List Token) (w : Context) (v : ℕ) (left right : Exp) (op : BinaryOp) (line i m q h k : ℕ) →
    v ≤ level op → class_at ts m ≡ mark_of op → line ≡ (tok_at ts m).line → Stands ts w (left_level op) left i m h →
    ((b n f : ℕ) → (f ≡ 7 → Below k b) → Spells (given_tokens ts n f) (high w b) (right_level op) right (suc m) q) →
    Stands ts w v (BinaryE line op left right) i q (1 + max h k)
unfolding Stands Spells
binary_stands ts w v left right op line i m q h k le mark ln sl sr b n f fits =
    (m, left_part, le, (m, (ln, (λ e lt. node_fits b (fits e)), refl), (suc m, ((λ lt. mark), refl), sr (suc b) n f (λ e. right_fits b (fits e)))))
  where
    left_fits : (b c : ℕ) → c ≤ suc b → 1 + max h k ≤ 201 - b → h ≤ 201 - c
    left_fits b c y x = omega arith

    right_fits : (b : ℕ) → 1 + max h k ≤ 201 - b → k ≤ 201 - suc b
    right_fits b x = omega arith

    node_fits : (b : ℕ) → 1 + max h k ≤ 201 - b → b ≤ 200
    node_fits b x = omega arith

    left_part : Spells (given_tokens ts n f) (before (given_tokens ts n f) m (high w b)) (left_level op) left i m
    left_part = subst (λ (v : Context). Spells (given_tokens ts n f) v (left_level op) left i m) (sym (before_high ts w n f m b)) (sl (raised n m b) n f (λ e. left_fits b (raised n m b) (raised_most n m b) (fits e)))

-- The left side and an operator, with some right side.
pub binary_reach : (ts : List Token) (w : Context) (l i m h n f j : ℕ) (left right : Exp) (op : BinaryOp) → Stands ts w (left_level op) left i m h → class_at ts m ≡ mark_of op → l ≤ level op →
    (f ≡ 7 → (w.above + h ≤ 200) × (w.above ≤ 200)) → Spells (given_tokens ts n f) (high w (suc w.above)) (right_level op) right (suc m) j →
    Spells (given_tokens ts n f) (high w w.above) l (BinaryE (tok_at ts m).line op left right) i j
unfolding Stands Spells
binary_reach ts w l i m h n f j left right op sl mark le room sr =
    (m, left_part, le, (m, (refl, (λ e lt. (room e).1), refl), (suc m, ((λ lt. mark), refl), sr)))
  where
    up : (c : ℕ) → c ≤ suc w.above → w.above + h ≤ 200 → h ≤ 201 - c
    up c x y = omega arith

    left_part : Spells (given_tokens ts n f) (before (given_tokens ts n f) m (high w w.above)) (left_level op) left i m
    left_part = subst (λ (v : Context). Spells (given_tokens ts n f) v (left_level op) left i m) (sym (before_high ts w n f m w.above)) (sl (raised n m w.above) n f (λ e. up (raised n m w.above) (raised_most n m w.above) (room e).0))

-- Where the right side of an operator ends, what follows doesn't go on with it.
pub right_follows : (ts : List Token) (w : Context) (n f b l : ℕ) (x : Exp) (j c k : ℕ) (left right : Exp) (op : BinaryOp) (line e : ℕ) → l ≤ 7 → l ≤ level op → k ≤ level op → Stops ts (goes_on l) n j →
    Spine ts w n f b l x j c k (BinaryE line op left right) e → Stops ts (goes_on (right_level op)) n e
unfolding Tail
right_follows ts w n f b l x j c k left right op line e le7 le kle st sp lt = go (next ts w n f b l x j c k (BinaryE line op left right) e (omega (arith, le7)) sp)
  where
    go : Same b l x j c k (BinaryE line op left right) e ⊎ Next ts w n f b l x j c k (BinaryE line op left right) e → goes_on (right_level op) (class_at ts e) ≡ false
    go (inl s) = let P : ℕ → Type 0 = λ z. z < n → goes_on l (class_at ts z) ≡ false in goes-mono l (right_level op) (class_at ts e) (right-least l op le) (subst P s.3 st lt)
    go (inr u) =
        let p = operator_of ts w n f u.above u.at_level k (BinaryE line op left right) u.whole e u.end lt u.on u.head (λ y. absurd (omega (arith, y, kle, level-low op))) u.tail in
        let on : left_level p.op ≡ k = ap head_level (sym p.is) ∙ u.head in
        let P : TokenClass → Type 0 = λ s. goes_on (right_level op) s ≡ false in
        subst P (sym p.mark) (goes-not (right_level op) p.op (after-right op p.op (subst (λ (z : ℕ). z ≤ level op) (sym on) kle)))

-- One more operator and its right side have been read.
pub more : (ts : List Token) (w : Context) (l i : ℕ) (left right : Exp) (op : BinaryOp) (line m q h k : ℕ) → l ≤ 7 → Climbs ts w l i left m h → class_at ts m ≡ mark_of op → l ≤ level op →
    line ≡ (tok_at ts m).line → w.above + h ≤ 200 → ReadsExp ts (under w) (right_level op) (suc m) right q k → Climbs ts w l i (BinaryE line op left right) q (1 + max h k)
more ts w l i left right op line m q h k le7 cl mark le ln room r = record {
  inside = r.reading.inside;
  grows = omega (arith, cl.grows, r.grows);
  some_node = omega arith;
  height = omega (arith, cl.some_node, room, r.reading.height, r.some_node);
  stands_alone = binary_stands ts w l left right op line i m q h k le mark ln (cl.stands_left op mark) r.reading.stands;
  stands_left = λ p e. binary_stands ts w (left_level p) left right op line i m q h k
      (right-after op p (stops-low (right_level op) p (let P : TokenClass → Type 0 = λ s. goes_on (right_level op) s ≡ false in subst P e r.stops_here))) mark ln (cl.stands_left op mark) r.reading.stands;
  has = λ x b n f j lt s st.
      let mn : m < n = omega (arith, lt, r.grows) in
      let y = cl.has x b n f j mn s st in
      step x b n f j y.0 y.1 lt mn st y.2 y.4 (above_left ts w l i left m h le7 cl x b n f j y.0 y.1 mn y.3);
}
  where
    total : (b : ℕ) → b ≤ 200 → h ≤ 201 - suc b → k ≤ 201 - suc b → 1 + max h k ≤ 201 - b
    total b x y z = omega arith

    step : (x : Exp) (b n f j c z : ℕ) → q < n → m < n → Stops ts (goes_on l) n j → b ≤ c → (f ≡ 7 → Below h c) →
        Same b l x j c z left m ⊎ ((u : Next ts w n f b l x j c z left m) × Operator ts w n f u.above u.at_level left m u.end u.whole) →
        Has ts w l i (BinaryE line op left right) q (1 + max h k) b n f x j
    step x b n f j c z lt mn st bc fits (inl s) =
        let P : TokenClass → Type 0 = λ s. goes_on l s ≡ true in
        let Q : ℕ → Type 0 = λ y. y < n → goes_on l (class_at ts y) ≡ false in
        absurd (true≢false (sym (subst P (sym mark) (goes l op le)) ∙ subst Q s.3 st mn))
    step x b n f j c z lt mn st bc fits (inr u) =
        let p = u.1 in
        let same_op : p.op ≡ op = same_mark p.op op (sym p.mark ∙ mark) in
        let R : BinaryOp → Type 0 = λ o. Spells (given_tokens ts n f) (high w (suc u.0.above)) (right_level o) p.right (suc m) u.0.end in
        let whole : u.0.whole ≡ BinaryE p.line op left p.right = p.is ∙ ap (λ (o : BinaryOp). BinaryE p.line o left p.right) same_op in
        let K : BinaryOp → Type 0 = λ o. u.0.at_level ≤ level o in
        let kle : u.0.at_level ≤ level op = subst K same_op p.least in
        let spine : Spine ts w n f b l x j u.0.above u.0.at_level (BinaryE p.line op left p.right) u.0.end = subst (λ (v : Exp). Spine ts w n f b l x j u.0.above u.0.at_level v u.0.end) whole u.0.spine in
        let o = r.reading.only p.right (suc u.0.above) n f u.0.end lt (subst R same_op p.reads) (right_follows ts w n f b l x j u.0.above u.0.at_level left p.right op p.line u.0.end le7 le kle st spine) in
        let same : BinaryE p.line op left p.right ≡ BinaryE line op left right = ap (λ (v : ℕ). BinaryE v op left p.right) (p.line_here ∙ sym ln) ∙ ap (λ (v : Exp). BinaryE line op left v) o.0 in (
          u.0.above,
          u.0.at_level,
          u.0.below,
          subst (λ (v : ℕ). Spine ts w n f b l x j u.0.above u.0.at_level (BinaryE line op left right) v) o.1 (subst (λ (v : Exp). Spine ts w n f b l x j u.0.above u.0.at_level v u.0.end) same spine),
          λ e. total u.0.above (p.room e) (subst (λ (v : ℕ). Below h v) (sym u.0.raises ∙ raised_given n m u.0.above mn) (fits e)) (o.2 e),
        )

-- What stands with the left side and an operator.
abbrev Above : List Token → Context → ℕ → ℕ → Exp → ℕ → ℕ → ℕ → ℕ → ℕ → Exp → ℕ → Type 0
Above ts w l i left m h b n f x j =
    (c : ℕ) × (z : ℕ) × (b ≤ c) × (f ≡ 7 → Below h c) × (u : Next ts w n f b l x j c z left m) × Operator ts w n f u.above u.at_level left m u.end u.whole

abbrev goes_further : (ts : List Token) (w : Context) (l i : ℕ) (left : Exp) (op : BinaryOp) (m h : ℕ) → l ≤ 7 → Climbs ts w l i left m h → class_at ts m ≡ mark_of op → l ≤ level op →
    (x : Exp) (b n f j : ℕ) → m < n → Spells (given_tokens ts n f) (high w b) l x i j → Stops ts (goes_on l) n j → Above ts w l i left m h b n f x j
goes_further ts w l i left op m h le7 cl mark le x b n f j lt s st =
    let y = cl.has x b n f j lt s st in
    elim (above_left ts w l i left m h le7 cl x b n f j y.0 y.1 lt y.3) [
      | inl s ↦
          let P : TokenClass → Type 0 = λ s. goes_on l s ≡ true in
          let Q : ℕ → Type 0 = λ y. y < n → goes_on l (class_at ts y) ≡ false in
          absurd (true≢false (sym (subst P (sym mark) (goes l op le)) ∙ subst Q s.3 st lt))
      | inr u ↦ (y.0, y.1, y.2, y.4, u.0, u.1)
    ]

-- An operator that would put a node too deep.
pub deep : (ts : List Token) (w : Context) (l i : ℕ) (left : Exp) (op : BinaryOp) (m h : ℕ) → l ≤ 7 → Climbs ts w l i left m h → class_at ts m ≡ mark_of op → l ≤ level op → 200 < w.above + h →
    ReadsFault Exp ts (exp_lang ts w l) (goes_on l) w.above i 7 m
unfolding Stands
deep ts w l i left op m h le7 cl mark le over = record {
  inside = cl.inside;
  ordered = omega (arith, cl.grows);
  number = (omega arith, omega arith);
  reach = reach;
  dead = λ x b n j ab lt s st.
      let y = goes_further ts w l i left op m h le7 cl mark le x b n 7 j lt s st in
      let fits : h ≤ 201 - suc y.4.above = subst (λ (v : ℕ). Below h v) (sym y.4.raises ∙ raised_given n m y.4.above lt) (y.3 refl) in
      too_high y.4.above (y.5.room refl) fits (le_trans ab y.4.below);
}
  where
    too_high : (c : ℕ) → c ≤ 200 → h ≤ 201 - suc c → w.above ≤ c → ⊥
    too_high c x y z = omega (arith, over, cl.some_node)

    reach : (n f : ℕ) → Before m 7 n f → (x : Exp) × (j : ℕ) × (n ≤ j) × exp_lang ts w l x w.above n f i j
    reach n f (inl e) = (left, m, omega (arith, e), cl.stands_alone w.above n f (λ x. cl.height))
    reach n f (inr x) = (
      BinaryE (tok_at ts m).line op left (NameE (tok_at ts (suc m)).line []),
      suc (suc m),
      omega (arith, x.0),
      binary_reach ts w l i m h n f (suc (suc m)) left (NameE (tok_at ts (suc m)).line []) op (cl.stands_left op mark) mark le (λ e. absurd (omega (arith, e, x.2)))
          (open_name ts w n f (suc w.above) (right_level op) (suc m) (omega (arith, x.0))),
    )

-- The right side is broken.
pub right_breaks : (ts : List Token) (w : Context) (l i : ℕ) (left : Exp) (op : BinaryOp) (m h k p : ℕ) → l ≤ 7 → Climbs ts w l i left m h → class_at ts m ≡ mark_of op → l ≤ level op → w.above + h ≤ 200 →
    ReadsFault Exp ts (exp_lang ts (under w) (right_level op)) (goes_on (right_level op)) (suc w.above) (suc m) k p → ReadsFault Exp ts (exp_lang ts w l) (goes_on l) w.above i k p
right_breaks ts w l i left op m h k p le7 cl mark le room r = record {
  inside = r.inside;
  ordered = omega (arith, cl.grows, r.ordered);
  number = r.number;
  reach = λ n f x.
      let y = r.reach n f x in
      (BinaryE (tok_at ts m).line op left y.0, y.1, y.2, binary_reach ts w l i m h n f y.1 left y.0 op (cl.stands_left op mark) mark le (λ e. (room, omega (arith, room))) y.3);
  dead = λ x b n j ab lt s st.
      let mn : m < n = omega (arith, lt, r.ordered) in
      let y = goes_further ts w l i left op m h le7 cl mark le x b n k j mn s st in
      ends x b n j ab lt st y.0 y.1 y.4 y.5;
}
  where
    ends : (x : Exp) (b n j : ℕ) → w.above ≤ b → p < n → Stops ts (goes_on l) n j → (c z : ℕ) (u : Next ts w n k b l x j c z left m) → Operator ts w n k u.above u.at_level left m u.end u.whole → ⊥
    ends x b n j ab lt st c z u q =
        let same_op : q.op ≡ op = same_mark q.op op (sym q.mark ∙ mark) in
        let R : BinaryOp → Type 0 = λ o. Spells (given_tokens ts n k) (high w (suc u.above)) (right_level o) q.right (suc m) u.end in
        let whole : u.whole ≡ BinaryE q.line op left q.right = q.is ∙ ap (λ (o : BinaryOp). BinaryE q.line o left q.right) same_op in
        let K : BinaryOp → Type 0 = λ o. u.at_level ≤ level o in
        let spine : Spine ts w n k b l x j u.above u.at_level (BinaryE q.line op left q.right) u.end = subst (λ (v : Exp). Spine ts w n k b l x j u.above u.at_level v u.end) whole u.spine in
        r.dead q.right (suc u.above) n u.end (omega (arith, ab, u.below)) lt (subst R same_op q.reads)
        (right_follows ts w n k b l x j u.above u.at_level left q.right op q.line u.end le7 le (subst K same_op q.least) st spine)

-- The loop over what goes on with a prefix expression.
use Rattle.std.proofs.Common.{◌≡◌, ℕ, suc, ◌-◌, ◌+◌, ◌<◌, ◌≤◌, ◌⊎◌, max, true, false, List, length, refl, sym, ap, subst, ◌∙◌, inl, inr, le_trans, le_refl, lt_of_le_of_lt, arith, true≢false, add-one}
use Rattle.lua_lexer.specs.declared.token.Token.{Token}
use Rattle.lua_grammar.specs.declared.TokenClass.{TokenClass}
use Rattle.lua_grammar.specs.declared.TokenClass.TheVariants.{Name, LeftBracket, RightBracket, Colon, LeftParen, Text, LeftBrace, Dot}
use Rattle.lua_grammar.specs.declared.Context.{Context}
use Rattle.lua_grammar.specs.Tokens.{class_at, tok_at, bytes_of}
use Rattle.lua_syntax.specs.Tree.{NoField, Exp, Exps, TextE, NameE, IndexE, CallE, MethodE, TableE, BinaryE, ParenE, NoExp, MoreExp}
use Rattle.lua_grammar.specs.Grammar.{given_tokens, text, before, Spells, SpellsArgs, SpellsFields, SpellsDot, IsPrefix, suffix_goes}
use Rattle.lua_reading.specs.Parsing.{Stops, args_lang, Below, Before, ReadsFault, high, prefix_lang, nothing, ReadsPrefix}
use Rattle.lua_reading.specs.Answers.{ReadsNonEmpty, primary_lang, suffix_lang, IsPrimary, name_lang}
use Rattle.lua_reading.proofs.pieces.Steps.{Rest, Done, Word, Named, Under, Reads, Left, opens}
use Rattle.lua_reading.proofs.pieces.Kinds.{name_kind, exp_kind, args_kind}
use Rattle.lua_reading.proofs.levels.Levels.{left-low}
use Rattle.lua_reading.proofs.levels.Chains.{raised, before_high, raised_above, raised_most, raised_given, head_level, IsOn, Tail, Same, Spine, spine_end, Next, next}
use Rattle.lua_reading.proofs.levels.Climb.{tail_suffix}

-- ---- the name or the parentheses at the left end

pub record Root (ts : List Token) (w : Context) (n f b : ℕ) (x : Exp) (i j : ℕ) : Type 0 where
  pub root : Exp
  pub is_primary : IsPrimary root
  pub above : ℕ
  pub below : b ≤ above
  pub end : ℕ
  pub stands : Spells (given_tokens ts n f) (high w above) 10 root i end
  pub spine : Spine ts w n f b 10 x j above 10 root end

pub root_of : (ts : List Token) (w : Context) (n f b : ℕ) (x : Exp) (i j : ℕ) → IsPrefix x → Spells (given_tokens ts n f) (high w b) 10 x i j → Root ts w n f b x i j
unfolding Spells Spine Tail
root_of ts w n f b (NameE line y) i j p s = record { root = NameE line y; is_primary = tt; above = b; below = le_refl b; end = j; stands = s; spine = spine_end ts w n f b 10 (NameE line y) j }
root_of ts w n f b (ParenE line y) i j p s = record { root = ParenE line y; is_primary = tt; above = b; below = le_refl b; end = j; stands = s; spine = spine_end ts w n f b 10 (ParenE line y) j }
root_of ts w n f b (IndexE line t k) i j p s =
    go (root_of ts w n f (raised n s.0 b) t i s.0 s.2 (subst (λ (v : Context). Spells (given_tokens ts n f) v 10 t i s.0) (before_high ts w n f s.0 b) s.1))
  where
    go : Root ts w n f (raised n s.0 b) t i s.0 → Root ts w n f b (IndexE line t k) i j
    go x = record { root = x.root; is_primary = x.is_primary; above = x.above; below = le_trans (raised_above n s.0 b) x.below; end = x.end; stands = x.stands; spine = inr (s.0, x.spine, (s.2, s.3)) }
root_of ts w n f b (CallE line t k) i j p s =
    go (root_of ts w n f (raised n s.0 b) t i s.0 s.2 (subst (λ (v : Context). Spells (given_tokens ts n f) v 10 t i s.0) (before_high ts w n f s.0 b) s.1))
  where
    go : Root ts w n f (raised n s.0 b) t i s.0 → Root ts w n f b (CallE line t k) i j
    go x = record { root = x.root; is_primary = x.is_primary; above = x.above; below = le_trans (raised_above n s.0 b) x.below; end = x.end; stands = x.stands; spine = inr (s.0, x.spine, (s.2, s.3)) }
root_of ts w n f b (MethodE line t z k) i j p s =
    go (root_of ts w n f (raised n s.0 b) t i s.0 s.2 (subst (λ (v : Context). Spells (given_tokens ts n f) v 10 t i s.0) (before_high ts w n f s.0 b) s.1))
  where
    go : Root ts w n f (raised n s.0 b) t i s.0 → Root ts w n f b (MethodE line t z k) i j
    go x = record { root = x.root; is_primary = x.is_primary; above = x.above; below = le_trans (raised_above n s.0 b) x.below; end = x.end; stands = x.stands; spine = inr (s.0, x.spine, (s.2, s.3)) }
root_of ts w n f b _ i j p s = elim p [ ]

-- ---- what is known in the loop

unfoldable pub PrefixStands : List Token → Context → ℕ → Exp → ℕ → ℕ → Type 0
PrefixStands ts w i e q h = (b n f : ℕ) → (f ≡ 7 → Below h b) → Spells (given_tokens ts n f) (high w b) 10 e i q

abbrev pub HasPrefix : List Token → Context → Exp → ℕ → ℕ → ℕ → ℕ → ℕ → Exp → ℕ → Type 0
HasPrefix ts w left m h b n f x j = (c : ℕ) × (b ≤ c) × Spine ts w n f b 10 x j c 10 left m × (f ≡ 7 → Below h c)

pub record Chain (ts : List Token) (w : Context) (i : ℕ) (left : Exp) (m h : ℕ) : Type 0 where
  pub inside : m < length ts
  pub grows : i < m
  pub some_node : 1 ≤ h
  pub height : Below h w.above
  pub is_prefix : IsPrefix left
  pub stands : PrefixStands ts w i left m h
  pub has : (x : Exp) (b n f j : ℕ) → m < n → IsPrefix x → Spells (given_tokens ts n f) (high w b) 10 x i j → Stops ts suffix_goes n j → HasPrefix ts w left m h b n f x j

pub primary_prefix : (e : Exp) → IsPrimary e → IsPrefix e
primary_prefix (NameE line y) p = tt
primary_prefix (ParenE line y) p = tt
primary_prefix _ p = elim p [ ]

pub chain_begins : (ts : List Token) (w : Context) (i : ℕ) (e : Exp) (q h : ℕ) → 1 ≤ h → ReadsNonEmpty Exp ts (primary_lang ts w) nothing w.above i e q h → Chain ts w i e q h
unfolding PrefixStands
chain_begins ts w i e q h pos g = record {
  inside = g.reading.inside;
  grows = g.grows;
  some_node = pos;
  height = g.reading.height;
  is_prefix = primary_prefix e (g.reading.stands w.above (suc q) 5 (λ y. g.reading.height)).0;
  stands = λ b n f x. (g.reading.stands b n f x).1;
  has = λ x b n f j lt p s st.
      let r = root_of ts w n f b x i j p s in
      let o = g.reading.only r.root r.above n f r.end lt (r.is_primary, r.stands) (λ v. refl) in
      (r.above, r.below, subst (λ (v : ℕ). Spine ts w n f b 10 x j r.above 10 e v) o.1 (subst (λ (v : Exp). Spine ts w n f b 10 x j r.above 10 v r.end) o.0 r.spine), o.2);
}

pub primary_fails : (ts : List Token) (w : Context) (i k p : ℕ) → ReadsFault Exp ts (primary_lang ts w) nothing w.above i k p → ReadsFault Exp ts (prefix_lang ts w) suffix_goes w.above i k p
primary_fails ts w i k p g = record {
  inside = g.inside;
  ordered = g.ordered;
  number = g.number;
  reach = λ n f x. let r = g.reach n f x in (r.0, r.1, r.2, (primary_prefix r.0 r.3.0, r.3.1));
  dead = λ x b n j ab lt s st. let r = root_of ts w n k b x i j s.0 s.1 in g.dead r.root r.above n r.end (le_trans ab r.below) lt (r.is_primary, r.stands) (λ v. refl);
}

-- What stands next above it is an index, a call or a method.
pub suffix_of : (ts : List Token) (w : Context) (n f b : ℕ) (left x : Exp) (m j : ℕ) → IsOn left x → head_level x ≡ 10 → Tail ts w n f b 10 x m j → suffix_lang ts w left x b n f m j
unfolding Tail
suffix_of ts w n f b left (BinaryE line op t r) m j on e s = absurd (omega (arith, e, left-low op))
suffix_of ts w n f b left (IndexE line t k) m j on e s = (on, s.1)
suffix_of ts w n f b left (CallE line t k) m j on e s = (on, s.1)
suffix_of ts w n f b left (MethodE line t x k) m j on e s = (on, s.1)
suffix_of ts w n f b left _ m j on e s = elim on [ ]

-- And the other way round.
pub on_suffix : (ts : List Token) (w : Context) (n f b : ℕ) (left x : Exp) (i m j : ℕ) → IsPrefix left → Spells (given_tokens ts n f) (before (given_tokens ts n f) m (high w b)) 10 left i m → suffix_lang ts w left x b n f m j →
    IsPrefix x × Spells (given_tokens ts n f) (high w b) 10 x i j
unfolding Spells
on_suffix ts w n f b left (IndexE line t k) i m j p sl s = (tt, (m, subst (λ (v : Exp). Spells (given_tokens ts n f) (before (given_tokens ts n f) m (high w b)) 10 v i m) (sym s.0) sl, subst IsPrefix (sym s.0) p, s.1))
on_suffix ts w n f b left (CallE line t k) i m j p sl s = (tt, (m, subst (λ (v : Exp). Spells (given_tokens ts n f) (before (given_tokens ts n f) m (high w b)) 10 v i m) (sym s.0) sl, subst IsPrefix (sym s.0) p, s.1))
on_suffix ts w n f b left (MethodE line t x k) i m j p sl s = (tt, (m, subst (λ (v : Exp). Spells (given_tokens ts n f) (before (given_tokens ts n f) m (high w b)) 10 v i m) (sym s.0) sl, subst IsPrefix (sym s.0) p, s.1))
on_suffix ts w n f b left _ i m j p sl s = elim s [ ]

abbrev seven_below : (ts : List Token) (w : Context) (i : ℕ) (left : Exp) (m h : ℕ) → PrefixStands ts w i left m h → (b n f : ℕ) → (f ≡ 7 → Below h (raised n m b)) → Spells (given_tokens ts n f) (before (given_tokens ts n f) m (high w b)) 10 left i m
unfolding PrefixStands
seven_below ts w i left m h st b n f fits = subst (λ (v : Context). Spells (given_tokens ts n f) v 10 left i m) (sym (before_high ts w n f m b)) (st (raised n m b) n f fits)

-- Nothing goes on with the expression: it has been read.
pub chain_ends : (ts : List Token) (w : Context) (i : ℕ) (e : Exp) (m h : ℕ) → Chain ts w i e m h → suffix_goes (class_at ts m) ≡ false → ReadsPrefix ts w i e m h
unfolding PrefixStands
chain_ends ts w i e m h cl stop = record {
  grows = cl.grows;
  some_node = cl.some_node;
  stops_here = stop;
  reading = record {
    inside = cl.inside;
    ordered = omega (arith, cl.grows);
    height = cl.height;
    stands = λ b n f x. (cl.is_prefix, cl.stands b n f x);
    only = λ x b n f j lt s st. let y = cl.has x b n f j lt s.0 s.1 st in go x b n f j y.0 lt y.3 (next ts w n f b 10 x j y.0 10 e m (le_refl 10) y.2);
  };
}
  where
    go : (x : Exp) (b n f j c : ℕ) → m < n → (f ≡ 7 → Below h c) → Same b 10 x j c 10 e m ⊎ Next ts w n f b 10 x j c 10 e m → (x ≡ e) × (j ≡ m) × (f ≡ 7 → Below h b)
    go x b n f j c lt fits (inl s) = (s.2, s.3, λ y. subst (λ (z : ℕ). Below h z) (sym s.0) (fits y))
    go x b n f j c lt fits (inr u) =
        let t = tail_suffix ts w n f u.above u.at_level e u.whole m u.end lt u.on u.head u.tail in
        absurd (true≢false (sym t.1 ∙ stop))

-- What stands with the left side and what goes on with it.
abbrev Higher : List Token → Context → Exp → ℕ → ℕ → ℕ → ℕ → ℕ → Exp → ℕ → Type 0
Higher ts w left m h b n f x j = (y : Exp) × (c : ℕ) × (e : ℕ) × (b ≤ c) × suffix_lang ts w left y c n f m e × Spine ts w n f b 10 x j c 10 y e × (f ≡ 7 → Below h (suc c))

abbrev higher : (ts : List Token) (w : Context) (i : ℕ) (left : Exp) (m h : ℕ) → Chain ts w i left m h → suffix_goes (class_at ts m) ≡ true → (x : Exp) (b n f j : ℕ) → m < n → IsPrefix x →
    Spells (given_tokens ts n f) (high w b) 10 x i j → Stops ts suffix_goes n j → Higher ts w left m h b n f x j
higher ts w i left m h cl goes x b n f j lt p s st = go (cl.has x b n f j lt p s st)
  where
    further : (c : ℕ) → (f ≡ 7 → Below h c) → Same b 10 x j c 10 left m ⊎ Next ts w n f b 10 x j c 10 left m → Higher ts w left m h b n f x j
    further c fits (inl y) = let Q : ℕ → Type 0 = λ z. z < n → suffix_goes (class_at ts z) ≡ false in absurd (true≢false (sym goes ∙ subst Q y.3 st lt))
    further c fits (inr u) = (
      u.whole,
      u.above,
      u.end,
      u.below,
      suffix_of ts w n f u.above left u.whole m u.end u.on u.head (subst (λ (z : ℕ). Tail ts w n f u.above z u.whole m u.end) (u.ten refl) u.tail),
      subst (λ (z : ℕ). Spine ts w n f b 10 x j u.above z u.whole u.end) (u.ten refl) u.spine,
      λ y. subst (λ (z : ℕ). Below h z) (sym u.raises ∙ raised_given n m u.above lt) (fits y),
    )

    go : HasPrefix ts w left m h b n f x j → Higher ts w left m h b n f x j
    go y = further y.0 y.3 (next ts w n f b 10 x j y.0 10 left m (le_refl 10) y.2)

-- What goes on with the left side has been read.
pub chain_goes_on : (ts : List Token) (w : Context) (i : ℕ) (left e : Exp) (m q h k : ℕ) → Chain ts w i left m h → suffix_goes (class_at ts m) ≡ true → w.above + h ≤ 200 → 1 ≤ k →
    ReadsNonEmpty Exp ts (suffix_lang ts w left) nothing w.above m e q k → Chain ts w i e q (max k (1 + h))
unfolding PrefixStands
chain_goes_on ts w i left e m q h k cl goes room pos g = record {
  inside = g.reading.inside;
  grows = omega (arith, cl.grows, g.grows);
  some_node = omega (arith, pos);
  height = omega (arith, room, g.reading.height);
  is_prefix = (on_suffix ts w (suc q) 5 w.above left e i m q cl.is_prefix (seven_below ts w i left m h cl.stands w.above (suc q) 5 (λ y. absurd (omega (arith, y))))
      (g.reading.stands w.above (suc q) 5 (λ y. g.reading.height))).0;
  stands = λ b n f fits. (on_suffix ts w n f b left e i m q cl.is_prefix (seven_below ts w i left m h cl.stands b n f (λ y. left_fits b (raised n m b) (raised_most n m b) (fits y)))
      (g.reading.stands b n f (λ y. right_fits b (fits y)))).1;
  has = λ x b n f j lt p s st.
      let mn : m < n = omega (arith, lt, g.grows) in
      let y = higher ts w i left m h cl goes x b n f j mn p s st in
      let o = g.reading.only y.0 y.1 n f y.2 lt y.4 (λ v. refl) in
      (y.1, y.3, subst (λ (v : ℕ). Spine ts w n f b 10 x j y.1 10 e v) o.1 (subst (λ (v : Exp). Spine ts w n f b 10 x j y.1 10 v y.2) o.0 y.5), λ z. both y.1 (y.6 z) (o.2 z));
}
  where
    left_fits : (b c : ℕ) → c ≤ suc b → max k (1 + h) ≤ 201 - b → h ≤ 201 - c
    left_fits b c y x = omega arith

    right_fits : (b : ℕ) → max k (1 + h) ≤ 201 - b → k ≤ 201 - b
    right_fits b x = omega arith

    both : (b : ℕ) → h ≤ 201 - suc b → k ≤ 201 - b → max k (1 + h) ≤ 201 - b
    both b x y = omega (arith, pos)

-- It is broken.
pub chain_fails : (ts : List Token) (w : Context) (i : ℕ) (left : Exp) (m h k p : ℕ) → Chain ts w i left m h → suffix_goes (class_at ts m) ≡ true → w.above + h ≤ 200 →
    ReadsFault Exp ts (suffix_lang ts w left) nothing w.above m k p → ReadsFault Exp ts (prefix_lang ts w) suffix_goes w.above i k p
chain_fails ts w i left m h k p cl goes room g = record {
  inside = g.inside;
  ordered = omega (arith, cl.grows, g.ordered);
  number = g.number;
  reach = λ n f x.
      let r = g.reach n f x in
      (r.0, r.1, r.2, on_suffix ts w n f w.above left r.0 i m r.1 cl.is_prefix (seven_below ts w i left m h cl.stands w.above n f (λ y. up (raised n m w.above) (raised_most n m w.above))) r.3);
  dead = λ x b n j ab lt s st.
      let y = higher ts w i left m h cl goes x b n k j (lt_of_le_of_lt g.ordered lt) s.0 s.1 st in
      g.dead y.0 y.1 n y.2 (le_trans ab y.3) lt y.4 (λ v. refl);
}
  where
    up : (c : ℕ) → c ≤ suc w.above → h ≤ 201 - c
    up c x = omega (arith, room)

-- The node that would go on with it is too deep.
pub suffix_room : (ts : List Token) (w : Context) (n b : ℕ) (left x : Exp) (m j : ℕ) → m < n → suffix_lang ts w left x b n 7 m j → b ≤ 200
suffix_room ts w n b left (IndexE line t k) m j lt s = s.1.1.1 refl lt
suffix_room ts w n b left (CallE line t k) m j lt s = s.1.1.1 refl lt
suffix_room ts w n b left (MethodE line t x k) m j lt s = s.1.1.1 refl lt
suffix_room ts w n b left _ m j lt s = elim s [ ]

pub chain_deep : (ts : List Token) (w : Context) (i : ℕ) (left : Exp) (m h : ℕ) → Chain ts w i left m h → suffix_goes (class_at ts m) ≡ true → 200 < w.above + h →
    ((f : ℕ) → f < 7 → (x : Exp) × (j : ℕ) × (suc m ≤ j) × suffix_lang ts w left x w.above (suc m) f m j) → ReadsFault Exp ts (prefix_lang ts w) suffix_goes w.above i 7 m
unfolding PrefixStands
chain_deep ts w i left m h cl goes over can = record {
  inside = cl.inside;
  ordered = omega (arith, cl.grows);
  number = (omega arith, omega arith);
  reach = reach;
  dead = λ x b n j ab lt s st.
      let y = higher ts w i left m h cl goes x b n 7 j lt s.0 s.1 st in
      too_high y.1 (suffix_room ts w n y.1 left y.0 m y.2 lt y.4) (y.6 refl) (le_trans ab y.3);
}
  where
    too_high : (c : ℕ) → c ≤ 200 → h ≤ 201 - suc c → w.above ≤ c → ⊥
    too_high c x y z = omega (arith, over, cl.some_node)

    reach : (n f : ℕ) → Before m 7 n f → (x : Exp) × (j : ℕ) × (n ≤ j) × prefix_lang ts w x w.above n f i j
    reach n f (inl e) = (left, m, omega (arith, e), (cl.is_prefix, cl.stands w.above n f (λ x. cl.height)))
    reach n f (inr x) =
        let Q : ℕ → Type 0 = λ v. (x : Exp) × (j : ℕ) × (v ≤ j) × suffix_lang ts w left x w.above v f m j in
        let r = subst Q (sym x.0) (can f x.2) in
        (r.0, r.1, r.2, on_suffix ts w n f w.above left r.0 i m r.1 cl.is_prefix (seven_below ts w i left m h cl.stands w.above n f (λ y. absurd (omega (arith, y, x.2)))) r.3)

-- ---- the kinds of suffixes

unfoldable pub IsArgs : TokenClass → Type 0
IsArgs s = (s ≡ LeftParen) ⊎ ((s ≡ Text) ⊎ (s ≡ LeftBrace))

abbrev pub dot_rest : List Token → Context → Exp → ℕ → Rest Exp
dot_rest ts w left m = Under Exp (name_kind ts w) (λ k. Done (IndexE (tok_at ts m).line left k))

abbrev pub bracket_rest : List Token → Context → Exp → ℕ → Rest Exp
bracket_rest ts w left m = Under Exp (exp_kind ts w 1) (λ k. Word RightBracket (Done (IndexE (tok_at ts m).line left k)))

abbrev pub colon_rest : List Token → Context → Exp → ℕ → Rest Exp
colon_rest ts w left m = Named Name (λ x. Under Exps (args_kind ts w) (λ es. Done (MethodE (tok_at ts m).line left x es)))

abbrev pub call_rest : List Token → Context → Exp → ℕ → Rest Exp
call_rest ts w left m = Under Exps (args_kind ts w) (λ es. Done (CallE (tok_at ts m).line left es))

-- What an index, a call or a method is, by its first token.
abbrev Suffix : List Token → Context → Exp → ℕ → Exp → ℕ → ℕ → ℕ → ℕ → Type 0
Suffix ts w left m x b n f j =
    ((class_at ts m ≡ Dot) × Reads ts (dot_rest ts w left m) x b n f (suc m) j)
    ⊎ (((class_at ts m ≡ LeftBracket) × Reads ts (bracket_rest ts w left m) x b n f (suc m) j)
    ⊎ (((class_at ts m ≡ Colon) × Reads ts (colon_rest ts w left m) x b n f (suc m) j)
    ⊎ (IsArgs (class_at ts m) × Reads ts (call_rest ts w left m) x b n f m j)))

-- How arguments begin.
pub args_begin : (ts : List Token) (w : Context) (n f b : ℕ) (es : Exps) (m j : ℕ) → m < n → SpellsArgs (given_tokens ts n f) (high w b) es m j → IsArgs (class_at ts m)
unfolding SpellsArgs Spells IsArgs
args_begin ts w n f b NoExp m j lt d = inl (d.1.0 lt)
args_begin ts w n f b (MoreExp (TextE line x) zs) m j lt d = elim d [
  | inl y ↦ inl (y.1.0 lt)
  | inr y ↦ let P : ℕ → Type 0 = λ z. z < n → class_at ts z ≡ Text in inr (inl (subst P (sym (y.1.1 ∙ y.2.1.2)) (λ z. (y.2.2.0 z).0) lt))
]
args_begin ts w n f b (MoreExp (TableE line x) zs) m j lt d = elim d [
  | inl y ↦ inl (y.1.0 lt)
  | inr y ↦ let P : ℕ → Type 0 = λ z. z < n → class_at ts z ≡ LeftBrace in inr (inr (subst P (sym (y.1.1 ∙ y.2.1.2)) y.2.2.1.0 lt))
]
args_begin ts w n f b (MoreExp _ zs) m j lt d = elim d [ inl y ↦ inl (y.1.0 lt) | inr y ↦ absurd y.1.0 ]

abbrev dot_index : (ts : List Token) (w : Context) (n f b : ℕ) (left : Exp) (line : ℕ) (t k x : Exp) (m o p q j : ℕ) → m < n → x ≡ IndexE line t k → t ≡ left → line ≡ (tok_at ts m).line → m ≡ o →
    SpellsDot (given_tokens ts n f) (high w (suc b)) k o p → p ≡ j → (class_at ts m ≡ Dot) × Reads ts (dot_rest ts w left m) x b n f (suc m) j
dot_index ts w n f b left line t (TextE line' y) x m o p q j lt e on ln mo d pj =
    let P : ℕ → Type 0 = λ z. z < n → class_at ts z ≡ Dot in (
      subst P (sym mo) d.1.0 lt,
      (
        TextE line' y,
        p,
        subst (λ (z : ℕ). name_lang ts w (TextE line' y) (suc b) n f z p) (d.1.1 ∙ ap suc (sym mo)) d.2,
        (e ∙ ap (λ (z : Exp). IndexE line z (TextE line' y)) on ∙ ap (λ (z : ℕ). IndexE z left (TextE line' y)) ln, pj),
      ),
    )
dot_index ts w n f b left line t _ x m o p q j lt e on ln mo d pj = absurd d.0

pub suffix_split : (ts : List Token) (w : Context) (n f b : ℕ) (left x : Exp) (m j : ℕ) → m < n → suffix_lang ts w left x b n f m j → Suffix ts w left m x b n f j
suffix_split ts w n f b left (IndexE line t k) m j lt s = elim s.1.2.1 [
  | inl d ↦ inl (dot_index ts w n f b left line t k (IndexE line t k) m s.1.0 s.1.2.0 0 j lt refl s.0 s.1.1.0 s.1.1.2 d s.1.2.2.1)
  | inr d ↦
      let P : ℕ → Type 0 = λ z. z < n → class_at ts z ≡ LeftBracket in
      inr (inl (
        subst P (sym s.1.1.2) d.1.0 lt,
        (
          k,
          d.2.0,
          subst (λ (z : ℕ). Spells (given_tokens ts n f) (high w (suc b)) 1 k z d.2.0) (d.1.1 ∙ ap suc (sym s.1.1.2)) d.2.1,
          (s.1.2.0, d.2.2, (ap (λ (z : Exp). IndexE line z k) s.0 ∙ ap (λ (z : ℕ). IndexE z left k) s.1.1.0, s.1.2.2.1)),
        ),
      ))
]
suffix_split ts w n f b left (CallE line t es) m j lt s =
    let d : SpellsArgs (given_tokens ts n f) (high w (suc b)) es m s.1.2.0 = subst (λ (z : ℕ). SpellsArgs (given_tokens ts n f) (high w (suc b)) es z s.1.2.0) (sym s.1.1.2) s.1.2.1 in
    inr (inr (inr (
      args_begin ts w n f (suc b) es m s.1.2.0 lt d,
      (es, s.1.2.0, d, (ap (λ (z : Exp). CallE line z es) s.0 ∙ ap (λ (z : ℕ). CallE z left es) s.1.1.0, s.1.2.2.1)),
    )))
suffix_split ts w n f b left (MethodE line t y es) m j lt s =
    let P : ℕ → Type 0 = λ z. z < n → class_at ts z ≡ Colon in
    let d = s.1.2 in
    inr (inr (inl (
      subst P (sym s.1.1.2) d.1.0 lt,
      (
        y,
        d.2.0,
        subst (λ (z : ℕ). text (given_tokens ts n f) Name y z d.2.0) (d.1.1 ∙ ap suc (sym s.1.1.2)) d.2.1,
        (es, d.2.2.0, d.2.2.1, (ap (λ (z : Exp). MethodE line z y es) s.0 ∙ ap (λ (z : ℕ). MethodE z left y es) s.1.1.0, d.2.2.2.1)),
      ),
    )))
suffix_split ts w n f b left _ m j lt s = elim s [ ]

-- A Left for a suffix whose first word has been read.
abbrev suffix_fits : (ts : List Token) (w : Context) (n f b : ℕ) (left x : Exp) (m j : ℕ) → m < n → suffix_lang ts w left x b n f m j → f ≡ 7 → Below 1 b
suffix_fits ts w n f b left x m j lt s e =
    let r : b ≤ 200 = suffix_room ts w n b left x m j lt (subst (λ (y : ℕ). suffix_lang ts w left x b n y m j) e s) in omega (arith, r)

abbrev room_of : (b : ℕ) → Below 1 b → b ≤ 200
room_of b x = omega (arith, x)

pub dot_starts : (ts : List Token) (w : Context) (left : Exp) (m : ℕ) → class_at ts m ≡ Dot → Left Exp ts (suffix_lang ts w left) nothing m (dot_rest ts w left m) (m + 1) 1
unfolding IsArgs
dot_starts ts w left m e = record {
  ordered = omega arith;
  down = λ x b n f j lt s st. (pick x b n f j (suffix_split ts w n f b left x m j (omega (arith, lt)) s), suffix_fits ts w n f b left x m j (omega (arith, lt)) s);
  up = λ x b n f j fits r. up x b n f j fits r.0 r.1 r.2 r.3.0 r.3.1;
}
  where
    pick : (x : Exp) (b n f j : ℕ) → Suffix ts w left m x b n f j → Reads ts (dot_rest ts w left m) x b n f (m + 1) j
    pick x b n f j (inl d) = subst (λ (z : ℕ). Reads ts (dot_rest ts w left m) x b n f z j) (sym (add-one m)) d.1
    pick x b n f j (inr (inl d)) = let q : Dot ≡ LeftBracket = sym e ∙ d.0 in absurd (cc)
    pick x b n f j (inr (inr (inl d))) = let q : Dot ≡ Colon = sym e ∙ d.0 in absurd (cc)
    pick x b n f j (inr (inr (inr (inl y, d)))) = let q : Dot ≡ LeftParen = sym e ∙ y in absurd (cc)
    pick x b n f j (inr (inr (inr (inr (inl y), d)))) = let q : Dot ≡ Text = sym e ∙ y in absurd (cc)
    pick x b n f j (inr (inr (inr (inr (inr y), d)))) = let q : Dot ≡ LeftBrace = sym e ∙ y in absurd (cc)

    up : (x : Exp) (b n f j : ℕ) → (f ≡ 7 → Below 1 b) → (k : Exp) (p : ℕ) → name_lang ts w k (suc b) n f (m + 1) p → x ≡ IndexE (tok_at ts m).line left k → p ≡ j → suffix_lang ts w left x b n f m j
    up x b n f j fits (TextE line y) p d xe pj =
        subst (λ (z : Exp). suffix_lang ts w left z b n f m j) (sym xe)
        (refl, (m, (refl, (λ u lt. room_of b (fits u)), refl), (p, inl (m + 1, ((λ lt. e), add-one m), d), ((λ u. absurd (omega (arith, u))), pj))))
    up x b n f j fits _ p d xe pj = absurd d.0

pub bracket_starts : (ts : List Token) (w : Context) (left : Exp) (m : ℕ) → class_at ts m ≡ LeftBracket → Left Exp ts (suffix_lang ts w left) nothing m (bracket_rest ts w left m) (m + 1) 1
unfolding IsArgs
bracket_starts ts w left m e = record {
  ordered = omega arith;
  down = λ x b n f j lt s st. (pick x b n f j (suffix_split ts w n f b left x m j (omega (arith, lt)) s), suffix_fits ts w n f b left x m j (omega (arith, lt)) s);
  up = λ x b n f j fits r.
      subst (λ (z : Exp). suffix_lang ts w left z b n f m j) (sym r.3.2.0)
      (refl, (m, (refl, (λ u lt. room_of b (fits u)), refl), (r.3.0, inr (m + 1, ((λ lt. e), add-one m), (r.1, r.2, r.3.1)), ((λ u. absurd (omega (arith, u))), r.3.2.1))));
}
  where
    pick : (x : Exp) (b n f j : ℕ) → Suffix ts w left m x b n f j → Reads ts (bracket_rest ts w left m) x b n f (m + 1) j
    pick x b n f j (inl d) = let q : LeftBracket ≡ Dot = sym e ∙ d.0 in absurd (cc)
    pick x b n f j (inr (inl d)) = subst (λ (z : ℕ). Reads ts (bracket_rest ts w left m) x b n f z j) (sym (add-one m)) d.1
    pick x b n f j (inr (inr (inl d))) = let q : LeftBracket ≡ Colon = sym e ∙ d.0 in absurd (cc)
    pick x b n f j (inr (inr (inr (inl y, d)))) = let q : LeftBracket ≡ LeftParen = sym e ∙ y in absurd (cc)
    pick x b n f j (inr (inr (inr (inr (inl y), d)))) = let q : LeftBracket ≡ Text = sym e ∙ y in absurd (cc)
    pick x b n f j (inr (inr (inr (inr (inr y), d)))) = let q : LeftBracket ≡ LeftBrace = sym e ∙ y in absurd (cc)

pub colon_starts : (ts : List Token) (w : Context) (left : Exp) (m : ℕ) → class_at ts m ≡ Colon → Left Exp ts (suffix_lang ts w left) nothing m (colon_rest ts w left m) (m + 1) 1
unfolding IsArgs
colon_starts ts w left m e = record {
  ordered = omega arith;
  down = λ x b n f j lt s st. (pick x b n f j (suffix_split ts w n f b left x m j (omega (arith, lt)) s), suffix_fits ts w n f b left x m j (omega (arith, lt)) s);
  up = λ x b n f j fits r.
      subst (λ (z : Exp). suffix_lang ts w left z b n f m j) (sym r.3.3.0)
      (refl, (m, (refl, (λ u lt. room_of b (fits u)), refl), (m + 1, ((λ lt. e), add-one m), (r.1, r.2, (r.3.1, r.3.2, ((λ u. absurd (omega (arith, u))), r.3.3.1))))));
}
  where
    pick : (x : Exp) (b n f j : ℕ) → Suffix ts w left m x b n f j → Reads ts (colon_rest ts w left m) x b n f (m + 1) j
    pick x b n f j (inl d) = let q : Colon ≡ Dot = sym e ∙ d.0 in absurd (cc)
    pick x b n f j (inr (inl d)) = let q : Colon ≡ LeftBracket = sym e ∙ d.0 in absurd (cc)
    pick x b n f j (inr (inr (inl d))) = subst (λ (z : ℕ). Reads ts (colon_rest ts w left m) x b n f z j) (sym (add-one m)) d.1
    pick x b n f j (inr (inr (inr (inl y, d)))) = let q : Colon ≡ LeftParen = sym e ∙ y in absurd (cc)
    pick x b n f j (inr (inr (inr (inr (inl y), d)))) = let q : Colon ≡ Text = sym e ∙ y in absurd (cc)
    pick x b n f j (inr (inr (inr (inr (inr y), d)))) = let q : Colon ≡ LeftBrace = sym e ∙ y in absurd (cc)

-- A call has no word of its own: its arguments begin at its place.
pub call_starts : (ts : List Token) (w : Context) (left : Exp) (m : ℕ) → IsArgs (class_at ts m) → Left Exp ts (suffix_lang ts w left) nothing m (call_rest ts w left m) m 1
unfolding IsArgs
call_starts ts w left m e = record {
  ordered = le_refl m;
  down = λ x b n f j lt s st. (pick e x b n f j (suffix_split ts w n f b left x m j lt s), suffix_fits ts w n f b left x m j lt s);
  up = λ x b n f j fits r.
      subst (λ (z : Exp). suffix_lang ts w left z b n f m j) (sym r.3.0)
      (refl, (m, (refl, (λ u lt. room_of b (fits u)), refl), (r.1, r.2, ((λ u. absurd (omega (arith, u))), r.3.1))));
}
  where
    pick : IsArgs (class_at ts m) → (x : Exp) (b n f j : ℕ) → Suffix ts w left m x b n f j → Reads ts (call_rest ts w left m) x b n f m j
    pick q x b n f j (inr (inr (inr d))) = d.1
    pick (inl q) x b n f j (inl d) = let z : LeftParen ≡ Dot = sym q ∙ d.0 in absurd (cc)
    pick (inl q) x b n f j (inr (inl d)) = let z : LeftParen ≡ LeftBracket = sym q ∙ d.0 in absurd (cc)
    pick (inl q) x b n f j (inr (inr (inl d))) = let z : LeftParen ≡ Colon = sym q ∙ d.0 in absurd (cc)
    pick (inr (inl q)) x b n f j (inl d) = let z : Text ≡ Dot = sym q ∙ d.0 in absurd (cc)
    pick (inr (inl q)) x b n f j (inr (inl d)) = let z : Text ≡ LeftBracket = sym q ∙ d.0 in absurd (cc)
    pick (inr (inl q)) x b n f j (inr (inr (inl d))) = let z : Text ≡ Colon = sym q ∙ d.0 in absurd (cc)
    pick (inr (inr q)) x b n f j (inl d) = let z : LeftBrace ≡ Dot = sym q ∙ d.0 in absurd (cc)
    pick (inr (inr q)) x b n f j (inr (inl d)) = let z : LeftBrace ≡ LeftBracket = sym q ∙ d.0 in absurd (cc)
    pick (inr (inr q)) x b n f j (inr (inr (inl d))) = let z : LeftBrace ≡ Colon = sym q ∙ d.0 in absurd (cc)

-- Arguments whose first token is given.
pub args_can : (ts : List Token) (w : Context) (m b f : ℕ) → IsArgs (class_at ts m) → f < 7 → (es : Exps) × (j : ℕ) × (suc m ≤ j) × args_lang ts w es b (suc m) f m j
unfolding IsArgs SpellsArgs Spells SpellsFields
args_can ts w m b f (inl e) hi =
    (NoExp, suc (suc m), omega arith, (suc m, ((λ lt. e), (λ y lt. absurd (omega (arith, y, hi))), refl), ((λ lt. absurd (omega (arith, lt))), refl)))
args_can ts w m b f (inr (inl e)) hi =
    (MoreExp (TextE (tok_at ts m).line (bytes_of (tok_at ts m))) NoExp, suc m, omega arith, inr (m, (tt, refl), (m, (refl, (λ y lt. absurd (omega (arith, y, hi))), refl), ((λ lt. (e, refl)), refl))))
args_can ts w m b f (inr (inr e)) hi =
    (MoreExp (TableE (tok_at ts m).line NoField) NoExp, suc (suc m), omega arith, inr (m, (tt, refl), (m, (refl, (λ y lt. absurd (omega (arith, y, hi))), refl), (suc m, ((λ lt. e), refl), (suc m, refl, ((λ lt. absurd (omega (arith, lt))), refl))))))

-- A suffix whose first token is given.
pub suffix_can : (ts : List Token) (w : Context) (left : Exp) (m b f : ℕ) → suffix_goes (class_at ts m) ≡ true → f < 7 → (x : Exp) × (j : ℕ) × (suc m ≤ j) × suffix_lang ts w left x b (suc m) f m j
unfolding IsArgs
suffix_can ts w left m b f goes hi = go (class_at ts m) refl goes
  where
    from : {r : Rest Exp} → Left Exp ts (suffix_lang ts w left) nothing m r (m + 1) 1 → (x : Exp) × (j : ℕ) × (suc m ≤ j) × suffix_lang ts w left x b (suc m) f m j
    from {r} l = let o = opens ts r b (suc m) f (m + 1) (omega arith) in (o.0, o.1, o.2, l.up o.0 b (suc m) f o.1 (λ y. absurd (omega (arith, y, hi))) o.3)

    call : IsArgs (class_at ts m) → (x : Exp) × (j : ℕ) × (suc m ≤ j) × suffix_lang ts w left x b (suc m) f m j
    call a =
        let o = args_can ts w m (suc b) f a hi in
        (CallE (tok_at ts m).line left o.0, o.1, o.2, (call_starts ts w left m a).up (CallE (tok_at ts m).line left o.0) b (suc m) f o.1 (λ y. absurd (omega (arith, y, hi))) (o.0, o.1, o.3, (refl, refl)))

    go : (s : TokenClass) → class_at ts m ≡ s → suffix_goes s ≡ true → (x : Exp) × (j : ℕ) × (suc m ≤ j) × suffix_lang ts w left x b (suc m) f m j
    go Dot e g = from (dot_starts ts w left m e)
    go LeftBracket e g = from (bracket_starts ts w left m e)
    go Colon e g = from (colon_starts ts w left m e)
    go LeftParen e g = call (inl e)
    go Text e g = call (inr (inl e))
    go LeftBrace e g = call (inr (inr e))
    go _ e g = absurd (true≢false (sym g))

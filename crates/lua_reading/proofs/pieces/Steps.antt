-- From one piece of a text to the next: what is left of a tree after its first pieces have been read. What is left is a value of
-- `Rest`, a list of pieces that ends in the tree, so one lemma for each kind of piece serves all sequences of the grammar.
use Rattle.std.proofs.Common.{◌≡◌, ◌≢◌, ℕ, suc, [], ◌-◌, ◌+◌, ◌<◌, ◌≤◌, ◌⊎◌, max, Bool, true, false, List, length, refl, sym, subst, ◌∙◌, inl, inr, le_trans, lt_of_le_of_lt, le_refl, suc-le-suc, arith, true≢false, add-one}
use Rattle.lua_lexer.specs.declared.token.Token.{Token}
use Rattle.lua_grammar.specs.declared.TokenClass.{TokenClass}
use Rattle.lua_grammar.specs.Tokens.{class_at, tok_at, bytes_of}
use Rattle.lua_grammar.specs.Grammar.{given_tokens, word, text}
use Rattle.lua_reading.specs.Parsing.{Lang, Stops, Below, ReadsTree, Before, ReadsFault, nothing}

-- Where nothing is given, some tree of a kind stands.
abbrev pub CanOpen : (X : Type 0) → (X → Lang) → Type 0
CanOpen X L = (b n f m : ℕ) → n ≤ m → (x : X) × (j : ℕ) × (n ≤ j) × L x b n f m j

-- A kind of piece.
pub record Kind (X : Type 0) : Type 1 where
  pub lang : X → Lang
  pub goes : TokenClass → Bool
  pub open' : CanOpen X lang

pub data Rest (S : Type 0) : Type 1 where
  Done : S → Rest S
  Word : TokenClass → Rest S → Rest S
  Named : TokenClass → (List ℕ → Rest S) → Rest S
  Here : (X : Type 0) → Kind X → (X → Rest S) → Rest S
  Under : (X : Type 0) → Kind X → (X → Rest S) → Rest S
  Either : Rest S → Rest S → Rest S

-- How the pieces stand.
abbrev pub Reads : {S : Type 0} → List Token → Rest S → S → Lang
Reads ts (Done s) t b n f i j = (t ≡ s) × (i ≡ j)
Reads ts (Word w r) t b n f i j = (m : ℕ) × word (given_tokens ts n f) w i m × Reads ts r t b n f m j
Reads ts (Named w r) t b n f i j = (x : List ℕ) × (m : ℕ) × text (given_tokens ts n f) w x i m × Reads ts (r x) t b n f m j
Reads ts (Here X K r) t b n f i j = (x : X) × (m : ℕ) × K.lang x b n f i m × Reads ts (r x) t b n f m j
Reads ts (Under X K r) t b n f i j = (x : X) × (m : ℕ) × K.lang x (suc b) n f i m × Reads ts (r x) t b n f m j
Reads ts (Either r s) t b n f i j = Reads ts r t b n f i j ⊎ Reads ts s t b n f i j

-- What is left can stand where nothing is given.
pub opens : {S : Type 0} (ts : List Token) (r : Rest S) (b n f m : ℕ) → n ≤ m → (t : S) × (j : ℕ) × (n ≤ j) × Reads ts r t b n f m j
opens ts (Done s) b n f m le = (s, m, le, (refl, refl))
opens ts (Word w r) b n f m le =
    let o = opens ts r b n f (suc m) (omega (arith, le)) in
    (o.0, o.1, o.2, (suc m, ((λ lt. absurd (omega (arith, le, lt))), refl), o.3))
opens ts (Named w r) b n f m le =
    let o = opens ts (r []) b n f (suc m) (omega (arith, le)) in
    (o.0, o.1, o.2, ([], suc m, ((λ lt. absurd (omega (arith, le, lt))), refl), o.3))
opens ts (Here X K r) b n f m le =
    let k = K.open' b n f m le in
    let o = opens ts (r k.0) b n f k.1 k.2 in
    (o.0, o.1, o.2, (k.0, k.1, k.3, o.3))
opens ts (Under X K r) b n f m le =
    let k = K.open' (suc b) n f m le in
    let o = opens ts (r k.0) b n f k.1 k.2 in
    (o.0, o.1, o.2, (k.0, k.1, k.3, o.3))
opens ts (Either r s) b n f m le = let o = opens ts r b n f m le in (o.0, o.1, o.2, inl o.3)

-- Where what is left ends well, what stands before it has ended well.
unfoldable pub Follows : {S : Type 0} → List Token → (TokenClass → Bool) → (TokenClass → Bool) → Rest S → Type 0
Follows {S} ts goes stop r = (t : S) (b n f m j : ℕ) → Reads ts r t b n f m j → Stops ts goes n j → Stops ts stop n m

pub follows_word : {S : Type 0} (ts : List Token) (goes stop : TokenClass → Bool) (w : TokenClass) (r : Rest S) → stop w ≡ false → Follows ts goes stop (Word w r)
unfolding Follows
follows_word ts goes stop w r e t b n f m j x st lt = let P : TokenClass → Type 0 = λ s. stop s ≡ false in subst P (sym (x.1.0 lt)) e

pub follows_done : {S : Type 0} (ts : List Token) (goes stop : TokenClass → Bool) (s : S) → ((x : TokenClass) → goes x ≡ false → stop x ≡ false) → Follows ts goes stop (Done s)
unfolding Follows
follows_done ts goes stop s h t b n f m j x st lt =
    let P : ℕ → Type 0 = λ y. y < n → goes (class_at ts y) ≡ false in h (class_at ts m) (subst P (sym x.1) st lt)

pub follows_either : {S : Type 0} (ts : List Token) (goes stop : TokenClass → Bool) (r s : Rest S) → Follows ts goes stop r → Follows ts goes stop s → Follows ts goes stop (Either r s)
unfolding Follows
follows_either ts goes stop r s hr hs t b n f m j (inl x) st lt = hr t b n f m j x st lt
follows_either ts goes stop r s hr hs t b n f m j (inr x) st lt = hs t b n f m j x st lt

pub follows_nothing : {S : Type 0} (ts : List Token) (goes : TokenClass → Bool) (r : Rest S) → Follows ts goes nothing r
unfolding Follows
follows_nothing ts goes r t b n f m j x st lt = refl

-- L from i is r from m: what has been read between them has h levels.
pub record Left (S : Type 0) (ts : List Token) (L : S → Lang) (goes : TokenClass → Bool) (i : ℕ) (r : Rest S) (m h : ℕ) : Type 0 where
  pub ordered : i ≤ m
  pub down : (s : S) (b n f j : ℕ) → m < n → L s b n f i j → Stops ts goes n j → Reads ts r s b n f m j × (f ≡ 7 → Below h b)
  pub up : (s : S) (b n f j : ℕ) → (f ≡ 7 → Below h b) → Reads ts r s b n f m j → L s b n f i j

-- A word that is there.
pub word_step : {S : Type 0} {ts : List Token} {L : S → Lang} {goes : TokenClass → Bool} {i m h : ℕ} {w : TokenClass} {r : Rest S} →
    Left S ts L goes i (Word w r) m h → class_at ts m ≡ w → Left S ts L goes i r (m + 1) h
word_step {S} {ts} {L} {goes} {i} {m} {h} {w} {r} s e = record {
  ordered = omega (arith, s.ordered);
  down = λ t b n f j lt l st.
      let d = s.down t b n f j (omega (arith, lt)) l st in
      (subst (λ (y : ℕ). Reads ts r t b n f y j) (d.0.1.1 ∙ sym (add-one m)) d.0.2, d.1);
  up = λ t b n f j fits x. s.up t b n f j fits (m + 1, ((λ lt. e), add-one m), x);
}

-- Another token is there.
pub word_fails : {S : Type 0} {ts : List Token} {L : S → Lang} {goes : TokenClass → Bool} {a i m h : ℕ} {w : TokenClass} {r : Rest S} →
    Left S ts L goes i (Word w r) m h → Below h a → m < length ts → class_at ts m ≢ w → ReadsFault S ts L goes a i 5 m
word_fails {S} {ts} {L} {goes} {a} {i} {m} {h} {w} {r} s fits inside ne = record {
  inside = inside;
  ordered = s.ordered;
  number = (omega arith, omega arith);
  reach = reach;
  dead = λ x b n j le lt l st. ne ((s.down x b n 5 j lt l st).0.1.0 lt);
}
  where
    reach : (n f : ℕ) → Before m 5 n f → (x : S) × (j : ℕ) × (n ≤ j) × L x a n f i j
    reach n f (inl e) = let o = opens ts (Word w r) a n f m (omega (arith, e)) in (o.0, o.1, o.2, s.up o.0 a n f o.1 (λ y. fits) o.3)
    reach n f (inr x) = absurd (omega (arith, x.1, x.2))

-- A name, or a string, that is there.
pub named_step : {S : Type 0} {ts : List Token} {L : S → Lang} {goes : TokenClass → Bool} {i m h : ℕ} {w : TokenClass} {r : List ℕ → Rest S} →
    Left S ts L goes i (Named w r) m h → class_at ts m ≡ w → Left S ts L goes i (r (bytes_of (tok_at ts m))) (m + 1) h
named_step {S} {ts} {L} {goes} {i} {m} {h} {w} {r} s e = record {
  ordered = omega (arith, s.ordered);
  down = λ t b n f j lt l st.
      let d = s.down t b n f j (omega (arith, lt)) l st in
      let same : d.0.0 ≡ bytes_of (tok_at ts m) = sym (d.0.2.0 (omega (arith, lt))).1 in (
        subst (λ (y : ℕ). Reads ts (r (bytes_of (tok_at ts m))) t b n f y j) (d.0.2.1 ∙ sym (add-one m))
            (subst (λ (x : List ℕ). Reads ts (r x) t b n f d.0.1 j) same d.0.3),
        d.1,
      );
  up = λ t b n f j fits x. s.up t b n f j fits (bytes_of (tok_at ts m), m + 1, ((λ lt. (e, refl)), add-one m), x);
}

pub named_fails : {S : Type 0} {ts : List Token} {L : S → Lang} {goes : TokenClass → Bool} {a i m h : ℕ} {w : TokenClass} {r : List ℕ → Rest S} →
    Left S ts L goes i (Named w r) m h → Below h a → m < length ts → class_at ts m ≢ w → ReadsFault S ts L goes a i 5 m
named_fails {S} {ts} {L} {goes} {a} {i} {m} {h} {w} {r} s fits inside ne = record {
  inside = inside;
  ordered = s.ordered;
  number = (omega arith, omega arith);
  reach = reach;
  dead = λ x b n j le lt l st. ne ((s.down x b n 5 j lt l st).0.2.0 lt).0;
}
  where
    reach : (n f : ℕ) → Before m 5 n f → (x : S) × (j : ℕ) × (n ≤ j) × L x a n f i j
    reach n f (inl e) = let o = opens ts (Named w r) a n f m (omega (arith, e)) in (o.0, o.1, o.2, s.up o.0 a n f o.1 (λ y. fits) o.3)
    reach n f (inr x) = absurd (omega (arith, x.1, x.2))

-- A piece that is there, on the same level or under the node.
pub here_step : {S X : Type 0} {ts : List Token} {L : S → Lang} {goes : TokenClass → Bool} {a i m q h k : ℕ} {K : Kind X} {r : X → Rest S} {e : X} →
    Left S ts L goes i (Here X K r) m h → ReadsTree X ts K.lang K.goes a m e q k → ((x : X) → Follows ts goes K.goes (r x)) → Left S ts L goes i (r e) q (max h k)
unfolding Follows
here_step {S} {X} {ts} {L} {goes} {a} {i} {m} {q} {h} {k} {K} {r} {e} s w fol = record {
  ordered = le_trans s.ordered w.ordered;
  down = λ t b n f j lt l st.
      let d = s.down t b n f j (lt_of_le_of_lt w.ordered lt) l st in
      let o = w.only d.0.0 b n f d.0.1 lt d.0.2 (fol d.0.0 t b n f d.0.1 j d.0.3 st) in
      (subst (λ (y : ℕ). Reads ts (r e) t b n f y j) o.1 (subst (λ (x : X). Reads ts (r x) t b n f d.0.1 j) o.0 d.0.3), λ x. both b (d.1 x) (o.2 x));
  up = λ t b n f j fits x. s.up t b n f j (λ y. first b (fits y)) (e, q, w.stands b n f (λ y. second b (fits y)), x);
}
  where
    both : (b : ℕ) → h ≤ 201 - b → k ≤ 201 - b → max h k ≤ 201 - b
    both b x y = omega arith

    first : (b : ℕ) → max h k ≤ 201 - b → h ≤ 201 - b
    first b x = omega arith

    second : (b : ℕ) → max h k ≤ 201 - b → k ≤ 201 - b
    second b x = omega arith

pub under_step : {S X : Type 0} {ts : List Token} {L : S → Lang} {goes : TokenClass → Bool} {a i m q h k : ℕ} {K : Kind X} {r : X → Rest S} {e : X} →
    Left S ts L goes i (Under X K r) m h → 1 ≤ h → ReadsTree X ts K.lang K.goes a m e q k → ((x : X) → Follows ts goes K.goes (r x)) → Left S ts L goes i (r e) q (max h (1 + k))
unfolding Follows
under_step {S} {X} {ts} {L} {goes} {a} {i} {m} {q} {h} {k} {K} {r} {e} s pos w fol = record {
  ordered = le_trans s.ordered w.ordered;
  down = λ t b n f j lt l st.
      let d = s.down t b n f j (lt_of_le_of_lt w.ordered lt) l st in
      let o = w.only d.0.0 (suc b) n f d.0.1 lt d.0.2 (fol d.0.0 t b n f d.0.1 j d.0.3 st) in
      (subst (λ (y : ℕ). Reads ts (r e) t b n f y j) o.1 (subst (λ (x : X). Reads ts (r x) t b n f d.0.1 j) o.0 d.0.3), λ x. both b (d.1 x) (o.2 x));
  up = λ t b n f j fits x. s.up t b n f j (λ y. first b (fits y)) (e, q, w.stands (suc b) n f (λ y. second b (fits y)), x);
}
  where
    both : (b : ℕ) → h ≤ 201 - b → k ≤ 201 - suc b → max h (1 + k) ≤ 201 - b
    both b x y = omega (arith, pos)

    first : (b : ℕ) → max h (1 + k) ≤ 201 - b → h ≤ 201 - b
    first b x = omega arith

    second : (b : ℕ) → max h (1 + k) ≤ 201 - b → k ≤ 201 - suc b
    second b x = omega arith

-- A piece that is broken.
pub here_fails : {S X : Type 0} {ts : List Token} {L : S → Lang} {goes : TokenClass → Bool} {a i m h k p : ℕ} {K : Kind X} {r : X → Rest S} →
    Left S ts L goes i (Here X K r) m h → Below h a → ReadsFault X ts K.lang K.goes a m k p → ((x : X) → Follows ts goes K.goes (r x)) → ReadsFault S ts L goes a i k p
unfolding Follows
here_fails {S} {X} {ts} {L} {goes} {a} {i} {m} {h} {k} {p} {K} {r} s fits w fol = record {
  inside = w.inside;
  ordered = le_trans s.ordered w.ordered;
  number = w.number;
  reach = λ n f x.
      let y = w.reach n f x in
      let o = opens ts (r y.0) a n f y.1 y.2 in
      (o.0, o.1, o.2, s.up o.0 a n f o.1 (λ z. fits) (y.0, y.1, y.3, o.3));
  dead = λ t b n j le lt l st.
      let d = s.down t b n k j (lt_of_le_of_lt w.ordered lt) l st in
      w.dead d.0.0 b n d.0.1 le lt d.0.2 (fol d.0.0 t b n k d.0.1 j d.0.3 st);
}

pub under_fails : {S X : Type 0} {ts : List Token} {L : S → Lang} {goes : TokenClass → Bool} {a i m h k p : ℕ} {K : Kind X} {r : X → Rest S} →
    Left S ts L goes i (Under X K r) m h → Below h a → ReadsFault X ts K.lang K.goes (suc a) m k p → ((x : X) → Follows ts goes K.goes (r x)) → ReadsFault S ts L goes a i k p
unfolding Follows
under_fails {S} {X} {ts} {L} {goes} {a} {i} {m} {h} {k} {p} {K} {r} s fits w fol = record {
  inside = w.inside;
  ordered = le_trans s.ordered w.ordered;
  number = w.number;
  reach = λ n f x.
      let y = w.reach n f x in
      let o = opens ts (r y.0) a n f y.1 y.2 in
      (o.0, o.1, o.2, s.up o.0 a n f o.1 (λ z. fits) (y.0, y.1, y.3, o.3));
  dead = λ t b n j le lt l st.
      let d = s.down t b n k j (lt_of_le_of_lt w.ordered lt) l st in
      w.dead d.0.0 (suc b) n d.0.1 (suc-le-suc le) lt d.0.2 (fol d.0.0 t b n k d.0.1 j d.0.3 st);
}

-- One of two ways, where the other is closed.
abbrev pub Closed : {S : Type 0} → List Token → (TokenClass → Bool) → ℕ → Rest S → Type 0
Closed {S} ts goes m r = (s : S) (b n f j : ℕ) → m < n → Reads ts r s b n f m j → Stops ts goes n j → ⊥

pub first_way : {S : Type 0} {ts : List Token} {L : S → Lang} {goes : TokenClass → Bool} {i m h : ℕ} {r s : Rest S} →
    Left S ts L goes i (Either r s) m h → Closed ts goes m s → Left S ts L goes i r m h
first_way {S} {ts} {L} {goes} {i} {m} {h} {r} {s} l shut = record {
  ordered = l.ordered;
  down = λ t b n f j lt x st. let d = l.down t b n f j lt x st in (pick t b n f j lt st d.0, d.1);
  up = λ t b n f j fits x. l.up t b n f j fits (inl x);
}
  where
    pick : (t : S) (b n f j : ℕ) → m < n → Stops ts goes n j → Reads ts r t b n f m j ⊎ Reads ts s t b n f m j → Reads ts r t b n f m j
    pick t b n f j lt st (inl x) = x
    pick t b n f j lt st (inr x) = absurd (shut t b n f j lt x st)

pub second_way : {S : Type 0} {ts : List Token} {L : S → Lang} {goes : TokenClass → Bool} {i m h : ℕ} {r s : Rest S} →
    Left S ts L goes i (Either r s) m h → Closed ts goes m r → Left S ts L goes i s m h
second_way {S} {ts} {L} {goes} {i} {m} {h} {r} {s} l shut = record {
  ordered = l.ordered;
  down = λ t b n f j lt x st. let d = l.down t b n f j lt x st in (pick t b n f j lt st d.0, d.1);
  up = λ t b n f j fits x. l.up t b n f j fits (inr x);
}
  where
    pick : (t : S) (b n f j : ℕ) → m < n → Stops ts goes n j → Reads ts r t b n f m j ⊎ Reads ts s t b n f m j → Reads ts s t b n f m j
    pick t b n f j lt st (inl x) = absurd (shut t b n f j lt x st)
    pick t b n f j lt st (inr x) = x

-- A word closes a way where another token is, and an end where what is there goes on.
pub word_closed : {S : Type 0} (ts : List Token) (goes : TokenClass → Bool) (m : ℕ) (w : TokenClass) (r : Rest S) → class_at ts m ≢ w → Closed ts goes m (Word w r)
word_closed ts goes m w r ne s b n f j lt x st = ne (x.1.0 lt)

pub done_closed : {S : Type 0} (ts : List Token) (goes : TokenClass → Bool) (m : ℕ) (s : S) → goes (class_at ts m) ≡ true → Closed ts goes m (Done s)
done_closed ts goes m s e t b n f j lt x st =
    let P : ℕ → Type 0 = λ y. y < n → goes (class_at ts y) ≡ false in
    true≢false (sym e ∙ subst P (sym x.1) st lt)

-- All of it has been read.
pub all_read : {S : Type 0} {ts : List Token} {L : S → Lang} {goes : TokenClass → Bool} {a i m h : ℕ} {e : S} →
    Left S ts L goes i (Done e) m h → m < length ts → Below h a → ReadsTree S ts L goes a i e m h
all_read {S} {ts} {L} {goes} {a} {i} {m} {h} {e} s inside fits = record {
  inside = inside;
  ordered = s.ordered;
  height = fits;
  stands = λ b n f x. s.up e b n f m x (refl, refl);
  only = λ t b n f j lt l st. let d = s.down t b n f j lt l st in (d.0.0, sym d.0.1, d.1);
}

-- The node of a tree counts as soon as its first token is given.
abbrev pub HasNode : (S : Type 0) → List Token → (S → Lang) → ℕ → Type 0
HasNode S ts L i = (x : S) (b n j : ℕ) → i < n → L x b n 7 i j → b ≤ 200

-- The node of a tree, of which the first token has been read, is too deep.
pub too_deep : {S : Type 0} {ts : List Token} {L : S → Lang} {goes : TokenClass → Bool} {a i h : ℕ} {r : Rest S} →
    Left S ts L goes i r (i + 1) h → HasNode S ts L i → CanOpen S L → i < length ts → 200 < a → ReadsFault S ts L goes a i 7 i
too_deep {S} {ts} {L} {goes} {a} {i} {h} {r} s noded can inside over = record {
  inside = inside;
  ordered = le_refl i;
  number = (omega arith, omega arith);
  reach = reach;
  dead = λ x b n j le lt l st. let y = noded x b n j lt l in omega (arith, y, le, over);
}
  where
    reach : (n f : ℕ) → Before i 7 n f → (x : S) × (j : ℕ) × (n ≤ j) × L x a n f i j
    reach n f (inl e) = can a n f i (omega (arith, e))
    reach n f (inr x) =
        let o = opens ts r a n f (i + 1) (omega (arith, x.0)) in
        (o.0, o.1, o.2, s.up o.0 a n f o.1 (λ y. absurd (omega (arith, y, x.2))) o.3)

-- No tree of this kind begins here.
pub unexpected : {S : Type 0} {ts : List Token} {L : S → Lang} {goes : TokenClass → Bool} {a i : ℕ} →
    ((x : S) (b n f j : ℕ) → i < n → L x b n f i j → Stops ts goes n j → ⊥) → CanOpen S L → i < length ts → ReadsFault S ts L goes a i 5 i
unexpected {S} {ts} {L} {goes} {a} {i} none can inside = record {
  inside = inside;
  ordered = le_refl i;
  number = (omega arith, omega arith);
  reach = reach;
  dead = λ x b n j le lt l st. none x b n 5 j lt l st;
}
  where
    reach : (n f : ℕ) → Before i 5 n f → (x : S) × (j : ℕ) × (n ≤ j) × L x a n f i j
    reach n f (inl e) = can a n f i (omega (arith, e))
    reach n f (inr x) = absurd (omega (arith, x.1, x.2))

-- ---- a piece seen by its own pieces

abbrev pub bind : {X S : Type 0} → Rest X → (X → Rest S) → Rest S
bind (Done x) r = r x
bind (Word w q) r = Word w (bind q r)
bind (Named w q) r = Named w (λ x. bind (q x) r)
bind (Here Y K q) r = Here Y K (λ y. bind (q y) r)
bind (Under Y K q) r = Under Y K (λ y. bind (q y) r)
bind (Either p q) r = Either (bind p r) (bind q r)

abbrev Both : {X S : Type 0} → List Token → Rest X → (X → Rest S) → S → ℕ → ℕ → ℕ → ℕ → ℕ → Type 0
Both {X} ts q r s b n f i j = (x : X) × (m : ℕ) × Reads ts q x b n f i m × Reads ts (r x) s b n f m j

bound : {X S : Type 0} (ts : List Token) (q : Rest X) (r : X → Rest S) (s : S) (b n f i m j : ℕ) (x : X) → Reads ts q x b n f i m → Reads ts (r x) s b n f m j → Reads ts (bind q r) s b n f i j
bound ts (Done y) r s b n f i m j x d e = subst (λ (z : ℕ). Reads ts (r y) s b n f z j) (sym d.1) (subst (λ z. Reads ts (r z) s b n f m j) d.0 e)
bound ts (Word w q) r s b n f i m j x d e = (d.0, d.1, bound ts q r s b n f d.0 m j x d.2 e)
bound ts (Named w q) r s b n f i m j x d e = (d.0, d.1, d.2, bound ts (q d.0) r s b n f d.1 m j x d.3 e)
bound ts (Here Y K q) r s b n f i m j x d e = (d.0, d.1, d.2, bound ts (q d.0) r s b n f d.1 m j x d.3 e)
bound ts (Under Y K q) r s b n f i m j x d e = (d.0, d.1, d.2, bound ts (q d.0) r s b n f d.1 m j x d.3 e)
bound ts (Either p q) r s b n f i m j x (inl d) e = inl (bound ts p r s b n f i m j x d e)
bound ts (Either p q) r s b n f i m j x (inr d) e = inr (bound ts q r s b n f i m j x d e)

unbound : {X S : Type 0} (ts : List Token) (q : Rest X) (r : X → Rest S) (s : S) (b n f i j : ℕ) → Reads ts (bind q r) s b n f i j → Both ts q r s b n f i j
unbound ts (Done y) r s b n f i j d = (y, i, (refl, refl), d)
unbound ts (Word w q) r s b n f i j d = let z = unbound ts q r s b n f d.0 j d.2 in (z.0, z.1, (d.0, d.1, z.2), z.3)
unbound ts (Named w q) r s b n f i j d = let z = unbound ts (q d.0) r s b n f d.1 j d.3 in (z.0, z.1, (d.0, d.1, d.2, z.2), z.3)
unbound ts (Here Y K q) r s b n f i j d = let z = unbound ts (q d.0) r s b n f d.1 j d.3 in (z.0, z.1, (d.0, d.1, d.2, z.2), z.3)
unbound ts (Under Y K q) r s b n f i j d = let z = unbound ts (q d.0) r s b n f d.1 j d.3 in (z.0, z.1, (d.0, d.1, d.2, z.2), z.3)
unbound ts (Either p q) r s b n f i j (inl d) = let z = unbound ts p r s b n f i j d in (z.0, z.1, inl z.2, z.3)
unbound ts (Either p q) r s b n f i j (inr d) = let z = unbound ts q r s b n f i j d in (z.0, z.1, inr z.2, z.3)

pub inline : {S X : Type 0} {ts : List Token} {L : S → Lang} {goes : TokenClass → Bool} {i m h : ℕ} {K : Kind X} {r : X → Rest S} {q : Rest X} →
    Left S ts L goes i (Here X K r) m h → Left X ts K.lang K.goes m q m 0 → ((x : X) → Follows ts goes K.goes (r x)) → Left S ts L goes i (bind q r) m h
unfolding Follows
inline {S} {X} {ts} {L} {goes} {i} {m} {h} {K} {r} {q} s t fol = record {
  ordered = s.ordered;
  down = λ y b n f j lt l st.
      let d = s.down y b n f j lt l st in
      (bound ts q r y b n f m d.0.1 j d.0.0 (t.down d.0.0 b n f d.0.1 lt d.0.2 (fol d.0.0 y b n f d.0.1 j d.0.3 st)).0 d.0.3, d.1);
  up = λ y b n f j fits x.
      let z = unbound ts q r y b n f m j x in
      s.up y b n f j fits (z.0, z.1, t.up z.0 b n f z.1 (λ e. omega arith) z.2, z.3);
}

-- Nothing has been read.
pub start : {S : Type 0} (ts : List Token) (K : Kind S) (i : ℕ) → Left S ts K.lang K.goes i (Here S K (λ x. Done x)) i 0
start ts K i = record {
  ordered = le_refl i;
  down = λ s b n f j lt l st. ((s, j, l, (refl, refl)), λ e. omega arith);
  up = λ s b n f j fits x. subst (λ (y : ℕ). K.lang s b n f i y) x.3.1 (subst (λ y. K.lang y b n f i x.1) (sym x.3.0) x.2);
}

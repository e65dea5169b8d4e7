-- The exits of the name of a function.
use Rattle.std.proofs.Common.{◌≡◌, ◌≢◌, ℕ, suc, [], ◌∷◌, ◌-◌, ◌+◌, ◌<◌, ◌≤◌, max, Bool, true, false, cond, nat_lt, List, length, refl, sym, ap, subst, ◌∙◌, inl, inr, arith, true≢false, add-one, le_refl, lt-ltb}
use Rattle.lua_lexer.specs.declared.token.Token.{Token}
use Rattle.lua_grammar.specs.declared.TokenClass.{TokenClass}
use Rattle.lua_grammar.specs.declared.TokenClass.TheVariants.{Name, Dot, Colon}
use Rattle.lua_grammar.specs.declared.Context.{Context}
use Rattle.lua_grammar.specs.Tokens.{class_at, tok_at, bytes_of}
use Rattle.lua_syntax.specs.Tree.{Exp, NameE, IndexE, TextE}
use Rattle.lua_grammar.specs.Grammar.{SpellsPath}
use Rattle.lua_reading.specs.Parsing.{Stops, Below, Before, ReadsFault, HasOneEnd}
use Rattle.lua_reading.specs.Answers.{ReadsNonEmpty}
use Rattle.lua_reading.specs.StatAnswers.{Head, head_lang, head_goes, head_mark}
use Rattle.lua_reading.proofs.pieces.Steps.{CanOpen}
use Rattle.lua_reading.proofs.statements.Begins.{behind_word}
use Rattle.lua_reading.proofs.functions.PathSteps.{Suffix, index_by, grow, outer, Stands2, Suffixes, Root, path_down, method_down, PathRead, path_start, path_more, dot_suffix, suffix_is}

pub head_opens : (ts : List Token) (w : Context) → CanOpen Head (head_lang ts w)
unfolding SpellsPath
head_opens ts w b n f m le = ((NameE (tok_at ts m).line [], false), suc m, omega (arith, le), (m, (refl, (λ e lt. absurd (omega (arith, le, lt))), refl), ((λ lt. absurd (omega (arith, le, lt))), refl)))

-- The path is the whole name.
pub path_stands : (ts : List Token) (w : Context) (i : ℕ) (t : Exp) (m h : ℕ) → PathRead ts w i t m h → m < length ts → h ≤ 201 - w.above → class_at ts m ≢ Dot → class_at ts m ≢ Colon → ReadsNonEmpty Head ts (head_lang ts w) head_goes w.above i (t, false) m h
path_stands ts w i t m h p inside fits nd nc = record {
  grows = p.ordered;
  reading = record {
    inside = inside;
    ordered = omega (arith, p.ordered);
    stands = λ b n f x. p.up [] false b n f m (λ e. bare b (x e)) refl;
    only = λ x b n f j lt l st. let y = p.down x.0 x.1 b n f j lt l st in only x.0 x.1 b n f j lt y.0 y.1 y.2 y.3;
    height = fits;
  };
}
  where
    bare : (b : ℕ) → h ≤ 201 - b → h ≤ 201 - (0 + b)
    bare b x = omega arith

    only : (x : Exp) (mark : Bool) (b n f j : ℕ) → m < n → (r : List Suffix) → x ≡ grow t r → Suffixes ts w b n f mark r m j → (f ≡ 7 → Below h (outer n m r + b)) → (◌≡◌ {A = Head} (x, mark) (t, false)) × (j ≡ m) × (f ≡ 7 → Below h b)
    only x false b n f j lt [] e s fit = (ap (λ (y : Exp). (y, false)) e, sym s, λ z. same b (fit z))
      where
        same : (b : ℕ) → h ≤ 201 - (0 + b) → h ≤ 201 - b
        same b x = omega arith
    only x true b n f j lt [] e s fit = absurd s
    only x false b n f j lt (s2 ∷ r) e s fit = absurd (nd (s.0.class lt))
    only x true b n f j lt (s2 ∷ []) e s fit = absurd (nc (s.0.class lt))
    only x true b n f j lt (s2 ∷ (s3 ∷ r)) e s fit = absurd (nd (s.0.class lt))

-- The first token is no name.
pub path_none : (ts : List Token) (w : Context) (i : ℕ) → i < length ts → class_at ts i ≢ Name → ReadsFault Head ts (head_lang ts w) head_goes w.above i 5 i
unfolding SpellsPath
path_none ts w i inside ne = record {
  inside = inside;
  ordered = le_refl i;
  number = (omega arith, omega arith);
  reach = reach;
  dead = λ x b n j le lt l st. none x.0 x.1 b n j lt l;
}
  where
    reach : (n f : ℕ) → Before i 5 n f → (x : Head) × (j : ℕ) × (n ≤ j) × head_lang ts w x w.above n f i j
    reach n f (inl e) = head_opens ts w w.above n f i (omega (arith, e))
    reach n f (inr x) = absurd (omega (arith, x.1, x.2))

    rooted : (c n : ℕ) (x : Exp) (r : List Suffix) → i < n → Root ts w c n 5 x r i → ⊥
    rooted c n x r lt q = let d = q.stands in ne (ap (λ (y : ℕ). class_at ts y) d.1.2 ∙ (d.2.0 (subst (λ (y : ℕ). y < n) d.1.2 lt)).0)

    none : (x : Exp) (mark : Bool) (b n j : ℕ) → i < n → head_lang ts w (x, mark) b n 5 i j → ⊥
    none x false b n j lt l = let y = path_down ts w n 5 b b false x [] i j j (omega arith) l refl (λ s r o u v. (v, u)) in rooted (outer n (suc i) y.0 + b) n x y.0 lt y.1
    none x true b n j lt l = let y = method_down ts w n 5 b x i j l in rooted (outer n (suc i) y.0 + b) n x y.0 lt y.1

-- ---- behind a `.` or a `:`

abbrev pub IsMark : TokenClass → Type 0
IsMark Dot = Unit {0}
IsMark Colon = Unit {0}
IsMark s = ⊥

-- What has an index at m, of which the mark is given, has a name behind it, and room for both.
pub index_at : (ts : List Token) (w : Context) (b n f m j : ℕ) (mark : Bool) (r : List Suffix) → IsMark (class_at ts m) → m < n → Suffixes ts w b n f mark r m j → Stops ts head_goes n j →
    (s : Suffix) × (q : List Suffix) × (c : ℕ) × (k : TokenClass) × (r ≡ s ∷ q) × (c ≡ outer n (suc (suc m)) q + b) × Stands2 ts w c n f k s m
index_at ts w b n f m j false [] mk lt d st = absurd (marked (class_at ts m) mk (subst (λ (y : ℕ). y < n → head_goes (class_at ts y) ≡ false) (sym d) st lt))
  where
    marked : (s : TokenClass) → IsMark s → head_goes s ≡ false → ⊥
    marked Dot x e = true≢false e
    marked Colon x e = true≢false e
    marked s x e = absurd x
index_at ts w b n f m j true [] mk lt d st = absurd d
index_at ts w b n f m j false (s ∷ q) mk lt d st = (s, q, outer n (suc (suc m)) q + b, Dot, refl, refl, d.0)
index_at ts w b n f m j true (s ∷ []) mk lt d st = (s, [], b, Colon, refl, omega arith, d.0)
index_at ts w b n f m j true (s ∷ (s2 ∷ q)) mk lt d st = (s, s2 ∷ q, outer n (suc (suc m)) (s2 ∷ q) + b, Dot, refl, refl, d.0)

-- An index by a name that is given, by its mark.
abbrev pub mark_of' : TokenClass → Bool
mark_of' Colon = true
mark_of' s = false

pub one_suffix : (ts : List Token) (w : Context) (b n f m : ℕ) → IsMark (class_at ts m) → (f ≡ 7 → b ≤ 200) → (f ≡ 7 → suc m < n → suc b ≤ 200) → (suc m < n → class_at ts (suc m) ≡ Name) → Suffixes ts w b n f (mark_of' (class_at ts m)) (dot_suffix ts m ∷ []) m (suc (suc m))
one_suffix ts w b n f m mk room name_room name = go (class_at ts m) refl mk
  where
    z : 0 + b ≡ b
    z = omega arith

    st : (k : TokenClass) (c : ℕ) → c ≡ b → class_at ts m ≡ k → Stands2 ts w c n f k (dot_suffix ts m) m
    st k c e here = record {
      line = refl;
      room = λ f7 lt. subst (λ (y : ℕ). y ≤ 200) (sym e) (room f7);
      class = λ lt. here;
      name_line = ap (λ (y : ℕ). (tok_at ts y).line) (add-one m);
      name_room = λ f7 lt. subst (λ (y : ℕ). suc y ≤ 200) (sym e) (name_room f7 lt);
      name = λ lt. (name lt, ap (λ (y : ℕ). bytes_of (tok_at ts y)) (sym (add-one m)));
    }

    go : (k : TokenClass) → class_at ts m ≡ k → IsMark k → Suffixes ts w b n f (mark_of' k) (dot_suffix ts m ∷ []) m (suc (suc m))
    go Dot here x = (st Dot (0 + b) z here, refl)
    go Colon here x = (st Colon b refl here, refl)
    go k here x = absurd x

-- The node of an index is too deep.
pub path_deep : (ts : List Token) (w : Context) (i : ℕ) (t : Exp) (m h : ℕ) → PathRead ts w i t m h → m < length ts → 1 ≤ h → h ≤ 201 - w.above → 200 < w.above + h → IsMark (class_at ts m) → ReadsFault Head ts (head_lang ts w) head_goes w.above i 7 m
path_deep ts w i t m h p inside some fits over mk = record {
  inside = inside;
  ordered = omega (arith, p.ordered);
  number = (omega arith, omega arith);
  reach = reach;
  dead = λ x b n j le lt l st.
      let y = p.down x.0 x.1 b n 7 j lt l st in
      let s = index_at ts w b n 7 m j x.1 y.0 mk lt y.2 st in
      deep b n s.0 s.1 le lt (subst (λ (r : List Suffix). Below h (outer n m r + b)) s.4 (y.3 refl));
}
  where
    deep : (b n : ℕ) (s : Suffix) (q : List Suffix) → w.above ≤ b → m < n → h ≤ 201 - (outer n m (s ∷ q) + b) → ⊥
    deep b n s q le lt x = go (nat_lt m n) (outer n (suc (suc m)) q) (lt-ltb m n lt) x
      where
        go : (c : Bool) (k : ℕ) → c ≡ true → h ≤ 201 - (cond c (suc k) k + b) → ⊥
        go true k e x = omega (arith, x, le, over, some)
        go false k e x = true≢false (sym e)

    bare : h ≤ 201 - (0 + w.above)
    bare = omega (arith, fits)

    reach : (n f : ℕ) → Before m 7 n f → (x : Head) × (j : ℕ) × (n ≤ j) × head_lang ts w x w.above n f i j
    reach n f (inl e) = ((t, false), m, omega (arith, e), p.up [] false w.above n f m (λ z. bare) refl)
    reach n f (inr x) = (
      (index_by t (dot_suffix ts m), mark_of' (class_at ts m)),
      suc (suc m),
      omega (arith, x.0),
      p.up (dot_suffix ts m ∷ []) (mark_of' (class_at ts m)) w.above n f (suc (suc m)) (λ z. absurd (omega (arith, z, x.2)))
          (one_suffix ts w w.above n f m mk (λ z. absurd (omega (arith, z, x.2))) (λ z. absurd (omega (arith, z, x.2))) (λ z. absurd (omega (arith, z, x.0)))),
    )

-- No name is behind the mark.
pub path_unnamed : (ts : List Token) (w : Context) (i : ℕ) (t : Exp) (m h : ℕ) → PathRead ts w i t m h → m + 1 < length ts → 1 ≤ h → w.above + h ≤ 200 → IsMark (class_at ts m) → class_at ts (m + 1) ≢ Name → ReadsFault Head ts (head_lang ts w) head_goes w.above i 5 (m + 1)
path_unnamed ts w i t m h p inside some room mk ne = record {
  inside = inside;
  ordered = omega (arith, p.ordered);
  number = (omega arith, omega arith);
  reach = reach;
  dead = λ x b n j le lt l st.
      let before' : m < n = omega (arith, lt) in
      let behind : suc m < n = omega (arith, lt) in
      let y = p.down x.0 x.1 b n 5 j before' l st in
      let s = index_at ts w b n 5 m j x.1 y.0 mk before' y.2 st in
      ne (subst (λ (v : ℕ). class_at ts v ≡ Name) (sym (add-one m)) (s.6.name behind).0);
}
  where
    fit : (n : ℕ) → h ≤ 201 - (outer n m (dot_suffix ts m ∷ []) + w.above)
    fit n = go (nat_lt m n)
      where
        go : (c : Bool) → h ≤ 201 - (cond c 1 0 + w.above)
        go true = omega (arith, room)
        go false = omega (arith, room)

    reach : (n f : ℕ) → Before (m + 1) 5 n f → (x : Head) × (j : ℕ) × (n ≤ j) × head_lang ts w x w.above n f i j
    reach n f (inl e) = (
      (index_by t (dot_suffix ts m), mark_of' (class_at ts m)),
      suc (suc m),
      omega (arith, e),
      p.up (dot_suffix ts m ∷ []) (mark_of' (class_at ts m)) w.above n f (suc (suc m)) (λ z. fit n)
          (one_suffix ts w w.above n f m mk (λ z. omega (arith, room)) (λ z lt. absurd (omega (arith, e, lt))) (λ lt. absurd (omega (arith, e, lt)))),
    )
    reach n f (inr x) = absurd (omega (arith, x.1, x.2))

-- The last name is one of a method.
pub path_method : (ts : List Token) (w : Context) (i : ℕ) (t : Exp) (m h : ℕ) → HasOneEnd ts → PathRead ts w i t m h → m < length ts → 1 ≤ h → w.above + h ≤ 200 → class_at ts m ≡ Colon → class_at ts (m + 1) ≡ Name →
    ReadsNonEmpty Head ts (head_lang ts w) head_goes w.above i (index_by t (dot_suffix ts m), true) (m + 2) (1 + h)
path_method ts w i t m h ended p inside some room colon name = record {
  grows = omega (arith, p.ordered);
  reading = record {
    inside = behind;
    ordered = omega (arith, p.ordered);
    stands = λ b n f x. p.up (dot_suffix ts m ∷ []) true b n f (m + 2) (λ e. less b n (x e)) (put b n f x);
    only = λ x b n f j lt l st. let y = p.down x.0 x.1 b n f j (omega (arith, lt)) l st in only x.0 x.1 b n f j lt y.0 y.1 y.2 y.3 st;
    height = omega (arith, room);
  };
}
  where
    behind : m + 2 < length ts
    behind = let a = behind_word ts (m + 1) Name ended (behind_word ts m Colon ended inside colon refl) name refl in omega (arith, a)

    at : suc (suc m) ≡ m + 2
    at = omega arith

    less : (b n : ℕ) → 1 + h ≤ 201 - b → h ≤ 201 - (outer n m (dot_suffix ts m ∷ []) + b)
    less b n x = go (nat_lt m n)
      where
        go : (c : Bool) → h ≤ 201 - (cond c 1 0 + b)
        go true = omega (arith, x)
        go false = omega (arith, x)

    top : (b : ℕ) → 1 + h ≤ 201 - b → suc b ≤ 200
    top b x = omega (arith, x, some)

    put : (b n f : ℕ) → (f ≡ 7 → 1 + h ≤ 201 - b) → Suffixes ts w b n f true (dot_suffix ts m ∷ []) m (m + 2)
    put b n f x = (
      record {
        line = refl;
        room = λ f7 lt. let y = top b (x f7) in omega (arith, y);
        class = λ lt. colon;
        name_line = ap (λ (y : ℕ). (tok_at ts y).line) (add-one m);
        name_room = λ f7 lt. top b (x f7);
        name = λ lt. (subst (λ (y : ℕ). class_at ts y ≡ Name) (add-one m) name, ap (λ (y : ℕ). bytes_of (tok_at ts y)) (sym (add-one m)));
      },
      at,
    )

    fit : (b n : ℕ) (s : Suffix) → m < n → h ≤ 201 - (outer n m (s ∷ []) + b) → 1 + h ≤ 201 - b
    fit b n s lt x = go (nat_lt m n) (lt-ltb m n lt) x
      where
        go : (c : Bool) → c ≡ true → h ≤ 201 - (cond c 1 0 + b) → 1 + h ≤ 201 - b
        go true e x = omega (arith, x, some)
        go false e x = absurd (true≢false (sym e))

    other : (Colon ≡ Dot) → ⊥
    other e = cc

    only : (x : Exp) (mark : Bool) (b n f j : ℕ) → m + 2 < n → (r : List Suffix) → x ≡ grow t r → Suffixes ts w b n f mark r m j → (f ≡ 7 → Below h (outer n m r + b)) → Stops ts head_goes n j → (◌≡◌ {A = Head} (x, mark) (index_by t (dot_suffix ts m), true)) × (j ≡ m + 2) × (f ≡ 7 → Below (1 + h) b)
    only x false b n f j lt [] e s fits st = absurd (true≢false (sym (ap head_goes colon) ∙ subst (λ (y : ℕ). y < n → head_goes (class_at ts y) ≡ false) (sym s) st (omega (arith, lt))))
    only x true b n f j lt [] e s fits st = absurd s
    only x false b n f j lt (s2 ∷ r) e s fits st = absurd (other (sym colon ∙ s.0.class (omega (arith, lt))))
    only x true b n f j lt (s2 ∷ []) e s fits st =
        let k = suffix_is ts w b n f Colon s2 m (omega (arith, lt)) s.0 in
        (ap (λ (y : Exp). (y, true)) (e ∙ ap (λ (y : Suffix). index_by t y) k.0), sym s.1 ∙ at, λ z. fit b n s2 (omega (arith, lt)) (fits z))
    only x true b n f j lt (s2 ∷ (s3 ∷ r)) e s fits st = absurd (other (sym colon ∙ s.0.class (omega (arith, lt))))

-- ---- as the loop wants it

pub record PathState (ts : List Token) (w : Context) (i : ℕ) (t : Exp) (m h : ℕ) : Type 0 where
  pub read : PathRead ts w i t m h
  pub inside : m < length ts
  pub some : 1 ≤ h
  pub fits : h ≤ 201 - w.above

pub state_start : (ts : List Token) (w : Context) (i : ℕ) (t : Exp) → HasOneEnd ts → i < length ts → w.above ≤ 200 → class_at ts i ≡ Name → t ≡ NameE (tok_at ts i).line (bytes_of (tok_at ts i)) → PathState ts w i t (i + 1) 1
state_start ts w i t ended inside room here e = record {
  read = subst (λ (y : Exp). PathRead ts w i y (i + 1) 1) (sym e) (path_start ts w i here);
  inside = behind_word ts i Name ended inside here refl;
  some = omega arith;
  fits = omega (arith, room);
}

pub key_inside : {ts : List Token} {w : Context} {i m h : ℕ} {t : Exp} (b : Bool) → HasOneEnd ts → PathState ts w i t m h → class_at ts m ≡ head_mark b → m + 1 < length ts
key_inside {ts} {w} {i} {m} {h} {t} true ended p here = behind_word ts m Colon ended p.inside here refl
key_inside {ts} {w} {i} {m} {h} {t} false ended p here = behind_word ts m Dot ended p.inside here refl

pub is_mark : (ts : List Token) (m : ℕ) (b : Bool) → class_at ts m ≡ head_mark b → IsMark (class_at ts m)
is_mark ts m true e = subst IsMark (sym e) tt
is_mark ts m false e = subst IsMark (sym e) tt

pub state_more : (ts : List Token) (w : Context) (i : ℕ) (t new : Exp) (m h : ℕ) (b : Bool) → HasOneEnd ts → PathState ts w i t m h → w.above + h ≤ 200 → b ≡ false → class_at ts m ≡ head_mark b → class_at ts (m + 1) ≡ Name → new ≡ index_by t (dot_suffix ts m) → PathState ts w i new (m + 2) (h + 1)
state_more ts w i t new m h b ended p room no' here name e = record {
  read = subst (λ (y : Exp). PathRead ts w i y (m + 2) (h + 1)) (sym e) (subst (λ (y : ℕ). PathRead ts w i (index_by t (dot_suffix ts m)) (m + 2) y) high' (path_more ts w i t m h p.read dot name));
  inside = let a = behind_word ts (m + 1) Name ended (behind_word ts m Dot ended p.inside dot refl) name refl in omega (arith, a);
  some = omega arith;
  fits = omega (arith, room);
}
  where
    dot : class_at ts m ≡ Dot
    dot = here ∙ ap head_mark no'

    high' : max (1 + h) 2 ≡ h + 1
    high' = let a = p.some in omega (arith, a)

pub state_done : {ts : List Token} {w : Context} {i m h : ℕ} {t : Exp} → PathState ts w i t m h → (class_at ts m ≢ Dot) × (class_at ts m ≢ Colon) → ReadsNonEmpty Head ts (head_lang ts w) head_goes w.above i (t, false) m h
state_done {ts} {w} {i} {m} {h} {t} p x = path_stands ts w i t m h p.read p.inside p.fits x.0 x.1

pub state_deep : {ts : List Token} {w : Context} {i m h : ℕ} {t : Exp} (b : Bool) → PathState ts w i t m h → 200 < w.above + h → class_at ts m ≡ head_mark b → ReadsFault Head ts (head_lang ts w) head_goes w.above i 7 m
state_deep {ts} {w} {i} {m} {h} {t} b p over here = path_deep ts w i t m h p.read p.inside p.some p.fits over (is_mark ts m b here)

pub state_unnamed : {ts : List Token} {w : Context} {i m h : ℕ} {t : Exp} (b : Bool) → HasOneEnd ts → PathState ts w i t m h → w.above + h ≤ 200 → class_at ts m ≡ head_mark b → class_at ts (m + 1) ≢ Name → ReadsFault Head ts (head_lang ts w) head_goes w.above i 5 (m + 1)
state_unnamed {ts} {w} {i} {m} {h} {t} b ended p room here ne = path_unnamed ts w i t m h p.read (key_inside b ended p here) p.some room (is_mark ts m b here) ne

pub state_method : {ts : List Token} {w : Context} {i m h : ℕ} {t : Exp} (new : Exp) (b : Bool) → HasOneEnd ts → PathState ts w i t m h → w.above + h ≤ 200 → b ≡ true → class_at ts m ≡ head_mark b → class_at ts (m + 1) ≡ Name → new ≡ index_by t (dot_suffix ts m) →
    ReadsNonEmpty Head ts (head_lang ts w) head_goes w.above i (new, b) (m + 2) (h + 1)
state_method {ts} {w} {i} {m} {h} {t} new b ended p room yes' here name e =
    subst (λ (y : Bool). ReadsNonEmpty Head ts (head_lang ts w) head_goes w.above i (new, y) (m + 2) (h + 1)) (sym yes')
    (subst (λ (y : Exp). ReadsNonEmpty Head ts (head_lang ts w) head_goes w.above i (y, true) (m + 2) (h + 1)) (sym e)
    (subst (λ (y : ℕ). ReadsNonEmpty Head ts (head_lang ts w) head_goes w.above i (index_by t (dot_suffix ts m), true) (m + 2) y) high' (path_method ts w i t m h ended p.read p.inside p.some room (here ∙ ap head_mark yes') name)))
  where
    high' : 1 + h ≡ h + 1
    high' = omega arith

pub name_is : {t : Exp} {l k : ℕ} {x y : List ℕ} → t ≡ NameE l x → l ≡ k → x ≡ y → t ≡ NameE k y
name_is {t} {l} {k} {x} {y} e a b = e ∙ ap (λ (z : ℕ). NameE z x) a ∙ ap (λ (z : List ℕ). NameE k z) b

pub index_is : (ts : List Token) (m : ℕ) {new t key : Exp} {l k : ℕ} {x : List ℕ} → new ≡ IndexE l t key → key ≡ TextE k x → l ≡ (tok_at ts m).line → k ≡ (tok_at ts (m + 1)).line → x ≡ bytes_of (tok_at ts (m + 1)) → new ≡ index_by t (dot_suffix ts m)
index_is ts m {new} {t} {key} {l} {k} {x} e f a b c =
    e ∙ ap (λ (z : Exp). IndexE l t z) (f ∙ ap (λ (z : ℕ). TextE z x) b ∙ ap (λ (z : List ℕ). TextE (tok_at ts (m + 1)).line z) c) ∙ ap (λ (z : ℕ). IndexE z t (TextE (tok_at ts (m + 1)).line (bytes_of (tok_at ts (m + 1))))) a

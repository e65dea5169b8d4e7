-- The names of functions: a name, and indexes by names behind it, of which the last may be a method.
use Rattle.std.proofs.Common.{◌≡◌, ℕ, suc, [], ◌∷◌, ◌-◌, ◌+◌, ◌<◌, ◌≤◌, max, Bool, true, false, cond, nat_lt, List, refl, sym, ap, subst, ◌∙◌, arith, true≢false, add-one, lt-ltb}
use Rattle.lua_lexer.specs.declared.token.Token.{Token}
use Rattle.lua_grammar.specs.declared.TokenClass.{TokenClass}
use Rattle.lua_grammar.specs.declared.TokenClass.TheVariants.{Name, Dot, Colon}
use Rattle.lua_grammar.specs.declared.Context.{Context}
use Rattle.lua_grammar.specs.Tokens.{class_at, tok_at, bytes_of}
use Rattle.lua_syntax.specs.Tree.{Exp, TextE, NameE, IndexE, NoExp, MoreExp}
use Rattle.lua_grammar.specs.Grammar.{given_tokens, under, before, SpellsPath, IsMethodPath}
use Rattle.lua_reading.specs.Parsing.{Stops, Below, high}
use Rattle.lua_reading.specs.StatAnswers.{head_lang, head_goes}

-- An index by a name: its line, the line of the name, and the name.
pub record Suffix : Type 0 where
  pub line : ℕ
  pub name_line : ℕ
  pub name : List ℕ

abbrev pub index_by : Exp → Suffix → Exp
index_by t s = IndexE s.line t (TextE s.name_line s.name)

-- the path with these indexes behind it
abbrev pub grow : Exp → List Suffix → Exp
grow t [] = t
grow t (s ∷ r) = grow (index_by t s) r

-- How many of the indexes from place m on are given.
abbrev pub outer : ℕ → ℕ → List Suffix → ℕ
outer n m [] = 0
outer n m (s ∷ r) = cond (nat_lt m n) (suc (outer n (suc (suc m)) r)) (outer n (suc (suc m)) r)

-- An index from place m to m + 2, below c nodes, with this mark.
pub record Stands2 (ts : List Token) (w : Context) (c n f : ℕ) (mark : TokenClass) (s : Suffix) (m : ℕ) : Type 0 where
  pub line : s.line ≡ (tok_at ts m).line
  pub room : f ≡ 7 → m < n → c ≤ 200
  pub class : m < n → class_at ts m ≡ mark
  pub name_line : s.name_line ≡ (tok_at ts (suc m)).line
  pub name_room : f ≡ 7 → suc m < n → suc c ≤ 200
  pub name : suc m < n → (class_at ts (suc m) ≡ Name) × (bytes_of (tok_at ts (suc m)) ≡ s.name)

abbrev pub Suffixes : List Token → Context → ℕ → ℕ → ℕ → Bool → List Suffix → ℕ → ℕ → Type 0
Suffixes ts w b n f false [] m j = m ≡ j
Suffixes ts w b n f true [] m j = ⊥
Suffixes ts w b n f false (s ∷ r) m j = Stands2 ts w (outer n (suc (suc m)) r + b) n f Dot s m × Suffixes ts w b n f false r (suc (suc m)) j
Suffixes ts w b n f true (s ∷ []) m j = Stands2 ts w b n f Colon s m × (suc (suc m) ≡ j)
Suffixes ts w b n f true (s ∷ (s2 ∷ r)) m j = Stands2 ts w (outer n (suc (suc m)) (s2 ∷ r) + b) n f Dot s m × Suffixes ts w b n f true (s2 ∷ r) (suc (suc m)) j

pub before_is : (ts : List Token) (w : Context) (n f o c : ℕ) → before (given_tokens ts n f) o (high w c) ≡ high w (cond (nat_lt o n) (suc c) c)
before_is ts w n f o c = go (nat_lt o n)
  where
    go : (x : Bool) → cond x (under (high w c)) (high w c) ≡ high w (cond x (suc c) c)
    go true = refl
    go false = refl

pub outer_more : (n o b : ℕ) (s : Suffix) (r : List Suffix) → cond (nat_lt o n) (suc (outer n (suc (suc o)) r + b)) (outer n (suc (suc o)) r + b) ≡ outer n o (s ∷ r) + b
outer_more n o b s r = go (nat_lt o n) (outer n (suc (suc o)) r)
  where
    go : (x : Bool) (k : ℕ) → cond x (suc (k + b)) (k + b) ≡ cond x (suc k) k + b
    go true k = omega arith
    go false k = refl

-- the name at the left end
pub record Root (ts : List Token) (w : Context) (c n f : ℕ) (x : Exp) (r : List Suffix) (i : ℕ) : Type 0 where
  pub line : ℕ
  pub name : List ℕ
  pub whole : x ≡ grow (NameE line name) r
  pub stands : SpellsPath (given_tokens ts n f) (high w c) (NameE line name) i (suc i)

-- A path is a name with indexes behind it.
pub path_down : (ts : List Token) (w : Context) (n f b c : ℕ) (mark : Bool) (x : Exp) (r : List Suffix) (i m j : ℕ) → c ≡ outer n m r + b → SpellsPath (given_tokens ts n f) (high w c) x i m → Suffixes ts w b n f mark r m j →
    ((s : Suffix) (r2 : List Suffix) (o : ℕ) → Suffixes ts w b n f mark r2 (suc (suc o)) j → Stands2 ts w (outer n (suc (suc o)) r2 + b) n f Dot s o → Suffixes ts w b n f mark (s ∷ r2) o j) →
    (q : List Suffix) × Root ts w (outer n (suc i) q + b) n f (grow x r) q i × Suffixes ts w b n f mark q (suc i) j
unfolding SpellsPath
path_down ts w n f b c mark (NameE line x) r i m j e d rest put =
    let at : m ≡ suc i = d.2.1 ∙ ap suc (sym d.1.2) in
    let here : c ≡ outer n (suc i) r + b = e ∙ ap (λ (y : ℕ). outer n y r + b) at in (
      r,
      record {
        line = line;
        name = x;
        whole = refl;
        stands = subst (λ (y : ℕ). SpellsPath (given_tokens ts n f) (high w y) (NameE line x) i (suc i)) here (subst (λ (y : ℕ). SpellsPath (given_tokens ts n f) (high w c) (NameE line x) i y) at d);
      },
      subst (λ (y : ℕ). Suffixes ts w b n f mark r y j) at rest,
    )
path_down ts w n f b c mark (IndexE line t (TextE kl nm)) r i m j e d rest put =
    let o = d.0 in
    let k = d.2.2 in
    let s : Suffix = record { line = line; name_line = kl; name = nm } in
    let p : d.2.0 ≡ o = sym d.2.1.2 in
    let p1 : k.0 ≡ suc o = k.1.1 ∙ ap suc p in
    let p2 : k.2.0 ≡ suc o = sym k.2.1.2 ∙ p1 in
    let p3 : m ≡ suc (suc o) = k.2.2.1 ∙ ap suc p2 in
    let c2 : c ≡ outer n (suc (suc o)) r + b = e ∙ ap (λ (y : ℕ). outer n y r + b) p3 in
    let st : Stands2 ts w (outer n (suc (suc o)) r + b) n f Dot s o = record {
      line = d.2.1.0;
      room = λ f7 lt. subst (λ (y : ℕ). y ≤ 200) c2 (d.2.1.1 f7 lt);
      class = λ lt. subst (λ (y : ℕ). class_at ts y ≡ Dot) p (k.1.0 (subst (λ (y : ℕ). y < n) (sym p) lt));
      name_line = k.2.1.0 ∙ ap (λ (y : ℕ). (tok_at ts y).line) p1;
      name_room = λ f7 lt. subst (λ (y : ℕ). suc y ≤ 200) c2 (k.2.1.1 f7 (subst (λ (y : ℕ). y < n) (sym p1) lt));
      name = λ lt. let z = k.2.2.0 (subst (λ (y : ℕ). y < n) (sym p2) lt) in (subst (λ (y : ℕ). class_at ts y ≡ Name) p2 z.0, subst (λ (y : ℕ). bytes_of (tok_at ts y) ≡ nm) p2 z.1);
    } in
    path_down ts w n f b (cond (nat_lt o n) (suc c) c) mark t (s ∷ r) i o j
    (ap (λ (y : ℕ). cond (nat_lt o n) (suc y) y) c2 ∙ outer_more n o b s r)
    (subst (λ (y : Context). SpellsPath (given_tokens ts n f) y t i o) (before_is ts w n f o c) d.1)
    (put s r o (subst (λ (y : ℕ). Suffixes ts w b n f mark r y j) p3 rest) st)
    put
path_down ts w n f b c mark (IndexE line t k) r i m j e d rest put = absurd d.2.2.0
path_down ts w n f b c mark x r i m j e d rest put = absurd d

pub under_it : (ts : List Token) (w : Context) (n f b : ℕ) (x : Exp) (s : Suffix) (r : List Suffix) (i m : ℕ) → SpellsPath (given_tokens ts n f) (high w (outer n m (s ∷ r) + b)) x i m → SpellsPath (given_tokens ts n f) (before (given_tokens ts n f) m (high w (outer n (suc (suc m)) r + b))) x i m
under_it ts w n f b x s r i m d =
    subst (λ (y : Context). SpellsPath (given_tokens ts n f) y x i m) (sym (before_is ts w n f m (outer n (suc (suc m)) r + b)))
    (subst (λ (y : ℕ). SpellsPath (given_tokens ts n f) (high w y) x i m) (sym (outer_more n m b s r)) d)

pub longer : (ts : List Token) (w : Context) (n f b : ℕ) (x : Exp) (s : Suffix) (r : List Suffix) (i m : ℕ) → SpellsPath (given_tokens ts n f) (high w (outer n m (s ∷ r) + b)) x i m → Stands2 ts w (outer n (suc (suc m)) r + b) n f Dot s m →
    SpellsPath (given_tokens ts n f) (high w (outer n (suc (suc m)) r + b)) (index_by x s) i (suc (suc m))
unfolding SpellsPath
longer ts w n f b x s r i m d e = (m, under_it ts w n f b x s r i m d, (m, (e.line, e.room, refl), (suc m, (e.class, refl), (suc m, (e.name_line, e.name_room, refl), (e.name, refl)))))

pub method_put : (ts : List Token) (w : Context) (n f b : ℕ) (s : Suffix) (r : List Suffix) (o j : ℕ) → Suffixes ts w b n f true r (suc (suc o)) j → Stands2 ts w (outer n (suc (suc o)) r + b) n f Dot s o → Suffixes ts w b n f true (s ∷ r) o j
method_put ts w n f b s [] o j y z = absurd y
method_put ts w n f b s (s2 ∷ r) o j y z = (z, y)

-- The same for the name of a method.
pub method_down : (ts : List Token) (w : Context) (n f b : ℕ) (x : Exp) (i j : ℕ) → IsMethodPath (given_tokens ts n f) (high w b) (MoreExp x NoExp) i j → (q : List Suffix) × Root ts w (outer n (suc i) q + b) n f x q i × Suffixes ts w b n f true q (suc i) j
method_down ts w n f b (IndexE line t (TextE kl nm)) i j d =
    let z : 0 + b ≡ b = omega arith in
    let o = d.0 in
    let k = d.2.2 in
    let s : Suffix = record { line = line; name_line = kl; name = nm } in
    let p : d.2.0 ≡ o = sym d.2.1.2 in
    let p1 : k.0 ≡ suc o = k.1.1 ∙ ap suc p in
    let p2 : k.2.0 ≡ suc o = sym k.2.1.2 ∙ p1 in
    let p3 : j ≡ suc (suc o) = k.2.2.1 ∙ ap suc p2 in
    let st : Stands2 ts w b n f Colon s o = record {
      line = d.2.1.0;
      room = d.2.1.1;
      class = λ lt. subst (λ (y : ℕ). class_at ts y ≡ Colon) p (k.1.0 (subst (λ (y : ℕ). y < n) (sym p) lt));
      name_line = k.2.1.0 ∙ ap (λ (y : ℕ). (tok_at ts y).line) p1;
      name_room = λ f7 lt. k.2.1.1 f7 (subst (λ (y : ℕ). y < n) (sym p1) lt);
      name = λ lt. let z = k.2.2.0 (subst (λ (y : ℕ). y < n) (sym p2) lt) in (subst (λ (y : ℕ). class_at ts y ≡ Name) p2 z.0, subst (λ (y : ℕ). bytes_of (tok_at ts y) ≡ nm) p2 z.1);
    } in
    path_down ts w n f b (cond (nat_lt o n) (suc b) b) true t (s ∷ []) i o j (subst (λ (y : ℕ). cond (nat_lt o n) (suc y) y ≡ outer n o (s ∷ []) + b) z (outer_more n o b s []))
    (subst (λ (y : Context). SpellsPath (given_tokens ts n f) y t i o) (before_is ts w n f o b) d.1)
    (st, sym p3)
    (λ s r o y z. method_put ts w n f b s r o j y z)
method_down ts w n f b (IndexE line t k) i j d = absurd d.2.2.2.0
method_down ts w n f b x i j d = absurd d

-- Behind a path that stands, indexes make a longer one.
pub path_up : (ts : List Token) (w : Context) (n f b : ℕ) (x : Exp) (r : List Suffix) (i m j : ℕ) (mark : Bool) → SpellsPath (given_tokens ts n f) (high w (outer n m r + b)) x i m → Suffixes ts w b n f mark r m j → head_lang ts w (grow x r, mark) b n f i j
unfolding SpellsPath
path_up ts w n f b x [] i m j false d e =
    let z : 0 + b ≡ b = omega arith in
    subst (λ (y : ℕ). SpellsPath (given_tokens ts n f) (high w b) x i y) e (subst (λ (y : ℕ). SpellsPath (given_tokens ts n f) (high w y) x i m) z d)
path_up ts w n f b x [] i m j true d e = absurd e
path_up ts w n f b x (s ∷ r) i m j false d e = path_up ts w n f b (index_by x s) r i (suc (suc m)) j false (longer ts w n f b x s r i m d e.0) e.1
path_up ts w n f b x (s ∷ []) i m j true d e =
    let z : 0 + b ≡ b = omega arith in
    (m, subst (λ (y : ℕ). SpellsPath (given_tokens ts n f) (before (given_tokens ts n f) m (high w y)) x i m) z (under_it ts w n f b x s [] i m d), (m, (e.0.line, e.0.room, refl), (suc m, (e.0.class, refl), (suc m, (e.0.name_line, e.0.name_room, refl), (e.0.name, sym e.1)))))
path_up ts w n f b x (s ∷ (s2 ∷ r)) i m j true d e = path_up ts w n f b (index_by x s) (s2 ∷ r) i (suc (suc m)) j true (longer ts w n f b x s (s2 ∷ r) i m d e.0) e.1

-- From i the path t has been read, with h levels of nodes.
pub record PathRead (ts : List Token) (w : Context) (i : ℕ) (t : Exp) (m h : ℕ) : Type 0 where
  pub ordered : i < m
  pub down : (x : Exp) (mark : Bool) (b n f j : ℕ) → m < n → head_lang ts w (x, mark) b n f i j → Stops ts head_goes n j → (r : List Suffix) × (x ≡ grow t r) × Suffixes ts w b n f mark r m j × (f ≡ 7 → Below h (outer n m r + b))
  pub up : (r : List Suffix) (mark : Bool) (b n f j : ℕ) → (f ≡ 7 → Below h (outer n m r + b)) → Suffixes ts w b n f mark r m j → head_lang ts w (grow t r, mark) b n f i j

-- The first name.
pub path_start : (ts : List Token) (w : Context) (i : ℕ) → class_at ts i ≡ Name → PathRead ts w i (NameE (tok_at ts i).line (bytes_of (tok_at ts i))) (i + 1) 1
unfolding SpellsPath
path_start ts w i here = record {
  ordered = omega arith;
  down = λ x mark b n f j lt l st. go x mark b n f j lt (split x mark b n f j l);
  up = λ r mark b n f j fits s.
      let at : i + 1 ≡ suc i = add-one i in
      path_up ts w n f b (NameE (tok_at ts i).line (bytes_of (tok_at ts i))) r i (suc i) j mark
      (i, (refl, (λ e lt. top (outer n (suc i) r + b) (subst (λ (y : ℕ). 1 ≤ 201 - (outer n y r + b)) at (fits e))), refl), ((λ lt. (here, refl)), refl))
      (subst (λ (y : ℕ). Suffixes ts w b n f mark r y j) at s);
}
  where
    low : (b : ℕ) → b ≤ 200 → 1 ≤ 201 - b
    low b x = omega arith

    top : (b : ℕ) → 1 ≤ 201 - b → b ≤ 200
    top b x = omega arith

    split : (x : Exp) (mark : Bool) (b n f j : ℕ) → head_lang ts w (x, mark) b n f i j → (q : List Suffix) × Root ts w (outer n (suc i) q + b) n f x q i × Suffixes ts w b n f mark q (suc i) j
    split x false b n f j l = path_down ts w n f b b false x [] i j j (omega arith) l refl (λ s r o y z. (z, y))
    split x true b n f j l = method_down ts w n f b x i j l

    go : (x : Exp) (mark : Bool) (b n f j : ℕ) → i + 1 < n → (q : List Suffix) × Root ts w (outer n (suc i) q + b) n f x q i × Suffixes ts w b n f mark q (suc i) j →
        (r : List Suffix) × (x ≡ grow (NameE (tok_at ts i).line (bytes_of (tok_at ts i))) r) × Suffixes ts w b n f mark r (i + 1) j × (f ≡ 7 → Below 1 (outer n (i + 1) r + b))
    go x mark b n f j lt y =
        let at : suc i ≡ i + 1 = sym (add-one i) in
        let root = y.1 in
        let d = root.stands in
        let given : i < n = omega (arith, lt) in
        let z = d.2.0 (subst (λ (v : ℕ). v < n) d.1.2 given) in
        let name : root.name ≡ bytes_of (tok_at ts i) = sym z.1 ∙ ap (λ (v : ℕ). bytes_of (tok_at ts v)) (sym d.1.2) in (
          y.0,
          root.whole ∙ ap (λ (v : ℕ). grow (NameE v root.name) y.0) d.1.0 ∙ ap (λ (v : List ℕ). grow (NameE (tok_at ts i).line v) y.0) name,
          subst (λ (v : ℕ). Suffixes ts w b n f mark y.0 v j) at y.2,
          λ e. subst (λ (v : ℕ). 1 ≤ 201 - (outer n v y.0 + b)) at (low (outer n (suc i) y.0 + b) (d.1.1 e given)),
        )

-- ---- one more index

abbrev pub dot_suffix : List Token → ℕ → Suffix
dot_suffix ts m = record { line = (tok_at ts m).line; name_line = (tok_at ts (m + 1)).line; name = bytes_of (tok_at ts (m + 1)) }

-- What stands at m is this index.
pub suffix_is : (ts : List Token) (w : Context) (c n f : ℕ) (mark : TokenClass) (s : Suffix) (m : ℕ) → suc m < n → Stands2 ts w c n f mark s m → (s ≡ dot_suffix ts m) × (f ≡ 7 → suc c ≤ 200)
suffix_is ts w c n f mark s m lt d =
    let at : suc m ≡ m + 1 = sym (add-one m) in
    let l2 : s.name_line ≡ (tok_at ts (m + 1)).line = d.name_line ∙ ap (λ (y : ℕ). (tok_at ts y).line) at in
    let nm : s.name ≡ bytes_of (tok_at ts (m + 1)) = sym (d.name lt).1 ∙ ap (λ (y : ℕ). bytes_of (tok_at ts y)) at in (
      ap (λ (y : ℕ). record { line = y; name_line = s.name_line; name = s.name }) d.line ∙ ap (λ (y : ℕ). record { line = (tok_at ts m).line; name_line = y; name = s.name }) l2 ∙ ap (λ (y : List ℕ). record { line = (tok_at ts m).line; name_line = (tok_at ts (m + 1)).line; name = y }) nm,
      λ e. d.name_room e lt,
    )

pub path_more : (ts : List Token) (w : Context) (i : ℕ) (t : Exp) (m h : ℕ) → PathRead ts w i t m h → class_at ts m ≡ Dot → class_at ts (m + 1) ≡ Name → PathRead ts w i (index_by t (dot_suffix ts m)) (m + 2) (max (1 + h) 2)
path_more ts w i t m h p dot name = record {
  ordered = omega (arith, p.ordered);
  down = λ x mark b n f j lt l st.
      let y = p.down x mark b n f j (omega (arith, lt)) l st in
      let z = peel y.0 mark b n f j lt y.2 y.3 st in
      (z.0, y.1 ∙ z.1, z.2, z.3);
  up = λ r mark b n f j fits s. p.up (dot_suffix ts m ∷ r) mark b n f j (λ e. less b n r (fits e)) (put r mark b n f j fits s);
}
  where
    at : m + 2 ≡ suc (suc m)
    at = omega arith

    less : (b n : ℕ) (r : List Suffix) → max (1 + h) 2 ≤ 201 - (outer n (m + 2) r + b) → h ≤ 201 - (outer n m (dot_suffix ts m ∷ r) + b)
    less b n r x = go (nat_lt m n) (outer n (suc (suc m)) r) (subst (λ (y : ℕ). max (1 + h) 2 ≤ 201 - (outer n y r + b)) at x)
      where
        go : (c : Bool) (k : ℕ) → max (1 + h) 2 ≤ 201 - (k + b) → h ≤ 201 - (cond c (suc k) k + b)
        go true k x = omega arith
        go false k x = omega arith

    stands : (r : List Suffix) (b n f : ℕ) → (f ≡ 7 → max (1 + h) 2 ≤ 201 - (outer n (m + 2) r + b)) → Stands2 ts w (outer n (suc (suc m)) r + b) n f Dot (dot_suffix ts m) m
    stands r b n f fits = record {
      line = refl;
      room = λ e lt. room (outer n (suc (suc m)) r + b) (subst (λ (y : ℕ). max (1 + h) 2 ≤ 201 - (outer n y r + b)) at (fits e));
      class = λ lt. dot;
      name_line = ap (λ (y : ℕ). (tok_at ts y).line) (add-one m);
      name_room = λ e lt. name_room (outer n (suc (suc m)) r + b) (subst (λ (y : ℕ). max (1 + h) 2 ≤ 201 - (outer n y r + b)) at (fits e));
      name = λ lt. (subst (λ (y : ℕ). class_at ts y ≡ Name) (add-one m) name, ap (λ (y : ℕ). bytes_of (tok_at ts y)) (sym (add-one m)));
    }
      where
        room : (c : ℕ) → max (1 + h) 2 ≤ 201 - c → c ≤ 200
        room c x = omega arith

        name_room : (c : ℕ) → max (1 + h) 2 ≤ 201 - c → suc c ≤ 200
        name_room c x = omega arith

    put : (r : List Suffix) (mark : Bool) (b n f j : ℕ) → (f ≡ 7 → max (1 + h) 2 ≤ 201 - (outer n (m + 2) r + b)) → Suffixes ts w b n f mark r (m + 2) j → Suffixes ts w b n f mark (dot_suffix ts m ∷ r) m j
    put r false b n f j fits s = (stands r b n f fits, subst (λ (y : ℕ). Suffixes ts w b n f false r y j) at s)
    put [] true b n f j fits s = absurd s
    put (s2 ∷ r) true b n f j fits s = (stands (s2 ∷ r) b n f fits, subst (λ (y : ℕ). Suffixes ts w b n f true (s2 ∷ r) y j) at s)

    high' : (b n : ℕ) (r : List Suffix) (s : Suffix) → m + 2 < n → h ≤ 201 - (outer n m (s ∷ r) + b) → suc (outer n (suc (suc m)) r + b) ≤ 200 → max (1 + h) 2 ≤ 201 - (outer n (m + 2) r + b)
    high' b n r s lt x z = subst (λ (y : ℕ). max (1 + h) 2 ≤ 201 - (outer n y r + b)) (sym at) (go (nat_lt m n) (outer n (suc (suc m)) r) (lt-ltb m n (omega (arith, lt))) x z)
      where
        go : (c : Bool) (k : ℕ) → c ≡ true → h ≤ 201 - (cond c (suc k) k + b) → suc (k + b) ≤ 200 → max (1 + h) 2 ≤ 201 - (k + b)
        go true k e x z = omega arith
        go false k e x z = absurd (true≢false (sym e))

    Next : (r : List Suffix) (mark : Bool) (b n f j : ℕ) → Type 0
    Next r mark b n f j = (q : List Suffix) × (grow t r ≡ grow (index_by t (dot_suffix ts m)) q) × Suffixes ts w b n f mark q (m + 2) j × (f ≡ 7 → Below (max (1 + h) 2) (outer n (m + 2) q + b))

    next : (s : Suffix) (r : List Suffix) (mark : Bool) (b n f j : ℕ) → m + 2 < n → Stands2 ts w (outer n (suc (suc m)) r + b) n f Dot s m → Suffixes ts w b n f mark r (suc (suc m)) j → (f ≡ 7 → Below h (outer n m (s ∷ r) + b)) → Next (s ∷ r) mark b n f j
    next s r mark b n f j lt d rest fits =
        let i2 = suffix_is ts w (outer n (suc (suc m)) r + b) n f Dot s m (omega (arith, lt)) d in
        (r, ap (λ (y : Suffix). grow (index_by t y) r) i2.0, subst (λ (y : ℕ). Suffixes ts w b n f mark r y j) (sym at) rest, λ e. high' b n r s lt (fits e) (i2.1 e))

    peel : (r : List Suffix) (mark : Bool) (b n f j : ℕ) → m + 2 < n → Suffixes ts w b n f mark r m j → (f ≡ 7 → Below h (outer n m r + b)) → Stops ts head_goes n j → Next r mark b n f j
    peel [] false b n f j lt x fits st = absurd (true≢false (sym (ap head_goes dot) ∙ subst (λ (y : ℕ). y < n → head_goes (class_at ts y) ≡ false) (sym x) st (omega (arith, lt))))
    peel [] true b n f j lt x fits st = absurd x
    peel (s ∷ r) false b n f j lt x fits st = next s r false b n f j lt x.0 x.1 fits
    peel (s ∷ []) true b n f j lt x fits st = let other : Dot ≡ Colon = sym dot ∙ x.0.class (omega (arith, lt)) in absurd (cc)
    peel (s ∷ (s2 ∷ r)) true b n f j lt x fits st = next s (s2 ∷ r) true b n f j lt x.0 x.1 fits

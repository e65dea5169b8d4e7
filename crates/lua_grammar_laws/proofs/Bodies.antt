-- Names, parameters, bodies of functions and the names of functions are unique.
use Rattle.std.proofs.Common.{◌≡◌, ◌≢◌, ℕ, zero, suc, [], ◌∷◌, ◌+◌, ◌<◌, ◌≤◌, ◌⊎◌, Bool, true, false, List, length, refl, sym, ap, subst, ◌∙◌, inl, inr, le_refl, arith, true≢false}
use Rattle.lua_reading.specs.LuaLexerDeclaredTokenToken.{Token}
use Rattle.lua_reading.specs.LuaGrammarDeclaredTokenClass.{TokenClass}
use Rattle.lua_reading.specs.LuaGrammarDeclaredTokenClassTheVariants.{Name, RightParen, Comma, Dots, Dot, Colon, End}
use Rattle.lua_reading.specs.LuaGrammarDeclaredContext.{Context}
use Rattle.lua_reading.specs.LuaGrammarTokens.{class_at, tok_at, bytes_of}
use Rattle.lua_reading.specs.LuaSyntaxTree.{Exp, Fun, NameE}
use Rattle.lua_reading.specs.LuaGrammarGrammar.{in_function, SpellsPath}
use Rattle.lua_reading.specs.Parsing.{Stops, nothing, names_goes, block_goes}
use Rattle.lua_reading.specs.Answers.{Parameters, params_lang, params_goes, body_lang}
use Rattle.lua_reading.specs.StatAnswers.{more_names_lang, Head, head_lang, head_goes}
use Rattle.lua_reading.proofs.pieces.Steps.{Rest, Done, Word, Named, Here, Either, Reads, Left, word_step, named_step, first_way, second_way, Closed, word_closed, done_closed, follows_word, follows_done}
use Rattle.lua_reading.proofs.lists.Names.{start, more_names_kind, names_split}
use Rattle.lua_reading.proofs.functions.Bodies.{some_lang, some_kind, some_starts, with_name, params_begin, body_starts}
use Rattle.lua_reading.proofs.functions.PathSteps.{Suffix, Suffixes, Stands2, Root, outer, grow, path_down, method_down, suffix_is}
use Rattle.lua_reading.proofs.statements.Begins.{inner}
use Rattle.lua_grammar_laws.proofs.Rests.{EndsText, next_token, Unique, relax, other, is_name, done_apart, from_left, from_word, from_start, Sure}

-- ---- names behind a comma

abbrev is_comma : TokenClass → Bool
is_comma Comma = true
is_comma s = false

-- The names behind a first comma.
abbrev names_behind : List Token → Rest (List (List ℕ))
names_behind ts = Named Name (λ x. Here (List (List ℕ)) (more_names_kind ts) (λ xs. Done (x ∷ xs)))

pub names_once : (ts : List Token) (i : ℕ) → EndsText ts → i < length ts → Sure ts (i + 1) → Unique 0 (List (List ℕ)) ts (more_names_lang ts) names_goes i
names_once ts i ends lt s = go (class_at ts i) refl
  where
    begun : Left (List (List ℕ)) ts (more_names_lang ts) names_goes i (Either (Done []) (Word Comma (names_behind ts))) i 0
    begun = names_split {ms = []} (start ts (more_names_kind ts) names_goes i)

    go : (v : TokenClass) → class_at ts i ≡ v → Unique 0 (List (List ℕ)) ts (more_names_lang ts) names_goes i
    go Comma e =
        relax (from_left ends (word_step (second_way begun (done_closed ts names_goes i [] (ap names_goes e))) e) (next_token ts i Comma ends lt e refl) (omega arith)
        (refl, λ x. (names_goes, s.names, (λ xs. follows_done ts names_goes names_goes _ (λ v z. z)), λ xs. tt)))
    go v e = from_start i ends (first_way begun (word_closed ts names_goes i Comma (names_behind ts) (other is_comma e refl refl))) (le_refl i) lt tt

-- ---- parameters

abbrev is_dots : TokenClass → Bool
is_dots Dots = true
is_dots s = false

abbrev is_closing : TokenClass → Bool
is_closing RightParen = true
is_closing s = false

-- What is left behind a name.
abbrev behind_name : List Token → List ℕ → Rest Parameters
behind_name ts x = Either (Done (with_name x ([], false))) (Word Comma (Here Parameters (some_kind ts) (λ p. Done (with_name x p))))

named_shut : (ts : List Token) (i : ℕ) → class_at ts i ≢ Name → Closed ts params_goes i (Named Name (behind_name ts))
named_shut ts i ne s b n f j lt x st = ne (x.2.0 lt).0

pub some_once : (ts : List Token) (i : ℕ) → EndsText ts → i < length ts → Sure ts (i + 1) → Unique 1 Parameters ts (some_lang ts) params_goes i
some_once ts i ends lt s = go (class_at ts i) refl
  where
    none : class_at ts i ≢ Dots → class_at ts i ≢ Name → Unique 1 Parameters ts (some_lang ts) params_goes i
    none a c = record { same = λ x y b d j k dx sx dy sy. absurd (begins ((some_starts ts i).down x b (length ts) 6 j lt dx sx).0) }
      where
        begins : {x : Parameters} {b j : ℕ} → Reads ts (Word Dots (Done ([], true))) x b (length ts) 6 i j ⊎ Reads ts (Named Name (behind_name ts)) x b (length ts) 6 i j → ⊥
        begins (inl z) = a (z.1.0 lt)
        begins (inr z) = c (z.2.0 lt).0

    go : (v : TokenClass) → class_at ts i ≡ v → Unique 1 Parameters ts (some_lang ts) params_goes i
    go Dots e = from_left ends (word_step {r = Done ([], true)} (first_way (some_starts ts i) (named_shut ts i (other is_name e refl refl))) e) (next_token ts i Dots ends lt e refl) (omega arith) tt
    go Name e =
        from_left ends (named_step {r = behind_name ts} (second_way (some_starts ts i) (word_closed ts params_goes i Dots (Done ([], true)) (other is_dots e refl refl))) e)
        (next_token ts i Name ends lt e refl) (omega arith)
        (done_apart refl, tt, (refl, (params_goes, s.some, (λ p. follows_done ts params_goes params_goes _ (λ v z. z)), λ p. tt)))
    go v e = none (other is_dots e refl refl) (other is_name e refl refl)

abbrev no_names : Parameters
no_names = ([], false)

no_params : (ts : List Token) (i : ℕ) → i < length ts → class_at ts i ≡ RightParen → (x : Parameters) (b j : ℕ) → params_lang ts x b (length ts) 6 i j → (x ≡ no_names) × (i ≡ j)
no_params ts i lt e (ps, d) b j s = go ps d s
  where
    go : (ps : List (List ℕ)) (d : Bool) → params_lang ts (ps, d) b (length ts) 6 i j → (◌≡◌ {A = Parameters} (ps, d) no_names) × (i ≡ j)
    go [] false s = (refl, s)
    go [] true s = let q : RightParen ≡ Dots = sym e ∙ s.0 lt in absurd (cc)
    go (x ∷ xs) false s = let q : RightParen ≡ Name = sym e ∙ (s.1.0 lt).0 in absurd (cc)
    go (x ∷ xs) true s = let q : RightParen ≡ Name = sym e ∙ (s.1.1.0 lt).0 in absurd (cc)

params_once : (ts : List Token) (p i : ℕ) → EndsText ts → Sure ts p → p ≤ i → i < length ts → Unique 0 Parameters ts (params_lang ts) params_goes i
params_once ts p i ends s lo lt = go (class_at ts i) refl
  where
    some : class_at ts i ≢ RightParen → Unique 0 Parameters ts (params_lang ts) params_goes i
    some ne = from_start p ends (params_begin ts i ne) lo lt (params_goes, s.some, (λ x. follows_done ts params_goes params_goes _ (λ v z. z)), λ x. tt)

    go : (v : TokenClass) → class_at ts i ≡ v → Unique 0 Parameters ts (params_lang ts) params_goes i
    go RightParen e = record {
      same = λ x y b c j k dx sx dy sy.
          let u = no_params ts i lt e x b j dx in
          let v = no_params ts i lt e y c k dy in
          (u.0 ∙ sym v.0, sym u.1 ∙ v.1, omega (arith, u.1), omega (arith, u.1, lt));
    }
    go v e = some (other is_closing e refl refl)

pub body_once : (method : Bool) (ts : List Token) (w : Context) (i : ℕ) → EndsText ts → i < length ts → Sure ts (i + 1) → Unique 1 Fun ts (body_lang method ts w) nothing i
body_once method ts w i ends lt s =
    from_word ends (body_starts method ts w i) lt refl (
      params_goes,
      (λ m lo l. params_once ts (i + 1) m ends s lo l),
      (λ p. follows_word ts nothing params_goes RightParen _ refl),
      λ p. (refl, (block_goes, s.block (in_function p.1 w), (λ k. follows_word ts nothing block_goes End _ refl), λ k. (refl, tt))),
    )

-- ---- the names of functions

-- What stands first: nothing, an index by a name, or the name of a method.
abbrev Step : List Token → Context → ℕ → List Suffix → Bool → ℕ → ℕ → Type 0
Step ts w b r mark m j =
    ((r ≡ []) × (mark ≡ false) × (m ≡ j))
    ⊎ (((s : Suffix) × (q : List Suffix) × (c : ℕ) × (r ≡ s ∷ q) × Stands2 ts w c (length ts) 6 Dot s m × Suffixes ts w b (length ts) 6 mark q (suc (suc m)) j)
    ⊎ ((s : Suffix) × (r ≡ s ∷ []) × (mark ≡ true) × Stands2 ts w b (length ts) 6 Colon s m × (suc (suc m) ≡ j)))

step : (ts : List Token) (w : Context) (b : ℕ) (r : List Suffix) (mark : Bool) (m j : ℕ) → Suffixes ts w b (length ts) 6 mark r m j → Step ts w b r mark m j
step ts w b [] false m j d = inl (refl, refl, d)
step ts w b [] true m j d = absurd d
step ts w b (s ∷ r) false m j d = inr (inl (s, r, outer (length ts) (suc (suc m)) r + b, refl, d.0, d.1))
step ts w b (s ∷ []) true m j d = inr (inr (s, refl, refl, d.0, d.1))
step ts w b (s ∷ (s2 ∷ r)) true m j d = inr (inl (s, s2 ∷ r, outer (length ts) (suc (suc m)) (s2 ∷ r) + b, refl, d.0, d.1))

abbrev OnePath : List Token → List Suffix → Bool → List Suffix → Bool → ℕ → ℕ → ℕ → Type 0
OnePath ts r mark q other_mark m j k = (r ≡ q) × (mark ≡ other_mark) × (j ≡ k) × (m ≤ j) × (j < length ts)

-- Where a suffix stands, another token does behind it.
suffix_inside : (ts : List Token) (w : Context) (c : ℕ) (mark : TokenClass) (s : Suffix) (m : ℕ) → EndsText ts → m < length ts → inner mark ≡ true → Stands2 ts w c (length ts) 6 mark s m → suc (suc m) < length ts
suffix_inside ts w c mark s m ends lt h d =
    let one : m + 1 < length ts = next_token ts m mark ends lt (d.class lt) h in
    let two : suc m + 1 < length ts = next_token ts (suc m) Name ends (omega (arith, one)) (d.name (omega (arith, one))).0 refl in
    omega (arith, two)

path_ends : (ts : List Token) (m j : ℕ) (mark : TokenClass) → m < length ts → m ≡ j → Stops ts head_goes (length ts) j → head_goes mark ≡ true → class_at ts m ≡ mark → ⊥
path_ends ts m j mark lt e st h here =
    let P : ℕ → Type 0 = λ v. v < length ts → head_goes (class_at ts v) ≡ false in
    true≢false (sym h ∙ ap head_goes (sym here) ∙ subst P (sym e) st lt)

marks_differ : (s : TokenClass) → s ≡ Dot → s ≡ Colon → ⊥
marks_differ s a c = let q : Dot ≡ Colon = sym a ∙ c in cc

suffixes_once : (ts : List Token) (w : Context) → EndsText ts → (d m : ℕ) → length ts ≤ m + d → m < length ts → (r q : List Suffix) (mark mark2 : Bool) (b c j k : ℕ) →
    Suffixes ts w b (length ts) 6 mark r m j → Stops ts head_goes (length ts) j → Suffixes ts w c (length ts) 6 mark2 q m k → Stops ts head_goes (length ts) k → OnePath ts r mark q mark2 m j k
suffixes_once ts w ends zero m fuel lt r q mark mark2 b c j k dx sx dy sy = absurd (omega (arith, fuel, lt))
suffixes_once ts w ends (suc d) m fuel lt r q mark mark2 b c j k dx sx dy sy =
    go (step ts w b r mark m j dx) (step ts w c q mark2 m k dy) (λ r2 q2 lt2 x y. suffixes_once ts w ends d (suc (suc m)) (omega (arith, fuel)) lt2 r2 q2 mark mark2 b c j k x sx y sy)
  where
    go : Step ts w b r mark m j → Step ts w c q mark2 m k →
        ((r2 q2 : List Suffix) → suc (suc m) < length ts → Suffixes ts w b (length ts) 6 mark r2 (suc (suc m)) j → Suffixes ts w c (length ts) 6 mark2 q2 (suc (suc m)) k → OnePath ts r2 mark q2 mark2 (suc (suc m)) j k) →
        OnePath ts r mark q mark2 m j k
    go (inl u) (inl v) again = (u.0 ∙ sym v.0, u.1 ∙ sym v.1, sym u.2 ∙ v.2, omega (arith, u.2), omega (arith, u.2, lt))
    go (inl u) (inr (inl v)) again = absurd (path_ends ts m j Dot lt u.2 sx refl (v.4.class lt))
    go (inl u) (inr (inr v)) again = absurd (path_ends ts m j Colon lt u.2 sx refl (v.3.class lt))
    go (inr (inl u)) (inl v) again = absurd (path_ends ts m k Dot lt v.2 sy refl (u.4.class lt))
    go (inr (inr u)) (inl v) again = absurd (path_ends ts m k Colon lt v.2 sy refl (u.3.class lt))
    go (inr (inl u)) (inr (inr v)) again = absurd (marks_differ (class_at ts m) (u.4.class lt) (v.3.class lt))
    go (inr (inr u)) (inr (inl v)) again = absurd (marks_differ (class_at ts m) (v.4.class lt) (u.3.class lt))
    go (inr (inl u)) (inr (inl v)) again =
        let lt2 = suffix_inside ts w u.2 Dot u.0 m ends lt refl u.4 in
        let a = (suffix_is ts w u.2 (length ts) 6 Dot u.0 m (omega (arith, lt2)) u.4).0 in
        let e = (suffix_is ts w v.2 (length ts) 6 Dot v.0 m (omega (arith, lt2)) v.4).0 in
        let z = again u.1 v.1 lt2 u.5 v.5 in
        (u.3 ∙ ap (λ (y : Suffix). y ∷ u.1) (a ∙ sym e) ∙ ap (λ (y : List Suffix). v.0 ∷ y) z.0 ∙ sym v.3, z.1, z.2, omega (arith, z.3), z.4)
    go (inr (inr u)) (inr (inr v)) again =
        let lt2 = suffix_inside ts w b Colon u.0 m ends lt refl u.3 in
        let a = (suffix_is ts w b (length ts) 6 Colon u.0 m (omega (arith, lt2)) u.3).0 in
        let e = (suffix_is ts w c (length ts) 6 Colon v.0 m (omega (arith, lt2)) v.3).0 in
        (u.1 ∙ ap (λ (y : Suffix). y ∷ []) (a ∙ sym e) ∙ sym v.1, u.2 ∙ sym v.2, sym u.4 ∙ v.4, omega (arith, u.4), omega (arith, u.4, lt2))

-- A first name with suffixes behind it.
abbrev NamedPath : List Token → Context → ℕ → Exp → Bool → ℕ → ℕ → Type 0
NamedPath ts w i x mark b j =
    (class_at ts i ≡ Name) × ((q : List Suffix) × (x ≡ grow (NameE (tok_at ts i).line (bytes_of (tok_at ts i))) q) × Suffixes ts w b (length ts) 6 mark q (suc i) j)

head_split : (ts : List Token) (w : Context) (i : ℕ) → i < length ts → (x : Exp) (mark : Bool) (b j : ℕ) → head_lang ts w (x, mark) b (length ts) 6 i j → NamedPath ts w i x mark b j
unfolding SpellsPath
head_split ts w i lt x mark b j d = from (split mark d)
  where
    Whole : Type 0
    Whole = (q : List Suffix) × Root ts w (outer (length ts) (suc i) q + b) (length ts) 6 x q i × Suffixes ts w b (length ts) 6 mark q (suc i) j

    split : (v : Bool) → head_lang ts w (x, v) b (length ts) 6 i j → (q : List Suffix) × Root ts w (outer (length ts) (suc i) q + b) (length ts) 6 x q i × Suffixes ts w b (length ts) 6 v q (suc i) j
    split false l = path_down ts w (length ts) 6 b b false x [] i j j (omega arith) l refl (λ s r o y z. (z, y))
    split true l = method_down ts w (length ts) 6 b x i j l

    from : Whole → NamedPath ts w i x mark b j
    from y =
        let root = y.1 in
        let s = root.stands in
        let z = s.2.0 (subst (λ (v : ℕ). v < length ts) s.1.2 lt) in
        let name : root.name ≡ bytes_of (tok_at ts i) = sym z.1 ∙ ap (λ (v : ℕ). bytes_of (tok_at ts v)) (sym s.1.2) in (
          ap (λ (v : ℕ). class_at ts v) s.1.2 ∙ z.0,
          (y.0, root.whole ∙ ap (λ (v : ℕ). grow (NameE v root.name) y.0) s.1.0 ∙ ap (λ (v : List ℕ). grow (NameE (tok_at ts i).line v) y.0) name, y.2),
        )

pub head_once : (ts : List Token) (w : Context) (i : ℕ) → EndsText ts → i < length ts → Unique 1 Head ts (head_lang ts w) head_goes i
head_once ts w i ends lt = record { same = λ x y b c j k dx sx dy sy. go x.0 y.0 x.1 y.1 b c j k sx sy (head_split ts w i lt x.0 x.1 b j dx) (head_split ts w i lt y.0 y.1 c k dy) }
  where
    go : (x y : Exp) (mark mark2 : Bool) (b c j k : ℕ) → Stops ts head_goes (length ts) j → Stops ts head_goes (length ts) k → NamedPath ts w i x mark b j → NamedPath ts w i y mark2 c k → (◌≡◌ {A = Head} (x, mark) (y, mark2)) × (j ≡ k) × (1 + i ≤ j) × (j < length ts)
    go x y mark mark2 b c j k sx sy u v =
        let inside = next_token ts i Name ends lt u.0 refl in
        let z = suffixes_once ts w ends (length ts) (suc i) (omega arith) (omega (arith, inside)) u.1.0 v.1.0 mark mark2 b c j k u.1.2 sx v.1.2 sy in
        let same : x ≡ y = u.1.1 ∙ ap (λ (q : List Suffix). grow (NameE (tok_at ts i).line (bytes_of (tok_at ts i))) q) z.0 ∙ sym v.1.1 in
        (both same z.1, z.2, omega (arith, z.3), z.4)
      where
        both : x ≡ y → mark ≡ mark2 → ◌≡◌ {A = Head} (x, mark) (y, mark2)
        both a e = cc

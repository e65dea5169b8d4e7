-- Parameters and bodies of functions.
use Rattle.std.proofs.Common.{◌≡◌, ◌≢◌, ℕ, suc, [], ◌∷◌, ◌++◌, ◌+◌, ◌<◌, Bool, true, false, List, length, refl, sym, ap, subst, ◌∙◌, inl, inr, le_refl, arith, true≢false}
use Rattle.std.specs.Prelude.{codes}
use Rattle.lua_lexer.specs.declared.token.Token.{Token}
use Rattle.lua_grammar.specs.declared.TokenClass.{TokenClass}
use Rattle.lua_grammar.specs.declared.TokenClass.TheVariants.{Name, LeftParen, RightParen, Comma, Dots, End}
use Rattle.lua_grammar.specs.declared.Context.{Context}
use Rattle.lua_grammar.specs.Tokens.{class_at, tok_at, bytes_of}
use Rattle.lua_syntax.specs.Tree.{Fun, Block, Lambda}
use Rattle.lua_grammar.specs.Grammar.{given_tokens, word, text, in_function, Params, SpellsFun, SpellsMethod}
use Rattle.lua_reading.specs.Parsing.{Lang, Stops, ReadsTree, ReadsFault, nothing}
use Rattle.lua_reading.specs.Answers.{Parameters, params_lang, params_goes, body_lang}
use Rattle.lua_reading.proofs.pieces.Steps.{CanOpen, Kind, Rest, Done, Word, Named, Here, Either, Reads, Left, follows_done, word_step, word_fails, named_step, first_way, second_way, word_closed, done_closed, Closed, inline, all_read}
use Rattle.lua_reading.proofs.pieces.Kinds.{params_kind, block_kind}

-- Parameters, of which there is one at least.
abbrev pub some_lang : List Token → Parameters → Lang
some_lang ts ([], false) b n f i j = ⊥
some_lang ts (ps, dots) b n f i j = Params (given_tokens ts n f) ps dots i j

pub some_opens : (ts : List Token) → CanOpen Parameters (some_lang ts)
some_opens ts b n f m le = (([], true), suc m, omega (arith, le), ((λ lt. absurd (omega (arith, le, lt))), refl))

abbrev pub some_kind : List Token → Kind Parameters
some_kind ts = record { lang = some_lang ts; goes = params_goes; open' = some_opens ts }

abbrev pub with_name : List ℕ → Parameters → Parameters
with_name x (ps, dots) = (x ∷ ps, dots)

abbrev pub some_rest : List Token → Rest Parameters
some_rest ts = Either (Word Dots (Done ([], true))) (Named Name (λ x. Either (Done (with_name x ([], false))) (Word Comma (Here Parameters (some_kind ts) (λ p. Done (with_name x p))))))

pub some_starts : (ts : List Token) (i : ℕ) → Left Parameters ts (some_lang ts) params_goes i (some_rest ts) i 0
some_starts ts i = record {
  ordered = le_refl i;
  down = λ x b n f j lt s st. (go x.0 x.1 b n f j s, λ u. omega arith);
  up = λ x b n f j fits r. up x.0 x.1 b n f j r;
}
  where
    go : (ps : List (List ℕ)) (d : Bool) (b n f j : ℕ) → some_lang ts (ps, d) b n f i j → Reads ts (some_rest ts) (ps, d) b n f i j
    go [] false b n f j s = elim s [ ]
    go [] true b n f j s = inl (j, s, (refl, refl))
    go (x ∷ []) false b n f j s = inr (x, s.0, s.1, inl (refl, s.2))
    go (x ∷ y ∷ ys) false b n f j s = inr (x, s.0, s.1, inr (s.2.0, s.2.1, ((y ∷ ys, false), j, (s.2.2.0, s.2.2.1, s.2.2.2), (refl, refl))))
    go (x ∷ []) true b n f j s =
        inr (x, s.1.0, s.1.1, inr (s.2.0, subst (λ (z : ℕ). word (given_tokens ts n f) Comma z s.2.0) (sym s.1.2) s.2.1, (([], true), j, s.2.2, (refl, refl))))
    go (x ∷ y ∷ ys) true b n f j s =
        inr (x, s.1.0, s.1.1, inr (s.1.2.0, s.1.2.1, ((y ∷ ys, true), j, (s.0, (s.1.2.2.0, s.1.2.2.1, s.1.2.2.2), s.2), (refl, refl))))

    back : (x : List ℕ) (ps : List (List ℕ)) (d : Bool) (b n f j m q : ℕ) → text (given_tokens ts n f) Name x i m → word (given_tokens ts n f) Comma m q → some_lang ts (ps, d) b n f q j → some_lang ts (x ∷ ps, d) b n f i j
    back x [] false b n f j m q t c s = elim s [ ]
    back x [] true b n f j m q t c s = (m, (m, t, refl), (q, c, s))
    back x (y ∷ ys) false b n f j m q t c s = (m, t, (q, c, (s.0, s.1, s.2)))
    back x (y ∷ ys) true b n f j m q t c s = (s.0, (m, t, (q, c, (s.1.0, s.1.1, s.1.2))), s.2)

    up : (ps : List (List ℕ)) (d : Bool) (b n f j : ℕ) → Reads ts (some_rest ts) (ps, d) b n f i j → some_lang ts (ps, d) b n f i j
    up ps d b n f j (inl r) = subst (λ (z : Parameters). some_lang ts z b n f i j) (sym r.2.0) (subst (λ (z : ℕ). word (given_tokens ts n f) Dots i z) r.2.1 r.1)
    up ps d b n f j (inr (x, m, t, inl r)) = subst (λ (z : Parameters). some_lang ts z b n f i j) (sym r.0) (m, t, r.1)
    up ps d b n f j (inr (x, m, t, inr r)) =
        subst (λ (z : Parameters). some_lang ts z b n f i j) (sym r.2.3.0) (back x r.2.0.0 r.2.0.1 b n f j m r.0 t r.1 (subst (λ (z : ℕ). some_lang ts r.2.0 b n f r.0 z) r.2.3.1 r.2.2))

-- these names, and then the rest
abbrev pub names_front : List (List ℕ) → Parameters → Parameters
names_front [] p = p
names_front (x ∷ xs) p = with_name x (names_front xs p)

pub names_front_snoc : (xs : List (List ℕ)) (x : List ℕ) (p : Parameters) → names_front (xs ++ x ∷ []) p ≡ names_front xs (with_name x p)
names_front_snoc [] x p = refl
names_front_snoc (y ∷ ys) x p = ap (λ (z : Parameters). with_name y z) (names_front_snoc ys x p)

pub names_front_is : (xs : List (List ℕ)) (d : Bool) → names_front xs ([], d) ≡ (xs, d)
names_front_is [] d = refl
names_front_is (y ∷ ys) d = ap (λ (z : Parameters). with_name y z) (names_front_is ys d)

-- A name closes a way where another token is.
named_closed : {S : Type 0} (ts : List Token) (goes : TokenClass → Bool) (m : ℕ) (w : TokenClass) (r : List ℕ → Rest S) → class_at ts m ≢ w → Closed ts goes m (Named w r)
named_closed ts goes m w r ne s b n f j lt x st = ne (x.2.0 lt).0

-- What is known in the loop: these names have been read, and a comma behind each.
abbrev pub Params_so_far : List Token → ℕ → List (List ℕ) → ℕ → Type 0
Params_so_far ts i xs m = Left Parameters ts (params_lang ts) params_goes i (Here Parameters (some_kind ts) (λ p. Done (names_front xs p))) m 0

params_go : (s : TokenClass) → s ≢ RightParen → params_goes s ≡ true
params_go RightParen h = absurd (h refl)
params_go _ h = refl

pub params_begin : (ts : List Token) (i : ℕ) → class_at ts i ≢ RightParen → Params_so_far ts i [] i
params_begin ts i ne = record {
  ordered = le_refl i;
  down = λ x b n f j lt s st. ((x, j, some x.0 x.1 b n f j lt s st, (refl, refl)), λ u. omega arith);
  up = λ x b n f j fits r. subst (λ (z : ℕ). params_lang ts x b n f i z) r.3.1 (subst (λ (z : Parameters). params_lang ts z b n f i r.1) (sym r.3.0) (back r.0.0 r.0.1 b n f r.1 r.2));
}
  where
    some : (ps : List (List ℕ)) (d : Bool) (b n f j : ℕ) → i < n → params_lang ts (ps, d) b n f i j → Stops ts params_goes n j → some_lang ts (ps, d) b n f i j
    some [] false b n f j lt s st =
        let S : ℕ → Type 0 = λ z. z < n → params_goes (class_at ts z) ≡ false in
        absurd (true≢false (sym (params_go (class_at ts i) ne) ∙ subst S (sym s) st lt))
    some [] true b n f j lt s st = s
    some (x ∷ xs) false b n f j lt s st = s
    some (x ∷ xs) true b n f j lt s st = s

    back : (ps : List (List ℕ)) (d : Bool) (b n f j : ℕ) → some_lang ts (ps, d) b n f i j → params_lang ts (ps, d) b n f i j
    back [] false b n f j s = elim s [ ]
    back [] true b n f j s = s
    back (x ∷ xs) false b n f j s = s
    back (x ∷ xs) true b n f j s = s

params_at : (ts : List Token) (i : ℕ) (xs : List (List ℕ)) (m : ℕ) → Params_so_far ts i xs m →
    Left Parameters ts (params_lang ts) params_goes i (Either (Word Dots (Done (names_front xs ([], true)))) (Named Name (λ x. Either (Done (names_front xs (with_name x ([], false)))) (Word Comma (Here Parameters (some_kind ts) (λ p. Done (names_front xs (with_name x p)))))))) m 0
params_at ts i xs m l = inline l (some_starts ts m) (λ p. follows_done ts params_goes params_goes (names_front xs p) (λ x e. e))

-- The exits of the loop.
pub params_dots : (ts : List Token) (a i : ℕ) (xs : List (List ℕ)) (m : ℕ) → Params_so_far ts i xs m → class_at ts m ≡ Dots → m + 1 < length ts → ReadsTree Parameters ts (params_lang ts) params_goes a i (xs, true) (m + 1) 0
params_dots ts a i xs m l e inside =
    subst (λ (z : Parameters). ReadsTree Parameters ts (params_lang ts) params_goes a i z (m + 1) 0) (names_front_is xs true)
    (all_read (word_step {r = Done (names_front xs ([], true))} (first_way (params_at ts i xs m l)
    (named_closed ts params_goes m Name (λ x. Either (Done (names_front xs (with_name x ([], false)))) (Word Comma (Here Parameters (some_kind ts) (λ p. Done (names_front xs (with_name x p)))))) (λ y. no_name y))) e) inside (omega arith))
  where
    no_name : class_at ts m ≡ Name → ⊥
    no_name y = let q : Name ≡ Dots = sym y ∙ e in cc

params_named : (ts : List Token) (i : ℕ) (xs : List (List ℕ)) (m : ℕ) → Params_so_far ts i xs m → class_at ts m ≡ Name →
    Left Parameters ts (params_lang ts) params_goes i (Either (Done (names_front xs (with_name (bytes_of (tok_at ts m)) ([], false)))) (Word Comma (Here Parameters (some_kind ts) (λ p. Done (names_front xs (with_name (bytes_of (tok_at ts m)) p)))))) (m + 1) 0
params_named ts i xs m l e =
    named_step {r = λ x. Either (Done (names_front xs (with_name x ([], false)))) (Word Comma (Here Parameters (some_kind ts) (λ p. Done (names_front xs (with_name x p)))))}
    (second_way (params_at ts i xs m l) (word_closed ts params_goes m Dots (Done (names_front xs ([], true))) (λ y. no_dots y))) e
  where
    no_dots : class_at ts m ≡ Dots → ⊥
    no_dots y = let q : Dots ≡ Name = sym y ∙ e in cc

pub params_last : (ts : List Token) (a i : ℕ) (xs ys : List (List ℕ)) (m : ℕ) (x : List ℕ) → Params_so_far ts i xs m → class_at ts m ≡ Name → m + 1 < length ts → class_at ts (m + 1) ≢ Comma → x ≡ bytes_of (tok_at ts m) → ys ≡ xs ++ x ∷ [] →
    ReadsTree Parameters ts (params_lang ts) params_goes a i (ys, false) (m + 1) 0
params_last ts a i xs ys m x l e inside ne xe ye =
    subst (λ (z : Parameters). ReadsTree Parameters ts (params_lang ts) params_goes a i z (m + 1) 0) same
    (all_read (first_way (params_named ts i xs m l e) (word_closed ts params_goes (m + 1) Comma (Here Parameters (some_kind ts) (λ p. Done (names_front xs (with_name (bytes_of (tok_at ts m)) p)))) ne)) inside (omega arith))
  where
    same : names_front xs (with_name (bytes_of (tok_at ts m)) ([], false)) ≡ (ys, false)
    same = ap (λ (z : List ℕ). names_front xs (with_name z ([], false))) (sym xe) ∙ sym (names_front_snoc xs x ([], false)) ∙ names_front_is (xs ++ x ∷ []) false ∙ ap (λ (z : List (List ℕ)). (z, false)) (sym ye)

pub params_more : (ts : List Token) (i : ℕ) (xs ys : List (List ℕ)) (m : ℕ) (x : List ℕ) → Params_so_far ts i xs m → class_at ts m ≡ Name → class_at ts (m + 1) ≡ Comma → x ≡ bytes_of (tok_at ts m) → ys ≡ xs ++ x ∷ [] → Params_so_far ts i ys (m + 2)
params_more ts i xs ys m x l e c xe ye = record {
  ordered = r.ordered;
  down = λ s b n f j lt d st. let y = r.down s b n f j lt d st in ((y.0.0, y.0.1, y.0.2, (y.0.3.0 ∙ same y.0.0, y.0.3.1)), y.1);
  up = λ s b n f j fits d. r.up s b n f j fits (d.0, d.1, d.2, (d.3.0 ∙ sym (same d.0), d.3.1));
}
  where
    comma_goes : params_goes (class_at ts (m + 1)) ≡ true
    comma_goes = let P : TokenClass → Type 0 = λ z. params_goes z ≡ true in subst P (sym c) refl

    two : m + 1 + 1 ≡ m + 2
    two = omega arith

    r : Left Parameters ts (params_lang ts) params_goes i (Here Parameters (some_kind ts) (λ p. Done (names_front xs (with_name (bytes_of (tok_at ts m)) p)))) (m + 2) 0
    r = subst (λ (z : ℕ). Left Parameters ts (params_lang ts) params_goes i (Here Parameters (some_kind ts) (λ p. Done (names_front xs (with_name (bytes_of (tok_at ts m)) p)))) z 0) two
        (word_step {r = Here Parameters (some_kind ts) (λ p. Done (names_front xs (with_name (bytes_of (tok_at ts m)) p)))}
        (second_way (params_named ts i xs m l e) (done_closed ts params_goes (m + 1) (names_front xs (with_name (bytes_of (tok_at ts m)) ([], false))) comma_goes)) c)

    same : (p : Parameters) → names_front xs (with_name (bytes_of (tok_at ts m)) p) ≡ names_front ys p
    same p = ap (λ (z : List ℕ). names_front xs (with_name z p)) (sym xe) ∙ sym (names_front_snoc xs x p) ∙ ap (λ (z : List (List ℕ)). names_front z p) (sym ye)

pub params_unexpected : (ts : List Token) (a i : ℕ) (xs : List (List ℕ)) (m : ℕ) → Params_so_far ts i xs m → m < length ts → class_at ts m ≢ Dots → class_at ts m ≢ Name → ReadsFault Parameters ts (params_lang ts) params_goes a i 5 m
params_unexpected ts a i xs m l inside n1 n2 =
    word_fails {r = Done (names_front xs ([], true))} (first_way (params_at ts i xs m l)
    (named_closed ts params_goes m Name (λ x. Either (Done (names_front xs (with_name x ([], false)))) (Word Comma (Here Parameters (some_kind ts) (λ p. Done (names_front xs (with_name x p)))))) n2)) (omega arith) inside n1

abbrev both : List (List ℕ) → Bool → Parameters
both ps d = (ps, d)

-- ---- the body

abbrev pub body_tree : Bool → Parameters → Block → Fun
body_tree false p b = Lambda p.0 p.1 b
body_tree true p b = Lambda (codes "self" ∷ p.0) p.1 b

abbrev pub body_rest : Bool → List Token → Context → Rest Fun
body_rest m ts w = Word LeftParen (Here Parameters (params_kind ts) (λ p. Word RightParen (Here Block (block_kind ts (in_function p.1 w)) (λ b. Word End (Done (body_tree m p b))))))

pub body_starts : (m : Bool) (ts : List Token) (w : Context) (i : ℕ) → Left Fun ts (body_lang m ts w) nothing i (body_rest m ts w) i 0
unfolding SpellsFun
body_starts false ts w i = record {
  ordered = le_refl i;
  down = λ x b n f j lt s st. (go x b n f j s, λ u. omega arith);
  up = λ x b n f j fits r. subst (λ (z : Fun). SpellsFun (given_tokens ts n f) (record { above = b; inside_loop = w.inside_loop; vararg = w.vararg }) z i j) (sym r.2.3.2.3.2.0)
      (r.0, r.1, (r.2.1, r.2.2, (r.2.3.0, r.2.3.1, (r.2.3.2.1, r.2.3.2.2, subst (λ (z : ℕ). word (given_tokens ts n f) End r.2.3.2.1 z) r.2.3.2.3.2.1 r.2.3.2.3.1))));
}
  where
    go : (x : Fun) (b n f j : ℕ) → body_lang false ts w x b n f i j → Reads ts (body_rest false ts w) x b n f i j
    go (Lambda ps d k) b n f j s = (s.0, s.1, ((ps, d), s.2.0, s.2.1, (s.2.2.0, s.2.2.1, (k, s.2.2.2.0, s.2.2.2.1, (j, s.2.2.2.2, (refl, refl))))))
body_starts true ts w i = record {
  ordered = le_refl i;
  down = λ x b n f j lt s st. (go x b n f j s, λ u. omega arith);
  up = λ x b n f j fits r. subst (λ (z : Fun). SpellsMethod (given_tokens ts n f) (record { above = b; inside_loop = w.inside_loop; vararg = w.vararg }) z i j) (sym r.2.3.2.3.2.0)
      (i, (refl, refl), (r.0, r.1, (r.2.1, r.2.2, (r.2.3.0, r.2.3.1, (r.2.3.2.1, r.2.3.2.2, subst (λ (z : ℕ). word (given_tokens ts n f) End r.2.3.2.1 z) r.2.3.2.3.2.1 r.2.3.2.3.1)))));
}
  where
    go : (x : Fun) (b n f j : ℕ) → body_lang true ts w x b n f i j → Reads ts (body_rest true ts w) x b n f i j
    go (Lambda [] d k) b n f j s = elim s [ ]
    go (Lambda (p ∷ ps) d k) b n f j s = (
      s.2.0,
      subst (λ (z : ℕ). word (given_tokens ts n f) LeftParen z s.2.0) (sym s.1.1) s.2.1,
      ((ps, d), s.2.2.0, s.2.2.1, (s.2.2.2.0, s.2.2.2.1, (k, s.2.2.2.2.0, s.2.2.2.2.1, (j, s.2.2.2.2.2, (ap (λ (z : List ℕ). Lambda (z ∷ ps) d k) s.1.0, refl))))),
    )

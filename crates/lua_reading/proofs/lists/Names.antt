-- Names behind one another, and loops over pieces.
use Rattle.std.proofs.Common.{◌≡◌, ◌≢◌, ℕ, suc, [], ◌∷◌, ◌++◌, ◌-◌, ◌+◌, ◌<◌, ◌≤◌, Bool, false, List, length, refl, sym, ap, subst, ◌∙◌, inl, inr, arith, le_refl, append_assoc, append-nil}
use Rattle.lua_lexer.specs.declared.token.Token.{Token}
use Rattle.lua_grammar.specs.declared.TokenClass.{TokenClass}
use Rattle.lua_grammar.specs.declared.TokenClass.TheVariants.{Name, Comma, Do, End}
use Rattle.lua_grammar.specs.declared.Context.{Context}
use Rattle.lua_syntax.specs.Tree.{Block, NoStat}
use Rattle.lua_grammar.specs.Tokens.{class_at, tok_at, bytes_of}
use Rattle.lua_grammar.specs.Grammar.{given_tokens, MoreNames, SpellsBlock}
use Rattle.lua_reading.specs.Parsing.{Lang, Stops, ReadsTree, ReadsFault, names_goes, HasOneEnd, nothing}
use Rattle.lua_reading.specs.StatAnswers.{more_names_lang, do_lang}
use Rattle.lua_reading.proofs.pieces.Steps.{Rest, Done, Word, Named, Here, Under, Either, Reads, Left, Kind, CanOpen, word_step, named_step, named_fails, first_way, second_way, word_closed, done_closed, all_read, Follows}
use Rattle.lua_reading.proofs.pieces.Kinds.{block_kind}
use Rattle.lua_reading.proofs.statements.Begins.{behind_word}

-- ---- loops

-- What is left, said in another way.
pub same_rest : {S : Type 0} {ts : List Token} {L : S → Lang} {goes : TokenClass → Bool} {i m h : ℕ} {r : Rest S} (q : Rest S) → Left S ts L goes i r m h →
    ((s : S) (b n f j : ℕ) → m < n → Stops ts goes n j → Reads ts r s b n f m j → Reads ts q s b n f m j) →
    ((s : S) (b n f j : ℕ) → Reads ts q s b n f m j → Reads ts r s b n f m j) → Left S ts L goes i q m h
same_rest {S} {ts} {L} {goes} {i} {m} {h} {r} q l down up = record {
  ordered = l.ordered;
  down = λ s b n f j lt x st. let d = l.down s b n f j lt x st in (down s b n f j lt st d.0, d.1);
  up = λ s b n f j fits x. l.up s b n f j fits (up s b n f j x);
}

-- Nothing has been read yet.
pub start : {X : Type 0} (ts : List Token) (K : Kind X) (goes : TokenClass → Bool) (i : ℕ) → Left X ts K.lang goes i (Here X K (λ x. Done x)) i 0
start {X} ts K goes i = record {
  ordered = le_refl i;
  down = λ s b n f j lt l st. ((s, j, l, (refl, refl)), λ e. none b);
  up = λ s b n f j fits x. subst (λ (y : X). K.lang y b n f i j) (sym x.3.0) (subst (λ (y : ℕ). K.lang x.0 b n f i y) x.3.1 x.2);
}
  where
    none : (b : ℕ) → 0 ≤ 201 - b
    none b = omega arith

-- the place by another name
pub at_place : {S : Type 0} {ts : List Token} {L : S → Lang} {goes : TokenClass → Bool} {i m h : ℕ} {r : Rest S} (q : ℕ) → m ≡ q → Left S ts L goes i r m h → Left S ts L goes i r q h
at_place {S} {ts} {L} {goes} {i} {m} {h} {r} q e l = subst (λ (y : ℕ). Left S ts L goes i r y h) e l

-- ---- names

pub more_names_opens : (ts : List Token) → CanOpen (List (List ℕ)) (more_names_lang ts)
more_names_opens ts b n f m le = ([], m, le, refl)

abbrev pub more_names_kind : List Token → Kind (List (List ℕ))
more_names_kind ts = record { lang = more_names_lang ts; goes = names_goes; open' = more_names_opens ts }

abbrev pub NamesLeft : List Token → ℕ → List (List ℕ) → ℕ → Type 0
NamesLeft ts i ms m = Left (List (List ℕ)) ts (more_names_lang ts) names_goes i (Here (List (List ℕ)) (more_names_kind ts) (λ x. Done (ms ++ x))) m 0

abbrev pub one_more : List Token → List (List ℕ) → Rest (List (List ℕ))
one_more ts ms = Either (Done ms) (Word Comma (Named Name (λ x. Here (List (List ℕ)) (more_names_kind ts) (λ xs. Done ((ms ++ x ∷ []) ++ xs)))))

pub names_split : {ts : List Token} {i : ℕ} {ms : List (List ℕ)} {m : ℕ} → NamesLeft ts i ms m → Left (List (List ℕ)) ts (more_names_lang ts) names_goes i (one_more ts ms) m 0
names_split {ts} {i} {ms} {m} l = same_rest (one_more ts ms) l (λ s b n f j lt st x. down x.0 s b n f j x.1 x.2 x.3) up
  where
    down : (xs s : List (List ℕ)) (b n f j p : ℕ) → MoreNames (given_tokens ts n f) xs m p → (s ≡ ms ++ xs) × (p ≡ j) → Reads ts (one_more ts ms) s b n f m j
    down [] s b n f j p x e = inl (e.0 ∙ append-nil ms, x ∙ e.1)
    down (y ∷ ys) s b n f j p x e = inr (x.0, x.1, (y, x.2.0, x.2.1, (ys, p, x.2.2, (e.0 ∙ sym (append_assoc ms (y ∷ []) ys), e.1))))

    up : (s : List (List ℕ)) (b n f j : ℕ) → Reads ts (one_more ts ms) s b n f m j → Reads ts (Here (List (List ℕ)) (more_names_kind ts) (λ x. Done (ms ++ x))) s b n f m j
    up s b n f j (inl x) = ([], m, refl, (x.0 ∙ sym (append-nil ms), x.1))
    up s b n f j (inr x) =
        let y = x.2 in
        let z = y.3 in
        (y.0 ∷ z.0, z.1, (x.0, x.1, (y.1, y.2, z.2)), (z.3.0 ∙ append_assoc ms (y.0 ∷ []) z.0, z.3.1))

-- One more name.
pub names_more : (ts : List Token) (i : ℕ) (ms : List (List ℕ)) (m : ℕ) → NamesLeft ts i ms m → class_at ts m ≡ Comma → class_at ts (m + 1) ≡ Name → NamesLeft ts i (ms ++ bytes_of (tok_at ts (m + 1)) ∷ []) (m + 2)
names_more ts i ms m l comma name =
    at_place (m + 2) (omega arith) (named_step {r = λ x. Here (List (List ℕ)) (more_names_kind ts) (λ xs. Done ((ms ++ x ∷ []) ++ xs))} (word_step (second_way (names_split l) (done_closed ts names_goes m ms (ap names_goes comma))) comma) name)

pub names_done : (ts : List Token) (i : ℕ) (ms : List (List ℕ)) (m : ℕ) → NamesLeft ts i ms m → m < length ts → class_at ts m ≢ Comma → ReadsTree (List (List ℕ)) ts (more_names_lang ts) names_goes 0 i ms m 0
names_done ts i ms m l inside ne = all_read (first_way (names_split l) (word_closed ts names_goes m Comma (Named Name (λ x. Here (List (List ℕ)) (more_names_kind ts) (λ xs. Done ((ms ++ x ∷ []) ++ xs)))) ne)) inside (omega arith)

pub names_fail : (ts : List Token) (i : ℕ) (ms : List (List ℕ)) (m : ℕ) → HasOneEnd ts → NamesLeft ts i ms m → m < length ts → class_at ts m ≡ Comma → class_at ts (m + 1) ≢ Name → ReadsFault (List (List ℕ)) ts (more_names_lang ts) names_goes 0 i 5 (m + 1)
names_fail ts i ms m ended l inside comma ne =
    named_fails {r = λ x. Here (List (List ℕ)) (more_names_kind ts) (λ xs. Done ((ms ++ x ∷ []) ++ xs))} (word_step (second_way (names_split l) (done_closed ts names_goes m ms (ap names_goes comma))) comma) (omega arith) (behind_word ts m Comma ended inside comma refl) ne

pub names_broken : {ts : List Token} {i k p : ℕ} (a : ℕ) → ReadsFault (List (List ℕ)) ts (more_names_lang ts) names_goes 0 i k p → ReadsFault (List (List ℕ)) ts (more_names_lang ts) names_goes a i k p
names_broken {ts} {i} {k} {p} a s = record { inside = s.inside; ordered = s.ordered; number = s.number; reach = s.reach; dead = λ x b n j le lt l st. s.dead x b n j (omega arith) lt l st }

-- ---- do block end

pub do_opens : (ts : List Token) (w : Context) → CanOpen Block (do_lang ts w)
unfolding SpellsBlock
do_opens ts w b n f m le = (NoStat, suc (suc m), omega (arith, le), (suc m, ((λ lt. absurd (omega (arith, le, lt))), refl), (suc m, refl, ((λ lt. absurd (omega (arith, le, lt))), refl))))

abbrev pub do_kind : List Token → Context → Kind Block
do_kind ts w = record { lang = do_lang ts w; goes = nothing; open' = do_opens ts w }

-- Before a `do` all ends well for which `do` doesn't go on.
pub follows_do : {S : Type 0} (ts : List Token) (goes stop : TokenClass → Bool) (w : Context) (r : Block → Rest S) → stop Do ≡ false → Follows ts goes stop (Under Block (do_kind ts w) r)
unfolding Follows
follows_do {S} ts goes stop w r e t b n f m j x st lt = let P : TokenClass → Type 0 = λ s. stop s ≡ false in subst P (sym (x.2.1.0 lt)) e

abbrev pub do_rest : List Token → Context → Rest Block
do_rest ts w = Word Do (Here Block (block_kind ts w) (λ k. Word End (Done k)))

pub do_left : (ts : List Token) (w : Context) (i : ℕ) → Left Block ts (do_lang ts w) nothing i (do_rest ts w) i 0
do_left ts w i = same_rest (do_rest ts w) (start ts (do_kind ts w) nothing i)
    (λ s b n f j lt st x. let d = x.2 in (d.0, d.1, (x.0, d.2.0, d.2.1, (x.1, d.2.2, x.3))))
    (λ s b n f j x. let k = x.2 in let e = k.3 in (k.0, e.0, (x.0, x.1, (k.1, k.2, e.1)), e.2))

-- The names that have been read, and what is left.
abbrev pub NamesRead : List Token → ℕ → List (List ℕ) → ℕ → Type 0
NamesRead ts i tree m = (ms : List (List ℕ)) × (tree ≡ bytes_of (tok_at ts i) ∷ ms) × NamesLeft ts (i + 1) ms m × (m < length ts)

pub names_first : (ts : List Token) (i : ℕ) (x : List ℕ) (old new : List (List ℕ)) → HasOneEnd ts → i < length ts → class_at ts i ≡ Name → x ≡ bytes_of (tok_at ts i) → old ≡ [] → new ≡ old ++ x ∷ [] → NamesRead ts i new (i + 1)
names_first ts i x old new ended inside here same empty e = ([], e ∙ ap (λ (y : List (List ℕ)). y ++ x ∷ []) empty ∙ ap (λ (y : List ℕ). y ∷ []) same, start ts (more_names_kind ts) names_goes (i + 1), behind_word ts i Name ended inside here refl)

pub names_next : (ts : List Token) (i : ℕ) (tree : List (List ℕ)) (m : ℕ) (x : List ℕ) (new : List (List ℕ)) → HasOneEnd ts → NamesRead ts i tree m → class_at ts m ≡ Comma → class_at ts (m + 1) ≡ Name → x ≡ bytes_of (tok_at ts (m + 1)) → new ≡ tree ++ x ∷ [] → NamesRead ts i new (m + 2)
names_next ts i tree m x new ended r comma name same e =
    (r.0 ++ bytes_of (tok_at ts (m + 1)) ∷ [], e ∙ ap (λ (y : List ℕ). tree ++ y ∷ []) same ∙ ap (λ (y : List (List ℕ)). y ++ bytes_of (tok_at ts (m + 1)) ∷ []) r.1, names_more ts (i + 1) r.0 m r.2 comma name, inside)
  where
    inside : m + 2 < length ts
    inside = let a = behind_word ts (m + 1) Name ended (behind_word ts m Comma ended r.3 comma refl) name refl in omega (arith, a)

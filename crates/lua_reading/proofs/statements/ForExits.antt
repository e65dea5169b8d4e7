-- The exits of `for`, and of `do` block `end`.
use Rattle.std.proofs.Common.{◌≡◌, ◌≢◌, ℕ, suc, [], ◌∷◌, ◌-◌, ◌+◌, ◌<◌, ◌≤◌, max, Bool, List, length, refl, sym, ap, subst, ◌∙◌, arith}
use Rattle.lua_lexer.specs.declared.token.Token.{Token}
use Rattle.lua_grammar.specs.declared.TokenClass.{TokenClass}
use Rattle.lua_grammar.specs.declared.TokenClass.TheVariants.{Name, Do, End, For, In, Assign, Comma}
use Rattle.lua_grammar.specs.declared.Context.{Context}
use Rattle.lua_grammar.specs.Tokens.{class_at, tok_at, bytes_of}
use Rattle.lua_syntax.specs.Tree.{Exp, Exps, Block, Stat, CountS, CountByS, EachS}
use Rattle.lua_grammar.specs.Grammar.{given_tokens, under, in_loop, MoreNames}
use Rattle.lua_reading.specs.declared.answer.Fault.{Fault}
use Rattle.lua_reading.specs.Parsing.{ReadsTree, ReadsFault, HasOneEnd, stat_lang, block_lang, exp_lang, all_lang, goes_on, exps_goes, names_goes, block_goes, ReadsExp, nothing}
use Rattle.lua_reading.specs.Answers.{IfFault, ReadsNonEmpty}
use Rattle.lua_reading.specs.StatAnswers.{more_names_lang, do_lang}
use Rattle.lua_reading.proofs.pieces.Steps.{Rest, Done, Word, Here, Under, Reads, Left, Follows, Closed, word_step, word_fails, named_step, named_fails, here_step, under_step, first_way, second_way, word_closed, follows_word, follows_either, follows_nothing}
use Rattle.lua_reading.proofs.pieces.Kinds.{exp_kind, all_kind, block_kind}
use Rattle.lua_reading.proofs.statements.Begins.{behind_word}
use Rattle.lua_reading.proofs.statements.PlainExits.{whole, under_fault}
use Rattle.lua_reading.proofs.lists.Names.{at_place, more_names_kind, do_kind, follows_do, do_left}
use Rattle.lua_reading.proofs.statements.Forms.{loop_rest, last_rest, to_rest, each_rest, behind_name, for_starts}
use Rattle.lua_reading.proofs.statements.FormExits.{here_fault, names_failed}

-- ---- do block end

abbrev pub ended_block : Block → Rest Block
ended_block k = Word End (Done k)

pub loop_start : (ts : List Token) (w : Context) (i : ℕ) → class_at ts i ≡ Do → Left Block ts (do_lang ts w) nothing i (Here Block (block_kind ts w) ended_block) (i + 1) 0
loop_start ts w i here = word_step (do_left ts w i) here

pub loop_no_do : (ts : List Token) (w : Context) (i : ℕ) → i < length ts → class_at ts i ≢ Do → ReadsFault Block ts (do_lang ts w) nothing w.above i 5 i
loop_no_do ts w i inside ne = word_fails (do_left ts w i) (omega arith) inside ne

pub loop_fault : (ts : List Token) (w : Context) (i : ℕ) (f : Fault) → class_at ts i ≡ Do → IfFault (ReadsFault Block ts (block_lang ts w) block_goes w.above (i + 1)) f → IfFault (ReadsFault Block ts (do_lang ts w) nothing w.above i) f
loop_fault ts w i f here x = here_fault {K = block_kind ts w} {r = ended_block} w.above (loop_start ts w i here) (omega arith) f x (λ k. follows_word ts nothing block_goes End (Done k) refl)

pub loop_read : (ts : List Token) (w : Context) (i : ℕ) {q h : ℕ} {k : Block} → class_at ts i ≡ Do → ReadsTree Block ts (block_lang ts w) block_goes w.above (i + 1) k q h → Left Block ts (do_lang ts w) nothing i (ended_block k) q (max 0 h)
loop_read ts w i {q} {h} {k} here s = here_step {K = block_kind ts w} {r = ended_block} (loop_start ts w i here) s (λ k. follows_word ts nothing block_goes End (Done k) refl)

pub loop_no_end : (ts : List Token) (w : Context) (i : ℕ) {q h : ℕ} {k : Block} → class_at ts i ≡ Do → ReadsTree Block ts (block_lang ts w) block_goes w.above (i + 1) k q h → class_at ts q ≢ End → ReadsFault Block ts (do_lang ts w) nothing w.above i 5 q
loop_no_end ts w i {q} {h} {k} here s ne = word_fails (loop_read ts w i here s) (omega (arith, s.height)) s.inside ne

pub loop_stands : (ts : List Token) (w : Context) (i : ℕ) {q h : ℕ} {k : Block} → HasOneEnd ts → class_at ts i ≡ Do → ReadsTree Block ts (block_lang ts w) block_goes w.above (i + 1) k q h → class_at ts q ≡ End → ReadsNonEmpty Block ts (do_lang ts w) nothing w.above i k (q + 1) h
loop_stands ts w i {q} {h} {k} ended here s last =
    whole w.above h (word_step (loop_read ts w i here s) last) (behind_word ts q End ended s.inside last refl) (omega (arith, s.ordered)) (omega arith) (omega (arith, s.height))

-- ---- for

pub for_unnamed : (ts : List Token) (w : Context) (goes : TokenClass → Bool) (i : ℕ) → HasOneEnd ts → i < length ts → w.above ≤ 200 → class_at ts i ≡ For → class_at ts (i + 1) ≢ Name → ReadsFault Stat ts (stat_lang ts w) goes w.above i 5 (i + 1)
for_unnamed ts w goes i ended inside room here ne = named_fails (for_starts ts w goes i here) (omega (arith, room)) (behind_word ts i For ended inside here refl) ne

abbrev pub first_name : List Token → ℕ → List ℕ
first_name ts i = bytes_of (tok_at ts (i + 1))

pub for_name : (ts : List Token) (w : Context) (goes : TokenClass → Bool) (i : ℕ) → class_at ts i ≡ For → class_at ts (i + 1) ≡ Name → Left Stat ts (stat_lang ts w) goes i (behind_name ts w (tok_at ts i).line (first_name ts i)) (i + 1 + 1) 1
for_name ts w goes i here name = named_step {r = behind_name ts w (tok_at ts i).line} (for_starts ts w goes i here) name

-- No more names where a `=` is.
pub each_closed : (ts : List Token) (w : Context) (goes : TokenClass → Bool) (line m : ℕ) (x : List ℕ) → class_at ts m ≡ Assign → Closed ts goes m (Here (List (List ℕ)) (more_names_kind ts) (λ xs. each_rest ts w line (x ∷ xs)))
each_closed ts w goes line m x here s b n f j lt y st = go y.0 y.2 y.3
  where
    go : (xs : List (List ℕ)) {p : ℕ} → MoreNames (given_tokens ts n f) xs m p → Reads ts (each_rest ts w line (x ∷ xs)) s b n f p j → ⊥
    go [] {p} e r =
        let at : class_at ts m ≡ In = ap (λ (v : ℕ). class_at ts v) e ∙ r.1.0 (subst (λ (v : ℕ). v < n) e lt) in
        let no' : Assign ≡ In = sym here ∙ at in
        absurd (cc)
    go (z ∷ zs) {p} d r = let no' : Assign ≡ Comma = sym here ∙ d.1.0 lt in absurd (cc)

pub count_start : (ts : List Token) (w : Context) (goes : TokenClass → Bool) (i : ℕ) → class_at ts i ≡ For → class_at ts (i + 1) ≡ Name → class_at ts (i + 2) ≡ Assign →
    Left Stat ts (stat_lang ts w) goes i (Under Exp (exp_kind ts w 1) (to_rest ts w (tok_at ts i).line (first_name ts i))) (i + 3) 1
count_start ts w goes i here name assign =
    at_place (i + 3) (omega arith) (word_step (first_way (at_place (i + 2) (omega arith) (for_name ts w goes i here name)) (each_closed ts w goes (tok_at ts i).line (i + 2) (first_name ts i) assign)) assign)

pub count_from_fault : (ts : List Token) (w : Context) (goes : TokenClass → Bool) (i : ℕ) (f : Fault) → w.above ≤ 200 → class_at ts i ≡ For → class_at ts (i + 1) ≡ Name → class_at ts (i + 2) ≡ Assign →
    IfFault (ReadsFault Exp ts (exp_lang ts (under w) 1) (goes_on 1) (suc w.above) (i + 3)) f → IfFault (ReadsFault Stat ts (stat_lang ts w) goes w.above i) f
count_from_fault ts w goes i f room here name assign x =
    under_fault {K = exp_kind ts w 1} {r = to_rest ts w (tok_at ts i).line (first_name ts i)} w.above (count_start ts w goes i here name assign) (omega (arith, room)) f x (λ y. follows_word ts goes (goes_on 1) Comma _ refl)

pub count_from : (ts : List Token) (w : Context) (goes : TokenClass → Bool) (i : ℕ) {q h : ℕ} {x : Exp} → class_at ts i ≡ For → class_at ts (i + 1) ≡ Name → class_at ts (i + 2) ≡ Assign →
    ReadsExp ts (under w) 1 (i + 3) x q h → Left Stat ts (stat_lang ts w) goes i (to_rest ts w (tok_at ts i).line (first_name ts i) x) q (max 1 (1 + h))
count_from ts w goes i {q} {h} {x} here name assign s =
    under_step {K = exp_kind ts w 1} {r = to_rest ts w (tok_at ts i).line (first_name ts i)} (count_start ts w goes i here name assign) (omega arith) s.reading (λ y. follows_word ts goes (goes_on 1) Comma _ refl)

pub count_no_comma : (ts : List Token) (w : Context) (goes : TokenClass → Bool) (i : ℕ) {q h : ℕ} {x : Exp} → w.above ≤ 200 → class_at ts i ≡ For → class_at ts (i + 1) ≡ Name → class_at ts (i + 2) ≡ Assign →
    ReadsExp ts (under w) 1 (i + 3) x q h → class_at ts q ≢ Comma → ReadsFault Stat ts (stat_lang ts w) goes w.above i 5 q
count_no_comma ts w goes i {q} {h} {x} room here name assign s ne = word_fails (count_from ts w goes i here name assign s) (omega (arith, room, s.reading.height)) s.reading.inside ne

pub follows_last : (ts : List Token) (w : Context) (goes : TokenClass → Bool) (line : ℕ) (n : List ℕ) (x y : Exp) → Follows ts goes (goes_on 1) (last_rest ts w line n x y)
follows_last ts w goes line n x y = follows_either ts goes (goes_on 1) _ _ (follows_do ts goes (goes_on 1) (in_loop w) (λ k. Done (CountS line n x y k)) refl) (follows_word ts goes (goes_on 1) Comma _ refl)

-- What has been read of `for` name = from, to.
pub record CountRead (ts : List Token) (w : Context) (goes : TokenClass → Bool) (i : ℕ) (x y : Exp) (p h g : ℕ) : Type 0 where
  pub left : Left Stat ts (stat_lang ts w) goes i (last_rest ts w (tok_at ts i).line (first_name ts i) x y) p (max (max 1 (1 + h)) (1 + g))
  pub inside : p < length ts
  pub grows : i < p
  pub room : w.above ≤ 200
  pub fits : (h ≤ 201 - suc w.above) × (g ≤ 201 - suc w.above)

pub count_to_fault : (ts : List Token) (w : Context) (goes : TokenClass → Bool) (i : ℕ) (f : Fault) {q h : ℕ} {x : Exp} → w.above ≤ 200 → class_at ts i ≡ For → class_at ts (i + 1) ≡ Name → class_at ts (i + 2) ≡ Assign →
    ReadsExp ts (under w) 1 (i + 3) x q h → class_at ts q ≡ Comma → IfFault (ReadsFault Exp ts (exp_lang ts (under w) 1) (goes_on 1) (suc w.above) (q + 1)) f → IfFault (ReadsFault Stat ts (stat_lang ts w) goes w.above i) f
count_to_fault ts w goes i f {q} {h} {x} room here name assign s c t =
    under_fault {K = exp_kind ts w 1} {r = last_rest ts w (tok_at ts i).line (first_name ts i) x} w.above (word_step (count_from ts w goes i here name assign s) c) (omega (arith, room, s.reading.height)) f t (follows_last ts w goes (tok_at ts i).line (first_name ts i) x)

pub count_to : (ts : List Token) (w : Context) (goes : TokenClass → Bool) (i : ℕ) {q h p g : ℕ} {x y : Exp} → w.above ≤ 200 → class_at ts i ≡ For → class_at ts (i + 1) ≡ Name → class_at ts (i + 2) ≡ Assign →
    ReadsExp ts (under w) 1 (i + 3) x q h → class_at ts q ≡ Comma → ReadsExp ts (under w) 1 (q + 1) y p g → CountRead ts w goes i x y p h g
count_to ts w goes i {q} {h} {p} {g} {x} {y} room here name assign s c t = record {
  left = under_step {K = exp_kind ts w 1} {r = last_rest ts w (tok_at ts i).line (first_name ts i) x} (word_step (count_from ts w goes i here name assign s) c) (omega arith) t.reading (follows_last ts w goes (tok_at ts i).line (first_name ts i) x);
  inside = t.reading.inside;
  grows = omega (arith, s.grows, t.grows);
  room = room;
  fits = (s.reading.height, t.reading.height);
}

pub count_plain : {ts : List Token} {w : Context} {goes : TokenClass → Bool} {i p h g : ℕ} {x y : Exp} → CountRead ts w goes i x y p h g → class_at ts p ≢ Comma →
    Left Stat ts (stat_lang ts w) goes i (loop_rest ts w (CountS (tok_at ts i).line (first_name ts i) x y)) p (max (max 1 (1 + h)) (1 + g))
count_plain {ts} {w} {goes} {i} {p} {h} {g} {x} {y} c ne =
    first_way c.left (word_closed ts goes p Comma (Under Exp (exp_kind ts w 1) (λ by. loop_rest ts w (CountByS (tok_at ts i).line (first_name ts i) x y by))) ne)

pub count_body_fault : {ts : List Token} {w : Context} {goes : TokenClass → Bool} {i p h g : ℕ} {x y : Exp} (f : Fault) → CountRead ts w goes i x y p h g → class_at ts p ≢ Comma →
    IfFault (ReadsFault Block ts (do_lang ts (in_loop w)) nothing (suc w.above) p) f → IfFault (ReadsFault Stat ts (stat_lang ts w) goes w.above i) f
count_body_fault {ts} {w} {goes} {i} {p} {h} {g} {x} {y} f c ne t =
    under_fault {K = do_kind ts (in_loop w)} {r = λ k. Done (CountS (tok_at ts i).line (first_name ts i) x y k)} w.above (count_plain c ne) (omega (arith, c.room, c.fits.0, c.fits.1)) f t (λ k. follows_nothing ts goes _)

pub count_stands : {ts : List Token} {w : Context} {goes : TokenClass → Bool} {i p h g q d : ℕ} {x y : Exp} {k : Block} → CountRead ts w goes i x y p h g → class_at ts p ≢ Comma →
    ReadsNonEmpty Block ts (do_lang ts (in_loop w)) nothing (suc w.above) p k q d → ReadsNonEmpty Stat ts (stat_lang ts w) goes w.above i (CountS (tok_at ts i).line (first_name ts i) x y k) q (1 + max (max h g) d)
count_stands {ts} {w} {goes} {i} {p} {h} {g} {q} {d} {x} {y} {k} c ne t =
    whole w.above (1 + max (max h g) d) (under_step {K = do_kind ts (in_loop w)} {r = λ k. Done (CountS (tok_at ts i).line (first_name ts i) x y k)} (count_plain c ne) (omega arith) t.reading (λ k. follows_nothing ts goes _))
    t.reading.inside (omega (arith, c.grows, t.grows)) (omega arith) (omega (arith, c.room, c.fits.0, c.fits.1, t.reading.height))

pub count_comma : {ts : List Token} {w : Context} {goes : TokenClass → Bool} {i p h g : ℕ} {x y : Exp} → CountRead ts w goes i x y p h g → class_at ts p ≡ Comma →
    Left Stat ts (stat_lang ts w) goes i (Under Exp (exp_kind ts w 1) (λ by. loop_rest ts w (CountByS (tok_at ts i).line (first_name ts i) x y by))) (p + 1) (max (max 1 (1 + h)) (1 + g))
count_comma {ts} {w} {goes} {i} {p} {h} {g} {x} {y} c e = word_step (second_way c.left closed) e
  where
    closed : Closed ts goes p (loop_rest ts w (CountS (tok_at ts i).line (first_name ts i) x y))
    closed s b n f j lt z st = let no' : Comma ≡ Do = sym e ∙ z.2.1.0 lt in absurd (cc)

pub count_by_fault : {ts : List Token} {w : Context} {goes : TokenClass → Bool} {i p h g : ℕ} {x y : Exp} (f : Fault) → CountRead ts w goes i x y p h g → class_at ts p ≡ Comma →
    IfFault (ReadsFault Exp ts (exp_lang ts (under w) 1) (goes_on 1) (suc w.above) (p + 1)) f → IfFault (ReadsFault Stat ts (stat_lang ts w) goes w.above i) f
count_by_fault {ts} {w} {goes} {i} {p} {h} {g} {x} {y} f c e t =
    under_fault {K = exp_kind ts w 1} {r = λ by. loop_rest ts w (CountByS (tok_at ts i).line (first_name ts i) x y by)} w.above (count_comma c e) (omega (arith, c.room, c.fits.0, c.fits.1)) f t
    (λ z. follows_do ts goes (goes_on 1) (in_loop w) (λ k. Done (CountByS (tok_at ts i).line (first_name ts i) x y z k)) refl)

pub count_step : {ts : List Token} {w : Context} {goes : TokenClass → Bool} {i p h g q d : ℕ} {x y z : Exp} → CountRead ts w goes i x y p h g → class_at ts p ≡ Comma → ReadsExp ts (under w) 1 (p + 1) z q d →
    Left Stat ts (stat_lang ts w) goes i (loop_rest ts w (CountByS (tok_at ts i).line (first_name ts i) x y z)) q (max (max (max 1 (1 + h)) (1 + g)) (1 + d))
count_step {ts} {w} {goes} {i} {p} {h} {g} {q} {d} {x} {y} {z} c e t =
    under_step {K = exp_kind ts w 1} {r = λ by. loop_rest ts w (CountByS (tok_at ts i).line (first_name ts i) x y by)} (count_comma c e) (omega arith) t.reading
    (λ z. follows_do ts goes (goes_on 1) (in_loop w) (λ k. Done (CountByS (tok_at ts i).line (first_name ts i) x y z k)) refl)

pub step_body_fault : {ts : List Token} {w : Context} {goes : TokenClass → Bool} {i p h g q d : ℕ} {x y z : Exp} (f : Fault) → CountRead ts w goes i x y p h g → class_at ts p ≡ Comma → ReadsExp ts (under w) 1 (p + 1) z q d →
    IfFault (ReadsFault Block ts (do_lang ts (in_loop w)) nothing (suc w.above) q) f → IfFault (ReadsFault Stat ts (stat_lang ts w) goes w.above i) f
step_body_fault {ts} {w} {goes} {i} {p} {h} {g} {q} {d} {x} {y} {z} f c e t u =
    under_fault {K = do_kind ts (in_loop w)} {r = λ k. Done (CountByS (tok_at ts i).line (first_name ts i) x y z k)} w.above (count_step c e t) (omega (arith, c.room, c.fits.0, c.fits.1, t.reading.height)) f u (λ k. follows_nothing ts goes _)

pub step_stands : {ts : List Token} {w : Context} {goes : TokenClass → Bool} {i p h g q d r l : ℕ} {x y z : Exp} {k : Block} → CountRead ts w goes i x y p h g → class_at ts p ≡ Comma → ReadsExp ts (under w) 1 (p + 1) z q d →
    ReadsNonEmpty Block ts (do_lang ts (in_loop w)) nothing (suc w.above) q k r l → ReadsNonEmpty Stat ts (stat_lang ts w) goes w.above i (CountByS (tok_at ts i).line (first_name ts i) x y z k) r (1 + max (max (max h g) d) l)
step_stands {ts} {w} {goes} {i} {p} {h} {g} {q} {d} {r} {l} {x} {y} {z} {k} c e t u =
    whole w.above (1 + max (max (max h g) d) l) (under_step {K = do_kind ts (in_loop w)} {r = λ k. Done (CountByS (tok_at ts i).line (first_name ts i) x y z k)} (count_step c e t) (omega arith) u.reading (λ k. follows_nothing ts goes _))
    u.reading.inside (omega (arith, c.grows, t.grows, u.grows)) (omega arith) (omega (arith, c.room, c.fits.0, c.fits.1, t.reading.height, u.reading.height))

-- ---- for names in exps

abbrev pub each_list : List Token → Context → ℕ → List (List ℕ) → Rest Stat
each_list ts w i xs = each_rest ts w (tok_at ts i).line (first_name ts i ∷ xs)

pub each_first : (ts : List Token) (w : Context) (goes : TokenClass → Bool) (i : ℕ) → class_at ts i ≡ For → class_at ts (i + 1) ≡ Name → class_at ts (i + 2) ≢ Assign →
    Left Stat ts (stat_lang ts w) goes i (Here (List (List ℕ)) (more_names_kind ts) (each_list ts w i)) (i + 1 + 1) 1
each_first ts w goes i here name ne =
    second_way (for_name ts w goes i here name) (word_closed ts goes (i + 1 + 1) Assign (Under Exp (exp_kind ts w 1) (to_rest ts w (tok_at ts i).line (first_name ts i))) (subst (λ (y : ℕ). class_at ts y ≢ Assign) two ne))
  where
    two : i + 2 ≡ i + 1 + 1
    two = omega arith

pub each_names_fault : (ts : List Token) (w : Context) (goes : TokenClass → Bool) (i : ℕ) (f : Fault) → w.above ≤ 200 → class_at ts i ≡ For → class_at ts (i + 1) ≡ Name → class_at ts (i + 2) ≢ Assign →
    IfFault (ReadsFault (List (List ℕ)) ts (more_names_lang ts) names_goes 0 (i + 1 + 1)) f → IfFault (ReadsFault Stat ts (stat_lang ts w) goes w.above i) f
each_names_fault ts w goes i f room here name ne x =
    here_fault {K = more_names_kind ts} {r = each_list ts w i} w.above (each_first ts w goes i here name ne) (omega (arith, room)) f (names_failed ts w.above (i + 1 + 1) f x) (λ xs. follows_word ts goes names_goes In _ refl)

-- What has been read of `for` names.
pub record EachRead (ts : List Token) (w : Context) (goes : TokenClass → Bool) (i : ℕ) (xs : List (List ℕ)) (q : ℕ) : Type 0 where
  pub left : Left Stat ts (stat_lang ts w) goes i (each_rest ts w (tok_at ts i).line xs) q 1
  pub inside : q < length ts
  pub grows : i < q
  pub room : w.above ≤ 200

pub each_named : (ts : List Token) (w : Context) (goes : TokenClass → Bool) (i : ℕ) {q : ℕ} {ms xs : List (List ℕ)} → w.above ≤ 200 → class_at ts i ≡ For → class_at ts (i + 1) ≡ Name → class_at ts (i + 2) ≢ Assign →
    xs ≡ bytes_of (tok_at ts (i + 1)) ∷ ms → ReadsTree (List (List ℕ)) ts (more_names_lang ts) names_goes 0 (i + 1 + 1) ms q 0 → EachRead ts w goes i xs q
each_named ts w goes i {q} {ms} {xs} room here name ne e s = record {
  left =
      subst (λ (y : List (List ℕ)). Left Stat ts (stat_lang ts w) goes i (each_rest ts w (tok_at ts i).line y) q 1) (sym e)
      (here_step {K = more_names_kind ts} {r = each_list ts w i} (each_first ts w goes i here name ne) s (λ xs. follows_word ts goes names_goes In _ refl));
  inside = s.inside;
  grows = omega (arith, s.ordered);
  room = room;
}

pub each_no_in : {ts : List Token} {w : Context} {goes : TokenClass → Bool} {i q : ℕ} {xs : List (List ℕ)} → EachRead ts w goes i xs q → class_at ts q ≢ In → ReadsFault Stat ts (stat_lang ts w) goes w.above i 5 q
each_no_in {ts} {w} {goes} {i} {q} {xs} r ne = word_fails r.left (omega (arith, r.room)) r.inside ne

pub each_values_fault : {ts : List Token} {w : Context} {goes : TokenClass → Bool} {i q : ℕ} {xs : List (List ℕ)} (f : Fault) → EachRead ts w goes i xs q → class_at ts q ≡ In →
    IfFault (ReadsFault Exps ts (all_lang ts (under w)) exps_goes (suc w.above) (q + 1)) f → IfFault (ReadsFault Stat ts (stat_lang ts w) goes w.above i) f
each_values_fault {ts} {w} {goes} {i} {q} {xs} f r e x =
    under_fault {K = all_kind ts w} {r = λ es. loop_rest ts w (EachS (tok_at ts i).line xs es)} w.above (word_step r.left e) (omega (arith, r.room)) f x (λ es. follows_do ts goes exps_goes (in_loop w) (λ k. Done (EachS (tok_at ts i).line xs es k)) refl)

pub each_values : {ts : List Token} {w : Context} {goes : TokenClass → Bool} {i q p h : ℕ} {xs : List (List ℕ)} {es : Exps} → EachRead ts w goes i xs q → class_at ts q ≡ In →
    ReadsNonEmpty Exps ts (all_lang ts (under w)) exps_goes (suc w.above) (q + 1) es p h → Left Stat ts (stat_lang ts w) goes i (loop_rest ts w (EachS (tok_at ts i).line xs es)) p (max 1 (1 + h))
each_values {ts} {w} {goes} {i} {q} {p} {h} {xs} {es} r e x =
    under_step {K = all_kind ts w} {r = λ es. loop_rest ts w (EachS (tok_at ts i).line xs es)} (word_step r.left e) (omega arith) x.reading (λ es. follows_do ts goes exps_goes (in_loop w) (λ k. Done (EachS (tok_at ts i).line xs es k)) refl)

pub each_body_fault : {ts : List Token} {w : Context} {goes : TokenClass → Bool} {i q p h : ℕ} {xs : List (List ℕ)} {es : Exps} (f : Fault) → EachRead ts w goes i xs q → class_at ts q ≡ In →
    ReadsNonEmpty Exps ts (all_lang ts (under w)) exps_goes (suc w.above) (q + 1) es p h → IfFault (ReadsFault Block ts (do_lang ts (in_loop w)) nothing (suc w.above) p) f → IfFault (ReadsFault Stat ts (stat_lang ts w) goes w.above i) f
each_body_fault {ts} {w} {goes} {i} {q} {p} {h} {xs} {es} f r e x t =
    under_fault {K = do_kind ts (in_loop w)} {r = λ k. Done (EachS (tok_at ts i).line xs es k)} w.above (each_values r e x) (omega (arith, r.room, x.reading.height)) f t (λ k. follows_nothing ts goes _)

pub each_stands : {ts : List Token} {w : Context} {goes : TokenClass → Bool} {i q p h r l : ℕ} {xs : List (List ℕ)} {es : Exps} {k : Block} → EachRead ts w goes i xs q → class_at ts q ≡ In →
    ReadsNonEmpty Exps ts (all_lang ts (under w)) exps_goes (suc w.above) (q + 1) es p h → ReadsNonEmpty Block ts (do_lang ts (in_loop w)) nothing (suc w.above) p k r l →
    ReadsNonEmpty Stat ts (stat_lang ts w) goes w.above i (EachS (tok_at ts i).line xs es k) r (1 + max h l)
each_stands {ts} {w} {goes} {i} {q} {p} {h} {r} {l} {xs} {es} {k} o e x t =
    whole w.above (1 + max h l) (under_step {K = do_kind ts (in_loop w)} {r = λ k. Done (EachS (tok_at ts i).line xs es k)} (each_values o e x) (omega arith) t.reading (λ k. follows_nothing ts goes _))
    t.reading.inside (omega (arith, o.grows, x.grows, t.grows)) (omega arith) (omega (arith, o.room, x.reading.height, t.reading.height))

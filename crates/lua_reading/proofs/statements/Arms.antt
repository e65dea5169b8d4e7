-- The arms of `if`, and its exits.
use Rattle.std.proofs.Common.{◌≡◌, ◌≢◌, ℕ, suc, [], ◌∷◌, ◌++◌, ◌-◌, ◌+◌, ◌<◌, ◌≤◌, max, Bool, false, List, length, refl, sym, ap, subst, ◌∙◌, inl, inr, arith}
use Rattle.lua_lexer.specs.declared.token.Token.{Token}
use Rattle.lua_syntax.specs.declared.Arm.{Arm as ArmNode}
use Rattle.lua_grammar.specs.declared.TokenClass.{TokenClass}
use Rattle.lua_grammar.specs.declared.TokenClass.TheVariants.{Else, Elseif, End, If, Then}
use Rattle.lua_grammar.specs.declared.Context.{Context}
use Rattle.lua_grammar.specs.Tokens.{class_at, tok_at}
use Rattle.lua_syntax.specs.Tree.{Exp, Block, Arms, Stat, IfS, IfElseS, Arm, NoArm}
use Rattle.lua_grammar.specs.Grammar.{given_tokens, under, word, SpellsArms, MoreArms}
use Rattle.lua_syntax.specs.View.{arm_view, arms_view}
use Rattle.lua_reading.specs.declared.answer.Fault.{Fault}
use Rattle.lua_reading.specs.Parsing.{ReadsTree, ReadsFault, HasOneEnd, high, stat_lang, block_lang, exp_lang, arms_lang, goes_on, block_goes, arms_goes, ReadsExp}
use Rattle.lua_reading.specs.Answers.{IfFault, ReadsNonEmpty}
use Rattle.lua_reading.proofs.pieces.Steps.{Rest, Done, Word, Here, Under, Either, Reads, Left, Follows, word_step, word_fails, here_step, under_step, first_way, second_way, word_closed, done_closed, follows_word, follows_done, follows_either}
use Rattle.lua_reading.proofs.pieces.Kinds.{exp_kind, block_kind, arms_kind}
use Rattle.lua_reading.proofs.statements.Begins.{behind_word}
use Rattle.lua_reading.proofs.statements.PlainExits.{whole, under_fault}
use Rattle.lua_reading.proofs.lists.Names.{same_rest, start}
use Rattle.lua_reading.proofs.statements.Forms.{else_rest, if_starts}
use Rattle.lua_reading.proofs.statements.FormExits.{here_fault}

-- these arms, and then more
abbrev pub add_arms : List ArmNode → Arms → Arms
add_arms [] a = a
add_arms (x ∷ xs) a = arm_view x (add_arms xs a)

pub add_one_arm : (xs : List ArmNode) (x : ArmNode) (a : Arms) → add_arms (xs ++ x ∷ []) a ≡ add_arms xs (arm_view x a)
add_one_arm [] x a = refl
add_one_arm (y ∷ ys) x a = ap (arm_view y) (add_one_arm ys x a)

pub all_arms : (xs : List ArmNode) → arms_view xs ≡ add_arms xs NoArm
all_arms [] = refl
all_arms (x ∷ xs) = ap (arm_view x) (all_arms xs)

abbrev pub arm_end : List Token → Context → List ArmNode → Exp → Block → Rest Arms
arm_end ts w xs e k = Either (Done (add_arms xs (Arm e k NoArm))) (Word Elseif (Here Arms (arms_kind ts w) (λ a. Done (add_arms xs (Arm e k a)))))

abbrev pub arm_body : List Token → Context → List ArmNode → Exp → Rest Arms
arm_body ts w xs e = Word Then (Here Block (block_kind ts w) (arm_end ts w xs e))

abbrev pub arm_rest : List Token → Context → List ArmNode → Rest Arms
arm_rest ts w xs = Here Exp (exp_kind ts w 1) (arm_body ts w xs)

-- These arms have been read, each with an `elseif` behind it.
pub record ArmsRead (ts : List Token) (w : Context) (i : ℕ) (xs : List ArmNode) (m h : ℕ) : Type 0 where
  pub left : Left Arms ts (arms_lang ts w) arms_goes i (Here Arms (arms_kind ts w) (λ a. Done (add_arms xs a))) m h
  pub inside : m < length ts
  pub fits : h ≤ 201 - w.above

pub arms_start : (ts : List Token) (w : Context) (i : ℕ) → i < length ts → ArmsRead ts w i [] i 0
arms_start ts w i inside = record { left = start ts (arms_kind ts w) arms_goes i; inside = inside; fits = omega arith }

pub more_of : (ts : List Token) (n f : ℕ) (w : Context) (a : Arms) (i m j : ℕ) → word (given_tokens ts n f) Elseif i m → SpellsArms (given_tokens ts n f) w a m j → MoreArms (given_tokens ts n f) w a i j
unfolding SpellsArms MoreArms
more_of ts n f w NoArm i m j x d = absurd d
more_of ts n f w (Arm e k more) i m j x d = (m, x, d)

pub arm_split : {ts : List Token} {w : Context} {i : ℕ} {xs : List ArmNode} {m h : ℕ} → ArmsRead ts w i xs m h → Left Arms ts (arms_lang ts w) arms_goes i (arm_rest ts w xs) m h
unfolding SpellsArms MoreArms
arm_split {ts} {w} {i} {xs} {m} {h} r = same_rest (arm_rest ts w xs) r.left (λ s b n f j lt st x. down x.0 s b n f j x.1 x.2 x.3) up
  where
    behind : (more : Arms) (e : Exp) (k : Block) (s : Arms) (b n f o p j : ℕ) → MoreArms (given_tokens ts n f) (high w b) more o p → s ≡ add_arms xs (Arm e k more) → p ≡ j → Reads ts (arm_end ts w xs e k) s b n f o j
    behind NoArm e k s b n f o p j x same at = inl (same, x ∙ at)
    behind (Arm y z more) e k s b n f o p j x same at = inr (x.0, x.1, (Arm y z more, p, x.2, (same, at)))

    down : (a s : Arms) (b n f j p : ℕ) → SpellsArms (given_tokens ts n f) (high w b) a m p → (s ≡ add_arms xs a) × (p ≡ j) → Reads ts (arm_rest ts w xs) s b n f m j
    down NoArm s b n f j p x e = absurd x
    down (Arm y k more) s b n f j p x e =
        let t = x.2.2 in
        (y, x.0, x.1, (x.2.0, x.2.1, (k, t.0, t.1, behind more y k s b n f t.0 p j t.2 e.0 e.1)))

    up : (s : Arms) (b n f j : ℕ) → Reads ts (arm_rest ts w xs) s b n f m j → Reads ts (Here Arms (arms_kind ts w) (λ a. Done (add_arms xs a))) s b n f m j
    up s b n f j x =
        let t = x.3.2 in
        elim t.3 [
          | inl y ↦ (Arm x.0 t.0 NoArm, t.1, (x.1, x.2, (x.3.0, x.3.1, (t.1, t.2, refl))), y)
          | inr y ↦ let z = y.2 in (Arm x.0 t.0 z.0, z.1, (x.1, x.2, (x.3.0, x.3.1, (t.1, t.2, more_of ts n f (high w b) z.0 t.1 y.0 z.1 y.1 z.2))), z.3)
        ]

pub arm_test_fault : {ts : List Token} {w : Context} {i : ℕ} {xs : List ArmNode} {m h : ℕ} (f : Fault) → ArmsRead ts w i xs m h → IfFault (ReadsFault Exp ts (exp_lang ts w 1) (goes_on 1) w.above m) f → IfFault (ReadsFault Arms ts (arms_lang ts w) arms_goes w.above i) f
arm_test_fault {ts} {w} {i} {xs} {m} {h} f r x =
    here_fault {K = exp_kind ts w 1} {r = arm_body ts w xs} w.above (arm_split r) r.fits f x (λ e. follows_word ts arms_goes (goes_on 1) Then _ refl)

pub arm_test : {ts : List Token} {w : Context} {i : ℕ} {xs : List ArmNode} {m h q g : ℕ} {x : Exp} → ArmsRead ts w i xs m h → ReadsExp ts w 1 m x q g → Left Arms ts (arms_lang ts w) arms_goes i (arm_body ts w xs x) q (max h g)
arm_test {ts} {w} {i} {xs} {m} {h} {q} {g} {x} r s = here_step {K = exp_kind ts w 1} {r = arm_body ts w xs} (arm_split r) s.reading (λ e. follows_word ts arms_goes (goes_on 1) Then _ refl)

pub arm_no_then : {ts : List Token} {w : Context} {i : ℕ} {xs : List ArmNode} {m h q g : ℕ} {x : Exp} → ArmsRead ts w i xs m h → ReadsExp ts w 1 m x q g → class_at ts q ≢ Then → ReadsFault Arms ts (arms_lang ts w) arms_goes w.above i 5 q
arm_no_then {ts} {w} {i} {xs} {m} {h} {q} {g} {x} r s ne = word_fails (arm_test r s) (omega (arith, r.fits, s.reading.height)) s.reading.inside ne

pub arms_block : (s : TokenClass) → arms_goes s ≡ false → block_goes s ≡ false
arms_block Elseif e = refl
arms_block s e = e

pub arm_follows : (ts : List Token) (w : Context) (xs : List ArmNode) (x : Exp) (k : Block) → Follows ts arms_goes block_goes (arm_end ts w xs x k)
arm_follows ts w xs x k = follows_either ts arms_goes block_goes _ _ (follows_done ts arms_goes block_goes _ arms_block) (follows_word ts arms_goes block_goes Elseif _ refl)

pub arm_body_fault : {ts : List Token} {w : Context} {i : ℕ} {xs : List ArmNode} {m h q g : ℕ} {x : Exp} (f : Fault) → ArmsRead ts w i xs m h → ReadsExp ts w 1 m x q g → class_at ts q ≡ Then →
    IfFault (ReadsFault Block ts (block_lang ts w) block_goes w.above (q + 1)) f → IfFault (ReadsFault Arms ts (arms_lang ts w) arms_goes w.above i) f
arm_body_fault {ts} {w} {i} {xs} {m} {h} {q} {g} {x} f r s e t =
    here_fault {K = block_kind ts w} {r = arm_end ts w xs x} w.above (word_step (arm_test r s) e) (omega (arith, r.fits, s.reading.height)) f t (arm_follows ts w xs x)

-- ---- one more arm, or the last one

pub arm_read : {ts : List Token} {w : Context} {i : ℕ} {xs : List ArmNode} {m h q g p d : ℕ} {x : Exp} {k : Block} → ArmsRead ts w i xs m h → ReadsExp ts w 1 m x q g → class_at ts q ≡ Then → ReadsTree Block ts (block_lang ts w) block_goes w.above (q + 1) k p d →
    Left Arms ts (arms_lang ts w) arms_goes i (arm_end ts w xs x k) p (max (max h g) d)
arm_read {ts} {w} {i} {xs} {m} {h} {q} {g} {p} {d} {x} {k} r s e t = here_step {K = block_kind ts w} {r = arm_end ts w xs x} (word_step (arm_test r s) e) t (arm_follows ts w xs x)

pub arm_more : {ts : List Token} {w : Context} {i : ℕ} {xs : List ArmNode} {m h q g p d : ℕ} {x : Exp} {k : Block} (a : ArmNode) (new : List ArmNode) (l : ℕ) → HasOneEnd ts → ArmsRead ts w i xs m h → ReadsExp ts w 1 m x q g → class_at ts q ≡ Then →
    ReadsTree Block ts (block_lang ts w) block_goes w.above (q + 1) k p d → class_at ts p ≡ Elseif → ((rest : Arms) → arm_view a rest ≡ Arm x k rest) → new ≡ xs ++ a ∷ [] → l ≡ max (max h g) d → ArmsRead ts w i new (p + 1) l
arm_more {ts} {w} {i} {xs} {m} {h} {q} {g} {p} {d} {x} {k} a new l ended r s e t last view is high = record {
  left = subst (λ (y : ℕ). Left Arms ts (arms_lang ts w) arms_goes i (Here Arms (arms_kind ts w) (λ a. Done (add_arms new a))) (p + 1) y) (sym high)
      (same_rest (Here Arms (arms_kind ts w) (λ a. Done (add_arms new a))) (word_step (second_way (arm_read r s e t) (done_closed ts arms_goes p (add_arms xs (Arm x k NoArm)) (ap arms_goes last))) last)
      (λ s b n f j lt st z. (z.0, z.1, z.2, (z.3.0 ∙ sym (same z.0), z.3.1)))
      (λ s b n f j z. (z.0, z.1, z.2, (z.3.0 ∙ same z.0, z.3.1))));
  inside = behind_word ts p Elseif ended t.inside last refl;
  fits = omega (arith, high, r.fits, s.reading.height, t.height);
}
  where
    same : (rest : Arms) → add_arms new rest ≡ add_arms xs (Arm x k rest)
    same rest = ap (λ (y : List ArmNode). add_arms y rest) is ∙ add_one_arm xs a rest ∙ ap (add_arms xs) (view rest)

pub arm_last : {ts : List Token} {w : Context} {i : ℕ} {xs : List ArmNode} {m h q g p d : ℕ} {x : Exp} {k : Block} (a : ArmNode) (new : List ArmNode) (l : ℕ) → i ≤ m → ArmsRead ts w i xs m h → ReadsExp ts w 1 m x q g → class_at ts q ≡ Then →
    ReadsTree Block ts (block_lang ts w) block_goes w.above (q + 1) k p d → class_at ts p ≢ Elseif → ((rest : Arms) → arm_view a rest ≡ Arm x k rest) → new ≡ xs ++ a ∷ [] → l ≡ max (max h g) d → ReadsNonEmpty Arms ts (arms_lang ts w) arms_goes w.above i (arms_view new) p l
arm_last {ts} {w} {i} {xs} {m} {h} {q} {g} {p} {d} {x} {k} a new l le r s e t ne view is high =
    subst (λ (y : Arms). ReadsNonEmpty Arms ts (arms_lang ts w) arms_goes w.above i y p l) (sym same)
    (whole w.above l (first_way (arm_read r s e t) (word_closed ts arms_goes p Elseif (Here Arms (arms_kind ts w) (λ a. Done (add_arms xs (Arm x k a)))) ne)) t.inside (omega (arith, le, s.grows, t.ordered)) (sym high) (omega (arith, r.fits, s.reading.height, t.height)))
  where
    same : arms_view new ≡ add_arms xs (Arm x k NoArm)
    same = all_arms new ∙ ap (λ (y : List ArmNode). add_arms y NoArm) is ∙ add_one_arm xs a NoArm ∙ ap (add_arms xs) (view NoArm)

-- ---- if

pub arms_reading : {ts : List Token} {u v : Context} {m q h : ℕ} {x : Arms} → u ≡ v → ReadsNonEmpty Arms ts (arms_lang ts u) arms_goes u.above m x q h → ReadsNonEmpty Arms ts (arms_lang ts v) arms_goes v.above m x q h
arms_reading {ts} {u} {v} {m} {q} {h} {x} e s = subst (λ (y : Context). ReadsNonEmpty Arms ts (arms_lang ts y) arms_goes y.above m x q h) e s

pub arms_failed : (ts : List Token) (u v : Context) (m : ℕ) (f : Fault) → u ≡ v → IfFault (ReadsFault Arms ts (arms_lang ts u) arms_goes u.above m) f → IfFault (ReadsFault Arms ts (arms_lang ts v) arms_goes v.above m) f
arms_failed ts u v m f e s = subst (λ (y : Context). IfFault (ReadsFault Arms ts (arms_lang ts y) arms_goes y.above m) f) e s

pub if_follows : (ts : List Token) (w : Context) (goes : TokenClass → Bool) (line : ℕ) (x : Arms) → Follows ts goes arms_goes (else_rest ts w line x)
if_follows ts w goes line x = follows_either ts goes arms_goes _ _ (follows_word ts goes arms_goes End _ refl) (follows_word ts goes arms_goes Else _ refl)

pub if_fault : (ts : List Token) (w : Context) (goes : TokenClass → Bool) (i : ℕ) (f : Fault) → w.above ≤ 200 → class_at ts i ≡ If → IfFault (ReadsFault Arms ts (arms_lang ts (under w)) arms_goes (suc w.above) (i + 1)) f → IfFault (ReadsFault Stat ts (stat_lang ts w) goes w.above i) f
if_fault ts w goes i f room here x = under_fault {K = arms_kind ts w} {r = else_rest ts w (tok_at ts i).line} w.above (if_starts ts w goes i here) (omega (arith, room)) f x (if_follows ts w goes (tok_at ts i).line)

pub if_arms : (ts : List Token) (w : Context) (goes : TokenClass → Bool) (i : ℕ) {q h : ℕ} {x : Arms} → class_at ts i ≡ If → ReadsNonEmpty Arms ts (arms_lang ts (under w)) arms_goes (suc w.above) (i + 1) x q h → Left Stat ts (stat_lang ts w) goes i (else_rest ts w (tok_at ts i).line x) q (max 1 (1 + h))
if_arms ts w goes i {q} {h} {x} here s = under_step {K = arms_kind ts w} {r = else_rest ts w (tok_at ts i).line} (if_starts ts w goes i here) (omega arith) s.reading (if_follows ts w goes (tok_at ts i).line)

abbrev pub else_part : List Token → Context → ℕ → Arms → Rest Stat
else_part ts w i x = Under Block (block_kind ts w) (λ k. Word End (Done (IfElseS (tok_at ts i).line x k)))

pub if_stands : (ts : List Token) (w : Context) (goes : TokenClass → Bool) (i : ℕ) {q h : ℕ} {x : Arms} → HasOneEnd ts → w.above ≤ 200 → class_at ts i ≡ If → ReadsNonEmpty Arms ts (arms_lang ts (under w)) arms_goes (suc w.above) (i + 1) x q h → class_at ts q ≡ End →
    ReadsNonEmpty Stat ts (stat_lang ts w) goes w.above i (IfS (tok_at ts i).line x) (q + 1) (1 + h)
if_stands ts w goes i {q} {h} {x} ended room here s e =
    whole w.above (1 + h) (word_step (first_way (if_arms ts w goes i here s) (word_closed ts goes q Else (else_part ts w i x) (λ z. other (sym e ∙ z)))) e) (behind_word ts q End ended s.reading.inside e refl) (omega (arith, s.grows)) (omega arith) (omega (arith, room, s.reading.height))
  where
    other : End ≢ Else
    other z = cc

pub if_no_end : (ts : List Token) (w : Context) (goes : TokenClass → Bool) (i : ℕ) {q h : ℕ} {x : Arms} → w.above ≤ 200 → class_at ts i ≡ If → ReadsNonEmpty Arms ts (arms_lang ts (under w)) arms_goes (suc w.above) (i + 1) x q h → class_at ts q ≢ End → class_at ts q ≢ Else →
    ReadsFault Stat ts (stat_lang ts w) goes w.above i 5 q
if_no_end ts w goes i {q} {h} {x} room here s ne nl = word_fails (first_way (if_arms ts w goes i here s) (word_closed ts goes q Else (else_part ts w i x) nl)) (omega (arith, room, s.reading.height)) s.reading.inside ne

pub if_else : (ts : List Token) (w : Context) (goes : TokenClass → Bool) (i : ℕ) {q h : ℕ} {x : Arms} → class_at ts i ≡ If → ReadsNonEmpty Arms ts (arms_lang ts (under w)) arms_goes (suc w.above) (i + 1) x q h → class_at ts q ≡ Else →
    Left Stat ts (stat_lang ts w) goes i (else_part ts w i x) (q + 1) (max 1 (1 + h))
if_else ts w goes i {q} {h} {x} here s e = word_step (second_way (if_arms ts w goes i here s) (word_closed ts goes q End (Done (IfS (tok_at ts i).line x)) (λ z. other (sym e ∙ z)))) e
  where
    other : Else ≢ End
    other z = cc

pub else_fault : (ts : List Token) (w : Context) (goes : TokenClass → Bool) (i : ℕ) (f : Fault) {q h : ℕ} {x : Arms} → w.above ≤ 200 → class_at ts i ≡ If → ReadsNonEmpty Arms ts (arms_lang ts (under w)) arms_goes (suc w.above) (i + 1) x q h → class_at ts q ≡ Else →
    IfFault (ReadsFault Block ts (block_lang ts (under w)) block_goes (suc w.above) (q + 1)) f → IfFault (ReadsFault Stat ts (stat_lang ts w) goes w.above i) f
else_fault ts w goes i f {q} {h} {x} room here s e t =
    under_fault {K = block_kind ts w} {r = λ k. Word End (Done (IfElseS (tok_at ts i).line x k))} w.above (if_else ts w goes i here s e) (omega (arith, room, s.reading.height)) f t (λ k. follows_word ts goes block_goes End _ refl)

pub else_read : (ts : List Token) (w : Context) (goes : TokenClass → Bool) (i : ℕ) {q h p g : ℕ} {x : Arms} {k : Block} → class_at ts i ≡ If → ReadsNonEmpty Arms ts (arms_lang ts (under w)) arms_goes (suc w.above) (i + 1) x q h → class_at ts q ≡ Else →
    ReadsTree Block ts (block_lang ts (under w)) block_goes (suc w.above) (q + 1) k p g → Left Stat ts (stat_lang ts w) goes i (Word End (Done (IfElseS (tok_at ts i).line x k))) p (max (max 1 (1 + h)) (1 + g))
else_read ts w goes i {q} {h} {p} {g} {x} {k} here s e t =
    under_step {K = block_kind ts w} {r = λ k. Word End (Done (IfElseS (tok_at ts i).line x k))} (if_else ts w goes i here s e) (omega arith) t (λ k. follows_word ts goes block_goes End _ refl)

pub else_no_end : (ts : List Token) (w : Context) (goes : TokenClass → Bool) (i : ℕ) {q h p g : ℕ} {x : Arms} {k : Block} → w.above ≤ 200 → class_at ts i ≡ If → ReadsNonEmpty Arms ts (arms_lang ts (under w)) arms_goes (suc w.above) (i + 1) x q h → class_at ts q ≡ Else →
    ReadsTree Block ts (block_lang ts (under w)) block_goes (suc w.above) (q + 1) k p g → class_at ts p ≢ End → ReadsFault Stat ts (stat_lang ts w) goes w.above i 5 p
else_no_end ts w goes i {q} {h} {p} {g} {x} {k} room here s e t ne = word_fails (else_read ts w goes i here s e t) (omega (arith, room, s.reading.height, t.height)) t.inside ne

pub else_stands : (ts : List Token) (w : Context) (goes : TokenClass → Bool) (i : ℕ) {q h p g : ℕ} {x : Arms} {k : Block} → HasOneEnd ts → w.above ≤ 200 → class_at ts i ≡ If → ReadsNonEmpty Arms ts (arms_lang ts (under w)) arms_goes (suc w.above) (i + 1) x q h → class_at ts q ≡ Else →
    ReadsTree Block ts (block_lang ts (under w)) block_goes (suc w.above) (q + 1) k p g → class_at ts p ≡ End → ReadsNonEmpty Stat ts (stat_lang ts w) goes w.above i (IfElseS (tok_at ts i).line x k) (p + 1) (1 + max h g)
else_stands ts w goes i {q} {h} {p} {g} {x} {k} ended room here s e t last =
    whole w.above (1 + max h g) (word_step (else_read ts w goes i here s e t) last) (behind_word ts p End ended t.inside last refl) (omega (arith, s.grows, t.ordered)) (omega arith) (omega (arith, room, s.reading.height, t.height))

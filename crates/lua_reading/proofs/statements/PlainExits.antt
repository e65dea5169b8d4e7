-- The exits of statements: a chain of steps each.
use Rattle.std.proofs.Common.{◌≡◌, ◌≢◌, ℕ, suc, ◌-◌, ◌+◌, ◌<◌, ◌≤◌, max, Bool, true, false, List, length, refl, sym, ap, subst, ◌∙◌, inl, inr, arith, true≢false, le_refl}
use Rattle.lua_lexer.specs.declared.token.Token.{Token}
use Rattle.lua_grammar.specs.declared.TokenClass.{TokenClass}
use Rattle.lua_grammar.specs.declared.TokenClass.TheVariants.{Break, Do, Else, Elseif, End, Eof, Repeat, Return, Until, While, Assign, Comma, Semicolon}
use Rattle.lua_grammar.specs.declared.Context.{Context}
use Rattle.lua_grammar.specs.Tokens.{class_at, tok_at}
use Rattle.lua_syntax.specs.Tree.{Exp, Exps, Block, Stat, NoExp, DoS, WhileS, RepeatS, ReturnS, BreakS}
use Rattle.lua_grammar.specs.Grammar.{given_tokens, under, in_loop, SpellsStat}
use Rattle.lua_reading.specs.declared.answer.Fault.{Fault}
use Rattle.lua_reading.specs.declared.answer.Fault.TheVariants.{At, NoMemory}
use Rattle.lua_reading.specs.Parsing.{Lang, ReadsTree, Before, ReadsFault, HasOneEnd, high, stat_lang, block_lang, exp_lang, all_lang, goes_on, exps_goes, stat_goes, block_goes, last_goes, goes_after, ReadsExp}
use Rattle.lua_reading.specs.Answers.{IfFault, ReadsNonEmpty}
use Rattle.lua_reading.proofs.pieces.Steps.{Rest, Done, Word, Under, Left, Kind, Follows, Closed, word_step, word_fails, under_step, under_fails, first_way, second_way, done_closed, all_read, too_deep, follows_word, follows_done}
use Rattle.lua_reading.proofs.pieces.Kinds.{exp_kind, all_kind, block_kind, stat_opens}
use Rattle.lua_reading.proofs.statements.Begins.{stat_begins, stat_node, all_begins, behind_word, Starts}
use Rattle.lua_reading.proofs.statements.Split.{do_starts, while_starts, repeat_starts, return_starts, break_starts}

-- ---- what a called function answers, where the nodes above are known

pub block_reading : {ts : List Token} {u v : Context} {m q h : ℕ} {k : Block} → u ≡ v → ReadsTree Block ts (block_lang ts u) block_goes u.above m k q h → ReadsTree Block ts (block_lang ts v) block_goes v.above m k q h
block_reading {ts} {u} {v} {m} {q} {h} {k} e s = subst (λ (y : Context). ReadsTree Block ts (block_lang ts y) block_goes y.above m k q h) e s

pub block_failed : (ts : List Token) (u v : Context) (m : ℕ) (f : Fault) → u ≡ v → IfFault (ReadsFault Block ts (block_lang ts u) block_goes u.above m) f → IfFault (ReadsFault Block ts (block_lang ts v) block_goes v.above m) f
block_failed ts u v m f e s = subst (λ (y : Context). IfFault (ReadsFault Block ts (block_lang ts y) block_goes y.above m) f) e s

pub exp_reading : {ts : List Token} {u v : Context} {l m q h : ℕ} {x : Exp} → u ≡ v → ReadsExp ts u l m x q h → ReadsExp ts v l m x q h
exp_reading {ts} {u} {v} {l} {m} {q} {h} {x} e s = subst (λ (y : Context). ReadsExp ts y l m x q h) e s

pub exp_failed : (ts : List Token) (u v : Context) (l m : ℕ) (f : Fault) → u ≡ v → IfFault (ReadsFault Exp ts (exp_lang ts u l) (goes_on l) u.above m) f → IfFault (ReadsFault Exp ts (exp_lang ts v l) (goes_on l) v.above m) f
exp_failed ts u v l m f e s = subst (λ (y : Context). IfFault (ReadsFault Exp ts (exp_lang ts y l) (goes_on l) y.above m) f) e s

pub all_reading : {ts : List Token} {u v : Context} {m q h : ℕ} {x : Exps} → u ≡ v → ReadsNonEmpty Exps ts (all_lang ts u) exps_goes u.above m x q h → ReadsNonEmpty Exps ts (all_lang ts v) exps_goes v.above m x q h
all_reading {ts} {u} {v} {m} {q} {h} {x} e s = subst (λ (y : Context). ReadsNonEmpty Exps ts (all_lang ts y) exps_goes y.above m x q h) e s

pub all_failed : (ts : List Token) (u v : Context) (m : ℕ) (f : Fault) → u ≡ v → IfFault (ReadsFault Exps ts (all_lang ts u) exps_goes u.above m) f → IfFault (ReadsFault Exps ts (all_lang ts v) exps_goes v.above m) f
all_failed ts u v m f e s = subst (λ (y : Context). IfFault (ReadsFault Exps ts (all_lang ts y) exps_goes y.above m) f) e s

-- What a read token says of its place.
pub read_is : {s r w : TokenClass} → s ≡ r → s ≡ w → r ≡ w
read_is {s} {r} {w} e x = sym e ∙ x

pub read_not : {s r w : TokenClass} → s ≡ r → s ≢ w → r ≢ w
read_not {s} {r} {w} e ne x = ne (e ∙ x)

pub under_fits : (u w : Context) → u ≡ under w → w.above ≤ 200 → u.above ≤ 201
under_fits u w e le = let a : u.above ≡ suc w.above = ap (λ (y : Context). y.above) e in omega (arith, a, le)

pub in_loop_fits : (u w : Context) → u ≡ in_loop w → w.above ≤ 200 → u.above ≤ 201
in_loop_fits u w e le = let a : u.above ≡ suc w.above = ap (λ (y : Context). y.above) e in omega (arith, a, le)

-- ---- the last step

pub whole : {S : Type 0} {ts : List Token} {L : S → Lang} {goes : TokenClass → Bool} {i m h : ℕ} {e : S} (a k : ℕ) → Left S ts L goes i (Done e) m h → m < length ts → i < m → h ≡ k → h ≤ 201 - a → ReadsNonEmpty S ts L goes a i e m k
whole {S} {ts} {L} {goes} {i} {m} {h} {e} a k l inside grows same fits =
    subst (λ (y : ℕ). ReadsNonEmpty S ts L goes a i e m y) same (record { reading = all_read l inside fits; grows = grows })

pub under_fault : {S X : Type 0} {ts : List Token} {L : S → Lang} {goes : TokenClass → Bool} {i m h : ℕ} {K : Kind X} {r : X → Rest S} (a : ℕ) →
    Left S ts L goes i (Under X K r) m h → h ≤ 201 - a → (f : Fault) → IfFault (ReadsFault X ts K.lang K.goes (suc a) m) f → ((x : X) → Follows ts goes K.goes (r x)) → IfFault (ReadsFault S ts L goes a i) f
under_fault {S} {X} {ts} {L} {goes} {i} {m} {h} {K} {r} a s fits NoMemory w fol = tt
under_fault {S} {X} {ts} {L} {goes} {i} {m} {h} {K} {r} a s fits (At f) w fol = under_fails s fits w fol

-- The node is too deep.
pub deep : {ts : List Token} (w : Context) {goes : TokenClass → Bool} {i h : ℕ} {r : Rest Stat} → Left Stat ts (stat_lang ts w) goes i r (i + 1) h → i < length ts → 200 < w.above → ReadsFault Stat ts (stat_lang ts w) goes w.above i 7 i
deep {ts} w {goes} {i} {h} {r} s inside over = too_deep s (stat_node ts w i) (stat_opens ts w) inside over

-- The same, where no statement has been begun.
pub stat_deep : (ts : List Token) (w : Context) (goes : TokenClass → Bool) (i : ℕ) → ((f : ℕ) → 5 ≤ f → f < 7 → (x : Stat) × (j : ℕ) × (suc i ≤ j) × stat_lang ts w x w.above (suc i) f i j) → i < length ts → 200 < w.above → ReadsFault Stat ts (stat_lang ts w) goes w.above i 7 i
stat_deep ts w goes i some inside over = record {
  inside = inside;
  ordered = le_refl i;
  number = (omega arith, omega arith);
  reach = reach;
  dead = λ x b n j le lt l st. let y = stat_node ts w i x b n j lt l in omega (arith, y, le, over);
}
  where
    reach : (n f : ℕ) → Before i 7 n f → (x : Stat) × (j : ℕ) × (n ≤ j) × stat_lang ts w x w.above n f i j
    reach n f (inl e) = stat_opens ts w w.above n f i (omega (arith, e))
    reach n f (inr x) =
        subst (λ (y : ℕ). (s : Stat) × (j : ℕ) × (y ≤ j) × stat_lang ts w s w.above y f i j) (sym x.0) (some f x.1 x.2)

-- ---- do

pub do_body : (ts : List Token) (w : Context) {u : Context} (goes : TokenClass → Bool) (i : ℕ) {q h : ℕ} {k : Block} → class_at ts i ≡ Do → u ≡ under w → ReadsTree Block ts (block_lang ts u) block_goes u.above (i + 1) k q h →
    Left Stat ts (stat_lang ts w) goes i (Word End (Done (DoS (tok_at ts i).line k))) q (max 1 (1 + h))
do_body ts w {u} goes i {q} {h} {k} here e s =
    under_step {K = block_kind ts w} {r = λ y. Word End (Done (DoS (tok_at ts i).line y))} (do_starts ts w goes i here) (omega arith) (block_reading {v = under w} e s) (λ x. follows_word ts goes block_goes End (Done (DoS (tok_at ts i).line x)) refl)

pub do_fault : (ts : List Token) (w : Context) {u : Context} (goes : TokenClass → Bool) (i : ℕ) (f : Fault) → class_at ts i ≡ Do → w.above ≤ 200 → u ≡ under w → IfFault (ReadsFault Block ts (block_lang ts u) block_goes u.above (i + 1)) f →
    IfFault (ReadsFault Stat ts (stat_lang ts w) goes w.above i) f
do_fault ts w {u} goes i f here room e x =
    under_fault {K = block_kind ts w} {r = λ y. Word End (Done (DoS (tok_at ts i).line y))} w.above (do_starts ts w goes i here) (omega (arith, room)) f (block_failed ts u (under w) (i + 1) f e x) (λ x. follows_word ts goes block_goes End (Done (DoS (tok_at ts i).line x)) refl)

pub do_no_end : (ts : List Token) (w : Context) {u : Context} (goes : TokenClass → Bool) (i : ℕ) {q h : ℕ} {k : Block} → class_at ts i ≡ Do → w.above ≤ 200 → u ≡ under w → ReadsTree Block ts (block_lang ts u) block_goes u.above (i + 1) k q h → class_at ts q ≢ End →
    ReadsFault Stat ts (stat_lang ts w) goes w.above i 5 q
do_no_end ts w {u} goes i {q} {h} {k} here room e s ne =
    word_fails (do_body ts w goes i here e s) (omega (arith, room, (block_reading {v = under w} e s).height)) s.inside ne

pub do_stands : (ts : List Token) (w : Context) {u : Context} (goes : TokenClass → Bool) (i : ℕ) {q h : ℕ} {k : Block} → HasOneEnd ts → class_at ts i ≡ Do → w.above ≤ 200 → u ≡ under w → ReadsTree Block ts (block_lang ts u) block_goes u.above (i + 1) k q h → class_at ts q ≡ End →
    ReadsNonEmpty Stat ts (stat_lang ts w) goes w.above i (DoS (tok_at ts i).line k) (q + 1) (1 + h)
do_stands ts w {u} goes i {q} {h} {k} ended here room e s last =
    whole w.above (1 + h) (word_step (do_body ts w goes i here e s) last) (behind_word ts q End ended s.inside last refl) (omega (arith, s.ordered)) (omega arith) (omega (arith, room, (block_reading {v = under w} e s).height))

-- ---- while

pub while_test : (ts : List Token) (w : Context) {u : Context} (goes : TokenClass → Bool) (i : ℕ) {q h : ℕ} {x : Exp} → class_at ts i ≡ While → u ≡ under w → ReadsExp ts u 1 (i + 1) x q h →
    Left Stat ts (stat_lang ts w) goes i (Word Do (Under Block (block_kind ts (in_loop w)) (λ k. Word End (Done (WhileS (tok_at ts i).line x k))))) q (max 1 (1 + h))
while_test ts w {u} goes i {q} {h} {x} here e s =
    under_step {K = exp_kind ts w 1} {r = λ y. Word Do (Under Block (block_kind ts (in_loop w)) (λ k. Word End (Done (WhileS (tok_at ts i).line y k))))} (while_starts ts w goes i here) (omega arith) (exp_reading {v = under w} e s).reading (λ x. follows_word ts goes (goes_on 1) Do _ refl)

pub while_test_fault : (ts : List Token) (w : Context) {u : Context} (goes : TokenClass → Bool) (i : ℕ) (f : Fault) → class_at ts i ≡ While → w.above ≤ 200 → u ≡ under w → IfFault (ReadsFault Exp ts (exp_lang ts u 1) (goes_on 1) u.above (i + 1)) f →
    IfFault (ReadsFault Stat ts (stat_lang ts w) goes w.above i) f
while_test_fault ts w {u} goes i f here room e x =
    under_fault {K = exp_kind ts w 1} {r = λ y. Word Do (Under Block (block_kind ts (in_loop w)) (λ k. Word End (Done (WhileS (tok_at ts i).line y k))))} w.above (while_starts ts w goes i here) (omega (arith, room)) f (exp_failed ts u (under w) 1 (i + 1) f e x) (λ x. follows_word ts goes (goes_on 1) Do _ refl)

pub while_no_do : (ts : List Token) (w : Context) {u : Context} (goes : TokenClass → Bool) (i : ℕ) {q h : ℕ} {x : Exp} → class_at ts i ≡ While → w.above ≤ 200 → u ≡ under w → ReadsExp ts u 1 (i + 1) x q h → class_at ts q ≢ Do →
    ReadsFault Stat ts (stat_lang ts w) goes w.above i 5 q
while_no_do ts w {u} goes i {q} {h} {x} here room e s ne =
    word_fails (while_test ts w goes i here e s) (omega (arith, room, (exp_reading {v = under w} e s).reading.height)) s.reading.inside ne

pub while_body : (ts : List Token) (w : Context) {u v : Context} (goes : TokenClass → Bool) (i : ℕ) {q h p g : ℕ} {x : Exp} {k : Block} → class_at ts i ≡ While → u ≡ under w → ReadsExp ts u 1 (i + 1) x q h → class_at ts q ≡ Do →
    v ≡ in_loop w → ReadsTree Block ts (block_lang ts v) block_goes v.above (q + 1) k p g → Left Stat ts (stat_lang ts w) goes i (Word End (Done (WhileS (tok_at ts i).line x k))) p (max (max 1 (1 + h)) (1 + g))
while_body ts w {u} {v} goes i {q} {h} {p} {g} {x} {k} here e s d o t =
    under_step {K = block_kind ts (in_loop w)} {r = λ y. Word End (Done (WhileS (tok_at ts i).line x y))} (word_step (while_test ts w goes i here e s) d) (omega arith) (block_reading {v = in_loop w} o t) (λ x. follows_word ts goes block_goes End _ refl)

pub while_fault : (ts : List Token) (w : Context) {u v : Context} (goes : TokenClass → Bool) (i : ℕ) {q h : ℕ} {x : Exp} (f : Fault) → class_at ts i ≡ While → w.above ≤ 200 → u ≡ under w → ReadsExp ts u 1 (i + 1) x q h → class_at ts q ≡ Do →
    v ≡ in_loop w → IfFault (ReadsFault Block ts (block_lang ts v) block_goes v.above (q + 1)) f → IfFault (ReadsFault Stat ts (stat_lang ts w) goes w.above i) f
while_fault ts w {u} {v} goes i {q} {h} {x} f here room e s d o t =
    under_fault {K = block_kind ts (in_loop w)} {r = λ y. Word End (Done (WhileS (tok_at ts i).line x y))} w.above (word_step (while_test ts w goes i here e s) d) (omega (arith, room, (exp_reading {v = under w} e s).reading.height)) f (block_failed ts v (in_loop w) (q + 1) f o t) (λ x. follows_word ts goes block_goes End _ refl)

pub while_no_end : (ts : List Token) (w : Context) {u v : Context} (goes : TokenClass → Bool) (i : ℕ) {q h p g : ℕ} {x : Exp} {k : Block} → class_at ts i ≡ While → w.above ≤ 200 → u ≡ under w → ReadsExp ts u 1 (i + 1) x q h → class_at ts q ≡ Do →
    v ≡ in_loop w → ReadsTree Block ts (block_lang ts v) block_goes v.above (q + 1) k p g → class_at ts p ≢ End → ReadsFault Stat ts (stat_lang ts w) goes w.above i 5 p
while_no_end ts w {u} {v} goes i {q} {h} {p} {g} {x} {k} here room e s d o t ne =
    word_fails (while_body ts w goes i here e s d o t) (omega (arith, room, (exp_reading {v = under w} e s).reading.height, (block_reading {v = in_loop w} o t).height)) t.inside ne

pub while_stands : (ts : List Token) (w : Context) {u v : Context} (goes : TokenClass → Bool) (i : ℕ) {q h p g : ℕ} {x : Exp} {k : Block} → HasOneEnd ts → class_at ts i ≡ While → w.above ≤ 200 → u ≡ under w → ReadsExp ts u 1 (i + 1) x q h → class_at ts q ≡ Do →
    v ≡ in_loop w → ReadsTree Block ts (block_lang ts v) block_goes v.above (q + 1) k p g → class_at ts p ≡ End → ReadsNonEmpty Stat ts (stat_lang ts w) goes w.above i (WhileS (tok_at ts i).line x k) (p + 1) (1 + max h g)
while_stands ts w {u} {v} goes i {q} {h} {p} {g} {x} {k} ended here room e s d o t last =
    whole w.above (1 + max h g) (word_step (while_body ts w goes i here e s d o t) last) (behind_word ts p End ended t.inside last refl) (omega (arith, s.grows, t.ordered)) (omega arith) (omega (arith, room, (exp_reading {v = under w} e s).reading.height, (block_reading {v = in_loop w} o t).height))

-- ---- repeat

pub stat_exp : (s : TokenClass) → stat_goes s ≡ false → goes_on 1 s ≡ false
stat_exp Comma e = refl
stat_exp Assign e = refl
stat_exp s e = e

-- What ends a statement ends an expression, but for `return`.
pub repeat_ends : (ts : List Token) (i : ℕ) → class_at ts i ≡ Repeat → (s : TokenClass) → goes_after (class_at ts i) s ≡ false → goes_on 1 s ≡ false
repeat_ends ts i here s e = stat_exp s (sym (ap (λ (y : TokenClass). goes_after y s) here) ∙ e)

pub repeat_body : (ts : List Token) (w : Context) {v : Context} (goes : TokenClass → Bool) (i : ℕ) {p g : ℕ} {k : Block} → class_at ts i ≡ Repeat →
    v ≡ in_loop w → ReadsTree Block ts (block_lang ts v) block_goes v.above (i + 1) k p g → Left Stat ts (stat_lang ts w) goes i (Word Until (Under Exp (exp_kind ts w 1) (λ e. Done (RepeatS (tok_at ts i).line k e)))) p (max 1 (1 + g))
repeat_body ts w {v} goes i {p} {g} {k} here o t =
    under_step {K = block_kind ts (in_loop w)} {r = λ y. Word Until (Under Exp (exp_kind ts w 1) (λ e. Done (RepeatS (tok_at ts i).line y e)))} (repeat_starts ts w goes i here) (omega arith) (block_reading {v = in_loop w} o t) (λ x. follows_word ts goes block_goes Until _ refl)

pub repeat_fault : (ts : List Token) (w : Context) {v : Context} (goes : TokenClass → Bool) (i : ℕ) (f : Fault) → class_at ts i ≡ Repeat → w.above ≤ 200 →
    v ≡ in_loop w → IfFault (ReadsFault Block ts (block_lang ts v) block_goes v.above (i + 1)) f → IfFault (ReadsFault Stat ts (stat_lang ts w) goes w.above i) f
repeat_fault ts w {v} goes i f here room o t =
    under_fault {K = block_kind ts (in_loop w)} {r = λ y. Word Until (Under Exp (exp_kind ts w 1) (λ e. Done (RepeatS (tok_at ts i).line y e)))} w.above (repeat_starts ts w goes i here) (omega (arith, room)) f (block_failed ts v (in_loop w) (i + 1) f o t) (λ x. follows_word ts goes block_goes Until _ refl)

pub repeat_no_until : (ts : List Token) (w : Context) {v : Context} (goes : TokenClass → Bool) (i : ℕ) {p g : ℕ} {k : Block} → class_at ts i ≡ Repeat → w.above ≤ 200 →
    v ≡ in_loop w → ReadsTree Block ts (block_lang ts v) block_goes v.above (i + 1) k p g → class_at ts p ≢ Until → ReadsFault Stat ts (stat_lang ts w) goes w.above i 5 p
repeat_no_until ts w {v} goes i {p} {g} {k} here room o t ne =
    word_fails (repeat_body ts w goes i here o t) (omega (arith, room, (block_reading {v = in_loop w} o t).height)) t.inside ne

pub repeat_test_fault : (ts : List Token) (w : Context) {u v : Context} (i : ℕ) {p g : ℕ} {k : Block} (f : Fault) → class_at ts i ≡ Repeat → w.above ≤ 200 →
    v ≡ in_loop w → ReadsTree Block ts (block_lang ts v) block_goes v.above (i + 1) k p g → class_at ts p ≡ Until →
    u ≡ under w → IfFault (ReadsFault Exp ts (exp_lang ts u 1) (goes_on 1) u.above (p + 1)) f → IfFault (ReadsFault Stat ts (stat_lang ts w) (goes_after (class_at ts i)) w.above i) f
repeat_test_fault ts w {u} {v} i {p} {g} {k} f here room o t d e x =
    under_fault {K = exp_kind ts w 1} {r = λ e. Done (RepeatS (tok_at ts i).line k e)} w.above (word_step (repeat_body ts w (goes_after (class_at ts i)) i here o t) d) (omega (arith, room, (block_reading {v = in_loop w} o t).height)) f (exp_failed ts u (under w) 1 (p + 1) f e x)
    (λ y. follows_done ts (goes_after (class_at ts i)) (goes_on 1) _ (repeat_ends ts i here))

pub repeat_stands : (ts : List Token) (w : Context) {u v : Context} (i : ℕ) {p g q h : ℕ} {k : Block} {x : Exp} → class_at ts i ≡ Repeat → w.above ≤ 200 →
    v ≡ in_loop w → ReadsTree Block ts (block_lang ts v) block_goes v.above (i + 1) k p g → class_at ts p ≡ Until →
    u ≡ under w → ReadsExp ts u 1 (p + 1) x q h → ReadsNonEmpty Stat ts (stat_lang ts w) (goes_after (class_at ts i)) w.above i (RepeatS (tok_at ts i).line k x) q (1 + max g h)
repeat_stands ts w {u} {v} i {p} {g} {q} {h} {k} {x} here room o t d e s =
    whole w.above (1 + max g h)
    (under_step {K = exp_kind ts w 1} {r = λ e. Done (RepeatS (tok_at ts i).line k e)} (word_step (repeat_body ts w (goes_after (class_at ts i)) i here o t) d) (omega arith) (exp_reading {v = under w} e s).reading
    (λ y. follows_done ts (goes_after (class_at ts i)) (goes_on 1) _ (repeat_ends ts i here)))
    s.reading.inside (omega (arith, t.ordered, s.grows)) (omega arith) (omega (arith, room, (exp_reading {v = under w} e s).reading.height, (block_reading {v = in_loop w} o t).height))

-- ---- break

pub break_stands : (ts : List Token) (w : Context) (goes : TokenClass → Bool) (i : ℕ) → HasOneEnd ts → i < length ts → class_at ts i ≡ Break → w.above ≤ 200 → w.inside_loop ≡ true → ReadsNonEmpty Stat ts (stat_lang ts w) goes w.above i (BreakS (tok_at ts i).line) (i + 1) 1
break_stands ts w goes i ended inside here room inside_loop =
    whole w.above 1 (break_starts ts w goes i inside_loop here) (behind_word ts i Break ended inside here refl) (omega arith) refl (omega (arith, room))

-- A `break` outside a loop.
pub break_outside : (ts : List Token) (w : Context) (goes : TokenClass → Bool) (i : ℕ) → i < length ts → class_at ts i ≡ Break → w.above ≤ 200 → w.inside_loop ≡ false → ReadsFault Stat ts (stat_lang ts w) goes w.above i 8 i
unfolding SpellsStat
break_outside ts w goes i inside here room free = record {
  inside = inside;
  ordered = le_refl i;
  number = (omega arith, omega arith);
  reach = reach;
  dead = λ x b n j le lt l st. dead x b n j lt l (subst (λ (y : TokenClass). Starts x y) here (stat_begins ts n 8 (high w b) x i j l lt));
}
  where
    reach : (n f : ℕ) → Before i 8 n f → (x : Stat) × (j : ℕ) × (n ≤ j) × stat_lang ts w x w.above n f i j
    reach n f (inl e) = stat_opens ts w w.above n f i (omega (arith, e))
    reach n f (inr x) = (BreakS (tok_at ts i).line, suc i, omega (arith, x.0), (i, (refl, (λ y lt. room), refl), ((λ lt. here), (λ y lt. absurd (omega (arith, y, x.2))), refl)))

    dead : (x : Stat) (b n j : ℕ) → i < n → SpellsStat (given_tokens ts n 8) (high w b) x i j → Starts x Break → ⊥
    dead (BreakS l) b n j lt d s = true≢false (sym (d.2.1 refl (subst (λ (y : ℕ). y < n) d.1.2 lt)) ∙ free)
    dead x b n j lt d s = absurd s

pub break_deep : (ts : List Token) (w : Context) (goes : TokenClass → Bool) (i : ℕ) → i < length ts → class_at ts i ≡ Break → 200 < w.above → ReadsFault Stat ts (stat_lang ts w) goes w.above i 7 i
unfolding SpellsStat
break_deep ts w goes i inside here over = stat_deep ts w goes i some inside over
  where
    some : (f : ℕ) → 5 ≤ f → f < 7 → (x : Stat) × (j : ℕ) × (suc i ≤ j) × stat_lang ts w x w.above (suc i) f i j
    some f le lt =
        (BreakS (tok_at ts i).line, suc i, le_refl (suc i), (i, (refl, (λ e y. absurd (omega (arith, e, lt))), refl), ((λ y. here), (λ e y. absurd (omega (arith, e, lt))), refl)))

-- ---- return

pub last_exps : (s : TokenClass) → last_goes s ≡ false → exps_goes s ≡ false
last_exps Semicolon e = refl
last_exps Else e = refl
last_exps Elseif e = refl
last_exps End e = refl
last_exps Until e = refl
last_exps Eof e = refl
last_exps s e = absurd (true≢false e)

pub return_ends : (ts : List Token) (i : ℕ) → class_at ts i ≡ Return → (s : TokenClass) → goes_after (class_at ts i) s ≡ false → exps_goes s ≡ false
return_ends ts i here s e = last_exps s (sym (ap (λ (y : TokenClass). goes_after y s) here) ∙ e)

pub return_none : (ts : List Token) (w : Context) (i : ℕ) → HasOneEnd ts → i < length ts → class_at ts i ≡ Return → w.above ≤ 200 → last_goes (class_at ts (i + 1)) ≡ false →
    ReadsNonEmpty Stat ts (stat_lang ts w) (goes_after (class_at ts i)) w.above i (ReturnS (tok_at ts i).line NoExp) (i + 1) 1
return_none ts w i ended inside here room stops =
    whole w.above 1 (first_way (return_starts ts w (goes_after (class_at ts i)) i here) closed) (behind_word ts i Return ended inside here refl) (omega arith) refl (omega (arith, room))
  where
    closed : Closed ts (goes_after (class_at ts i)) (i + 1) (Under Exps (all_kind ts w) (λ es. Done (ReturnS (tok_at ts i).line es)))
    closed s b n f j lt x st = true≢false (sym (all_begins ts n f (high w (suc b)) x.0 (i + 1) x.1 x.2 lt) ∙ stops)

pub return_some : (ts : List Token) (w : Context) (i : ℕ) → class_at ts i ≡ Return → last_goes (class_at ts (i + 1)) ≡ true →
    Left Stat ts (stat_lang ts w) (goes_after (class_at ts i)) i (Under Exps (all_kind ts w) (λ es. Done (ReturnS (tok_at ts i).line es))) (i + 1) 1
return_some ts w i here goes =
    second_way (return_starts ts w (goes_after (class_at ts i)) i here) (done_closed ts (goes_after (class_at ts i)) (i + 1) _ (ap (λ (y : TokenClass). goes_after y (class_at ts (i + 1))) here ∙ goes))

pub return_fault : (ts : List Token) (w : Context) {u : Context} (i : ℕ) (f : Fault) → class_at ts i ≡ Return → w.above ≤ 200 → last_goes (class_at ts (i + 1)) ≡ true → u ≡ under w → IfFault (ReadsFault Exps ts (all_lang ts u) exps_goes u.above (i + 1)) f →
    IfFault (ReadsFault Stat ts (stat_lang ts w) (goes_after (class_at ts i)) w.above i) f
return_fault ts w {u} i f here room goes e x =
    under_fault {K = all_kind ts w} {r = λ es. Done (ReturnS (tok_at ts i).line es)} w.above (return_some ts w i here goes) (omega (arith, room)) f (all_failed ts u (under w) (i + 1) f e x) (λ y. follows_done ts (goes_after (class_at ts i)) exps_goes _ (return_ends ts i here))

pub return_stands : (ts : List Token) (w : Context) {u : Context} (i : ℕ) {q h : ℕ} {x : Exps} → class_at ts i ≡ Return → w.above ≤ 200 → last_goes (class_at ts (i + 1)) ≡ true → u ≡ under w → ReadsNonEmpty Exps ts (all_lang ts u) exps_goes u.above (i + 1) x q h →
    ReadsNonEmpty Stat ts (stat_lang ts w) (goes_after (class_at ts i)) w.above i (ReturnS (tok_at ts i).line x) q (1 + h)
return_stands ts w {u} i {q} {h} {x} here room goes e s =
    whole w.above (1 + h) (under_step {K = all_kind ts w} {r = λ es. Done (ReturnS (tok_at ts i).line es)} (return_some ts w i here goes) (omega arith) (all_reading {v = under w} e s).reading (λ y. follows_done ts (goes_after (class_at ts i)) exps_goes _ (return_ends ts i here)))
    s.reading.inside (omega (arith, s.grows)) (omega arith) (omega (arith, room, (all_reading {v = under w} e s).reading.height))

-- The exits of `local`, `for` and `if`.
use Rattle.std.proofs.Common.{◌≡◌, ◌≢◌, ℕ, suc, ◌∷◌, ◌-◌, ◌+◌, ◌<◌, ◌≤◌, max, Bool, false, List, length, refl, sym, ap, subst, ◌∙◌, arith}
use Rattle.lua_lexer.specs.declared.token.Token.{Token}
use Rattle.lua_grammar.specs.declared.TokenClass.{TokenClass}
use Rattle.lua_grammar.specs.declared.TokenClass.TheVariants.{Name, Function, Local, Assign, Comma}
use Rattle.lua_grammar.specs.declared.Context.{Context}
use Rattle.lua_grammar.specs.Tokens.{class_at, tok_at, bytes_of}
use Rattle.lua_syntax.specs.Tree.{Exps, Fun, Block, Stat, NoExp, LocalFunctionS, LocalS}
use Rattle.lua_grammar.specs.Grammar.{under}
use Rattle.lua_reading.specs.declared.answer.Fault.{Fault}
use Rattle.lua_reading.specs.declared.answer.Fault.TheVariants.{At, NoMemory}
use Rattle.lua_reading.specs.Parsing.{Lang, ReadsTree, ReadsFault, HasOneEnd, stat_lang, all_lang, exps_goes, stat_goes, names_goes, goes_after, nothing}
use Rattle.lua_reading.specs.Answers.{IfFault, ReadsNonEmpty, body_lang}
use Rattle.lua_reading.specs.StatAnswers.{more_names_lang, do_lang}
use Rattle.lua_reading.proofs.pieces.Steps.{Rest, Done, Named, Here, Under, Left, Kind, Follows, Closed, word_step, named_step, named_fails, here_step, here_fails, under_step, first_way, second_way, word_closed, done_closed, follows_word, follows_done, follows_either, follows_nothing}
use Rattle.lua_reading.proofs.pieces.Kinds.{all_kind, body_kind}
use Rattle.lua_reading.proofs.statements.Begins.{behind_word}
use Rattle.lua_reading.proofs.statements.PlainExits.{whole, under_fault}
use Rattle.lua_reading.proofs.lists.Names.{at_place, more_names_kind, names_broken}
use Rattle.lua_reading.proofs.statements.Forms.{local_names_rest, local_values_rest, local_starts}

pub here_fault : {S X : Type 0} {ts : List Token} {L : S → Lang} {goes : TokenClass → Bool} {i m h : ℕ} {K : Kind X} {r : X → Rest S} (a : ℕ) →
    Left S ts L goes i (Here X K r) m h → h ≤ 201 - a → (f : Fault) → IfFault (ReadsFault X ts K.lang K.goes a m) f → ((x : X) → Follows ts goes K.goes (r x)) → IfFault (ReadsFault S ts L goes a i) f
here_fault {S} {X} {ts} {L} {goes} {i} {m} {h} {K} {r} a s fits NoMemory w fol = tt
here_fault {S} {X} {ts} {L} {goes} {i} {m} {h} {K} {r} a s fits (At f) w fol = here_fails s fits w fol

pub names_failed : (ts : List Token) (a i : ℕ) (f : Fault) → IfFault (ReadsFault (List (List ℕ)) ts (more_names_lang ts) names_goes 0 i) f → IfFault (ReadsFault (List (List ℕ)) ts (more_names_lang ts) names_goes a i) f
names_failed ts a i NoMemory x = tt
names_failed ts a i (At f) x = names_broken a x

pub named_closed : {S : Type 0} (ts : List Token) (goes : TokenClass → Bool) (m : ℕ) (w : TokenClass) (r : List ℕ → Rest S) → class_at ts m ≢ w → Closed ts goes m (Named w r)
named_closed {S} ts goes m w r ne s b n f j lt x st = ne (x.2.0 lt).0

pub fun_reading : {ts : List Token} {u v : Context} {m q h : ℕ} {x : Fun} → u ≡ v → ReadsNonEmpty Fun ts (body_lang false ts u) nothing u.above m x q h → ReadsNonEmpty Fun ts (body_lang false ts v) nothing v.above m x q h
fun_reading {ts} {u} {v} {m} {q} {h} {x} e s = subst (λ (y : Context). ReadsNonEmpty Fun ts (body_lang false ts y) nothing y.above m x q h) e s

pub fun_failed : (ts : List Token) (u v : Context) (m : ℕ) (f : Fault) → u ≡ v → IfFault (ReadsFault Fun ts (body_lang false ts u) nothing u.above m) f → IfFault (ReadsFault Fun ts (body_lang false ts v) nothing v.above m) f
fun_failed ts u v m f e s = subst (λ (y : Context). IfFault (ReadsFault Fun ts (body_lang false ts y) nothing y.above m) f) e s

pub do_reading : {ts : List Token} {u v : Context} {m q h : ℕ} {x : Block} → u ≡ v → ReadsNonEmpty Block ts (do_lang ts u) nothing u.above m x q h → ReadsNonEmpty Block ts (do_lang ts v) nothing v.above m x q h
do_reading {ts} {u} {v} {m} {q} {h} {x} e s = subst (λ (y : Context). ReadsNonEmpty Block ts (do_lang ts y) nothing y.above m x q h) e s

pub do_failed : (ts : List Token) (u v : Context) (m : ℕ) (f : Fault) → u ≡ v → IfFault (ReadsFault Block ts (do_lang ts u) nothing u.above m) f → IfFault (ReadsFault Block ts (do_lang ts v) nothing v.above m) f
do_failed ts u v m f e s = subst (λ (y : Context). IfFault (ReadsFault Block ts (do_lang ts y) nothing y.above m) f) e s

-- ---- local function

abbrev pub named_fun : List Token → Context → ℕ → List ℕ → Rest Stat
named_fun ts w i x = Under Fun (body_kind false ts w) (λ v. Done (LocalFunctionS (tok_at ts i).line x v))

pub local_fun : (ts : List Token) (w : Context) (goes : TokenClass → Bool) (i : ℕ) → class_at ts i ≡ Local → class_at ts (i + 1) ≡ Function → Left Stat ts (stat_lang ts w) goes i (Named Name (named_fun ts w i)) (i + 2) 1
local_fun ts w goes i here next =
    at_place (i + 2) (omega arith) (word_step (first_way (local_starts ts w goes i here) (named_closed ts goes (i + 1) Name (λ x. Here (List (List ℕ)) (more_names_kind ts) (λ xs. local_values_rest ts w (tok_at ts i).line (x ∷ xs))) (λ e. other (sym next ∙ e)))) next)
  where
    other : Function ≢ Name
    other e = cc

pub third_inside : (ts : List Token) (i : ℕ) → HasOneEnd ts → i < length ts → class_at ts i ≡ Local → class_at ts (i + 1) ≡ Function → i + 2 < length ts
third_inside ts i ended inside here next = let a = behind_word ts (i + 1) Function ended (behind_word ts i Local ended inside here refl) next refl in omega (arith, a)

pub local_fun_unnamed : (ts : List Token) (w : Context) (goes : TokenClass → Bool) (i : ℕ) → HasOneEnd ts → i < length ts → w.above ≤ 200 → class_at ts i ≡ Local → class_at ts (i + 1) ≡ Function → class_at ts (i + 2) ≢ Name →
    ReadsFault Stat ts (stat_lang ts w) goes w.above i 5 (i + 2)
local_fun_unnamed ts w goes i ended inside room here next ne =
    named_fails (local_fun ts w goes i here next) (omega (arith, room)) (third_inside ts i ended inside here next) ne

pub local_fun_body : (ts : List Token) (w : Context) (goes : TokenClass → Bool) (i : ℕ) → class_at ts i ≡ Local → class_at ts (i + 1) ≡ Function → class_at ts (i + 2) ≡ Name →
    Left Stat ts (stat_lang ts w) goes i (named_fun ts w i (bytes_of (tok_at ts (i + 2)))) (i + 3) 1
local_fun_body ts w goes i here next name = at_place (i + 3) (omega arith) (named_step {r = named_fun ts w i} (local_fun ts w goes i here next) name)

pub local_fun_fault : (ts : List Token) (w : Context) (goes : TokenClass → Bool) (i : ℕ) (f : Fault) → w.above ≤ 200 → class_at ts i ≡ Local → class_at ts (i + 1) ≡ Function → class_at ts (i + 2) ≡ Name →
    IfFault (ReadsFault Fun ts (body_lang false ts (under w)) nothing (suc w.above) (i + 3)) f → IfFault (ReadsFault Stat ts (stat_lang ts w) goes w.above i) f
local_fun_fault ts w goes i f room here next name x =
    under_fault {K = body_kind false ts w} {r = λ v. Done (LocalFunctionS (tok_at ts i).line (bytes_of (tok_at ts (i + 2))) v)} w.above (local_fun_body ts w goes i here next name) (omega (arith, room)) f x (λ v. follows_nothing ts goes _)

pub local_fun_stands : (ts : List Token) (w : Context) (goes : TokenClass → Bool) (i : ℕ) {q h : ℕ} {v : Fun} → w.above ≤ 200 → class_at ts i ≡ Local → class_at ts (i + 1) ≡ Function → class_at ts (i + 2) ≡ Name →
    ReadsNonEmpty Fun ts (body_lang false ts (under w)) nothing (suc w.above) (i + 3) v q h → ReadsNonEmpty Stat ts (stat_lang ts w) goes w.above i (LocalFunctionS (tok_at ts i).line (bytes_of (tok_at ts (i + 2))) v) q (1 + h)
local_fun_stands ts w goes i {q} {h} {v} room here next name s =
    whole w.above (1 + h) (under_step {K = body_kind false ts w} {r = λ v. Done (LocalFunctionS (tok_at ts i).line (bytes_of (tok_at ts (i + 2))) v)} (local_fun_body ts w goes i here next name) (omega arith) s.reading (λ v. follows_nothing ts goes _))
    s.reading.inside (omega (arith, s.grows)) (omega arith) (omega (arith, room, s.reading.height))

-- ---- local names

pub local_plain : (ts : List Token) (w : Context) (goes : TokenClass → Bool) (i : ℕ) → class_at ts i ≡ Local → class_at ts (i + 1) ≢ Function → Left Stat ts (stat_lang ts w) goes i (local_names_rest ts w (tok_at ts i).line) (i + 1) 1
local_plain ts w goes i here ne = second_way (local_starts ts w goes i here) (word_closed ts goes (i + 1) Function (Named Name (named_fun ts w i)) ne)

pub local_unnamed : (ts : List Token) (w : Context) (goes : TokenClass → Bool) (i : ℕ) → HasOneEnd ts → i < length ts → w.above ≤ 200 → class_at ts i ≡ Local → class_at ts (i + 1) ≢ Function → class_at ts (i + 1) ≢ Name →
    ReadsFault Stat ts (stat_lang ts w) goes w.above i 5 (i + 1)
local_unnamed ts w goes i ended inside room here plain ne =
    named_fails (local_plain ts w goes i here plain) (omega (arith, room)) (behind_word ts i Local ended inside here refl) ne

pub stat_names : (s : TokenClass) → stat_goes s ≡ false → names_goes s ≡ false
stat_names Comma e = e
stat_names s e = refl

pub stat_exps : (s : TokenClass) → stat_goes s ≡ false → exps_goes s ≡ false
stat_exps Comma e = e
stat_exps Assign e = refl
stat_exps s e = e

pub local_ends : (ts : List Token) (i : ℕ) → class_at ts i ≡ Local → (s : TokenClass) → goes_after (class_at ts i) s ≡ false → stat_goes s ≡ false
local_ends ts i here s e = sym (ap (λ (y : TokenClass). goes_after y s) here) ∙ e

abbrev pub local_list : List Token → Context → ℕ → List (List ℕ) → Rest Stat
local_list ts w i xs = local_values_rest ts w (tok_at ts i).line (bytes_of (tok_at ts (i + 1)) ∷ xs)

pub local_follows : (ts : List Token) (w : Context) (i : ℕ) → class_at ts i ≡ Local → (xs : List (List ℕ)) → Follows ts (goes_after (class_at ts i)) names_goes (local_list ts w i xs)
local_follows ts w i here xs =
    follows_either ts (goes_after (class_at ts i)) names_goes _ _ (follows_done ts (goes_after (class_at ts i)) names_goes _ (λ s e. stat_names s (local_ends ts i here s e))) (follows_word ts (goes_after (class_at ts i)) names_goes Assign _ refl)

pub local_first : (ts : List Token) (w : Context) (i : ℕ) → class_at ts i ≡ Local → class_at ts (i + 1) ≢ Function → class_at ts (i + 1) ≡ Name →
    Left Stat ts (stat_lang ts w) (goes_after (class_at ts i)) i (Here (List (List ℕ)) (more_names_kind ts) (local_list ts w i)) (i + 1 + 1) 1
local_first ts w i here plain name =
    named_step {r = λ x. Here (List (List ℕ)) (more_names_kind ts) (λ xs. local_values_rest ts w (tok_at ts i).line (x ∷ xs))} (local_plain ts w (goes_after (class_at ts i)) i here plain) name

pub local_names_fault : (ts : List Token) (w : Context) (i : ℕ) (f : Fault) → w.above ≤ 200 → class_at ts i ≡ Local → class_at ts (i + 1) ≢ Function → class_at ts (i + 1) ≡ Name →
    IfFault (ReadsFault (List (List ℕ)) ts (more_names_lang ts) names_goes 0 (i + 1 + 1)) f → IfFault (ReadsFault Stat ts (stat_lang ts w) (goes_after (class_at ts i)) w.above i) f
local_names_fault ts w i f room here plain name x =
    here_fault {K = more_names_kind ts} {r = local_list ts w i} w.above (local_first ts w i here plain name) (omega (arith, room)) f (names_failed ts w.above (i + 1 + 1) f x) (local_follows ts w i here)

pub local_named : (ts : List Token) (w : Context) (i : ℕ) {q : ℕ} {ms : List (List ℕ)} → class_at ts i ≡ Local → class_at ts (i + 1) ≢ Function → class_at ts (i + 1) ≡ Name →
    ReadsTree (List (List ℕ)) ts (more_names_lang ts) names_goes 0 (i + 1 + 1) ms q 0 → Left Stat ts (stat_lang ts w) (goes_after (class_at ts i)) i (local_list ts w i ms) q (max 1 0)
local_named ts w i {q} {ms} here plain name s = here_step {K = more_names_kind ts} {r = local_list ts w i} (local_first ts w i here plain name) s (local_follows ts w i here)

pub local_names_stand : (ts : List Token) (w : Context) (i : ℕ) {q : ℕ} {ms xs : List (List ℕ)} → w.above ≤ 200 → class_at ts i ≡ Local → class_at ts (i + 1) ≢ Function → class_at ts (i + 1) ≡ Name →
    xs ≡ bytes_of (tok_at ts (i + 1)) ∷ ms → ReadsTree (List (List ℕ)) ts (more_names_lang ts) names_goes 0 (i + 1 + 1) ms q 0 → class_at ts q ≢ Assign →
    ReadsNonEmpty Stat ts (stat_lang ts w) (goes_after (class_at ts i)) w.above i (LocalS (tok_at ts i).line xs NoExp) q 1
local_names_stand ts w i {q} {ms} {xs} room here plain name e s ne =
    subst (λ (y : List (List ℕ)). ReadsNonEmpty Stat ts (stat_lang ts w) (goes_after (class_at ts i)) w.above i (LocalS (tok_at ts i).line y NoExp) q 1) (sym e)
    (whole w.above 1 (first_way (local_named ts w i here plain name s) (word_closed ts (goes_after (class_at ts i)) q Assign (Under Exps (all_kind ts w) (λ es. Done (LocalS (tok_at ts i).line (bytes_of (tok_at ts (i + 1)) ∷ ms) es))) ne)) s.inside (omega (arith, s.ordered)) (omega arith) (omega (arith, room)))

pub local_values : (ts : List Token) (w : Context) (i : ℕ) {q : ℕ} {ms : List (List ℕ)} → class_at ts i ≡ Local → class_at ts (i + 1) ≢ Function → class_at ts (i + 1) ≡ Name →
    ReadsTree (List (List ℕ)) ts (more_names_lang ts) names_goes 0 (i + 1 + 1) ms q 0 → class_at ts q ≡ Assign →
    Left Stat ts (stat_lang ts w) (goes_after (class_at ts i)) i (Under Exps (all_kind ts w) (λ es. Done (LocalS (tok_at ts i).line (bytes_of (tok_at ts (i + 1)) ∷ ms) es))) (q + 1) (max 1 0)
local_values ts w i {q} {ms} here plain name s a =
    word_step (second_way (local_named ts w i here plain name s) (done_closed ts (goes_after (class_at ts i)) q _ (ap (λ (y : TokenClass). goes_after y (class_at ts q)) here ∙ ap stat_goes a))) a

pub local_values_fault : (ts : List Token) (w : Context) (i : ℕ) (f : Fault) {q : ℕ} {ms : List (List ℕ)} → w.above ≤ 200 → class_at ts i ≡ Local → class_at ts (i + 1) ≢ Function → class_at ts (i + 1) ≡ Name →
    ReadsTree (List (List ℕ)) ts (more_names_lang ts) names_goes 0 (i + 1 + 1) ms q 0 → class_at ts q ≡ Assign →
    IfFault (ReadsFault Exps ts (all_lang ts (under w)) exps_goes (suc w.above) (q + 1)) f → IfFault (ReadsFault Stat ts (stat_lang ts w) (goes_after (class_at ts i)) w.above i) f
local_values_fault ts w i f {q} {ms} room here plain name s a x =
    under_fault {K = all_kind ts w} {r = λ es. Done (LocalS (tok_at ts i).line (bytes_of (tok_at ts (i + 1)) ∷ ms) es)} w.above (local_values ts w i here plain name s a) (omega (arith, room)) f x
    (λ y. follows_done ts (goes_after (class_at ts i)) exps_goes _ (λ t e. stat_exps t (local_ends ts i here t e)))

pub local_stands : (ts : List Token) (w : Context) (i : ℕ) {q p h : ℕ} {ms xs : List (List ℕ)} {es : Exps} → w.above ≤ 200 → class_at ts i ≡ Local → class_at ts (i + 1) ≢ Function → class_at ts (i + 1) ≡ Name →
    xs ≡ bytes_of (tok_at ts (i + 1)) ∷ ms → ReadsTree (List (List ℕ)) ts (more_names_lang ts) names_goes 0 (i + 1 + 1) ms q 0 → class_at ts q ≡ Assign →
    ReadsNonEmpty Exps ts (all_lang ts (under w)) exps_goes (suc w.above) (q + 1) es p h → ReadsNonEmpty Stat ts (stat_lang ts w) (goes_after (class_at ts i)) w.above i (LocalS (tok_at ts i).line xs es) p (1 + h)
local_stands ts w i {q} {p} {h} {ms} {xs} {es} room here plain name e s a x =
    subst (λ (y : List (List ℕ)). ReadsNonEmpty Stat ts (stat_lang ts w) (goes_after (class_at ts i)) w.above i (LocalS (tok_at ts i).line y es) p (1 + h)) (sym e)
    (whole w.above (1 + h) (under_step {K = all_kind ts w} {r = λ es. Done (LocalS (tok_at ts i).line (bytes_of (tok_at ts (i + 1)) ∷ ms) es)} (local_values ts w i here plain name s a) (omega arith) x.reading
    (λ y. follows_done ts (goes_after (class_at ts i)) exps_goes _ (λ t e. stat_exps t (local_ends ts i here t e))))
    x.reading.inside (omega (arith, s.ordered, x.grows)) (omega arith) (omega (arith, room, x.reading.height)))

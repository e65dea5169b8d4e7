-- The exits of assignments and calls.
use Rattle.std.proofs.Common.{◌≡◌, ◌≢◌, ℕ, suc, [], ◌∷◌, ◌++◌, ◌-◌, ◌+◌, ◌<◌, ◌≤◌, max, Bool, true, false, List, length, refl, sym, ap, subst, ◌∙◌, arith, true≢false, le_refl}
use Rattle.lua_lexer.specs.declared.token.Token.{Token}
use Rattle.lua_syntax.specs.declared.Expr.{Expr}
use Rattle.lua_grammar.specs.declared.TokenClass.{TokenClass}
use Rattle.lua_grammar.specs.declared.TokenClass.TheVariants.{Name, Assign, Comma, LeftParen}
use Rattle.lua_grammar.specs.declared.Context.{Context}
use Rattle.lua_grammar.specs.Tokens.{class_at, tok_at, bytes_of}
use Rattle.lua_syntax.specs.Tree.{Exp, Exps, Stat, NameE, IndexE, CallE, MethodE, ParenE, TextE, NoExp, MoreExp, AssignS, CallS}
use Rattle.lua_grammar.specs.Grammar.{given_tokens, under, suffix_goes, Spells, IsPrefix, IsVar, IsCall}
use Rattle.lua_syntax.specs.View.{expr_view, exprs_view}
use Rattle.lua_reading.specs.declared.answer.Fault.{Fault}
use Rattle.lua_reading.specs.Parsing.{ReadsFault, high, stat_lang, prefix_lang, all_lang, exps_goes, goes_after, ReadsPrefix}
use Rattle.lua_reading.specs.Answers.{IfFault, ReadsNonEmpty}
use Rattle.lua_reading.specs.StatAnswers.{Opening, IsSimple, is_call, is_var}
use Rattle.lua_reading.proofs.pieces.Steps.{Rest, Done, Under, Reads, Left, opens, word_step, word_fails, under_step, under_fails, first_way, second_way, word_closed, follows_done, follows_nothing}
use Rattle.lua_reading.proofs.pieces.Kinds.{all_kind, open_name}
use Rattle.lua_reading.proofs.statements.PlainExits.{whole, under_fault, stat_deep}
use Rattle.lua_reading.proofs.lists.Names.{same_rest}
use Rattle.lua_reading.proofs.statements.FormExits.{stat_exps}
use Rattle.lua_reading.proofs.statements.SimpleSteps.{simples, targets, chosen_kind, chosen_reading, chosen_failed, not_chosen, may_index, more_vars_kind, values_rest, first_target, add_exps, add_one_exp, all_exps, targets_rest, next_target, target_split, behind_simple, simple_starts}

pub prefix_reading : {ts : List Token} {u v : Context} {m q h : ℕ} {x : Exp} → u ≡ v → ReadsPrefix ts u m x q h → ReadsPrefix ts v m x q h
prefix_reading {ts} {u} {v} {m} {q} {h} {x} e s = subst (λ (y : Context). ReadsPrefix ts y m x q h) e s

pub prefix_failed : (ts : List Token) (u v : Context) (m : ℕ) (f : Fault) → u ≡ v → IfFault (ReadsFault Exp ts (prefix_lang ts u) suffix_goes u.above m) f → IfFault (ReadsFault Exp ts (prefix_lang ts v) suffix_goes v.above m) f
prefix_failed ts u v m f e s = subst (λ (y : Context). IfFault (ReadsFault Exp ts (prefix_lang ts y) suffix_goes y.above m) f) e s

-- ---- the test functions

pub call_is : (e : Exp) → is_call e ≡ true → IsCall e
call_is (CallE l t es) x = tt
call_is (MethodE l t y es) x = tt
call_is e x = absurd (true≢false (sym x))

pub call_not : (e : Exp) → is_call e ≡ false → IsCall e → ⊥
call_not (CallE l t es) x y = true≢false x
call_not (MethodE l t z es) x y = true≢false x
call_not e x y = absurd y

pub var_is : (e : Exp) → is_var e ≡ true → IsVar e
var_is (NameE l y) x = tt
var_is (IndexE l t k) x = tt
var_is e x = absurd (true≢false (sym x))

pub var_not : (e : Exp) → is_var e ≡ false → IsVar e → ⊥
var_not (NameE l z) x y = true≢false x
var_not (IndexE l t k) x y = true≢false x
var_not e x y = absurd y

pub not_simple : (e : Exp) → (IsCall e → ⊥) → (IsVar e → ⊥) → IsSimple e → ⊥
not_simple (NameE l x) c v y = v tt
not_simple (IndexE l t k) c v y = v tt
not_simple (CallE l t es) c v y = c tt
not_simple (MethodE l t x es) c v y = c tt
not_simple e c v y = absurd y

pub call_rest : (ts : List Token) (w : Context) (line : ℕ) (e : Exp) → IsCall e → behind_simple ts w line e ≡ Done (CallS line e)
call_rest ts w line (CallE l t es) c = refl
call_rest ts w line (MethodE l t x es) c = refl
call_rest ts w line e c = absurd c

pub var_rest : (ts : List Token) (w : Context) (line : ℕ) (e : Exp) → IsVar e → behind_simple ts w line e ≡ first_target ts w line e
var_rest ts w line (NameE l x) c = refl
var_rest ts w line (IndexE l t k) c = refl
var_rest ts w line e c = absurd c

pub is_simple_call : (e : Exp) → IsCall e → IsSimple e
is_simple_call (CallE l t es) v = tt
is_simple_call (MethodE l t x es) v = tt
is_simple_call e v = absurd v

pub is_simple_var : (e : Exp) → IsVar e → IsSimple e
is_simple_var (NameE l x) v = tt
is_simple_var (IndexE l t k) v = tt
is_simple_var e v = absurd v

-- ---- the node is too deep

pub simple_deep : (ts : List Token) (w : Context) (goes : TokenClass → Bool) (i : ℕ) → Opening (class_at ts i) → i < length ts → 200 < w.above → ReadsFault Stat ts (stat_lang ts w) goes w.above i 7 i
unfolding Spells
simple_deep ts w goes i o inside over = stat_deep ts w goes i (λ f le lt. some f le lt (class_at ts i) refl o) inside over
  where
    built : (f : ℕ) → f < 7 → (x : Exp) (q : ℕ) → suc i ≤ q → IsPrefix x → Spells (given_tokens ts (suc i) f) (high w (suc w.above)) 10 x i q → (s : Stat) × (j : ℕ) × (suc i ≤ j) × stat_lang ts w s w.above (suc i) f i j
    built f lt x q le p sp =
        let e = IndexE (tok_at ts q).line x (TextE (tok_at ts (suc q)).line []) in
        let r = opens ts (behind_simple ts w (tok_at ts i).line e) w.above (suc i) f (suc (suc q)) (omega (arith, le)) in
        (r.0, r.1, r.2, (simple_starts ts w goes i o).up r.0 w.above (suc i) f r.1 (λ y. absurd (omega (arith, y, lt))) (e, suc (suc q), (tt, may_index ts w (suc i) f (suc w.above) x i q le p sp), r.3))

    some : (f : ℕ) → 5 ≤ f → f < 7 → (s : TokenClass) → class_at ts i ≡ s → Opening s → (x : Stat) × (j : ℕ) × (suc i ≤ j) × stat_lang ts w x w.above (suc i) f i j
    some f le lt Name here z =
        built f lt (NameE (tok_at ts i).line (bytes_of (tok_at ts i))) (suc i) (le_refl (suc i)) tt (i, (refl, (λ e y. absurd (omega (arith, e, lt))), refl), (suc i, ((λ y. (here, refl)), refl), ((λ l y. absurd (omega (arith, l))), refl)))
    some f le lt LeftParen here z =
        built f lt (ParenE (tok_at ts i).line (NameE (tok_at ts (suc i)).line [])) (suc (suc (suc i))) (omega arith) tt
        (i, (refl, (λ e y. absurd (omega (arith, e, lt))), refl), (suc i, ((λ y. here), refl), (suc (suc i), open_name ts w (suc i) f (suc (suc w.above)) 1 (suc i) (le_refl (suc i)), (suc (suc (suc i)), ((λ y. absurd (omega (arith, y))), refl), ((λ l y. absurd (omega (arith, l))), refl)))))
    some f le lt s here z = absurd z

-- ---- the first prefix expression

pub simple_fault : (ts : List Token) (w : Context) (goes : TokenClass → Bool) (i : ℕ) (f : Fault) → w.above ≤ 200 → Opening (class_at ts i) → IfFault (ReadsFault Exp ts (prefix_lang ts (under w)) suffix_goes (suc w.above) i) f → IfFault (ReadsFault Stat ts (stat_lang ts w) goes w.above i) f
simple_fault ts w goes i f room o x =
    under_fault {K = chosen_kind simples ts w} {r = behind_simple ts w (tok_at ts i).line} w.above (simple_starts ts w goes i o) (omega (arith, room)) f (chosen_failed simples ts w (suc w.above) i f x) (λ e. follows_nothing ts goes _)

pub simple_not : (ts : List Token) (w : Context) (goes : TokenClass → Bool) (i : ℕ) {q h : ℕ} {x : Exp} → w.above ≤ 200 → Opening (class_at ts i) → ReadsPrefix ts (under w) i x q h → (IsCall x → ⊥) → (IsVar x → ⊥) → ReadsFault Stat ts (stat_lang ts w) goes w.above i 5 q
simple_not ts w goes i {q} {h} {x} room o s c v =
    under_fails {K = chosen_kind simples ts w} {r = behind_simple ts w (tok_at ts i).line} (simple_starts ts w goes i o) (omega (arith, room)) (not_chosen simples {w = under w} (not_simple x c v) s) (λ e. follows_nothing ts goes _)

pub simple_call : (ts : List Token) (w : Context) (goes : TokenClass → Bool) (i : ℕ) {q h : ℕ} {x : Exp} → w.above ≤ 200 → Opening (class_at ts i) → ReadsPrefix ts (under w) i x q h → IsCall x → ReadsNonEmpty Stat ts (stat_lang ts w) goes w.above i (CallS (tok_at ts i).line x) q (1 + h)
simple_call ts w goes i {q} {h} {x} room o s c =
    whole w.above (1 + h)
    (subst (λ (r : Rest Stat). Left Stat ts (stat_lang ts w) goes i r q (max 1 (1 + h))) (call_rest ts w (tok_at ts i).line x c)
    (under_step {K = chosen_kind simples ts w} {r = behind_simple ts w (tok_at ts i).line} (simple_starts ts w goes i o) (omega arith) (chosen_reading simples {w = under w} (is_simple_call x c) s) (λ e. follows_nothing ts goes _)))
    s.reading.inside (s.grows) (omega arith) (omega (arith, room, s.reading.height))

-- ---- assignments

-- These targets have been read.
pub record TargetsRead (ts : List Token) (w : Context) (goes : TokenClass → Bool) (i : ℕ) (ys : List Expr) (m h : ℕ) : Type 0 where
  pub left : Left Stat ts (stat_lang ts w) goes i (targets_rest ts w (tok_at ts i).line ys) m h
  pub inside : m < length ts
  pub grows : i < m
  pub room : w.above ≤ 200
  pub some_node : 1 ≤ h
  pub fits : h ≤ 201 - w.above

pub targets_first : (ts : List Token) (w : Context) (goes : TokenClass → Bool) (i : ℕ) {q h : ℕ} (x : Expr) (old new : List Expr) → w.above ≤ 200 → Opening (class_at ts i) → ReadsPrefix ts (under w) i (expr_view x) q h → IsVar (expr_view x) → old ≡ [] → new ≡ old ++ x ∷ [] → TargetsRead ts w goes i new q (1 + h)
targets_first ts w goes i {q} {h} x old new room o s v empty is = record {
  left =
      subst (λ (y : List Expr). Left Stat ts (stat_lang ts w) goes i (targets_rest ts w (tok_at ts i).line y) q (1 + h)) (sym (is ∙ ap (λ (y : List Expr). y ++ x ∷ []) empty))
      (subst (λ (y : ℕ). Left Stat ts (stat_lang ts w) goes i (first_target ts w (tok_at ts i).line (expr_view x)) q y) same
      (subst (λ (r : Rest Stat). Left Stat ts (stat_lang ts w) goes i r q (max 1 (1 + h))) (var_rest ts w (tok_at ts i).line (expr_view x) v)
      (under_step {K = chosen_kind simples ts w} {r = behind_simple ts w (tok_at ts i).line} (simple_starts ts w goes i o) (omega arith) (chosen_reading simples {w = under w} (is_simple_var (expr_view x) v) s) (λ e. follows_nothing ts goes _))));
  inside = s.reading.inside;
  grows = s.grows;
  room = room;
  some_node = omega arith;
  fits = omega (arith, room, s.reading.height);
}
  where
    same : max 1 (1 + h) ≡ 1 + h
    same = omega arith

pub target_none : {ts : List Token} {w : Context} {goes : TokenClass → Bool} {i m h : ℕ} {ys : List Expr} → TargetsRead ts w goes i ys m h → class_at ts m ≢ Assign → class_at ts m ≢ Comma → ReadsFault Stat ts (stat_lang ts w) goes w.above i 5 m
target_none {ts} {w} {goes} {i} {m} {h} {ys} r na nc =
    word_fails (first_way (target_split w (tok_at ts i).line ys r.left) (word_closed ts goes m Comma (next_target ts w (tok_at ts i).line ys) nc)) r.fits r.inside na

pub target_comma : {ts : List Token} {w : Context} {goes : TokenClass → Bool} {i m h : ℕ} {ys : List Expr} → TargetsRead ts w goes i ys m h → class_at ts m ≡ Comma → Left Stat ts (stat_lang ts w) goes i (next_target ts w (tok_at ts i).line ys) (m + 1) h
target_comma {ts} {w} {goes} {i} {m} {h} {ys} r c =
    word_step (second_way (target_split w (tok_at ts i).line ys r.left) (word_closed ts goes m Assign (Under Exps (all_kind ts w) (λ es. Done (AssignS (tok_at ts i).line (add_exps ys NoExp) es))) (λ e. other (sym c ∙ e)))) c
  where
    other : Comma ≢ Assign
    other e = cc

pub target_fault : {ts : List Token} {w : Context} {goes : TokenClass → Bool} {i m h : ℕ} {ys : List Expr} (f : Fault) → TargetsRead ts w goes i ys m h → class_at ts m ≡ Comma → IfFault (ReadsFault Exp ts (prefix_lang ts (under w)) suffix_goes (suc w.above) (m + 1)) f →
    IfFault (ReadsFault Stat ts (stat_lang ts w) goes w.above i) f
target_fault {ts} {w} {goes} {i} {m} {h} {ys} f r c x =
    under_fault {K = chosen_kind targets ts w} {r = λ y. Under Exps (more_vars_kind ts w) (λ xs. values_rest ts w (tok_at ts i).line (add_exps ys (MoreExp y xs)))} w.above (target_comma r c) r.fits f (chosen_failed targets ts w (suc w.above) (m + 1) f x) (λ e. follows_nothing ts goes _)

pub target_not : {ts : List Token} {w : Context} {goes : TokenClass → Bool} {i m h q g : ℕ} {ys : List Expr} {x : Exp} → TargetsRead ts w goes i ys m h → class_at ts m ≡ Comma → ReadsPrefix ts (under w) (m + 1) x q g → (IsVar x → ⊥) → ReadsFault Stat ts (stat_lang ts w) goes w.above i 5 q
target_not {ts} {w} {goes} {i} {m} {h} {q} {g} {ys} {x} r c s v =
    under_fails {K = chosen_kind targets ts w} {r = λ y. Under Exps (more_vars_kind ts w) (λ xs. values_rest ts w (tok_at ts i).line (add_exps ys (MoreExp y xs)))} (target_comma r c) r.fits (not_chosen targets {w = under w} v s) (λ e. follows_nothing ts goes _)

pub target_more : {ts : List Token} {w : Context} {goes : TokenClass → Bool} {i m h q g : ℕ} {ys : List Expr} (x : Expr) (new : List Expr) (k : ℕ) → TargetsRead ts w goes i ys m h → class_at ts m ≡ Comma → ReadsPrefix ts (under w) (m + 1) (expr_view x) q g → IsVar (expr_view x) →
    new ≡ ys ++ x ∷ [] → k ≡ max h (1 + g) → TargetsRead ts w goes i new q k
target_more {ts} {w} {goes} {i} {m} {h} {q} {g} {ys} x new k r c s v is high' = record {
  left =
      subst (λ (y : ℕ). Left Stat ts (stat_lang ts w) goes i (targets_rest ts w (tok_at ts i).line new) q y) (sym high')
      (same_rest (targets_rest ts w (tok_at ts i).line new) read
      (λ s b n f j lt st z. (z.0, z.1, z.2, subst (λ (y : Exps). Reads ts (values_rest ts w (tok_at ts i).line y) s b n f z.1 j) (sym (same z.0)) z.3))
      (λ s b n f j z. (z.0, z.1, z.2, subst (λ (y : Exps). Reads ts (values_rest ts w (tok_at ts i).line y) s b n f z.1 j) (same z.0) z.3)));
  inside = s.reading.inside;
  grows = omega (arith, r.grows, s.grows);
  room = r.room;
  some_node = omega (arith, r.some_node, high');
  fits = omega (arith, high', r.fits, r.room, s.reading.height);
}
  where
    read : Left Stat ts (stat_lang ts w) goes i (Under Exps (more_vars_kind ts w) (λ xs. values_rest ts w (tok_at ts i).line (add_exps ys (MoreExp (expr_view x) xs)))) q (max h (1 + g))
    read =
        under_step {K = chosen_kind targets ts w} {r = λ y. Under Exps (more_vars_kind ts w) (λ xs. values_rest ts w (tok_at ts i).line (add_exps ys (MoreExp y xs)))} (target_comma r c) r.some_node (chosen_reading targets {w = under w} v s) (λ e. follows_nothing ts goes _)

    same : (xs : Exps) → add_exps new xs ≡ add_exps ys (MoreExp (expr_view x) xs)
    same xs = ap (λ (y : List Expr). add_exps y xs) is ∙ add_one_exp ys x xs

pub target_assign : {ts : List Token} {w : Context} {goes : TokenClass → Bool} {i m h : ℕ} {ys : List Expr} → TargetsRead ts w goes i ys m h → class_at ts m ≡ Assign → Left Stat ts (stat_lang ts w) goes i (Under Exps (all_kind ts w) (λ es. Done (AssignS (tok_at ts i).line (add_exps ys NoExp) es))) (m + 1) h
target_assign {ts} {w} {goes} {i} {m} {h} {ys} r a =
    word_step (first_way (target_split w (tok_at ts i).line ys r.left) (word_closed ts goes m Comma (next_target ts w (tok_at ts i).line ys) (λ e. other (sym a ∙ e)))) a
  where
    other : Assign ≢ Comma
    other e = cc

pub opening_ends : (first : TokenClass) → Opening first → (s : TokenClass) → goes_after first s ≡ false → exps_goes s ≡ false
opening_ends Name o s e = stat_exps s e
opening_ends LeftParen o s e = stat_exps s e
opening_ends first o s e = absurd o

pub values_fault : {ts : List Token} {w : Context} {i m h : ℕ} {ys : List Expr} (f : Fault) → Opening (class_at ts i) → TargetsRead ts w (goes_after (class_at ts i)) i ys m h → class_at ts m ≡ Assign → IfFault (ReadsFault Exps ts (all_lang ts (under w)) exps_goes (suc w.above) (m + 1)) f →
    IfFault (ReadsFault Stat ts (stat_lang ts w) (goes_after (class_at ts i)) w.above i) f
values_fault {ts} {w} {i} {m} {h} {ys} f o r a x =
    under_fault {K = all_kind ts w} {r = λ es. Done (AssignS (tok_at ts i).line (add_exps ys NoExp) es)} w.above (target_assign r a) r.fits f x (λ es. follows_done ts (goes_after (class_at ts i)) exps_goes _ (opening_ends (class_at ts i) o))

pub assign_stands : {ts : List Token} {w : Context} {i m h q g : ℕ} {ys : List Expr} {es : Exps} → Opening (class_at ts i) → TargetsRead ts w (goes_after (class_at ts i)) i ys m h → class_at ts m ≡ Assign → ReadsNonEmpty Exps ts (all_lang ts (under w)) exps_goes (suc w.above) (m + 1) es q g →
    ReadsNonEmpty Stat ts (stat_lang ts w) (goes_after (class_at ts i)) w.above i (AssignS (tok_at ts i).line (exprs_view ys) es) q (max h (1 + g))
assign_stands {ts} {w} {i} {m} {h} {q} {g} {ys} {es} o r a x =
    subst (λ (y : Exps). ReadsNonEmpty Stat ts (stat_lang ts w) (goes_after (class_at ts i)) w.above i (AssignS (tok_at ts i).line y es) q (max h (1 + g))) (sym (all_exps ys))
    (whole w.above (max h (1 + g)) (under_step {K = all_kind ts w} {r = λ es. Done (AssignS (tok_at ts i).line (add_exps ys NoExp) es)} (target_assign r a) r.some_node x.reading (λ es. follows_done ts (goes_after (class_at ts i)) exps_goes _ (opening_ends (class_at ts i) o)))
    x.reading.inside (omega (arith, r.grows, x.grows)) refl (omega (arith, r.fits, r.room, x.reading.height)))

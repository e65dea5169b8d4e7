-- Assignments and calls, which both begin with a prefix expression.
use Rattle.std.proofs.Common.{◌≡◌, ℕ, suc, [], ◌∷◌, ◌++◌, ◌-◌, ◌<◌, ◌≤◌, Bool, false, cond, List, refl, sym, ap, subst, ◌∙◌, inl, inr, arith, le_refl}
use Rattle.std.proofs.lemmas.Bool.{le-ltb}
use Rattle.lua_lexer.specs.declared.token.Token.{Token}
use Rattle.lua_syntax.specs.declared.Expr.{Expr}
use Rattle.lua_grammar.specs.declared.TokenClass.{TokenClass}
use Rattle.lua_grammar.specs.declared.TokenClass.TheVariants.{Name, Function, Assign, Comma, LeftParen}
use Rattle.lua_grammar.specs.declared.Context.{Context}
use Rattle.lua_grammar.specs.Tokens.{class_at, tok_at}
use Rattle.lua_syntax.specs.Tree.{Exp, Exps, Stat, NameE, IndexE, CallE, MethodE, ParenE, TextE, NoExp, MoreExp, FunctionE, AssignS, CallS}
use Rattle.lua_grammar.specs.Grammar.{given_tokens, under, before, ends, suffix_goes, Spells, SpellsAll, SpellsNamed, MoreExps, SpellsStat, IsPrefix, IsVar, IsCall, AreVars}
use Rattle.lua_syntax.specs.View.{expr_view, exprs_view}
use Rattle.lua_reading.specs.declared.answer.Fault.{Fault}
use Rattle.lua_reading.specs.declared.answer.Fault.TheVariants.{At, NoMemory}
use Rattle.lua_reading.specs.Parsing.{Lang, ReadsTree, Before, ReadsFault, high, stat_lang, prefix_lang, nothing, ReadsPrefix}
use Rattle.lua_reading.specs.Answers.{IfFault}
use Rattle.lua_reading.specs.StatAnswers.{Opening, IsSimple}
use Rattle.lua_reading.proofs.pieces.Steps.{Rest, Done, Word, Under, Either, Reads, Left, Kind, CanOpen}
use Rattle.lua_reading.proofs.pieces.Kinds.{all_kind, open_name}
use Rattle.lua_reading.proofs.statements.Begins.{Starts, stat_begins, stat_node, at_start, var_prefix}
use Rattle.lua_reading.proofs.lists.Names.{same_rest}

-- ---- levels of prefix expressions

pub ends_well : (ts : List Token) (n f l m j : ℕ) → l ≤ 9 → ends (given_tokens ts n f) l m j → j < n → suffix_goes (class_at ts j) ≡ false
ends_well ts n f l m j le d lt = subst (λ (y : ℕ). suffix_goes (class_at ts y) ≡ false) d.1 (d.0 le (subst (λ (y : ℕ). y < n) (sym d.1) lt))

pub new_end : (ts : List Token) (n f l v m j : ℕ) → ends (given_tokens ts n f) l m j → (j < n → suffix_goes (class_at ts j) ≡ false) → ends (given_tokens ts n f) v m j
new_end ts n f l v m j d h = ((λ le lt. subst (λ (y : ℕ). suffix_goes (class_at ts y) ≡ false) (sym d.1) (h (subst (λ (y : ℕ). y < n) d.1 lt))), d.1)

-- Where a prefix expression ends at a level up to 9, nothing goes on with it.
pub prefix_ends : (ts : List Token) (n f : ℕ) (w : Context) (l : ℕ) (e : Exp) (i j : ℕ) → l ≤ 9 → IsPrefix e → Spells (given_tokens ts n f) w l e i j → j < n → suffix_goes (class_at ts j) ≡ false
unfolding Spells
prefix_ends ts n f w l (NameE line x) i j le p d lt = ends_well ts n f l d.2.0 j le d.2.2 lt
prefix_ends ts n f w l (ParenE line x) i j le p d lt = let t = d.2.2.2 in ends_well ts n f l t.0 j le t.2 lt
prefix_ends ts n f w l (IndexE line t k) i j le p d lt = let t = d.3.2 in ends_well ts n f l t.0 j le t.2 lt
prefix_ends ts n f w l (CallE line t es) i j le p d lt = let t = d.3.2 in ends_well ts n f l t.0 j le t.2 lt
prefix_ends ts n f w l (MethodE line t x es) i j le p d lt = let t = d.3.2.2.2 in ends_well ts n f l t.0 j le t.2 lt
prefix_ends ts n f w l e i j le p d lt = absurd p

-- There it stands at any level.
pub relevel : (ts : List Token) (n f : ℕ) (w : Context) (l v : ℕ) (e : Exp) (i j : ℕ) → IsPrefix e → Spells (given_tokens ts n f) w l e i j → (j < n → suffix_goes (class_at ts j) ≡ false) → Spells (given_tokens ts n f) w v e i j
unfolding Spells
relevel ts n f w l v (NameE line x) i j p d h = (d.0, d.1, (d.2.0, d.2.1, new_end ts n f l v d.2.0 j d.2.2 h))
relevel ts n f w l v (ParenE line x) i j p d h = let t = d.2.2.2 in (d.0, d.1, (d.2.0, d.2.1, (d.2.2.0, d.2.2.1, (t.0, t.1, new_end ts n f l v t.0 j t.2 h))))
relevel ts n f w l v (IndexE line t k) i j p d h = let t = d.3.2 in (d.0, d.1, d.2, (d.3.0, d.3.1, (t.0, t.1, new_end ts n f l v t.0 j t.2 h)))
relevel ts n f w l v (CallE line t es) i j p d h = let t = d.3.2 in (d.0, d.1, d.2, (d.3.0, d.3.1, (t.0, t.1, new_end ts n f l v t.0 j t.2 h)))
relevel ts n f w l v (MethodE line t x es) i j p d h =
    let c = d.3.2 in
    let y = c.2 in
    let t = y.2 in
    (d.0, d.1, d.2, (d.3.0, d.3.1, (c.0, c.1, (y.0, y.1, (t.0, t.1, new_end ts n f l v t.0 j t.2 h)))))
relevel ts n f w l v e i j p d h = absurd p

-- ---- prefix expressions of some class

-- Names and indexes are of the class.
pub record Choice : Type 1 where
  pub is : Exp → Type 0
  pub prefix : (e : Exp) → is e → IsPrefix e
  pub name : (l : ℕ) (x : List ℕ) → is (NameE l x)
  pub index : (l : ℕ) (t k : Exp) → is (IndexE l t k)

abbrev pub chosen_lang : Choice → List Token → Context → Exp → Lang
chosen_lang c ts w x b n f i j = c.is x × Spells (given_tokens ts n f) (high w b) 9 x i j

pub chosen_opens : (c : Choice) (ts : List Token) (w : Context) → CanOpen Exp (chosen_lang c ts w)
chosen_opens c ts w b n f m le = (NameE (tok_at ts m).line [], suc m, omega (arith, le), (c.name (tok_at ts m).line [], open_name ts w n f b 9 m le))

abbrev pub chosen_kind : Choice → List Token → Context → Kind Exp
chosen_kind c ts w = record { lang = chosen_lang c ts w; goes = nothing; open' = chosen_opens c ts w }

pub before_open : (ts : List Token) (n f j : ℕ) (w : Context) → n ≤ j → before (given_tokens ts n f) j w ≡ w
before_open ts n f j w le = ap (λ (c : Bool). cond c (under w) w) (le-ltb j n le)

-- What has been read may yet become an index.
pub may_index : (ts : List Token) (w : Context) (n f b : ℕ) (x : Exp) (i j : ℕ) → n ≤ j → IsPrefix x → Spells (given_tokens ts n f) (high w b) 10 x i j →
    Spells (given_tokens ts n f) (high w b) 9 (IndexE (tok_at ts j).line x (TextE (tok_at ts (suc j)).line [])) i (suc (suc j))
unfolding Spells
may_index ts w n f b x i j le p d = (
  j,
  subst (λ (y : Context). Spells (given_tokens ts n f) y 10 x i j) (sym (before_open ts n f j (high w b) le)) d,
  p,
  (
    j,
    (refl, (λ e lt. absurd (omega (arith, le, lt))), refl),
    (
      suc (suc j),
      inl (suc j, ((λ lt. absurd (omega (arith, le, lt))), refl), (suc j, (refl, (λ e lt. absurd (omega (arith, le, lt))), refl), ((λ lt. absurd (omega (arith, le, lt))), refl))),
      ((λ l lt. absurd (omega (arith, le, lt))), refl),
    ),
  ),
)

pub chosen_reading : (c : Choice) {ts : List Token} {w : Context} {i q h : ℕ} {x : Exp} → c.is x → ReadsPrefix ts w i x q h → ReadsTree Exp ts (chosen_lang c ts w) nothing w.above i x q h
chosen_reading c {ts} {w} {i} {q} {h} {x} y s = record {
  inside = s.reading.inside;
  ordered = s.reading.ordered;
  stands = λ b n f fits. (y, relevel ts n f (high w b) 10 9 x i q (c.prefix x y) (s.reading.stands b n f fits).1 (λ lt. s.stops_here));
  only = λ z b n f j lt l st.
      let p = c.prefix z l.0 in
      s.reading.only z b n f j lt (p, relevel ts n f (high w b) 9 10 z i j p l.1 (prefix_ends ts n f (high w b) 9 z i j (le_refl 9) p l.1)) (prefix_ends ts n f (high w b) 9 z i j (le_refl 9) p l.1);
  height = s.reading.height;
}

pub chosen_broke : (c : Choice) (ts : List Token) (w : Context) {a i k p : ℕ} → ReadsFault Exp ts (prefix_lang ts w) suffix_goes a i k p → ReadsFault Exp ts (chosen_lang c ts w) nothing a i k p
chosen_broke c ts w {a} {i} {k} {p} s = record {
  inside = s.inside;
  ordered = s.ordered;
  number = s.number;
  reach = λ n f x.
      let y = s.reach n f x in
      (IndexE (tok_at ts y.1).line y.0 (TextE (tok_at ts (suc y.1)).line []), suc (suc y.1), omega (arith, y.2), (c.index (tok_at ts y.1).line y.0 (TextE (tok_at ts (suc y.1)).line []), may_index ts w n f a y.0 i y.1 y.2 y.3.0 y.3.1));
  dead = λ z b n j le lt l st.
      let q = c.prefix z l.0 in
      s.dead z b n j le lt (q, relevel ts n k (high w b) 9 10 z i j q l.1 (prefix_ends ts n k (high w b) 9 z i j (le_refl 9) q l.1)) (prefix_ends ts n k (high w b) 9 z i j (le_refl 9) q l.1);
}

pub chosen_failed : (c : Choice) (ts : List Token) (w : Context) (a i : ℕ) (f : Fault) → IfFault (ReadsFault Exp ts (prefix_lang ts w) suffix_goes a i) f → IfFault (ReadsFault Exp ts (chosen_lang c ts w) nothing a i) f
chosen_failed c ts w a i NoMemory x = tt
chosen_failed c ts w a i (At f) x = chosen_broke c ts w x

-- A prefix expression of another class: the fault is at the token behind it.
pub not_chosen : (c : Choice) {ts : List Token} {w : Context} {i q h : ℕ} {x : Exp} → (c.is x → ⊥) → ReadsPrefix ts w i x q h → ReadsFault Exp ts (chosen_lang c ts w) nothing w.above i 5 q
not_chosen c {ts} {w} {i} {q} {h} {x} no' s = record {
  inside = s.reading.inside;
  ordered = s.reading.ordered;
  number = (omega arith, omega arith);
  reach = reach;
  dead = λ z b n j le lt l st.
      let p = c.prefix z l.0 in
      let o = s.reading.only z b n 5 j lt (p, relevel ts n 5 (high w b) 9 10 z i j p l.1 (prefix_ends ts n 5 (high w b) 9 z i j (le_refl 9) p l.1)) (prefix_ends ts n 5 (high w b) 9 z i j (le_refl 9) p l.1) in
      no' (subst c.is o.0 l.0);
}
  where
    reach : (n f : ℕ) → Before q 5 n f → (z : Exp) × (j : ℕ) × (n ≤ j) × chosen_lang c ts w z w.above n f i j
    reach n f (inl e) =
        let y = s.reading.stands w.above n f (λ z. s.reading.height) in
        (IndexE (tok_at ts q).line x (TextE (tok_at ts (suc q)).line []), suc (suc q), omega (arith, e), (c.index (tok_at ts q).line x (TextE (tok_at ts (suc q)).line []), may_index ts w n f w.above x i q (omega (arith, e)) y.0 y.1))
    reach n f (inr y) = absurd (omega (arith, y.1, y.2))

pub simple_prefix : (e : Exp) → IsSimple e → IsPrefix e
simple_prefix (NameE l x) y = tt
simple_prefix (IndexE l t k) y = tt
simple_prefix (CallE l t es) y = tt
simple_prefix (MethodE l t x es) y = tt
simple_prefix e y = absurd y

abbrev pub simples : Choice
simples = record { is = IsSimple; prefix = simple_prefix; name = λ l x. tt; index = λ l t k. tt }

abbrev pub targets : Choice
targets = record { is = IsVar; prefix = var_prefix; name = λ l x. tt; index = λ l t k. tt }

-- ---- the rest of an assignment

abbrev pub more_vars_lang : List Token → Context → Exps → Lang
more_vars_lang ts w x b n f i j = AreVars x × MoreExps (given_tokens ts n f) (high w b) x i j

pub more_vars_opens : (ts : List Token) (w : Context) → CanOpen Exps (more_vars_lang ts w)
unfolding MoreExps
more_vars_opens ts w b n f m le = (NoExp, m, le, (tt, refl))

abbrev pub more_vars_kind : List Token → Context → Kind Exps
more_vars_kind ts w = record { lang = more_vars_lang ts w; goes = nothing; open' = more_vars_opens ts w }

abbrev pub values_rest : List Token → Context → ℕ → Exps → Rest Stat
values_rest ts w line xs = Word Assign (Under Exps (all_kind ts w) (λ es. Done (AssignS line xs es)))

abbrev pub first_target : List Token → Context → ℕ → Exp → Rest Stat
first_target ts w line e = Under Exps (more_vars_kind ts w) (λ xs. values_rest ts w line (MoreExp e xs))

-- these targets, and then more
abbrev pub add_exps : List Expr → Exps → Exps
add_exps [] es = es
add_exps (x ∷ xs) es = MoreExp (expr_view x) (add_exps xs es)

pub add_one_exp : (xs : List Expr) (x : Expr) (es : Exps) → add_exps (xs ++ x ∷ []) es ≡ add_exps xs (MoreExp (expr_view x) es)
add_one_exp [] x es = refl
add_one_exp (y ∷ ys) x es = ap (λ (z : Exps). MoreExp (expr_view y) z) (add_one_exp ys x es)

pub all_exps : (xs : List Expr) → exprs_view xs ≡ add_exps xs NoExp
all_exps [] = refl
all_exps (x ∷ xs) = ap (λ (z : Exps). MoreExp (expr_view x) z) (all_exps xs)

abbrev pub targets_rest : List Token → Context → ℕ → List Expr → Rest Stat
targets_rest ts w line ys = Under Exps (more_vars_kind ts w) (λ xs. values_rest ts w line (add_exps ys xs))

abbrev pub next_target : List Token → Context → ℕ → List Expr → Rest Stat
next_target ts w line ys = Under Exp (chosen_kind targets ts w) (λ y. Under Exps (more_vars_kind ts w) (λ xs. values_rest ts w line (add_exps ys (MoreExp y xs))))

abbrev pub target_rest : List Token → Context → ℕ → List Expr → Rest Stat
target_rest ts w line ys = Either (values_rest ts w line (add_exps ys NoExp)) (Word Comma (next_target ts w line ys))

pub target_split : {ts : List Token} (w : Context) {goes : TokenClass → Bool} {i m h : ℕ} (line : ℕ) (ys : List Expr) → Left Stat ts (stat_lang ts w) goes i (targets_rest ts w line ys) m h → Left Stat ts (stat_lang ts w) goes i (target_rest ts w line ys) m h
unfolding MoreExps
target_split {ts} w {goes} {i} {m} {h} line ys l = same_rest (target_rest ts w line ys) l (λ s b n f j lt st x. down x.0 s b n f j x.1 x.2.0 x.2.1 x.3) up
  where
    down : (xs : Exps) (s : Stat) (b n f j p : ℕ) → AreVars xs → MoreExps (given_tokens ts n f) (high w (suc b)) xs m p → Reads ts (values_rest ts w line (add_exps ys xs)) s b n f p j → Reads ts (target_rest ts w line ys) s b n f m j
    down NoExp s b n f j p v d r = inl (subst (λ (y : ℕ). Reads ts (values_rest ts w line (add_exps ys NoExp)) s b n f y j) (sym d) r)
    down (MoreExp e xs) s b n f j p v d r =
        let q = var_prefix e v.0 in
        inr (d.0, d.1, (e, d.2.0, (v.0, relevel ts n f (high w (suc b)) 1 9 e d.0 d.2.0 q d.2.1 (prefix_ends ts n f (high w (suc b)) 1 e d.0 d.2.0 (omega arith) q d.2.1)), (xs, p, (v.1, d.2.2), r)))

    up : (s : Stat) (b n f j : ℕ) → Reads ts (target_rest ts w line ys) s b n f m j → Reads ts (targets_rest ts w line ys) s b n f m j
    up s b n f j (inl x) = (NoExp, m, (tt, refl), x)
    up s b n f j (inr x) =
        let e = x.2 in
        let xs = e.3 in
        let q = var_prefix e.0 e.2.0 in
        (MoreExp e.0 xs.0, xs.1, ((e.2.0, xs.2.0), (x.0, x.1, (e.1, relevel ts n f (high w (suc b)) 9 1 e.0 x.0 e.1 q e.2.1 (prefix_ends ts n f (high w (suc b)) 9 e.0 x.0 e.1 (le_refl 9) q e.2.1), xs.2.1))), xs.3)

-- ---- the first prefix expression

abbrev pub behind_simple : List Token → Context → ℕ → Exp → Rest Stat
behind_simple ts w line (NameE l x) = first_target ts w line (NameE l x)
behind_simple ts w line (IndexE l t k) = first_target ts w line (IndexE l t k)
behind_simple ts w line e = Done (CallS line e)

abbrev pub simple_rest : List Token → Context → ℕ → Rest Stat
simple_rest ts w line = Under Exp (chosen_kind simples ts w) (behind_simple ts w line)

abbrev pub Simple : Stat → Type 0
Simple (AssignS l xs es) = Unit {0}
Simple (CallS l e) = Unit {0}
Simple s = ⊥

pub only_simple : (s : Stat) (first : TokenClass) → Starts s first → Opening first → Simple s
only_simple (AssignS l xs es) first x o = tt
only_simple (CallS l e) first x o = tt
only_simple s Name x o = absurd x
only_simple s LeftParen x o = absurd x
only_simple s first x o = absurd o

pub named_word : (ts : List Token) (n f : ℕ) (w : Context) (xs es : Exps) (i j : ℕ) → SpellsNamed (given_tokens ts n f) w xs es i j → i < n → class_at ts i ≡ Function
unfolding SpellsNamed
named_word ts n f w xs (MoreExp (FunctionE line v) NoExp) i j d lt = at_start ts n i d.0 (λ (s : TokenClass). s ≡ Function) Function d.1.2 d.2.1.0 lt refl
named_word ts n f w xs es i j d lt = absurd d

pub var_simple : (e : Exp) → IsVar e → IsSimple e
var_simple (NameE l x) v = tt
var_simple (IndexE l t k) v = tt
var_simple e v = absurd v

pub call_simple : (e : Exp) → IsCall e → IsSimple e
call_simple (CallE l t es) v = tt
call_simple (MethodE l t x es) v = tt
call_simple e v = absurd v

pub var_reads : (ts : List Token) (w : Context) (line : ℕ) (e : Exp) (s : Stat) (b n f i j : ℕ) → IsVar e → Reads ts (first_target ts w line e) s b n f i j → Reads ts (behind_simple ts w line e) s b n f i j
var_reads ts w line (NameE l x) s b n f i j v r = r
var_reads ts w line (IndexE l t k) s b n f i j v r = r
var_reads ts w line e s b n f i j v r = absurd v

pub call_reads : (ts : List Token) (w : Context) (line : ℕ) (e : Exp) (s : Stat) (b n f i j : ℕ) → IsCall e → (s ≡ CallS line e) × (i ≡ j) → Reads ts (behind_simple ts w line e) s b n f i j
call_reads ts w line (CallE l t es) s b n f i j v r = r
call_reads ts w line (MethodE l t x es) s b n f i j v r = r
call_reads ts w line e s b n f i j v r = absurd v

pub simple_starts : (ts : List Token) (w : Context) (goes : TokenClass → Bool) (i : ℕ) → Opening (class_at ts i) → Left Stat ts (stat_lang ts w) goes i (simple_rest ts w (tok_at ts i).line) i 1
unfolding SpellsStat SpellsAll
simple_starts ts w goes i o = record {
  ordered = le_refl i;
  down = λ s b n f j lt l st. (down s b n f j lt l (only_simple s (class_at ts i) (stat_begins ts n f (high w b) s i j l lt) o), λ e. low b (stat_node7 s b n f j lt l e));
  up = λ s b n f j fits x. up x.0 s b n f j fits x.1 x.2.0 x.2.1 x.3;
}
  where
    low : (b : ℕ) → b ≤ 200 → 1 ≤ 201 - b
    low b x = omega arith

    top : (b : ℕ) → 1 ≤ 201 - b → b ≤ 200
    top b x = omega arith

    stat_node7 : (s : Stat) (b n f j : ℕ) → i < n → SpellsStat (given_tokens ts n f) (high w b) s i j → f ≡ 7 → b ≤ 200
    stat_node7 s b n f j lt l e = stat_node ts w i s b n j lt (subst (λ (y : ℕ). SpellsStat (given_tokens ts n y) (high w b) s i j) e l)

    down : (s : Stat) (b n f j : ℕ) → i < n → SpellsStat (given_tokens ts n f) (high w b) s i j → Simple s → Reads ts (simple_rest ts w (tok_at ts i).line) s b n f i j
    down (AssignS l NoExp es) b n f j lt d z = elim d.2 [
      | inl y ↦ absurd y.2.1
      | inr y ↦ absurd (subst Opening (ap (λ (v : ℕ). class_at ts v) d.1.2 ∙ named_word ts n f (high w (suc b)) NoExp es d.0 j y (subst (λ (v : ℕ). v < n) d.1.2 lt)) o)
    ]
    down (AssignS l (MoreExp e xs) es) b n f j lt d z = elim d.2 [
      | inl y ↦
          let x = y.2.1 in
          let q = var_prefix e y.1.0.0 in
          let at : i ≡ y.0 = d.1.2 ∙ y.1.1 in
          let sp : Spells (given_tokens ts n f) (high w (suc b)) 1 e i x.0 = subst (λ (v : ℕ). Spells (given_tokens ts n f) (high w (suc b)) 1 e v x.0) (sym at) x.1 in
          let same : AssignS l (MoreExp e xs) es ≡ AssignS (tok_at ts i).line (MoreExp e xs) es = ap (λ (v : ℕ). AssignS v (MoreExp e xs) es) (d.1.0) in (
            e,
            x.0,
            (var_simple e y.1.0.0, relevel ts n f (high w (suc b)) 1 9 e i x.0 q sp (prefix_ends ts n f (high w (suc b)) 1 e i x.0 (omega arith) q sp)),
            var_reads ts w (tok_at ts i).line e (AssignS l (MoreExp e xs) es) b n f x.0 j y.1.0.0 (xs, y.2.0, (y.1.0.1, x.2), (y.2.2.0, y.2.2.1, (es, j, y.2.2.2, (same, refl)))),
          )
      | inr y ↦ absurd (subst Opening (ap (λ (v : ℕ). class_at ts v) d.1.2 ∙ named_word ts n f (high w (suc b)) (MoreExp e xs) es d.0 j y (subst (λ (v : ℕ). v < n) d.1.2 lt)) o)
    ]
    down (CallS l e) b n f j lt d z =
        let sp : Spells (given_tokens ts n f) (high w (suc b)) 9 e i j = subst (λ (v : ℕ). Spells (given_tokens ts n f) (high w (suc b)) 9 e v j) (sym d.1.1.2) d.1.2 in
        (e, j, (call_simple e d.0, sp), call_reads ts w (tok_at ts i).line e (CallS l e) b n f j j d.0 (ap (λ (v : ℕ). CallS v e) d.1.1.0, refl))
    down s b n f j lt d z = absurd z

    assigned : (e : Exp) (s : Stat) (b n f j p : ℕ) → IsVar e → (f ≡ 7 → 1 ≤ 201 - b) → Spells (given_tokens ts n f) (high w (suc b)) 9 e i p → Reads ts (first_target ts w (tok_at ts i).line e) s b n f p j → SpellsStat (given_tokens ts n f) (high w b) s i j
    assigned e s b n f j p v fits sp r =
        let t = r.3 in
        let es = t.2 in
        let q = var_prefix e v in
        let one = relevel ts n f (high w (suc b)) 9 1 e i p q sp (prefix_ends ts n f (high w (suc b)) 9 e i p (le_refl 9) q sp) in
        let at : SpellsStat (given_tokens ts n f) (high w b) (AssignS (tok_at ts i).line (MoreExp e r.0) es.0) i es.1 =
        (i, (refl, (λ y lt. top b (fits y)), refl), inl (i, ((v, r.2.0), refl), (r.1, (p, one, r.2.1), (t.0, t.1, es.2)))) in
        subst (λ (y : Stat). SpellsStat (given_tokens ts n f) (high w b) y i j) (sym es.3.0) (subst (λ (y : ℕ). SpellsStat (given_tokens ts n f) (high w b) (AssignS (tok_at ts i).line (MoreExp e r.0) es.0) i y) es.3.1 at)

    called : (e : Exp) (s : Stat) (b n f j p : ℕ) → IsCall e → (f ≡ 7 → 1 ≤ 201 - b) → Spells (given_tokens ts n f) (high w (suc b)) 9 e i p → (s ≡ CallS (tok_at ts i).line e) × (p ≡ j) → SpellsStat (given_tokens ts n f) (high w b) s i j
    called e s b n f j p v fits sp r =
        let at : SpellsStat (given_tokens ts n f) (high w b) (CallS (tok_at ts i).line e) i p = (v, (i, (refl, (λ y lt. top b (fits y)), refl), sp)) in
        subst (λ (y : Stat). SpellsStat (given_tokens ts n f) (high w b) y i j) (sym r.0) (subst (λ (y : ℕ). SpellsStat (given_tokens ts n f) (high w b) (CallS (tok_at ts i).line e) i y) r.1 at)

    up : (e : Exp) (s : Stat) (b n f j : ℕ) → (f ≡ 7 → 1 ≤ 201 - b) → (p : ℕ) → IsSimple e → Spells (given_tokens ts n f) (high w (suc b)) 9 e i p → Reads ts (behind_simple ts w (tok_at ts i).line e) s b n f p j → SpellsStat (given_tokens ts n f) (high w b) s i j
    up (NameE l x) s b n f j fits p z sp r = assigned (NameE l x) s b n f j p tt fits sp r
    up (IndexE l t k) s b n f j fits p z sp r = assigned (IndexE l t k) s b n f j p tt fits sp r
    up (CallE l t es) s b n f j fits p z sp r = called (CallE l t es) s b n f j p tt fits sp r
    up (MethodE l t x es) s b n f j fits p z sp r = called (MethodE l t x es) s b n f j p tt fits sp r
    up e s b n f j fits p z sp r = absurd z

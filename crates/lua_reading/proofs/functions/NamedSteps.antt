-- Functions with a name.
use Rattle.std.proofs.Common.{◌≡◌, ℕ, zero, suc, [], ◌∷◌, ◌-◌, ◌+◌, ◌<◌, ◌≤◌, ◌⊎◌, max, Bool, true, false, List, length, refl, sym, ap, subst, ◌∙◌, inl, inr, arith, add-one, le_refl}
use Rattle.lua_lexer.specs.declared.token.Token.{Token}
use Rattle.lua_grammar.specs.declared.TokenClass.{TokenClass}
use Rattle.lua_grammar.specs.declared.TokenClass.TheVariants.{Function, LeftParen}
use Rattle.lua_grammar.specs.declared.Context.{Context}
use Rattle.lua_grammar.specs.Tokens.{class_at, tok_at}
use Rattle.lua_syntax.specs.Tree.{Exp, Exps, IndexE, Fun, Lambda, Stat, FunctionE, NoExp, MoreExp, AssignS}
use Rattle.lua_grammar.specs.Grammar.{given_tokens, under, SpellsAll, SpellsStat, SpellsNamed, SpellsFun, SpellsMethod, AreVars, IsMethodPath}
use Rattle.lua_syntax.specs.declared.Expr.{Expr}
use Rattle.lua_syntax.specs.View.{expr_view, exprs_view}
use Rattle.lua_reading.specs.declared.answer.Fault.{Fault}
use Rattle.lua_reading.specs.declared.answer.Fault.TheVariants.{At, NoMemory}
use Rattle.lua_reading.specs.Parsing.{Lang, ReadsTree, Before, ReadsFault, high, stat_lang, nothing}
use Rattle.lua_reading.specs.Answers.{IfFault, ReadsNonEmpty, body_lang}
use Rattle.lua_reading.specs.StatAnswers.{Head, head_lang, head_goes, Opening}
use Rattle.lua_reading.proofs.pieces.Steps.{Rest, Done, Under, Reads, Left, Kind, Follows, opens, under_step, follows_nothing}
use Rattle.lua_reading.proofs.pieces.Kinds.{body_opens, stat_opens}
use Rattle.lua_reading.proofs.statements.Begins.{Starts, stat_begins, prefix_begins, var_prefix}
use Rattle.lua_reading.proofs.statements.PlainExits.{whole, under_fault}
use Rattle.lua_reading.proofs.functions.PathExits.{head_opens}

abbrev pub head_kind : List Token → Context → Kind Head
head_kind ts w = record { lang = head_lang ts w; goes = head_goes; open' = head_opens ts w }

-- The body of a function, one node deeper.
abbrev pub deeper_lang : Bool → List Token → Context → Fun → Lang
deeper_lang m ts w x b n f = body_lang m ts w x (suc b) n f

abbrev pub deeper_kind : Bool → List Token → Context → Kind Fun
deeper_kind m ts w = record { lang = deeper_lang m ts w; goes = nothing; open' = λ b n f q le. body_opens m ts w (suc b) n f q le }

abbrev pub named : ℕ → Exp → Fun → Stat
named line x v = AssignS line (MoreExp x NoExp) (MoreExp (FunctionE line v) NoExp)

abbrev pub body_rest : List Token → Context → ℕ → Head → Rest Stat
body_rest ts w line p = Under Fun (deeper_kind p.1 ts w) (λ v. Done (named line p.0 v))

abbrev pub named_rest : List Token → Context → ℕ → Rest Stat
named_rest ts w line = Under Head (head_kind ts w) (body_rest ts w line)

pub no_target : (ts : List Token) (n f : ℕ) (w : Context) (xs : Exps) (i j : ℕ) → AreVars xs → SpellsAll (given_tokens ts n f) w xs i j → i < n → class_at ts i ≡ Function → ⊥
unfolding SpellsAll
no_target ts n f w NoExp i j v d lt here = absurd d
no_target ts n f w (MoreExp e es) i j v d lt here = subst Opening here (prefix_begins ts n f w 1 e i d.0 (var_prefix e v.0) d.1 lt)

pub no_method : (ts : List Token) (n f : ℕ) (w : Context) (p p2 : Exp) (ps : Exps) (i j : ℕ) → IsMethodPath (given_tokens ts n f) w (MoreExp p (MoreExp p2 ps)) i j → ⊥
no_method ts n f w (IndexE l t k) p2 ps i j d = absurd d
no_method ts n f w p p2 ps i j d = absurd d

-- What a statement that begins with `function` is.
pub named_split : (ts : List Token) (w : Context) (i : ℕ) → class_at ts i ≡ Function → (s : Stat) (b n f j : ℕ) → i < n → SpellsStat (given_tokens ts n f) (high w b) s i j → Starts s Function → (f ≡ 7 → suc b ≤ 200) × Reads ts (named_rest ts w (tok_at ts i).line) s b n f (suc i) j
unfolding SpellsStat SpellsNamed
named_split ts w i here (AssignS l (MoreExp p NoExp) (MoreExp (FunctionE l2 v) NoExp)) b n f j lt d x = elim d.2 [
  | inl y ↦ let at : i ≡ y.0 = d.1.2 ∙ y.1.1 in absurd (no_target ts n f (high w (suc b)) (MoreExp p NoExp) y.0 y.2.0 y.1.0 y.2.1 (subst (λ (z : ℕ). z < n) at lt) (ap (λ (z : ℕ). class_at ts z) (sym at) ∙ here))
  | inr y ↦
      let at : suc i ≡ y.2.0 = ap suc (d.1.2 ∙ y.1.2) ∙ sym y.2.1.1 in
      let line2 : l2 ≡ (tok_at ts i).line = y.1.0 ∙ ap (λ (z : ℕ). (tok_at ts z).line) (sym d.1.2) in
      let same : AssignS l (MoreExp p NoExp) (MoreExp (FunctionE l2 v) NoExp) ≡ named (tok_at ts i).line p v =
      ap (λ (z : ℕ). AssignS z (MoreExp p NoExp) (MoreExp (FunctionE l2 v) NoExp)) d.1.0 ∙ ap (λ (z : ℕ). AssignS (tok_at ts i).line (MoreExp p NoExp) (MoreExp (FunctionE z v) NoExp)) line2 in (
        (λ e. y.1.1 e (subst (λ (z : ℕ). z < n) d.1.2 lt)),
        subst (λ (z : ℕ). Reads ts (named_rest ts w (tok_at ts i).line) (AssignS l (MoreExp p NoExp) (MoreExp (FunctionE l2 v) NoExp)) b n f z j) (sym at)
            (elim y.2.2 [
              | inl z ↦ ((p, false), z.0, z.1, (v, j, z.2, (same, refl)))
              | inr z ↦ ((p, true), z.0, z.1, (v, j, z.2, (same, refl)))
            ]),
      )
]
named_split ts w i here (AssignS l NoExp (MoreExp (FunctionE l2 v) NoExp)) b n f j lt d x = elim d.2 [
  | inl y ↦ let at : i ≡ y.0 = d.1.2 ∙ y.1.1 in absurd (no_target ts n f (high w (suc b)) NoExp y.0 y.2.0 y.1.0 y.2.1 (subst (λ (z : ℕ). z < n) at lt) (ap (λ (z : ℕ). class_at ts z) (sym at) ∙ here))
  | inr y ↦ elim y.2.2 [ inl z ↦ absurd z.1.0 | inr z ↦ absurd z.1 ]
]
named_split ts w i here (AssignS l (MoreExp p (MoreExp p2 ps)) (MoreExp (FunctionE l2 v) NoExp)) b n f j lt d x = elim d.2 [
  | inl y ↦ let at : i ≡ y.0 = d.1.2 ∙ y.1.1 in absurd (no_target ts n f (high w (suc b)) (MoreExp p (MoreExp p2 ps)) y.0 y.2.0 y.1.0 y.2.1 (subst (λ (z : ℕ). z < n) at lt) (ap (λ (z : ℕ). class_at ts z) (sym at) ∙ here))
  | inr y ↦ elim y.2.2 [ inl z ↦ absurd z.1.0 | inr z ↦ absurd (no_method ts n f (high w (suc b)) p p2 ps y.2.0 z.0 z.1) ]
]
named_split ts w i here (AssignS l xs es) b n f j lt d x = elim d.2 [
  | inl y ↦ let at : i ≡ y.0 = d.1.2 ∙ y.1.1 in absurd (no_target ts n f (high w (suc b)) xs y.0 y.2.0 y.1.0 y.2.1 (subst (λ (z : ℕ). z < n) at lt) (ap (λ (z : ℕ). class_at ts z) (sym at) ∙ here))
  | inr y ↦ absurd y
]
named_split ts w i here s b n f j lt d x = absurd x

pub named_starts : (ts : List Token) (w : Context) (goes : TokenClass → Bool) (i : ℕ) → class_at ts i ≡ Function → Left Stat ts (stat_lang ts w) goes i (named_rest ts w (tok_at ts i).line) (i + 1) 2
unfolding SpellsStat SpellsNamed
named_starts ts w goes i here = record {
  ordered = omega arith;
  down = λ s b n f j lt l st.
      let y = named_split ts w i here s b n f j (omega (arith, lt)) l (subst (λ (z : TokenClass). Starts s z) here (stat_begins ts n f (high w b) s i j l (omega (arith, lt)))) in
      (subst (λ (z : ℕ). Reads ts (named_rest ts w (tok_at ts i).line) s b n f z j) (sym (add-one i)) y.1, λ e. low b (y.0 e));
  up = λ s b n f j fits x.
      let v = x.3 in
      subst (λ (z : Stat). SpellsStat (given_tokens ts n f) (high w b) z i j) (sym v.3.0)
      (subst (λ (z : ℕ). SpellsStat (given_tokens ts n f) (high w b) (named (tok_at ts i).line x.0.0 v.0) i z) v.3.1
      (i, (refl, (λ e lt. top b (fits e)), refl), inr (i, (refl, (λ e lt. high' b (fits e)), refl), (i + 1, ((λ lt. here), add-one i), either b n f x.0.0 x.0.1 v.0 x.1 v.1 x.2 v.2))));
}
  where
    low : (b : ℕ) → suc b ≤ 200 → 2 ≤ 201 - b
    low b x = omega arith

    top : (b : ℕ) → 2 ≤ 201 - b → b ≤ 200
    top b x = omega arith

    high' : (b : ℕ) → 2 ≤ 201 - b → suc b ≤ 200
    high' b x = omega arith

    Either2 : (b n f : ℕ) (x : Exp) (v : Fun) (q r : ℕ) → Type 0
    Either2 b n f x v q r =
        ((m : ℕ) × head_lang ts w (x, false) (suc b) n f (i + 1) m × SpellsFun (given_tokens ts n f) (high w (suc (suc b))) v m r) ⊎ ((m : ℕ) × head_lang ts w (x, true) (suc b) n f (i + 1) m × SpellsMethod (given_tokens ts n f) (high w (suc (suc b))) v m r)

    either : (b n f : ℕ) (x : Exp) (m : Bool) (v : Fun) (q r : ℕ) → head_lang ts w (x, m) (suc b) n f (i + 1) q → body_lang m ts w v (suc (suc b)) n f q r → Either2 b n f x v q r
    either b n f x false v q r h d = inl (q, h, d)
    either b n f x true v q r h d = inr (q, h, d)

-- One of both nodes is too deep.
pub named_deep : (ts : List Token) (w : Context) (goes : TokenClass → Bool) (i : ℕ) → class_at ts i ≡ Function → i < length ts → 200 < w.above + 1 → ReadsFault Stat ts (stat_lang ts w) goes w.above i 7 i
named_deep ts w goes i here inside over = record {
  inside = inside;
  ordered = le_refl i;
  number = (omega arith, omega arith);
  reach = reach;
  dead = λ s b n j le lt l st.
      let y = named_split ts w i here s b n 7 j lt l (subst (λ (z : TokenClass). Starts s z) here (stat_begins ts n 7 (high w b) s i j l lt)) in
      let z = y.0 refl in
      omega (arith, z, le, over);
}
  where
    reach : (n f : ℕ) → Before i 7 n f → (x : Stat) × (j : ℕ) × (n ≤ j) × stat_lang ts w x w.above n f i j
    reach n f (inl e) = stat_opens ts w w.above n f i (omega (arith, e))
    reach n f (inr x) =
        let o = opens ts (named_rest ts w (tok_at ts i).line) w.above n f (i + 1) (omega (arith, x.0)) in
        (o.0, o.1, o.2, (named_starts ts w goes i here).up o.0 w.above n f o.1 (λ y. absurd (omega (arith, y, x.2))) o.3)

-- A body begins with a `(`.
pub body_follows : (ts : List Token) (w : Context) (goes : TokenClass → Bool) (line : ℕ) (p : Head) → Follows ts goes head_goes (body_rest ts w line p)
unfolding Follows SpellsFun SpellsMethod
body_follows ts w goes line (x, m) t b n f q j d st lt = subst (λ (s : TokenClass). head_goes s ≡ false) (sym (go m d.0 d.1 d.2)) refl
  where
    go : (m : Bool) (v : Fun) (r : ℕ) → body_lang m ts w v (suc (suc b)) n f q r → class_at ts q ≡ LeftParen
    go false (Lambda ps dots k) r y = y.1.0 lt
    go true (Lambda [] dots k) r y = absurd y
    go true (Lambda (p ∷ ps) dots k) r y = ap (λ (z : ℕ). class_at ts z) y.1.1 ∙ y.2.1.0 (subst (λ (z : ℕ). z < n) y.1.1 lt)

pub head_reading : {ts : List Token} {u v : Context} {m q h : ℕ} {x : Head} → u ≡ v → ReadsNonEmpty Head ts (head_lang ts u) head_goes u.above m x q h → ReadsNonEmpty Head ts (head_lang ts v) head_goes v.above m x q h
head_reading {ts} {u} {v} {m} {q} {h} {x} e s = subst (λ (y : Context). ReadsNonEmpty Head ts (head_lang ts y) head_goes y.above m x q h) e s

pub head_failed : (ts : List Token) (u v : Context) (m : ℕ) (f : Fault) → u ≡ v → IfFault (ReadsFault Head ts (head_lang ts u) head_goes u.above m) f → IfFault (ReadsFault Head ts (head_lang ts v) head_goes v.above m) f
head_failed ts u v m f e s = subst (λ (y : Context). IfFault (ReadsFault Head ts (head_lang ts y) head_goes y.above m) f) e s

-- ---- the exits

pub named_fault : (ts : List Token) (w : Context) (goes : TokenClass → Bool) (i : ℕ) (f : Fault) → w.above + 1 ≤ 200 → class_at ts i ≡ Function → IfFault (ReadsFault Head ts (head_lang ts (under w)) head_goes (suc w.above) (i + 1)) f → IfFault (ReadsFault Stat ts (stat_lang ts w) goes w.above i) f
named_fault ts w goes i f room here x =
    under_fault {K = head_kind ts w} {r = body_rest ts w (tok_at ts i).line} w.above (named_starts ts w goes i here) (omega (arith, room)) f (head_failed ts (under w) (high w (suc w.above)) (i + 1) f refl x) (body_follows ts w goes (tok_at ts i).line)

pub named_head : (ts : List Token) (w : Context) (goes : TokenClass → Bool) (i : ℕ) {q h : ℕ} {p : Head} → class_at ts i ≡ Function → ReadsNonEmpty Head ts (head_lang ts (under w)) head_goes (suc w.above) (i + 1) p q h → Left Stat ts (stat_lang ts w) goes i (body_rest ts w (tok_at ts i).line p) q (max 2 (1 + h))
named_head ts w goes i {q} {h} {p} here s =
    under_step {K = head_kind ts w} {r = body_rest ts w (tok_at ts i).line} (named_starts ts w goes i here) (omega arith) (head_reading {u = under w} {v = high w (suc w.above)} refl s).reading (body_follows ts w goes (tok_at ts i).line)

-- the levels of a body, one node deeper
abbrev pub deeper : ℕ → ℕ
deeper zero = zero
deeper (suc h) = suc (suc h)

pub deeper_down : (h c : ℕ) → h ≤ 201 - suc c → deeper h ≤ 201 - c
deeper_down zero c x = omega arith
deeper_down (suc h) c x = omega (arith, x)

pub deeper_up : (h c : ℕ) → deeper h ≤ 201 - c → h ≤ 201 - suc c
deeper_up zero c x = omega arith
deeper_up (suc h) c x = omega (arith, x)

pub deeper_max : (h l : ℕ) → 2 ≤ l → max l (1 + deeper h) ≡ max l (2 + h)
deeper_max zero l x = omega (arith, x)
deeper_max (suc h) l x = omega (arith, x)

pub deeper_reading : (m : Bool) (ts : List Token) (w : Context) (a i : ℕ) {v : Fun} {q h : ℕ} → ReadsTree Fun ts (body_lang m ts w) nothing (suc a) i v q h → ReadsTree Fun ts (deeper_lang m ts w) nothing a i v q (deeper h)
deeper_reading m ts w a i {v} {q} {h} s = record {
  inside = s.inside;
  ordered = s.ordered;
  stands = λ b n f x. s.stands (suc b) n f (λ e. deeper_up h b (x e));
  only = λ x b n f j lt l st. let o = s.only x (suc b) n f j lt l st in (o.0, o.1, λ e. deeper_down h b (o.2 e));
  height = deeper_down h a s.height;
}

pub deeper_failed : (m : Bool) (ts : List Token) (w : Context) (a i : ℕ) (f : Fault) → IfFault (ReadsFault Fun ts (body_lang m ts w) nothing (suc a) i) f → IfFault (ReadsFault Fun ts (deeper_lang m ts w) nothing a i) f
deeper_failed m ts w a i NoMemory x = tt
deeper_failed m ts w a i (At f) x = record { inside = x.inside; ordered = x.ordered; number = x.number; reach = x.reach; dead = λ y b n j le lt l st. x.dead y (suc b) n j (omega (arith, le)) lt l st }

pub named_body_fault : (ts : List Token) (w : Context) (goes : TokenClass → Bool) (i : ℕ) (f : Fault) {q h : ℕ} {p : Head} → w.above + 1 ≤ 200 → class_at ts i ≡ Function → ReadsNonEmpty Head ts (head_lang ts (under w)) head_goes (suc w.above) (i + 1) p q h →
    IfFault (ReadsFault Fun ts (body_lang p.1 ts w) nothing (suc (suc w.above)) q) f → IfFault (ReadsFault Stat ts (stat_lang ts w) goes w.above i) f
named_body_fault ts w goes i f {q} {h} {p} room here s x =
    under_fault {K = deeper_kind p.1 ts w} {r = λ v. Done (named (tok_at ts i).line p.0 v)} w.above (named_head ts w goes i here s) (omega (arith, room, s.reading.height)) f (deeper_failed p.1 ts w (suc w.above) q f x) (λ v. follows_nothing ts goes _)

pub named_stands : (ts : List Token) (w : Context) (goes : TokenClass → Bool) (i : ℕ) {q h r g : ℕ} {p : Head} {v : Fun} → w.above + 1 ≤ 200 → class_at ts i ≡ Function → ReadsNonEmpty Head ts (head_lang ts (under w)) head_goes (suc w.above) (i + 1) p q h →
    ReadsNonEmpty Fun ts (body_lang p.1 ts w) nothing (suc (suc w.above)) q v r g → ReadsNonEmpty Stat ts (stat_lang ts w) goes w.above i (named (tok_at ts i).line p.0 v) r (1 + max h (1 + g))
named_stands ts w goes i {q} {h} {r} {g} {p} {v} room here s x =
    whole w.above (1 + max h (1 + g)) (under_step {K = deeper_kind p.1 ts w} {r = λ v. Done (named (tok_at ts i).line p.0 v)} (named_head ts w goes i here s) (omega arith) (deeper_reading p.1 ts w (suc w.above) q x.reading) (λ v. follows_nothing ts goes _))
    x.reading.inside (omega (arith, s.grows, x.grows)) (deeper_max g (max 2 (1 + h)) (omega arith) ∙ total) (subst (λ (y : ℕ). y ≤ 201 - w.above) (sym (deeper_max g (max 2 (1 + h)) (omega arith))) fits)
  where
    total : max (max 2 (1 + h)) (2 + g) ≡ 1 + max h (1 + g)
    total = omega arith

    fits : max (max 2 (1 + h)) (2 + g) ≤ 201 - w.above
    fits = let a = s.reading.height in let c = x.reading.height in omega (arith, room, a, c)

-- ---- as the function reads them

pub under_room : (u w : Context) → u ≡ under w → w.above + 1 ≤ 200 → u.above ≤ 200
under_room u w e le = let a : u.above ≡ suc w.above = ap (λ (y : Context). y.above) e in omega (arith, a, le)

pub twice_fits : (u v w : Context) → u ≡ under v → v ≡ under w → w.above + 1 ≤ 200 → u.above ≤ 201
twice_fits u v w d e le = let a : u.above ≡ suc v.above = ap (λ (y : Context). y.above) d in let b : v.above ≡ suc w.above = ap (λ (y : Context). y.above) e in omega (arith, a, b, le)

pub twice : (u v w : Context) → u ≡ under v → v ≡ under w → u ≡ under (under w)
twice u v w d e = d ∙ ap (λ (y : Context). under y) e

pub body_failed : (m : Bool) (ts : List Token) (u w : Context) (i : ℕ) (f : Fault) → u ≡ under (under w) → IfFault (ReadsFault Fun ts (body_lang m ts u) nothing u.above i) f → IfFault (ReadsFault Fun ts (body_lang m ts w) nothing (suc (suc w.above)) i) f
body_failed false ts u w i f e x = subst (λ (y : Context). IfFault (ReadsFault Fun ts (body_lang false ts y) nothing y.above i) f) e x
body_failed true ts u w i f e x = subst (λ (y : Context). IfFault (ReadsFault Fun ts (body_lang true ts y) nothing y.above i) f) e x

pub body_reading : (m : Bool) (ts : List Token) (u w : Context) (i : ℕ) {v : Fun} {q h : ℕ} → u ≡ under (under w) → ReadsNonEmpty Fun ts (body_lang m ts u) nothing u.above i v q h → ReadsNonEmpty Fun ts (body_lang m ts w) nothing (suc (suc w.above)) i v q h
body_reading false ts u w i {v} {q} {h} e x = subst (λ (y : Context). ReadsNonEmpty Fun ts (body_lang false ts y) nothing y.above i v q h) e x
body_reading true ts u w i {v} {q} {h} e x = subst (λ (y : Context). ReadsNonEmpty Fun ts (body_lang true ts y) nothing y.above i v q h) e x

pub named_is : {s : Stat} {l k : ℕ} {xs ys : List Expr} {x y : Expr} {v : Fun} → s ≡ AssignS l (exprs_view xs) (exprs_view ys) → xs ≡ x ∷ [] → ys ≡ y ∷ [] → expr_view y ≡ FunctionE l v → l ≡ k → s ≡ named k (expr_view x) v
named_is {s} {l} {k} {xs} {ys} {x} {y} {v} e a b c d =
    e ∙ ap (λ (z : List Expr). AssignS l (exprs_view z) (exprs_view ys)) a ∙ ap (λ (z : List Expr). AssignS l (MoreExp (expr_view x) NoExp) (exprs_view z)) b ∙ ap (λ (z : Exp). AssignS l (MoreExp (expr_view x) NoExp) (MoreExp z NoExp)) c ∙ ap (λ (z : ℕ). named z (expr_view x) v) d

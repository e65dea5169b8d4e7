-- What is left of each statement after its first word.
use Rattle.std.proofs.Common.{◌≡◌, ℕ, suc, ◌-◌, ◌+◌, ◌≤◌, Bool, true, List, refl, sym, ap, subst, ◌∙◌, inl, inr, arith, add-one}
use Rattle.lua_lexer.specs.declared.token.Token.{Token}
use Rattle.lua_grammar.specs.declared.TokenClass.{TokenClass}
use Rattle.lua_grammar.specs.declared.TokenClass.TheVariants.{Break, Do, End, Repeat, Return, Until, While}
use Rattle.lua_grammar.specs.declared.Context.{Context}
use Rattle.lua_grammar.specs.Tokens.{class_at, tok_at}
use Rattle.lua_syntax.specs.Tree.{Exp, Exps, Block, Stat, NoExp, MoreExp, DoS, WhileS, RepeatS, ReturnS, BreakS}
use Rattle.lua_grammar.specs.Grammar.{given_tokens, node, word, ◌⨟◌, in_loop, SpellsAll, SpellsStat}
use Rattle.lua_reading.specs.Parsing.{high, stat_lang}
use Rattle.lua_reading.proofs.pieces.Steps.{Rest, Done, Word, Under, Either, Reads, Left}
use Rattle.lua_reading.proofs.pieces.Kinds.{exp_kind, all_kind, block_kind}
use Rattle.lua_reading.proofs.statements.Begins.{Starts, stat_begins}

-- A node, its word, and what is left behind it.
abbrev pub Headed : List Token → Context → TokenClass → ℕ → Rest Stat → Stat → ℕ → ℕ → ℕ → ℕ → ℕ → Type 0
Headed ts w W line r s b n f i j = (node (given_tokens ts n f) (high w b) line ⨟ word (given_tokens ts n f) W ⨟ Reads ts r s b n f) i j

pub begun : (ts : List Token) (w : Context) (goes : TokenClass → Bool) (i : ℕ) (W : TokenClass) (r : Rest Stat) → class_at ts i ≡ W →
    ((s : Stat) (b n f j : ℕ) → Starts s W → SpellsStat (given_tokens ts n f) (high w b) s i j → Headed ts w W (tok_at ts i).line r s b n f i j) →
    ((s : Stat) (b n f j : ℕ) → Headed ts w W (tok_at ts i).line r s b n f i j → SpellsStat (given_tokens ts n f) (high w b) s i j) →
    Left Stat ts (stat_lang ts w) goes i r (i + 1) 1
begun ts w goes i W r here down up = record {
  ordered = omega arith;
  down = λ s b n f j lt l st.
      let d = down s b n f j (subst (λ (y : TokenClass). Starts s y) here (stat_begins ts n f (high w b) s i j l (omega (arith, lt)))) l in
      (subst (λ (y : ℕ). Reads ts r s b n f y j) (d.2.1.1 ∙ ap suc (sym d.1.2) ∙ sym (add-one i)) d.2.2, λ e. low b (d.1.1 e (omega (arith, lt))));
  up = λ s b n f j fits x. up s b n f j (i, (refl, (λ e lt. top b (fits e)), refl), (i + 1, ((λ lt. here), add-one i), x));
}
  where
    low : (b : ℕ) → b ≤ 200 → 1 ≤ 201 - b
    low b x = omega arith

    top : (b : ℕ) → 1 ≤ 201 - b → b ≤ 200
    top b x = omega arith

-- What has been read is this statement.
pub is_stat : (ts : List Token) (w : Context) (b n f i m j : ℕ) (s t : Stat) → (t ≡ s) × (m ≡ j) → SpellsStat (given_tokens ts n f) (high w b) s i m → SpellsStat (given_tokens ts n f) (high w b) t i j
is_stat ts w b n f i m j s t e x =
    subst (λ (y : Stat). SpellsStat (given_tokens ts n f) (high w b) y i j) (sym e.0) (subst (λ (y : ℕ). SpellsStat (given_tokens ts n f) (high w b) s i y) e.1 x)

-- do
abbrev pub do_rest : List Token → Context → ℕ → Rest Stat
do_rest ts w line = Under Block (block_kind ts w) (λ k. Word End (Done (DoS line k)))

pub do_starts : (ts : List Token) (w : Context) (goes : TokenClass → Bool) (i : ℕ) → class_at ts i ≡ Do → Left Stat ts (stat_lang ts w) goes i (do_rest ts w (tok_at ts i).line) (i + 1) 1
unfolding SpellsStat
do_starts ts w goes i here = begun ts w goes i Do (do_rest ts w (tok_at ts i).line) here down up
  where
    down : (s : Stat) (b n f j : ℕ) → Starts s Do → SpellsStat (given_tokens ts n f) (high w b) s i j → Headed ts w Do (tok_at ts i).line (do_rest ts w (tok_at ts i).line) s b n f i j
    down (DoS l k) b n f j x d =
        let same : DoS l k ≡ DoS (tok_at ts i).line k = ap (λ (y : ℕ). DoS y k) d.1.0 in
        (d.0, (refl, d.1.1, d.1.2), (d.2.0, d.2.1, (k, d.2.2.0, d.2.2.1, (j, d.2.2.2, (same, refl)))))
    down s b n f j x d = absurd x

    up : (s : Stat) (b n f j : ℕ) → Headed ts w Do (tok_at ts i).line (do_rest ts w (tok_at ts i).line) s b n f i j → SpellsStat (given_tokens ts n f) (high w b) s i j
    up s b n f j h =
        let line = (tok_at ts i).line in
        let k = h.2.2.0 in
        let r = h.2.2.3 in
        is_stat ts w b n f i r.0 j (DoS line k) s r.2 (h.0, h.1, (h.2.0, h.2.1, (h.2.2.1, h.2.2.2, r.1)))

-- while
abbrev pub while_rest : List Token → Context → ℕ → Rest Stat
while_rest ts w line = Under Exp (exp_kind ts w 1) (λ e. Word Do (Under Block (block_kind ts (in_loop w)) (λ k. Word End (Done (WhileS line e k)))))

pub while_starts : (ts : List Token) (w : Context) (goes : TokenClass → Bool) (i : ℕ) → class_at ts i ≡ While → Left Stat ts (stat_lang ts w) goes i (while_rest ts w (tok_at ts i).line) (i + 1) 1
unfolding SpellsStat
while_starts ts w goes i here = begun ts w goes i While (while_rest ts w (tok_at ts i).line) here down up
  where
    down : (s : Stat) (b n f j : ℕ) → Starts s While → SpellsStat (given_tokens ts n f) (high w b) s i j → Headed ts w While (tok_at ts i).line (while_rest ts w (tok_at ts i).line) s b n f i j
    down (WhileS l e k) b n f j x d =
        let same : WhileS l e k ≡ WhileS (tok_at ts i).line e k = ap (λ (y : ℕ). WhileS y e k) d.1.0 in
        let t = d.2.2 in
        (d.0, (refl, d.1.1, d.1.2), (d.2.0, d.2.1, (e, t.0, t.1, (t.2.0, t.2.1, (k, t.2.2.0, t.2.2.1, (j, t.2.2.2, (same, refl)))))))
    down s b n f j x d = absurd x

    up : (s : Stat) (b n f j : ℕ) → Headed ts w While (tok_at ts i).line (while_rest ts w (tok_at ts i).line) s b n f i j → SpellsStat (given_tokens ts n f) (high w b) s i j
    up s b n f j h =
        let t = h.2.2 in
        let y = t.3.2 in
        let r = y.3 in
        is_stat ts w b n f i r.0 j (WhileS (tok_at ts i).line t.0 y.0) s r.2 (h.0, h.1, (h.2.0, h.2.1, (t.1, t.2, (t.3.0, t.3.1, (y.1, y.2, r.1)))))

-- repeat
abbrev pub repeat_rest : List Token → Context → ℕ → Rest Stat
repeat_rest ts w line = Under Block (block_kind ts (in_loop w)) (λ k. Word Until (Under Exp (exp_kind ts w 1) (λ e. Done (RepeatS line k e))))

pub repeat_starts : (ts : List Token) (w : Context) (goes : TokenClass → Bool) (i : ℕ) → class_at ts i ≡ Repeat → Left Stat ts (stat_lang ts w) goes i (repeat_rest ts w (tok_at ts i).line) (i + 1) 1
unfolding SpellsStat
repeat_starts ts w goes i here = begun ts w goes i Repeat (repeat_rest ts w (tok_at ts i).line) here down up
  where
    down : (s : Stat) (b n f j : ℕ) → Starts s Repeat → SpellsStat (given_tokens ts n f) (high w b) s i j → Headed ts w Repeat (tok_at ts i).line (repeat_rest ts w (tok_at ts i).line) s b n f i j
    down (RepeatS l k e) b n f j x d =
        let same : RepeatS l k e ≡ RepeatS (tok_at ts i).line k e = ap (λ (y : ℕ). RepeatS y k e) d.1.0 in
        let t = d.2.2 in
        (d.0, (refl, d.1.1, d.1.2), (d.2.0, d.2.1, (k, t.0, t.1, (t.2.0, t.2.1, (e, j, t.2.2, (same, refl))))))
    down s b n f j x d = absurd x

    up : (s : Stat) (b n f j : ℕ) → Headed ts w Repeat (tok_at ts i).line (repeat_rest ts w (tok_at ts i).line) s b n f i j → SpellsStat (given_tokens ts n f) (high w b) s i j
    up s b n f j h =
        let t = h.2.2 in
        let y = t.3.2 in
        is_stat ts w b n f i y.1 j (RepeatS (tok_at ts i).line t.0 y.0) s y.3 (h.0, h.1, (h.2.0, h.2.1, (t.1, t.2, (t.3.0, t.3.1, y.2))))

-- return
abbrev pub return_rest : List Token → Context → ℕ → Rest Stat
return_rest ts w line = Either (Done (ReturnS line NoExp)) (Under Exps (all_kind ts w) (λ es. Done (ReturnS line es)))

pub return_starts : (ts : List Token) (w : Context) (goes : TokenClass → Bool) (i : ℕ) → class_at ts i ≡ Return → Left Stat ts (stat_lang ts w) goes i (return_rest ts w (tok_at ts i).line) (i + 1) 1
unfolding SpellsStat SpellsAll
return_starts ts w goes i here = begun ts w goes i Return (return_rest ts w (tok_at ts i).line) here down up
  where
    down : (s : Stat) (b n f j : ℕ) → Starts s Return → SpellsStat (given_tokens ts n f) (high w b) s i j → Headed ts w Return (tok_at ts i).line (return_rest ts w (tok_at ts i).line) s b n f i j
    down (ReturnS l NoExp) b n f j x d =
        let same : ReturnS l NoExp ≡ ReturnS (tok_at ts i).line NoExp = ap (λ (y : ℕ). ReturnS y NoExp) d.1.0 in
        (d.0, (refl, d.1.1, d.1.2), (d.2.0, d.2.1, elim d.2.2 [ inl y ↦ inl (same, y.1) | inr y ↦ absurd y ]))
    down (ReturnS l (MoreExp e es)) b n f j x d =
        let same : ReturnS l (MoreExp e es) ≡ ReturnS (tok_at ts i).line (MoreExp e es) = ap (λ (y : ℕ). ReturnS y (MoreExp e es)) d.1.0 in
        (d.0, (refl, d.1.1, d.1.2), (d.2.0, d.2.1, elim d.2.2 [ inl y ↦ absurd y.0 | inr y ↦ inr (MoreExp e es, j, y, (same, refl)) ]))
    down s b n f j x d = absurd x

    up : (s : Stat) (b n f j : ℕ) → Headed ts w Return (tok_at ts i).line (return_rest ts w (tok_at ts i).line) s b n f i j → SpellsStat (given_tokens ts n f) (high w b) s i j
    up s b n f j h = elim h.2.2 [
      | inl y ↦ is_stat ts w b n f i h.2.0 j (ReturnS (tok_at ts i).line NoExp) s y (h.0, h.1, (h.2.0, h.2.1, inl (tt, refl)))
      | inr y ↦ is_stat ts w b n f i y.1 j (ReturnS (tok_at ts i).line y.0) s y.3 (h.0, h.1, (h.2.0, h.2.1, inr y.2))
    ]

-- break, in a loop
pub break_starts : (ts : List Token) (w : Context) (goes : TokenClass → Bool) (i : ℕ) → w.inside_loop ≡ true → class_at ts i ≡ Break → Left Stat ts (stat_lang ts w) goes i (Done (BreakS (tok_at ts i).line)) (i + 1) 1
unfolding SpellsStat
break_starts ts w goes i inside here = begun ts w goes i Break (Done (BreakS (tok_at ts i).line)) here down up
  where
    down : (s : Stat) (b n f j : ℕ) → Starts s Break → SpellsStat (given_tokens ts n f) (high w b) s i j → Headed ts w Break (tok_at ts i).line (Done (BreakS (tok_at ts i).line)) s b n f i j
    down (BreakS l) b n f j x d = (d.0, (refl, d.1.1, d.1.2), (j, (d.2.0, d.2.2), (ap BreakS d.1.0, refl)))
    down s b n f j x d = absurd x

    up : (s : Stat) (b n f j : ℕ) → Headed ts w Break (tok_at ts i).line (Done (BreakS (tok_at ts i).line)) s b n f i j → SpellsStat (given_tokens ts n f) (high w b) s i j
    up s b n f j h = is_stat ts w b n f i h.2.0 j (BreakS (tok_at ts i).line) s h.2.2 (h.0, h.1, (h.2.1.0, (λ y lt. inside), h.2.1.1))

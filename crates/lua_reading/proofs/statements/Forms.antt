-- What is left of `local`, `for` and `if` after their first word.
use Rattle.std.proofs.Common.{◌≡◌, ℕ, [], ◌∷◌, ◌+◌, Bool, false, List, refl, ap, inl, inr}
use Rattle.lua_lexer.specs.declared.token.Token.{Token}
use Rattle.lua_grammar.specs.declared.TokenClass.{TokenClass}
use Rattle.lua_grammar.specs.declared.TokenClass.TheVariants.{Name, Else, End, For, Function, If, In, Local, Assign, Comma}
use Rattle.lua_grammar.specs.declared.Context.{Context}
use Rattle.lua_grammar.specs.Tokens.{class_at, tok_at}
use Rattle.lua_syntax.specs.Tree.{Exp, Exps, Fun, Block, Arms, Stat, NoExp, MoreExp, IfS, IfElseS, CountS, CountByS, EachS, LocalFunctionS, LocalS}
use Rattle.lua_grammar.specs.Grammar.{given_tokens, in_loop, SpellsAll, SpellsStat}
use Rattle.lua_reading.specs.Parsing.{high, stat_lang}
use Rattle.lua_reading.proofs.pieces.Steps.{Rest, Done, Word, Named, Here, Under, Either, Left}
use Rattle.lua_reading.proofs.pieces.Kinds.{exp_kind, all_kind, block_kind, body_kind, arms_kind}
use Rattle.lua_reading.proofs.statements.Begins.{Starts}
use Rattle.lua_reading.proofs.statements.Split.{Headed, begun, is_stat}
use Rattle.lua_reading.proofs.lists.Names.{more_names_kind, do_kind}

-- local
abbrev pub local_function_rest : List Token → Context → ℕ → Rest Stat
local_function_rest ts w line = Word Function (Named Name (λ x. Under Fun (body_kind false ts w) (λ v. Done (LocalFunctionS line x v))))

abbrev pub local_values_rest : List Token → Context → ℕ → List (List ℕ) → Rest Stat
local_values_rest ts w line xs = Either (Done (LocalS line xs NoExp)) (Word Assign (Under Exps (all_kind ts w) (λ es. Done (LocalS line xs es))))

abbrev pub local_names_rest : List Token → Context → ℕ → Rest Stat
local_names_rest ts w line = Named Name (λ x. Here (List (List ℕ)) (more_names_kind ts) (λ xs. local_values_rest ts w line (x ∷ xs)))

abbrev pub local_rest : List Token → Context → ℕ → Rest Stat
local_rest ts w line = Either (local_function_rest ts w line) (local_names_rest ts w line)

pub local_starts : (ts : List Token) (w : Context) (goes : TokenClass → Bool) (i : ℕ) → class_at ts i ≡ Local → Left Stat ts (stat_lang ts w) goes i (local_rest ts w (tok_at ts i).line) (i + 1) 1
unfolding SpellsStat SpellsAll
local_starts ts w goes i here = begun ts w goes i Local (local_rest ts w (tok_at ts i).line) here down up
  where
    down : (s : Stat) (b n f j : ℕ) → Starts s Local → SpellsStat (given_tokens ts n f) (high w b) s i j → Headed ts w Local (tok_at ts i).line (local_rest ts w (tok_at ts i).line) s b n f i j
    down (LocalFunctionS l x v) b n f j z d =
        let same : LocalFunctionS l x v ≡ LocalFunctionS (tok_at ts i).line x v = ap (λ (y : ℕ). LocalFunctionS y x v) d.1.0 in
        let t = d.2.2 in
        (d.0, (refl, d.1.1, d.1.2), (d.2.0, d.2.1, inl (t.0, t.1, (x, t.2.0, t.2.1, (v, j, t.2.2, (same, refl))))))
    down (LocalS l [] es) b n f j z d = absurd d.2.2.1.0
    down (LocalS l (x ∷ xs) NoExp) b n f j z d =
        let same : LocalS l (x ∷ xs) NoExp ≡ LocalS (tok_at ts i).line (x ∷ xs) NoExp = ap (λ (y : ℕ). LocalS y (x ∷ xs) NoExp) d.1.0 in
        let t = d.2.2 in
        (d.0, (refl, d.1.1, d.1.2), (d.2.0, d.2.1, inr (x, t.1.0, t.1.1, (xs, t.0, t.1.2, elim t.2 [ inl y ↦ inl (same, y.1) | inr y ↦ absurd y.2 ]))))
    down (LocalS l (x ∷ xs) (MoreExp e es)) b n f j z d =
        let same : LocalS l (x ∷ xs) (MoreExp e es) ≡ LocalS (tok_at ts i).line (x ∷ xs) (MoreExp e es) = ap (λ (y : ℕ). LocalS y (x ∷ xs) (MoreExp e es)) d.1.0 in
        let t = d.2.2 in
        (d.0, (refl, d.1.1, d.1.2), (d.2.0, d.2.1, inr (x, t.1.0, t.1.1, (xs, t.0, t.1.2, elim t.2 [ inl y ↦ absurd y.0 | inr y ↦ inr (y.0, y.1, (MoreExp e es, j, y.2, (same, refl))) ]))))
    down s b n f j z d = absurd z

    up : (s : Stat) (b n f j : ℕ) → Headed ts w Local (tok_at ts i).line (local_rest ts w (tok_at ts i).line) s b n f i j → SpellsStat (given_tokens ts n f) (high w b) s i j
    up s b n f j h = elim h.2.2 [
      | inl y ↦ let t = y.2 in is_stat ts w b n f i t.3.1 j (LocalFunctionS (tok_at ts i).line t.0 t.3.0) s t.3.3 (h.0, h.1, (h.2.0, h.2.1, (y.0, y.1, (t.1, t.2, t.3.2))))
      | inr y ↦ let t = y.3 in elim t.3 [
        | inl z ↦ is_stat ts w b n f i t.1 j (LocalS (tok_at ts i).line (y.0 ∷ t.0) NoExp) s z (h.0, h.1, (h.2.0, h.2.1, (t.1, (y.1, y.2, t.2), inl (tt, refl))))
        | inr z ↦ is_stat ts w b n f i z.2.1 j (LocalS (tok_at ts i).line (y.0 ∷ t.0) z.2.0) s z.2.3 (h.0, h.1, (h.2.0, h.2.1, (t.1, (y.1, y.2, t.2), inr (z.0, z.1, z.2.2))))
      ]
    ]

-- for
abbrev pub loop_rest : List Token → Context → (Block → Stat) → Rest Stat
loop_rest ts w of = Under Block (do_kind ts (in_loop w)) (λ k. Done (of k))

abbrev pub last_rest : List Token → Context → ℕ → List ℕ → Exp → Exp → Rest Stat
last_rest ts w line x a c = Either (loop_rest ts w (CountS line x a c)) (Word Comma (Under Exp (exp_kind ts w 1) (λ by. loop_rest ts w (CountByS line x a c by))))

abbrev pub to_rest : List Token → Context → ℕ → List ℕ → Exp → Rest Stat
to_rest ts w line x a = Word Comma (Under Exp (exp_kind ts w 1) (last_rest ts w line x a))

abbrev pub count_rest : List Token → Context → ℕ → List ℕ → Rest Stat
count_rest ts w line x = Word Assign (Under Exp (exp_kind ts w 1) (to_rest ts w line x))

abbrev pub each_rest : List Token → Context → ℕ → List (List ℕ) → Rest Stat
each_rest ts w line xs = Word In (Under Exps (all_kind ts w) (λ es. loop_rest ts w (EachS line xs es)))

abbrev pub behind_name : List Token → Context → ℕ → List ℕ → Rest Stat
behind_name ts w line x = Either (count_rest ts w line x) (Here (List (List ℕ)) (more_names_kind ts) (λ xs. each_rest ts w line (x ∷ xs)))

abbrev pub for_rest : List Token → Context → ℕ → Rest Stat
for_rest ts w line = Named Name (behind_name ts w line)

pub for_starts : (ts : List Token) (w : Context) (goes : TokenClass → Bool) (i : ℕ) → class_at ts i ≡ For → Left Stat ts (stat_lang ts w) goes i (for_rest ts w (tok_at ts i).line) (i + 1) 1
unfolding SpellsStat
for_starts ts w goes i here = begun ts w goes i For (for_rest ts w (tok_at ts i).line) here down up
  where
    down : (s : Stat) (b n f j : ℕ) → Starts s For → SpellsStat (given_tokens ts n f) (high w b) s i j → Headed ts w For (tok_at ts i).line (for_rest ts w (tok_at ts i).line) s b n f i j
    down (CountS l x a c k) b n f j z d =
        let same : CountS l x a c k ≡ CountS (tok_at ts i).line x a c k = ap (λ (y : ℕ). CountS y x a c k) d.1.0 in
        let t = d.2.2 in
        let r = t.2.2 in
        let p = r.2.2 in
        (d.0, (refl, d.1.1, d.1.2), (d.2.0, d.2.1, (x, t.0, t.1, inl (t.2.0, t.2.1, (a, r.0, r.1, (r.2.0, r.2.1, (c, p.0, p.1, inl (k, j, p.2, (same, refl)))))))))
    down (CountByS l x a c by k) b n f j z d =
        let same : CountByS l x a c by k ≡ CountByS (tok_at ts i).line x a c by k = ap (λ (y : ℕ). CountByS y x a c by k) d.1.0 in
        let t = d.2.2 in
        let r = t.2.2 in
        let p = r.2.2 in
        let o = p.2.2 in
        (d.0, (refl, d.1.1, d.1.2), (d.2.0, d.2.1, (x, t.0, t.1, inl (t.2.0, t.2.1, (a, r.0, r.1, (r.2.0, r.2.1, (c, p.0, p.1, inr (p.2.0, p.2.1, (by, o.0, o.1, (k, j, o.2, (same, refl)))))))))))
    down (EachS l [] es k) b n f j z d = absurd d.2.2.1.0
    down (EachS l (x ∷ xs) es k) b n f j z d =
        let same : EachS l (x ∷ xs) es k ≡ EachS (tok_at ts i).line (x ∷ xs) es k = ap (λ (y : ℕ). EachS y (x ∷ xs) es k) d.1.0 in
        let t = d.2.2 in
        let r = t.2.2 in
        (d.0, (refl, d.1.1, d.1.2), (d.2.0, d.2.1, (x, t.1.0, t.1.1, inr (xs, t.0, t.1.2, (t.2.0, t.2.1, (es, r.0, r.1, (k, j, r.2, (same, refl))))))))
    down s b n f j z d = absurd z

    up : (s : Stat) (b n f j : ℕ) → Headed ts w For (tok_at ts i).line (for_rest ts w (tok_at ts i).line) s b n f i j → SpellsStat (given_tokens ts n f) (high w b) s i j
    up s b n f j h =
        let y = h.2.2 in
        elim y.3 [
          | inl u ↦ let a = u.2 in let c = a.3.2 in elim c.3 [
            | inl k ↦ is_stat ts w b n f i k.1 j (CountS (tok_at ts i).line y.0 a.0 c.0 k.0) s k.3 (h.0, h.1, (h.2.0, h.2.1, (y.1, y.2, (u.0, u.1, (a.1, a.2, (a.3.0, a.3.1, (c.1, c.2, k.2)))))))
            | inr v ↦ let e = v.2 in let k = e.3 in
                is_stat ts w b n f i k.1 j (CountByS (tok_at ts i).line y.0 a.0 c.0 e.0 k.0) s k.3 (h.0, h.1, (h.2.0, h.2.1, (y.1, y.2, (u.0, u.1, (a.1, a.2, (a.3.0, a.3.1, (c.1, c.2, (v.0, v.1, (e.1, e.2, k.2)))))))))
          ]
          | inr u ↦ let e = u.3.2 in let k = e.3 in
              is_stat ts w b n f i k.1 j (EachS (tok_at ts i).line (y.0 ∷ u.0) e.0 k.0) s k.3 (h.0, h.1, (h.2.0, h.2.1, (u.1, (y.1, y.2, u.2), (u.3.0, u.3.1, (e.1, e.2, k.2)))))
        ]

-- if
abbrev pub else_rest : List Token → Context → ℕ → Arms → Rest Stat
else_rest ts w line arms = Either (Word End (Done (IfS line arms))) (Word Else (Under Block (block_kind ts w) (λ k. Word End (Done (IfElseS line arms k)))))

abbrev pub if_rest : List Token → Context → ℕ → Rest Stat
if_rest ts w line = Under Arms (arms_kind ts w) (else_rest ts w line)

pub if_starts : (ts : List Token) (w : Context) (goes : TokenClass → Bool) (i : ℕ) → class_at ts i ≡ If → Left Stat ts (stat_lang ts w) goes i (if_rest ts w (tok_at ts i).line) (i + 1) 1
unfolding SpellsStat
if_starts ts w goes i here = begun ts w goes i If (if_rest ts w (tok_at ts i).line) here down up
  where
    down : (s : Stat) (b n f j : ℕ) → Starts s If → SpellsStat (given_tokens ts n f) (high w b) s i j → Headed ts w If (tok_at ts i).line (if_rest ts w (tok_at ts i).line) s b n f i j
    down (IfS l arms) b n f j z d =
        let same : IfS l arms ≡ IfS (tok_at ts i).line arms = ap (λ (y : ℕ). IfS y arms) d.1.0 in
        let t = d.2.2 in
        (d.0, (refl, d.1.1, d.1.2), (d.2.0, d.2.1, (arms, t.0, t.1, inl (j, t.2, (same, refl)))))
    down (IfElseS l arms k) b n f j z d =
        let same : IfElseS l arms k ≡ IfElseS (tok_at ts i).line arms k = ap (λ (y : ℕ). IfElseS y arms k) d.1.0 in
        let t = d.2.2 in
        let q = t.2.2 in
        (d.0, (refl, d.1.1, d.1.2), (d.2.0, d.2.1, (arms, t.0, t.1, inr (t.2.0, t.2.1, (k, q.0, q.1, (j, q.2, (same, refl)))))))
    down s b n f j z d = absurd z

    up : (s : Stat) (b n f j : ℕ) → Headed ts w If (tok_at ts i).line (if_rest ts w (tok_at ts i).line) s b n f i j → SpellsStat (given_tokens ts n f) (high w b) s i j
    up s b n f j h =
        let y = h.2.2 in
        elim y.3 [
          | inl u ↦ is_stat ts w b n f i u.0 j (IfS (tok_at ts i).line y.0) s u.2 (h.0, h.1, (h.2.0, h.2.1, (y.1, y.2, u.1)))
          | inr u ↦ let k = u.2 in let r = k.3 in
              is_stat ts w b n f i r.0 j (IfElseS (tok_at ts i).line y.0 k.0) s r.2 (h.0, h.1, (h.2.0, h.2.1, (y.1, y.2, (u.0, u.1, (k.1, k.2, r.1)))))
        ]

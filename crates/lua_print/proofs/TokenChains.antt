-- Two lists of tokens whose kinds are the same, and whose lines go on together, are twins.
use Rattle.std.proofs.Common.{◌≡◌, ◌≢◌, ℕ, zero, suc, pred, ◌<◌, ◌≤◌, ◌⊎◌, inl, inr, Bool, true, false, List, [], ◌∷◌, length, refl, sym, ap, ◌∙◌, arith}
use Rattle.std.specs.Prelude.{if◌then◌else◌, ◌==◌}
use Rattle.std.proofs.lemmas.Bool.{cond-true, cond-false, eq-eqb, eqb-true}
use Rattle.lua_lexer.specs.declared.token.Token.{Token}
use Rattle.lua_reading.specs.LuaGrammarDeclaredTokenClassTheVariants.{Eof}
use Rattle.lua_reading.specs.LuaGrammarTokens.{kind_class, class_at, tok_at}
use Rattle.lua_token_laws.specs.Twins.{AreTwins}

-- A token and its twin, behind the lines where the tokens before them end.
pub record Steps (a b : ℕ) (t u : Token) : Type 0 where
  pub low : a ≤ t.line
  pub starts : t.line ≡ a → u.line ≡ b
  pub grows : t.line ≤ t.end_line
  pub ends : t.end_line ≡ t.line → u.end_line ≡ u.line

-- All tokens, the last of which is the end.
abbrev pub Chain : ℕ → ℕ → List Token → List Token → Type 0
Chain a b [] us = ⊥
Chain a b (t ∷ ts) [] = ⊥
Chain a b (t ∷ ts) (u ∷ us) = (u.kind ≡ t.kind) × (((kind_class t.kind ≡ Eof) × (ts ≡ []) × (us ≡ [])) ⊎ (Steps a b t u × Chain t.end_line u.end_line ts us))

-- The line of the twin of the first token on a line.
abbrev pub look : List Token → List Token → ℕ → ℕ
look [] us l = 0
look (t ∷ ts) [] l = 0
look (t ∷ ts) (u ∷ us) l = if t.line == l then u.line else look ts us l

size : (a b : ℕ) (ts us : List Token) → Chain a b ts us → length us ≡ length ts
size a b [] us c = absurd c
size a b (t ∷ ts) [] c = absurd c
size a b (t ∷ ts) (u ∷ us) (same, inl (end, none, nothing)) = let left : length ts ≡ 0 = ap length none in let right : length us ≡ 0 = ap length nothing in omega (arith, left, right)
size a b (t ∷ ts) (u ∷ us) (same, inr (steps, rest)) = let left : length us ≡ length ts = size t.end_line u.end_line ts us rest in omega (arith, left)

past : (ts : List Token) (i : ℕ) → ts ≡ [] → suc i < suc (length ts) → ⊥
past ts i none lt = let empty : length ts ≡ 0 = ap length none in omega (arith, empty, lt)

kinds : (a b : ℕ) (ts us : List Token) → Chain a b ts us → (i : ℕ) → i < length ts → (tok_at us i).kind ≡ (tok_at ts i).kind
unfolding tok_at
kinds a b [] us c i lt = absurd c
kinds a b (t ∷ ts) [] c i lt = absurd c
kinds a b (t ∷ ts) (u ∷ us) (same, rest) zero lt = same
kinds a b (t ∷ ts) (u ∷ us) (same, inl (end, none, nothing)) (suc i) lt = absurd (past ts i none lt)
kinds a b (t ∷ ts) (u ∷ us) (same, inr (steps, rest)) (suc i) lt = kinds t.end_line u.end_line ts us rest i (omega (arith, lt))

-- Lines grow.
low : (a b : ℕ) (ts us : List Token) → Chain a b ts us → (i : ℕ) → i < length ts → class_at ts i ≢ Eof → a ≤ (tok_at ts i).line
unfolding tok_at
low a b [] us c i lt other = absurd c
low a b (t ∷ ts) [] c i lt other = absurd c
low a b (t ∷ ts) (u ∷ us) (same, inl (end, none, nothing)) zero lt other = absurd (other end)
low a b (t ∷ ts) (u ∷ us) (same, inl (end, none, nothing)) (suc i) lt other = absurd (past ts i none lt)
low a b (t ∷ ts) (u ∷ us) (same, inr (steps, rest)) zero lt other = steps.low
low a b (t ∷ ts) (u ∷ us) (same, inr (steps, rest)) (suc i) lt other =
    let later : t.end_line ≤ (tok_at ts i).line = low t.end_line u.end_line ts us rest i (omega (arith, lt)) other in
    omega (arith, later, steps.low, steps.grows)

-- What stands on the line where the token before ends does so in both.
same_line : (a b : ℕ) (ts us : List Token) → Chain a b ts us → (i : ℕ) → i < length ts → class_at ts i ≢ Eof → (tok_at ts i).line ≡ a → (tok_at us i).line ≡ b
unfolding tok_at
same_line a b [] us c i lt other e = absurd c
same_line a b (t ∷ ts) [] c i lt other e = absurd c
same_line a b (t ∷ ts) (u ∷ us) (same, inl (end, none, nothing)) zero lt other e = absurd (other end)
same_line a b (t ∷ ts) (u ∷ us) (same, inl (end, none, nothing)) (suc i) lt other e = absurd (past ts i none lt)
same_line a b (t ∷ ts) (u ∷ us) (same, inr (steps, rest)) zero lt other e = steps.starts e
same_line a b (t ∷ ts) (u ∷ us) (same, inr (steps, rest)) (suc i) lt other e =
    let within : i < length ts = omega (arith, lt) in
    let later : t.end_line ≤ (tok_at ts i).line = low t.end_line u.end_line ts us rest i within other in
    let starts : t.line ≡ a = omega (arith, later, e, steps.low, steps.grows) in
    let ends : t.end_line ≡ t.line = omega (arith, later, e, starts, steps.grows) in
    let here : (tok_at ts i).line ≡ t.end_line = omega (arith, e, starts, ends) in
    same_line t.end_line u.end_line ts us rest i within other here ∙ steps.ends ends ∙ steps.starts starts

looked : (a b : ℕ) (ts us : List Token) → Chain a b ts us → (i : ℕ) → i < length ts → class_at ts i ≢ Eof → (tok_at us i).line ≡ look ts us (tok_at ts i).line
unfolding tok_at
looked a b [] us c i lt other = absurd c
looked a b (t ∷ ts) [] c i lt other = absurd c
looked a b (t ∷ ts) (u ∷ us) (same, rest) zero lt other = sym (cond-true _ _ _ (eq-eqb t.line t.line refl))
looked a b (t ∷ ts) (u ∷ us) (same, inl (end, none, nothing)) (suc i) lt other = absurd (past ts i none lt)
looked a b (t ∷ ts) (u ∷ us) (same, inr (steps, rest)) (suc i) lt other =
    by (t.line == (tok_at ts i).line) refl within (low t.end_line u.end_line ts us rest i within other) (looked t.end_line u.end_line ts us rest i within other)
  where
    within : i < length ts
    within = omega (arith, lt)

    by : (x : Bool) → (t.line == (tok_at ts i).line) ≡ x → i < length ts → t.end_line ≤ (tok_at ts i).line → (tok_at us i).line ≡ look ts us (tok_at ts i).line → (tok_at us i).line ≡ (if t.line == (tok_at ts i).line then u.line else look ts us (tok_at ts i).line)
    by true e inside later found =
        let line : t.line ≡ (tok_at ts i).line = eqb-true _ _ e in
        let ends : t.end_line ≡ t.line = omega (arith, later, line, steps.grows) in
        let here : (tok_at ts i).line ≡ t.end_line = omega (arith, line, ends) in
        same_line t.end_line u.end_line ts us rest i inside other here ∙ steps.ends ends ∙ sym (cond-true _ _ _ e)
    by false e inside later found = found ∙ sym (cond-false _ _ _ e)

beside : (a b : ℕ) (ts us : List Token) → Chain a b ts us → (i : ℕ) → i < length ts → class_at ts i ≢ Eof → (tok_at ts i).line ≡ (tok_at ts (pred i)).end_line → (tok_at us i).line ≡ (tok_at us (pred i)).end_line
unfolding tok_at
beside a b [] us c i lt other e = absurd c
beside a b (t ∷ ts) [] c i lt other e = absurd c
beside a b (t ∷ ts) (u ∷ us) (same, inl (end, none, nothing)) zero lt other e = absurd (other end)
beside a b (t ∷ ts) (u ∷ us) (same, inl (end, none, nothing)) (suc i) lt other e = absurd (past ts i none lt)
beside a b (t ∷ ts) (u ∷ us) (same, inr (steps, rest)) zero lt other e = sym (steps.ends (sym e))
beside a b (t ∷ ts) (u ∷ us) (same, inr (steps, rest)) (suc zero) lt other e = same_line t.end_line u.end_line ts us rest zero (omega (arith, lt)) other e
beside a b (t ∷ ts) (u ∷ us) (same, inr (steps, rest)) (suc (suc i)) lt other e = beside t.end_line u.end_line ts us rest (suc i) (omega (arith, lt)) other e

pub chain_twins : (a b : ℕ) (ts us : List Token) → Chain a b ts us → AreTwins (look ts us) ts us
chain_twins a b ts us c = record { size = size a b ts us c; kinds = kinds a b ts us c; lines = looked a b ts us c; beside = beside a b ts us c }

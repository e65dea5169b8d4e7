-- Stretches of tokens in which all neighbours fit, and that can stand behind one another.
use Rattle.std.proofs.Common.{◌≡◌, ◌≢◌, ℕ, suc, pred, ◌<◌, ◌≤◌, ◌⊎◌, inl, inr, Bool, true, false, List, refl, sym, ap, subst, ◌∙◌, arith, true≢false}
use Rattle.std.proofs.lemmas.Bool.{cases_lt}
use Rattle.lua_lexer.specs.declared.token.Token.{Token}
use Rattle.lua_grammar.specs.declared.TokenClass.{TokenClass}
use Rattle.lua_grammar.specs.declared.TokenClass.TheVariants.{Name, LeftBracket, Dot}
use Rattle.lua_grammar.specs.Tokens.{class_at}
use Rattle.lua_token_laws.specs.Neighbours.{Indexed, NoEquals, Fits}

-- Neither a point nor [.
abbrev pub is_quiet : TokenClass → Bool
is_quiet Dot = false
is_quiet LeftBracket = false
is_quiet class = true

quiet_other : (class loud : TokenClass) → is_quiet class ≡ true → is_quiet loud ≡ false → class ≢ loud
quiet_other class loud q none e = absurd (true≢false (sym q ∙ ap is_quiet e ∙ none))

module _ (ts : List Token) where
  -- All neighbours from one place to another fit; no point is the first of them, and neither a point nor [ the last.
  pub record Calm (i j : ℕ) : Type 0 where
    pub inner : (m : ℕ) → i ≤ m → suc m < j → Fits (class_at ts m) (class_at ts (suc m))
    pub first : i < j → class_at ts i ≢ Dot
    pub last_dot : i < j → class_at ts (pred j) ≢ Dot
    pub last_bracket : i < j → class_at ts (pred j) ≢ LeftBracket

  -- nothing
  pub empty : (i : ℕ) → Calm i i
  empty i = record {
    inner = λ m lo hi. absurd (omega (arith, lo, hi));
    first = λ lt. absurd (omega (arith, lt));
    last_dot = λ lt. absurd (omega (arith, lt));
    last_bracket = λ lt. absurd (omega (arith, lt));
  }

  -- one token
  one : (i : ℕ) → class_at ts i ≢ Dot → class_at ts i ≢ LeftBracket → Calm i (suc i)
  one i d b = record { inner = λ m lo hi. absurd (omega (arith, lo, hi)); first = λ lt. d; last_dot = λ lt. d; last_bracket = λ lt. b }

  pub one_quiet : (i : ℕ) → is_quiet (class_at ts i) ≡ true → Calm i (suc i)
  one_quiet i q = one i (quiet_other (class_at ts i) Dot q refl) (quiet_other (class_at ts i) LeftBracket q refl)

  -- Neighbours at a seam fit, where the one in front is neither a point nor [, and the one behind no point.
  seam : (m : ℕ) → class_at ts m ≢ Dot → class_at ts m ≢ LeftBracket → class_at ts (suc m) ≢ Dot → Fits (class_at ts m) (class_at ts (suc m))
  seam m d b f = record { dot = λ e. absurd (f e); behind_dot = λ e. absurd (d e); behind_bracket = λ e. absurd (b e) }

  -- one thing behind another
  pub joined : (i m j : ℕ) → i ≤ m → m ≤ j → Calm i m → Calm m j → Calm i j
  joined i m j le le' a b = record {
    inner = λ p lo hi. inner p lo hi (cases_lt (suc p) m);
    first = λ lt. first (cases_lt i m) lt;
    last_dot = λ lt. last (λ (c : TokenClass). c ≢ Dot) a.last_dot b.last_dot (cases_lt m j) lt;
    last_bracket = λ lt. last (λ (c : TokenClass). c ≢ LeftBracket) a.last_bracket b.last_bracket (cases_lt m j) lt;
  }
    where
      at_seam : (p : ℕ) → i ≤ p → suc p < j → suc p ≡ m → Fits (class_at ts p) (class_at ts (suc p))
      at_seam p lo hi e =
          let before : pred m ≡ p = ap pred (sym e) in
          let some : i < m = omega (arith, lo, e) in
          seam p (subst (λ (q : ℕ). class_at ts q ≢ Dot) before (a.last_dot some)) (subst (λ (q : ℕ). class_at ts q ≢ LeftBracket) before (a.last_bracket some)) (subst (λ (q : ℕ). class_at ts q ≢ Dot) (sym e) (b.first (omega (arith, hi, e))))

      behind : (p : ℕ) → i ≤ p → suc p < j → (m ≤ p) ⊎ (p < m) → m ≤ suc p → Fits (class_at ts p) (class_at ts (suc p))
      behind p lo hi (inl ge) h = b.inner p ge hi
      behind p lo hi (inr lt) h = at_seam p lo hi (omega (arith, lt, h))

      turned : (p : ℕ) → (p < m) ⊎ (m ≤ p) → (m ≤ p) ⊎ (p < m)
      turned p (inl x) = inr x
      turned p (inr x) = inl x

      inner : (p : ℕ) → i ≤ p → suc p < j → (suc p < m) ⊎ (m ≤ suc p) → Fits (class_at ts p) (class_at ts (suc p))
      inner p lo hi (inl lt) = a.inner p lo lt
      inner p lo hi (inr ge) = behind p lo hi (turned p (cases_lt p m)) ge

      first : (i < m) ⊎ (m ≤ i) → i < j → class_at ts i ≢ Dot
      first (inl lt) h = a.first lt
      first (inr ge) h = let same : m ≡ i = omega (arith, le, ge) in subst (λ (q : ℕ). class_at ts q ≢ Dot) same (b.first (omega (arith, same, h)))

      last : (P : TokenClass → Type 0) → (i < m → P (class_at ts (pred m))) → (m < j → P (class_at ts (pred j))) → (m < j) ⊎ (j ≤ m) → i < j → P (class_at ts (pred j))
      last P x y (inl lt) h = y lt
      last P x y (inr ge) h = let same : m ≡ j = omega (arith, le', ge) in subst (λ (q : ℕ). P (class_at ts (pred q))) same (x (omega (arith, same, h)))

  -- [, what begins with no =, and what stands behind
  pub bracketed : (i j : ℕ) → class_at ts i ≡ LeftBracket → NoEquals (class_at ts (suc i)) → suc i < j → Calm (suc i) j → Calm i j
  bracketed i j e plain some b = record {
    inner = λ m lo hi. inner m lo hi (cases_lt i m);
    first = λ lt d. let wrong : LeftBracket ≡ Dot = sym e ∙ d in absurd cc;
    last_dot = λ lt. b.last_dot some;
    last_bracket = λ lt. b.last_bracket some;
  }
    where
      inner : (m : ℕ) → i ≤ m → suc m < j → (i < m) ⊎ (m ≤ i) → Fits (class_at ts m) (class_at ts (suc m))
      inner m lo hi (inl lt) = b.inner m lt hi
      inner m lo hi (inr ge) =
          let same : i ≡ m = omega (arith, lo, ge) in
          subst (λ (q : ℕ). Fits (class_at ts q) (class_at ts (suc q))) same
          (record { dot = λ d. absurd (b.first some d); behind_dot = λ d. absurd (wrong d); behind_bracket = λ d. plain })
        where
          wrong : class_at ts i ≡ Dot → ⊥
          wrong d = let no' : LeftBracket ≡ Dot = sym e ∙ d in absurd cc

  -- what can be indexed, a point and a name
  pub pointed : (i m : ℕ) → i < m → Calm i m → Indexed (class_at ts (pred m)) → class_at ts m ≡ Dot → class_at ts (suc m) ≡ Name → Calm i (suc (suc m))
  pointed i m some a can d n = record {
    inner = λ p lo hi. before p lo hi (cases_lt (suc p) m);
    first = λ lt. a.first some;
    last_dot = λ lt e. let wrong : Name ≡ Dot = sym n ∙ e in absurd cc;
    last_bracket = λ lt e. let wrong : Name ≡ LeftBracket = sym n ∙ e in absurd cc;
  }
    where
      at_point : Fits (class_at ts (pred m)) (class_at ts m)
      at_point = record { dot = λ e. can; behind_dot = λ e. absurd (a.last_dot some e); behind_bracket = λ e. absurd (a.last_bracket some e) }

      at_name : Fits (class_at ts m) (class_at ts (suc m))
      at_name = record {
        dot = λ e. let wrong : Name ≡ Dot = sym n ∙ e in absurd cc;
        behind_dot = λ e. n;
        behind_bracket = λ e. let wrong : Dot ≡ LeftBracket = sym d ∙ e in absurd cc;
      }

      behind : (p : ℕ) → m ≤ suc p → p ≤ m → (p < m) ⊎ (m ≤ p) → Fits (class_at ts p) (class_at ts (suc p))
      behind p ge le (inl lt) =
          let same : m ≡ suc p = omega (arith, ge, lt) in
          subst (λ (q : ℕ). Fits (class_at ts p) (class_at ts q)) same (subst (λ (q : ℕ). Fits (class_at ts q) (class_at ts m)) (ap pred same) at_point)
      behind p ge le (inr h) = let same : m ≡ p = omega (arith, le, h) in subst (λ (q : ℕ). Fits (class_at ts q) (class_at ts (suc q))) same at_name

      before : (p : ℕ) → i ≤ p → suc p < suc (suc m) → (suc p < m) ⊎ (m ≤ suc p) → Fits (class_at ts p) (class_at ts (suc p))
      before p lo hi (inl lt) = a.inner p lo lt
      before p lo hi (inr ge) = behind p ge (omega (arith, hi)) (cases_lt p m)

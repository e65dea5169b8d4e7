-- The left side of operators, indexes and calls: what has been read stands at the left end of what it becomes.
use Rattle.std.proofs.Common.{◌≡◌, ℕ, suc, ◌<◌, ◌≤◌, ◌⊎◌, Bool, true, false, cond, nat_lt, List, refl, subst, inl, inr, le_trans, le_refl, arith, lt-ltb}
use Rattle.lua_lexer.specs.declared.token.Token.{Token}
use Rattle.lua_grammar.specs.declared.TokenClass.TheVariants.{Name, LeftBracket, RightBracket, Colon}
use Rattle.lua_grammar.specs.declared.Context.{Context}
use Rattle.lua_syntax.specs.Tree.{Exp, NilE, TrueE, FalseE, NumberE, TextE, DotsE, FunctionE, NameE, IndexE, CallE, MethodE, TableE, BinaryE, UnaryE, ParenE}
use Rattle.lua_grammar.specs.Grammar.{given_tokens, Span, ◌⨟◌, ◌∣◌, word, text, node, ends, before, under, Spells, SpellsArgs, SpellsDot, IsPrefix, mark_of, level, left_level, right_level}
use Rattle.lua_reading.proofs.levels.Levels.{level-left, left-low, level-low}
use Rattle.lua_reading.specs.Parsing.{high}

-- ---- nodes above

-- What stands before the place o, below b nodes and one more that comes into being at o.
abbrev pub raised : ℕ → ℕ → ℕ → ℕ
raised n o b = cond (nat_lt o n) (suc b) b

pub before_high : (ts : List Token) (w : Context) (n f o b : ℕ) → before (given_tokens ts n f) o (high w b) ≡ high w (raised n o b)
before_high ts w n f o b = go (nat_lt o n)
  where
    go : (c : Bool) → cond c (under (high w b)) (high w b) ≡ high w (cond c (suc b) b)
    go true = refl
    go false = refl

pub raised_above : (n o b : ℕ) → b ≤ raised n o b
raised_above n o b = go (nat_lt o n)
  where
    go : (c : Bool) → b ≤ cond c (suc b) b
    go true = omega arith
    go false = le_refl b

pub raised_most : (n o b : ℕ) → raised n o b ≤ suc b
raised_most n o b = go (nat_lt o n)
  where
    go : (c : Bool) → cond c (suc b) b ≤ suc b
    go true = le_refl (suc b)
    go false = omega arith

pub raised_given : (n o b : ℕ) → o < n → raised n o b ≡ suc b
raised_given n o b lt = let e : nat_lt o n ≡ true = lt-ltb o n lt in rw e refl

-- ---- what stands behind the left end

abbrev pub head_level : Exp → ℕ
head_level (BinaryE line op a b) = left_level op
head_level e = 10

-- x is an operator, index, call or method on t.
abbrev pub IsOn : Exp → Exp → Type 0
IsOn t (BinaryE line op a b) = a ≡ t
IsOn t (IndexE line a k) = a ≡ t
IsOn t (CallE line a es) = a ≡ t
IsOn t (MethodE line a x es) = a ≡ t
IsOn t e = ⊥

unfoldable pub Tail : List Token → Context → ℕ → ℕ → ℕ → ℕ → Exp → Span
Tail ts w n f b l (BinaryE line op a c) o j =
    (l ≤ level op) × (node (given_tokens ts n f) (high w b) line ⨟ word (given_tokens ts n f) (mark_of op) ⨟ Spells (given_tokens ts n f) (high w (suc b)) (right_level op) c) o j
Tail ts w n f b l (IndexE line t k) o j =
    IsPrefix t × (node (given_tokens ts n f) (high w b) line ⨟ (SpellsDot (given_tokens ts n f) (high w (suc b)) k ∣ (word (given_tokens ts n f) LeftBracket ⨟ Spells (given_tokens ts n f) (high w (suc b)) 1 k ⨟ word (given_tokens ts n f) RightBracket)) ⨟ ends (given_tokens ts n f) l) o j
Tail ts w n f b l (CallE line t es) o j =
    IsPrefix t × (node (given_tokens ts n f) (high w b) line ⨟ SpellsArgs (given_tokens ts n f) (high w (suc b)) es ⨟ ends (given_tokens ts n f) l) o j
Tail ts w n f b l (MethodE line t x es) o j =
    IsPrefix t × (node (given_tokens ts n f) (high w b) line ⨟ word (given_tokens ts n f) Colon ⨟ text (given_tokens ts n f) Name x ⨟ SpellsArgs (given_tokens ts n f) (high w (suc b)) es ⨟ ends (given_tokens ts n f) l) o j
Tail ts w n f b l e o j = ⊥

-- x, below b nodes and at level l, ends at j; what is at its left end is y, below c nodes, at level k, and ends at m.
abbrev pub Same : ℕ → ℕ → Exp → ℕ → ℕ → ℕ → Exp → ℕ → Type 0
Same b l x j c k y m = (b ≡ c) × (l ≡ k) × (x ≡ y) × (j ≡ m)

unfoldable pub Spine : List Token → Context → ℕ → ℕ → ℕ → ℕ → Exp → ℕ → ℕ → ℕ → Exp → ℕ → Type 0
Spine ts w n f b l (BinaryE line op t r) j c k y m =
    Same b l (BinaryE line op t r) j c k y m ⊎ ((o : ℕ) × Spine ts w n f (raised n o b) (left_level op) t o c k y m × Tail ts w n f b l (BinaryE line op t r) o j)
Spine ts w n f b l (IndexE line t r) j c k y m =
    Same b l (IndexE line t r) j c k y m ⊎ ((o : ℕ) × Spine ts w n f (raised n o b) 10 t o c k y m × Tail ts w n f b l (IndexE line t r) o j)
Spine ts w n f b l (CallE line t r) j c k y m =
    Same b l (CallE line t r) j c k y m ⊎ ((o : ℕ) × Spine ts w n f (raised n o b) 10 t o c k y m × Tail ts w n f b l (CallE line t r) o j)
Spine ts w n f b l (MethodE line t x r) j c k y m =
    Same b l (MethodE line t x r) j c k y m ⊎ ((o : ℕ) × Spine ts w n f (raised n o b) 10 t o c k y m × Tail ts w n f b l (MethodE line t x r) o j)
Spine ts w n f b l x j c k y m = Same b l x j c k y m

pub spine_end : (ts : List Token) (w : Context) (n f b l : ℕ) (x : Exp) (j : ℕ) → Spine ts w n f b l x j b l x j
unfolding Spine
spine_end ts w n f b l (BinaryE line op t r) j = inl (refl, refl, refl, refl)
spine_end ts w n f b l (IndexE line t r) j = inl (refl, refl, refl, refl)
spine_end ts w n f b l (CallE line t r) j = inl (refl, refl, refl, refl)
spine_end ts w n f b l (MethodE line t x r) j = inl (refl, refl, refl, refl)
spine_end ts w n f b l (NilE line) j = (refl, refl, refl, refl)
spine_end ts w n f b l (TrueE line) j = (refl, refl, refl, refl)
spine_end ts w n f b l (FalseE line) j = (refl, refl, refl, refl)
spine_end ts w n f b l (NumberE line v) j = (refl, refl, refl, refl)
spine_end ts w n f b l (TextE line v) j = (refl, refl, refl, refl)
spine_end ts w n f b l (DotsE line) j = (refl, refl, refl, refl)
spine_end ts w n f b l (FunctionE line v) j = (refl, refl, refl, refl)
spine_end ts w n f b l (NameE line v) j = (refl, refl, refl, refl)
spine_end ts w n f b l (TableE line v) j = (refl, refl, refl, refl)
spine_end ts w n f b l (UnaryE line op v) j = (refl, refl, refl, refl)
spine_end ts w n f b l (ParenE line v) j = (refl, refl, refl, refl)

-- What stands next on the way up from y, which ends at m, to x.
pub record Next (ts : List Token) (w : Context) (n f b l : ℕ) (x : Exp) (j c k : ℕ) (y : Exp) (m : ℕ) : Type 0 where
  pub whole : Exp
  pub on : IsOn y whole
  pub above : ℕ
  pub below : b ≤ above
  pub raises : raised n m above ≡ c
  pub at_level : ℕ
  pub least : l ≤ at_level
  pub head : head_level whole ≡ k
  pub ten : l ≡ 10 → at_level ≡ 10
  pub end : ℕ
  pub tail : Tail ts w n f above at_level whole m end
  pub spine : Spine ts w n f b l x j above at_level whole end

-- One step further up.
abbrev Further : List Token → Context → ℕ → ℕ → ℕ → ℕ → Exp → ℕ → ℕ → ℕ → Exp → ℕ → Type 0
Further ts w n f b l x j c k y m = Same b l x j c k y m ⊎ Next ts w n f b l x j c k y m

-- The way up goes through x, whose left end is t.
abbrev step_up : (ts : List Token) (w : Context) (n f b l : ℕ) (x t : Exp) (j c k : ℕ) (y : Exp) (m o : ℕ) → IsOn t x → l ≤ head_level x → (l ≡ 10 → head_level x ≡ 10) →
    Tail ts w n f b l x o j → ((c' k' : ℕ) (y' : Exp) (m' : ℕ) → Spine ts w n f (raised n o b) (head_level x) t o c' k' y' m' → Spine ts w n f b l x j c' k' y' m') →
    Further ts w n f (raised n o b) (head_level x) t o c k y m → Next ts w n f b l x j c k y m
step_up ts w n f b l x t j c k y m o is least ten tail lift (inl s) = record {
  whole = x;
  on = subst (λ (z : Exp). IsOn z x) s.2 is;
  above = b;
  below = le_refl b;
  at_level = l;
  least = le_refl l;
  raises = subst (λ (z : ℕ). raised n z b ≡ c) s.3 s.0;
  head = s.1;
  ten = λ e. e;
  end = j;
  tail = subst (λ (z : ℕ). Tail ts w n f b l x z j) s.3 tail;
  spine = spine_end ts w n f b l x j;
}
step_up ts w n f b l x t j c k y m o is least ten tail lift (inr s) = record {
  whole = s.whole;
  on = s.on;
  above = s.above;
  below = le_trans (raised_above n o b) s.below;
  at_level = s.at_level;
  least = le_trans least s.least;
  raises = s.raises;
  head = s.head;
  ten = λ e. s.ten (ten e);
  end = s.end;
  tail = s.tail;
  spine = lift s.above s.at_level s.whole s.end s.spine;
}

pub next : (ts : List Token) (w : Context) (n f b l : ℕ) (x : Exp) (j c k : ℕ) (y : Exp) (m : ℕ) → l ≤ 10 → Spine ts w n f b l x j c k y m → Further ts w n f b l x j c k y m
unfolding Spine Tail
next ts w n f b l (BinaryE line op t r) j c k y m le (inl s) = inl s
next ts w n f b l (BinaryE line op t r) j c k y m le (inr s) =
    inr (step_up ts w n f b l (BinaryE line op t r) t j c k y m s.0 refl (le_trans s.2.0 (level-left op)) (λ e. absurd (omega (arith, e, s.2.0, level-low op))) s.2 (λ c' k' y' m' z. inr (s.0, z, s.2))
    (next ts w n f (raised n s.0 b) (left_level op) t s.0 c k y m (omega (arith, left-low op)) s.1))
next ts w n f b l (IndexE line t r) j c k y m le (inl s) = inl s
next ts w n f b l (IndexE line t r) j c k y m le (inr s) =
    inr (step_up ts w n f b l (IndexE line t r) t j c k y m s.0 refl le (λ e. refl) s.2 (λ c' k' y' m' z. inr (s.0, z, s.2)) (next ts w n f (raised n s.0 b) 10 t s.0 c k y m (le_refl 10) s.1))
next ts w n f b l (CallE line t r) j c k y m le (inl s) = inl s
next ts w n f b l (CallE line t r) j c k y m le (inr s) =
    inr (step_up ts w n f b l (CallE line t r) t j c k y m s.0 refl le (λ e. refl) s.2 (λ c' k' y' m' z. inr (s.0, z, s.2)) (next ts w n f (raised n s.0 b) 10 t s.0 c k y m (le_refl 10) s.1))
next ts w n f b l (MethodE line t x r) j c k y m le (inl s) = inl s
next ts w n f b l (MethodE line t x r) j c k y m le (inr s) =
    inr (step_up ts w n f b l (MethodE line t x r) t j c k y m s.0 refl le (λ e. refl) s.2 (λ c' k' y' m' z. inr (s.0, z, s.2)) (next ts w n f (raised n s.0 b) 10 t s.0 c k y m (le_refl 10) s.1))
next ts w n f b l (NilE line) j c k y m le s = inl s
next ts w n f b l (TrueE line) j c k y m le s = inl s
next ts w n f b l (FalseE line) j c k y m le s = inl s
next ts w n f b l (NumberE line v) j c k y m le s = inl s
next ts w n f b l (TextE line v) j c k y m le s = inl s
next ts w n f b l (DotsE line) j c k y m le s = inl s
next ts w n f b l (FunctionE line v) j c k y m le s = inl s
next ts w n f b l (NameE line v) j c k y m le s = inl s
next ts w n f b l (TableE line v) j c k y m le s = inl s
next ts w n f b l (UnaryE line op v) j c k y m le s = inl s
next ts w n f b l (ParenE line v) j c k y m le s = inl s

-- What ends among the tokens that are given: how what is known of the parts of a production goes on to the whole.
use Rattle.std.proofs.Common.{◌≡◌, ℕ, suc, ◌<◌, ◌≤◌, inl, inr, Bool, List, cond, ap, subst, arith}
use Rattle.std.proofs.lemmas.Bool.{lt-ltb}
use Rattle.lua_grammar.specs.declared.Context.{Context}
use Rattle.lua_grammar.specs.declared.TokenClass.{TokenClass}
use Rattle.lua_grammar.specs.Grammar.{GivenTokens, Span, ◌⨟◌, ◌∣◌, none, where', word, word_if, text, node, opens, separator, before, under}
use Rattle.lua_grammar.proofs.Rules.{Shallow}

-- What is here is one token.
abbrev pub IsToken : Span → Type 0
IsToken A = (i j : ℕ) → A i j → j ≡ suc i

module _ (g : GivenTokens) where
  -- It has tokens or none, and C holds of it.
  abbrev pub Within : Span → Type 0 → Type 0
  Within A C = (i j : ℕ) → A i j → j ≤ g.given → (i ≤ j) × C

  -- It has a token, and C holds of it.
  abbrev pub Inside : Span → Type 0 → Type 0
  Inside A C = (i j : ℕ) → A i j → j ≤ g.given → (i < j) × C

  pub is_word : (s : TokenClass) → IsToken (word g s)
  is_word s i j d = d.1

  pub is_text : (s : TokenClass) (bytes : List ℕ) → IsToken (text g s bytes)
  is_text s bytes i j d = d.1

  pub is_opening : IsToken (opens g)
  is_opening i j d = d.2

  pub is_separator : IsToken (separator g)
  is_separator i j d = d.1

  -- ---- what is known of one thing

  pub loosely : {A : Span} {C : Type 0} → Inside A C → Within A C
  loosely a i j d le = let x = a i j d le in (omega (arith, x.0), x.1)

  pub nameless : {A : Span} {C : Type 0} → Inside A C → Within A (Unit {0})
  nameless a i j d le = let x = a i j d le in (omega (arith, x.0), tt)

  pub told : {A : Span} {C D : Type 0} → (C → D) → Inside A C → Inside A D
  told f a i j d le = let x = a i j d le in (x.0, f x.1)

  pub and_also : {A : Span} {C D : Type 0} → C → Inside A D → Inside A (C × D)
  and_also c a i j d le = let x = a i j d le in (x.0, (c, x.1))

  pub nothing : Within none (Unit {0})
  nothing i j e le = (omega (arith, e), tt)

  pub one_token : {A : Span} → IsToken A → Inside A (Unit {0})
  one_token t i j d le = (omega (arith, t i j d), tt)

  pub only_where : {P C : Type 0} → (P → C) → Within (where' P) C
  only_where f i j (p, e) le = (omega (arith, e), f p)

  pub never : {C : Type 0} → Inside (where' ⊥) C
  never i j (p, e) le = absurd p

  pub condition : (s : TokenClass) (k : ℕ) (P : Type 0) → Inside (word_if g s k P) (g.free_of ≡ k → P)
  condition s k P i j d le = (omega (arith, d.2), (λ rule. d.1 rule (omega (arith, d.2, le))))

  pub either : {A B : Span} {C : Type 0} → Inside A C → Inside B C → Inside (A ∣ B) C
  either a b i j (inl x) le = a i j x le
  either a b i j (inr y) le = b i j y le

  pub either_rest : {A B : Span} {C : Type 0} → Within A C → Within B C → Within (A ∣ B) C
  either_rest a b i j (inl x) le = a i j x le
  either_rest a b i j (inr y) le = b i j y le

  -- ---- two things behind one another; the rest is what may have no token

  pub rest_both : {A B : Span} {C D : Type 0} → Within A C → Within B D → Within (A ⨟ B) (C × D)
  rest_both a b i j (m, x, y) le = let r = b m j y le in let q = a i m x (omega (arith, r.0, le)) in (omega (arith, q.0, r.0), (q.1, r.1))

  pub with_rest : {A B : Span} {C D : Type 0} → Inside A C → Within B D → Inside (A ⨟ B) (C × D)
  with_rest a b i j (m, x, y) le = let r = b m j y le in let q = a i m x (omega (arith, r.0, le)) in (omega (arith, q.0, r.0), (q.1, r.1))

  pub rest_with : {A B : Span} {C D : Type 0} → Within A C → Inside B D → Inside (A ⨟ B) (C × D)
  rest_with a b i j (m, x, y) le = let r = b m j y le in let q = a i m x (omega (arith, r.0, le)) in (omega (arith, q.0, r.0), (q.1, r.1))

  pub both : {A B : Span} {C D : Type 0} → Inside A C → Inside B D → Inside (A ⨟ B) (C × D)
  both a b = with_rest a (loosely b)

  -- Of one of the two nothing is known.
  pub over_rest : {A B : Span} {D : Type 0} → Within A (Unit {0}) → Within B D → Within (A ⨟ B) D
  over_rest a b i j d le = let r = rest_both a b i j d le in (r.0, r.1.1)

  pub then_rest : {A B : Span} {C : Type 0} → Inside A C → Within B (Unit {0}) → Inside (A ⨟ B) C
  then_rest a b i j d le = let r = with_rest a b i j d le in (r.0, r.1.0)

  pub token_rest : {A B : Span} {D : Type 0} → IsToken A → Within B D → Inside (A ⨟ B) D
  token_rest t b i j d le = let r = with_rest (one_token t) b i j d le in (r.0, r.1.1)

  pub token_then : {A B : Span} {D : Type 0} → IsToken A → Inside B D → Inside (A ⨟ B) D
  token_then t b = token_rest t (loosely b)

  pub rest_then_token : {A B : Span} {C : Type 0} → Within A C → IsToken B → Inside (A ⨟ B) C
  rest_then_token a t i j d le = let r = rest_with a (one_token t) i j d le in (r.0, r.1.0)

  pub then_token : {A B : Span} {C : Type 0} → Inside A C → IsToken B → Inside (A ⨟ B) C
  then_token a t = rest_then_token (loosely a) t

  pub given_that : {P D : Type 0} {B : Span} → (P → Inside B D) → Inside (where' P ⨟ B) D
  given_that b i j (m, (p, e), y) le = let r = b p m j y le in (omega (arith, e, r.0), r.1)

  pub known_rest : {P D : Type 0} {B : Span} → Within B D → Within (where' P ⨟ B) (P × D)
  known_rest b = rest_both (only_where (λ p. p)) b

  -- ---- nodes

  -- a node, and what stands behind the place where it comes into being
  pub node_then : {B : Span} {D : Type 0} (w : Context) (line : ℕ) → Inside B D → Inside (node g w line ⨟ B) (Shallow g.free_of w × D)
  node_then w line b i j (m, x, y) le = let r = b m j y le in (omega (arith, x.2, r.0), ((λ rule. x.1 rule (omega (arith, x.2, r.0, le))), r.1))

  pub leaf : {B : Span} (w : Context) (line : ℕ) → Inside B (Unit {0}) → Inside (node g w line ⨟ B) (Shallow g.free_of w)
  leaf w line b i j d le = let r = node_then w line b i j d le in (r.0, r.1.0)

  given_before : (w : Context) (m : ℕ) → m < g.given → before g m w ≡ under w
  given_before w m lt = ap (λ (b : Bool). cond b (under w) w) (lt-ltb m g.given lt)

  -- a node, and what stands on both sides of that place
  pub node_between : {B : Span} {D : Type 0} (A : Context → Span) (C : Context → Type 0) (w : Context) (line i m j : ℕ) → ((v : Context) → Inside (A v) (C v)) → Inside B D
      → A (before g m w) i m → (node g w line ⨟ B) m j → j ≤ g.given → (i < j) × (Shallow g.free_of w × (C (under w) × D))
  node_between A C w line i m j a b x y le =
      let r = node_then w line b m j y le in
      let q = a (before g m w) i m x (omega (arith, r.0, le)) in
      (omega (arith, q.0, r.0), (r.1.0, (subst C (given_before w m (omega (arith, r.0, le))) q.1, r.1.1)))

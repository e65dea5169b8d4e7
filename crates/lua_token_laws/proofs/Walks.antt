-- How what is known of the parts of a production goes on to the whole.
use Rattle.std.proofs.Common.{◌≡◌, ℕ, suc, pred, ◌<◌, ◌≤◌, ◌⊎◌, inl, inr, Bool, true, false, List, [], ◌∷◌, refl, sym, ap, subst, arith}
use Rattle.lua_grammar.specs.declared.Context.{Context}
use Rattle.lua_grammar.specs.declared.TokenClass.{TokenClass}
use Rattle.lua_grammar.specs.declared.TokenClass.TheVariants.{Name, Comma, Colon, Semicolon, LeftBracket, RightBracket, LeftParen, Dot, Dots}
use Rattle.lua_grammar.specs.Tokens.{class_at}
use Rattle.lua_grammar.specs.Grammar.{GivenTokens, Span, ◌⨟◌, ◌∣◌, none, where', word, text, node, opens, separator, ends, before, under, MoreNames, Names, Params, SpellsDot, SpellsName, SpellsPath, IsPath, IsMethodPath}
use Rattle.lua_syntax.specs.Tree.{Exp, Exps, TextE, NameE, IndexE, NoExp, MoreExp}
use Rattle.lua_token_laws.specs.Neighbours.{Indexed, NoEquals}
use Rattle.lua_token_laws.proofs.Calms.{Calm, is_quiet, empty, one_quiet, joined, bracketed, pointed}

module _ (g : GivenTokens) where
  -- What is here is one token of this class.
  abbrev pub IsOne : Span → TokenClass → Type 0
  IsOne A s = (i j : ℕ) → A i j → (i < g.given → class_at g.tokens i ≡ s) × (j ≡ suc i)

  -- Its neighbours fit.
  abbrev pub Calmed : Span → Type 0
  Calmed A = (i j : ℕ) → A i j → j ≤ g.given → (i ≤ j) × Calm g.tokens i j

  -- The same of what has a token, with what is known of the last one.
  pub record Tail (i j : ℕ) : Type 0 where
    pub some : i < j
    pub calm : Calm g.tokens i j
    pub last : Indexed (class_at g.tokens (pred j))

  abbrev pub IsTail : Span → Type 0
  IsTail A = (i j : ℕ) → A i j → j ≤ g.given → Tail i j

  -- The same of an expression: it begins with no =, and where it can be indexed (H), its last token is one that can be.
  pub record Whole (i j : ℕ) (H : Type 0) : Type 0 where
    pub some : i < j
    pub calm : Calm g.tokens i j
    pub first : NoEquals (class_at g.tokens i)
    pub last : H → Indexed (class_at g.tokens (pred j))

  abbrev pub IsWhole : Span → Type 0 → Type 0
  IsWhole A H = (i j : ℕ) → A i j → j ≤ g.given → Whole i j H

  -- What goes on with an expression that can be indexed.
  pub record Suffix (m j : ℕ) : Type 0 where
    pub some : m < j
    pub onto : (i : ℕ) → Tail i m → Tail i j

  abbrev pub IsSuffix : Span → Type 0
  IsSuffix A = (m j : ℕ) → A m j → j ≤ g.given → Suffix m j

  -- ---- one token

  pub is_word : (s : TokenClass) → IsOne (word g s) s
  is_word s i j d = d

  pub is_text : (s : TokenClass) (bytes : List ℕ) → IsOne (text g s bytes) s
  is_text s bytes i j d = ((λ lt. (d.0 lt).0), d.1)

  is_opening : IsOne (opens g) LeftParen
  is_opening i j d = (d.0, d.2)

  calm_at : (s : TokenClass) (i : ℕ) → class_at g.tokens i ≡ s → is_quiet s ≡ true → Calm g.tokens i (suc i)
  calm_at s i e q = one_quiet g.tokens i (subst (λ (c : TokenClass). is_quiet c ≡ true) (sym e) q)

  pub one : {A : Span} (s : TokenClass) → IsOne A s → is_quiet s ≡ true → Calmed A
  one s o q i j d le =
      let next : j ≡ suc i = (o i j d).1 in
      let given : i < g.given = omega (arith, next, le) in
      (omega (arith, next), subst (λ (k : ℕ). Calm g.tokens i k) (sym next) (calm_at s i ((o i j d).0 given) q))

  pub separated : Calmed (separator g)
  separated i j d le =
      let next : j ≡ suc i = d.1 in
      let given : i < g.given = omega (arith, next, le) in
      (omega (arith, next), subst (λ (k : ℕ). Calm g.tokens i k) (sym next) (by (d.0 given)))
    where
      by : (class_at g.tokens i ≡ Comma) ⊎ (class_at g.tokens i ≡ Semicolon) → Calm g.tokens i (suc i)
      by (inl e) = calm_at Comma i e refl
      by (inr e) = calm_at Semicolon i e refl

  -- ---- nothing, and one thing behind another

  same_place : (i j : ℕ) → i ≡ j → (i ≤ j) × Calm g.tokens i j
  same_place i j e = (omega (arith, e), subst (λ (k : ℕ). Calm g.tokens i k) e (empty g.tokens i))

  pub nothing : Calmed none
  nothing i j e le = same_place i j e

  pub never : Calmed (where' ⊥)
  never i j d le = absurd d.0

  pub only_where : {P : Type 0} → Calmed (where' P)
  only_where i j d le = same_place i j d.1

  pub node_is : (w : Context) (line : ℕ) → Calmed (node g w line)
  node_is w line i j d le = same_place i j d.2

  ends_is : (l : ℕ) → Calmed (ends g l)
  ends_is l i j d le = same_place i j d.1

  infixr 4 ◌⊳◌
  pub ◌⊳◌ : {A B : Span} → Calmed A → Calmed B → Calmed (A ⨟ B)
  (a ⊳ b) i j (m, x, y) le = let r = b m j y le in let q = a i m x (omega (arith, r.0, le)) in (omega (arith, q.0, r.0), joined g.tokens i m j q.0 r.0 q.1 r.1)

  pub either : {A B : Span} → Calmed A → Calmed B → Calmed (A ∣ B)
  either a b i j (inl x) le = a i j x le
  either a b i j (inr y) le = b i j y le

  -- ---- what ends with a token that can be indexed

  pub calm_tail : {A : Span} → IsTail A → Calmed A
  calm_tail a i j d le = let r = a i j d le in (omega (arith, r.some), r.calm)

  pub tail_one : {A : Span} (s : TokenClass) → IsOne A s → is_quiet s ≡ true → Indexed s → IsTail A
  tail_one s o q can i j d le =
      let next : j ≡ suc i = (o i j d).1 in
      let given : i < g.given = omega (arith, next, le) in
      let before : i ≡ pred j = sym (ap pred next) in
      record {
        some = omega (arith, next);
        calm = (one s o q i j d le).1;
        last = subst (λ (k : ℕ). Indexed (class_at g.tokens k)) before (subst Indexed (sym ((o i j d).0 given)) can);
      }

  infixr 4 ◌⊵◌
  pub ◌⊵◌ : {A B : Span} → Calmed A → IsTail B → IsTail (A ⨟ B)
  (a ⊵ b) i j (m, x, y) le =
      let r = b m j y le in
      let q = a i m x (omega (arith, r.some, le)) in
      record { some = omega (arith, q.0, r.some); calm = joined g.tokens i m j q.0 (omega (arith, r.some)) q.1 r.calm; last = r.last }

  pub tail_ends : {A : Span} (l : ℕ) → IsTail A → IsTail (A ⨟ ends g l)
  tail_ends l a i j (m, x, y) le = subst (λ (k : ℕ). Tail i k) y.1 (a i m x (omega (arith, y.1, le)))

  pub tail_either : {A B : Span} → IsTail A → IsTail B → IsTail (A ∣ B)
  tail_either a b i j (inl x) le = a i j x le
  tail_either a b i j (inr y) le = b i j y le

  -- ---- expressions

  pub calm_whole : {A : Span} {H : Type 0} → IsWhole A H → Calmed A
  calm_whole a i j d le = let r = a i j d le in (omega (arith, r.some), r.calm)

  pub whole_node : {A : Span} {H : Type 0} (w : Context) (line : ℕ) → IsWhole A H → IsWhole (node g w line ⨟ A) H
  whole_node {A} {H} w line a i j (m, x, y) le = subst (λ (k : ℕ). Whole k j H) (sym x.2) (a m j y le)

  pub single : {A : Span} {H : Type 0} (s : TokenClass) → IsOne A s → is_quiet s ≡ true → NoEquals s → (H → Indexed s) → IsWhole A H
  single s o q n can i j d le =
      let next : j ≡ suc i = (o i j d).1 in
      let given : i < g.given = omega (arith, next, le) in
      let before : i ≡ pred j = sym (ap pred next) in
      record {
        some = omega (arith, next);
        calm = (one s o q i j d le).1;
        first = subst NoEquals (sym ((o i j d).0 given)) n;
        last = λ h. subst (λ (k : ℕ). Indexed (class_at g.tokens k)) before (subst Indexed (sym ((o i j d).0 given)) (can h));
      }

  -- one that begins with a token and can't be indexed
  pub begun : {B : Span} (s : TokenClass) → is_quiet s ≡ true → NoEquals s → Calmed B → IsWhole (word g s ⨟ B) ⊥
  begun s q n b i j (m, x, y) le =
      let r = b m j y le in
      let within : m ≤ g.given = omega (arith, r.0, le) in
      let a = one s (is_word s) q i m x within in
      let next : m ≡ suc i = x.1 in
      record {
        some = omega (arith, next, r.0);
        calm = joined g.tokens i m j a.0 r.0 a.1 r.1;
        first = subst NoEquals (sym (x.0 (omega (arith, next, within)))) n;
        last = λ h. absurd h;
      }

  -- and one that can be
  pub begun_tail : {B : Span} {H : Type 0} (s : TokenClass) → is_quiet s ≡ true → NoEquals s → IsTail B → IsWhole (word g s ⨟ B) H
  begun_tail s q n b i j (m, x, y) le =
      let r = b m j y le in
      let within : m ≤ g.given = omega (arith, r.some, le) in
      let a = one s (is_word s) q i m x within in
      let next : m ≡ suc i = x.1 in
      record {
        some = omega (arith, next, r.some);
        calm = joined g.tokens i m j a.0 (omega (arith, r.some)) a.1 r.calm;
        first = subst NoEquals (sym (x.0 (omega (arith, next, within)))) n;
        last = λ h. r.last;
      }

  pub whole_ends : {A : Span} {H : Type 0} (l : ℕ) → IsWhole A H → IsWhole (A ⨟ ends g l) H
  whole_ends {A} {H} l a i j (m, x, y) le = subst (λ (k : ℕ). Whole i k H) y.1 (a i m x (omega (arith, y.1, le)))

  pub tail_whole : {A : Span} {H : Type 0} → H → IsWhole A H → IsTail A
  tail_whole h a i j d le = let r = a i j d le in record { some = r.some; calm = r.calm; last = r.last h }

  -- ---- what goes on with an expression

  pub suffix_tail : {A : Span} → IsTail A → IsSuffix A
  suffix_tail a m j d le =
      let r = a m j d le in
      record { some = r.some; onto = λ i t. record { some = omega (arith, t.some, r.some); calm = joined g.tokens i m j (omega (arith, t.some)) (omega (arith, r.some)) t.calm r.calm; last = r.last } }

  pub suffix_node : {A : Span} (w : Context) (line : ℕ) → IsSuffix A → IsSuffix (node g w line ⨟ A)
  suffix_node w line a m j (k, x, y) le = subst (λ (p : ℕ). Suffix p j) (sym x.2) (a k j y le)

  pub suffix_ends : {A : Span} (l : ℕ) → IsSuffix A → IsSuffix (A ⨟ ends g l)
  suffix_ends l a m j (k, x, y) le = subst (λ (p : ℕ). Suffix m p) y.1 (a m k x (omega (arith, y.1, le)))

  pub suffix_either : {A B : Span} → IsSuffix A → IsSuffix B → IsSuffix (A ∣ B)
  suffix_either a b m j (inl x) le = a m j x le
  suffix_either a b m j (inr y) le = b m j y le

  -- an expression in brackets
  pub in_brackets : {A : Span} {H : Type 0} → IsWhole A H → IsTail (word g LeftBracket ⨟ A ⨟ word g RightBracket)
  in_brackets {A} {H} a i j (m, x, y) le =
      let inner : IsTail (A ⨟ word g RightBracket) = calm_whole a ⊵ tail_one RightBracket (is_word RightBracket) refl tt in
      let r : Tail m j = inner m j y le in
      let next : m ≡ suc i = x.1 in
      let open_is : class_at g.tokens i ≡ LeftBracket = x.0 (omega (arith, next, r.some, le)) in
      let close : j ≡ suc y.0 = y.2.1 in
      let begins : NoEquals (class_at g.tokens m) = (a m y.0 y.1 (omega (arith, close, le))).first in
      let calm : Calm g.tokens i j = bracketed g.tokens i j open_is (subst (λ (k : ℕ). NoEquals (class_at g.tokens k)) next begins) (omega (arith, next, r.some)) (subst (λ (k : ℕ). Calm g.tokens k j) next r.calm) in
      record { some = omega (arith, next, r.some); calm = calm; last = r.last }

  -- a point and a name
  pub by_dot : (w : Context) (k : Exp) → IsSuffix (SpellsDot g w k)
  by_dot w (TextE line n) = λ m j (p, dot, (q, x, name)) le.
      let first : p ≡ suc m = dot.1 in
      let second : q ≡ p = sym x.2 in
      let third : j ≡ suc q = name.1 in
      let whole : j ≡ suc (suc m) = omega (arith, first, second, third) in
      let at_name : q ≡ suc m = omega (arith, first, second) in
      let is_dot : class_at g.tokens m ≡ Dot = dot.0 (omega (arith, whole, le)) in
      let is_name : class_at g.tokens q ≡ Name = (name.0 (omega (arith, third, le))).0 in
      let name_at : class_at g.tokens (suc m) ≡ Name = subst (λ (c : ℕ). class_at g.tokens c ≡ Name) at_name is_name in
      let before : suc m ≡ pred j = sym (ap pred whole) in
      record {
        some = omega (arith, whole);
        onto = λ i t. record {
          some = omega (arith, t.some, whole);
          calm = subst (λ (c : ℕ). Calm g.tokens i c) (sym whole) (pointed g.tokens i m t.some t.calm t.last is_dot name_at);
          last = subst (λ (c : ℕ). Indexed (class_at g.tokens c)) before (subst Indexed (sym name_at) tt);
        };
      }
  by_dot w k = λ m j d le. absurd d.0

  pub extended : {B : Span} {H K : Type 0} (i m j : ℕ) → Whole i m K → K → IsSuffix B → B m j → j ≤ g.given → Whole i j H
  extended i m j a k b y le =
      let s = b m j y le in
      let t : Tail i j = s.onto i (record { some = a.some; calm = a.calm; last = a.last k }) in
      record { some = t.some; calm = t.calm; first = a.first; last = λ h. t.last }

  -- ---- names and paths

  more_names : (ns : List (List ℕ)) → Calmed (MoreNames g ns)
  more_names [] = nothing
  more_names (n ∷ ns) = one Comma (is_word Comma) refl ⊳ one Name (is_text Name n) refl ⊳ more_names ns

  pub names : (ns : List (List ℕ)) → Calmed (Names g ns)
  names [] = never
  names (n ∷ ns) = one Name (is_text Name n) refl ⊳ more_names ns

  pub params : (ns : List (List ℕ)) (dots : Bool) → Calmed (Params g ns dots)
  params [] false = nothing
  params [] true = one Dots (is_word Dots) refl
  params (n ∷ ns) false = names (n ∷ ns)
  params (n ∷ ns) true = names (n ∷ ns) ⊳ one Comma (is_word Comma) refl ⊳ one Dots (is_word Dots) refl

  pub name_key : (w : Context) (k : Exp) → Calmed (SpellsName g w k)
  name_key w (TextE line n) = node_is w line ⊳ one Name (is_text Name n) refl
  name_key w k = never

  path : (w : Context) (e : Exp) → IsTail (SpellsPath g w e)
  unfolding SpellsPath
  path w (NameE line n) = node_is w line ⊵ tail_one Name (is_text Name n) refl tt
  path w (IndexE line t k) = λ i j (m, left, right) le.
      let s = suffix_node w line (by_dot (under w) k) m j right le in
      s.onto i (path (before g m w) t i m left (omega (arith, s.some, le)))
  path w e = λ i j d le. absurd d

  pub function_path : (w : Context) (ts : Exps) → Calmed (IsPath g w ts)
  function_path w (MoreExp e NoExp) = calm_tail (path w e)
  function_path w ts = never

  pub method_path : (w : Context) (ts : Exps) → Calmed (IsMethodPath g w ts)
  method_path w (MoreExp (IndexE line t k) NoExp) = λ i j (m, left, right) le.
      let r = (node_is w line ⊳ one Colon (is_word Colon) refl ⊳ name_key (under w) k) m j right le in
      let q = calm_tail (path (before g m w) t) i m left (omega (arith, r.0, le)) in
      (omega (arith, q.0, r.0), joined g.tokens i m j q.0 r.0 q.1 r.1)
  method_path w ts = λ i j d le. absurd d

  -- ---- arguments in parentheses

  pub opened : {B : Span} → IsTail B → IsTail (opens g ⨟ B)
  opened b = one LeftParen is_opening refl ⊵ b

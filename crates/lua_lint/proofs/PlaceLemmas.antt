-- What is declared in a block or before it is a front of what is seen there; and the rules by which what is found is gathered.
use Rattle.std.proofs.Common.{◌≡◌, ◌∙◌, ℕ, ◌-◌, ◌≤◌, suc, Bool, true, false, cond, refl, sym, ap, List, [], ◌∷◌, ◌++◌, drop, length, map, get_or, arith}
use Rattle.std.specs.Prelude.{Option, Some, None}
use Rattle.std.proofs.lemmas.List.{map-append, append_assoc, append-nil}
use Rattle.lua_syntax.specs.declared.Expr.{Expr}
use Rattle.lua_syntax.specs.View.{kind_view, expr_view, exprs_view}
use Rattle.lua_syntax.specs.Tree.{Exp, TextE, NoExp, MoreExp, Block, Stat, NoStat, MoreStat, AssignS, CallS, DoS, WhileS, RepeatS, IfS, IfElseS, CountS, CountByS, EachS, LocalFunctionS, LocalS, ReturnS, BreakS}
use Rattle.lua_syntax.proofs.Views.{views, expr_opens}
use Rattle.lua_uses.specs.Uses.{Use, only_text, with_names, is_bound, name_uses, requiring, stat_scope, block_scope}
use Rattle.lua_lint.specs.Scopes.{Bytes}

abbrev Names : Type 0
Names = List Bytes

-- ---- more names in front
abbrev HasBehind : Names → Names → Type 0
HasBehind now before = (front : Names) × (now ≡ front ++ before)

further : (front now before : Names) → HasBehind now before → HasBehind (front ++ now) before
further front now before (more, e) = (front ++ more, ap (λ (l : Names). front ++ l) e ∙ sym (append_assoc front more before))

then_behind : (a b c : Names) → HasBehind a b → HasBehind b c → HasBehind a c
then_behind a b c (front, e) (more, f) = (front ++ more, e ∙ ap (λ (l : Names). front ++ l) f ∙ sym (append_assoc front more c))

names_behind : (names before : Names) → HasBehind (with_names names before) before
names_behind [] before = ([], refl)
names_behind (n ∷ names) before = then_behind (with_names names (n ∷ before)) (n ∷ before) before (names_behind names (n ∷ before)) (n ∷ [], refl)

stat_behind : (s : Stat) (before : Names) → HasBehind (stat_scope s before) before
stat_behind (AssignS line targets values) before = ([], refl)
stat_behind (CallS line e) before = ([], refl)
stat_behind (DoS line body) before = ([], refl)
stat_behind (WhileS line test body) before = ([], refl)
stat_behind (RepeatS line body test) before = ([], refl)
stat_behind (IfS line arms) before = ([], refl)
stat_behind (IfElseS line arms other) before = ([], refl)
stat_behind (CountS line name from to body) before = ([], refl)
stat_behind (CountByS line name from to by body) before = ([], refl)
stat_behind (EachS line names values body) before = ([], refl)
stat_behind (LocalFunctionS line name f) before = (name ∷ [], refl)
stat_behind (LocalS line names values) before = names_behind names before
stat_behind (ReturnS line values) before = ([], refl)
stat_behind (BreakS line) before = ([], refl)

block_behind : (b : Block) (before : Names) → HasBehind (block_scope b before) before
block_behind NoStat before = ([], refl)
block_behind (MoreStat s rest) before = then_behind (block_scope rest (stat_scope s before)) (stat_scope s before) before (block_behind rest (stat_scope s before)) (stat_behind s before)

-- ---- they are forgotten
drop_front : (front before : Names) → drop (length (front ++ before) - length before) (front ++ before) ≡ before
drop_front [] before = ap (λ (k : ℕ). drop k before) (none (length before))
  where
    none : (n : ℕ) → n - n ≡ 0
    none n = omega arith
drop_front (f ∷ front) before = ap (λ (k : ℕ). drop k (f ∷ (front ++ before))) (more (length (front ++ before)) (length before) (at_least front)) ∙ drop_front front before
  where
    at_least : (front : Names) → length before ≤ length (front ++ before)
    at_least [] = omega arith
    at_least (g ∷ rest) = let h = at_least rest in omega (arith, h)

    more : (m n : ℕ) → n ≤ m → suc m - n ≡ suc (m - n)
    more m n h = omega (arith, h)

forgotten : (now before : Names) → HasBehind now before → drop (length now - length before) now ≡ before
forgotten now before (front, e) = ap (λ (l : Names). drop (length l - length before) l) e ∙ drop_front front before

pub names_forgotten : (names before : Names) → drop (length (with_names names before) - length before) (with_names names before) ≡ before
names_forgotten names before = forgotten (with_names names before) before (names_behind names before)

pub one_forgotten : (name : Bytes) (before : Names) → drop (length (name ∷ before) - length before) (name ∷ before) ≡ before
one_forgotten name before = forgotten (name ∷ before) before (name ∷ [], refl)

pub block_forgotten : (b : Block) (before : Names) → drop (length (block_scope b before) - length before) (block_scope b before) ≡ before
block_forgotten b before = forgotten (block_scope b before) before (block_behind b before)

-- ---- one text alone
pub no_text : (es : List Expr) → (length es ≡ 1 → ⊥) → None ≡ only_text (exprs_view es)
no_text [] not_one = refl
no_text (e ∷ []) not_one = absurd (not_one refl)
no_text (e ∷ f ∷ es) not_one = go (expr_view e)
  where
    go : (x : Exp) → None ≡ only_text (MoreExp x (MoreExp (expr_view f) (exprs_view es)))
    go (TextE line text) = refl
    go _ = refl

pub one_argument : (es : List Expr) (e : Expr) → length es ≡ 1 → e ≡ get_or es 0 e → exprs_view es ≡ MoreExp (kind_view (get_or es 0 e).kind e.line) NoExp
one_argument [] e one is = absurd (omega (arith, one))
one_argument (x ∷ []) e one is =
    ap (λ (y : Expr). MoreExp (expr_view y) NoExp) (sym is) ∙ ap (λ (y : Exp). MoreExp y NoExp) (expr_opens e) ∙ ap (λ (y : Expr). MoreExp (kind_view y.kind e.line) NoExp) is
one_argument (x ∷ y ∷ es) e one is = absurd (omega (arith, one))

-- ---- a name
pub named_bound : (line : ℕ) (name : Bytes) (text : Option Bytes) (bound : Names) → is_bound bound name ≡ true → requiring text (name_uses line name bound) ≡ []
named_bound line name None bound e = ap (λ (b : Bool). cond b [] (record { line = line; name = name; required = None } ∷ [])) e
named_bound line name (Some t) bound e = ap (λ (b : Bool). map (λ (u : Use). record u { required = Some t }) (cond b [] (record { line = line; name = name; required = None } ∷ []))) e

pub named_free : (line : ℕ) (name : Bytes) (text : Option Bytes) (bound : Names) → is_bound bound name ≡ false → requiring text (name_uses line name bound) ≡ record { line = line; name = name; required = text } ∷ []
named_free line name None bound e = ap (λ (b : Bool). cond b [] (record { line = line; name = name; required = None } ∷ [])) e
named_free line name (Some t) bound e = ap (λ (b : Bool). map (λ (u : Use). record u { required = Some t }) (cond b [] (record { line = line; name = name; required = None } ∷ []))) e

pub ruleset found = (views, no_text, map-append, append_assoc, append-nil, names_forgotten, one_forgotten, block_forgotten)

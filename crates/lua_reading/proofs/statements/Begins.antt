-- With which tokens expressions and statements begin.
use Rattle.std.proofs.Common.{◌≡◌, ◌≢◌, ℕ, suc, pred, ◌+◌, ◌<◌, ◌⊎◌, Bool, true, false, List, length, refl, sym, ap, subst, ◌∙◌, inl, inr, arith, true≢false, eq-or-lt_of_le}
use Rattle.lua_lexer.specs.declared.token.Token.{Token}
use Rattle.lua_syntax.specs.declared.UnaryOp.TheVariants.{Not as NotOp, Len, Minus as MinusOp}
use Rattle.lua_grammar.specs.declared.TokenClass.{TokenClass}
use Rattle.lua_grammar.specs.declared.TokenClass.TheVariants.{Name, Number, Text, Eof, Break, Do, False, For, Function, If, Local, Nil, Not, Repeat, Return, True, While, Minus, Hash, LeftParen, LeftBrace, Dots, Assign}
use Rattle.lua_grammar.specs.declared.Context.{Context}
use Rattle.lua_grammar.specs.Tokens.{class_at}
use Rattle.lua_syntax.specs.Tree.{Exp, Exps, Stat, NilE, TrueE, FalseE, NumberE, TextE, DotsE, FunctionE, NameE, IndexE, CallE, MethodE, TableE, BinaryE, UnaryE, ParenE, NoExp, MoreExp, AssignS, CallS, DoS, WhileS, RepeatS, IfS, IfElseS, CountS, CountByS, EachS, LocalFunctionS, LocalS, ReturnS, BreakS}
use Rattle.lua_grammar.specs.Grammar.{given_tokens, Spells, SpellsAll, SpellsNamed, SpellsStat, AreVars, IsVar, IsCall, IsPrefix, before, under, left_level, ◌⨟◌, where', word}
use Rattle.lua_reading.specs.Parsing.{HasOneEnd, last_goes, stat_lang}
use Rattle.lua_reading.specs.StatAnswers.{Opening}
use Rattle.lua_reading.proofs.pieces.Steps.{HasNode}

-- A token that isn't the end has another behind it.
pub next_inside : (ts : List Token) (i : ℕ) → HasOneEnd ts → i < length ts → class_at ts i ≢ Eof → i + 1 < length ts
unfolding HasOneEnd
next_inside ts i e lt ne = go (eq-or-lt_of_le lt)
  where
    go : (suc i ≡ length ts) ⊎ (suc i < length ts) → i + 1 < length ts
    go (inl eq) = absurd (ne (subst (λ (y : ℕ). class_at ts (pred y) ≡ Eof) (sym eq) e.1))
    go (inr x) = omega (arith, x)

abbrev pub inner : TokenClass → Bool
inner Eof = false
inner s = true

pub behind_word : (ts : List Token) (i : ℕ) (s : TokenClass) → HasOneEnd ts → i < length ts → class_at ts i ≡ s → inner s ≡ true → i + 1 < length ts
behind_word ts i s e lt here h = next_inside ts i e lt (λ x. true≢false (sym h ∙ ap inner (sym here ∙ x)))

pub at_start : (ts : List Token) (n i m : ℕ) (P : TokenClass → Type 0) (w : TokenClass) → i ≡ m → (m < n → class_at ts m ≡ w) → i < n → P w → P (class_at ts i)
at_start ts n i m P w e h lt p =
    let at : class_at ts i ≡ w = ap (λ (y : ℕ). class_at ts y) e ∙ h (subst (λ (y : ℕ). y < n) e lt) in
    subst P (sym at) p

-- an expression
abbrev pub last : TokenClass → Type 0
last s = last_goes s ≡ true

pub exp_begins : (ts : List Token) (n f : ℕ) (w : Context) (l : ℕ) (e : Exp) (i j : ℕ) → Spells (given_tokens ts n f) w l e i j → i < n → last (class_at ts i)
unfolding Spells
exp_begins ts n f w l (NilE line) i j d lt = at_start ts n i d.0 last Nil d.1.2 d.2.0 lt refl
exp_begins ts n f w l (TrueE line) i j d lt = at_start ts n i d.0 last True d.1.2 d.2.0 lt refl
exp_begins ts n f w l (FalseE line) i j d lt = at_start ts n i d.0 last False d.1.2 d.2.0 lt refl
exp_begins ts n f w l (NumberE line v) i j d lt = at_start ts n i d.0 last Number d.1.2 (λ h. (d.2.0 h).0) lt refl
exp_begins ts n f w l (TextE line v) i j d lt = at_start ts n i d.0 last Text d.1.2 (λ h. (d.2.0 h).0) lt refl
exp_begins ts n f w l (DotsE line) i j d lt = at_start ts n i d.0 last Dots d.1.2 d.2.0 lt refl
exp_begins ts n f w l (FunctionE line v) i j d lt = at_start ts n i d.0 last Function d.1.2 d.2.1.0 lt refl
exp_begins ts n f w l (TableE line v) i j d lt = at_start ts n i d.0 last LeftBrace d.1.2 d.2.1.0 lt refl
exp_begins ts n f w l (UnaryE line NotOp e) i j d lt = at_start ts n i d.1.0 last Not d.1.1.2 d.1.2.1.0 lt refl
exp_begins ts n f w l (UnaryE line Len e) i j d lt = at_start ts n i d.1.0 last Hash d.1.1.2 d.1.2.1.0 lt refl
exp_begins ts n f w l (UnaryE line MinusOp e) i j d lt = at_start ts n i d.1.0 last Minus d.1.1.2 d.1.2.1.0 lt refl
exp_begins ts n f w l (BinaryE line op a b) i j d lt = exp_begins ts n f (before (given_tokens ts n f) d.0 w) (left_level op) a i d.0 d.1 lt
exp_begins ts n f w l (NameE line v) i j d lt = at_start ts n i d.0 last Name d.1.2 (λ h. (d.2.1.0 h).0) lt refl
exp_begins ts n f w l (ParenE line e) i j d lt = at_start ts n i d.0 last LeftParen d.1.2 d.2.1.0 lt refl
exp_begins ts n f w l (IndexE line t k) i j d lt = exp_begins ts n f (before (given_tokens ts n f) d.0 w) 10 t i d.0 d.1 lt
exp_begins ts n f w l (CallE line t es) i j d lt = exp_begins ts n f (before (given_tokens ts n f) d.0 w) 10 t i d.0 d.1 lt
exp_begins ts n f w l (MethodE line t x es) i j d lt = exp_begins ts n f (before (given_tokens ts n f) d.0 w) 10 t i d.0 d.1 lt

pub all_begins : (ts : List Token) (n f : ℕ) (w : Context) (es : Exps) (i j : ℕ) → SpellsAll (given_tokens ts n f) w es i j → i < n → last (class_at ts i)
unfolding SpellsAll
all_begins ts n f w NoExp i j d lt = absurd d
all_begins ts n f w (MoreExp e es) i j d lt = exp_begins ts n f w 1 e i d.0 d.1 lt

-- a prefix expression
pub prefix_begins : (ts : List Token) (n f : ℕ) (w : Context) (l : ℕ) (e : Exp) (i j : ℕ) → IsPrefix e → Spells (given_tokens ts n f) w l e i j → i < n → Opening (class_at ts i)
unfolding Spells
prefix_begins ts n f w l (NameE line v) i j p d lt = at_start ts n i d.0 Opening Name d.1.2 (λ h. (d.2.1.0 h).0) lt tt
prefix_begins ts n f w l (ParenE line e) i j p d lt = at_start ts n i d.0 Opening LeftParen d.1.2 d.2.1.0 lt tt
prefix_begins ts n f w l (IndexE line t k) i j p d lt = prefix_begins ts n f (before (given_tokens ts n f) d.0 w) 10 t i d.0 d.2 d.1 lt
prefix_begins ts n f w l (CallE line t es) i j p d lt = prefix_begins ts n f (before (given_tokens ts n f) d.0 w) 10 t i d.0 d.2 d.1 lt
prefix_begins ts n f w l (MethodE line t x es) i j p d lt = prefix_begins ts n f (before (given_tokens ts n f) d.0 w) 10 t i d.0 d.2 d.1 lt
prefix_begins ts n f w l e i j p d lt = absurd p

pub var_prefix : (e : Exp) → IsVar e → IsPrefix e
var_prefix (NameE l x) v = tt
var_prefix (IndexE l t k) v = tt
var_prefix e v = absurd v

pub call_prefix : (e : Exp) → IsCall e → IsPrefix e
call_prefix (CallE l t es) v = tt
call_prefix (MethodE l t x es) v = tt
call_prefix e v = absurd v

-- an assignment
abbrev pub Beginning : TokenClass → Type 0
Beginning Function = Unit {0}
Beginning s = Opening s

pub opening_begins : (s : TokenClass) → Opening s → Beginning s
opening_begins Name x = tt
opening_begins LeftParen x = tt
opening_begins s x = absurd x

pub targets_begin : (ts : List Token) (n f : ℕ) (w : Context) (xs : Exps) (i j : ℕ) → AreVars xs → SpellsAll (given_tokens ts n f) w xs i j → i < n → Beginning (class_at ts i)
unfolding SpellsAll
targets_begin ts n f w NoExp i j v d lt = absurd d
targets_begin ts n f w (MoreExp e es) i j v d lt = opening_begins (class_at ts i) (prefix_begins ts n f w 1 e i d.0 (var_prefix e v.0) d.1 lt)

pub named_begins : (ts : List Token) (n f : ℕ) (w : Context) (xs es : Exps) (i j : ℕ) → SpellsNamed (given_tokens ts n f) w xs es i j → i < n → Beginning (class_at ts i)
unfolding SpellsNamed
named_begins ts n f w xs (MoreExp (FunctionE line v) NoExp) i j d lt = at_start ts n i d.0 Beginning Function d.1.2 d.2.1.0 lt tt
named_begins ts n f w xs es i j d lt = absurd d

-- A statement begins so.
abbrev pub Starts : Stat → TokenClass → Type 0
Starts (AssignS l xs es) s = Beginning s
Starts (CallS l e) s = Opening s
Starts (DoS l b) Do = Unit {0}
Starts (DoS l b) s = ⊥
Starts (WhileS l e b) While = Unit {0}
Starts (WhileS l e b) s = ⊥
Starts (RepeatS l b e) Repeat = Unit {0}
Starts (RepeatS l b e) s = ⊥
Starts (IfS l as') If = Unit {0}
Starts (IfS l as') s = ⊥
Starts (IfElseS l as' b) If = Unit {0}
Starts (IfElseS l as' b) s = ⊥
Starts (CountS l x a b c) For = Unit {0}
Starts (CountS l x a b c) s = ⊥
Starts (CountByS l x a b by c) For = Unit {0}
Starts (CountByS l x a b by c) s = ⊥
Starts (EachS l xs es b) For = Unit {0}
Starts (EachS l xs es b) s = ⊥
Starts (LocalFunctionS l x v) Local = Unit {0}
Starts (LocalFunctionS l x v) s = ⊥
Starts (LocalS l xs es) Local = Unit {0}
Starts (LocalS l xs es) s = ⊥
Starts (ReturnS l es) Return = Unit {0}
Starts (ReturnS l es) s = ⊥
Starts (BreakS l) Break = Unit {0}
Starts (BreakS l) s = ⊥

pub stat_begins : (ts : List Token) (n f : ℕ) (w : Context) (s : Stat) (i j : ℕ) → SpellsStat (given_tokens ts n f) w s i j → i < n → Starts s (class_at ts i)
unfolding SpellsStat
stat_begins ts n f w (AssignS l xs es) i j d lt = subst (λ (y : ℕ). Beginning (class_at ts y)) (sym d.1.2) (go d.2)
  where
    go : (where' (AreVars xs) ⨟ SpellsAll (given_tokens ts n f) (under w) xs ⨟ word (given_tokens ts n f) Assign ⨟ SpellsAll (given_tokens ts n f) (under w) es) d.0 j ⊎ SpellsNamed (given_tokens ts n f) (under w) xs es d.0 j → Beginning (class_at ts d.0)
    go (inl x) = subst (λ (y : ℕ). Beginning (class_at ts y)) (sym x.1.1) (targets_begin ts n f (under w) xs x.0 x.2.0 x.1.0 x.2.1 (subst (λ (y : ℕ). y < n) (d.1.2 ∙ x.1.1) lt))
    go (inr x) = named_begins ts n f (under w) xs es d.0 j x (subst (λ (y : ℕ). y < n) d.1.2 lt)
stat_begins ts n f w (CallS l e) i j d lt =
    subst (λ (y : ℕ). Opening (class_at ts y)) (sym d.1.1.2) (prefix_begins ts n f (under w) 9 e d.1.0 j (call_prefix e d.0) d.1.2 (subst (λ (y : ℕ). y < n) d.1.1.2 lt))
stat_begins ts n f w (DoS l b) i j d lt = at_start ts n i d.0 (Starts (DoS l b)) Do d.1.2 d.2.1.0 lt tt
stat_begins ts n f w (WhileS l e b) i j d lt = at_start ts n i d.0 (Starts (WhileS l e b)) While d.1.2 d.2.1.0 lt tt
stat_begins ts n f w (RepeatS l b e) i j d lt = at_start ts n i d.0 (Starts (RepeatS l b e)) Repeat d.1.2 d.2.1.0 lt tt
stat_begins ts n f w (IfS l as') i j d lt = at_start ts n i d.0 (Starts (IfS l as')) If d.1.2 d.2.1.0 lt tt
stat_begins ts n f w (IfElseS l as' b) i j d lt = at_start ts n i d.0 (Starts (IfElseS l as' b)) If d.1.2 d.2.1.0 lt tt
stat_begins ts n f w (CountS l x a b c) i j d lt = at_start ts n i d.0 (Starts (CountS l x a b c)) For d.1.2 d.2.1.0 lt tt
stat_begins ts n f w (CountByS l x a b by c) i j d lt = at_start ts n i d.0 (Starts (CountByS l x a b by c)) For d.1.2 d.2.1.0 lt tt
stat_begins ts n f w (EachS l xs es b) i j d lt = at_start ts n i d.0 (Starts (EachS l xs es b)) For d.1.2 d.2.1.0 lt tt
stat_begins ts n f w (LocalFunctionS l x v) i j d lt = at_start ts n i d.0 (Starts (LocalFunctionS l x v)) Local d.1.2 d.2.1.0 lt tt
stat_begins ts n f w (LocalS l xs es) i j d lt = at_start ts n i d.0 (Starts (LocalS l xs es)) Local d.1.2 d.2.1.0 lt tt
stat_begins ts n f w (ReturnS l es) i j d lt = at_start ts n i d.0 (Starts (ReturnS l es)) Return d.1.2 d.2.1.0 lt tt
stat_begins ts n f w (BreakS l) i j d lt = at_start ts n i d.0 (Starts (BreakS l)) Break d.1.2 d.2.0 lt tt

-- A statement's node comes into being at its first token.
pub stat_node : (ts : List Token) (w : Context) (i : ℕ) → HasNode Stat ts (stat_lang ts w) i
unfolding SpellsStat
stat_node ts w i (AssignS l xs es) b n j lt d = d.1.1 refl lt
stat_node ts w i (CallS l e) b n j lt d = d.1.1.1 refl lt
stat_node ts w i (DoS l c) b n j lt d = d.1.1 refl lt
stat_node ts w i (WhileS l e c) b n j lt d = d.1.1 refl lt
stat_node ts w i (RepeatS l c e) b n j lt d = d.1.1 refl lt
stat_node ts w i (IfS l as') b n j lt d = d.1.1 refl lt
stat_node ts w i (IfElseS l as' c) b n j lt d = d.1.1 refl lt
stat_node ts w i (CountS l x a z c) b n j lt d = d.1.1 refl lt
stat_node ts w i (CountByS l x a z by c) b n j lt d = d.1.1 refl lt
stat_node ts w i (EachS l xs es c) b n j lt d = d.1.1 refl lt
stat_node ts w i (LocalFunctionS l x v) b n j lt d = d.1.1 refl lt
stat_node ts w i (LocalS l xs es) b n j lt d = d.1.1 refl lt
stat_node ts w i (ReturnS l es) b n j lt d = d.1.1 refl lt
stat_node ts w i (BreakS l) b n j lt d = d.1.1 refl lt

-- The neighbours of a chunk fit: production by production, as the grammar goes.
use Rattle.std.proofs.Common.{◌≡◌, ℕ, ◌≤◌, true, List, [], ◌∷◌, length, refl, arith}
use Rattle.lua_syntax.specs.declared.BinaryOp.{BinaryOp}
use Rattle.lua_syntax.specs.declared.BinaryOp.TheVariants.{Or as OrOp, And as AndOp, Lt, Gt, Le, Ge, Ne, Eq, Concat, Add, Sub, Mul, Div, Mod, Pow}
use Rattle.lua_syntax.specs.declared.UnaryOp.{UnaryOp}
use Rattle.lua_syntax.specs.declared.UnaryOp.TheVariants.{Not as NotOp, Len, Minus as MinusOp}
use Rattle.lua_lexer.specs.declared.token.Token.{Token}
use Rattle.lua_grammar.specs.declared.Context.{Context}
use Rattle.lua_grammar.specs.declared.TokenClass.TheVariants.{Name, Number, Text, Eof, Break, Do, Else, Elseif, End, False, For, Function, If, In, Local, Nil, Repeat, Return, Then, True, Until, While, Assign, LeftParen, RightParen, LeftBrace, RightBrace, Semicolon, Colon, Comma, Dots}
use Rattle.lua_grammar.specs.Grammar.{GivenTokens, given_tokens, mark_of, sign_of, left_level, right_level, IsPrefix, IsAlone, Spells, SpellsArgs, SpellsAll, MoreExps, SpellsFields, SpellsFun, SpellsMethod, SpellsNamed, SpellsBlock, SpellsArms, MoreArms, SpellsStat, SpellsChunk, IsChunk, before, under, in_loop, in_function, outside}
use Rattle.lua_syntax.specs.Tree.{Exp, Exps, Fields, Fun, Block, Arms, Stat, NilE, TrueE, FalseE, NumberE, TextE, DotsE, FunctionE, NameE, IndexE, CallE, MethodE, TableE, BinaryE, UnaryE, ParenE, NoExp, MoreExp, NoField, Item, Pair, Lambda, NoStat, MoreStat, NoArm, Arm, AssignS, CallS, DoS, WhileS, RepeatS, IfS, IfElseS, CountS, CountByS, EachS, LocalFunctionS, LocalS, ReturnS, BreakS}
use Rattle.lua_token_laws.specs.Neighbours.{NoEquals, AreNeighbours}
use Rattle.lua_token_laws.proofs.Calms.{Calm, is_quiet, joined}
use Rattle.lua_token_laws.proofs.Walks.{Calmed, IsTail, IsWhole, is_word, is_text, one, separated, nothing, only_where, node_is, ◌⊳◌, either, tail_one, ◌⊵◌, tail_ends, tail_either, calm_tail, calm_whole, whole_node, single, begun, begun_tail, whole_ends, tail_whole, suffix_tail, suffix_node, suffix_ends, suffix_either, in_brackets, by_dot, extended, names, params, name_key, function_path, method_path, opened}

-- ---- operators

quiet_mark : (op : BinaryOp) → is_quiet (mark_of op) ≡ true
quiet_mark OrOp = refl
quiet_mark AndOp = refl
quiet_mark Lt = refl
quiet_mark Gt = refl
quiet_mark Le = refl
quiet_mark Ge = refl
quiet_mark Ne = refl
quiet_mark Eq = refl
quiet_mark Concat = refl
quiet_mark Add = refl
quiet_mark Sub = refl
quiet_mark Mul = refl
quiet_mark Div = refl
quiet_mark Mod = refl
quiet_mark Pow = refl

quiet_sign : (op : UnaryOp) → is_quiet (sign_of op) ≡ true
quiet_sign NotOp = refl
quiet_sign Len = refl
quiet_sign MinusOp = refl

plain_sign : (op : UnaryOp) → NoEquals (sign_of op)
plain_sign NotOp = tt
plain_sign Len = tt
plain_sign MinusOp = tt

-- ---- what can be indexed

-- A prefix expression, a string, or a table: what a point, [, or arguments stand behind.
abbrev IsHead : Exp → Type 0
IsHead (NameE l n) = Unit {0}
IsHead (IndexE l t k) = Unit {0}
IsHead (CallE l f es) = Unit {0}
IsHead (MethodE l o m es) = Unit {0}
IsHead (ParenE l e) = Unit {0}
IsHead (TextE l b) = Unit {0}
IsHead (TableE l fs) = Unit {0}
IsHead e = ⊥

prefix_head : (e : Exp) → IsPrefix e → IsHead e
prefix_head (NameE l n) h = tt
prefix_head (IndexE l t k) h = tt
prefix_head (CallE l f es) h = tt
prefix_head (MethodE l o m es) h = tt
prefix_head (ParenE l e) h = tt
prefix_head e h = absurd h

alone_head : (e : Exp) (es : Exps) → IsAlone e es → IsHead e
alone_head (TextE line bytes) NoExp h = tt
alone_head (TableE line fs) NoExp h = tt
alone_head e es h = absurd h

module _ (g : GivenTokens) where
  mutual
    unfolding Spells

    exp : (w : Context) (l : ℕ) (e : Exp) → IsWhole g (Spells g w l e) (IsHead e)
    exp w l (NilE line) = whole_node g w line (single g Nil (is_word g Nil) refl tt (λ h. absurd h))
    exp w l (TrueE line) = whole_node g w line (single g True (is_word g True) refl tt (λ h. absurd h))
    exp w l (FalseE line) = whole_node g w line (single g False (is_word g False) refl tt (λ h. absurd h))
    exp w l (NumberE line n) = whole_node g w line (single g Number (λ i j d. ((λ lt. (d.0 lt).0), d.2)) refl tt (λ h. absurd h))
    exp w l (TextE line bytes) = whole_node g w line (single g Text (is_text g Text bytes) refl tt (λ h. tt))
    exp w l (DotsE line) = whole_node g w line (single g Dots (λ i j d. (d.0, d.2)) refl tt (λ h. absurd h))
    exp w l (FunctionE line f) = whole_node g w line (begun g Function refl tt (fun (under w) f))
    exp w l (TableE line fs) = whole_node g w line (begun_tail g LeftBrace refl tt (◌⊵◌ g (fields (under w) fs) (tail_one g RightBrace (is_word g RightBrace) refl tt)))
    exp w l (UnaryE line op e) = λ i j d le. whole_node g w line (begun g (sign_of op) (quiet_sign op) (plain_sign op) (calm_whole g (exp (under w) 7 e))) i j d.1 le
    exp w l (BinaryE line op a b) = λ i j (m, left, low, right) le.
        let r = (◌⊳◌ g (node_is g w line) (◌⊳◌ g (one g (mark_of op) (is_word g (mark_of op)) (quiet_mark op)) (calm_whole g (exp (under w) (right_level op) b)))) m j right le in
        let q = exp (before g m w) (left_level op) a i m left (omega (arith, r.0, le)) in
        record { some = omega (arith, q.some, r.0); calm = joined g.tokens i m j (omega (arith, q.some)) r.0 q.calm r.1; first = q.first; last = λ h. absurd h }
    exp w l (NameE line n) = whole_node g w line (whole_ends g l (single g Name (is_text g Name n) refl tt (λ h. tt)))
    exp w l (ParenE line e) = whole_node g w line (begun_tail g LeftParen refl tt (◌⊵◌ g (calm_whole g (exp (under w) 1 e)) (tail_ends g l (tail_one g RightParen (is_word g RightParen) refl tt))))
    exp w l (IndexE line t k) = λ i j (m, left, p, right) le.
        let goes = suffix_node g w line (suffix_ends g l (suffix_either g (by_dot g (under w) k) (suffix_tail g (in_brackets g (exp (under w) 1 k))))) in
        extended g i m j (exp (before g m w) 10 t i m left (omega (arith, (goes m j right le).some, le))) (prefix_head t p) goes right le
    exp w l (CallE line f es) = λ i j (m, left, p, right) le.
        let goes = suffix_node g w line (suffix_ends g l (suffix_tail g (args (under w) es))) in
        extended g i m j (exp (before g m w) 10 f i m left (omega (arith, (goes m j right le).some, le))) (prefix_head f p) goes right le
    exp w l (MethodE line o n es) = λ i j (m, left, p, right) le.
        let goes = suffix_node g w line (suffix_tail g (◌⊵◌ g (one g Colon (is_word g Colon) refl) (◌⊵◌ g (one g Name (is_text g Name n) refl) (tail_ends g l (args (under w) es))))) in
        extended g i m j (exp (before g m w) 10 o i m left (omega (arith, (goes m j right le).some, le))) (prefix_head o p) goes right le

    args : (w : Context) (es : Exps) → IsTail g (SpellsArgs g w es)
    args w NoExp = opened g (tail_one g RightParen (is_word g RightParen) refl tt)
    args w (MoreExp e es) = tail_either g
        (opened g (◌⊵◌ g (calm_whole g (exp w 1 e)) (◌⊵◌ g (more w es) (tail_one g RightParen (is_word g RightParen) refl tt))))
        (λ i j (m, alone, d) le. ◌⊵◌ g (only_where g) (tail_whole g (alone_head e es alone.0) (exp w 9 e)) i j (m, alone, d) le)

    all : (w : Context) (es : Exps) → Calmed g (SpellsAll g w es)
    all w NoExp = λ i j d le. absurd d
    all w (MoreExp e es) = ◌⊳◌ g (calm_whole g (exp w 1 e)) (more w es)

    more : (w : Context) (es : Exps) → Calmed g (MoreExps g w es)
    more w NoExp = nothing g
    more w (MoreExp e es) = ◌⊳◌ g (one g Comma (is_word g Comma) refl) (◌⊳◌ g (calm_whole g (exp w 1 e)) (more w es))

    fields : (w : Context) (fs : Fields) → Calmed g (SpellsFields g w fs)
    fields w NoField = nothing g
    fields w (Item e fs) = ◌⊳◌ g (calm_whole g (exp w 1 e)) (either g (only_where g) (◌⊳◌ g (separated g) (fields w fs)))
    fields w (Pair k e fs) = ◌⊳◌ g (either g (name_key g w k) (calm_tail g (in_brackets g (exp w 1 k))))
        (◌⊳◌ g (one g Assign (is_word g Assign) refl) (◌⊳◌ g (calm_whole g (exp w 1 e)) (either g (only_where g) (◌⊳◌ g (separated g) (fields w fs)))))

    fun : (w : Context) (f : Fun) → Calmed g (SpellsFun g w f)
    fun w (Lambda ps dots b) = ◌⊳◌ g (one g LeftParen (is_word g LeftParen) refl) (◌⊳◌ g (params g ps dots)
        (◌⊳◌ g (one g RightParen (is_word g RightParen) refl) (◌⊳◌ g (block (in_function dots w) b) (one g End (is_word g End) refl))))

    method : (w : Context) (f : Fun) → Calmed g (SpellsMethod g w f)
    method w (Lambda [] dots b) = λ i j d le. absurd d
    method w (Lambda (p ∷ ps) dots b) = ◌⊳◌ g (only_where g) (◌⊳◌ g (one g LeftParen (is_word g LeftParen) refl) (◌⊳◌ g (params g ps dots)
        (◌⊳◌ g (one g RightParen (is_word g RightParen) refl) (◌⊳◌ g (block (in_function dots w) b) (one g End (is_word g End) refl)))))

    named : (w : Context) (ts es : Exps) → Calmed g (SpellsNamed g w ts es)
    named w ts (MoreExp (FunctionE line f) NoExp) = ◌⊳◌ g (node_is g w line) (◌⊳◌ g (one g Function (is_word g Function) refl)
        (either g (◌⊳◌ g (function_path g w ts) (fun (under w) f)) (◌⊳◌ g (method_path g w ts) (method (under w) f))))
    named w ts es = λ i j d le. absurd d

    block : (w : Context) (b : Block) → Calmed g (SpellsBlock g w b)
    block w NoStat = nothing g
    block w (MoreStat s b) = ◌⊳◌ g (stat w s) (◌⊳◌ g (only_where g) (◌⊳◌ g (either g (nothing g) (one g Semicolon (is_word g Semicolon) refl)) (block w b)))

    arms : (w : Context) (a : Arms) → Calmed g (SpellsArms g w a)
    arms w NoArm = λ i j d le. absurd d
    arms w (Arm e b a) = ◌⊳◌ g (calm_whole g (exp w 1 e)) (◌⊳◌ g (one g Then (is_word g Then) refl) (◌⊳◌ g (block w b) (more_arms w a)))

    more_arms : (w : Context) (a : Arms) → Calmed g (MoreArms g w a)
    more_arms w NoArm = nothing g
    more_arms w (Arm e b a) = ◌⊳◌ g (one g Elseif (is_word g Elseif) refl)
        (◌⊳◌ g (calm_whole g (exp w 1 e)) (◌⊳◌ g (one g Then (is_word g Then) refl) (◌⊳◌ g (block w b) (more_arms w a))))

    stat : (w : Context) (s : Stat) → Calmed g (SpellsStat g w s)
    stat w (AssignS line ts es) = ◌⊳◌ g (node_is g w line) (either g
        (◌⊳◌ g (only_where g) (◌⊳◌ g (all (under w) ts) (◌⊳◌ g (one g Assign (is_word g Assign) refl) (all (under w) es))))
        (named (under w) ts es))
    stat w (CallS line e) = λ i j (call, d) le. ◌⊳◌ g (node_is g w line) (calm_whole g (exp (under w) 9 e)) i j d le
    stat w (DoS line b) = ◌⊳◌ g (node_is g w line) (◌⊳◌ g (one g Do (is_word g Do) refl) (◌⊳◌ g (block (under w) b) (one g End (is_word g End) refl)))
    stat w (WhileS line e b) = ◌⊳◌ g (node_is g w line) (◌⊳◌ g (one g While (is_word g While) refl) (◌⊳◌ g (calm_whole g (exp (under w) 1 e))
        (◌⊳◌ g (one g Do (is_word g Do) refl) (◌⊳◌ g (block (in_loop w) b) (one g End (is_word g End) refl)))))
    stat w (RepeatS line b e) = ◌⊳◌ g (node_is g w line) (◌⊳◌ g (one g Repeat (is_word g Repeat) refl) (◌⊳◌ g (block (in_loop w) b)
        (◌⊳◌ g (one g Until (is_word g Until) refl) (calm_whole g (exp (under w) 1 e)))))
    stat w (IfS line a) = ◌⊳◌ g (node_is g w line) (◌⊳◌ g (one g If (is_word g If) refl) (◌⊳◌ g (arms (under w) a) (one g End (is_word g End) refl)))
    stat w (IfElseS line a b) = ◌⊳◌ g (node_is g w line) (◌⊳◌ g (one g If (is_word g If) refl) (◌⊳◌ g (arms (under w) a)
        (◌⊳◌ g (one g Else (is_word g Else) refl) (◌⊳◌ g (block (under w) b) (one g End (is_word g End) refl)))))
    stat w (CountS line n from to b) = ◌⊳◌ g (node_is g w line) (◌⊳◌ g (one g For (is_word g For) refl) (◌⊳◌ g (one g Name (is_text g Name n) refl)
        (◌⊳◌ g (one g Assign (is_word g Assign) refl) (◌⊳◌ g (calm_whole g (exp (under w) 1 from)) (◌⊳◌ g (one g Comma (is_word g Comma) refl)
        (◌⊳◌ g (calm_whole g (exp (under w) 1 to)) (◌⊳◌ g (one g Do (is_word g Do) refl) (◌⊳◌ g (block (in_loop w) b) (one g End (is_word g End) refl)))))))))
    stat w (CountByS line n from to by b) = ◌⊳◌ g (node_is g w line) (◌⊳◌ g (one g For (is_word g For) refl) (◌⊳◌ g (one g Name (is_text g Name n) refl)
        (◌⊳◌ g (one g Assign (is_word g Assign) refl) (◌⊳◌ g (calm_whole g (exp (under w) 1 from)) (◌⊳◌ g (one g Comma (is_word g Comma) refl)
        (◌⊳◌ g (calm_whole g (exp (under w) 1 to)) (◌⊳◌ g (one g Comma (is_word g Comma) refl) (◌⊳◌ g (calm_whole g (exp (under w) 1 by))
        (◌⊳◌ g (one g Do (is_word g Do) refl) (◌⊳◌ g (block (in_loop w) b) (one g End (is_word g End) refl)))))))))))
    stat w (EachS line ns es b) = ◌⊳◌ g (node_is g w line) (◌⊳◌ g (one g For (is_word g For) refl) (◌⊳◌ g (names g ns) (◌⊳◌ g (one g In (is_word g In) refl)
        (◌⊳◌ g (all (under w) es) (◌⊳◌ g (one g Do (is_word g Do) refl) (◌⊳◌ g (block (in_loop w) b) (one g End (is_word g End) refl)))))))
    stat w (LocalFunctionS line n f) = ◌⊳◌ g (node_is g w line) (◌⊳◌ g (one g Local (is_word g Local) refl) (◌⊳◌ g (one g Function (is_word g Function) refl)
        (◌⊳◌ g (one g Name (is_text g Name n) refl) (fun (under w) f))))
    stat w (LocalS line ns es) = ◌⊳◌ g (node_is g w line) (◌⊳◌ g (one g Local (is_word g Local) refl) (◌⊳◌ g (names g ns)
        (either g (only_where g) (◌⊳◌ g (one g Assign (is_word g Assign) refl) (all (under w) es)))))
    stat w (ReturnS line es) = ◌⊳◌ g (node_is g w line) (◌⊳◌ g (one g Return (is_word g Return) refl) (either g (only_where g) (all (under w) es)))
    stat w (BreakS line) = ◌⊳◌ g (node_is g w line) (one g Break (λ i j d. (d.0, d.2)) refl)

  chunk : (b : Block) (n : ℕ) → SpellsChunk g b n → n ≤ g.given → Calm g.tokens 0 n
  unfolding SpellsChunk
  chunk b n d le = (◌⊳◌ g (block outside b) (one g Eof (is_word g Eof) refl) 0 n d le).1

-- Every fault but one number has to be none; any will do.
pub neighbours_fit : (ts : List Token) (b : Block) → IsChunk ts b → AreNeighbours ts
unfolding IsChunk
neighbours_fit ts b h m lt = (chunk (given_tokens ts (length ts) 0) b (length ts) (h 0) (omega arith)).inner m (omega arith) lt

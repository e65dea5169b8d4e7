-- A tree that is spelled among the tokens that are given has the facts of its rule: production by production, as the grammar goes.
use Rattle.std.proofs.Common.{◌≡◌, ℕ, true, [], ◌∷◌}
use Rattle.lua_grammar.specs.declared.Context.{Context}
use Rattle.lua_grammar.specs.declared.TokenClass.TheVariants.{Name, Text, Break, Do, Else, Elseif, End, False, For, Function, If, In, Local, Nil, Repeat, Return, Then, True, Until, While, Assign, LeftParen, RightParen, LeftBrace, RightBrace, LeftBracket, RightBracket, Semicolon, Colon, Comma, Dots}
use Rattle.lua_grammar.specs.Grammar.{GivenTokens, mark_of, sign_of, left_level, right_level, AreVars, HasNone, IsAlone, NoneLeft, Spells, SpellsArgs, SpellsAll, MoreExps, SpellsFields, SpellsFun, SpellsMethod, SpellsNamed, SpellsBlock, SpellsArms, MoreArms, SpellsStat, under, in_loop, in_function}
use Rattle.lua_grammar.specs.Facts.{HasExp, HasArm}
use Rattle.lua_grammar.proofs.Rules.{RuledExp, RuledExps, RuledFields, RuledFun, RuledBlock, RuledArms, RuledStat}
use Rattle.lua_grammar.proofs.Within.{Within, Inside, is_word, is_text, is_opening, is_separator, nothing, loosely, told, and_also, one_token, only_where, condition, either, either_rest, rest_both, with_rest, rest_with, both, over_rest, then_rest, token_rest, token_then, rest_then_token, then_token, given_that, known_rest, node_then, leaf, node_between}
use Rattle.lua_grammar.proofs.Parts.{value, prefix_end, names, params, dot_key, name_key, function_path, method_path}
use Rattle.lua_lexer.specs.LuaSyntaxTree.{Exp, Exps, Fields, Fun, Block, Arms, Stat, NilE, TrueE, FalseE, NumberE, TextE, DotsE, FunctionE, NameE, IndexE, CallE, MethodE, TableE, BinaryE, UnaryE, ParenE, NoExp, MoreExp, NoField, Item, Pair, Lambda, NoStat, MoreStat, NoArm, Arm, AssignS, CallS, DoS, WhileS, RepeatS, IfS, IfElseS, CountS, CountByS, EachS, LocalFunctionS, LocalS, ReturnS, BreakS}

alone-ruled : (rule : ℕ) (w : Context) (e : Exp) (es : Exps) → IsAlone e es → RuledExps rule w es
unfolding RuledExp
alone-ruled rule w (TextE line bytes) NoExp h = tt
alone-ruled rule w (TableE line fs) NoExp h = tt
alone-ruled rule w e es h = absurd h

none-ruled : (rule : ℕ) (w : Context) (es : Exps) → HasNone es → RuledExps rule w es
unfolding RuledExp
none-ruled rule w NoExp h = tt
none-ruled rule w (MoreExp e es) h = absurd h

none_left-ruled : (rule : ℕ) (w : Context) (fs : Fields) → NoneLeft fs → RuledFields rule w fs
unfolding RuledExp
none_left-ruled rule w NoField h = tt
none_left-ruled rule w (Item e fs) h = absurd h
none_left-ruled rule w (Pair k e fs) h = absurd h

module _ (g : GivenTokens) where
  mutual
    unfolding Spells RuledExp

    pub exp : (w : Context) (l : ℕ) (e : Exp) → Inside g (Spells g w l e) (RuledExp g.free_of w e)
    exp w l (NilE line) = leaf g w line (one_token g (is_word g Nil))
    exp w l (TrueE line) = leaf g w line (one_token g (is_word g True))
    exp w l (FalseE line) = leaf g w line (one_token g (is_word g False))
    exp w l (NumberE line n) = node_then g w line (value g n)
    exp w l (TextE line bytes) = leaf g w line (one_token g (is_text g Text bytes))
    exp w l (DotsE line) = node_then g w line (condition g Dots 10 (w.vararg ≡ true))
    exp w l (FunctionE line f) = node_then g w line (token_then g (is_word g Function) (fun (under w) f))
    exp w l (TableE line fs) = node_then g w line (token_then g (is_word g LeftBrace) (rest_then_token g (fields (under w) fs) (is_word g RightBrace)))
    exp w l (UnaryE line op e) = λ i j d le. node_then g w line (token_then g (is_word g (sign_of op)) (exp (under w) 7 e)) i j d.1 le
    exp w l (BinaryE line op a b) = λ i j (m, left, low, right) le.
        node_between g (λ v. Spells g v (left_level op) a) (λ v. RuledExp g.free_of v a) w line i m j (λ v. exp v (left_level op) a)
        (token_then g (is_word g (mark_of op)) (exp (under w) (right_level op) b)) left right le
    exp w l (NameE line n) = leaf g w line (token_rest g (is_text g Name n) (prefix_end g l))
    exp w l (ParenE line e) = node_then g w line (token_then g (is_word g LeftParen) (then_rest g (exp (under w) 1 e) (loosely g (token_rest g (is_word g RightParen) (prefix_end g l)))))
    exp w l (IndexE line t k) = λ i j (m, left, p, right) le.
        node_between g (λ v. Spells g v 10 t) (λ v. RuledExp g.free_of v t) w line i m j (λ v. exp v 10 t)
        (then_rest g (either g (dot_key g (under w) k) (token_then g (is_word g LeftBracket) (then_token g (exp (under w) 1 k) (is_word g RightBracket)))) (prefix_end g l))
        left right le
    exp w l (CallE line f es) = λ i j (m, left, p, right) le.
        node_between g (λ v. Spells g v 10 f) (λ v. RuledExp g.free_of v f) w line i m j (λ v. exp v 10 f) (then_rest g (args (under w) es) (prefix_end g l)) left right le
    exp w l (MethodE line o n es) = λ i j (m, left, p, right) le.
        node_between g (λ v. Spells g v 10 o) (λ v. RuledExp g.free_of v o) w line i m j (λ v. exp v 10 o)
        (token_then g (is_word g Colon) (token_then g (is_text g Name n) (then_rest g (args (under w) es) (prefix_end g l)))) left right le

    pub args : (w : Context) (es : Exps) → Inside g (SpellsArgs g w es) (RuledExps g.free_of w es)
    args w NoExp = token_then g (is_opening g) (one_token g (is_word g RightParen))
    args w (MoreExp e es) = either g
        (token_then g (is_opening g) (both g (exp w 1 e) (rest_then_token g (more w es) (is_word g RightParen))))
        (given_that g (λ alone. told g (λ r. (r, alone-ruled g.free_of w e es alone)) (exp w 9 e)))

    pub all : (w : Context) (es : Exps) → Inside g (SpellsAll g w es) (HasExp es × RuledExps g.free_of w es)
    all w NoExp = λ i j d le. absurd d
    all w (MoreExp e es) = and_also g tt (with_rest g (exp w 1 e) (more w es))

    pub more : (w : Context) (es : Exps) → Within g (MoreExps g w es) (RuledExps g.free_of w es)
    more w NoExp = nothing g
    more w (MoreExp e es) = loosely g (token_then g (is_word g Comma) (with_rest g (exp w 1 e) (more w es)))

    pub fields : (w : Context) (fs : Fields) → Within g (SpellsFields g w fs) (RuledFields g.free_of w fs)
    fields w NoField = nothing g
    fields w (Item e fs) = loosely g (with_rest g (exp w 1 e)
        (either_rest g (only_where g (none_left-ruled g.free_of w fs)) (loosely g (token_rest g (is_separator g) (fields w fs)))))
    fields w (Pair k e fs) = loosely g (both g
        (either g (name_key g w k) (token_then g (is_word g LeftBracket) (then_token g (exp w 1 k) (is_word g RightBracket))))
        (token_then g (is_word g Assign) (with_rest g (exp w 1 e)
        (either_rest g (only_where g (none_left-ruled g.free_of w fs)) (loosely g (token_rest g (is_separator g) (fields w fs)))))))

    pub fun : (w : Context) (f : Fun) → Inside g (SpellsFun g w f) (RuledFun g.free_of w f)
    fun w (Lambda ps dots b) = token_rest g (is_word g LeftParen) (over_rest g (params g ps dots)
        (loosely g (token_then g (is_word g RightParen) (rest_then_token g (block (in_function dots w) b) (is_word g End)))))

    pub method : (w : Context) (f : Fun) → Inside g (SpellsMethod g w f) (RuledFun g.free_of w f)
    method w (Lambda [] dots b) = λ i j d le. absurd d
    method w (Lambda (p ∷ ps) dots b) = given_that g (λ self. token_rest g (is_word g LeftParen) (over_rest g (params g ps dots)
        (loosely g (token_then g (is_word g RightParen) (rest_then_token g (block (in_function dots w) b) (is_word g End))))))

    pub named : (w : Context) (ts es : Exps) → Inside g (SpellsNamed g w ts es) (AreVars ts × ((HasExp ts × RuledExps g.free_of w ts) × (HasExp es × RuledExps g.free_of w es)))
    named w ts (MoreExp (FunctionE line f) NoExp) =
        told g (λ r. (r.1.0.0, (r.1.0.1, (tt, ((r.0, r.1.1), tt)))))
        (node_then g w line (token_then g (is_word g Function) (either g (both g (function_path g w ts) (fun (under w) f)) (both g (method_path g w ts) (method (under w) f)))))
    named w ts es = λ i j d le. absurd d

    pub block : (w : Context) (b : Block) → Within g (SpellsBlock g w b) (RuledBlock g.free_of w b)
    block w NoStat = nothing g
    block w (MoreStat s b) = loosely g (with_rest g (stat w s) (known_rest g
        (over_rest g (either_rest g (nothing g) (loosely g (one_token g (is_word g Semicolon)))) (block w b))))

    pub arms : (w : Context) (a : Arms) → Inside g (SpellsArms g w a) (HasArm a × RuledArms g.free_of w a)
    arms w NoArm = λ i j d le. absurd d
    arms w (Arm e b a) = and_also g tt (both g (exp w 1 e) (token_rest g (is_word g Then) (rest_both g (block w b) (more_arms w a))))

    pub more_arms : (w : Context) (a : Arms) → Within g (MoreArms g w a) (RuledArms g.free_of w a)
    more_arms w NoArm = nothing g
    more_arms w (Arm e b a) = loosely g (token_then g (is_word g Elseif)
        (both g (exp w 1 e) (token_rest g (is_word g Then) (rest_both g (block w b) (more_arms w a)))))

    pub stat : (w : Context) (s : Stat) → Inside g (SpellsStat g w s) (RuledStat g.free_of w s)
    stat w (AssignS line ts es) = node_then g w line (either g
        (given_that g (λ vars. and_also g vars (both g (all (under w) ts) (token_then g (is_word g Assign) (all (under w) es)))))
        (named (under w) ts es))
    stat w (CallS line e) = λ i j (call, d) le. node_then g w line (and_also g call (exp (under w) 9 e)) i j d le
    stat w (DoS line b) = node_then g w line (token_then g (is_word g Do) (rest_then_token g (block (under w) b) (is_word g End)))
    stat w (WhileS line e b) = node_then g w line (token_then g (is_word g While) (both g (exp (under w) 1 e)
        (token_then g (is_word g Do) (rest_then_token g (block (in_loop w) b) (is_word g End)))))
    stat w (RepeatS line b e) = node_then g w line (token_then g (is_word g Repeat) (rest_with g (block (in_loop w) b) (token_then g (is_word g Until) (exp (under w) 1 e))))
    stat w (IfS line a) = node_then g w line (token_then g (is_word g If) (then_token g (arms (under w) a) (is_word g End)))
    stat w (IfElseS line a b) = node_then g w line (token_then g (is_word g If) (both g (arms (under w) a)
        (token_then g (is_word g Else) (rest_then_token g (block (under w) b) (is_word g End)))))
    stat w (CountS line n from to b) = node_then g w line (token_then g (is_word g For) (token_then g (is_text g Name n) (token_then g (is_word g Assign)
        (both g (exp (under w) 1 from) (token_then g (is_word g Comma) (both g (exp (under w) 1 to)
        (token_then g (is_word g Do) (rest_then_token g (block (in_loop w) b) (is_word g End)))))))))
    stat w (CountByS line n from to by b) = node_then g w line (token_then g (is_word g For) (token_then g (is_text g Name n) (token_then g (is_word g Assign)
        (both g (exp (under w) 1 from) (token_then g (is_word g Comma) (both g (exp (under w) 1 to) (token_then g (is_word g Comma) (both g (exp (under w) 1 by)
        (token_then g (is_word g Do) (rest_then_token g (block (in_loop w) b) (is_word g End)))))))))))
    stat w (EachS line ns es b) = node_then g w line (token_then g (is_word g For) (both g (names g ns) (token_then g (is_word g In) (both g (all (under w) es)
        (token_then g (is_word g Do) (rest_then_token g (block (in_loop w) b) (is_word g End)))))))
    stat w (LocalFunctionS line n f) = node_then g w line (token_then g (is_word g Local) (token_then g (is_word g Function) (token_then g (is_text g Name n) (fun (under w) f))))
    stat w (LocalS line ns es) = node_then g w line (token_then g (is_word g Local) (with_rest g (names g ns)
        (either_rest g (only_where g (none-ruled g.free_of (under w) es)) (loosely g (token_then g (is_word g Assign) (told g (λ r. r.1) (all (under w) es)))))))
    stat w (ReturnS line es) = node_then g w line (token_rest g (is_word g Return)
        (either_rest g (only_where g (none-ruled g.free_of (under w) es)) (loosely g (told g (λ r. r.1) (all (under w) es)))))
    stat w (BreakS line) = node_then g w line (condition g Break 8 (w.inside_loop ≡ true))

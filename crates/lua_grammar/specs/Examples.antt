-- WORKED EXAMPLES: chunks with their tokens and their plain trees, in parts. `bench/lua_derivations.py` writes this file.
use Rattle.std.specs.Prelude.{ℕ, true, false, List, [], ◌∷◌, pos, codes}
use Rattle.lua_lexer.specs.declared.token.Token.{Token}
use Rattle.lua_lexer.specs.declared.token.TokenKind.{TokenKind}
use Rattle.lua_lexer.specs.declared.token.TokenKind.TheVariants.{Name, Word, Mark, Number, Text, End}
use Rattle.lua_lexer.specs.LuaSyntaxDeclaredBinaryOpTheVariants.{Or as OrOp, And as AndOp, Lt, Gt, Le, Ge, Ne, Eq, Concat, Add, Sub, Mul, Div, Mod, Pow}
use Rattle.lua_lexer.specs.LuaSyntaxDeclaredUnaryOpTheVariants.{Not as NotOp, Len, Minus as MinusOp}
use Rattle.lua_grammar.specs.Grammar.{IsChunk}
use Rattle.lua_lexer.specs.LuaSyntaxTree.{Exp, Block, Stat, NilE, TrueE, FalseE, NumberE, TextE, DotsE, FunctionE, NameE, IndexE, CallE, MethodE, TableE, BinaryE, UnaryE, ParenE, NoExp, MoreExp, NoField, Item, Pair, Lambda, NoStat, MoreStat, NoArm, Arm, AssignS, CallS, DoS, WhileS, RepeatS, IfS, IfElseS, CountS, CountByS, EachS, LocalFunctionS, LocalS, ReturnS, BreakS}

-- A token with its places, on one line or across two.
abbrev pub on : ℕ → TokenKind → ℕ → ℕ → Token
on line kind start end = record { kind = kind; start = start; end = end; line = line; end_line = line }

abbrev pub across : ℕ → ℕ → TokenKind → ℕ → ℕ → Token
across line last kind start end = record { kind = kind; start = start; end = end; line = line; end_line = last }

-- OPERATORS: how tightly operators bind, and to which side they group (manual 2.5)

-- return a + b * c - d / e % f, (a + b) * c
abbrev pub sums_and_products_tokens : List Token
sums_and_products_tokens =
    on 1 (Word (codes "return")) 0 6 ∷ on 1 (Name (codes "a")) 7 8 ∷ on 1 (Mark (codes "+")) 9 10 ∷ on 1 (Name (codes "b")) 11 12 ∷
    on 1 (Mark (codes "*")) 13 14 ∷ on 1 (Name (codes "c")) 15 16 ∷ on 1 (Mark (codes "-")) 17 18 ∷ on 1 (Name (codes "d")) 19 20 ∷
    on 1 (Mark (codes "/")) 21 22 ∷ on 1 (Name (codes "e")) 23 24 ∷ on 1 (Mark (codes "%")) 25 26 ∷ on 1 (Name (codes "f")) 27 28 ∷
    on 1 (Mark (codes ",")) 28 29 ∷ on 1 (Mark (codes "(")) 30 31 ∷ on 1 (Name (codes "a")) 31 32 ∷ on 1 (Mark (codes "+")) 33 34 ∷
    on 1 (Name (codes "b")) 35 36 ∷ on 1 (Mark (codes ")")) 36 37 ∷ on 1 (Mark (codes "*")) 38 39 ∷ on 1 (Name (codes "c")) 40 41 ∷
    on 1 End 41 41 ∷ []

-- b * c
abbrev pub sums_and_products_1 : Exp
sums_and_products_1 = BinaryE 1 Mul (NameE 1 (codes "b")) (NameE 1 (codes "c"))

-- a + b * c
abbrev pub sums_and_products_2 : Exp
sums_and_products_2 = BinaryE 1 Add (NameE 1 (codes "a")) sums_and_products_1

-- d / e
abbrev pub sums_and_products_3 : Exp
sums_and_products_3 = BinaryE 1 Div (NameE 1 (codes "d")) (NameE 1 (codes "e"))

-- d / e % f
abbrev pub sums_and_products_4 : Exp
sums_and_products_4 = BinaryE 1 Mod sums_and_products_3 (NameE 1 (codes "f"))

-- a + b
abbrev pub sums_and_products_5 : Exp
sums_and_products_5 = BinaryE 1 Add (NameE 1 (codes "a")) (NameE 1 (codes "b"))

-- ( a + b )
abbrev pub sums_and_products_6 : Exp
sums_and_products_6 = ParenE 1 sums_and_products_5

-- ( a + b ) * c
abbrev pub sums_and_products_7 : Exp
sums_and_products_7 = BinaryE 1 Mul sums_and_products_6 (NameE 1 (codes "c"))

-- return a + b * c - d / e % f , ( a + b ) * c
abbrev pub sums_and_products_8 : Stat
sums_and_products_8 = ReturnS 1 (MoreExp (BinaryE 1 Sub sums_and_products_2 sums_and_products_4) (MoreExp sums_and_products_7 NoExp))

abbrev pub sums_and_products_tree : Block
sums_and_products_tree = MoreStat sums_and_products_8 NoStat

-- return a .. b .. c, -x ^ 2, x ^ -y ^ z
abbrev pub powers_and_joins_tokens : List Token
powers_and_joins_tokens =
    on 1 (Word (codes "return")) 0 6 ∷ on 1 (Name (codes "a")) 7 8 ∷ on 1 (Mark (codes "..")) 9 11 ∷ on 1 (Name (codes "b")) 12 13 ∷
    on 1 (Mark (codes "..")) 14 16 ∷ on 1 (Name (codes "c")) 17 18 ∷ on 1 (Mark (codes ",")) 18 19 ∷ on 1 (Mark (codes "-")) 20 21 ∷
    on 1 (Name (codes "x")) 21 22 ∷ on 1 (Mark (codes "^")) 23 24 ∷ on 1 (Number (codes "2")) 25 26 ∷ on 1 (Mark (codes ",")) 26 27 ∷
    on 1 (Name (codes "x")) 28 29 ∷ on 1 (Mark (codes "^")) 30 31 ∷ on 1 (Mark (codes "-")) 32 33 ∷ on 1 (Name (codes "y")) 33 34 ∷
    on 1 (Mark (codes "^")) 35 36 ∷ on 1 (Name (codes "z")) 37 38 ∷ on 1 End 38 38 ∷ []

-- b .. c
abbrev pub powers_and_joins_1 : Exp
powers_and_joins_1 = BinaryE 1 Concat (NameE 1 (codes "b")) (NameE 1 (codes "c"))

-- a .. b .. c
abbrev pub powers_and_joins_2 : Exp
powers_and_joins_2 = BinaryE 1 Concat (NameE 1 (codes "a")) powers_and_joins_1

-- x ^ 2
abbrev pub powers_and_joins_3 : Exp
powers_and_joins_3 = BinaryE 1 Pow (NameE 1 (codes "x")) (NumberE 1 (pos 2))

-- - x ^ 2
abbrev pub powers_and_joins_4 : Exp
powers_and_joins_4 = UnaryE 1 MinusOp powers_and_joins_3

-- y ^ z
abbrev pub powers_and_joins_5 : Exp
powers_and_joins_5 = BinaryE 1 Pow (NameE 1 (codes "y")) (NameE 1 (codes "z"))

-- x ^ - y ^ z
abbrev pub powers_and_joins_6 : Exp
powers_and_joins_6 = BinaryE 1 Pow (NameE 1 (codes "x")) (UnaryE 1 MinusOp powers_and_joins_5)

-- return a .. b .. c , - x ^ 2 , x ^ - y ^ z
abbrev pub powers_and_joins_7 : Stat
powers_and_joins_7 = ReturnS 1 (MoreExp powers_and_joins_2 (MoreExp powers_and_joins_4 (MoreExp powers_and_joins_6 NoExp)))

abbrev pub powers_and_joins_tree : Block
powers_and_joins_tree = MoreStat powers_and_joins_7 NoStat

-- return not a == b, #a < b and c ~= d or e <= f, g > h .. i >= j
abbrev pub comparisons_tokens : List Token
comparisons_tokens =
    on 1 (Word (codes "return")) 0 6 ∷ on 1 (Word (codes "not")) 7 10 ∷ on 1 (Name (codes "a")) 11 12 ∷
    on 1 (Mark (codes "==")) 13 15 ∷ on 1 (Name (codes "b")) 16 17 ∷ on 1 (Mark (codes ",")) 17 18 ∷ on 1 (Mark (codes "#")) 19 20 ∷
    on 1 (Name (codes "a")) 20 21 ∷ on 1 (Mark (codes "<")) 22 23 ∷ on 1 (Name (codes "b")) 24 25 ∷ on 1 (Word (codes "and")) 26 29 ∷
    on 1 (Name (codes "c")) 30 31 ∷ on 1 (Mark (codes "~=")) 32 34 ∷ on 1 (Name (codes "d")) 35 36 ∷ on 1 (Word (codes "or")) 37 39 ∷
    on 1 (Name (codes "e")) 40 41 ∷ on 1 (Mark (codes "<=")) 42 44 ∷ on 1 (Name (codes "f")) 45 46 ∷ on 1 (Mark (codes ",")) 46 47 ∷
    on 1 (Name (codes "g")) 48 49 ∷ on 1 (Mark (codes ">")) 50 51 ∷ on 1 (Name (codes "h")) 52 53 ∷ on 1 (Mark (codes "..")) 54 56 ∷
    on 1 (Name (codes "i")) 57 58 ∷ on 1 (Mark (codes ">=")) 59 61 ∷ on 1 (Name (codes "j")) 62 63 ∷ on 1 End 63 63 ∷ []

-- not a
abbrev pub comparisons_1 : Exp
comparisons_1 = UnaryE 1 NotOp (NameE 1 (codes "a"))

-- not a == b
abbrev pub comparisons_2 : Exp
comparisons_2 = BinaryE 1 Eq comparisons_1 (NameE 1 (codes "b"))

-- # a
abbrev pub comparisons_3 : Exp
comparisons_3 = UnaryE 1 Len (NameE 1 (codes "a"))

-- # a < b
abbrev pub comparisons_4 : Exp
comparisons_4 = BinaryE 1 Lt comparisons_3 (NameE 1 (codes "b"))

-- c ~= d
abbrev pub comparisons_5 : Exp
comparisons_5 = BinaryE 1 Ne (NameE 1 (codes "c")) (NameE 1 (codes "d"))

-- e <= f
abbrev pub comparisons_6 : Exp
comparisons_6 = BinaryE 1 Le (NameE 1 (codes "e")) (NameE 1 (codes "f"))

-- # a < b and c ~= d or e <= f
abbrev pub comparisons_7 : Exp
comparisons_7 = BinaryE 1 OrOp (BinaryE 1 AndOp comparisons_4 comparisons_5) comparisons_6

-- h .. i
abbrev pub comparisons_8 : Exp
comparisons_8 = BinaryE 1 Concat (NameE 1 (codes "h")) (NameE 1 (codes "i"))

-- g > h .. i
abbrev pub comparisons_9 : Exp
comparisons_9 = BinaryE 1 Gt (NameE 1 (codes "g")) comparisons_8

-- g > h .. i >= j
abbrev pub comparisons_10 : Exp
comparisons_10 = BinaryE 1 Ge comparisons_9 (NameE 1 (codes "j"))

-- return not a == b , # a < b and c ~= d or e <= f , g > h .. i >= j
abbrev pub comparisons_11 : Stat
comparisons_11 = ReturnS 1 (MoreExp comparisons_2 (MoreExp comparisons_7 (MoreExp comparisons_10 NoExp)))

abbrev pub comparisons_tree : Block
comparisons_tree = MoreStat comparisons_11 NoStat

abbrev pub OperatorChunks : Type 0
OperatorChunks = IsChunk sums_and_products_tokens sums_and_products_tree
    × IsChunk powers_and_joins_tokens powers_and_joins_tree
    × IsChunk comparisons_tokens comparisons_tree

-- CALLS: indexes, calls, methods and tables (manual 2.3, 2.5.7 and 2.5.8)

-- the empty text
abbrev pub nothing_tokens : List Token
nothing_tokens =
    on 1 End 0 0 ∷ []

abbrev pub nothing_tree : Block
nothing_tree = NoStat

-- f()
abbrev pub call_tokens : List Token
call_tokens =
    on 1 (Name (codes "f")) 0 1 ∷ on 1 (Mark (codes "(")) 1 2 ∷ on 1 (Mark (codes ")")) 2 3 ∷ on 1 End 3 3 ∷ []

-- f ( )
abbrev pub call_1 : Stat
call_1 = CallS 1 (CallE 1 (NameE 1 (codes "f")) NoExp)

abbrev pub call_tree : Block
call_tree = MoreStat call_1 NoStat

-- f 'a' {} (x, ...)
abbrev pub sugar_tokens : List Token
sugar_tokens =
    on 1 (Name (codes "f")) 0 1 ∷ on 1 (Text (codes "a")) 2 5 ∷ on 1 (Mark (codes "{")) 6 7 ∷ on 1 (Mark (codes "}")) 7 8 ∷
    on 1 (Mark (codes "(")) 9 10 ∷ on 1 (Name (codes "x")) 10 11 ∷ on 1 (Mark (codes ",")) 11 12 ∷ on 1 (Mark (codes "...")) 13 16 ∷
    on 1 (Mark (codes ")")) 16 17 ∷ on 1 End 17 17 ∷ []

-- f 'a'
abbrev pub sugar_1 : Exp
sugar_1 = CallE 1 (NameE 1 (codes "f")) (MoreExp (TextE 1 (codes "a")) NoExp)

-- f 'a' { }
abbrev pub sugar_2 : Exp
sugar_2 = CallE 1 sugar_1 (MoreExp (TableE 1 NoField) NoExp)

-- f 'a' { } ( x , ... )
abbrev pub sugar_3 : Exp
sugar_3 = CallE 1 sugar_2 (MoreExp (NameE 1 (codes "x")) (MoreExp (DotsE 1) NoExp))

abbrev pub sugar_tree : Block
sugar_tree = MoreStat (CallS 1 sugar_3) NoStat

-- a.b:c(1):d 'x' :e {}
abbrev pub methods_tokens : List Token
methods_tokens =
    on 1 (Name (codes "a")) 0 1 ∷ on 1 (Mark (codes ".")) 1 2 ∷ on 1 (Name (codes "b")) 2 3 ∷ on 1 (Mark (codes ":")) 3 4 ∷
    on 1 (Name (codes "c")) 4 5 ∷ on 1 (Mark (codes "(")) 5 6 ∷ on 1 (Number (codes "1")) 6 7 ∷ on 1 (Mark (codes ")")) 7 8 ∷
    on 1 (Mark (codes ":")) 8 9 ∷ on 1 (Name (codes "d")) 9 10 ∷ on 1 (Text (codes "x")) 11 14 ∷ on 1 (Mark (codes ":")) 15 16 ∷
    on 1 (Name (codes "e")) 16 17 ∷ on 1 (Mark (codes "{")) 18 19 ∷ on 1 (Mark (codes "}")) 19 20 ∷ on 1 End 20 20 ∷ []

-- a . b
abbrev pub methods_1 : Exp
methods_1 = IndexE 1 (NameE 1 (codes "a")) (TextE 1 (codes "b"))

-- a . b : c ( 1 )
abbrev pub methods_2 : Exp
methods_2 = MethodE 1 methods_1 (codes "c") (MoreExp (NumberE 1 (pos 1)) NoExp)

-- a . b : c ( 1 ) : d 'x'
abbrev pub methods_3 : Exp
methods_3 = MethodE 1 methods_2 (codes "d") (MoreExp (TextE 1 (codes "x")) NoExp)

-- { }
abbrev pub methods_4 : Exp
methods_4 = TableE 1 NoField

-- a . b : c ( 1 ) : d 'x' : e { }
abbrev pub methods_5 : Stat
methods_5 = CallS 1 (MethodE 1 methods_3 (codes "e") (MoreExp methods_4 NoExp))

abbrev pub methods_tree : Block
methods_tree = MoreStat methods_5 NoStat

-- a.b[c].d, e = true, false, nil
abbrev pub places_tokens : List Token
places_tokens =
    on 1 (Name (codes "a")) 0 1 ∷ on 1 (Mark (codes ".")) 1 2 ∷ on 1 (Name (codes "b")) 2 3 ∷ on 1 (Mark (codes "[")) 3 4 ∷
    on 1 (Name (codes "c")) 4 5 ∷ on 1 (Mark (codes "]")) 5 6 ∷ on 1 (Mark (codes ".")) 6 7 ∷ on 1 (Name (codes "d")) 7 8 ∷
    on 1 (Mark (codes ",")) 8 9 ∷ on 1 (Name (codes "e")) 10 11 ∷ on 1 (Mark (codes "=")) 12 13 ∷ on 1 (Word (codes "true")) 14 18 ∷
    on 1 (Mark (codes ",")) 18 19 ∷ on 1 (Word (codes "false")) 20 25 ∷ on 1 (Mark (codes ",")) 25 26 ∷
    on 1 (Word (codes "nil")) 27 30 ∷ on 1 End 30 30 ∷ []

-- a . b
abbrev pub places_1 : Exp
places_1 = IndexE 1 (NameE 1 (codes "a")) (TextE 1 (codes "b"))

-- a . b [ c ]
abbrev pub places_2 : Exp
places_2 = IndexE 1 places_1 (NameE 1 (codes "c"))

-- a . b [ c ] . d
abbrev pub places_3 : Exp
places_3 = IndexE 1 places_2 (TextE 1 (codes "d"))

-- a . b [ c ] . d , e = true , false , nil
abbrev pub places_4 : Stat
places_4 = AssignS 1 (MoreExp places_3 (MoreExp (NameE 1 (codes "e")) NoExp)) (MoreExp (TrueE 1) (MoreExp (FalseE 1) (MoreExp (NilE 1) NoExp)))

abbrev pub places_tree : Block
places_tree = MoreStat places_4 NoStat

-- return {}, {f(); x = 0x10, [y] = 1e2,}, {z}
abbrev pub fields_tokens : List Token
fields_tokens =
    on 1 (Word (codes "return")) 0 6 ∷ on 1 (Mark (codes "{")) 7 8 ∷ on 1 (Mark (codes "}")) 8 9 ∷ on 1 (Mark (codes ",")) 9 10 ∷
    on 1 (Mark (codes "{")) 11 12 ∷ on 1 (Name (codes "f")) 12 13 ∷ on 1 (Mark (codes "(")) 13 14 ∷ on 1 (Mark (codes ")")) 14 15 ∷
    on 1 (Mark (codes ";")) 15 16 ∷ on 1 (Name (codes "x")) 17 18 ∷ on 1 (Mark (codes "=")) 19 20 ∷
    on 1 (Number (codes "0x10")) 21 25 ∷ on 1 (Mark (codes ",")) 25 26 ∷ on 1 (Mark (codes "[")) 27 28 ∷
    on 1 (Name (codes "y")) 28 29 ∷ on 1 (Mark (codes "]")) 29 30 ∷ on 1 (Mark (codes "=")) 31 32 ∷
    on 1 (Number (codes "1e2")) 33 36 ∷ on 1 (Mark (codes ",")) 36 37 ∷ on 1 (Mark (codes "}")) 37 38 ∷
    on 1 (Mark (codes ",")) 38 39 ∷ on 1 (Mark (codes "{")) 40 41 ∷ on 1 (Name (codes "z")) 41 42 ∷ on 1 (Mark (codes "}")) 42 43 ∷
    on 1 End 43 43 ∷ []

-- { }
abbrev pub fields_1 : Exp
fields_1 = TableE 1 NoField

-- f ( )
abbrev pub fields_2 : Exp
fields_2 = CallE 1 (NameE 1 (codes "f")) NoExp

-- { f ( ) ; x = 0x10 , [ y ] = 1e2 , }
abbrev pub fields_3 : Exp
fields_3 = TableE 1 (Item fields_2 (Pair (TextE 1 (codes "x")) (NumberE 1 (pos 16)) (Pair (NameE 1 (codes "y")) (NumberE 1 (pos 100)) NoField)))

-- { z }
abbrev pub fields_4 : Exp
fields_4 = TableE 1 (Item (NameE 1 (codes "z")) NoField)

-- return { } , { f ( ) ; x = 0x10 , [ y ] = 1e2 , } , { z }
abbrev pub fields_5 : Stat
fields_5 = ReturnS 1 (MoreExp fields_1 (MoreExp fields_3 (MoreExp fields_4 NoExp)))

abbrev pub fields_tree : Block
fields_tree = MoreStat fields_5 NoStat

-- x = f [[a
-- b]] (1)
-- return -
-- x
abbrev pub lines_tokens : List Token
lines_tokens =
    on 1 (Name (codes "x")) 0 1 ∷ on 1 (Mark (codes "=")) 2 3 ∷ on 1 (Name (codes "f")) 4 5 ∷ across 1 2 (Text (codes "a\nb")) 6 13 ∷
    on 2 (Mark (codes "(")) 14 15 ∷ on 2 (Number (codes "1")) 15 16 ∷ on 2 (Mark (codes ")")) 16 17 ∷
    on 3 (Word (codes "return")) 18 24 ∷ on 3 (Mark (codes "-")) 25 26 ∷ on 4 (Name (codes "x")) 27 28 ∷ on 4 End 28 28 ∷ []

-- f 'a\nb'
abbrev pub lines_1 : Exp
lines_1 = CallE 1 (NameE 1 (codes "f")) (MoreExp (TextE 1 (codes "a\nb")) NoExp)

-- f 'a\nb' ( 1 )
abbrev pub lines_2 : Exp
lines_2 = CallE 2 lines_1 (MoreExp (NumberE 2 (pos 1)) NoExp)

-- x = f 'a\nb' ( 1 )
abbrev pub lines_3 : Stat
lines_3 = AssignS 1 (MoreExp (NameE 1 (codes "x")) NoExp) (MoreExp lines_2 NoExp)

-- return - x
abbrev pub lines_4 : Stat
lines_4 = ReturnS 3 (MoreExp (UnaryE 3 MinusOp (NameE 4 (codes "x"))) NoExp)

abbrev pub lines_tree : Block
lines_tree = MoreStat lines_3 (MoreStat lines_4 NoStat)

abbrev pub CallChunks : Type 0
CallChunks = IsChunk nothing_tokens nothing_tree
    × IsChunk call_tokens call_tree
    × IsChunk sugar_tokens sugar_tree
    × IsChunk methods_tokens methods_tree
    × IsChunk places_tokens places_tree
    × IsChunk fields_tokens fields_tree
    × IsChunk lines_tokens lines_tree

-- STATEMENTS: control structures, loops and blocks (manual 2.4)

-- while a do if b then break end end repeat local x = f() until x
abbrev pub loops_tokens : List Token
loops_tokens =
    on 1 (Word (codes "while")) 0 5 ∷ on 1 (Name (codes "a")) 6 7 ∷ on 1 (Word (codes "do")) 8 10 ∷ on 1 (Word (codes "if")) 11 13 ∷
    on 1 (Name (codes "b")) 14 15 ∷ on 1 (Word (codes "then")) 16 20 ∷ on 1 (Word (codes "break")) 21 26 ∷
    on 1 (Word (codes "end")) 27 30 ∷ on 1 (Word (codes "end")) 31 34 ∷ on 1 (Word (codes "repeat")) 35 41 ∷
    on 1 (Word (codes "local")) 42 47 ∷ on 1 (Name (codes "x")) 48 49 ∷ on 1 (Mark (codes "=")) 50 51 ∷
    on 1 (Name (codes "f")) 52 53 ∷ on 1 (Mark (codes "(")) 53 54 ∷ on 1 (Mark (codes ")")) 54 55 ∷
    on 1 (Word (codes "until")) 56 61 ∷ on 1 (Name (codes "x")) 62 63 ∷ on 1 End 63 63 ∷ []

-- if b then break end
abbrev pub loops_1 : Stat
loops_1 = IfS 1 (Arm (NameE 1 (codes "b")) (MoreStat (BreakS 1) NoStat) NoArm)

-- while a do if b then break end end
abbrev pub loops_2 : Stat
loops_2 = WhileS 1 (NameE 1 (codes "a")) (MoreStat loops_1 NoStat)

-- f ( )
abbrev pub loops_3 : Exp
loops_3 = CallE 1 (NameE 1 (codes "f")) NoExp

-- local x = f ( )
abbrev pub loops_4 : Stat
loops_4 = LocalS 1 (codes "x" ∷ []) (MoreExp loops_3 NoExp)

-- repeat local x = f ( ) until x
abbrev pub loops_5 : Stat
loops_5 = RepeatS 1 (MoreStat loops_4 NoStat) (NameE 1 (codes "x"))

abbrev pub loops_tree : Block
loops_tree = MoreStat loops_2 (MoreStat loops_5 NoStat)

-- for i = 1, 10 do f(i) end for i = n, 1, -1 do break; end
abbrev pub counts_tokens : List Token
counts_tokens =
    on 1 (Word (codes "for")) 0 3 ∷ on 1 (Name (codes "i")) 4 5 ∷ on 1 (Mark (codes "=")) 6 7 ∷ on 1 (Number (codes "1")) 8 9 ∷
    on 1 (Mark (codes ",")) 9 10 ∷ on 1 (Number (codes "10")) 11 13 ∷ on 1 (Word (codes "do")) 14 16 ∷ on 1 (Name (codes "f")) 17 18 ∷
    on 1 (Mark (codes "(")) 18 19 ∷ on 1 (Name (codes "i")) 19 20 ∷ on 1 (Mark (codes ")")) 20 21 ∷ on 1 (Word (codes "end")) 22 25 ∷
    on 1 (Word (codes "for")) 26 29 ∷ on 1 (Name (codes "i")) 30 31 ∷ on 1 (Mark (codes "=")) 32 33 ∷ on 1 (Name (codes "n")) 34 35 ∷
    on 1 (Mark (codes ",")) 35 36 ∷ on 1 (Number (codes "1")) 37 38 ∷ on 1 (Mark (codes ",")) 38 39 ∷ on 1 (Mark (codes "-")) 40 41 ∷
    on 1 (Number (codes "1")) 41 42 ∷ on 1 (Word (codes "do")) 43 45 ∷ on 1 (Word (codes "break")) 46 51 ∷
    on 1 (Mark (codes ";")) 51 52 ∷ on 1 (Word (codes "end")) 53 56 ∷ on 1 End 56 56 ∷ []

-- f ( i )
abbrev pub counts_1 : Exp
counts_1 = CallE 1 (NameE 1 (codes "f")) (MoreExp (NameE 1 (codes "i")) NoExp)

-- for i = 1 , 10 do f ( i ) end
abbrev pub counts_2 : Stat
counts_2 = CountS 1 (codes "i") (NumberE 1 (pos 1)) (NumberE 1 (pos 10)) (MoreStat (CallS 1 counts_1) NoStat)

-- - 1
abbrev pub counts_3 : Exp
counts_3 = UnaryE 1 MinusOp (NumberE 1 (pos 1))

-- for i = n , 1 , - 1 do break ; end
abbrev pub counts_4 : Stat
counts_4 = CountByS 1 (codes "i") (NameE 1 (codes "n")) (NumberE 1 (pos 1)) counts_3 (MoreStat (BreakS 1) NoStat)

abbrev pub counts_tree : Block
counts_tree = MoreStat counts_2 (MoreStat counts_4 NoStat)

-- for k, v in pairs(t), n do end
abbrev pub iterations_tokens : List Token
iterations_tokens =
    on 1 (Word (codes "for")) 0 3 ∷ on 1 (Name (codes "k")) 4 5 ∷ on 1 (Mark (codes ",")) 5 6 ∷ on 1 (Name (codes "v")) 7 8 ∷
    on 1 (Word (codes "in")) 9 11 ∷ on 1 (Name (codes "pairs")) 12 17 ∷ on 1 (Mark (codes "(")) 17 18 ∷
    on 1 (Name (codes "t")) 18 19 ∷ on 1 (Mark (codes ")")) 19 20 ∷ on 1 (Mark (codes ",")) 20 21 ∷ on 1 (Name (codes "n")) 22 23 ∷
    on 1 (Word (codes "do")) 24 26 ∷ on 1 (Word (codes "end")) 27 30 ∷ on 1 End 30 30 ∷ []

-- pairs ( t )
abbrev pub iterations_1 : Exp
iterations_1 = CallE 1 (NameE 1 (codes "pairs")) (MoreExp (NameE 1 (codes "t")) NoExp)

-- for k , v in pairs ( t ) , n do end
abbrev pub iterations_2 : Stat
iterations_2 = EachS 1 (codes "k" ∷ codes "v" ∷ []) (MoreExp iterations_1 (MoreExp (NameE 1 (codes "n")) NoExp)) NoStat

abbrev pub iterations_tree : Block
iterations_tree = MoreStat iterations_2 NoStat

-- if a then f() elseif b then return else do return 1; end end
abbrev pub conditions_tokens : List Token
conditions_tokens =
    on 1 (Word (codes "if")) 0 2 ∷ on 1 (Name (codes "a")) 3 4 ∷ on 1 (Word (codes "then")) 5 9 ∷ on 1 (Name (codes "f")) 10 11 ∷
    on 1 (Mark (codes "(")) 11 12 ∷ on 1 (Mark (codes ")")) 12 13 ∷ on 1 (Word (codes "elseif")) 14 20 ∷
    on 1 (Name (codes "b")) 21 22 ∷ on 1 (Word (codes "then")) 23 27 ∷ on 1 (Word (codes "return")) 28 34 ∷
    on 1 (Word (codes "else")) 35 39 ∷ on 1 (Word (codes "do")) 40 42 ∷ on 1 (Word (codes "return")) 43 49 ∷
    on 1 (Number (codes "1")) 50 51 ∷ on 1 (Mark (codes ";")) 51 52 ∷ on 1 (Word (codes "end")) 53 56 ∷
    on 1 (Word (codes "end")) 57 60 ∷ on 1 End 60 60 ∷ []

-- f ( )
abbrev pub conditions_1 : Stat
conditions_1 = CallS 1 (CallE 1 (NameE 1 (codes "f")) NoExp)

-- return
abbrev pub conditions_2 : Stat
conditions_2 = ReturnS 1 NoExp

-- return 1
abbrev pub conditions_3 : Stat
conditions_3 = ReturnS 1 (MoreExp (NumberE 1 (pos 1)) NoExp)

-- do return 1 ; end
abbrev pub conditions_4 : Stat
conditions_4 = DoS 1 (MoreStat conditions_3 NoStat)

-- if a then f ( ) elseif b then return else do return 1 ; end end
abbrev pub conditions_5 : Stat
conditions_5 = IfElseS 1 (Arm (NameE 1 (codes "a")) (MoreStat conditions_1 NoStat) (Arm (NameE 1 (codes "b")) (MoreStat conditions_2 NoStat) NoArm)) (MoreStat conditions_4 NoStat)

abbrev pub conditions_tree : Block
conditions_tree = MoreStat conditions_5 NoStat

abbrev pub StatementChunks : Type 0
StatementChunks = IsChunk loops_tokens loops_tree
    × IsChunk counts_tokens counts_tree
    × IsChunk iterations_tokens iterations_tree
    × IsChunk conditions_tokens conditions_tree

-- FUNCTIONS: functions, parameters and local names (manual 2.4.7, 2.5.9)

-- function a.b:c(x) return self end
abbrev pub method_bodies_tokens : List Token
method_bodies_tokens =
    on 1 (Word (codes "function")) 0 8 ∷ on 1 (Name (codes "a")) 9 10 ∷ on 1 (Mark (codes ".")) 10 11 ∷
    on 1 (Name (codes "b")) 11 12 ∷ on 1 (Mark (codes ":")) 12 13 ∷ on 1 (Name (codes "c")) 13 14 ∷ on 1 (Mark (codes "(")) 14 15 ∷
    on 1 (Name (codes "x")) 15 16 ∷ on 1 (Mark (codes ")")) 16 17 ∷ on 1 (Word (codes "return")) 18 24 ∷
    on 1 (Name (codes "self")) 25 29 ∷ on 1 (Word (codes "end")) 30 33 ∷ on 1 End 33 33 ∷ []

-- return self
abbrev pub method_bodies_1 : Stat
method_bodies_1 = ReturnS 1 (MoreExp (NameE 1 (codes "self")) NoExp)

-- function a . b : c ( x ) return self end
abbrev pub method_bodies_2 : Stat
method_bodies_2 = AssignS 1 (MoreExp (IndexE 1 (IndexE 1 (NameE 1 (codes "a")) (TextE 1 (codes "b"))) (TextE 1 (codes "c"))) NoExp) (MoreExp (FunctionE 1 (Lambda (codes "self" ∷ codes "x" ∷ []) false (MoreStat method_bodies_1 NoStat))) NoExp)

abbrev pub method_bodies_tree : Block
method_bodies_tree = MoreStat method_bodies_2 NoStat

-- function f() end function g.h(a, ...) return function(...) end, ... end
abbrev pub varargs_tokens : List Token
varargs_tokens =
    on 1 (Word (codes "function")) 0 8 ∷ on 1 (Name (codes "f")) 9 10 ∷ on 1 (Mark (codes "(")) 10 11 ∷
    on 1 (Mark (codes ")")) 11 12 ∷ on 1 (Word (codes "end")) 13 16 ∷ on 1 (Word (codes "function")) 17 25 ∷
    on 1 (Name (codes "g")) 26 27 ∷ on 1 (Mark (codes ".")) 27 28 ∷ on 1 (Name (codes "h")) 28 29 ∷ on 1 (Mark (codes "(")) 29 30 ∷
    on 1 (Name (codes "a")) 30 31 ∷ on 1 (Mark (codes ",")) 31 32 ∷ on 1 (Mark (codes "...")) 33 36 ∷ on 1 (Mark (codes ")")) 36 37 ∷
    on 1 (Word (codes "return")) 38 44 ∷ on 1 (Word (codes "function")) 45 53 ∷ on 1 (Mark (codes "(")) 53 54 ∷
    on 1 (Mark (codes "...")) 54 57 ∷ on 1 (Mark (codes ")")) 57 58 ∷ on 1 (Word (codes "end")) 59 62 ∷
    on 1 (Mark (codes ",")) 62 63 ∷ on 1 (Mark (codes "...")) 64 67 ∷ on 1 (Word (codes "end")) 68 71 ∷ on 1 End 71 71 ∷ []

-- function f ( ) end
abbrev pub varargs_1 : Stat
varargs_1 = AssignS 1 (MoreExp (NameE 1 (codes "f")) NoExp) (MoreExp (FunctionE 1 (Lambda [] false NoStat)) NoExp)

-- function ( ... ) end
abbrev pub varargs_2 : Exp
varargs_2 = FunctionE 1 (Lambda [] true NoStat)

-- return function ( ... ) end , ...
abbrev pub varargs_3 : Stat
varargs_3 = ReturnS 1 (MoreExp varargs_2 (MoreExp (DotsE 1) NoExp))

-- function g . h ( a , ... ) return function ( ... ) end , ... end
abbrev pub varargs_4 : Stat
varargs_4 = AssignS 1 (MoreExp (IndexE 1 (NameE 1 (codes "g")) (TextE 1 (codes "h"))) NoExp) (MoreExp (FunctionE 1 (Lambda (codes "a" ∷ []) true (MoreStat varargs_3 NoStat))) NoExp)

abbrev pub varargs_tree : Block
varargs_tree = MoreStat varargs_1 (MoreStat varargs_4 NoStat)

-- local function f(n) return f(n) end local g, h = f; local i
abbrev pub locals_tokens : List Token
locals_tokens =
    on 1 (Word (codes "local")) 0 5 ∷ on 1 (Word (codes "function")) 6 14 ∷ on 1 (Name (codes "f")) 15 16 ∷
    on 1 (Mark (codes "(")) 16 17 ∷ on 1 (Name (codes "n")) 17 18 ∷ on 1 (Mark (codes ")")) 18 19 ∷
    on 1 (Word (codes "return")) 20 26 ∷ on 1 (Name (codes "f")) 27 28 ∷ on 1 (Mark (codes "(")) 28 29 ∷
    on 1 (Name (codes "n")) 29 30 ∷ on 1 (Mark (codes ")")) 30 31 ∷ on 1 (Word (codes "end")) 32 35 ∷
    on 1 (Word (codes "local")) 36 41 ∷ on 1 (Name (codes "g")) 42 43 ∷ on 1 (Mark (codes ",")) 43 44 ∷
    on 1 (Name (codes "h")) 45 46 ∷ on 1 (Mark (codes "=")) 47 48 ∷ on 1 (Name (codes "f")) 49 50 ∷ on 1 (Mark (codes ";")) 50 51 ∷
    on 1 (Word (codes "local")) 52 57 ∷ on 1 (Name (codes "i")) 58 59 ∷ on 1 End 59 59 ∷ []

-- f ( n )
abbrev pub locals_1 : Exp
locals_1 = CallE 1 (NameE 1 (codes "f")) (MoreExp (NameE 1 (codes "n")) NoExp)

-- return f ( n )
abbrev pub locals_2 : Stat
locals_2 = ReturnS 1 (MoreExp locals_1 NoExp)

-- local function f ( n ) return f ( n ) end
abbrev pub locals_3 : Stat
locals_3 = LocalFunctionS 1 (codes "f") (Lambda (codes "n" ∷ []) false (MoreStat locals_2 NoStat))

-- local g , h = f
abbrev pub locals_4 : Stat
locals_4 = LocalS 1 (codes "g" ∷ codes "h" ∷ []) (MoreExp (NameE 1 (codes "f")) NoExp)

-- local i
abbrev pub locals_5 : Stat
locals_5 = LocalS 1 (codes "i" ∷ []) NoExp

abbrev pub locals_tree : Block
locals_tree = MoreStat locals_3 (MoreStat locals_4 (MoreStat locals_5 NoStat))

abbrev pub FunctionChunks : Type 0
FunctionChunks = IsChunk method_bodies_tokens method_bodies_tree
    × IsChunk varargs_tokens varargs_tree
    × IsChunk locals_tokens locals_tree

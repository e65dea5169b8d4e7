-- EXAMPLES of values, lists and operators.
use Rattle.std.specs.Prelude.{◌≡◌, pos, true, false, [], ◌∷◌, codes}
use Rattle.lua_syntax.specs.declared.BinaryOp.TheVariants as op
use Rattle.lua_syntax.specs.declared.UnaryOp.TheVariants as sign
use Rattle.lua_syntax.specs.Tree.{NilE, TrueE, FalseE, NumberE, TextE, DotsE, FunctionE, NameE, CallE, TableE, BinaryE, UnaryE, ParenE}
use Rattle.lua_syntax.specs.Tree.{NoExp, NoField, Item, Pair, Lambda, Block, NoStat}
use Rattle.lua_syntax.specs.Tree.{LocalFunctionS, LocalS, ReturnS}
use Rattle.lua_syntax.specs.View.{exps_of, fields_of, stats_of}
use Rattle.lua_meaning.specs.Trial.{Gives, without_steps, invoke_module}

-- Constants, and their texts.
--     return {f=function(...)
--     return nil, true, false, 12, 'a b', 0x1F
--     end}
abbrev pub constants : Block
constants = stats_of (ReturnS 1 (exps_of (TableE 1 (fields_of (Pair (TextE 1 (codes "f")) (FunctionE 1 (Lambda [] true (stats_of (
    ReturnS 2 (exps_of (NilE 2 ∷ TrueE 2 ∷ FalseE 2 ∷ NumberE 2 (pos 12) ∷ TextE 2 (codes "a b") ∷ NumberE 2 (pos 31) ∷ []))
    ∷ [])))) ∷ [])) ∷ [])) ∷ [])

abbrev pub Constants : Type 0
Constants = without_steps (invoke_module (codes "X") 69 constants 6000) ≡ Gives (codes "niltruefalse12a b31") 0

-- Lists are adjusted: a call gives all its values only as the last of a list.
--     return {f=function(...)
--     local function g() return 1,2,3 end
--     local a,b,c,d,e = g(),g()
--     return a,b,c,d,e
--     end}
abbrev pub adjusted : Block
adjusted = stats_of (ReturnS 1 (exps_of (TableE 1 (fields_of (Pair (TextE 1 (codes "f")) (FunctionE 1 (Lambda [] true (stats_of (
    LocalFunctionS 2 (codes "g") (Lambda [] false (stats_of (ReturnS 2 (exps_of (NumberE 2 (pos 1) ∷ NumberE 2 (pos 2) ∷ NumberE 2 (pos 3) ∷ [])) ∷ [])))
    ∷ LocalS 3 (codes "a" ∷ codes "b" ∷ codes "c" ∷ codes "d" ∷ codes "e" ∷ []) (exps_of (CallE 3 (NameE 3 (codes "g")) NoExp ∷ CallE 3 (NameE 3 (codes "g")) NoExp ∷ []))
    ∷ ReturnS 4 (exps_of (NameE 4 (codes "a") ∷ NameE 4 (codes "b") ∷ NameE 4 (codes "c") ∷ NameE 4 (codes "d") ∷ NameE 4 (codes "e") ∷ []))
    ∷ [])))) ∷ [])) ∷ [])) ∷ [])

abbrev pub Adjusted : Type 0
Adjusted = without_steps (invoke_module (codes "X") 107 adjusted 6000) ≡ Gives (codes "1123nil") 0

-- In parentheses there is one value.
--     return {f=function(...)
--     local function g() return 1,2 end
--     return (g()),g()
--     end}
abbrev pub parentheses : Block
parentheses = stats_of (ReturnS 1 (exps_of (TableE 1 (fields_of (Pair (TextE 1 (codes "f")) (FunctionE 1 (Lambda [] true (stats_of (
    LocalFunctionS 2 (codes "g") (Lambda [] false (stats_of (ReturnS 2 (exps_of (NumberE 2 (pos 1) ∷ NumberE 2 (pos 2) ∷ [])) ∷ [])))
    ∷ ReturnS 3 (exps_of (ParenE 3 (CallE 3 (NameE 3 (codes "g")) NoExp) ∷ CallE 3 (NameE 3 (codes "g")) NoExp ∷ []))
    ∷ [])))) ∷ [])) ∷ [])) ∷ [])

abbrev pub Parentheses : Type 0
Parentheses = without_steps (invoke_module (codes "X") 79 parentheses 6000) ≡ Gives (codes "112") 0

-- Of the arguments too, the last gives all.
--     return {f=function(...)
--     local function g(...) return select('#',...),... end
--     local function two() return 7,8 end
--     return g(two(),two())
--     end}
abbrev pub many_arguments : Block
many_arguments = stats_of (ReturnS 1 (exps_of (TableE 1 (fields_of (Pair (TextE 1 (codes "f")) (FunctionE 1 (Lambda [] true (stats_of (
    LocalFunctionS 2 (codes "g") (Lambda [] true (stats_of (
    ReturnS 2 (exps_of (CallE 2 (NameE 2 (codes "select")) (exps_of (TextE 2 (codes "#") ∷ DotsE 2 ∷ [])) ∷ DotsE 2 ∷ []))
    ∷ [])))
    ∷ LocalFunctionS 3 (codes "two") (Lambda [] false (stats_of (ReturnS 3 (exps_of (NumberE 3 (pos 7) ∷ NumberE 3 (pos 8) ∷ [])) ∷ [])))
    ∷ ReturnS 4 (exps_of (
    CallE 4 (NameE 4 (codes "g")) (exps_of (CallE 4 (NameE 4 (codes "two")) NoExp ∷ CallE 4 (NameE 4 (codes "two")) NoExp ∷ []))
    ∷ []))
    ∷ [])))) ∷ [])) ∷ [])) ∷ [])

abbrev pub ManyArguments : Type 0
ManyArguments = without_steps (invoke_module (codes "X") 139 many_arguments 6000) ≡ Gives (codes "3778") 0

-- `...` gives all its values as the last of a list.
--     return {f=function(...)
--     local function g(a,...) return a,(...),... end
--     return g(1,2,3)
--     end}
abbrev pub varargs : Block
varargs = stats_of (ReturnS 1 (exps_of (TableE 1 (fields_of (Pair (TextE 1 (codes "f")) (FunctionE 1 (Lambda [] true (stats_of (
    LocalFunctionS 2 (codes "g") (Lambda (codes "a" ∷ []) true (stats_of (ReturnS 2 (exps_of (NameE 2 (codes "a") ∷ ParenE 2 (DotsE 2) ∷ DotsE 2 ∷ [])) ∷ [])))
    ∷ ReturnS 3 (exps_of (CallE 3 (NameE 3 (codes "g")) (exps_of (NumberE 3 (pos 1) ∷ NumberE 3 (pos 2) ∷ NumberE 3 (pos 3) ∷ [])) ∷ []))
    ∷ [])))) ∷ [])) ∷ [])) ∷ [])

abbrev pub Varargs : Type 0
Varargs = without_steps (invoke_module (codes "X") 91 varargs 6000) ≡ Gives (codes "1223") 0

-- A function without `return` gives none.
--     return {f=function(...)
--     local function g() end
--     return select('#',g()),g()
--     end}
abbrev pub no_values : Block
no_values = stats_of (ReturnS 1 (exps_of (TableE 1 (fields_of (Pair (TextE 1 (codes "f")) (FunctionE 1 (Lambda [] true (stats_of (
    LocalFunctionS 2 (codes "g") (Lambda [] false NoStat)
    ∷ ReturnS 3 (exps_of (
    CallE 3 (NameE 3 (codes "select")) (exps_of (TextE 3 (codes "#") ∷ CallE 3 (NameE 3 (codes "g")) NoExp ∷ []))
    ∷ CallE 3 (NameE 3 (codes "g")) NoExp
    ∷ []))
    ∷ [])))) ∷ [])) ∷ [])) ∷ [])

abbrev pub NoValues : Type 0
NoValues = without_steps (invoke_module (codes "X") 78 no_values 6000) ≡ Gives (codes "0") 0

-- `and` and `or` give an operand.
--     return {f=function(...)
--     return tostring(nil and 1), tostring(false or nil), 1 and 2, nil or 3, false and error('x') or 'y'
--     end}
abbrev pub and_or : Block
and_or = stats_of (ReturnS 1 (exps_of (TableE 1 (fields_of (Pair (TextE 1 (codes "f")) (FunctionE 1 (Lambda [] true (stats_of (ReturnS 2 (exps_of (
    CallE 2 (NameE 2 (codes "tostring")) (exps_of (BinaryE 2 op.And (NilE 2) (NumberE 2 (pos 1)) ∷ []))
    ∷ CallE 2 (NameE 2 (codes "tostring")) (exps_of (BinaryE 2 op.Or (FalseE 2) (NilE 2) ∷ []))
    ∷ BinaryE 2 op.And (NumberE 2 (pos 1)) (NumberE 2 (pos 2))
    ∷ BinaryE 2 op.Or (NilE 2) (NumberE 2 (pos 3))
    ∷ BinaryE 2 op.Or (BinaryE 2 op.And (FalseE 2) (CallE 2 (NameE 2 (codes "error")) (exps_of (TextE 2 (codes "x") ∷ [])))) (TextE 2 (codes "y"))
    ∷ [])) ∷ [])))) ∷ [])) ∷ [])) ∷ [])

abbrev pub AndOr : Type 0
AndOr = without_steps (invoke_module (codes "X") 127 and_or 6000) ≡ Gives (codes "nilnil23y") 0

-- Operators bind as the manual says.
--     return {f=function(...)
--     return 2^3^2, -2^2, 1+2*3-4, 2*3%4, not 1==2, 1 ..2 ..3, -3%5, 'a'..1+2
--     end}
abbrev pub precedence : Block
precedence = stats_of (ReturnS 1 (exps_of (TableE 1 (fields_of (Pair (TextE 1 (codes "f")) (FunctionE 1 (Lambda [] true (stats_of (ReturnS 2 (exps_of (
    BinaryE 2 op.Pow (NumberE 2 (pos 2)) (BinaryE 2 op.Pow (NumberE 2 (pos 3)) (NumberE 2 (pos 2)))
    ∷ UnaryE 2 sign.Minus (BinaryE 2 op.Pow (NumberE 2 (pos 2)) (NumberE 2 (pos 2)))
    ∷ BinaryE 2 op.Sub (BinaryE 2 op.Add (NumberE 2 (pos 1)) (BinaryE 2 op.Mul (NumberE 2 (pos 2)) (NumberE 2 (pos 3)))) (NumberE 2 (pos 4))
    ∷ BinaryE 2 op.Mod (BinaryE 2 op.Mul (NumberE 2 (pos 2)) (NumberE 2 (pos 3))) (NumberE 2 (pos 4))
    ∷ BinaryE 2 op.Eq (UnaryE 2 sign.Not (NumberE 2 (pos 1))) (NumberE 2 (pos 2))
    ∷ BinaryE 2 op.Concat (NumberE 2 (pos 1)) (BinaryE 2 op.Concat (NumberE 2 (pos 2)) (NumberE 2 (pos 3)))
    ∷ BinaryE 2 op.Mod (UnaryE 2 sign.Minus (NumberE 2 (pos 3))) (NumberE 2 (pos 5))
    ∷ BinaryE 2 op.Concat (TextE 2 (codes "a")) (BinaryE 2 op.Add (NumberE 2 (pos 1)) (NumberE 2 (pos 2)))
    ∷ [])) ∷ [])))) ∷ [])) ∷ [])) ∷ [])

abbrev pub Precedence : Type 0
Precedence = without_steps (invoke_module (codes "X") 100 precedence 6000) ≡ Gives (codes "512-432false1232a3") 0

-- `%` has the sign of its second operand.
--     return {f=function(...)
--     return 7%3, -7%3, 7%-3, -7%-3, 6/3, -6/3
--     end}
abbrev pub remainders : Block
remainders = stats_of (ReturnS 1 (exps_of (TableE 1 (fields_of (Pair (TextE 1 (codes "f")) (FunctionE 1 (Lambda [] true (stats_of (ReturnS 2 (exps_of (
    BinaryE 2 op.Mod (NumberE 2 (pos 7)) (NumberE 2 (pos 3))
    ∷ BinaryE 2 op.Mod (UnaryE 2 sign.Minus (NumberE 2 (pos 7))) (NumberE 2 (pos 3))
    ∷ BinaryE 2 op.Mod (NumberE 2 (pos 7)) (UnaryE 2 sign.Minus (NumberE 2 (pos 3)))
    ∷ BinaryE 2 op.Mod (UnaryE 2 sign.Minus (NumberE 2 (pos 7))) (UnaryE 2 sign.Minus (NumberE 2 (pos 3)))
    ∷ BinaryE 2 op.Div (NumberE 2 (pos 6)) (NumberE 2 (pos 3))
    ∷ BinaryE 2 op.Div (UnaryE 2 sign.Minus (NumberE 2 (pos 6))) (NumberE 2 (pos 3))
    ∷ [])) ∷ [])))) ∷ [])) ∷ [])) ∷ [])

abbrev pub Remainders : Type 0
Remainders = without_steps (invoke_module (codes "X") 69 remainders 6000) ≡ Gives (codes "12-2-12-2") 0

-- A text that reads as a number is one in arithmetic.
--     return {f=function(...)
--     return '10'+5, ' 0x10 '*2, -'3', '2'^'3', 10 .. 20
--     end}
abbrev pub texts_in_arithmetic : Block
texts_in_arithmetic = stats_of (ReturnS 1 (exps_of (TableE 1 (fields_of (Pair (TextE 1 (codes "f")) (FunctionE 1 (Lambda [] true (stats_of (ReturnS 2 (exps_of (
    BinaryE 2 op.Add (TextE 2 (codes "10")) (NumberE 2 (pos 5))
    ∷ BinaryE 2 op.Mul (TextE 2 (codes " 0x10 ")) (NumberE 2 (pos 2))
    ∷ UnaryE 2 sign.Minus (TextE 2 (codes "3"))
    ∷ BinaryE 2 op.Pow (TextE 2 (codes "2")) (TextE 2 (codes "3"))
    ∷ BinaryE 2 op.Concat (NumberE 2 (pos 10)) (NumberE 2 (pos 20))
    ∷ [])) ∷ [])))) ∷ [])) ∷ [])) ∷ [])

abbrev pub TextsInArithmetic : Type 0
TextsInArithmetic = without_steps (invoke_module (codes "X") 79 texts_in_arithmetic 6000) ≡ Gives (codes "1532-381020") 0

-- Numbers are in order, and texts byte by byte.
--     return {f=function(...)
--     return tostring(1<2), tostring('a'<'b'), tostring('Z'<'a'), tostring(''<'a'), tostring('ab'<'a'), tostring('a'<='a'), tostring(2>=3), tostring('b'>'a'), tostring(3<=3)
--     end}
abbrev pub order : Block
order = stats_of (ReturnS 1 (exps_of (TableE 1 (fields_of (Pair (TextE 1 (codes "f")) (FunctionE 1 (Lambda [] true (stats_of (ReturnS 2 (exps_of (
    CallE 2 (NameE 2 (codes "tostring")) (exps_of (BinaryE 2 op.Lt (NumberE 2 (pos 1)) (NumberE 2 (pos 2)) ∷ []))
    ∷ CallE 2 (NameE 2 (codes "tostring")) (exps_of (BinaryE 2 op.Lt (TextE 2 (codes "a")) (TextE 2 (codes "b")) ∷ []))
    ∷ CallE 2 (NameE 2 (codes "tostring")) (exps_of (BinaryE 2 op.Lt (TextE 2 (codes "Z")) (TextE 2 (codes "a")) ∷ []))
    ∷ CallE 2 (NameE 2 (codes "tostring")) (exps_of (BinaryE 2 op.Lt (TextE 2 []) (TextE 2 (codes "a")) ∷ []))
    ∷ CallE 2 (NameE 2 (codes "tostring")) (exps_of (BinaryE 2 op.Lt (TextE 2 (codes "ab")) (TextE 2 (codes "a")) ∷ []))
    ∷ CallE 2 (NameE 2 (codes "tostring")) (exps_of (BinaryE 2 op.Le (TextE 2 (codes "a")) (TextE 2 (codes "a")) ∷ []))
    ∷ CallE 2 (NameE 2 (codes "tostring")) (exps_of (BinaryE 2 op.Ge (NumberE 2 (pos 2)) (NumberE 2 (pos 3)) ∷ []))
    ∷ CallE 2 (NameE 2 (codes "tostring")) (exps_of (BinaryE 2 op.Gt (TextE 2 (codes "b")) (TextE 2 (codes "a")) ∷ []))
    ∷ CallE 2 (NameE 2 (codes "tostring")) (exps_of (BinaryE 2 op.Le (NumberE 2 (pos 3)) (NumberE 2 (pos 3)) ∷ []))
    ∷ [])) ∷ [])))) ∷ [])) ∷ [])) ∷ [])

abbrev pub Order : Type 0
Order = without_steps (invoke_module (codes "X") 196 order 6000) ≡ Gives (codes "truetruetruetruefalsetruefalsetruetrue") 0

-- Equality converts nothing.
--     return {f=function(...)
--     local t={}
--     return tostring(1=='1'), tostring('a'=='a'), tostring(t=={}), tostring(t==t), tostring(nil~=false), tostring(0==-0)
--     end}
abbrev pub equality : Block
equality = stats_of (ReturnS 1 (exps_of (TableE 1 (fields_of (Pair (TextE 1 (codes "f")) (FunctionE 1 (Lambda [] true (stats_of (
    LocalS 2 (codes "t" ∷ []) (exps_of (TableE 2 NoField ∷ []))
    ∷ ReturnS 3 (exps_of (
    CallE 3 (NameE 3 (codes "tostring")) (exps_of (BinaryE 3 op.Eq (NumberE 3 (pos 1)) (TextE 3 (codes "1")) ∷ []))
    ∷ CallE 3 (NameE 3 (codes "tostring")) (exps_of (BinaryE 3 op.Eq (TextE 3 (codes "a")) (TextE 3 (codes "a")) ∷ []))
    ∷ CallE 3 (NameE 3 (codes "tostring")) (exps_of (BinaryE 3 op.Eq (NameE 3 (codes "t")) (TableE 3 NoField) ∷ []))
    ∷ CallE 3 (NameE 3 (codes "tostring")) (exps_of (BinaryE 3 op.Eq (NameE 3 (codes "t")) (NameE 3 (codes "t")) ∷ []))
    ∷ CallE 3 (NameE 3 (codes "tostring")) (exps_of (BinaryE 3 op.Ne (NilE 3) (FalseE 3) ∷ []))
    ∷ CallE 3 (NameE 3 (codes "tostring")) (exps_of (BinaryE 3 op.Eq (NumberE 3 (pos 0)) (UnaryE 3 sign.Minus (NumberE 3 (pos 0))) ∷ []))
    ∷ []))
    ∷ [])))) ∷ [])) ∷ [])) ∷ [])

abbrev pub Equality : Type 0
Equality = without_steps (invoke_module (codes "X") 155 equality 6000) ≡ Gives (codes "falsetruefalsetruetruetrue") 0

-- The length of a text is in bytes, that of a table its border.
--     return {f=function(...)
--     return #'', #'abc', #{}, #{5,6,7}, #{n=1}
--     end}
abbrev pub lengths : Block
lengths = stats_of (ReturnS 1 (exps_of (TableE 1 (fields_of (Pair (TextE 1 (codes "f")) (FunctionE 1 (Lambda [] true (stats_of (ReturnS 2 (exps_of (
    UnaryE 2 sign.Len (TextE 2 [])
    ∷ UnaryE 2 sign.Len (TextE 2 (codes "abc"))
    ∷ UnaryE 2 sign.Len (TableE 2 NoField)
    ∷ UnaryE 2 sign.Len (TableE 2 (fields_of (Item (NumberE 2 (pos 5)) ∷ Item (NumberE 2 (pos 6)) ∷ Item (NumberE 2 (pos 7)) ∷ [])))
    ∷ UnaryE 2 sign.Len (TableE 2 (fields_of (Pair (TextE 2 (codes "n")) (NumberE 2 (pos 1)) ∷ [])))
    ∷ [])) ∷ [])))) ∷ [])) ∷ [])) ∷ [])

abbrev pub Lengths : Type 0
Lengths = without_steps (invoke_module (codes "X") 70 lengths 6000) ≡ Gives (codes "03030") 0

-- The border is the least one.
--     return {f=function(...)
--     return #{1,2,nil,4}
--     end}
abbrev pub least_border : Block
least_border = stats_of (ReturnS 1 (exps_of (TableE 1 (fields_of (Pair (TextE 1 (codes "f")) (FunctionE 1 (Lambda [] true (stats_of (ReturnS 2 (exps_of (
    UnaryE 2 sign.Len (TableE 2 (fields_of (Item (NumberE 2 (pos 1)) ∷ Item (NumberE 2 (pos 2)) ∷ Item (NilE 2) ∷ Item (NumberE 2 (pos 4)) ∷ [])))
    ∷ [])) ∷ [])))) ∷ [])) ∷ [])) ∷ [])

abbrev pub LeastBorder : Type 0
LeastBorder = without_steps (invoke_module (codes "X") 48 least_border 6000) ≡ Gives (codes "2") 0

-- Kinds of values.
--     return {f=function(...)
--     return type(nil),type(1),type('1'),type({}),type(type),type(function() end),type(true)
--     end}
abbrev pub types : Block
types = stats_of (ReturnS 1 (exps_of (TableE 1 (fields_of (Pair (TextE 1 (codes "f")) (FunctionE 1 (Lambda [] true (stats_of (ReturnS 2 (exps_of (
    CallE 2 (NameE 2 (codes "type")) (exps_of (NilE 2 ∷ []))
    ∷ CallE 2 (NameE 2 (codes "type")) (exps_of (NumberE 2 (pos 1) ∷ []))
    ∷ CallE 2 (NameE 2 (codes "type")) (exps_of (TextE 2 (codes "1") ∷ []))
    ∷ CallE 2 (NameE 2 (codes "type")) (exps_of (TableE 2 NoField ∷ []))
    ∷ CallE 2 (NameE 2 (codes "type")) (exps_of (NameE 2 (codes "type") ∷ []))
    ∷ CallE 2 (NameE 2 (codes "type")) (exps_of (FunctionE 2 (Lambda [] false NoStat) ∷ []))
    ∷ CallE 2 (NameE 2 (codes "type")) (exps_of (TrueE 2 ∷ []))
    ∷ [])) ∷ [])))) ∷ [])) ∷ [])) ∷ [])

abbrev pub Types : Type 0
Types = without_steps (invoke_module (codes "X") 115 types 6000) ≡ Gives (codes "nilnumberstringtablefunctionfunctionboolean") 0

-- `tonumber`.
--     return {f=function(...)
--     return tostring(tonumber('x')), tonumber(' 12 '), tonumber('-7'), tonumber('ff',16), tonumber('11',2), tonumber('z',36), tostring(tonumber('8',8)), tonumber(9)
--     end}
abbrev pub to_numbers : Block
to_numbers = stats_of (ReturnS 1 (exps_of (TableE 1 (fields_of (Pair (TextE 1 (codes "f")) (FunctionE 1 (Lambda [] true (stats_of (ReturnS 2 (exps_of (
    CallE 2 (NameE 2 (codes "tostring")) (exps_of (CallE 2 (NameE 2 (codes "tonumber")) (exps_of (TextE 2 (codes "x") ∷ [])) ∷ []))
    ∷ CallE 2 (NameE 2 (codes "tonumber")) (exps_of (TextE 2 (codes " 12 ") ∷ []))
    ∷ CallE 2 (NameE 2 (codes "tonumber")) (exps_of (TextE 2 (codes "-7") ∷ []))
    ∷ CallE 2 (NameE 2 (codes "tonumber")) (exps_of (TextE 2 (codes "ff") ∷ NumberE 2 (pos 16) ∷ []))
    ∷ CallE 2 (NameE 2 (codes "tonumber")) (exps_of (TextE 2 (codes "11") ∷ NumberE 2 (pos 2) ∷ []))
    ∷ CallE 2 (NameE 2 (codes "tonumber")) (exps_of (TextE 2 (codes "z") ∷ NumberE 2 (pos 36) ∷ []))
    ∷ CallE 2 (NameE 2 (codes "tostring")) (exps_of (CallE 2 (NameE 2 (codes "tonumber")) (exps_of (TextE 2 (codes "8") ∷ NumberE 2 (pos 8) ∷ [])) ∷ []))
    ∷ CallE 2 (NameE 2 (codes "tonumber")) (exps_of (NumberE 2 (pos 9) ∷ []))
    ∷ [])) ∷ [])))) ∷ [])) ∷ [])) ∷ [])

abbrev pub ToNumbers : Type 0
ToNumbers = without_steps (invoke_module (codes "X") 188 to_numbers 6000) ≡ Gives (codes "nil12-7255335nil9") 0

-- `select` counts from the front, or from the end.
--     return {f=function(...)
--     return select(2,'a','b','c'), select(-1,'x','y'), select('#',nil,nil)
--     end}
abbrev pub selecting : Block
selecting = stats_of (ReturnS 1 (exps_of (TableE 1 (fields_of (Pair (TextE 1 (codes "f")) (FunctionE 1 (Lambda [] true (stats_of (ReturnS 2 (exps_of (
    CallE 2 (NameE 2 (codes "select")) (exps_of (NumberE 2 (pos 2) ∷ TextE 2 (codes "a") ∷ TextE 2 (codes "b") ∷ TextE 2 (codes "c") ∷ []))
    ∷ CallE 2 (NameE 2 (codes "select")) (exps_of (UnaryE 2 sign.Minus (NumberE 2 (pos 1)) ∷ TextE 2 (codes "x") ∷ TextE 2 (codes "y") ∷ []))
    ∷ CallE 2 (NameE 2 (codes "select")) (exps_of (TextE 2 (codes "#") ∷ NilE 2 ∷ NilE 2 ∷ []))
    ∷ [])) ∷ [])))) ∷ [])) ∷ [])) ∷ [])

abbrev pub Selecting : Type 0
Selecting = without_steps (invoke_module (codes "X") 98 selecting 6000) ≡ Gives (codes "by2") 0

-- `unpack` reads the entries of a list.
--     return {f=function(...)
--     return select('#',unpack({1,2,nil},1,3)), unpack({4,5,6},2)
--     end}
abbrev pub unpacking : Block
unpacking = stats_of (ReturnS 1 (exps_of (TableE 1 (fields_of (Pair (TextE 1 (codes "f")) (FunctionE 1 (Lambda [] true (stats_of (ReturnS 2 (exps_of (
    CallE 2 (NameE 2 (codes "select")) (exps_of (
    TextE 2 (codes "#")
    ∷ CallE 2 (NameE 2 (codes "unpack")) (exps_of (
    TableE 2 (fields_of (Item (NumberE 2 (pos 1)) ∷ Item (NumberE 2 (pos 2)) ∷ Item (NilE 2) ∷ []))
    ∷ NumberE 2 (pos 1)
    ∷ NumberE 2 (pos 3)
    ∷ []))
    ∷ []))
    ∷ CallE 2 (NameE 2 (codes "unpack")) (exps_of (
    TableE 2 (fields_of (Item (NumberE 2 (pos 4)) ∷ Item (NumberE 2 (pos 5)) ∷ Item (NumberE 2 (pos 6)) ∷ []))
    ∷ NumberE 2 (pos 2)
    ∷ []))
    ∷ [])) ∷ [])))) ∷ [])) ∷ [])) ∷ [])

abbrev pub Unpacking : Type 0
Unpacking = without_steps (invoke_module (codes "X") 88 unpacking 6000) ≡ Gives (codes "356") 0

-- `assert` gives its arguments, or raises its message.
--     return {f=function(...)
--     local ok,e = pcall(assert,false,'no')
--     local ok2,e2 = pcall(assert,nil)
--     return assert(1,2), e, e2
--     end}
abbrev pub assertions : Block
assertions = stats_of (ReturnS 1 (exps_of (TableE 1 (fields_of (Pair (TextE 1 (codes "f")) (FunctionE 1 (Lambda [] true (stats_of (
    LocalS 2 (codes "ok" ∷ codes "e" ∷ []) (exps_of (CallE 2 (NameE 2 (codes "pcall")) (exps_of (NameE 2 (codes "assert") ∷ FalseE 2 ∷ TextE 2 (codes "no") ∷ [])) ∷ []))
    ∷ LocalS 3 (codes "ok2" ∷ codes "e2" ∷ []) (exps_of (CallE 3 (NameE 3 (codes "pcall")) (exps_of (NameE 3 (codes "assert") ∷ NilE 3 ∷ [])) ∷ []))
    ∷ ReturnS 4 (exps_of (
    CallE 4 (NameE 4 (codes "assert")) (exps_of (NumberE 4 (pos 1) ∷ NumberE 4 (pos 2) ∷ []))
    ∷ NameE 4 (codes "e")
    ∷ NameE 4 (codes "e2")
    ∷ []))
    ∷ [])))) ∷ [])) ∷ [])) ∷ [])

abbrev pub Assertions : Type 0
Assertions = without_steps (invoke_module (codes "X") 125 assertions 6000) ≡ Gives (codes "1noassertion failed!") 0

-- ALL OF THEM
abbrev pub AllValues : Type 0
AllValues =
    Constants
    × Adjusted
    × Parentheses
    × ManyArguments
    × Varargs
    × NoValues
    × AndOr
    × Precedence
    × Remainders
    × TextsInArithmetic
    × Order
    × Equality
    × Lengths
    × LeastBorder
    × Types
    × ToNumbers
    × Selecting
    × Unpacking
    × Assertions

-- EXAMPLES of `gsub` in modules.
use Rattle.std.specs.Prelude.{◌≡◌, pos, true, false, [], ◌∷◌, codes}
use Rattle.lua_syntax.specs.declared.BinaryOp.TheVariants as op
use Rattle.lua_syntax.specs.declared.UnaryOp.TheVariants as sign
use Rattle.lua_syntax.specs.Tree.{TrueE, FalseE, NumberE, TextE, FunctionE, NameE, IndexE, CallE, MethodE, TableE, BinaryE, UnaryE, ParenE}
use Rattle.lua_syntax.specs.Tree.{NoField, Item, Pair, Lambda, Block, Arm}
use Rattle.lua_syntax.specs.Tree.{CallS, IfS, LocalFunctionS, LocalS, ReturnS}
use Rattle.lua_syntax.specs.View.{exps_of, fields_of, arms_of, stats_of}
use Rattle.page_run.specs.declared.which.Which.TheVariants.{Steps}
use Rattle.lua_meaning.specs.Trial.{Gives, Fails, Spends, without_steps, invoke_module}

-- The pattern has a byte; two tries, and three bytes for the piece with the match; one try more, and one byte of the rest.
--     return {f=function(...)
--     return ('abc'):gsub('b','%0x')
--     end}
abbrev pub gsub_by_text_costs : Block
gsub_by_text_costs = stats_of (ReturnS 1 (exps_of (TableE 1 (fields_of (Pair (TextE 1 (codes "f")) (FunctionE 1 (Lambda [] true (stats_of (ReturnS 2 (exps_of (
    MethodE 2 (ParenE 2 (TextE 2 (codes "abc"))) (codes "gsub") (exps_of (TextE 2 (codes "b") ∷ TextE 2 (codes "%0x") ∷ []))
    ∷ [])) ∷ [])))) ∷ [])) ∷ [])) ∷ [])

abbrev pub GsubByTextCosts : Type 0
GsubByTextCosts = (invoke_module (codes "X") 59 gsub_by_text_costs 1105 ≡ Gives (codes "abxc1") 0) × (invoke_module (codes "X") 59 gsub_by_text_costs 1104 ≡ Spends Steps 0)

-- A try for each letter, and a call that joins two bytes; in the end the four bytes.
--     return {f=function(...)
--     return ('ab'):gsub('%w',function(c) return c..c end)
--     end}
abbrev pub gsub_by_function_costs : Block
gsub_by_function_costs = stats_of (ReturnS 1 (exps_of (TableE 1 (fields_of (Pair (TextE 1 (codes "f")) (FunctionE 1 (Lambda [] true (stats_of (ReturnS 2 (exps_of (MethodE 2 (ParenE 2 (TextE 2 (codes "ab"))) (codes "gsub") (exps_of (
    TextE 2 (codes "%w")
    ∷ FunctionE 2 (Lambda (codes "c" ∷ []) false (stats_of (ReturnS 2 (exps_of (BinaryE 2 op.Concat (NameE 2 (codes "c")) (NameE 2 (codes "c")) ∷ [])) ∷ [])))
    ∷ [])) ∷ [])) ∷ [])))) ∷ [])) ∷ [])) ∷ [])

abbrev pub GsubByFunctionCosts : Type 0
GsubByFunctionCosts = (invoke_module (codes "X") 81 gsub_by_function_costs 1149 ≡ Gives (codes "aabb2") 0) × (invoke_module (codes "X") 81 gsub_by_function_costs 1148 ≡ Spends Steps 0)

-- An entry that is there costs nothing: one try, then two, as the space is none.
--     return {f=function(...)
--     return ('a b'):gsub('%w',{a='x',b=false})
--     end}
abbrev pub gsub_by_table_costs : Block
gsub_by_table_costs = stats_of (ReturnS 1 (exps_of (TableE 1 (fields_of (Pair (TextE 1 (codes "f")) (FunctionE 1 (Lambda [] true (stats_of (ReturnS 2 (exps_of (MethodE 2 (ParenE 2 (TextE 2 (codes "a b"))) (codes "gsub") (exps_of (
    TextE 2 (codes "%w")
    ∷ TableE 2 (fields_of (Pair (TextE 2 (codes "a")) (TextE 2 (codes "x")) ∷ Pair (TextE 2 (codes "b")) (FalseE 2) ∷ []))
    ∷ [])) ∷ [])) ∷ [])))) ∷ [])) ∷ [])) ∷ [])

abbrev pub GsubByTableCosts : Type 0
GsubByTableCosts = (invoke_module (codes "X") 70 gsub_by_table_costs 1135 ≡ Gives (codes "x b2") 0) × (invoke_module (codes "X") 70 gsub_by_table_costs 1134 ≡ Spends Steps 0)

-- One that is absent is asked for by a link and a call.
--     return {f=function(...)
--     return ('ab'):gsub('%w',setmetatable({a='A'},{__index=function(t,k) return k..k end}))
--     end}
abbrev pub gsub_by_handler_costs : Block
gsub_by_handler_costs = stats_of (ReturnS 1 (exps_of (TableE 1 (fields_of (Pair (TextE 1 (codes "f")) (FunctionE 1 (Lambda [] true (stats_of (ReturnS 2 (exps_of (MethodE 2 (ParenE 2 (TextE 2 (codes "ab"))) (codes "gsub") (exps_of (
    TextE 2 (codes "%w")
    ∷ CallE 2 (NameE 2 (codes "setmetatable")) (exps_of (
    TableE 2 (fields_of (Pair (TextE 2 (codes "a")) (TextE 2 (codes "A")) ∷ []))
    ∷ TableE 2 (fields_of (
    Pair (TextE 2 (codes "__index")) (FunctionE 2 (Lambda (codes "t" ∷ codes "k" ∷ []) false (stats_of (ReturnS 2 (exps_of (BinaryE 2 op.Concat (NameE 2 (codes "k")) (NameE 2 (codes "k")) ∷ [])) ∷ []))))
    ∷ []))
    ∷ []))
    ∷ [])) ∷ [])) ∷ [])))) ∷ [])) ∷ [])) ∷ [])

abbrev pub GsubByHandlerCosts : Type 0
GsubByHandlerCosts = (invoke_module (codes "X") 115 gsub_by_handler_costs 1207 ≡ Gives (codes "Abb2") 0) × (invoke_module (codes "X") 115 gsub_by_handler_costs 1206 ≡ Spends Steps 0)

-- A search for the empty text costs no try.
--     return {f=function(...)
--     return ('ab'):gsub('',{['']='-'})
--     end}
abbrev pub gsub_of_nothing_costs : Block
gsub_of_nothing_costs = stats_of (ReturnS 1 (exps_of (TableE 1 (fields_of (Pair (TextE 1 (codes "f")) (FunctionE 1 (Lambda [] true (stats_of (ReturnS 2 (exps_of (
    MethodE 2 (ParenE 2 (TextE 2 (codes "ab"))) (codes "gsub") (exps_of (TextE 2 [] ∷ TableE 2 (fields_of (Pair (TextE 2 []) (TextE 2 (codes "-")) ∷ [])) ∷ []))
    ∷ [])) ∷ [])))) ∷ [])) ∷ [])) ∷ [])

abbrev pub GsubOfNothingCosts : Type 0
GsubOfNothingCosts = (invoke_module (codes "X") 62 gsub_of_nothing_costs 1120 ≡ Gives (codes "-a-b-3") 0) × (invoke_module (codes "X") 62 gsub_of_nothing_costs 1119 ≡ Spends Steps 0)

-- A replacement is paid before the next match is looked for: its three bytes, then a try, then the 49 bytes of the error. 1128 steps are
-- one too few for its three bytes.
--     return {f=function(...)
--     return ('ab'):gsub('%w',{a='xyz',b=true})
--     end}
abbrev pub gsub_by_pieces : Block
gsub_by_pieces = stats_of (ReturnS 1 (exps_of (TableE 1 (fields_of (Pair (TextE 1 (codes "f")) (FunctionE 1 (Lambda [] true (stats_of (ReturnS 2 (exps_of (MethodE 2 (ParenE 2 (TextE 2 (codes "ab"))) (codes "gsub") (exps_of (
    TextE 2 (codes "%w")
    ∷ TableE 2 (fields_of (Pair (TextE 2 (codes "a")) (TextE 2 (codes "xyz")) ∷ Pair (TextE 2 (codes "b")) (TrueE 2) ∷ []))
    ∷ [])) ∷ [])) ∷ [])))) ∷ [])) ∷ [])) ∷ [])

abbrev pub GsubIsPaidByPieces : Type 0
GsubIsPaidByPieces = (invoke_module (codes "X") 70 gsub_by_pieces 1179 ≡ Fails (codes "Lua error: Module:X:2: invalid replacement value (a boolean)") 0) × (invoke_module (codes "X") 70 gsub_by_pieces 1128 ≡ Spends Steps 0)

-- `%0` is the whole match, `%1` and `%2` are captures, `%%` is `%`.
--     return {f=function(...)
--     return ('x=1, y=2'):gsub('(%w)=(%w)','%2=%1(%0)%%')
--     end}
abbrev pub texts_with_captures : Block
texts_with_captures = stats_of (ReturnS 1 (exps_of (TableE 1 (fields_of (Pair (TextE 1 (codes "f")) (FunctionE 1 (Lambda [] true (stats_of (ReturnS 2 (exps_of (
    MethodE 2 (ParenE 2 (TextE 2 (codes "x=1, y=2"))) (codes "gsub") (exps_of (TextE 2 (codes "(%w)=(%w)") ∷ TextE 2 (codes "%2=%1(%0)%%") ∷ []))
    ∷ [])) ∷ [])))) ∷ [])) ∷ [])) ∷ [])

abbrev pub TextsWithCaptures : Type 0
TextsWithCaptures = without_steps (invoke_module (codes "X") 80 texts_with_captures 6000) ≡ Gives (codes "1=x(x=1)%, 2=y(y=2)%2") 0

-- A function gets the captures; where it gives nothing, nil or false, the match stays; a number is its digits.
--     return {f=function(...)
--     return ('k=v'):gsub('(%w)=(%w)',function(a,b,c) return b..a..tostring(c) end),(('abcd'):gsub('%w',function(c) if c=='b' then return 7 end if c=='c' then return false end end))
--     end}
abbrev pub functions_with_captures : Block
functions_with_captures = stats_of (ReturnS 1 (exps_of (TableE 1 (fields_of (Pair (TextE 1 (codes "f")) (FunctionE 1 (Lambda [] true (stats_of (ReturnS 2 (exps_of (
    MethodE 2 (ParenE 2 (TextE 2 (codes "k=v"))) (codes "gsub") (exps_of (
    TextE 2 (codes "(%w)=(%w)")
    ∷ FunctionE 2 (Lambda (codes "a" ∷ codes "b" ∷ codes "c" ∷ []) false (stats_of (ReturnS 2 (exps_of (
    BinaryE 2 op.Concat (NameE 2 (codes "b")) (BinaryE 2 op.Concat (NameE 2 (codes "a")) (CallE 2 (NameE 2 (codes "tostring")) (exps_of (NameE 2 (codes "c") ∷ []))))
    ∷ [])) ∷ [])))
    ∷ []))
    ∷ ParenE 2 (MethodE 2 (ParenE 2 (TextE 2 (codes "abcd"))) (codes "gsub") (exps_of (
    TextE 2 (codes "%w")
    ∷ FunctionE 2 (Lambda (codes "c" ∷ []) false (stats_of (
    IfS 2 (arms_of (
    Arm (BinaryE 2 op.Eq (NameE 2 (codes "c")) (TextE 2 (codes "b"))) (stats_of (ReturnS 2 (exps_of (NumberE 2 (pos 7) ∷ [])) ∷ []))
    ∷ []))
    ∷ IfS 2 (arms_of (
    Arm (BinaryE 2 op.Eq (NameE 2 (codes "c")) (TextE 2 (codes "c"))) (stats_of (ReturnS 2 (exps_of (FalseE 2 ∷ [])) ∷ []))
    ∷ []))
    ∷ [])))
    ∷ [])))
    ∷ [])) ∷ [])))) ∷ [])) ∷ [])) ∷ [])

abbrev pub FunctionsWithCaptures : Type 0
FunctionsWithCaptures = without_steps (invoke_module (codes "X") 204 functions_with_captures 6000) ≡ Gives (codes "vknila7cd") 0

-- A table is asked for the first capture, which may be a place.
--     return {f=function(...)
--     return ('abc'):gsub('()',{'x','y',[4]='z'})
--     end}
abbrev pub tables_with_captures : Block
tables_with_captures = stats_of (ReturnS 1 (exps_of (TableE 1 (fields_of (Pair (TextE 1 (codes "f")) (FunctionE 1 (Lambda [] true (stats_of (ReturnS 2 (exps_of (MethodE 2 (ParenE 2 (TextE 2 (codes "abc"))) (codes "gsub") (exps_of (
    TextE 2 (codes "()")
    ∷ TableE 2 (fields_of (Item (TextE 2 (codes "x")) ∷ Item (TextE 2 (codes "y")) ∷ Pair (NumberE 2 (pos 4)) (TextE 2 (codes "z")) ∷ []))
    ∷ [])) ∷ [])) ∷ [])))) ∷ [])) ∷ [])) ∷ [])

abbrev pub TablesWithCaptures : Type 0
TablesWithCaptures = without_steps (invoke_module (codes "X") 72 tables_with_captures 6000) ≡ Gives (codes "xaybcz4") 0

-- And by its handlers: a function, and a table behind a table.
--     return {f=function(...)
--     local t=setmetatable({},{__index={b='B'}})
--     return (('ab'):gsub('%w',t)),(('ab'):gsub('(%w)',setmetatable({},{__index=function(t,k) return '<'..k..'>' end})))
--     end}
abbrev pub tables_with_handlers : Block
tables_with_handlers = stats_of (ReturnS 1 (exps_of (TableE 1 (fields_of (Pair (TextE 1 (codes "f")) (FunctionE 1 (Lambda [] true (stats_of (
    LocalS 2 (codes "t" ∷ []) (exps_of (CallE 2 (NameE 2 (codes "setmetatable")) (exps_of (
    TableE 2 NoField
    ∷ TableE 2 (fields_of (Pair (TextE 2 (codes "__index")) (TableE 2 (fields_of (Pair (TextE 2 (codes "b")) (TextE 2 (codes "B")) ∷ []))) ∷ []))
    ∷ [])) ∷ []))
    ∷ ReturnS 3 (exps_of (
    ParenE 3 (MethodE 3 (ParenE 3 (TextE 3 (codes "ab"))) (codes "gsub") (exps_of (TextE 3 (codes "%w") ∷ NameE 3 (codes "t") ∷ [])))
    ∷ ParenE 3 (MethodE 3 (ParenE 3 (TextE 3 (codes "ab"))) (codes "gsub") (exps_of (
    TextE 3 (codes "(%w)")
    ∷ CallE 3 (NameE 3 (codes "setmetatable")) (exps_of (
    TableE 3 NoField
    ∷ TableE 3 (fields_of (Pair (TextE 3 (codes "__index")) (FunctionE 3 (Lambda (codes "t" ∷ codes "k" ∷ []) false (stats_of (
    ReturnS 3 (exps_of (BinaryE 3 op.Concat (TextE 3 (codes "<")) (BinaryE 3 op.Concat (NameE 3 (codes "k")) (TextE 3 (codes ">"))) ∷ []))
    ∷ [])))) ∷ []))
    ∷ []))
    ∷ [])))
    ∷ []))
    ∷ [])))) ∷ [])) ∷ [])) ∷ [])

abbrev pub TablesWithHandlers : Type 0
TablesWithHandlers = without_steps (invoke_module (codes "X") 186 tables_with_handlers 6000) ≡ Gives (codes "aB<a><b>") 0

-- `^` matches at the start alone. No more matches are replaced than are asked for; below 1 there are none.
--     return {f=function(...)
--     return ('aaa'):gsub('^a',{a='x'}),(('aaa'):gsub('a',{a='x'},2)),('aaa'):gsub('a',error,0)
--     end}
abbrev pub anchors_and_limits : Block
anchors_and_limits = stats_of (ReturnS 1 (exps_of (TableE 1 (fields_of (Pair (TextE 1 (codes "f")) (FunctionE 1 (Lambda [] true (stats_of (ReturnS 2 (exps_of (
    MethodE 2 (ParenE 2 (TextE 2 (codes "aaa"))) (codes "gsub") (exps_of (TextE 2 (codes "^a") ∷ TableE 2 (fields_of (Pair (TextE 2 (codes "a")) (TextE 2 (codes "x")) ∷ [])) ∷ []))
    ∷ ParenE 2 (MethodE 2 (ParenE 2 (TextE 2 (codes "aaa"))) (codes "gsub") (exps_of (
    TextE 2 (codes "a")
    ∷ TableE 2 (fields_of (Pair (TextE 2 (codes "a")) (TextE 2 (codes "x")) ∷ []))
    ∷ NumberE 2 (pos 2)
    ∷ [])))
    ∷ MethodE 2 (ParenE 2 (TextE 2 (codes "aaa"))) (codes "gsub") (exps_of (TextE 2 (codes "a") ∷ NameE 2 (codes "error") ∷ NumberE 2 (pos 0) ∷ []))
    ∷ [])) ∷ [])))) ∷ [])) ∷ [])) ∷ [])

abbrev pub AnchorsAndLimits : Type 0
AnchorsAndLimits = without_steps (invoke_module (codes "X") 118 anchors_and_limits 6000) ≡ Gives (codes "xaaxxaaaa0") 0

-- An empty match behind another counts.
--     return {f=function(...)
--     return ('abc'):gsub('b*',function(s) return '['..s..']' end)
--     end}
abbrev pub empty_matches : Block
empty_matches = stats_of (ReturnS 1 (exps_of (TableE 1 (fields_of (Pair (TextE 1 (codes "f")) (FunctionE 1 (Lambda [] true (stats_of (ReturnS 2 (exps_of (MethodE 2 (ParenE 2 (TextE 2 (codes "abc"))) (codes "gsub") (exps_of (
    TextE 2 (codes "b*")
    ∷ FunctionE 2 (Lambda (codes "s" ∷ []) false (stats_of (
    ReturnS 2 (exps_of (BinaryE 2 op.Concat (TextE 2 (codes "[")) (BinaryE 2 op.Concat (NameE 2 (codes "s")) (TextE 2 (codes "]"))) ∷ []))
    ∷ [])))
    ∷ [])) ∷ [])) ∷ [])))) ∷ [])) ∷ [])) ∷ [])

abbrev pub EmptyMatches : Type 0
EmptyMatches = without_steps (invoke_module (codes "X") 89 empty_matches 6000) ≡ Gives (codes "[]a[b][]c[]4") 0

-- A function may call `gsub` itself.
--     return {f=function(...)
--     return ('a.b'):gsub('%w',function(c) return (('xx'):gsub('x',c)) end)
--     end}
abbrev pub gsub_in_gsub : Block
gsub_in_gsub = stats_of (ReturnS 1 (exps_of (TableE 1 (fields_of (Pair (TextE 1 (codes "f")) (FunctionE 1 (Lambda [] true (stats_of (ReturnS 2 (exps_of (MethodE 2 (ParenE 2 (TextE 2 (codes "a.b"))) (codes "gsub") (exps_of (
    TextE 2 (codes "%w")
    ∷ FunctionE 2 (Lambda (codes "c" ∷ []) false (stats_of (ReturnS 2 (exps_of (
    ParenE 2 (MethodE 2 (ParenE 2 (TextE 2 (codes "xx"))) (codes "gsub") (exps_of (TextE 2 (codes "x") ∷ NameE 2 (codes "c") ∷ [])))
    ∷ [])) ∷ [])))
    ∷ [])) ∷ [])) ∷ [])))) ∷ [])) ∷ [])) ∷ [])

abbrev pub GsubInGsub : Type 0
GsubInGsub = without_steps (invoke_module (codes "X") 98 gsub_in_gsub 6000) ≡ Gives (codes "aa.bb2") 0

-- An error of the function, or of a handler, goes through `gsub` to `pcall`.
--     return {f=function(...)
--     local function no(c) error('no '..c,0) end
--     local t=setmetatable({},{__index=function(t,k) no(k) end})
--     local a,b=pcall(string.gsub,'ab','%w',no)
--     local c,d=pcall(string.gsub,'ab','b',t)
--     return tostring(a),b,tostring(c),d
--     end}
abbrev pub errors_of_functions : Block
errors_of_functions = stats_of (ReturnS 1 (exps_of (TableE 1 (fields_of (Pair (TextE 1 (codes "f")) (FunctionE 1 (Lambda [] true (stats_of (
    LocalFunctionS 2 (codes "no") (Lambda (codes "c" ∷ []) false (stats_of (
    CallS 2 (CallE 2 (NameE 2 (codes "error")) (exps_of (BinaryE 2 op.Concat (TextE 2 (codes "no ")) (NameE 2 (codes "c")) ∷ NumberE 2 (pos 0) ∷ [])))
    ∷ [])))
    ∷ LocalS 3 (codes "t" ∷ []) (exps_of (CallE 3 (NameE 3 (codes "setmetatable")) (exps_of (
    TableE 3 NoField
    ∷ TableE 3 (fields_of (
    Pair (TextE 3 (codes "__index")) (FunctionE 3 (Lambda (codes "t" ∷ codes "k" ∷ []) false (stats_of (CallS 3 (CallE 3 (NameE 3 (codes "no")) (exps_of (NameE 3 (codes "k") ∷ []))) ∷ []))))
    ∷ []))
    ∷ [])) ∷ []))
    ∷ LocalS 4 (codes "a" ∷ codes "b" ∷ []) (exps_of (CallE 4 (NameE 4 (codes "pcall")) (exps_of (
    IndexE 4 (NameE 4 (codes "string")) (TextE 4 (codes "gsub"))
    ∷ TextE 4 (codes "ab")
    ∷ TextE 4 (codes "%w")
    ∷ NameE 4 (codes "no")
    ∷ [])) ∷ []))
    ∷ LocalS 5 (codes "c" ∷ codes "d" ∷ []) (exps_of (CallE 5 (NameE 5 (codes "pcall")) (exps_of (
    IndexE 5 (NameE 5 (codes "string")) (TextE 5 (codes "gsub"))
    ∷ TextE 5 (codes "ab")
    ∷ TextE 5 (codes "b")
    ∷ NameE 5 (codes "t")
    ∷ [])) ∷ []))
    ∷ ReturnS 6 (exps_of (
    CallE 6 (NameE 6 (codes "tostring")) (exps_of (NameE 6 (codes "a") ∷ []))
    ∷ NameE 6 (codes "b")
    ∷ CallE 6 (NameE 6 (codes "tostring")) (exps_of (NameE 6 (codes "c") ∷ []))
    ∷ NameE 6 (codes "d")
    ∷ []))
    ∷ [])))) ∷ [])) ∷ [])) ∷ [])

abbrev pub ErrorsOfFunctions : Type 0
ErrorsOfFunctions = without_steps (invoke_module (codes "X") 247 errors_of_functions 6000) ≡ Gives (codes "falseno afalseno b") 0

-- Other values are errors, with the place of the call.
--     return {f=function(...)
--     return select(2,pcall(function() local s=('a'):gsub('a',function() return {} end) end)),';',select(2,pcall(string.gsub,'a','a',{a=true}))
--     end}
abbrev pub invalid_replacements : Block
invalid_replacements = stats_of (ReturnS 1 (exps_of (TableE 1 (fields_of (Pair (TextE 1 (codes "f")) (FunctionE 1 (Lambda [] true (stats_of (ReturnS 2 (exps_of (
    CallE 2 (NameE 2 (codes "select")) (exps_of (
    NumberE 2 (pos 2)
    ∷ CallE 2 (NameE 2 (codes "pcall")) (exps_of (FunctionE 2 (Lambda [] false (stats_of (LocalS 2 (codes "s" ∷ []) (exps_of (
    MethodE 2 (ParenE 2 (TextE 2 (codes "a"))) (codes "gsub") (exps_of (TextE 2 (codes "a") ∷ FunctionE 2 (Lambda [] false (stats_of (ReturnS 2 (exps_of (TableE 2 NoField ∷ [])) ∷ []))) ∷ []))
    ∷ [])) ∷ []))) ∷ []))
    ∷ []))
    ∷ TextE 2 (codes ";")
    ∷ CallE 2 (NameE 2 (codes "select")) (exps_of (
    NumberE 2 (pos 2)
    ∷ CallE 2 (NameE 2 (codes "pcall")) (exps_of (
    IndexE 2 (NameE 2 (codes "string")) (TextE 2 (codes "gsub"))
    ∷ TextE 2 (codes "a")
    ∷ TextE 2 (codes "a")
    ∷ TableE 2 (fields_of (Pair (TextE 2 (codes "a")) (TrueE 2) ∷ []))
    ∷ []))
    ∷ []))
    ∷ [])) ∷ [])))) ∷ [])) ∷ [])) ∷ [])

abbrev pub InvalidReplacements : Type 0
InvalidReplacements = without_steps (invoke_module (codes "X") 166 invalid_replacements 6000) ≡ Gives (codes "Module:X:2: invalid replacement value (a table);invalid replacement value (a boolean)") 0

-- The fault of a replacement text comes at a match, that of a pattern at once.
--     return {f=function(...)
--     return (('abc'):gsub('x','%2')),select(2,pcall(string.gsub,'abc','b','%2')),select(2,pcall(string.gsub,'a','%',{})),select(2,pcall(string.gsub,'a','a'))
--     end}
abbrev pub wrong_arguments_of_gsub : Block
wrong_arguments_of_gsub = stats_of (ReturnS 1 (exps_of (TableE 1 (fields_of (Pair (TextE 1 (codes "f")) (FunctionE 1 (Lambda [] true (stats_of (ReturnS 2 (exps_of (
    ParenE 2 (MethodE 2 (ParenE 2 (TextE 2 (codes "abc"))) (codes "gsub") (exps_of (TextE 2 (codes "x") ∷ TextE 2 (codes "%2") ∷ [])))
    ∷ CallE 2 (NameE 2 (codes "select")) (exps_of (
    NumberE 2 (pos 2)
    ∷ CallE 2 (NameE 2 (codes "pcall")) (exps_of (
    IndexE 2 (NameE 2 (codes "string")) (TextE 2 (codes "gsub"))
    ∷ TextE 2 (codes "abc")
    ∷ TextE 2 (codes "b")
    ∷ TextE 2 (codes "%2")
    ∷ []))
    ∷ []))
    ∷ CallE 2 (NameE 2 (codes "select")) (exps_of (
    NumberE 2 (pos 2)
    ∷ CallE 2 (NameE 2 (codes "pcall")) (exps_of (
    IndexE 2 (NameE 2 (codes "string")) (TextE 2 (codes "gsub"))
    ∷ TextE 2 (codes "a")
    ∷ TextE 2 (codes "%")
    ∷ TableE 2 NoField
    ∷ []))
    ∷ []))
    ∷ CallE 2 (NameE 2 (codes "select")) (exps_of (
    NumberE 2 (pos 2)
    ∷ CallE 2 (NameE 2 (codes "pcall")) (exps_of (IndexE 2 (NameE 2 (codes "string")) (TextE 2 (codes "gsub")) ∷ TextE 2 (codes "a") ∷ TextE 2 (codes "a") ∷ []))
    ∷ []))
    ∷ [])) ∷ [])))) ∷ [])) ∷ [])) ∷ [])

abbrev pub WrongArgumentsOfGsub : Type 0
WrongArgumentsOfGsub = without_steps (invoke_module (codes "X") 181 wrong_arguments_of_gsub 6000) ≡ Gives (codes "abcmalformed pattern (7)malformed pattern (1)bad argument #3 to 'gsub' (string expected, got no value)") 0

-- `mw.ustring.gsub` goes by code points, and counts places in them.
--     return {f=function(...)
--     local u=mw.ustring
--     local s=u.char(228,98)
--     return (u.gsub(s,'.',function(c) return #c end)),#(u.gsub(s,'()',{'x','y','z'})),(u.gsub('ab','.','%0%0')),select(2,u.gsub(s,'[^b]',{}))
--     end}
abbrev pub replaced_code_points : Block
replaced_code_points = stats_of (ReturnS 1 (exps_of (TableE 1 (fields_of (Pair (TextE 1 (codes "f")) (FunctionE 1 (Lambda [] true (stats_of (
    LocalS 2 (codes "u" ∷ []) (exps_of (IndexE 2 (NameE 2 (codes "mw")) (TextE 2 (codes "ustring")) ∷ []))
    ∷ LocalS 3 (codes "s" ∷ []) (exps_of (
    CallE 3 (IndexE 3 (NameE 3 (codes "u")) (TextE 3 (codes "char"))) (exps_of (NumberE 3 (pos 228) ∷ NumberE 3 (pos 98) ∷ []))
    ∷ []))
    ∷ ReturnS 4 (exps_of (
    ParenE 4 (CallE 4 (IndexE 4 (NameE 4 (codes "u")) (TextE 4 (codes "gsub"))) (exps_of (
    NameE 4 (codes "s")
    ∷ TextE 4 (codes ".")
    ∷ FunctionE 4 (Lambda (codes "c" ∷ []) false (stats_of (ReturnS 4 (exps_of (UnaryE 4 sign.Len (NameE 4 (codes "c")) ∷ [])) ∷ [])))
    ∷ [])))
    ∷ UnaryE 4 sign.Len (ParenE 4 (CallE 4 (IndexE 4 (NameE 4 (codes "u")) (TextE 4 (codes "gsub"))) (exps_of (
    NameE 4 (codes "s")
    ∷ TextE 4 (codes "()")
    ∷ TableE 4 (fields_of (Item (TextE 4 (codes "x")) ∷ Item (TextE 4 (codes "y")) ∷ Item (TextE 4 (codes "z")) ∷ []))
    ∷ []))))
    ∷ ParenE 4 (CallE 4 (IndexE 4 (NameE 4 (codes "u")) (TextE 4 (codes "gsub"))) (exps_of (TextE 4 (codes "ab") ∷ TextE 4 (codes ".") ∷ TextE 4 (codes "%0%0") ∷ [])))
    ∷ CallE 4 (NameE 4 (codes "select")) (exps_of (
    NumberE 4 (pos 2)
    ∷ CallE 4 (IndexE 4 (NameE 4 (codes "u")) (TextE 4 (codes "gsub"))) (exps_of (NameE 4 (codes "s") ∷ TextE 4 (codes "[^b]") ∷ TableE 4 NoField ∷ []))
    ∷ []))
    ∷ []))
    ∷ [])))) ∷ [])) ∷ [])) ∷ [])

abbrev pub ReplacedCodePoints : Type 0
ReplacedCodePoints = without_steps (invoke_module (codes "X") 207 replaced_code_points 6000) ≡ Gives (codes "216aabb1") 0

-- ALL OF THEM
abbrev pub AllReplacing : Type 0
AllReplacing =
    GsubByTextCosts
    × GsubByFunctionCosts
    × GsubByTableCosts
    × GsubByHandlerCosts
    × GsubOfNothingCosts
    × GsubIsPaidByPieces
    × TextsWithCaptures
    × FunctionsWithCaptures
    × TablesWithCaptures
    × TablesWithHandlers
    × AnchorsAndLimits
    × EmptyMatches
    × GsubInGsub
    × ErrorsOfFunctions
    × InvalidReplacements
    × WrongArgumentsOfGsub
    × ReplacedCodePoints

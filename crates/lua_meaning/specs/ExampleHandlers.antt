-- EXAMPLES of handlers, levels, and what is absent.
use Rattle.std.specs.Prelude.{◌≡◌, pos, true, false, [], ◌∷◌, codes}
use Rattle.lua_syntax.specs.declared.BinaryOp.TheVariants as op
use Rattle.lua_syntax.specs.Tree.{NilE, FalseE, NumberE, TextE, DotsE, FunctionE, NameE, IndexE, CallE, MethodE, TableE, BinaryE, ParenE}
use Rattle.lua_syntax.specs.Tree.{NoExp, NoField, Pair, Lambda, Block, NoStat, Arm}
use Rattle.lua_syntax.specs.Tree.{AssignS, CallS, IfS, EachS, LocalFunctionS, LocalS, ReturnS}
use Rattle.lua_syntax.specs.View.{exps_of, fields_of, arms_of, stats_of}
use Rattle.lua_meaning.specs.Trial.{Gives, Fails, without_steps, invoke_module}

-- `__le` is asked before `__lt`.
--     return {f=function(...)
--     local m={__le=function(a,b) return a.n end,__lt=function() error('no') end}
--     local a,b=setmetatable({n=1},m),setmetatable({n=false},m)
--     return tostring(a<=b),tostring(b<=a),tostring(a>=b)
--     end}
abbrev pub at_most_handler : Block
at_most_handler = stats_of (ReturnS 1 (exps_of (TableE 1 (fields_of (Pair (TextE 1 (codes "f")) (FunctionE 1 (Lambda [] true (stats_of (
    LocalS 2 (codes "m" ∷ []) (exps_of (TableE 2 (fields_of (
    Pair (TextE 2 (codes "__le")) (FunctionE 2 (Lambda (codes "a" ∷ codes "b" ∷ []) false (stats_of (ReturnS 2 (exps_of (IndexE 2 (NameE 2 (codes "a")) (TextE 2 (codes "n")) ∷ [])) ∷ []))))
    ∷ Pair (TextE 2 (codes "__lt")) (FunctionE 2 (Lambda [] false (stats_of (CallS 2 (CallE 2 (NameE 2 (codes "error")) (exps_of (TextE 2 (codes "no") ∷ []))) ∷ []))))
    ∷ [])) ∷ []))
    ∷ LocalS 3 (codes "a" ∷ codes "b" ∷ []) (exps_of (
    CallE 3 (NameE 3 (codes "setmetatable")) (exps_of (TableE 3 (fields_of (Pair (TextE 3 (codes "n")) (NumberE 3 (pos 1)) ∷ [])) ∷ NameE 3 (codes "m") ∷ []))
    ∷ CallE 3 (NameE 3 (codes "setmetatable")) (exps_of (TableE 3 (fields_of (Pair (TextE 3 (codes "n")) (FalseE 3) ∷ [])) ∷ NameE 3 (codes "m") ∷ []))
    ∷ []))
    ∷ ReturnS 4 (exps_of (
    CallE 4 (NameE 4 (codes "tostring")) (exps_of (BinaryE 4 op.Le (NameE 4 (codes "a")) (NameE 4 (codes "b")) ∷ []))
    ∷ CallE 4 (NameE 4 (codes "tostring")) (exps_of (BinaryE 4 op.Le (NameE 4 (codes "b")) (NameE 4 (codes "a")) ∷ []))
    ∷ CallE 4 (NameE 4 (codes "tostring")) (exps_of (BinaryE 4 op.Ge (NameE 4 (codes "a")) (NameE 4 (codes "b")) ∷ []))
    ∷ []))
    ∷ [])))) ∷ [])) ∷ [])) ∷ [])

abbrev pub AtMostHandler : Type 0
AtMostHandler = without_steps (invoke_module (codes "X") 214 at_most_handler 6000) ≡ Gives (codes "truefalsefalse") 0

-- Where `__lt` stands in for `__le`, nil from it is false.
--     return {f=function(...)
--     local m={__lt=function() end}
--     local a,b=setmetatable({},m),setmetatable({},m)
--     return tostring(a<=b),tostring(a<b)
--     end}
abbrev pub nil_is_not_less : Block
nil_is_not_less = stats_of (ReturnS 1 (exps_of (TableE 1 (fields_of (Pair (TextE 1 (codes "f")) (FunctionE 1 (Lambda [] true (stats_of (
    LocalS 2 (codes "m" ∷ []) (exps_of (TableE 2 (fields_of (Pair (TextE 2 (codes "__lt")) (FunctionE 2 (Lambda [] false NoStat)) ∷ [])) ∷ []))
    ∷ LocalS 3 (codes "a" ∷ codes "b" ∷ []) (exps_of (
    CallE 3 (NameE 3 (codes "setmetatable")) (exps_of (TableE 3 NoField ∷ NameE 3 (codes "m") ∷ []))
    ∷ CallE 3 (NameE 3 (codes "setmetatable")) (exps_of (TableE 3 NoField ∷ NameE 3 (codes "m") ∷ []))
    ∷ []))
    ∷ ReturnS 4 (exps_of (
    CallE 4 (NameE 4 (codes "tostring")) (exps_of (BinaryE 4 op.Le (NameE 4 (codes "a")) (NameE 4 (codes "b")) ∷ []))
    ∷ CallE 4 (NameE 4 (codes "tostring")) (exps_of (BinaryE 4 op.Lt (NameE 4 (codes "a")) (NameE 4 (codes "b")) ∷ []))
    ∷ []))
    ∷ [])))) ∷ [])) ∷ [])) ∷ [])

abbrev pub NilIsNotLess : Type 0
NilIsNotLess = without_steps (invoke_module (codes "X") 142 nil_is_not_less 6000) ≡ Gives (codes "truefalse") 0

-- `a > b` is `b < a` for tables too.
--     return {f=function(...)
--     local m={__lt=function(x,y) return x.n<y.n end}
--     local a,b=setmetatable({n=1},m),setmetatable({n=2},m)
--     return tostring(a>b),tostring(b>a)
--     end}
abbrev pub greater : Block
greater = stats_of (ReturnS 1 (exps_of (TableE 1 (fields_of (Pair (TextE 1 (codes "f")) (FunctionE 1 (Lambda [] true (stats_of (
    LocalS 2 (codes "m" ∷ []) (exps_of (TableE 2 (fields_of (Pair (TextE 2 (codes "__lt")) (FunctionE 2 (Lambda (codes "x" ∷ codes "y" ∷ []) false (stats_of (ReturnS 2 (exps_of (
    BinaryE 2 op.Lt (IndexE 2 (NameE 2 (codes "x")) (TextE 2 (codes "n"))) (IndexE 2 (NameE 2 (codes "y")) (TextE 2 (codes "n")))
    ∷ [])) ∷ [])))) ∷ [])) ∷ []))
    ∷ LocalS 3 (codes "a" ∷ codes "b" ∷ []) (exps_of (
    CallE 3 (NameE 3 (codes "setmetatable")) (exps_of (TableE 3 (fields_of (Pair (TextE 3 (codes "n")) (NumberE 3 (pos 1)) ∷ [])) ∷ NameE 3 (codes "m") ∷ []))
    ∷ CallE 3 (NameE 3 (codes "setmetatable")) (exps_of (TableE 3 (fields_of (Pair (TextE 3 (codes "n")) (NumberE 3 (pos 2)) ∷ [])) ∷ NameE 3 (codes "m") ∷ []))
    ∷ []))
    ∷ ReturnS 4 (exps_of (
    CallE 4 (NameE 4 (codes "tostring")) (exps_of (BinaryE 4 op.Gt (NameE 4 (codes "a")) (NameE 4 (codes "b")) ∷ []))
    ∷ CallE 4 (NameE 4 (codes "tostring")) (exps_of (BinaryE 4 op.Gt (NameE 4 (codes "b")) (NameE 4 (codes "a")) ∷ []))
    ∷ []))
    ∷ [])))) ∷ [])) ∷ [])) ∷ [])

abbrev pub Greater : Type 0
Greater = without_steps (invoke_module (codes "X") 165 greater 6000) ≡ Gives (codes "falsetrue") 0

-- `__call` may be a table that has `__call`: each link puts its object in front.
--     return {f=function(...)
--     local u=setmetatable({},{__call=function(...) return select('#',...),select(3,...) end})
--     local t=setmetatable({},{__call=u})
--     return t('a','b')
--     end}
abbrev pub call_chain : Block
call_chain = stats_of (ReturnS 1 (exps_of (TableE 1 (fields_of (Pair (TextE 1 (codes "f")) (FunctionE 1 (Lambda [] true (stats_of (
    LocalS 2 (codes "u" ∷ []) (exps_of (CallE 2 (NameE 2 (codes "setmetatable")) (exps_of (
    TableE 2 NoField
    ∷ TableE 2 (fields_of (Pair (TextE 2 (codes "__call")) (FunctionE 2 (Lambda [] true (stats_of (ReturnS 2 (exps_of (
    CallE 2 (NameE 2 (codes "select")) (exps_of (TextE 2 (codes "#") ∷ DotsE 2 ∷ []))
    ∷ CallE 2 (NameE 2 (codes "select")) (exps_of (NumberE 2 (pos 3) ∷ DotsE 2 ∷ []))
    ∷ [])) ∷ [])))) ∷ []))
    ∷ [])) ∷ []))
    ∷ LocalS 3 (codes "t" ∷ []) (exps_of (
    CallE 3 (NameE 3 (codes "setmetatable")) (exps_of (TableE 3 NoField ∷ TableE 3 (fields_of (Pair (TextE 3 (codes "__call")) (NameE 3 (codes "u")) ∷ [])) ∷ []))
    ∷ []))
    ∷ ReturnS 4 (exps_of (CallE 4 (NameE 4 (codes "t")) (exps_of (TextE 4 (codes "a") ∷ TextE 4 (codes "b") ∷ [])) ∷ []))
    ∷ [])))) ∷ [])) ∷ [])) ∷ [])

abbrev pub CallChain : Type 0
CallChain = without_steps (invoke_module (codes "X") 171 call_chain 6000) ≡ Gives (codes "4ab") 0

-- `__metatable` may be false.
--     return {f=function(...)
--     local t=setmetatable({},{__metatable=false})
--     return tostring(getmetatable(t)),select(2,pcall(setmetatable,t,{}))
--     end}
abbrev pub false_protects : Block
false_protects = stats_of (ReturnS 1 (exps_of (TableE 1 (fields_of (Pair (TextE 1 (codes "f")) (FunctionE 1 (Lambda [] true (stats_of (
    LocalS 2 (codes "t" ∷ []) (exps_of (
    CallE 2 (NameE 2 (codes "setmetatable")) (exps_of (TableE 2 NoField ∷ TableE 2 (fields_of (Pair (TextE 2 (codes "__metatable")) (FalseE 2) ∷ [])) ∷ []))
    ∷ []))
    ∷ ReturnS 3 (exps_of (
    CallE 3 (NameE 3 (codes "tostring")) (exps_of (CallE 3 (NameE 3 (codes "getmetatable")) (exps_of (NameE 3 (codes "t") ∷ [])) ∷ []))
    ∷ CallE 3 (NameE 3 (codes "select")) (exps_of (
    NumberE 3 (pos 2)
    ∷ CallE 3 (NameE 3 (codes "pcall")) (exps_of (NameE 3 (codes "setmetatable") ∷ NameE 3 (codes "t") ∷ TableE 3 NoField ∷ []))
    ∷ []))
    ∷ []))
    ∷ [])))) ∷ [])) ∷ [])) ∷ [])

abbrev pub FalseProtects : Type 0
FalseProtects = without_steps (invoke_module (codes "X") 141 false_protects 6000) ≡ Gives (codes "falsecannot change a protected metatable") 0

-- An operator that calls a handler is the place that called it.
--     return {f=function(...)
--     local function bad() error('m',2) end
--     local t=setmetatable({},{__add=bad,__index=bad,__newindex=bad,__call=bad})
--     local function e(f) return select(2,pcall(f))..';' end
--     return e(function()
--      return t+1 end),e(function()
--      return t.x end),e(function()
--      t.x=1 end),e(function()
--      t() end)
--     end}
abbrev pub levels_through_handlers : Block
levels_through_handlers = stats_of (ReturnS 1 (exps_of (TableE 1 (fields_of (Pair (TextE 1 (codes "f")) (FunctionE 1 (Lambda [] true (stats_of (
    LocalFunctionS 2 (codes "bad") (Lambda [] false (stats_of (CallS 2 (CallE 2 (NameE 2 (codes "error")) (exps_of (TextE 2 (codes "m") ∷ NumberE 2 (pos 2) ∷ []))) ∷ [])))
    ∷ LocalS 3 (codes "t" ∷ []) (exps_of (CallE 3 (NameE 3 (codes "setmetatable")) (exps_of (
    TableE 3 NoField
    ∷ TableE 3 (fields_of (
    Pair (TextE 3 (codes "__add")) (NameE 3 (codes "bad"))
    ∷ Pair (TextE 3 (codes "__index")) (NameE 3 (codes "bad"))
    ∷ Pair (TextE 3 (codes "__newindex")) (NameE 3 (codes "bad"))
    ∷ Pair (TextE 3 (codes "__call")) (NameE 3 (codes "bad"))
    ∷ []))
    ∷ [])) ∷ []))
    ∷ LocalFunctionS 4 (codes "e") (Lambda (codes "f" ∷ []) false (stats_of (ReturnS 4 (exps_of (
    BinaryE 4 op.Concat (CallE 4 (NameE 4 (codes "select")) (exps_of (NumberE 4 (pos 2) ∷ CallE 4 (NameE 4 (codes "pcall")) (exps_of (NameE 4 (codes "f") ∷ [])) ∷ []))) (TextE 4 (codes ";"))
    ∷ [])) ∷ [])))
    ∷ ReturnS 5 (exps_of (
    CallE 5 (NameE 5 (codes "e")) (exps_of (
    FunctionE 5 (Lambda [] false (stats_of (ReturnS 6 (exps_of (BinaryE 6 op.Add (NameE 6 (codes "t")) (NumberE 6 (pos 1)) ∷ [])) ∷ [])))
    ∷ []))
    ∷ CallE 6 (NameE 6 (codes "e")) (exps_of (
    FunctionE 6 (Lambda [] false (stats_of (ReturnS 7 (exps_of (IndexE 7 (NameE 7 (codes "t")) (TextE 7 (codes "x")) ∷ [])) ∷ [])))
    ∷ []))
    ∷ CallE 7 (NameE 7 (codes "e")) (exps_of (FunctionE 7 (Lambda [] false (stats_of (
    AssignS 8 (exps_of (IndexE 8 (NameE 8 (codes "t")) (TextE 8 (codes "x")) ∷ [])) (exps_of (NumberE 8 (pos 1) ∷ []))
    ∷ []))) ∷ []))
    ∷ CallE 8 (NameE 8 (codes "e")) (exps_of (FunctionE 8 (Lambda [] false (stats_of (CallS 9 (CallE 9 (NameE 9 (codes "t")) NoExp) ∷ []))) ∷ []))
    ∷ []))
    ∷ [])))) ∷ [])) ∷ [])) ∷ [])

abbrev pub LevelsThroughHandlers : Type 0
LevelsThroughHandlers = without_steps (invoke_module (codes "X") 311 levels_through_handlers 6000) ≡ Gives (codes "Module:X:6: m;Module:X:7: m;Module:X:8: m;Module:X:9: m;") 0

-- What the library calls has no place above it.
--     return {f=function(...)
--     local t=setmetatable({},{__tostring=function() error('m',2) end})
--     return select(2,pcall(function() return tostring(t) end))
--     end}
abbrev pub levels_in_tostring : Block
levels_in_tostring = stats_of (ReturnS 1 (exps_of (TableE 1 (fields_of (Pair (TextE 1 (codes "f")) (FunctionE 1 (Lambda [] true (stats_of (
    LocalS 2 (codes "t" ∷ []) (exps_of (CallE 2 (NameE 2 (codes "setmetatable")) (exps_of (
    TableE 2 NoField
    ∷ TableE 2 (fields_of (
    Pair (TextE 2 (codes "__tostring")) (FunctionE 2 (Lambda [] false (stats_of (CallS 2 (CallE 2 (NameE 2 (codes "error")) (exps_of (TextE 2 (codes "m") ∷ NumberE 2 (pos 2) ∷ []))) ∷ []))))
    ∷ []))
    ∷ [])) ∷ []))
    ∷ ReturnS 3 (exps_of (CallE 3 (NameE 3 (codes "select")) (exps_of (
    NumberE 3 (pos 2)
    ∷ CallE 3 (NameE 3 (codes "pcall")) (exps_of (
    FunctionE 3 (Lambda [] false (stats_of (ReturnS 3 (exps_of (CallE 3 (NameE 3 (codes "tostring")) (exps_of (NameE 3 (codes "t") ∷ [])) ∷ [])) ∷ [])))
    ∷ []))
    ∷ [])) ∷ []))
    ∷ [])))) ∷ [])) ∷ [])) ∷ [])

abbrev pub LevelsInTostring : Type 0
LevelsInTostring = without_steps (invoke_module (codes "X") 152 levels_in_tostring 6000) ≡ Gives (codes "m") 0

-- `xpcall` gives one value of its handler.
--     return {f=function(...)
--     return select('#',xpcall(error,function() return 1,2 end)),xpcall(error,function() return 1,2 end)
--     end}
abbrev pub one_value_of_handlers : Block
one_value_of_handlers = stats_of (ReturnS 1 (exps_of (TableE 1 (fields_of (Pair (TextE 1 (codes "f")) (FunctionE 1 (Lambda [] true (stats_of (ReturnS 2 (exps_of (
    CallE 2 (NameE 2 (codes "select")) (exps_of (
    TextE 2 (codes "#")
    ∷ CallE 2 (NameE 2 (codes "xpcall")) (exps_of (
    NameE 2 (codes "error")
    ∷ FunctionE 2 (Lambda [] false (stats_of (ReturnS 2 (exps_of (NumberE 2 (pos 1) ∷ NumberE 2 (pos 2) ∷ [])) ∷ [])))
    ∷ []))
    ∷ []))
    ∷ CallE 2 (NameE 2 (codes "xpcall")) (exps_of (
    NameE 2 (codes "error")
    ∷ FunctionE 2 (Lambda [] false (stats_of (ReturnS 2 (exps_of (NumberE 2 (pos 1) ∷ NumberE 2 (pos 2) ∷ [])) ∷ [])))
    ∷ []))
    ∷ [])) ∷ [])))) ∷ [])) ∷ [])) ∷ [])

abbrev pub OneValueOfHandlers : Type 0
OneValueOfHandlers = without_steps (invoke_module (codes "X") 127 one_value_of_handlers 6000) ≡ Gives (codes "2false1") 0

-- `__tostring` may give a number.
--     return {f=function(...)
--     return type(tostring(setmetatable({},{__tostring=function() return 12 end}))),setmetatable({},{__tostring=function() return 7 end})
--     end}
abbrev pub number_as_text : Block
number_as_text = stats_of (ReturnS 1 (exps_of (TableE 1 (fields_of (Pair (TextE 1 (codes "f")) (FunctionE 1 (Lambda [] true (stats_of (ReturnS 2 (exps_of (
    CallE 2 (NameE 2 (codes "type")) (exps_of (CallE 2 (NameE 2 (codes "tostring")) (exps_of (CallE 2 (NameE 2 (codes "setmetatable")) (exps_of (
    TableE 2 NoField
    ∷ TableE 2 (fields_of (
    Pair (TextE 2 (codes "__tostring")) (FunctionE 2 (Lambda [] false (stats_of (ReturnS 2 (exps_of (NumberE 2 (pos 12) ∷ [])) ∷ []))))
    ∷ []))
    ∷ [])) ∷ [])) ∷ []))
    ∷ CallE 2 (NameE 2 (codes "setmetatable")) (exps_of (
    TableE 2 NoField
    ∷ TableE 2 (fields_of (
    Pair (TextE 2 (codes "__tostring")) (FunctionE 2 (Lambda [] false (stats_of (ReturnS 2 (exps_of (NumberE 2 (pos 7) ∷ [])) ∷ []))))
    ∷ []))
    ∷ []))
    ∷ [])) ∷ [])))) ∷ [])) ∷ [])) ∷ [])

abbrev pub NumberAsText : Type 0
NumberAsText = without_steps (invoke_module (codes "X") 160 number_as_text 6000) ≡ Gives (codes "string7") 0

-- A method is looked up before the arguments are evaluated.
--     return {f=function(...)
--     local log=''
--     local o=setmetatable({},{__index=function(t,k) log=log..k return function() end end})
--     o:m((function() log=log..'!' end)())
--     return log
--     end}
abbrev pub method_first : Block
method_first = stats_of (ReturnS 1 (exps_of (TableE 1 (fields_of (Pair (TextE 1 (codes "f")) (FunctionE 1 (Lambda [] true (stats_of (
    LocalS 2 (codes "log" ∷ []) (exps_of (TextE 2 [] ∷ []))
    ∷ LocalS 3 (codes "o" ∷ []) (exps_of (CallE 3 (NameE 3 (codes "setmetatable")) (exps_of (
    TableE 3 NoField
    ∷ TableE 3 (fields_of (Pair (TextE 3 (codes "__index")) (FunctionE 3 (Lambda (codes "t" ∷ codes "k" ∷ []) false (stats_of (
    AssignS 3 (exps_of (NameE 3 (codes "log") ∷ [])) (exps_of (BinaryE 3 op.Concat (NameE 3 (codes "log")) (NameE 3 (codes "k")) ∷ []))
    ∷ ReturnS 3 (exps_of (FunctionE 3 (Lambda [] false NoStat) ∷ []))
    ∷ [])))) ∷ []))
    ∷ [])) ∷ []))
    ∷ CallS 4 (MethodE 4 (NameE 4 (codes "o")) (codes "m") (exps_of (CallE 4 (ParenE 4 (FunctionE 4 (Lambda [] false (stats_of (
    AssignS 4 (exps_of (NameE 4 (codes "log") ∷ [])) (exps_of (BinaryE 4 op.Concat (NameE 4 (codes "log")) (TextE 4 (codes "!")) ∷ []))
    ∷ []))))) NoExp ∷ [])))
    ∷ ReturnS 5 (exps_of (NameE 5 (codes "log") ∷ []))
    ∷ [])))) ∷ [])) ∷ [])) ∷ [])

abbrev pub MethodFirst : Type 0
MethodFirst = without_steps (invoke_module (codes "X") 175 method_first 6000) ≡ Gives (codes "m!") 0

-- A function of the library that calls what is no function raises without a place.
--     return {f=function(...)
--     local function e(f,...) return select(2,pcall(f,...))..';' end
--     return e(1),e(nil),e(function() return tostring(setmetatable({},{__tostring=1})) end)
--     end}
abbrev pub library_calls_nothing : Block
library_calls_nothing = stats_of (ReturnS 1 (exps_of (TableE 1 (fields_of (Pair (TextE 1 (codes "f")) (FunctionE 1 (Lambda [] true (stats_of (
    LocalFunctionS 2 (codes "e") (Lambda (codes "f" ∷ []) true (stats_of (ReturnS 2 (exps_of (
    BinaryE 2 op.Concat (CallE 2 (NameE 2 (codes "select")) (exps_of (NumberE 2 (pos 2) ∷ CallE 2 (NameE 2 (codes "pcall")) (exps_of (NameE 2 (codes "f") ∷ DotsE 2 ∷ [])) ∷ []))) (TextE 2 (codes ";"))
    ∷ [])) ∷ [])))
    ∷ ReturnS 3 (exps_of (
    CallE 3 (NameE 3 (codes "e")) (exps_of (NumberE 3 (pos 1) ∷ []))
    ∷ CallE 3 (NameE 3 (codes "e")) (exps_of (NilE 3 ∷ []))
    ∷ CallE 3 (NameE 3 (codes "e")) (exps_of (FunctionE 3 (Lambda [] false (stats_of (ReturnS 3 (exps_of (CallE 3 (NameE 3 (codes "tostring")) (exps_of (
    CallE 3 (NameE 3 (codes "setmetatable")) (exps_of (TableE 3 NoField ∷ TableE 3 (fields_of (Pair (TextE 3 (codes "__tostring")) (NumberE 3 (pos 1)) ∷ [])) ∷ []))
    ∷ [])) ∷ [])) ∷ []))) ∷ []))
    ∷ []))
    ∷ [])))) ∷ [])) ∷ [])) ∷ [])

abbrev pub LibraryCallsNothing : Type 0
LibraryCallsNothing = without_steps (invoke_module (codes "X") 177 library_calls_nothing 6000) ≡ Gives (codes "attempt to call a number value;attempt to call a nil value;attempt to call a number value;") 0

-- An absent argument where any value may stand is nil, also for `setmetatable`.
--     return {f=function(...)
--     local t=setmetatable({},{})
--     return tostring(getmetatable(setmetatable(t))),tostring(rawequal()),tostring(rawget({})),type()
--     end}
abbrev pub absent_is_nil : Block
absent_is_nil = stats_of (ReturnS 1 (exps_of (TableE 1 (fields_of (Pair (TextE 1 (codes "f")) (FunctionE 1 (Lambda [] true (stats_of (
    LocalS 2 (codes "t" ∷ []) (exps_of (CallE 2 (NameE 2 (codes "setmetatable")) (exps_of (TableE 2 NoField ∷ TableE 2 NoField ∷ [])) ∷ []))
    ∷ ReturnS 3 (exps_of (
    CallE 3 (NameE 3 (codes "tostring")) (exps_of (
    CallE 3 (NameE 3 (codes "getmetatable")) (exps_of (CallE 3 (NameE 3 (codes "setmetatable")) (exps_of (NameE 3 (codes "t") ∷ [])) ∷ []))
    ∷ []))
    ∷ CallE 3 (NameE 3 (codes "tostring")) (exps_of (CallE 3 (NameE 3 (codes "rawequal")) NoExp ∷ []))
    ∷ CallE 3 (NameE 3 (codes "tostring")) (exps_of (CallE 3 (NameE 3 (codes "rawget")) (exps_of (TableE 3 NoField ∷ [])) ∷ []))
    ∷ CallE 3 (NameE 3 (codes "type")) NoExp
    ∷ []))
    ∷ [])))) ∷ [])) ∷ [])) ∷ [])

abbrev pub AbsentIsNil : Type 0
AbsentIsNil = without_steps (invoke_module (codes "X") 152 absent_is_nil 6000) ≡ Gives (codes "niltruenilnil") 0

-- Strings and global variables are looked up in the tables that the run has kept.
--     return {f=function(...)
--     string.twice=function(s) return s..s end
--     string=nil
--     x=5
--     _G={x=6}
--     return ('ab'):twice(),x
--     end}
abbrev pub kept_tables : Block
kept_tables = stats_of (ReturnS 1 (exps_of (TableE 1 (fields_of (Pair (TextE 1 (codes "f")) (FunctionE 1 (Lambda [] true (stats_of (
    AssignS 2 (exps_of (IndexE 2 (NameE 2 (codes "string")) (TextE 2 (codes "twice")) ∷ [])) (exps_of (
    FunctionE 2 (Lambda (codes "s" ∷ []) false (stats_of (ReturnS 2 (exps_of (BinaryE 2 op.Concat (NameE 2 (codes "s")) (NameE 2 (codes "s")) ∷ [])) ∷ [])))
    ∷ []))
    ∷ AssignS 3 (exps_of (NameE 3 (codes "string") ∷ [])) (exps_of (NilE 3 ∷ []))
    ∷ AssignS 4 (exps_of (NameE 4 (codes "x") ∷ [])) (exps_of (NumberE 4 (pos 5) ∷ []))
    ∷ AssignS 5 (exps_of (NameE 5 (codes "_G") ∷ [])) (exps_of (TableE 5 (fields_of (Pair (TextE 5 (codes "x")) (NumberE 5 (pos 6)) ∷ [])) ∷ []))
    ∷ ReturnS 6 (exps_of (MethodE 6 (ParenE 6 (TextE 6 (codes "ab"))) (codes "twice") NoExp ∷ NameE 6 (codes "x") ∷ []))
    ∷ [])))) ∷ [])) ∷ [])) ∷ [])

abbrev pub KeptTables : Type 0
KeptTables = without_steps (invoke_module (codes "X") 117 kept_tables 6000) ≡ Gives (codes "abab5") 0

-- Only nil ends a generic loop.
--     return {f=function(...)
--     local n=0
--     for v in function() n=n+1 if n<4 then return false end end do end
--     return n
--     end}
abbrev pub false_goes_on : Block
false_goes_on = stats_of (ReturnS 1 (exps_of (TableE 1 (fields_of (Pair (TextE 1 (codes "f")) (FunctionE 1 (Lambda [] true (stats_of (
    LocalS 2 (codes "n" ∷ []) (exps_of (NumberE 2 (pos 0) ∷ []))
    ∷ EachS 3 (codes "v" ∷ []) (exps_of (FunctionE 3 (Lambda [] false (stats_of (
    AssignS 3 (exps_of (NameE 3 (codes "n") ∷ [])) (exps_of (BinaryE 3 op.Add (NameE 3 (codes "n")) (NumberE 3 (pos 1)) ∷ []))
    ∷ IfS 3 (arms_of (
    Arm (BinaryE 3 op.Lt (NameE 3 (codes "n")) (NumberE 3 (pos 4))) (stats_of (ReturnS 3 (exps_of (FalseE 3 ∷ [])) ∷ []))
    ∷ []))
    ∷ []))) ∷ [])) NoStat
    ∷ ReturnS 4 (exps_of (NameE 4 (codes "n") ∷ []))
    ∷ [])))) ∷ [])) ∷ [])) ∷ [])

abbrev pub FalseGoesOn : Type 0
FalseGoesOn = without_steps (invoke_module (codes "X") 113 false_goes_on 6000) ≡ Gives (codes "4") 0

-- `assert` raises its message without a place.
--     return {f=function(...)
--     return select(2,pcall(function() assert(nil,'no') end)),select(2,pcall(function() assert(false) end))
--     end}
abbrev pub assert_has_no_place : Block
assert_has_no_place = stats_of (ReturnS 1 (exps_of (TableE 1 (fields_of (Pair (TextE 1 (codes "f")) (FunctionE 1 (Lambda [] true (stats_of (ReturnS 2 (exps_of (
    CallE 2 (NameE 2 (codes "select")) (exps_of (
    NumberE 2 (pos 2)
    ∷ CallE 2 (NameE 2 (codes "pcall")) (exps_of (
    FunctionE 2 (Lambda [] false (stats_of (CallS 2 (CallE 2 (NameE 2 (codes "assert")) (exps_of (NilE 2 ∷ TextE 2 (codes "no") ∷ []))) ∷ [])))
    ∷ []))
    ∷ []))
    ∷ CallE 2 (NameE 2 (codes "select")) (exps_of (
    NumberE 2 (pos 2)
    ∷ CallE 2 (NameE 2 (codes "pcall")) (exps_of (
    FunctionE 2 (Lambda [] false (stats_of (CallS 2 (CallE 2 (NameE 2 (codes "assert")) (exps_of (FalseE 2 ∷ []))) ∷ [])))
    ∷ []))
    ∷ []))
    ∷ [])) ∷ [])))) ∷ [])) ∷ [])) ∷ [])

abbrev pub AssertHasNoPlace : Type 0
AssertHasNoPlace = without_steps (invoke_module (codes "X") 130 assert_has_no_place 6000) ≡ Gives (codes "noassertion failed!") 0

-- `__pairs` and `__ipairs` get the table alone, and three values are taken.
--     return {f=function(...)
--     local function h(...) return select('#',...),2,3,4 end
--     local t=setmetatable({},{__pairs=h,__ipairs=h})
--     return select('#',pairs(t,1,2)),pairs(t,1),ipairs(t,1,2)
--     end}
abbrev pub pairs_handler_arguments : Block
pairs_handler_arguments = stats_of (ReturnS 1 (exps_of (TableE 1 (fields_of (Pair (TextE 1 (codes "f")) (FunctionE 1 (Lambda [] true (stats_of (
    LocalFunctionS 2 (codes "h") (Lambda [] true (stats_of (ReturnS 2 (exps_of (
    CallE 2 (NameE 2 (codes "select")) (exps_of (TextE 2 (codes "#") ∷ DotsE 2 ∷ []))
    ∷ NumberE 2 (pos 2)
    ∷ NumberE 2 (pos 3)
    ∷ NumberE 2 (pos 4)
    ∷ [])) ∷ [])))
    ∷ LocalS 3 (codes "t" ∷ []) (exps_of (CallE 3 (NameE 3 (codes "setmetatable")) (exps_of (
    TableE 3 NoField
    ∷ TableE 3 (fields_of (
    Pair (TextE 3 (codes "__pairs")) (NameE 3 (codes "h"))
    ∷ Pair (TextE 3 (codes "__ipairs")) (NameE 3 (codes "h"))
    ∷ []))
    ∷ [])) ∷ []))
    ∷ ReturnS 4 (exps_of (
    CallE 4 (NameE 4 (codes "select")) (exps_of (
    TextE 4 (codes "#")
    ∷ CallE 4 (NameE 4 (codes "pairs")) (exps_of (NameE 4 (codes "t") ∷ NumberE 4 (pos 1) ∷ NumberE 4 (pos 2) ∷ []))
    ∷ []))
    ∷ CallE 4 (NameE 4 (codes "pairs")) (exps_of (NameE 4 (codes "t") ∷ NumberE 4 (pos 1) ∷ []))
    ∷ CallE 4 (NameE 4 (codes "ipairs")) (exps_of (NameE 4 (codes "t") ∷ NumberE 4 (pos 1) ∷ NumberE 4 (pos 2) ∷ []))
    ∷ []))
    ∷ [])))) ∷ [])) ∷ [])) ∷ [])

abbrev pub PairsHandlerArguments : Type 0
PairsHandlerArguments = without_steps (invoke_module (codes "X") 188 pairs_handler_arguments 6000) ≡ Gives (codes "31123") 0

-- A chain ends at a value that is no table, and a handler on a string is indexed in turn.
--     return {f=function(...)
--     local t=setmetatable({},{__index='abc'})
--     string.name='s'
--     return t.name,select(2,pcall(function() return setmetatable({},{__index=1}).x end))
--     end}
abbrev pub any_chain : Block
any_chain = stats_of (ReturnS 1 (exps_of (TableE 1 (fields_of (Pair (TextE 1 (codes "f")) (FunctionE 1 (Lambda [] true (stats_of (
    LocalS 2 (codes "t" ∷ []) (exps_of (
    CallE 2 (NameE 2 (codes "setmetatable")) (exps_of (TableE 2 NoField ∷ TableE 2 (fields_of (Pair (TextE 2 (codes "__index")) (TextE 2 (codes "abc")) ∷ [])) ∷ []))
    ∷ []))
    ∷ AssignS 3 (exps_of (IndexE 3 (NameE 3 (codes "string")) (TextE 3 (codes "name")) ∷ [])) (exps_of (TextE 3 (codes "s") ∷ []))
    ∷ ReturnS 4 (exps_of (
    IndexE 4 (NameE 4 (codes "t")) (TextE 4 (codes "name"))
    ∷ CallE 4 (NameE 4 (codes "select")) (exps_of (
    NumberE 4 (pos 2)
    ∷ CallE 4 (NameE 4 (codes "pcall")) (exps_of (FunctionE 4 (Lambda [] false (stats_of (ReturnS 4 (exps_of (
    IndexE 4 (CallE 4 (NameE 4 (codes "setmetatable")) (exps_of (TableE 4 NoField ∷ TableE 4 (fields_of (Pair (TextE 4 (codes "__index")) (NumberE 4 (pos 1)) ∷ [])) ∷ []))) (TextE 4 (codes "x"))
    ∷ [])) ∷ []))) ∷ []))
    ∷ []))
    ∷ []))
    ∷ [])))) ∷ [])) ∷ [])) ∷ [])

abbrev pub AnyChain : Type 0
AnyChain = without_steps (invoke_module (codes "X") 169 any_chain 6000) ≡ Gives (codes "sModule:X:4: attempt to index a number value") 0

-- A handler that gives no text for the answer fails, without a place.
--     return {f=function(...)
--     return setmetatable({},{__tostring=function() return {} end})
--     end}
abbrev pub failing_answer : Block
failing_answer = stats_of (ReturnS 1 (exps_of (TableE 1 (fields_of (Pair (TextE 1 (codes "f")) (FunctionE 1 (Lambda [] true (stats_of (ReturnS 2 (exps_of (CallE 2 (NameE 2 (codes "setmetatable")) (exps_of (
    TableE 2 NoField
    ∷ TableE 2 (fields_of (
    Pair (TextE 2 (codes "__tostring")) (FunctionE 2 (Lambda [] false (stats_of (ReturnS 2 (exps_of (TableE 2 NoField ∷ [])) ∷ []))))
    ∷ []))
    ∷ [])) ∷ [])) ∷ [])))) ∷ [])) ∷ [])) ∷ [])

abbrev pub FailingAnswer : Type 0
FailingAnswer = without_steps (invoke_module (codes "X") 90 failing_answer 6000) ≡ Fails (codes "Lua error: 'tostring' must return a string") 0

-- What is left out is absent.
--     return {f=function(...)
--     return type(coroutine),type(print),type(loadstring),type(mw.site)
--     end}
abbrev pub left_out : Block
left_out = stats_of (ReturnS 1 (exps_of (TableE 1 (fields_of (Pair (TextE 1 (codes "f")) (FunctionE 1 (Lambda [] true (stats_of (ReturnS 2 (exps_of (
    CallE 2 (NameE 2 (codes "type")) (exps_of (NameE 2 (codes "coroutine") ∷ []))
    ∷ CallE 2 (NameE 2 (codes "type")) (exps_of (NameE 2 (codes "print") ∷ []))
    ∷ CallE 2 (NameE 2 (codes "type")) (exps_of (NameE 2 (codes "loadstring") ∷ []))
    ∷ CallE 2 (NameE 2 (codes "type")) (exps_of (IndexE 2 (NameE 2 (codes "mw")) (TextE 2 (codes "site")) ∷ []))
    ∷ [])) ∷ [])))) ∷ [])) ∷ [])) ∷ [])

abbrev pub LeftOut : Type 0
LeftOut = without_steps (invoke_module (codes "X") 94 left_out 6000) ≡ Gives (codes "nilnilnilnil") 0

-- ALL OF THEM
abbrev pub AllHandlers : Type 0
AllHandlers =
    AtMostHandler
    × NilIsNotLess
    × Greater
    × CallChain
    × FalseProtects
    × LevelsThroughHandlers
    × LevelsInTostring
    × OneValueOfHandlers
    × NumberAsText
    × MethodFirst
    × LibraryCallsNothing
    × AbsentIsNil
    × KeptTables
    × FalseGoesOn
    × AssertHasNoPlace
    × PairsHandlerArguments
    × AnyChain
    × FailingAnswer
    × LeftOut

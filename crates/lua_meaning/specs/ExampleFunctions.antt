-- EXAMPLES of functions, errors and handlers.
use Rattle.std.specs.Prelude.{◌≡◌, pos, true, false, [], ◌∷◌, codes}
use Rattle.lua_syntax.specs.declared.BinaryOp.TheVariants as op
use Rattle.lua_syntax.specs.declared.UnaryOp.TheVariants as sign
use Rattle.lua_syntax.specs.Tree.{NilE, TrueE, NumberE, TextE, DotsE, FunctionE, NameE, IndexE, CallE, MethodE, TableE, BinaryE, UnaryE, ParenE}
use Rattle.lua_syntax.specs.Tree.{NoExp, NoField, Item, Pair, Lambda, Block, Arm}
use Rattle.lua_syntax.specs.Tree.{AssignS, CallS, WhileS, IfS, LocalFunctionS, LocalS, ReturnS}
use Rattle.lua_syntax.specs.View.{exps_of, fields_of, arms_of, stats_of}
use Rattle.lua_meaning.specs.Trial.{Gives, without_steps, invoke_module}

-- Closures share the variables around them.
--     return {f=function(...)
--     local function make() local n=0 return function() n=n+1 return n end,function() return n end end
--     local inc,get = make()
--     local other = make()
--     inc() inc() other()
--     return get()
--     end}
abbrev pub counters : Block
counters = stats_of (ReturnS 1 (exps_of (TableE 1 (fields_of (Pair (TextE 1 (codes "f")) (FunctionE 1 (Lambda [] true (stats_of (
    LocalFunctionS 2 (codes "make") (Lambda [] false (stats_of (
    LocalS 2 (codes "n" ∷ []) (exps_of (NumberE 2 (pos 0) ∷ []))
    ∷ ReturnS 2 (exps_of (
    FunctionE 2 (Lambda [] false (stats_of (
    AssignS 2 (exps_of (NameE 2 (codes "n") ∷ [])) (exps_of (BinaryE 2 op.Add (NameE 2 (codes "n")) (NumberE 2 (pos 1)) ∷ []))
    ∷ ReturnS 2 (exps_of (NameE 2 (codes "n") ∷ []))
    ∷ [])))
    ∷ FunctionE 2 (Lambda [] false (stats_of (ReturnS 2 (exps_of (NameE 2 (codes "n") ∷ [])) ∷ [])))
    ∷ []))
    ∷ [])))
    ∷ LocalS 3 (codes "inc" ∷ codes "get" ∷ []) (exps_of (CallE 3 (NameE 3 (codes "make")) NoExp ∷ []))
    ∷ LocalS 4 (codes "other" ∷ []) (exps_of (CallE 4 (NameE 4 (codes "make")) NoExp ∷ []))
    ∷ CallS 5 (CallE 5 (NameE 5 (codes "inc")) NoExp)
    ∷ CallS 5 (CallE 5 (NameE 5 (codes "inc")) NoExp)
    ∷ CallS 5 (CallE 5 (NameE 5 (codes "other")) NoExp)
    ∷ ReturnS 6 (exps_of (CallE 6 (NameE 6 (codes "get")) NoExp ∷ []))
    ∷ [])))) ∷ [])) ∷ [])) ∷ [])

abbrev pub Counters : Type 0
Counters = without_steps (invoke_module (codes "X") 202 counters 6000) ≡ Gives (codes "2") 0

-- A loop with `while` has fresh variables in each turn too.
--     return {f=function(...)
--     local fs={}
--     local i=1
--     while i<=2 do local j=i fs[i]=function() j=j+1 return j end i=i+1 end
--     return fs[1](),fs[1](),fs[2]()
--     end}
abbrev pub while_cells : Block
while_cells = stats_of (ReturnS 1 (exps_of (TableE 1 (fields_of (Pair (TextE 1 (codes "f")) (FunctionE 1 (Lambda [] true (stats_of (
    LocalS 2 (codes "fs" ∷ []) (exps_of (TableE 2 NoField ∷ []))
    ∷ LocalS 3 (codes "i" ∷ []) (exps_of (NumberE 3 (pos 1) ∷ []))
    ∷ WhileS 4 (BinaryE 4 op.Le (NameE 4 (codes "i")) (NumberE 4 (pos 2))) (stats_of (
    LocalS 4 (codes "j" ∷ []) (exps_of (NameE 4 (codes "i") ∷ []))
    ∷ AssignS 4 (exps_of (IndexE 4 (NameE 4 (codes "fs")) (NameE 4 (codes "i")) ∷ [])) (exps_of (FunctionE 4 (Lambda [] false (stats_of (
    AssignS 4 (exps_of (NameE 4 (codes "j") ∷ [])) (exps_of (BinaryE 4 op.Add (NameE 4 (codes "j")) (NumberE 4 (pos 1)) ∷ []))
    ∷ ReturnS 4 (exps_of (NameE 4 (codes "j") ∷ []))
    ∷ []))) ∷ []))
    ∷ AssignS 4 (exps_of (NameE 4 (codes "i") ∷ [])) (exps_of (BinaryE 4 op.Add (NameE 4 (codes "i")) (NumberE 4 (pos 1)) ∷ []))
    ∷ []))
    ∷ ReturnS 5 (exps_of (
    CallE 5 (IndexE 5 (NameE 5 (codes "fs")) (NumberE 5 (pos 1))) NoExp
    ∷ CallE 5 (IndexE 5 (NameE 5 (codes "fs")) (NumberE 5 (pos 1))) NoExp
    ∷ CallE 5 (IndexE 5 (NameE 5 (codes "fs")) (NumberE 5 (pos 2))) NoExp
    ∷ []))
    ∷ [])))) ∷ [])) ∷ [])) ∷ [])

abbrev pub WhileCells : Type 0
WhileCells = without_steps (invoke_module (codes "X") 151 while_cells 6000) ≡ Gives (codes "233") 0

-- `pcall` gives false and the error, or true and the values.
--     return {f=function(...)
--     return tostring(pcall(error,'m')), select(2,pcall(error,'m')), pcall(function(...) return ... end,1,2)
--     end}
abbrev pub protected : Block
protected = stats_of (ReturnS 1 (exps_of (TableE 1 (fields_of (Pair (TextE 1 (codes "f")) (FunctionE 1 (Lambda [] true (stats_of (ReturnS 2 (exps_of (
    CallE 2 (NameE 2 (codes "tostring")) (exps_of (CallE 2 (NameE 2 (codes "pcall")) (exps_of (NameE 2 (codes "error") ∷ TextE 2 (codes "m") ∷ [])) ∷ []))
    ∷ CallE 2 (NameE 2 (codes "select")) (exps_of (
    NumberE 2 (pos 2)
    ∷ CallE 2 (NameE 2 (codes "pcall")) (exps_of (NameE 2 (codes "error") ∷ TextE 2 (codes "m") ∷ []))
    ∷ []))
    ∷ CallE 2 (NameE 2 (codes "pcall")) (exps_of (
    FunctionE 2 (Lambda [] true (stats_of (ReturnS 2 (exps_of (DotsE 2 ∷ [])) ∷ [])))
    ∷ NumberE 2 (pos 1)
    ∷ NumberE 2 (pos 2)
    ∷ []))
    ∷ [])) ∷ [])))) ∷ [])) ∷ [])) ∷ [])

abbrev pub Protected : Type 0
Protected = without_steps (invoke_module (codes "X") 131 protected 6000) ≡ Gives (codes "falsemtrue12") 0

-- An error may be any value, and keeps it.
--     return {f=function(...)
--     local t={}
--     local ok,e = pcall(error,t)
--     local ok2,e2 = pcall(error,42)
--     return tostring(e==t), type(e2), tostring(select(2,pcall(error)))
--     end}
abbrev pub values_as_errors : Block
values_as_errors = stats_of (ReturnS 1 (exps_of (TableE 1 (fields_of (Pair (TextE 1 (codes "f")) (FunctionE 1 (Lambda [] true (stats_of (
    LocalS 2 (codes "t" ∷ []) (exps_of (TableE 2 NoField ∷ []))
    ∷ LocalS 3 (codes "ok" ∷ codes "e" ∷ []) (exps_of (CallE 3 (NameE 3 (codes "pcall")) (exps_of (NameE 3 (codes "error") ∷ NameE 3 (codes "t") ∷ [])) ∷ []))
    ∷ LocalS 4 (codes "ok2" ∷ codes "e2" ∷ []) (exps_of (CallE 4 (NameE 4 (codes "pcall")) (exps_of (NameE 4 (codes "error") ∷ NumberE 4 (pos 42) ∷ [])) ∷ []))
    ∷ ReturnS 5 (exps_of (
    CallE 5 (NameE 5 (codes "tostring")) (exps_of (BinaryE 5 op.Eq (NameE 5 (codes "e")) (NameE 5 (codes "t")) ∷ []))
    ∷ CallE 5 (NameE 5 (codes "type")) (exps_of (NameE 5 (codes "e2") ∷ []))
    ∷ CallE 5 (NameE 5 (codes "tostring")) (exps_of (
    CallE 5 (NameE 5 (codes "select")) (exps_of (NumberE 5 (pos 2) ∷ CallE 5 (NameE 5 (codes "pcall")) (exps_of (NameE 5 (codes "error") ∷ [])) ∷ []))
    ∷ []))
    ∷ []))
    ∷ [])))) ∷ [])) ∷ [])) ∷ [])

abbrev pub ValuesAsErrors : Type 0
ValuesAsErrors = without_steps (invoke_module (codes "X") 164 values_as_errors 6000) ≡ Gives (codes "truenumbernil") 0

-- Level 1 is the place that called `error`, level 2 that which called its function; 0 has none.
--     return {f=function(...)
--     local function g(n) error('m',n) end
--     local function e(n)
--       local ok,v = pcall(function()
--         g(n)
--         return 1
--       end)
--       return v..';'
--     end
--     return e(1),e(2),e(0),e(4)
--     end}
abbrev pub places : Block
places = stats_of (ReturnS 1 (exps_of (TableE 1 (fields_of (Pair (TextE 1 (codes "f")) (FunctionE 1 (Lambda [] true (stats_of (
    LocalFunctionS 2 (codes "g") (Lambda (codes "n" ∷ []) false (stats_of (CallS 2 (CallE 2 (NameE 2 (codes "error")) (exps_of (TextE 2 (codes "m") ∷ NameE 2 (codes "n") ∷ []))) ∷ [])))
    ∷ LocalFunctionS 3 (codes "e") (Lambda (codes "n" ∷ []) false (stats_of (
    LocalS 4 (codes "ok" ∷ codes "v" ∷ []) (exps_of (CallE 4 (NameE 4 (codes "pcall")) (exps_of (FunctionE 4 (Lambda [] false (stats_of (
    CallS 5 (CallE 5 (NameE 5 (codes "g")) (exps_of (NameE 5 (codes "n") ∷ [])))
    ∷ ReturnS 6 (exps_of (NumberE 6 (pos 1) ∷ []))
    ∷ []))) ∷ [])) ∷ []))
    ∷ ReturnS 8 (exps_of (BinaryE 8 op.Concat (NameE 8 (codes "v")) (TextE 8 (codes ";")) ∷ []))
    ∷ [])))
    ∷ ReturnS 10 (exps_of (
    CallE 10 (NameE 10 (codes "e")) (exps_of (NumberE 10 (pos 1) ∷ []))
    ∷ CallE 10 (NameE 10 (codes "e")) (exps_of (NumberE 10 (pos 2) ∷ []))
    ∷ CallE 10 (NameE 10 (codes "e")) (exps_of (NumberE 10 (pos 0) ∷ []))
    ∷ CallE 10 (NameE 10 (codes "e")) (exps_of (NumberE 10 (pos 4) ∷ []))
    ∷ []))
    ∷ [])))) ∷ [])) ∷ [])) ∷ [])

abbrev pub Places : Type 0
Places = without_steps (invoke_module (codes "X") 193 places 6000) ≡ Gives (codes "Module:X:2: m;Module:X:5: m;m;m;") 0

-- Messages of operators, with their places.
--     return {f=function(...)
--     local function e(f) local ok,v = pcall(f) return v..';' end
--     local t={}
--     return e(function() return t.x.y end),e(function() t() end),e(function() return 1+t end),e(function() return 'a'..t end),
--      e(function() return 1<'2' end),e(function() return t<t end),e(function() return #nil end),e(function() t[nil]=1 end),e(function() return 'x'+1 end)
--     end}
abbrev pub failing : Block
failing = stats_of (ReturnS 1 (exps_of (TableE 1 (fields_of (Pair (TextE 1 (codes "f")) (FunctionE 1 (Lambda [] true (stats_of (
    LocalFunctionS 2 (codes "e") (Lambda (codes "f" ∷ []) false (stats_of (
    LocalS 2 (codes "ok" ∷ codes "v" ∷ []) (exps_of (CallE 2 (NameE 2 (codes "pcall")) (exps_of (NameE 2 (codes "f") ∷ [])) ∷ []))
    ∷ ReturnS 2 (exps_of (BinaryE 2 op.Concat (NameE 2 (codes "v")) (TextE 2 (codes ";")) ∷ []))
    ∷ [])))
    ∷ LocalS 3 (codes "t" ∷ []) (exps_of (TableE 3 NoField ∷ []))
    ∷ ReturnS 4 (exps_of (
    CallE 4 (NameE 4 (codes "e")) (exps_of (
    FunctionE 4 (Lambda [] false (stats_of (ReturnS 4 (exps_of (IndexE 4 (IndexE 4 (NameE 4 (codes "t")) (TextE 4 (codes "x"))) (TextE 4 (codes "y")) ∷ [])) ∷ [])))
    ∷ []))
    ∷ CallE 4 (NameE 4 (codes "e")) (exps_of (FunctionE 4 (Lambda [] false (stats_of (CallS 4 (CallE 4 (NameE 4 (codes "t")) NoExp) ∷ []))) ∷ []))
    ∷ CallE 4 (NameE 4 (codes "e")) (exps_of (
    FunctionE 4 (Lambda [] false (stats_of (ReturnS 4 (exps_of (BinaryE 4 op.Add (NumberE 4 (pos 1)) (NameE 4 (codes "t")) ∷ [])) ∷ [])))
    ∷ []))
    ∷ CallE 4 (NameE 4 (codes "e")) (exps_of (
    FunctionE 4 (Lambda [] false (stats_of (ReturnS 4 (exps_of (BinaryE 4 op.Concat (TextE 4 (codes "a")) (NameE 4 (codes "t")) ∷ [])) ∷ [])))
    ∷ []))
    ∷ CallE 5 (NameE 5 (codes "e")) (exps_of (
    FunctionE 5 (Lambda [] false (stats_of (ReturnS 5 (exps_of (BinaryE 5 op.Lt (NumberE 5 (pos 1)) (TextE 5 (codes "2")) ∷ [])) ∷ [])))
    ∷ []))
    ∷ CallE 5 (NameE 5 (codes "e")) (exps_of (
    FunctionE 5 (Lambda [] false (stats_of (ReturnS 5 (exps_of (BinaryE 5 op.Lt (NameE 5 (codes "t")) (NameE 5 (codes "t")) ∷ [])) ∷ [])))
    ∷ []))
    ∷ CallE 5 (NameE 5 (codes "e")) (exps_of (FunctionE 5 (Lambda [] false (stats_of (ReturnS 5 (exps_of (UnaryE 5 sign.Len (NilE 5) ∷ [])) ∷ []))) ∷ []))
    ∷ CallE 5 (NameE 5 (codes "e")) (exps_of (
    FunctionE 5 (Lambda [] false (stats_of (AssignS 5 (exps_of (IndexE 5 (NameE 5 (codes "t")) (NilE 5) ∷ [])) (exps_of (NumberE 5 (pos 1) ∷ [])) ∷ [])))
    ∷ []))
    ∷ CallE 5 (NameE 5 (codes "e")) (exps_of (
    FunctionE 5 (Lambda [] false (stats_of (ReturnS 5 (exps_of (BinaryE 5 op.Add (TextE 5 (codes "x")) (NumberE 5 (pos 1)) ∷ [])) ∷ [])))
    ∷ []))
    ∷ []))
    ∷ [])))) ∷ [])) ∷ [])) ∷ [])

abbrev pub Failing : Type 0
Failing = without_steps (invoke_module (codes "X") 370 failing 6000) ≡ Gives (codes "Module:X:4: attempt to index a nil value;Module:X:4: attempt to call a table value;Module:X:4: attempt to perform arithmetic on a table value;Module:X:4: attempt to concatenate a table value;Module:X:5: attempt to compare number with string;Module:X:5: attempt to compare two table values;Module:X:5: attempt to get length of a nil value;Module:X:5: table index is nil;Module:X:5: attempt to perform arithmetic on a string value;") 0

-- Messages of the library's functions are at the place that called; under `pcall` there is none.
--     return {f=function(...)
--     local function e(f,...) local ok,v = pcall(f,...) return v..';' end
--     return e(setmetatable,1),e(function() rawget() end),e(next,{},'k'),e(select,0)
--     end}
abbrev pub bad_arguments : Block
bad_arguments = stats_of (ReturnS 1 (exps_of (TableE 1 (fields_of (Pair (TextE 1 (codes "f")) (FunctionE 1 (Lambda [] true (stats_of (
    LocalFunctionS 2 (codes "e") (Lambda (codes "f" ∷ []) true (stats_of (
    LocalS 2 (codes "ok" ∷ codes "v" ∷ []) (exps_of (CallE 2 (NameE 2 (codes "pcall")) (exps_of (NameE 2 (codes "f") ∷ DotsE 2 ∷ [])) ∷ []))
    ∷ ReturnS 2 (exps_of (BinaryE 2 op.Concat (NameE 2 (codes "v")) (TextE 2 (codes ";")) ∷ []))
    ∷ [])))
    ∷ ReturnS 3 (exps_of (
    CallE 3 (NameE 3 (codes "e")) (exps_of (NameE 3 (codes "setmetatable") ∷ NumberE 3 (pos 1) ∷ []))
    ∷ CallE 3 (NameE 3 (codes "e")) (exps_of (FunctionE 3 (Lambda [] false (stats_of (CallS 3 (CallE 3 (NameE 3 (codes "rawget")) NoExp) ∷ []))) ∷ []))
    ∷ CallE 3 (NameE 3 (codes "e")) (exps_of (NameE 3 (codes "next") ∷ TableE 3 NoField ∷ TextE 3 (codes "k") ∷ []))
    ∷ CallE 3 (NameE 3 (codes "e")) (exps_of (NameE 3 (codes "select") ∷ NumberE 3 (pos 0) ∷ []))
    ∷ []))
    ∷ [])))) ∷ [])) ∷ [])) ∷ [])

abbrev pub BadArguments : Type 0
BadArguments = without_steps (invoke_module (codes "X") 175 bad_arguments 6000) ≡ Gives (codes "bad argument #1 to 'setmetatable' (table expected, got number);Module:X:3: bad argument #1 to 'rawget' (table expected, got no value);invalid key to 'next';bad argument #1 to 'select' (out of range);") 0

-- `xpcall` gives the error to its handler.
--     return {f=function(...)
--     local function h(m) return 'h('..m..')' end
--     local ok,v = xpcall(function() error('x',0) end,h)
--     local ok2,v2 = xpcall(function() return 5 end,h)
--     return tostring(ok),v,tostring(ok2),v2
--     end}
abbrev pub error_handlers : Block
error_handlers = stats_of (ReturnS 1 (exps_of (TableE 1 (fields_of (Pair (TextE 1 (codes "f")) (FunctionE 1 (Lambda [] true (stats_of (
    LocalFunctionS 2 (codes "h") (Lambda (codes "m" ∷ []) false (stats_of (
    ReturnS 2 (exps_of (BinaryE 2 op.Concat (TextE 2 (codes "h(")) (BinaryE 2 op.Concat (NameE 2 (codes "m")) (TextE 2 (codes ")"))) ∷ []))
    ∷ [])))
    ∷ LocalS 3 (codes "ok" ∷ codes "v" ∷ []) (exps_of (CallE 3 (NameE 3 (codes "xpcall")) (exps_of (
    FunctionE 3 (Lambda [] false (stats_of (CallS 3 (CallE 3 (NameE 3 (codes "error")) (exps_of (TextE 3 (codes "x") ∷ NumberE 3 (pos 0) ∷ []))) ∷ [])))
    ∷ NameE 3 (codes "h")
    ∷ [])) ∷ []))
    ∷ LocalS 4 (codes "ok2" ∷ codes "v2" ∷ []) (exps_of (CallE 4 (NameE 4 (codes "xpcall")) (exps_of (
    FunctionE 4 (Lambda [] false (stats_of (ReturnS 4 (exps_of (NumberE 4 (pos 5) ∷ [])) ∷ [])))
    ∷ NameE 4 (codes "h")
    ∷ [])) ∷ []))
    ∷ ReturnS 5 (exps_of (
    CallE 5 (NameE 5 (codes "tostring")) (exps_of (NameE 5 (codes "ok") ∷ []))
    ∷ NameE 5 (codes "v")
    ∷ CallE 5 (NameE 5 (codes "tostring")) (exps_of (NameE 5 (codes "ok2") ∷ []))
    ∷ NameE 5 (codes "v2")
    ∷ []))
    ∷ [])))) ∷ [])) ∷ [])) ∷ [])

abbrev pub ErrorHandlers : Type 0
ErrorHandlers = without_steps (invoke_module (codes "X") 211 error_handlers 6000) ≡ Gives (codes "falseh(x)true5") 0

-- A handler that fails has a message of its own.
--     return {f=function(...)
--     local ok,v = xpcall(function() error('x',0) end,function() error('y') end)
--     return tostring(ok),v
--     end}
abbrev pub failing_handlers : Block
failing_handlers = stats_of (ReturnS 1 (exps_of (TableE 1 (fields_of (Pair (TextE 1 (codes "f")) (FunctionE 1 (Lambda [] true (stats_of (
    LocalS 2 (codes "ok" ∷ codes "v" ∷ []) (exps_of (CallE 2 (NameE 2 (codes "xpcall")) (exps_of (
    FunctionE 2 (Lambda [] false (stats_of (CallS 2 (CallE 2 (NameE 2 (codes "error")) (exps_of (TextE 2 (codes "x") ∷ NumberE 2 (pos 0) ∷ []))) ∷ [])))
    ∷ FunctionE 2 (Lambda [] false (stats_of (CallS 2 (CallE 2 (NameE 2 (codes "error")) (exps_of (TextE 2 (codes "y") ∷ []))) ∷ [])))
    ∷ [])) ∷ []))
    ∷ ReturnS 3 (exps_of (CallE 3 (NameE 3 (codes "tostring")) (exps_of (NameE 3 (codes "ok") ∷ [])) ∷ NameE 3 (codes "v") ∷ []))
    ∷ [])))) ∷ [])) ∷ [])) ∷ [])

abbrev pub FailingHandlers : Type 0
FailingHandlers = without_steps (invoke_module (codes "X") 125 failing_handlers 6000) ≡ Gives (codes "falseerror in error handling") 0

-- Where a key is absent the handler is asked, along a chain of tables.
--     return {f=function(...)
--     local a={x=1}
--     local b=setmetatable({y=2},{__index=a})
--     local c=setmetatable({},{__index=b})
--     return c.x,c.y,tostring(c.z),tostring(rawget(c,'x'))
--     end}
abbrev pub index_chain : Block
index_chain = stats_of (ReturnS 1 (exps_of (TableE 1 (fields_of (Pair (TextE 1 (codes "f")) (FunctionE 1 (Lambda [] true (stats_of (
    LocalS 2 (codes "a" ∷ []) (exps_of (TableE 2 (fields_of (Pair (TextE 2 (codes "x")) (NumberE 2 (pos 1)) ∷ [])) ∷ []))
    ∷ LocalS 3 (codes "b" ∷ []) (exps_of (CallE 3 (NameE 3 (codes "setmetatable")) (exps_of (
    TableE 3 (fields_of (Pair (TextE 3 (codes "y")) (NumberE 3 (pos 2)) ∷ []))
    ∷ TableE 3 (fields_of (Pair (TextE 3 (codes "__index")) (NameE 3 (codes "a")) ∷ []))
    ∷ [])) ∷ []))
    ∷ LocalS 4 (codes "c" ∷ []) (exps_of (
    CallE 4 (NameE 4 (codes "setmetatable")) (exps_of (TableE 4 NoField ∷ TableE 4 (fields_of (Pair (TextE 4 (codes "__index")) (NameE 4 (codes "b")) ∷ [])) ∷ []))
    ∷ []))
    ∷ ReturnS 5 (exps_of (
    IndexE 5 (NameE 5 (codes "c")) (TextE 5 (codes "x"))
    ∷ IndexE 5 (NameE 5 (codes "c")) (TextE 5 (codes "y"))
    ∷ CallE 5 (NameE 5 (codes "tostring")) (exps_of (IndexE 5 (NameE 5 (codes "c")) (TextE 5 (codes "z")) ∷ []))
    ∷ CallE 5 (NameE 5 (codes "tostring")) (exps_of (CallE 5 (NameE 5 (codes "rawget")) (exps_of (NameE 5 (codes "c") ∷ TextE 5 (codes "x") ∷ [])) ∷ []))
    ∷ []))
    ∷ [])))) ∷ [])) ∷ [])) ∷ [])

abbrev pub IndexChain : Type 0
IndexChain = without_steps (invoke_module (codes "X") 172 index_chain 6000) ≡ Gives (codes "12nilnil") 0

-- An assignment to an absent key asks `__newindex`.
--     return {f=function(...)
--     local log=''
--     local store={}
--     local a=setmetatable({old=1},{__newindex=function(t,k,v) log=log..k rawset(t,k,v) end})
--     local b=setmetatable({},{__newindex=store})
--     a.old=2 a.new=3 a.new=4 b.k=5
--     return log,a.old,a.new,tostring(rawget(b,'k')),store.k
--     end}
abbrev pub new_index : Block
new_index = stats_of (ReturnS 1 (exps_of (TableE 1 (fields_of (Pair (TextE 1 (codes "f")) (FunctionE 1 (Lambda [] true (stats_of (
    LocalS 2 (codes "log" ∷ []) (exps_of (TextE 2 [] ∷ []))
    ∷ LocalS 3 (codes "store" ∷ []) (exps_of (TableE 3 NoField ∷ []))
    ∷ LocalS 4 (codes "a" ∷ []) (exps_of (CallE 4 (NameE 4 (codes "setmetatable")) (exps_of (
    TableE 4 (fields_of (Pair (TextE 4 (codes "old")) (NumberE 4 (pos 1)) ∷ []))
    ∷ TableE 4 (fields_of (Pair (TextE 4 (codes "__newindex")) (FunctionE 4 (Lambda (codes "t" ∷ codes "k" ∷ codes "v" ∷ []) false (stats_of (
    AssignS 4 (exps_of (NameE 4 (codes "log") ∷ [])) (exps_of (BinaryE 4 op.Concat (NameE 4 (codes "log")) (NameE 4 (codes "k")) ∷ []))
    ∷ CallS 4 (CallE 4 (NameE 4 (codes "rawset")) (exps_of (NameE 4 (codes "t") ∷ NameE 4 (codes "k") ∷ NameE 4 (codes "v") ∷ [])))
    ∷ [])))) ∷ []))
    ∷ [])) ∷ []))
    ∷ LocalS 5 (codes "b" ∷ []) (exps_of (
    CallE 5 (NameE 5 (codes "setmetatable")) (exps_of (TableE 5 NoField ∷ TableE 5 (fields_of (Pair (TextE 5 (codes "__newindex")) (NameE 5 (codes "store")) ∷ [])) ∷ []))
    ∷ []))
    ∷ AssignS 6 (exps_of (IndexE 6 (NameE 6 (codes "a")) (TextE 6 (codes "old")) ∷ [])) (exps_of (NumberE 6 (pos 2) ∷ []))
    ∷ AssignS 6 (exps_of (IndexE 6 (NameE 6 (codes "a")) (TextE 6 (codes "new")) ∷ [])) (exps_of (NumberE 6 (pos 3) ∷ []))
    ∷ AssignS 6 (exps_of (IndexE 6 (NameE 6 (codes "a")) (TextE 6 (codes "new")) ∷ [])) (exps_of (NumberE 6 (pos 4) ∷ []))
    ∷ AssignS 6 (exps_of (IndexE 6 (NameE 6 (codes "b")) (TextE 6 (codes "k")) ∷ [])) (exps_of (NumberE 6 (pos 5) ∷ []))
    ∷ ReturnS 7 (exps_of (
    NameE 7 (codes "log")
    ∷ IndexE 7 (NameE 7 (codes "a")) (TextE 7 (codes "old"))
    ∷ IndexE 7 (NameE 7 (codes "a")) (TextE 7 (codes "new"))
    ∷ CallE 7 (NameE 7 (codes "tostring")) (exps_of (CallE 7 (NameE 7 (codes "rawget")) (exps_of (NameE 7 (codes "b") ∷ TextE 7 (codes "k") ∷ [])) ∷ []))
    ∷ IndexE 7 (NameE 7 (codes "store")) (TextE 7 (codes "k"))
    ∷ []))
    ∷ [])))) ∷ [])) ∷ [])) ∷ [])

abbrev pub NewIndex : Type 0
NewIndex = without_steps (invoke_module (codes "X") 273 new_index 6000) ≡ Gives (codes "new24nil5") 0

-- The first operand's handler, or else the second's.
--     return {f=function(...)
--     local m={__add=function(a,b) return 'add' end,__concat=function(a,b) return type(a)..type(b) end,__unm=function(a,b) return tostring(a==b) end}
--     local t=setmetatable({},m)
--     return t+1,1+t,t..'x','x'..t,-t
--     end}
abbrev pub arithmetic_handlers : Block
arithmetic_handlers = stats_of (ReturnS 1 (exps_of (TableE 1 (fields_of (Pair (TextE 1 (codes "f")) (FunctionE 1 (Lambda [] true (stats_of (
    LocalS 2 (codes "m" ∷ []) (exps_of (TableE 2 (fields_of (
    Pair (TextE 2 (codes "__add")) (FunctionE 2 (Lambda (codes "a" ∷ codes "b" ∷ []) false (stats_of (ReturnS 2 (exps_of (TextE 2 (codes "add") ∷ [])) ∷ []))))
    ∷ Pair (TextE 2 (codes "__concat")) (FunctionE 2 (Lambda (codes "a" ∷ codes "b" ∷ []) false (stats_of (ReturnS 2 (exps_of (
    BinaryE 2 op.Concat (CallE 2 (NameE 2 (codes "type")) (exps_of (NameE 2 (codes "a") ∷ []))) (CallE 2 (NameE 2 (codes "type")) (exps_of (NameE 2 (codes "b") ∷ [])))
    ∷ [])) ∷ []))))
    ∷ Pair (TextE 2 (codes "__unm")) (FunctionE 2 (Lambda (codes "a" ∷ codes "b" ∷ []) false (stats_of (
    ReturnS 2 (exps_of (CallE 2 (NameE 2 (codes "tostring")) (exps_of (BinaryE 2 op.Eq (NameE 2 (codes "a")) (NameE 2 (codes "b")) ∷ [])) ∷ []))
    ∷ []))))
    ∷ [])) ∷ []))
    ∷ LocalS 3 (codes "t" ∷ []) (exps_of (CallE 3 (NameE 3 (codes "setmetatable")) (exps_of (TableE 3 NoField ∷ NameE 3 (codes "m") ∷ [])) ∷ []))
    ∷ ReturnS 4 (exps_of (
    BinaryE 4 op.Add (NameE 4 (codes "t")) (NumberE 4 (pos 1))
    ∷ BinaryE 4 op.Add (NumberE 4 (pos 1)) (NameE 4 (codes "t"))
    ∷ BinaryE 4 op.Concat (NameE 4 (codes "t")) (TextE 4 (codes "x"))
    ∷ BinaryE 4 op.Concat (TextE 4 (codes "x")) (NameE 4 (codes "t"))
    ∷ UnaryE 4 sign.Minus (NameE 4 (codes "t"))
    ∷ []))
    ∷ [])))) ∷ [])) ∷ [])) ∷ [])

abbrev pub ArithmeticHandlers : Type 0
ArithmeticHandlers = without_steps (invoke_module (codes "X") 231 arithmetic_handlers 6000) ≡ Gives (codes "addaddtablestringstringtabletrue") 0

-- Where both operands have a handler, the first one's is asked.
--     return {f=function(...)
--     local function made(name) return setmetatable({},{__add=function() return name end,__concat=function() return name end}) end
--     local a,b = made('a'),made('b')
--     return a+b,b+a,a..b
--     end}
abbrev pub first_handler : Block
first_handler = stats_of (ReturnS 1 (exps_of (TableE 1 (fields_of (Pair (TextE 1 (codes "f")) (FunctionE 1 (Lambda [] true (stats_of (
    LocalFunctionS 2 (codes "made") (Lambda (codes "name" ∷ []) false (stats_of (ReturnS 2 (exps_of (CallE 2 (NameE 2 (codes "setmetatable")) (exps_of (
    TableE 2 NoField
    ∷ TableE 2 (fields_of (
    Pair (TextE 2 (codes "__add")) (FunctionE 2 (Lambda [] false (stats_of (ReturnS 2 (exps_of (NameE 2 (codes "name") ∷ [])) ∷ []))))
    ∷ Pair (TextE 2 (codes "__concat")) (FunctionE 2 (Lambda [] false (stats_of (ReturnS 2 (exps_of (NameE 2 (codes "name") ∷ [])) ∷ []))))
    ∷ []))
    ∷ [])) ∷ [])) ∷ [])))
    ∷ LocalS 3 (codes "a" ∷ codes "b" ∷ []) (exps_of (
    CallE 3 (NameE 3 (codes "made")) (exps_of (TextE 3 (codes "a") ∷ []))
    ∷ CallE 3 (NameE 3 (codes "made")) (exps_of (TextE 3 (codes "b") ∷ []))
    ∷ []))
    ∷ ReturnS 4 (exps_of (
    BinaryE 4 op.Add (NameE 4 (codes "a")) (NameE 4 (codes "b"))
    ∷ BinaryE 4 op.Add (NameE 4 (codes "b")) (NameE 4 (codes "a"))
    ∷ BinaryE 4 op.Concat (NameE 4 (codes "a")) (NameE 4 (codes "b"))
    ∷ []))
    ∷ [])))) ∷ [])) ∷ [])) ∷ [])

abbrev pub FirstHandler : Type 0
FirstHandler = without_steps (invoke_module (codes "X") 205 first_handler 6000) ≡ Gives (codes "aba") 0

-- `__eq` is asked for two tables that have the same handler.
--     return {f=function(...)
--     local eq=function() return 1 end
--     local a=setmetatable({},{__eq=eq})
--     local b=setmetatable({},{__eq=eq})
--     local c=setmetatable({},{__eq=function() return 1 end})
--     return tostring(a==b),tostring(a~=b),tostring(a==c),tostring(a==1)
--     end}
abbrev pub equal_handlers : Block
equal_handlers = stats_of (ReturnS 1 (exps_of (TableE 1 (fields_of (Pair (TextE 1 (codes "f")) (FunctionE 1 (Lambda [] true (stats_of (
    LocalS 2 (codes "eq" ∷ []) (exps_of (FunctionE 2 (Lambda [] false (stats_of (ReturnS 2 (exps_of (NumberE 2 (pos 1) ∷ [])) ∷ []))) ∷ []))
    ∷ LocalS 3 (codes "a" ∷ []) (exps_of (
    CallE 3 (NameE 3 (codes "setmetatable")) (exps_of (TableE 3 NoField ∷ TableE 3 (fields_of (Pair (TextE 3 (codes "__eq")) (NameE 3 (codes "eq")) ∷ [])) ∷ []))
    ∷ []))
    ∷ LocalS 4 (codes "b" ∷ []) (exps_of (
    CallE 4 (NameE 4 (codes "setmetatable")) (exps_of (TableE 4 NoField ∷ TableE 4 (fields_of (Pair (TextE 4 (codes "__eq")) (NameE 4 (codes "eq")) ∷ [])) ∷ []))
    ∷ []))
    ∷ LocalS 5 (codes "c" ∷ []) (exps_of (CallE 5 (NameE 5 (codes "setmetatable")) (exps_of (
    TableE 5 NoField
    ∷ TableE 5 (fields_of (
    Pair (TextE 5 (codes "__eq")) (FunctionE 5 (Lambda [] false (stats_of (ReturnS 5 (exps_of (NumberE 5 (pos 1) ∷ [])) ∷ []))))
    ∷ []))
    ∷ [])) ∷ []))
    ∷ ReturnS 6 (exps_of (
    CallE 6 (NameE 6 (codes "tostring")) (exps_of (BinaryE 6 op.Eq (NameE 6 (codes "a")) (NameE 6 (codes "b")) ∷ []))
    ∷ CallE 6 (NameE 6 (codes "tostring")) (exps_of (BinaryE 6 op.Ne (NameE 6 (codes "a")) (NameE 6 (codes "b")) ∷ []))
    ∷ CallE 6 (NameE 6 (codes "tostring")) (exps_of (BinaryE 6 op.Eq (NameE 6 (codes "a")) (NameE 6 (codes "c")) ∷ []))
    ∷ CallE 6 (NameE 6 (codes "tostring")) (exps_of (BinaryE 6 op.Eq (NameE 6 (codes "a")) (NumberE 6 (pos 1)) ∷ []))
    ∷ []))
    ∷ [])))) ∷ [])) ∷ [])) ∷ [])

abbrev pub EqualHandlers : Type 0
EqualHandlers = without_steps (invoke_module (codes "X") 254 equal_handlers 6000) ≡ Gives (codes "truefalsefalsefalse") 0

-- A table with `__call` is called with itself first.
--     return {f=function(...)
--     local t=setmetatable({n=2},{__call=function(self,a,b) return self.n+a+b end})
--     return t(3,4),pcall(t,1,1)
--     end}
abbrev pub call_handlers : Block
call_handlers = stats_of (ReturnS 1 (exps_of (TableE 1 (fields_of (Pair (TextE 1 (codes "f")) (FunctionE 1 (Lambda [] true (stats_of (
    LocalS 2 (codes "t" ∷ []) (exps_of (CallE 2 (NameE 2 (codes "setmetatable")) (exps_of (
    TableE 2 (fields_of (Pair (TextE 2 (codes "n")) (NumberE 2 (pos 2)) ∷ []))
    ∷ TableE 2 (fields_of (Pair (TextE 2 (codes "__call")) (FunctionE 2 (Lambda (codes "self" ∷ codes "a" ∷ codes "b" ∷ []) false (stats_of (ReturnS 2 (exps_of (
    BinaryE 2 op.Add (BinaryE 2 op.Add (IndexE 2 (NameE 2 (codes "self")) (TextE 2 (codes "n"))) (NameE 2 (codes "a"))) (NameE 2 (codes "b"))
    ∷ [])) ∷ [])))) ∷ []))
    ∷ [])) ∷ []))
    ∷ ReturnS 3 (exps_of (
    CallE 3 (NameE 3 (codes "t")) (exps_of (NumberE 3 (pos 3) ∷ NumberE 3 (pos 4) ∷ []))
    ∷ CallE 3 (NameE 3 (codes "pcall")) (exps_of (NameE 3 (codes "t") ∷ NumberE 3 (pos 1) ∷ NumberE 3 (pos 1) ∷ []))
    ∷ []))
    ∷ [])))) ∷ [])) ∷ [])) ∷ [])

abbrev pub CallHandlers : Type 0
CallHandlers = without_steps (invoke_module (codes "X") 133 call_handlers 6000) ≡ Gives (codes "9true4") 0

-- `__tostring` gives the text of a table.
--     return {f=function(...)
--     local t=setmetatable({},{__tostring=function() return 'T' end})
--     return tostring(t)..'!',t
--     end}
abbrev pub to_text : Block
to_text = stats_of (ReturnS 1 (exps_of (TableE 1 (fields_of (Pair (TextE 1 (codes "f")) (FunctionE 1 (Lambda [] true (stats_of (
    LocalS 2 (codes "t" ∷ []) (exps_of (CallE 2 (NameE 2 (codes "setmetatable")) (exps_of (
    TableE 2 NoField
    ∷ TableE 2 (fields_of (
    Pair (TextE 2 (codes "__tostring")) (FunctionE 2 (Lambda [] false (stats_of (ReturnS 2 (exps_of (TextE 2 (codes "T") ∷ [])) ∷ []))))
    ∷ []))
    ∷ [])) ∷ []))
    ∷ ReturnS 3 (exps_of (
    BinaryE 3 op.Concat (CallE 3 (NameE 3 (codes "tostring")) (exps_of (NameE 3 (codes "t") ∷ []))) (TextE 3 (codes "!"))
    ∷ NameE 3 (codes "t")
    ∷ []))
    ∷ [])))) ∷ [])) ∷ [])) ∷ [])

abbrev pub ToText : Type 0
ToText = without_steps (invoke_module (codes "X") 118 to_text 6000) ≡ Gives (codes "T!T") 0

-- What `__tostring` gives must be a string.
--     return {f=function(...)
--     local t=setmetatable({},{__tostring=function() return {} end})
--     local ok,e = pcall(tostring,t)
--     return e..';',select(2,pcall(function() return tostring(t) end))
--     end}
abbrev pub no_text : Block
no_text = stats_of (ReturnS 1 (exps_of (TableE 1 (fields_of (Pair (TextE 1 (codes "f")) (FunctionE 1 (Lambda [] true (stats_of (
    LocalS 2 (codes "t" ∷ []) (exps_of (CallE 2 (NameE 2 (codes "setmetatable")) (exps_of (
    TableE 2 NoField
    ∷ TableE 2 (fields_of (
    Pair (TextE 2 (codes "__tostring")) (FunctionE 2 (Lambda [] false (stats_of (ReturnS 2 (exps_of (TableE 2 NoField ∷ [])) ∷ []))))
    ∷ []))
    ∷ [])) ∷ []))
    ∷ LocalS 3 (codes "ok" ∷ codes "e" ∷ []) (exps_of (CallE 3 (NameE 3 (codes "pcall")) (exps_of (NameE 3 (codes "tostring") ∷ NameE 3 (codes "t") ∷ [])) ∷ []))
    ∷ ReturnS 4 (exps_of (
    BinaryE 4 op.Concat (NameE 4 (codes "e")) (TextE 4 (codes ";"))
    ∷ CallE 4 (NameE 4 (codes "select")) (exps_of (
    NumberE 4 (pos 2)
    ∷ CallE 4 (NameE 4 (codes "pcall")) (exps_of (
    FunctionE 4 (Lambda [] false (stats_of (ReturnS 4 (exps_of (CallE 4 (NameE 4 (codes "tostring")) (exps_of (NameE 4 (codes "t") ∷ [])) ∷ [])) ∷ [])))
    ∷ []))
    ∷ []))
    ∷ []))
    ∷ [])))) ∷ [])) ∷ [])) ∷ [])

abbrev pub NoText : Type 0
NoText = without_steps (invoke_module (codes "X") 187 no_text 6000) ≡ Gives (codes "'tostring' must return a string;Module:X:4: 'tostring' must return a string") 0

-- A string is indexed in the table `string`.
--     return {f=function(...)
--     string.twice=function(s) return s..s end
--     return ('ab'):twice(),tostring(('x').none)
--     end}
abbrev pub methods_of_strings : Block
methods_of_strings = stats_of (ReturnS 1 (exps_of (TableE 1 (fields_of (Pair (TextE 1 (codes "f")) (FunctionE 1 (Lambda [] true (stats_of (
    AssignS 2 (exps_of (IndexE 2 (NameE 2 (codes "string")) (TextE 2 (codes "twice")) ∷ [])) (exps_of (
    FunctionE 2 (Lambda (codes "s" ∷ []) false (stats_of (ReturnS 2 (exps_of (BinaryE 2 op.Concat (NameE 2 (codes "s")) (NameE 2 (codes "s")) ∷ [])) ∷ [])))
    ∷ []))
    ∷ ReturnS 3 (exps_of (
    MethodE 3 (ParenE 3 (TextE 3 (codes "ab"))) (codes "twice") NoExp
    ∷ CallE 3 (NameE 3 (codes "tostring")) (exps_of (IndexE 3 (ParenE 3 (TextE 3 (codes "x"))) (TextE 3 (codes "none")) ∷ []))
    ∷ []))
    ∷ [])))) ∷ [])) ∷ [])) ∷ [])

abbrev pub MethodsOfStrings : Type 0
MethodsOfStrings = without_steps (invoke_module (codes "X") 112 methods_of_strings 6000) ≡ Gives (codes "ababnil") 0

-- A metatable may be protected.
--     return {f=function(...)
--     local t=setmetatable({},{__metatable='no'})
--     local ok,e=pcall(setmetatable,t,{})
--     return getmetatable(t),tostring(ok),e
--     end}
abbrev pub protected_metatables : Block
protected_metatables = stats_of (ReturnS 1 (exps_of (TableE 1 (fields_of (Pair (TextE 1 (codes "f")) (FunctionE 1 (Lambda [] true (stats_of (
    LocalS 2 (codes "t" ∷ []) (exps_of (
    CallE 2 (NameE 2 (codes "setmetatable")) (exps_of (TableE 2 NoField ∷ TableE 2 (fields_of (Pair (TextE 2 (codes "__metatable")) (TextE 2 (codes "no")) ∷ [])) ∷ []))
    ∷ []))
    ∷ LocalS 3 (codes "ok" ∷ codes "e" ∷ []) (exps_of (
    CallE 3 (NameE 3 (codes "pcall")) (exps_of (NameE 3 (codes "setmetatable") ∷ NameE 3 (codes "t") ∷ TableE 3 NoField ∷ []))
    ∷ []))
    ∷ ReturnS 4 (exps_of (
    CallE 4 (NameE 4 (codes "getmetatable")) (exps_of (NameE 4 (codes "t") ∷ []))
    ∷ CallE 4 (NameE 4 (codes "tostring")) (exps_of (NameE 4 (codes "ok") ∷ []))
    ∷ NameE 4 (codes "e")
    ∷ []))
    ∷ [])))) ∷ [])) ∷ [])) ∷ [])

abbrev pub ProtectedMetatables : Type 0
ProtectedMetatables = without_steps (invoke_module (codes "X") 146 protected_metatables 6000) ≡ Gives (codes "nofalsecannot change a protected metatable") 0

-- Global variables are entries of a table, whose metatable is asked too.
--     return {f=function(...)
--     setmetatable(_G,{__index=function(t,k) return k..'?' end})
--     x=1
--     return x,_G.x,y
--     end}
abbrev pub global_handlers : Block
global_handlers = stats_of (ReturnS 1 (exps_of (TableE 1 (fields_of (Pair (TextE 1 (codes "f")) (FunctionE 1 (Lambda [] true (stats_of (
    CallS 2 (CallE 2 (NameE 2 (codes "setmetatable")) (exps_of (
    NameE 2 (codes "_G")
    ∷ TableE 2 (fields_of (
    Pair (TextE 2 (codes "__index")) (FunctionE 2 (Lambda (codes "t" ∷ codes "k" ∷ []) false (stats_of (ReturnS 2 (exps_of (BinaryE 2 op.Concat (NameE 2 (codes "k")) (TextE 2 (codes "?")) ∷ [])) ∷ []))))
    ∷ []))
    ∷ [])))
    ∷ AssignS 3 (exps_of (NameE 3 (codes "x") ∷ [])) (exps_of (NumberE 3 (pos 1) ∷ []))
    ∷ ReturnS 4 (exps_of (NameE 4 (codes "x") ∷ IndexE 4 (NameE 4 (codes "_G")) (TextE 4 (codes "x")) ∷ NameE 4 (codes "y") ∷ []))
    ∷ [])))) ∷ [])) ∷ [])) ∷ [])

abbrev pub GlobalHandlers : Type 0
GlobalHandlers = without_steps (invoke_module (codes "X") 107 global_handlers 6000) ≡ Gives (codes "11y?") 0

-- `rawequal` and `next` ask no handlers.
--     return {f=function(...)
--     local t=setmetatable({},{__eq=function() return true end})
--     return tostring(rawequal(t,setmetatable({},getmetatable(t)))),tostring(next({})),next({7})
--     end}
abbrev pub raw_equality : Block
raw_equality = stats_of (ReturnS 1 (exps_of (TableE 1 (fields_of (Pair (TextE 1 (codes "f")) (FunctionE 1 (Lambda [] true (stats_of (
    LocalS 2 (codes "t" ∷ []) (exps_of (CallE 2 (NameE 2 (codes "setmetatable")) (exps_of (
    TableE 2 NoField
    ∷ TableE 2 (fields_of (
    Pair (TextE 2 (codes "__eq")) (FunctionE 2 (Lambda [] false (stats_of (ReturnS 2 (exps_of (TrueE 2 ∷ [])) ∷ []))))
    ∷ []))
    ∷ [])) ∷ []))
    ∷ ReturnS 3 (exps_of (
    CallE 3 (NameE 3 (codes "tostring")) (exps_of (CallE 3 (NameE 3 (codes "rawequal")) (exps_of (
    NameE 3 (codes "t")
    ∷ CallE 3 (NameE 3 (codes "setmetatable")) (exps_of (TableE 3 NoField ∷ CallE 3 (NameE 3 (codes "getmetatable")) (exps_of (NameE 3 (codes "t") ∷ [])) ∷ []))
    ∷ [])) ∷ []))
    ∷ CallE 3 (NameE 3 (codes "tostring")) (exps_of (CallE 3 (NameE 3 (codes "next")) (exps_of (TableE 3 NoField ∷ [])) ∷ []))
    ∷ CallE 3 (NameE 3 (codes "next")) (exps_of (TableE 3 (fields_of (Item (NumberE 3 (pos 7)) ∷ [])) ∷ []))
    ∷ []))
    ∷ [])))) ∷ [])) ∷ [])) ∷ [])

abbrev pub RawEquality : Type 0
RawEquality = without_steps (invoke_module (codes "X") 178 raw_equality 6000) ≡ Gives (codes "falsenil17") 0

-- A call at the end gives all the values of the function that it calls.
--     return {f=function(...)
--     local function g(n) if n==0 then return 'x','y' end return g(n-1) end
--     return g(3)
--     end}
abbrev pub tail_values : Block
tail_values = stats_of (ReturnS 1 (exps_of (TableE 1 (fields_of (Pair (TextE 1 (codes "f")) (FunctionE 1 (Lambda [] true (stats_of (
    LocalFunctionS 2 (codes "g") (Lambda (codes "n" ∷ []) false (stats_of (
    IfS 2 (arms_of (
    Arm (BinaryE 2 op.Eq (NameE 2 (codes "n")) (NumberE 2 (pos 0))) (stats_of (ReturnS 2 (exps_of (TextE 2 (codes "x") ∷ TextE 2 (codes "y") ∷ [])) ∷ []))
    ∷ []))
    ∷ ReturnS 2 (exps_of (CallE 2 (NameE 2 (codes "g")) (exps_of (BinaryE 2 op.Sub (NameE 2 (codes "n")) (NumberE 2 (pos 1)) ∷ [])) ∷ []))
    ∷ [])))
    ∷ ReturnS 3 (exps_of (CallE 3 (NameE 3 (codes "g")) (exps_of (NumberE 3 (pos 3) ∷ [])) ∷ []))
    ∷ [])))) ∷ [])) ∷ [])) ∷ [])

abbrev pub TailValues : Type 0
TailValues = without_steps (invoke_module (codes "X") 110 tail_values 6000) ≡ Gives (codes "xy") 0

-- ALL OF THEM
abbrev pub AllFunctions : Type 0
AllFunctions =
    Counters
    × WhileCells
    × Protected
    × ValuesAsErrors
    × Places
    × Failing
    × BadArguments
    × ErrorHandlers
    × FailingHandlers
    × IndexChain
    × NewIndex
    × ArithmeticHandlers
    × FirstHandler
    × EqualHandlers
    × CallHandlers
    × ToText
    × NoText
    × MethodsOfStrings
    × ProtectedMetatables
    × GlobalHandlers
    × RawEquality
    × TailValues

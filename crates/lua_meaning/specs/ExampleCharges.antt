-- EXAMPLES of charges, and of how runs end.
use Rattle.std.specs.Prelude.{◌≡◌, pos, false, [], ◌∷◌, codes}
use Rattle.lua_syntax.specs.declared.BinaryOp.TheVariants as op
use Rattle.lua_syntax.specs.declared.UnaryOp.TheVariants as sign
use Rattle.lua_syntax.specs.Tree.{TrueE, FalseE, NumberE, TextE, FunctionE, NameE, IndexE, CallE, TableE, BinaryE, UnaryE}
use Rattle.lua_syntax.specs.Tree.{NoExp, NoField, Pair, Lambda, Block, NoStat, Arm}
use Rattle.lua_syntax.specs.Tree.{AssignS, CallS, WhileS, IfS, CountS, LocalFunctionS, LocalS, ReturnS}
use Rattle.lua_syntax.specs.View.{exps_of, fields_of, arms_of, stats_of}
use Rattle.page_run.specs.declared.which.Which.TheVariants.{Steps, Calls}
use Rattle.mw_frame.specs.declared.question.Ask.TheVariants.{Data}
use Rattle.lua_walk.specs.LuaHeapValue.{Text}
use Rattle.lua_meaning.specs.Questions.{Loaded}
use Rattle.lua_meaning.specs.Trial.{Gives, Fails, Spends, Loads, Asks, without_steps, arg, invoke_module, invoke_with_calls, invoke_with_args, load_module, invoke_fault, count_nodes, notes_of, named, module_text, module_title, reply, invoke_in_template}

-- 1,000 for the start, 36 for the text, and 29 for what it does.
--     return {f=function() return 'a' end}
abbrev pub smallest : Block
smallest = stats_of (ReturnS 1 (exps_of (TableE 1 (fields_of (
    Pair (TextE 1 (codes "f")) (FunctionE 1 (Lambda [] false (stats_of (ReturnS 1 (exps_of (TextE 1 (codes "a") ∷ [])) ∷ []))))
    ∷ [])) ∷ [])) ∷ [])

abbrev pub Smallest : Type 0
Smallest = (invoke_module (codes "A") 36 smallest 1065 ≡ Gives (codes "a") 0) × (invoke_module (codes "A") 36 smallest 1064 ≡ Spends Steps 0)

-- 1,083 for the start, the text and the chunk; then `f` asks after 9 steps more. The load takes 1,031, and 2 are left to read the field and to answer.
--     return {f=function() return mw.loadData('Module:D').x end}
abbrev pub start : Block
start = stats_of (ReturnS 1 (exps_of (TableE 1 (fields_of (Pair (TextE 1 (codes "f")) (FunctionE 1 (Lambda [] false (stats_of (ReturnS 1 (exps_of (
    IndexE 1 (CallE 1 (IndexE 1 (NameE 1 (codes "mw")) (TextE 1 (codes "loadData"))) (exps_of (TextE 1 (codes "Module:D") ∷ []))) (TextE 1 (codes "x"))
    ∷ [])) ∷ [])))) ∷ [])) ∷ [])) ∷ [])

abbrev pub Start : Type 0
Start = (invoke_in_template (module_text (codes "M") 58 start ∷ []) [] (codes "M") 2125 [] ≡ Asks (Data (module_title (codes "D"))) 1033) × (invoke_in_template (module_text (codes "M") 58 start ∷ []) [] (codes "M") 2125 (reply (Loaded (((Text (codes "x"), Text (codes "v")) ∷ []) ∷ [])) 2 ∷ []) ≡ Gives (codes "v") 0) × (invoke_in_template (module_text (codes "M") 58 start ∷ []) [] (codes "M") 2124 (reply (Loaded (((Text (codes "x"), Text (codes "v")) ∷ []) ∷ [])) 1 ∷ []) ≡ Spends Steps 0) × (invoke_in_template (module_text (codes "M") 58 start ∷ []) [] (codes "M") 1092 [] ≡ Asks (Data (module_title (codes "D"))) 0) × (invoke_in_template (module_text (codes "M") 58 start ∷ []) [] (codes "M") 1091 [] ≡ Spends Steps 0)

-- The load of a data module: 1,000 for the start, 14 for the text, and 17 for what it does.
--     return {x='v'}
abbrev pub data_start : Block
data_start = stats_of (ReturnS 1 (exps_of (TableE 1 (fields_of (Pair (TextE 1 (codes "x")) (TextE 1 (codes "v")) ∷ [])) ∷ [])) ∷ [])

abbrev pub DataStart : Type 0
DataStart = (load_module (codes "D") 14 data_start 1031 ≡ Loads 0) × (load_module (codes "D") 14 data_start 1030 ≡ Spends Steps 0)

-- Arguments cost 4 each, and the bytes of their names and values. A name that is a place is a number.
--     return {f=function(frame) local a=frame.args return a[1]..a['1']..a.k..#a end}
abbrev pub arguments : Block
arguments = stats_of (ReturnS 1 (exps_of (TableE 1 (fields_of (Pair (TextE 1 (codes "f")) (FunctionE 1 (Lambda (codes "frame" ∷ []) false (stats_of (
    LocalS 1 (codes "a" ∷ []) (exps_of (IndexE 1 (NameE 1 (codes "frame")) (TextE 1 (codes "args")) ∷ []))
    ∷ ReturnS 1 (exps_of (
    BinaryE 1 op.Concat (IndexE 1 (NameE 1 (codes "a")) (NumberE 1 (pos 1))) (BinaryE 1 op.Concat (IndexE 1 (NameE 1 (codes "a")) (TextE 1 (codes "1"))) (BinaryE 1 op.Concat (IndexE 1 (NameE 1 (codes "a")) (TextE 1 (codes "k"))) (UnaryE 1 sign.Len (NameE 1 (codes "a")))))
    ∷ []))
    ∷ [])))) ∷ [])) ∷ [])) ∷ [])

abbrev pub Arguments : Type 0
Arguments = (invoke_with_args (arg (codes "1") (codes "x") ∷ arg (codes "k") (codes "v") ∷ []) 20000 (codes "G") 78 arguments 1150 ≡ Gives (codes "xxv1") 0) × (invoke_with_args (arg (codes "1") (codes "x") ∷ arg (codes "k") (codes "v") ∷ []) 20000 (codes "G") 78 arguments 1149 ≡ Spends Steps 0)

-- Counted are two functions entered, seven nodes, and three turns of the loop.
--     return {f=function() for i=1,3 do end end}
abbrev pub nodes : Block
nodes = stats_of (ReturnS 1 (exps_of (TableE 1 (fields_of (
    Pair (TextE 1 (codes "f")) (FunctionE 1 (Lambda [] false (stats_of (CountS 1 (codes "i") (NumberE 1 (pos 1)) (NumberE 1 (pos 3)) NoStat ∷ []))))
    ∷ [])) ∷ [])) ∷ [])

abbrev pub Nodes : Type 0
Nodes = count_nodes (codes "X") 42 nodes 6000 ≡ 12

-- The global variables that a text names are noted, each where it is read or written; local ones and keys are not.
--     return {f=function()
--      x=y local y=1 y=x
--      function g() end
--      _G.z=y
--      x,y=x,1
--      return g and x
--     end}
abbrev pub names_are_noted : Block
names_are_noted = stats_of (ReturnS 1 (exps_of (TableE 1 (fields_of (Pair (TextE 1 (codes "f")) (FunctionE 1 (Lambda [] false (stats_of (
    AssignS 2 (exps_of (NameE 2 (codes "x") ∷ [])) (exps_of (NameE 2 (codes "y") ∷ []))
    ∷ LocalS 2 (codes "y" ∷ []) (exps_of (NumberE 2 (pos 1) ∷ []))
    ∷ AssignS 2 (exps_of (NameE 2 (codes "y") ∷ [])) (exps_of (NameE 2 (codes "x") ∷ []))
    ∷ AssignS 3 (exps_of (NameE 3 (codes "g") ∷ [])) (exps_of (FunctionE 3 (Lambda [] false NoStat) ∷ []))
    ∷ AssignS 4 (exps_of (IndexE 4 (NameE 4 (codes "_G")) (TextE 4 (codes "z")) ∷ [])) (exps_of (NameE 4 (codes "y") ∷ []))
    ∷ AssignS 5 (exps_of (NameE 5 (codes "x") ∷ NameE 5 (codes "y") ∷ [])) (exps_of (NameE 5 (codes "x") ∷ NumberE 5 (pos 1) ∷ []))
    ∷ ReturnS 6 (exps_of (BinaryE 6 op.And (NameE 6 (codes "g")) (NameE 6 (codes "x")) ∷ []))
    ∷ [])))) ∷ [])) ∷ [])) ∷ [])

abbrev pub NamesAreNoted : Type 0
NamesAreNoted = notes_of (codes "X") 95 names_are_noted 6000 ≡ (named (codes "Module:X") (codes "y") ∷ named (codes "Module:X") (codes "x") ∷ named (codes "Module:X") (codes "x") ∷ named (codes "Module:X") (codes "g") ∷ named (codes "Module:X") (codes "_G") ∷ named (codes "Module:X") (codes "x") ∷ named (codes "Module:X") (codes "x") ∷ named (codes "Module:X") (codes "g") ∷ named (codes "Module:X") (codes "x") ∷ [])

-- A global variable lives as long as its invocation: in each one the counter gives 1.
--     n=0 local p={} function p.f() n=n+1 return n end return p
abbrev pub counter : Block
counter = stats_of (
    AssignS 1 (exps_of (NameE 1 (codes "n") ∷ [])) (exps_of (NumberE 1 (pos 0) ∷ []))
    ∷ LocalS 1 (codes "p" ∷ []) (exps_of (TableE 1 NoField ∷ []))
    ∷ AssignS 1 (exps_of (IndexE 1 (NameE 1 (codes "p")) (TextE 1 (codes "f")) ∷ [])) (exps_of (FunctionE 1 (Lambda [] false (stats_of (
    AssignS 1 (exps_of (NameE 1 (codes "n") ∷ [])) (exps_of (BinaryE 1 op.Add (NameE 1 (codes "n")) (NumberE 1 (pos 1)) ∷ []))
    ∷ ReturnS 1 (exps_of (NameE 1 (codes "n") ∷ []))
    ∷ []))) ∷ []))
    ∷ ReturnS 1 (exps_of (NameE 1 (codes "p") ∷ []))
    ∷ [])

abbrev pub Counter : Type 0
Counter = without_steps (invoke_module (codes "C") 57 counter 6000) ≡ Gives (codes "1") 0

-- A table holds itself.
--     local p={} function p.f() local t={} t.t=t return t.t.t.t==t and 'y' end return p
abbrev pub holds_itself : Block
holds_itself = stats_of (
    LocalS 1 (codes "p" ∷ []) (exps_of (TableE 1 NoField ∷ []))
    ∷ AssignS 1 (exps_of (IndexE 1 (NameE 1 (codes "p")) (TextE 1 (codes "f")) ∷ [])) (exps_of (FunctionE 1 (Lambda [] false (stats_of (
    LocalS 1 (codes "t" ∷ []) (exps_of (TableE 1 NoField ∷ []))
    ∷ AssignS 1 (exps_of (IndexE 1 (NameE 1 (codes "t")) (TextE 1 (codes "t")) ∷ [])) (exps_of (NameE 1 (codes "t") ∷ []))
    ∷ ReturnS 1 (exps_of (
    BinaryE 1 op.And (BinaryE 1 op.Eq (IndexE 1 (IndexE 1 (IndexE 1 (NameE 1 (codes "t")) (TextE 1 (codes "t"))) (TextE 1 (codes "t"))) (TextE 1 (codes "t"))) (NameE 1 (codes "t"))) (TextE 1 (codes "y"))
    ∷ []))
    ∷ []))) ∷ []))
    ∷ ReturnS 1 (exps_of (NameE 1 (codes "p") ∷ []))
    ∷ [])

abbrev pub HoldsItself : Type 0
HoldsItself = without_steps (invoke_module (codes "K") 81 holds_itself 6000) ≡ Gives (codes "y") 0

-- Nothing catches spent steps.
--     local p={} function p.f() while true do pcall(p.f) end end return p
abbrev pub catches_all : Block
catches_all = stats_of (
    LocalS 1 (codes "p" ∷ []) (exps_of (TableE 1 NoField ∷ []))
    ∷ AssignS 1 (exps_of (IndexE 1 (NameE 1 (codes "p")) (TextE 1 (codes "f")) ∷ [])) (exps_of (FunctionE 1 (Lambda [] false (stats_of (WhileS 1 (TrueE 1) (stats_of (
    CallS 1 (CallE 1 (NameE 1 (codes "pcall")) (exps_of (IndexE 1 (NameE 1 (codes "p")) (TextE 1 (codes "f")) ∷ [])))
    ∷ [])) ∷ []))) ∷ []))
    ∷ ReturnS 1 (exps_of (NameE 1 (codes "p") ∷ []))
    ∷ [])

abbrev pub CatchesAll : Type 0
CatchesAll = invoke_module (codes "L") 67 catches_all 3000 ≡ Spends Steps 0

-- A tail call nests too, until no call is left: 1,081 for the start and the chunk, 1 for the first call, and 6 for each of 50.
--     local p={} function p.f() return p.f() end return p
abbrev pub nests : Block
nests = stats_of (
    LocalS 1 (codes "p" ∷ []) (exps_of (TableE 1 NoField ∷ []))
    ∷ AssignS 1 (exps_of (IndexE 1 (NameE 1 (codes "p")) (TextE 1 (codes "f")) ∷ [])) (exps_of (
    FunctionE 1 (Lambda [] false (stats_of (ReturnS 1 (exps_of (CallE 1 (IndexE 1 (NameE 1 (codes "p")) (TextE 1 (codes "f"))) NoExp ∷ [])) ∷ [])))
    ∷ []))
    ∷ ReturnS 1 (exps_of (NameE 1 (codes "p") ∷ []))
    ∷ [])

abbrev pub Nests : Type 0
Nests = invoke_with_calls 50 (codes "H") 51 nests 3000 ≡ Spends Calls 1618

-- What `..` gives is charged.
--     local a = 'x' return {f = function() local b = a .. 'y' return b .. a end}
abbrev pub joins : Block
joins = stats_of (
    LocalS 1 (codes "a" ∷ []) (exps_of (TextE 1 (codes "x") ∷ []))
    ∷ ReturnS 1 (exps_of (TableE 1 (fields_of (Pair (TextE 1 (codes "f")) (FunctionE 1 (Lambda [] false (stats_of (
    LocalS 1 (codes "b" ∷ []) (exps_of (BinaryE 1 op.Concat (NameE 1 (codes "a")) (TextE 1 (codes "y")) ∷ []))
    ∷ ReturnS 1 (exps_of (BinaryE 1 op.Concat (NameE 1 (codes "b")) (NameE 1 (codes "a")) ∷ []))
    ∷ [])))) ∷ [])) ∷ []))
    ∷ [])

abbrev pub Joins : Type 0
Joins = without_steps (invoke_module (codes "Hi") 74 joins 6000) ≡ Gives (codes "xyx") 0

-- The answer is a text, and is not expanded here.
--     return {f = function() return '{{T}}' end}
abbrev pub no_markup : Block
no_markup = stats_of (ReturnS 1 (exps_of (TableE 1 (fields_of (
    Pair (TextE 1 (codes "f")) (FunctionE 1 (Lambda [] false (stats_of (ReturnS 1 (exps_of (TextE 1 (codes "{{T}}") ∷ [])) ∷ []))))
    ∷ [])) ∷ [])) ∷ [])

abbrev pub NoMarkup : Type 0
NoMarkup = without_steps (invoke_module (codes "V") 42 no_markup 6000) ≡ Gives (codes "{{T}}") 0

-- Each turn of a loop has variables of its own, which closures keep.
--     local p={} function p.f() local fs={} for i=1,3 do fs[i]=function() i=i+10 return i end end return fs[1]()..fs[1]()..fs[2]() end return p
abbrev pub cells : Block
cells = stats_of (
    LocalS 1 (codes "p" ∷ []) (exps_of (TableE 1 NoField ∷ []))
    ∷ AssignS 1 (exps_of (IndexE 1 (NameE 1 (codes "p")) (TextE 1 (codes "f")) ∷ [])) (exps_of (FunctionE 1 (Lambda [] false (stats_of (
    LocalS 1 (codes "fs" ∷ []) (exps_of (TableE 1 NoField ∷ []))
    ∷ CountS 1 (codes "i") (NumberE 1 (pos 1)) (NumberE 1 (pos 3)) (stats_of (AssignS 1 (exps_of (IndexE 1 (NameE 1 (codes "fs")) (NameE 1 (codes "i")) ∷ [])) (exps_of (FunctionE 1 (Lambda [] false (stats_of (
    AssignS 1 (exps_of (NameE 1 (codes "i") ∷ [])) (exps_of (BinaryE 1 op.Add (NameE 1 (codes "i")) (NumberE 1 (pos 10)) ∷ []))
    ∷ ReturnS 1 (exps_of (NameE 1 (codes "i") ∷ []))
    ∷ []))) ∷ [])) ∷ []))
    ∷ ReturnS 1 (exps_of (
    BinaryE 1 op.Concat (CallE 1 (IndexE 1 (NameE 1 (codes "fs")) (NumberE 1 (pos 1))) NoExp) (BinaryE 1 op.Concat (CallE 1 (IndexE 1 (NameE 1 (codes "fs")) (NumberE 1 (pos 1))) NoExp) (CallE 1 (IndexE 1 (NameE 1 (codes "fs")) (NumberE 1 (pos 2))) NoExp))
    ∷ []))
    ∷ []))) ∷ []))
    ∷ ReturnS 1 (exps_of (NameE 1 (codes "p") ∷ []))
    ∷ [])

abbrev pub Cells : Type 0
Cells = without_steps (invoke_module (codes "Slots") 137 cells 6000) ≡ Gives (codes "112112") 0

-- Handlers of indexing, of order and of calls.
--     local p={} function p.f() local m={__index=function(t,k) return k..k end,__lt=function(a,b) return a.n<b.n end,__call=function(s,x) return x+s.n end} local a=setmetatable({n=1},m) local b=setmetatable({n=2},m) return a.zz..tostring(b<=a)..a(6) end return p
abbrev pub handlers : Block
handlers = stats_of (
    LocalS 1 (codes "p" ∷ []) (exps_of (TableE 1 NoField ∷ []))
    ∷ AssignS 1 (exps_of (IndexE 1 (NameE 1 (codes "p")) (TextE 1 (codes "f")) ∷ [])) (exps_of (FunctionE 1 (Lambda [] false (stats_of (
    LocalS 1 (codes "m" ∷ []) (exps_of (TableE 1 (fields_of (
    Pair (TextE 1 (codes "__index")) (FunctionE 1 (Lambda (codes "t" ∷ codes "k" ∷ []) false (stats_of (ReturnS 1 (exps_of (BinaryE 1 op.Concat (NameE 1 (codes "k")) (NameE 1 (codes "k")) ∷ [])) ∷ []))))
    ∷ Pair (TextE 1 (codes "__lt")) (FunctionE 1 (Lambda (codes "a" ∷ codes "b" ∷ []) false (stats_of (ReturnS 1 (exps_of (
    BinaryE 1 op.Lt (IndexE 1 (NameE 1 (codes "a")) (TextE 1 (codes "n"))) (IndexE 1 (NameE 1 (codes "b")) (TextE 1 (codes "n")))
    ∷ [])) ∷ []))))
    ∷ Pair (TextE 1 (codes "__call")) (FunctionE 1 (Lambda (codes "s" ∷ codes "x" ∷ []) false (stats_of (
    ReturnS 1 (exps_of (BinaryE 1 op.Add (NameE 1 (codes "x")) (IndexE 1 (NameE 1 (codes "s")) (TextE 1 (codes "n"))) ∷ []))
    ∷ []))))
    ∷ [])) ∷ []))
    ∷ LocalS 1 (codes "a" ∷ []) (exps_of (
    CallE 1 (NameE 1 (codes "setmetatable")) (exps_of (TableE 1 (fields_of (Pair (TextE 1 (codes "n")) (NumberE 1 (pos 1)) ∷ [])) ∷ NameE 1 (codes "m") ∷ []))
    ∷ []))
    ∷ LocalS 1 (codes "b" ∷ []) (exps_of (
    CallE 1 (NameE 1 (codes "setmetatable")) (exps_of (TableE 1 (fields_of (Pair (TextE 1 (codes "n")) (NumberE 1 (pos 2)) ∷ [])) ∷ NameE 1 (codes "m") ∷ []))
    ∷ []))
    ∷ ReturnS 1 (exps_of (
    BinaryE 1 op.Concat (IndexE 1 (NameE 1 (codes "a")) (TextE 1 (codes "zz"))) (BinaryE 1 op.Concat (CallE 1 (NameE 1 (codes "tostring")) (exps_of (BinaryE 1 op.Le (NameE 1 (codes "b")) (NameE 1 (codes "a")) ∷ []))) (CallE 1 (NameE 1 (codes "a")) (exps_of (NumberE 1 (pos 6) ∷ []))))
    ∷ []))
    ∷ []))) ∷ []))
    ∷ ReturnS 1 (exps_of (NameE 1 (codes "p") ∷ []))
    ∷ [])

abbrev pub Handlers : Type 0
Handlers = without_steps (invoke_module (codes "Meta") 256 handlers 6000) ≡ Gives (codes "zzzzfalse7") 0

-- Results that are no whole number in range are errors.
--     local p={} function p.f() local function e(f) local ok,v=pcall(f) return tostring(v) end return e(function() return 9223372036854775807+1 end)..';'..e(function() return 7/2 end)..';'..6/2 ..';'..-7%3 ..';'..1e3 end return p
abbrev pub out_of_range : Block
out_of_range = stats_of (
    LocalS 1 (codes "p" ∷ []) (exps_of (TableE 1 NoField ∷ []))
    ∷ AssignS 1 (exps_of (IndexE 1 (NameE 1 (codes "p")) (TextE 1 (codes "f")) ∷ [])) (exps_of (FunctionE 1 (Lambda [] false (stats_of (
    LocalFunctionS 1 (codes "e") (Lambda (codes "f" ∷ []) false (stats_of (
    LocalS 1 (codes "ok" ∷ codes "v" ∷ []) (exps_of (CallE 1 (NameE 1 (codes "pcall")) (exps_of (NameE 1 (codes "f") ∷ [])) ∷ []))
    ∷ ReturnS 1 (exps_of (CallE 1 (NameE 1 (codes "tostring")) (exps_of (NameE 1 (codes "v") ∷ [])) ∷ []))
    ∷ [])))
    ∷ ReturnS 1 (exps_of (BinaryE 1 op.Concat (CallE 1 (NameE 1 (codes "e")) (exps_of (
    FunctionE 1 (Lambda [] false (stats_of (ReturnS 1 (exps_of (BinaryE 1 op.Add (NumberE 1 (pos 9223372036854775807)) (NumberE 1 (pos 1)) ∷ [])) ∷ [])))
    ∷ []))) (BinaryE 1 op.Concat (TextE 1 (codes ";")) (BinaryE 1 op.Concat (CallE 1 (NameE 1 (codes "e")) (exps_of (
    FunctionE 1 (Lambda [] false (stats_of (ReturnS 1 (exps_of (BinaryE 1 op.Div (NumberE 1 (pos 7)) (NumberE 1 (pos 2)) ∷ [])) ∷ [])))
    ∷ []))) (BinaryE 1 op.Concat (TextE 1 (codes ";")) (BinaryE 1 op.Concat (BinaryE 1 op.Div (NumberE 1 (pos 6)) (NumberE 1 (pos 2))) (BinaryE 1 op.Concat (TextE 1 (codes ";")) (BinaryE 1 op.Concat (BinaryE 1 op.Mod (UnaryE 1 sign.Minus (NumberE 1 (pos 7))) (NumberE 1 (pos 3))) (BinaryE 1 op.Concat (TextE 1 (codes ";")) (NumberE 1 (pos 1000))))))))) ∷ []))
    ∷ []))) ∷ []))
    ∷ ReturnS 1 (exps_of (NameE 1 (codes "p") ∷ []))
    ∷ [])

abbrev pub OutOfRange : Type 0
OutOfRange = without_steps (invoke_module (codes "N") 223 out_of_range 6000) ≡ Gives (codes "Module:N:1: number out of range;Module:N:1: quotient is not whole;3;2;1000") 0

-- An error with level 2 is at the place that called.
--     local p = {}
--     local function check(x) if not x then error('bad', 2) end end
--     function p.f() check(false) end
--     return p
abbrev pub second_level : Block
second_level = stats_of (
    LocalS 1 (codes "p" ∷ []) (exps_of (TableE 1 NoField ∷ []))
    ∷ LocalFunctionS 2 (codes "check") (Lambda (codes "x" ∷ []) false (stats_of (IfS 2 (arms_of (
    Arm (UnaryE 2 sign.Not (NameE 2 (codes "x"))) (stats_of (CallS 2 (CallE 2 (NameE 2 (codes "error")) (exps_of (TextE 2 (codes "bad") ∷ NumberE 2 (pos 2) ∷ []))) ∷ []))
    ∷ [])) ∷ [])))
    ∷ AssignS 3 (exps_of (IndexE 3 (NameE 3 (codes "p")) (TextE 3 (codes "f")) ∷ [])) (exps_of (
    FunctionE 3 (Lambda [] false (stats_of (CallS 3 (CallE 3 (NameE 3 (codes "check")) (exps_of (FalseE 3 ∷ []))) ∷ [])))
    ∷ []))
    ∷ ReturnS 4 (exps_of (NameE 4 (codes "p") ∷ []))
    ∷ [])

abbrev pub SecondLevel : Type 0
SecondLevel = without_steps (invoke_module (codes "E") 115 second_level 6000) ≡ Fails (codes "Lua error: Module:E:3: bad") 0

-- The module has no function of that name.
--     return {g=function() end}
abbrev pub no_function : Block
no_function = stats_of (
    ReturnS 1 (exps_of (TableE 1 (fields_of (Pair (TextE 1 (codes "g")) (FunctionE 1 (Lambda [] false NoStat)) ∷ [])) ∷ []))
    ∷ [])

abbrev pub NoFunction : Type 0
NoFunction = without_steps (invoke_module (codes "C") 25 no_function 6000) ≡ Fails (codes "Script error: The function \"f\" does not exist.") 0

-- The module gives no table.
--     return 1
abbrev pub no_table : Block
no_table = stats_of (ReturnS 1 (exps_of (NumberE 1 (pos 1) ∷ [])) ∷ [])

abbrev pub NoTable : Type 0
NoTable = without_steps (invoke_module (codes "X") 8 no_table 6000) ≡ Fails (codes "Script error: The module returned no table.") 0

-- A data module must give a table.
--     return 1
abbrev pub data_no_table : Block
data_no_table = stats_of (ReturnS 1 (exps_of (NumberE 1 (pos 1) ∷ [])) ∷ [])

abbrev pub DataNoTable : Type 0
DataNoTable = without_steps (load_module (codes "X") 8 data_no_table 6000) ≡ Fails (codes "data module returned no table") 0

-- The message of an error in a data module stands alone.
--     error('x')
abbrev pub data_error : Block
data_error = stats_of (CallS 1 (CallE 1 (NameE 1 (codes "error")) (exps_of (TextE 1 (codes "x") ∷ []))) ∷ [])

abbrev pub DataError : Type 0
DataError = without_steps (load_module (codes "DE") 10 data_error 6000) ≡ Fails (codes "Module:DE:1: x") 0

-- A text that is no chunk fails where it would begin.
--     local p = {}
--     function p.f()
--       return 1 + end
--     return p
abbrev pub Faulty : Type 0
Faulty = without_steps (invoke_fault (codes "Y") 53 5 3 6000) ≡ Fails (codes "Lua error: Module:Y:3: unexpected token") 0

-- The numbers of the faults are those of the lexis and of the grammar.
--     return "
abbrev pub Unfinished : Type 0
Unfinished = without_steps (invoke_fault (codes "U") 8 1 1 6000) ≡ Fails (codes "Lua error: Module:U:1: unfinished string") 0

-- A numeral beyond 64 bits is a fault.
--     return 9223372036854775808
abbrev pub TooLarge : Type 0
TooLarge = without_steps (invoke_fault (codes "B") 26 6 1 6000) ≡ Fails (codes "Lua error: Module:B:1: numeral is not a whole number in range") 0

-- An error that is no string has no message.
--     return {f=function() error({}) end}
abbrev pub table_error : Block
table_error = stats_of (ReturnS 1 (exps_of (TableE 1 (fields_of (
    Pair (TextE 1 (codes "f")) (FunctionE 1 (Lambda [] false (stats_of (CallS 1 (CallE 1 (NameE 1 (codes "error")) (exps_of (TableE 1 NoField ∷ []))) ∷ []))))
    ∷ [])) ∷ [])) ∷ [])

abbrev pub TableError : Type 0
TableError = without_steps (invoke_module (codes "Z") 35 table_error 6000) ≡ Fails (codes "Lua error: the error is a table value") 0

-- The text of a failure is written without marks of HTML.
--     return {f=function() error('a<b>&c', 0) end}
abbrev pub written_out : Block
written_out = stats_of (ReturnS 1 (exps_of (TableE 1 (fields_of (
    Pair (TextE 1 (codes "f")) (FunctionE 1 (Lambda [] false (stats_of (CallS 1 (CallE 1 (NameE 1 (codes "error")) (exps_of (TextE 1 (codes "a<b>&c") ∷ NumberE 1 (pos 0) ∷ []))) ∷ []))))
    ∷ [])) ∷ [])) ∷ [])

abbrev pub WrittenOut : Type 0
WrittenOut = without_steps (invoke_module (codes "X") 44 written_out 6000) ≡ Fails (codes "Lua error: a&lt;b&gt;&amp;c") 0

-- ALL OF THEM
abbrev pub AllCharges : Type 0
AllCharges =
    Smallest
    × Start
    × DataStart
    × Arguments
    × Nodes
    × NamesAreNoted
    × Counter
    × HoldsItself
    × CatchesAll
    × Nests
    × Joins
    × NoMarkup
    × Cells
    × Handlers
    × OutOfRange
    × SecondLevel
    × NoFunction
    × NoTable
    × DataNoTable
    × DataError
    × Faulty
    × Unfinished
    × TooLarge
    × TableError
    × WrittenOut

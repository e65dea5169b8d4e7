-- EXAMPLES of modules that ask for modules, and of data modules.
use Rattle.std.specs.Prelude.{◌≡◌, pos, false, [], ◌∷◌, codes}
use Rattle.lua_syntax.specs.declared.BinaryOp.TheVariants as op
use Rattle.lua_syntax.specs.declared.UnaryOp.TheVariants as sign
use Rattle.lua_syntax.specs.Tree.{NilE, TrueE, FalseE, NumberE, TextE, FunctionE, NameE, IndexE, CallE, TableE, BinaryE, UnaryE, ParenE}
use Rattle.lua_syntax.specs.Tree.{NoExp, NoField, Pair, Lambda, Block, Arm}
use Rattle.lua_syntax.specs.Tree.{AssignS, CallS, IfS, LocalFunctionS, LocalS, ReturnS}
use Rattle.lua_syntax.specs.View.{exps_of, fields_of, arms_of, stats_of}
use Rattle.page_run.specs.declared.which.Which.TheVariants.{Steps}
use Rattle.lua_walk.specs.LuaHeapValue.{Number, Text, Table}
use Rattle.lua_meaning.specs.Questions.{Expanded, NoPage, Loaded, LoadFailed}
use Rattle.lua_meaning.specs.Trial.{Gives, Fails, Spends, Loads, without_steps, load_module, module_text, reply, invoke_in_template}

-- A module runs once, and its value is kept.
--     return {f=function(frame)
--     return require('Module:Y').n,require('Module: Y').n,tostring(require('Module:Y')==require(' module:y '))
--     end}
abbrev pub requires_once : Block
requires_once = stats_of (ReturnS 1 (exps_of (TableE 1 (fields_of (Pair (TextE 1 (codes "f")) (FunctionE 1 (Lambda (codes "frame" ∷ []) false (stats_of (ReturnS 2 (exps_of (
    IndexE 2 (CallE 2 (NameE 2 (codes "require")) (exps_of (TextE 2 (codes "Module:Y") ∷ []))) (TextE 2 (codes "n"))
    ∷ IndexE 2 (CallE 2 (NameE 2 (codes "require")) (exps_of (TextE 2 (codes "Module: Y") ∷ []))) (TextE 2 (codes "n"))
    ∷ CallE 2 (NameE 2 (codes "tostring")) (exps_of (
    BinaryE 2 op.Eq (CallE 2 (NameE 2 (codes "require")) (exps_of (TextE 2 (codes "Module:Y") ∷ []))) (CallE 2 (NameE 2 (codes "require")) (exps_of (TextE 2 (codes " module:y ") ∷ [])))
    ∷ []))
    ∷ [])) ∷ [])))) ∷ [])) ∷ [])) ∷ [])

-- and Module:Y
--     n=(n or 0)+1 return {n=n}
abbrev pub requires_once1 : Block
requires_once1 = stats_of (
    AssignS 1 (exps_of (NameE 1 (codes "n") ∷ [])) (exps_of (BinaryE 1 op.Add (ParenE 1 (BinaryE 1 op.Or (NameE 1 (codes "n")) (NumberE 1 (pos 0)))) (NumberE 1 (pos 1)) ∷ []))
    ∷ ReturnS 1 (exps_of (TableE 1 (fields_of (Pair (TextE 1 (codes "n")) (NameE 1 (codes "n")) ∷ [])) ∷ []))
    ∷ [])

abbrev pub RequiresOnce : Type 0
RequiresOnce = without_steps (invoke_in_template (module_text (codes "X") 135 requires_once ∷ module_text (codes "Y") 25 requires_once1 ∷ []) [] (codes "X") 6000 []) ≡ Gives (codes "11true") 0

-- False is a value; nil and no value are true.
--     return {f=function(frame)
--     return tostring(require('Module:Y')),tostring(require('Module:Y')),n,tostring(require('Module:Z'))
--     end}
abbrev pub false_is_kept : Block
false_is_kept = stats_of (ReturnS 1 (exps_of (TableE 1 (fields_of (Pair (TextE 1 (codes "f")) (FunctionE 1 (Lambda (codes "frame" ∷ []) false (stats_of (ReturnS 2 (exps_of (
    CallE 2 (NameE 2 (codes "tostring")) (exps_of (CallE 2 (NameE 2 (codes "require")) (exps_of (TextE 2 (codes "Module:Y") ∷ [])) ∷ []))
    ∷ CallE 2 (NameE 2 (codes "tostring")) (exps_of (CallE 2 (NameE 2 (codes "require")) (exps_of (TextE 2 (codes "Module:Y") ∷ [])) ∷ []))
    ∷ NameE 2 (codes "n")
    ∷ CallE 2 (NameE 2 (codes "tostring")) (exps_of (CallE 2 (NameE 2 (codes "require")) (exps_of (TextE 2 (codes "Module:Z") ∷ [])) ∷ []))
    ∷ [])) ∷ [])))) ∷ [])) ∷ [])) ∷ [])

-- and Module:Y
--     n=(n or 0)+1 return false
abbrev pub false_is_kept1 : Block
false_is_kept1 = stats_of (
    AssignS 1 (exps_of (NameE 1 (codes "n") ∷ [])) (exps_of (BinaryE 1 op.Add (ParenE 1 (BinaryE 1 op.Or (NameE 1 (codes "n")) (NumberE 1 (pos 0)))) (NumberE 1 (pos 1)) ∷ []))
    ∷ ReturnS 1 (exps_of (FalseE 1 ∷ []))
    ∷ [])

-- and Module:Z
--     n=n return nil,2
abbrev pub false_is_kept2 : Block
false_is_kept2 = stats_of (
    AssignS 1 (exps_of (NameE 1 (codes "n") ∷ [])) (exps_of (NameE 1 (codes "n") ∷ []))
    ∷ ReturnS 1 (exps_of (NilE 1 ∷ NumberE 1 (pos 2) ∷ []))
    ∷ [])

abbrev pub FalseIsKept : Type 0
FalseIsKept = without_steps (invoke_in_template (module_text (codes "X") 129 false_is_kept ∷ module_text (codes "Y") 25 false_is_kept1 ∷ module_text (codes "Z") 16 false_is_kept2 ∷ []) [] (codes "X") 6000 []) ≡ Gives (codes "falsefalse1true") 0

-- The invoked module runs as `require` would run it: later its value is there.
--     local p={} function p.f() return tostring(require('Module:X')==p) end return p
abbrev pub requires_itself : Block
requires_itself = stats_of (
    LocalS 1 (codes "p" ∷ []) (exps_of (TableE 1 NoField ∷ []))
    ∷ AssignS 1 (exps_of (IndexE 1 (NameE 1 (codes "p")) (TextE 1 (codes "f")) ∷ [])) (exps_of (FunctionE 1 (Lambda [] false (stats_of (ReturnS 1 (exps_of (CallE 1 (NameE 1 (codes "tostring")) (exps_of (
    BinaryE 1 op.Eq (CallE 1 (NameE 1 (codes "require")) (exps_of (TextE 1 (codes "Module:X") ∷ []))) (NameE 1 (codes "p"))
    ∷ [])) ∷ [])) ∷ []))) ∷ []))
    ∷ ReturnS 1 (exps_of (NameE 1 (codes "p") ∷ []))
    ∷ [])

abbrev pub RequiresItself : Type 0
RequiresItself = without_steps (invoke_in_template (module_text (codes "X") 78 requires_itself ∷ []) [] (codes "X") 6000 []) ≡ Gives (codes "true") 0

-- While it runs, to require it is an error.
--     return require('Module:X')
abbrev pub loops : Block
loops = stats_of (ReturnS 1 (exps_of (CallE 1 (NameE 1 (codes "require")) (exps_of (TextE 1 (codes "Module:X") ∷ [])) ∷ [])) ∷ [])

abbrev pub Loops : Type 0
Loops = without_steps (invoke_in_template (module_text (codes "X") 26 loops ∷ []) [] (codes "X") 6000 []) ≡ Fails (codes "Lua error: Module:X:1: loop in require of 'Module:X'") 0

-- So it is through another module, which may be asked for again.
--     return {f=function(frame)
--     local ok,e=pcall(require,'Module:Y')
--     return e,tostring(done),tostring(select(2,pcall(require,'Module:Y'))==e)
--     end}
abbrev pub loops_through : Block
loops_through = stats_of (ReturnS 1 (exps_of (TableE 1 (fields_of (Pair (TextE 1 (codes "f")) (FunctionE 1 (Lambda (codes "frame" ∷ []) false (stats_of (
    LocalS 2 (codes "ok" ∷ codes "e" ∷ []) (exps_of (CallE 2 (NameE 2 (codes "pcall")) (exps_of (NameE 2 (codes "require") ∷ TextE 2 (codes "Module:Y") ∷ [])) ∷ []))
    ∷ ReturnS 3 (exps_of (
    NameE 3 (codes "e")
    ∷ CallE 3 (NameE 3 (codes "tostring")) (exps_of (NameE 3 (codes "done") ∷ []))
    ∷ CallE 3 (NameE 3 (codes "tostring")) (exps_of (BinaryE 3 op.Eq (CallE 3 (NameE 3 (codes "select")) (exps_of (
    NumberE 3 (pos 2)
    ∷ CallE 3 (NameE 3 (codes "pcall")) (exps_of (NameE 3 (codes "require") ∷ TextE 3 (codes "Module:Y") ∷ []))
    ∷ []))) (NameE 3 (codes "e")) ∷ []))
    ∷ []))
    ∷ [])))) ∷ [])) ∷ [])) ∷ [])

-- and Module:Y
--     require('Module:Z') done=1
abbrev pub loops_through1 : Block
loops_through1 = stats_of (
    CallS 1 (CallE 1 (NameE 1 (codes "require")) (exps_of (TextE 1 (codes "Module:Z") ∷ [])))
    ∷ AssignS 1 (exps_of (NameE 1 (codes "done") ∷ [])) (exps_of (NumberE 1 (pos 1) ∷ []))
    ∷ [])

-- and Module:Z
--     require('Module:Y')
abbrev pub loops_through2 : Block
loops_through2 = stats_of (CallS 1 (CallE 1 (NameE 1 (codes "require")) (exps_of (TextE 1 (codes "Module:Y") ∷ []))) ∷ [])

abbrev pub LoopsThrough : Type 0
LoopsThrough = without_steps (invoke_in_template (module_text (codes "X") 140 loops_through ∷ module_text (codes "Y") 26 loops_through1 ∷ module_text (codes "Z") 19 loops_through2 ∷ []) [] (codes "X") 6000 []) ≡ Gives (codes "Module:Z:1: loop in require of 'Module:Y'niltrue") 0

-- A module whose run failed is run again.
--     return {f=function(frame)
--     pcall(require,'Module:Y')
--     local ok,e=pcall(require,'Module:Y')
--     return tries,e
--     end}
abbrev pub runs_again : Block
runs_again = stats_of (ReturnS 1 (exps_of (TableE 1 (fields_of (Pair (TextE 1 (codes "f")) (FunctionE 1 (Lambda (codes "frame" ∷ []) false (stats_of (
    CallS 2 (CallE 2 (NameE 2 (codes "pcall")) (exps_of (NameE 2 (codes "require") ∷ TextE 2 (codes "Module:Y") ∷ [])))
    ∷ LocalS 3 (codes "ok" ∷ codes "e" ∷ []) (exps_of (CallE 3 (NameE 3 (codes "pcall")) (exps_of (NameE 3 (codes "require") ∷ TextE 3 (codes "Module:Y") ∷ [])) ∷ []))
    ∷ ReturnS 4 (exps_of (NameE 4 (codes "tries") ∷ NameE 4 (codes "e") ∷ []))
    ∷ [])))) ∷ [])) ∷ [])) ∷ [])

-- and Module:Y
--     tries=(tries or 0)+1 error('m',0)
abbrev pub runs_again1 : Block
runs_again1 = stats_of (
    AssignS 1 (exps_of (NameE 1 (codes "tries") ∷ [])) (exps_of (BinaryE 1 op.Add (ParenE 1 (BinaryE 1 op.Or (NameE 1 (codes "tries")) (NumberE 1 (pos 0)))) (NumberE 1 (pos 1)) ∷ []))
    ∷ CallS 1 (CallE 1 (NameE 1 (codes "error")) (exps_of (TextE 1 (codes "m") ∷ NumberE 1 (pos 0) ∷ [])))
    ∷ [])

abbrev pub RunsAgain : Type 0
RunsAgain = without_steps (invoke_in_template (module_text (codes "X") 108 runs_again ∷ module_text (codes "Y") 33 runs_again1 ∷ []) [] (codes "X") 6000 []) ≡ Gives (codes "2m") 0

-- What is no held module is not found.
--     return {f=function(frame)
--     local function e(x) return select(2,pcall(require,x))..';' end
--     return e('Y'),e('Module:Z'),e('Module:'),e(12),select(2,pcall(require))
--     end}
abbrev pub no_module : Block
no_module = stats_of (ReturnS 1 (exps_of (TableE 1 (fields_of (Pair (TextE 1 (codes "f")) (FunctionE 1 (Lambda (codes "frame" ∷ []) false (stats_of (
    LocalFunctionS 2 (codes "e") (Lambda (codes "x" ∷ []) false (stats_of (ReturnS 2 (exps_of (BinaryE 2 op.Concat (CallE 2 (NameE 2 (codes "select")) (exps_of (
    NumberE 2 (pos 2)
    ∷ CallE 2 (NameE 2 (codes "pcall")) (exps_of (NameE 2 (codes "require") ∷ NameE 2 (codes "x") ∷ []))
    ∷ []))) (TextE 2 (codes ";")) ∷ [])) ∷ [])))
    ∷ ReturnS 3 (exps_of (
    CallE 3 (NameE 3 (codes "e")) (exps_of (TextE 3 (codes "Y") ∷ []))
    ∷ CallE 3 (NameE 3 (codes "e")) (exps_of (TextE 3 (codes "Module:Z") ∷ []))
    ∷ CallE 3 (NameE 3 (codes "e")) (exps_of (TextE 3 (codes "Module:") ∷ []))
    ∷ CallE 3 (NameE 3 (codes "e")) (exps_of (NumberE 3 (pos 12) ∷ []))
    ∷ CallE 3 (NameE 3 (codes "select")) (exps_of (NumberE 3 (pos 2) ∷ CallE 3 (NameE 3 (codes "pcall")) (exps_of (NameE 3 (codes "require") ∷ [])) ∷ []))
    ∷ []))
    ∷ [])))) ∷ [])) ∷ [])) ∷ [])

-- and Module:Y
--     return 1
abbrev pub no_module1 : Block
no_module1 = stats_of (ReturnS 1 (exps_of (NumberE 1 (pos 1) ∷ [])) ∷ [])

abbrev pub NoModule : Type 0
NoModule = without_steps (invoke_in_template (module_text (codes "X") 165 no_module ∷ module_text (codes "Y") 8 no_module1 ∷ []) [] (codes "X") 6000 []) ≡ Gives (codes "module 'Y' not found;module 'Module:Z' not found;module 'Module:' not found;module '12' not found;bad argument #1 to 'require' (string expected, got no value)") 0

-- A message that quotes what the call was given costs its bytes at no place too; one that quotes nothing is free.
--     return {f=function(frame)
--     pcall(require,'Y') pcall(mw.loadData,'[') pcall(frame.newChild,frame,{title='['}) pcall(require)
--     end}
abbrev pub quotes_cost : Block
quotes_cost = stats_of (ReturnS 1 (exps_of (TableE 1 (fields_of (Pair (TextE 1 (codes "f")) (FunctionE 1 (Lambda (codes "frame" ∷ []) false (stats_of (
    CallS 2 (CallE 2 (NameE 2 (codes "pcall")) (exps_of (NameE 2 (codes "require") ∷ TextE 2 (codes "Y") ∷ [])))
    ∷ CallS 2 (CallE 2 (NameE 2 (codes "pcall")) (exps_of (IndexE 2 (NameE 2 (codes "mw")) (TextE 2 (codes "loadData")) ∷ TextE 2 (codes "[") ∷ [])))
    ∷ CallS 2 (CallE 2 (NameE 2 (codes "pcall")) (exps_of (
    IndexE 2 (NameE 2 (codes "frame")) (TextE 2 (codes "newChild"))
    ∷ NameE 2 (codes "frame")
    ∷ TableE 2 (fields_of (Pair (TextE 2 (codes "title")) (TextE 2 (codes "[")) ∷ []))
    ∷ [])))
    ∷ CallS 2 (CallE 2 (NameE 2 (codes "pcall")) (exps_of (NameE 2 (codes "require") ∷ [])))
    ∷ [])))) ∷ [])) ∷ [])) ∷ [])

abbrev pub QuotesCost : Type 0
QuotesCost = (invoke_in_template (module_text (codes "X") 127 quotes_cost ∷ []) [] (codes "X") 1261 [] ≡ Gives [] 0) × (invoke_in_template (module_text (codes "X") 127 quotes_cost ∷ []) [] (codes "X") 1260 [] ≡ Spends Steps 0)

-- The text of a module that is required has no place above it.
--     return {f=function(frame)
--     return select(2,pcall(function() require('Module:Y') end)),select(2,pcall(function() require('Module:Z') end))
--     end}
abbrev pub module_levels : Block
module_levels = stats_of (ReturnS 1 (exps_of (TableE 1 (fields_of (Pair (TextE 1 (codes "f")) (FunctionE 1 (Lambda (codes "frame" ∷ []) false (stats_of (ReturnS 2 (exps_of (
    CallE 2 (NameE 2 (codes "select")) (exps_of (
    NumberE 2 (pos 2)
    ∷ CallE 2 (NameE 2 (codes "pcall")) (exps_of (
    FunctionE 2 (Lambda [] false (stats_of (CallS 2 (CallE 2 (NameE 2 (codes "require")) (exps_of (TextE 2 (codes "Module:Y") ∷ []))) ∷ [])))
    ∷ []))
    ∷ []))
    ∷ CallE 2 (NameE 2 (codes "select")) (exps_of (
    NumberE 2 (pos 2)
    ∷ CallE 2 (NameE 2 (codes "pcall")) (exps_of (
    FunctionE 2 (Lambda [] false (stats_of (CallS 2 (CallE 2 (NameE 2 (codes "require")) (exps_of (TextE 2 (codes "Module:Z") ∷ []))) ∷ [])))
    ∷ []))
    ∷ []))
    ∷ [])) ∷ [])))) ∷ [])) ∷ [])) ∷ [])

-- and Module:Y
--     local x
--     error('m')
abbrev pub module_levels1 : Block
module_levels1 = stats_of (
    LocalS 1 (codes "x" ∷ []) NoExp
    ∷ CallS 2 (CallE 2 (NameE 2 (codes "error")) (exps_of (TextE 2 (codes "m") ∷ [])))
    ∷ [])

-- and Module:Z
--     error('m',2)
abbrev pub module_levels2 : Block
module_levels2 = stats_of (CallS 1 (CallE 1 (NameE 1 (codes "error")) (exps_of (TextE 1 (codes "m") ∷ NumberE 1 (pos 2) ∷ []))) ∷ [])

abbrev pub ModuleLevels : Type 0
ModuleLevels = without_steps (invoke_in_template (module_text (codes "X") 141 module_levels ∷ module_text (codes "Y") 18 module_levels1 ∷ module_text (codes "Z") 12 module_levels2 ∷ []) [] (codes "X") 6000 []) ≡ Gives (codes "Module:Y:2: mm") 0

-- A module that is required costs its text and its run, and later the call alone.
--     return {f=function(frame) require('Module:Y') require('Module:Y') return 'a' end}
abbrev pub module_costs : Block
module_costs = stats_of (ReturnS 1 (exps_of (TableE 1 (fields_of (Pair (TextE 1 (codes "f")) (FunctionE 1 (Lambda (codes "frame" ∷ []) false (stats_of (
    CallS 1 (CallE 1 (NameE 1 (codes "require")) (exps_of (TextE 1 (codes "Module:Y") ∷ [])))
    ∷ CallS 1 (CallE 1 (NameE 1 (codes "require")) (exps_of (TextE 1 (codes "Module:Y") ∷ [])))
    ∷ ReturnS 1 (exps_of (TextE 1 (codes "a") ∷ []))
    ∷ [])))) ∷ [])) ∷ [])) ∷ [])

-- and Module:Y
--     return 1
abbrev pub module_costs1 : Block
module_costs1 = stats_of (ReturnS 1 (exps_of (NumberE 1 (pos 1) ∷ [])) ∷ [])

abbrev pub ModuleCosts : Type 0
ModuleCosts = (invoke_in_template (module_text (codes "X") 81 module_costs ∷ module_text (codes "Y") 8 module_costs1 ∷ []) [] (codes "X") 1131 [] ≡ Gives (codes "a") 0) × (invoke_in_template (module_text (codes "X") 81 module_costs ∷ module_text (codes "Y") 8 module_costs1 ∷ []) [] (codes "X") 1130 [] ≡ Spends Steps 0)

-- `strict` makes absent global variables errors, with the place of the name.
--     return {f=function(frame)
--     local function e(f) return select(2,pcall(f))..';' end
--     x=1
--     local given=require('strict')
--     x=2
--     return tostring(given),x,e(function()
--      return y end),e(function()
--      y=1 end),e(function() return _G[{}] end),tostring(rawget(_G,'y'))
--     end}
abbrev pub strict : Block
strict = stats_of (ReturnS 1 (exps_of (TableE 1 (fields_of (Pair (TextE 1 (codes "f")) (FunctionE 1 (Lambda (codes "frame" ∷ []) false (stats_of (
    LocalFunctionS 2 (codes "e") (Lambda (codes "f" ∷ []) false (stats_of (ReturnS 2 (exps_of (
    BinaryE 2 op.Concat (CallE 2 (NameE 2 (codes "select")) (exps_of (NumberE 2 (pos 2) ∷ CallE 2 (NameE 2 (codes "pcall")) (exps_of (NameE 2 (codes "f") ∷ [])) ∷ []))) (TextE 2 (codes ";"))
    ∷ [])) ∷ [])))
    ∷ AssignS 3 (exps_of (NameE 3 (codes "x") ∷ [])) (exps_of (NumberE 3 (pos 1) ∷ []))
    ∷ LocalS 4 (codes "given" ∷ []) (exps_of (CallE 4 (NameE 4 (codes "require")) (exps_of (TextE 4 (codes "strict") ∷ [])) ∷ []))
    ∷ AssignS 5 (exps_of (NameE 5 (codes "x") ∷ [])) (exps_of (NumberE 5 (pos 2) ∷ []))
    ∷ ReturnS 6 (exps_of (
    CallE 6 (NameE 6 (codes "tostring")) (exps_of (NameE 6 (codes "given") ∷ []))
    ∷ NameE 6 (codes "x")
    ∷ CallE 6 (NameE 6 (codes "e")) (exps_of (FunctionE 6 (Lambda [] false (stats_of (ReturnS 7 (exps_of (NameE 7 (codes "y") ∷ [])) ∷ []))) ∷ []))
    ∷ CallE 7 (NameE 7 (codes "e")) (exps_of (
    FunctionE 7 (Lambda [] false (stats_of (AssignS 8 (exps_of (NameE 8 (codes "y") ∷ [])) (exps_of (NumberE 8 (pos 1) ∷ [])) ∷ [])))
    ∷ []))
    ∷ CallE 8 (NameE 8 (codes "e")) (exps_of (
    FunctionE 8 (Lambda [] false (stats_of (ReturnS 8 (exps_of (IndexE 8 (NameE 8 (codes "_G")) (TableE 8 NoField) ∷ [])) ∷ [])))
    ∷ []))
    ∷ CallE 8 (NameE 8 (codes "tostring")) (exps_of (CallE 8 (NameE 8 (codes "rawget")) (exps_of (NameE 8 (codes "_G") ∷ TextE 8 (codes "y") ∷ [])) ∷ []))
    ∷ []))
    ∷ [])))) ∷ [])) ∷ [])) ∷ [])

abbrev pub Strict : Type 0
Strict = without_steps (invoke_in_template (module_text (codes "X") 256 strict ∷ []) [] (codes "X") 6000 []) ≡ Gives (codes "true2Module:X:7: variable 'y' is not declared;Module:X:8: assign to undeclared variable 'y';Module:X:8: variable 'table' is not declared;nil") 0

-- Each call sets a new metatable, in place of any that is there.
--     return {f=function(frame)
--     require('strict')
--     local m=getmetatable(_G)
--     require('strict')
--     setmetatable(_G,{__metatable=1,__index=function() return 3 end})
--     local y3=y
--     require('strict')
--     return tostring(m==getmetatable(_G)),y3,select(2,pcall(function() return y end))
--     end}
abbrev pub strict_anew : Block
strict_anew = stats_of (ReturnS 1 (exps_of (TableE 1 (fields_of (Pair (TextE 1 (codes "f")) (FunctionE 1 (Lambda (codes "frame" ∷ []) false (stats_of (
    CallS 2 (CallE 2 (NameE 2 (codes "require")) (exps_of (TextE 2 (codes "strict") ∷ [])))
    ∷ LocalS 3 (codes "m" ∷ []) (exps_of (CallE 3 (NameE 3 (codes "getmetatable")) (exps_of (NameE 3 (codes "_G") ∷ [])) ∷ []))
    ∷ CallS 4 (CallE 4 (NameE 4 (codes "require")) (exps_of (TextE 4 (codes "strict") ∷ [])))
    ∷ CallS 5 (CallE 5 (NameE 5 (codes "setmetatable")) (exps_of (
    NameE 5 (codes "_G")
    ∷ TableE 5 (fields_of (
    Pair (TextE 5 (codes "__metatable")) (NumberE 5 (pos 1))
    ∷ Pair (TextE 5 (codes "__index")) (FunctionE 5 (Lambda [] false (stats_of (ReturnS 5 (exps_of (NumberE 5 (pos 3) ∷ [])) ∷ []))))
    ∷ []))
    ∷ [])))
    ∷ LocalS 6 (codes "y3" ∷ []) (exps_of (NameE 6 (codes "y") ∷ []))
    ∷ CallS 7 (CallE 7 (NameE 7 (codes "require")) (exps_of (TextE 7 (codes "strict") ∷ [])))
    ∷ ReturnS 8 (exps_of (
    CallE 8 (NameE 8 (codes "tostring")) (exps_of (
    BinaryE 8 op.Eq (NameE 8 (codes "m")) (CallE 8 (NameE 8 (codes "getmetatable")) (exps_of (NameE 8 (codes "_G") ∷ [])))
    ∷ []))
    ∷ NameE 8 (codes "y3")
    ∷ CallE 8 (NameE 8 (codes "select")) (exps_of (
    NumberE 8 (pos 2)
    ∷ CallE 8 (NameE 8 (codes "pcall")) (exps_of (FunctionE 8 (Lambda [] false (stats_of (ReturnS 8 (exps_of (NameE 8 (codes "y") ∷ [])) ∷ []))) ∷ []))
    ∷ []))
    ∷ []))
    ∷ [])))) ∷ [])) ∷ [])) ∷ [])

abbrev pub StrictAnew : Type 0
StrictAnew = without_steps (invoke_in_template (module_text (codes "X") 266 strict_anew ∷ []) [] (codes "X") 6000 []) ≡ Gives (codes "false3Module:X:8: variable 'y' is not declared") 0

-- A data module is asked for once; its tables are read-only and may be cyclic.
--     local p={} function p.f() local d=mw.loadData('Module:D') local ok,e=pcall(function() d.v=6 end) return d.me.me.v..' '..tostring(ok)..' '..e end return p
abbrev pub loads_once : Block
loads_once = stats_of (
    LocalS 1 (codes "p" ∷ []) (exps_of (TableE 1 NoField ∷ []))
    ∷ AssignS 1 (exps_of (IndexE 1 (NameE 1 (codes "p")) (TextE 1 (codes "f")) ∷ [])) (exps_of (FunctionE 1 (Lambda [] false (stats_of (
    LocalS 1 (codes "d" ∷ []) (exps_of (
    CallE 1 (IndexE 1 (NameE 1 (codes "mw")) (TextE 1 (codes "loadData"))) (exps_of (TextE 1 (codes "Module:D") ∷ []))
    ∷ []))
    ∷ LocalS 1 (codes "ok" ∷ codes "e" ∷ []) (exps_of (CallE 1 (NameE 1 (codes "pcall")) (exps_of (FunctionE 1 (Lambda [] false (stats_of (
    AssignS 1 (exps_of (IndexE 1 (NameE 1 (codes "d")) (TextE 1 (codes "v")) ∷ [])) (exps_of (NumberE 1 (pos 6) ∷ []))
    ∷ []))) ∷ [])) ∷ []))
    ∷ ReturnS 1 (exps_of (
    BinaryE 1 op.Concat (IndexE 1 (IndexE 1 (IndexE 1 (NameE 1 (codes "d")) (TextE 1 (codes "me"))) (TextE 1 (codes "me"))) (TextE 1 (codes "v"))) (BinaryE 1 op.Concat (TextE 1 (codes " ")) (BinaryE 1 op.Concat (CallE 1 (NameE 1 (codes "tostring")) (exps_of (NameE 1 (codes "ok") ∷ []))) (BinaryE 1 op.Concat (TextE 1 (codes " ")) (NameE 1 (codes "e")))))
    ∷ []))
    ∷ []))) ∷ []))
    ∷ ReturnS 1 (exps_of (NameE 1 (codes "p") ∷ []))
    ∷ [])

abbrev pub LoadsOnce : Type 0
LoadsOnce = without_steps (invoke_in_template (module_text (codes "R") 153 loads_once ∷ []) [] (codes "R") 6000 (reply (Loaded (((Text (codes "v"), Number (pos 5)) ∷ (Text (codes "me"), Table 0) ∷ []) ∷ [])) 3000 ∷ [])) ≡ Gives (codes "5 false Module:R:1: table from mw.loadData is read-only") 0

-- Further loads give the same table, for the call alone.
--     return {f=function(frame)
--     local a=mw.loadData('Module:D')
--     return tostring(a==mw.loadData('module: d ')),a.x,#a,tostring(next(a))
--     end}
abbrev pub loaded_again : Block
loaded_again = stats_of (ReturnS 1 (exps_of (TableE 1 (fields_of (Pair (TextE 1 (codes "f")) (FunctionE 1 (Lambda (codes "frame" ∷ []) false (stats_of (
    LocalS 2 (codes "a" ∷ []) (exps_of (
    CallE 2 (IndexE 2 (NameE 2 (codes "mw")) (TextE 2 (codes "loadData"))) (exps_of (TextE 2 (codes "Module:D") ∷ []))
    ∷ []))
    ∷ ReturnS 3 (exps_of (
    CallE 3 (NameE 3 (codes "tostring")) (exps_of (
    BinaryE 3 op.Eq (NameE 3 (codes "a")) (CallE 3 (IndexE 3 (NameE 3 (codes "mw")) (TextE 3 (codes "loadData"))) (exps_of (TextE 3 (codes "module: d ") ∷ [])))
    ∷ []))
    ∷ IndexE 3 (NameE 3 (codes "a")) (TextE 3 (codes "x"))
    ∷ UnaryE 3 sign.Len (NameE 3 (codes "a"))
    ∷ CallE 3 (NameE 3 (codes "tostring")) (exps_of (CallE 3 (NameE 3 (codes "next")) (exps_of (NameE 3 (codes "a") ∷ [])) ∷ []))
    ∷ []))
    ∷ [])))) ∷ [])) ∷ [])) ∷ [])

abbrev pub LoadedAgain : Type 0
LoadedAgain = without_steps (invoke_in_template (module_text (codes "X") 133 loaded_again ∷ []) [] (codes "X") 6000 (reply (Loaded (((Text (codes "x"), Text (codes "v")) ∷ []) ∷ [])) 3000 ∷ [])) ≡ Gives (codes "truev0x") 0

-- The message of a load that failed is raised as it is, and the next load is a first one.
--     return {f=function(frame)
--     local ok,e=pcall(mw.loadData,'Module:D')
--     local ok2,e2=pcall(mw.loadData,'Module:D')
--     return e,tostring(ok2),e2.x
--     end}
abbrev pub load_fails : Block
load_fails = stats_of (ReturnS 1 (exps_of (TableE 1 (fields_of (Pair (TextE 1 (codes "f")) (FunctionE 1 (Lambda (codes "frame" ∷ []) false (stats_of (
    LocalS 2 (codes "ok" ∷ codes "e" ∷ []) (exps_of (
    CallE 2 (NameE 2 (codes "pcall")) (exps_of (IndexE 2 (NameE 2 (codes "mw")) (TextE 2 (codes "loadData")) ∷ TextE 2 (codes "Module:D") ∷ []))
    ∷ []))
    ∷ LocalS 3 (codes "ok2" ∷ codes "e2" ∷ []) (exps_of (
    CallE 3 (NameE 3 (codes "pcall")) (exps_of (IndexE 3 (NameE 3 (codes "mw")) (TextE 3 (codes "loadData")) ∷ TextE 3 (codes "Module:D") ∷ []))
    ∷ []))
    ∷ ReturnS 4 (exps_of (
    NameE 4 (codes "e")
    ∷ CallE 4 (NameE 4 (codes "tostring")) (exps_of (NameE 4 (codes "ok2") ∷ []))
    ∷ IndexE 4 (NameE 4 (codes "e2")) (TextE 4 (codes "x"))
    ∷ []))
    ∷ [])))) ∷ [])) ∷ [])) ∷ [])

abbrev pub LoadFails : Type 0
LoadFails = without_steps (invoke_in_template (module_text (codes "X") 142 load_fails ∷ []) [] (codes "X") 6000 (reply (LoadFailed (codes "data module holds a function")) 3000 ∷ reply (Loaded (((Text (codes "x"), Text (codes "v")) ∷ []) ∷ [])) 2000 ∷ [])) ≡ Gives (codes "data module holds a functiontruev") 0

-- What is no held module is not found, at the place that called.
--     return {f=function(frame)
--     return select(2,pcall(mw.loadData,'Module:')),select(2,pcall(function()
--      mw.loadData('D') end))
--     end}
abbrev pub no_data : Block
no_data = stats_of (ReturnS 1 (exps_of (TableE 1 (fields_of (Pair (TextE 1 (codes "f")) (FunctionE 1 (Lambda (codes "frame" ∷ []) false (stats_of (ReturnS 2 (exps_of (
    CallE 2 (NameE 2 (codes "select")) (exps_of (
    NumberE 2 (pos 2)
    ∷ CallE 2 (NameE 2 (codes "pcall")) (exps_of (IndexE 2 (NameE 2 (codes "mw")) (TextE 2 (codes "loadData")) ∷ TextE 2 (codes "Module:") ∷ []))
    ∷ []))
    ∷ CallE 2 (NameE 2 (codes "select")) (exps_of (
    NumberE 2 (pos 2)
    ∷ CallE 2 (NameE 2 (codes "pcall")) (exps_of (FunctionE 2 (Lambda [] false (stats_of (
    CallS 3 (CallE 3 (IndexE 3 (NameE 3 (codes "mw")) (TextE 3 (codes "loadData"))) (exps_of (TextE 3 (codes "D") ∷ [])))
    ∷ []))) ∷ []))
    ∷ []))
    ∷ [])) ∷ [])))) ∷ [])) ∷ [])) ∷ [])

abbrev pub NoData : Type 0
NoData = without_steps (invoke_in_template (module_text (codes "X") 126 no_data ∷ []) [] (codes "X") 6000 (reply NoPage 3000 ∷ [])) ≡ Gives (codes "data module 'Module:' not foundModule:X:3: data module 'D' not found") 0

-- A text is no answer to a load.
--     return {f=function(frame)
--     return mw.loadData('Module:D')
--     end}
abbrev pub wrong_data : Block
wrong_data = stats_of (ReturnS 1 (exps_of (TableE 1 (fields_of (Pair (TextE 1 (codes "f")) (FunctionE 1 (Lambda (codes "frame" ∷ []) false (stats_of (ReturnS 2 (exps_of (
    CallE 2 (IndexE 2 (NameE 2 (codes "mw")) (TextE 2 (codes "loadData"))) (exps_of (TextE 2 (codes "Module:D") ∷ []))
    ∷ [])) ∷ [])))) ∷ [])) ∷ [])) ∷ [])

abbrev pub WrongData : Type 0
WrongData = without_steps (invoke_in_template (module_text (codes "X") 61 wrong_data ∷ []) [] (codes "X") 6000 (reply (Expanded (codes "x")) 3000 ∷ [])) ≡ Fails (codes "Lua error: the answer does not belong to the question") 0

-- A data module has no frame.
--     if mw.getCurrentFrame()==nil then return {} end
abbrev pub data_has_no_frame : Block
data_has_no_frame = stats_of (IfS 1 (arms_of (
    Arm (BinaryE 1 op.Eq (CallE 1 (IndexE 1 (NameE 1 (codes "mw")) (TextE 1 (codes "getCurrentFrame"))) NoExp) (NilE 1)) (stats_of (ReturnS 1 (exps_of (TableE 1 NoField ∷ [])) ∷ []))
    ∷ [])) ∷ [])

abbrev pub DataHasNoFrame : Type 0
DataHasNoFrame = load_module (codes "X") 47 data_has_no_frame 1066 ≡ Loads 0

-- A module must give a table.
--     return true
abbrev pub module_is_no_table : Block
module_is_no_table = stats_of (ReturnS 1 (exps_of (TrueE 1 ∷ [])) ∷ [])

abbrev pub ModuleIsNoTable : Type 0
ModuleIsNoTable = without_steps (invoke_in_template (module_text (codes "X") 11 module_is_no_table ∷ []) [] (codes "X") 6000 []) ≡ Fails (codes "Script error: The module returned no table.") 0

-- A module that is not held fails as in `require`.
--     return 1
abbrev pub module_is_not_held : Block
module_is_not_held = stats_of (ReturnS 1 (exps_of (NumberE 1 (pos 1) ∷ [])) ∷ [])

abbrev pub ModuleIsNotHeld : Type 0
ModuleIsNotHeld = without_steps (invoke_in_template (module_text (codes "X") 8 module_is_not_held ∷ []) [] (codes "Y") 6000 []) ≡ Fails (codes "Lua error: module 'Module:Y' not found") 0

-- ALL OF THEM
abbrev pub AllModules : Type 0
AllModules =
    RequiresOnce
    × FalseIsKept
    × RequiresItself
    × Loops
    × LoopsThrough
    × RunsAgain
    × NoModule
    × QuotesCost
    × ModuleLevels
    × ModuleCosts
    × Strict
    × StrictAnew
    × LoadsOnce
    × LoadedAgain
    × LoadFails
    × NoData
    × WrongData
    × DataHasNoFrame
    × ModuleIsNoTable
    × ModuleIsNotHeld

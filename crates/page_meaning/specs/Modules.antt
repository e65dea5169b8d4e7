-- THE MODULES of the worked pages: of each its text in Lua, and its tree. Written by bench/page_modules.py.
use Rattle.std.specs.Prelude.{pos, false, [], ◌∷◌, codes}
use Rattle.lua_syntax.specs.declared.BinaryOp.TheVariants as op
use Rattle.lua_syntax.specs.Tree.{TrueE, NumberE, TextE, FunctionE, NameE, IndexE, CallE, MethodE, TableE, BinaryE}
use Rattle.lua_syntax.specs.Tree.{NoField, Item, Pair, Lambda, NoStat}
use Rattle.lua_syntax.specs.Tree.{AssignS, CallS, WhileS, LocalS, ReturnS}
use Rattle.lua_syntax.specs.View.{exps_of, fields_of, stats_of}
use Rattle.lua_meaning_laws.specs.LuaMeaningTrial.{ModuleText, module_text}

-- It counts its calls in a global variable.
--     n=0 local p={} function p.f() n=n+1 return n end return p
abbrev pub c_module : ModuleText
c_module = module_text (codes "C") 57 (stats_of (
    AssignS 1 (exps_of (NameE 1 (codes "n") ∷ [])) (exps_of (NumberE 1 (pos 0) ∷ []))
    ∷ LocalS 1 (codes "p" ∷ []) (exps_of (TableE 1 NoField ∷ []))
    ∷ AssignS 1 (exps_of (IndexE 1 (NameE 1 (codes "p")) (TextE 1 (codes "f")) ∷ [])) (exps_of (FunctionE 1 (Lambda [] false (stats_of (
    AssignS 1 (exps_of (NameE 1 (codes "n") ∷ [])) (exps_of (BinaryE 1 op.Add (NameE 1 (codes "n")) (NumberE 1 (pos 1)) ∷ []))
    ∷ ReturnS 1 (exps_of (NameE 1 (codes "n") ∷ []))
    ∷ []))) ∷ []))
    ∷ ReturnS 1 (exps_of (NameE 1 (codes "p") ∷ []))
    ∷ []))

-- Data.
--     return {x='v'}
abbrev pub d_module : ModuleText
d_module = module_text (codes "D") 14 (stats_of (ReturnS 1 (exps_of (TableE 1 (fields_of (Pair (TextE 1 (codes "x")) (TextE 1 (codes "v")) ∷ [])) ∷ [])) ∷ []))

-- It reads a datum.
--     return {f=function() return mw.loadData('Module:D').x end}
abbrev pub m_module : ModuleText
m_module = module_text (codes "M") 58 (stats_of (ReturnS 1 (exps_of (TableE 1 (fields_of (Pair (TextE 1 (codes "f")) (FunctionE 1 (Lambda [] false (stats_of (ReturnS 1 (exps_of (
    IndexE 1 (CallE 1 (IndexE 1 (NameE 1 (codes "mw")) (TextE 1 (codes "loadData"))) (exps_of (TextE 1 (codes "Module:D") ∷ []))) (TextE 1 (codes "x"))
    ∷ [])) ∷ [])))) ∷ [])) ∷ [])) ∷ []))

-- Data that reads data.
--     return {y=mw.loadData('Module:D').x}
abbrev pub n_module : ModuleText
n_module = module_text (codes "N") 36 (stats_of (ReturnS 1 (exps_of (TableE 1 (fields_of (
    Pair (TextE 1 (codes "y")) (IndexE 1 (CallE 1 (IndexE 1 (NameE 1 (codes "mw")) (TextE 1 (codes "loadData"))) (exps_of (TextE 1 (codes "Module:D") ∷ []))) (TextE 1 (codes "x")))
    ∷ [])) ∷ [])) ∷ []))

-- It reads both.
--     return {f=function() return mw.loadData('Module:N').y..mw.loadData('Module:D').x end}
abbrev pub o_module : ModuleText
o_module = module_text (codes "O") 85 (stats_of (ReturnS 1 (exps_of (TableE 1 (fields_of (Pair (TextE 1 (codes "f")) (FunctionE 1 (Lambda [] false (stats_of (ReturnS 1 (exps_of (
    BinaryE 1 op.Concat (IndexE 1 (CallE 1 (IndexE 1 (NameE 1 (codes "mw")) (TextE 1 (codes "loadData"))) (exps_of (TextE 1 (codes "Module:N") ∷ []))) (TextE 1 (codes "y"))) (IndexE 1 (CallE 1 (IndexE 1 (NameE 1 (codes "mw")) (TextE 1 (codes "loadData"))) (exps_of (TextE 1 (codes "Module:D") ∷ []))) (TextE 1 (codes "x")))
    ∷ [])) ∷ [])))) ∷ [])) ∷ [])) ∷ []))

-- Data that loads itself.
--     return mw.loadData('Module:Own')
abbrev pub own_module : ModuleText
own_module = module_text (codes "Own") 32 (stats_of (ReturnS 1 (exps_of (
    CallE 1 (IndexE 1 (NameE 1 (codes "mw")) (TextE 1 (codes "loadData"))) (exps_of (TextE 1 (codes "Module:Own") ∷ []))
    ∷ [])) ∷ []))

-- It never ends, whatever is caught.
--     local p={} function p.f() while true do pcall(p.f) end end return p
abbrev pub l_module : ModuleText
l_module = module_text (codes "L") 67 (stats_of (
    LocalS 1 (codes "p" ∷ []) (exps_of (TableE 1 NoField ∷ []))
    ∷ AssignS 1 (exps_of (IndexE 1 (NameE 1 (codes "p")) (TextE 1 (codes "f")) ∷ [])) (exps_of (FunctionE 1 (Lambda [] false (stats_of (WhileS 1 (TrueE 1) (stats_of (
    CallS 1 (CallE 1 (NameE 1 (codes "pcall")) (exps_of (IndexE 1 (NameE 1 (codes "p")) (TextE 1 (codes "f")) ∷ [])))
    ∷ [])) ∷ []))) ∷ []))
    ∷ ReturnS 1 (exps_of (NameE 1 (codes "p") ∷ []))
    ∷ []))

-- Data that fails.
--     error('x')
abbrev pub de_module : ModuleText
de_module = module_text (codes "DE") 10 (stats_of (CallS 1 (CallE 1 (NameE 1 (codes "error")) (exps_of (TextE 1 (codes "x") ∷ []))) ∷ []))

-- A table that is no data.
--     return {f=function() end}
abbrev pub df_module : ModuleText
df_module = module_text (codes "DF") 25 (stats_of (
    ReturnS 1 (exps_of (TableE 1 (fields_of (Pair (TextE 1 (codes "f")) (FunctionE 1 (Lambda [] false NoStat)) ∷ [])) ∷ []))
    ∷ []))

-- It catches what is raised by a load of the module that it is told.
--     return {f=function(frame) local ok,e=pcall(mw.loadData,frame.args[1]) return tostring(ok)..e end}
abbrev pub try_module : ModuleText
try_module = module_text (codes "Try") 97 (stats_of (ReturnS 1 (exps_of (TableE 1 (fields_of (Pair (TextE 1 (codes "f")) (FunctionE 1 (Lambda (codes "frame" ∷ []) false (stats_of (
    LocalS 1 (codes "ok" ∷ codes "e" ∷ []) (exps_of (CallE 1 (NameE 1 (codes "pcall")) (exps_of (
    IndexE 1 (NameE 1 (codes "mw")) (TextE 1 (codes "loadData"))
    ∷ IndexE 1 (IndexE 1 (NameE 1 (codes "frame")) (TextE 1 (codes "args"))) (NumberE 1 (pos 1))
    ∷ [])) ∷ []))
    ∷ ReturnS 1 (exps_of (
    BinaryE 1 op.Concat (CallE 1 (NameE 1 (codes "tostring")) (exps_of (NameE 1 (codes "ok") ∷ []))) (NameE 1 (codes "e"))
    ∷ []))
    ∷ [])))) ∷ [])) ∷ [])) ∷ []))

-- It has a text expanded in its frame.
--     return {f=function(frame) return frame:preprocess('{{{1}}}{{T}}') end}
abbrev pub pre_module : ModuleText
pre_module = module_text (codes "Pre") 70 (stats_of (ReturnS 1 (exps_of (TableE 1 (fields_of (Pair (TextE 1 (codes "f")) (FunctionE 1 (Lambda (codes "frame" ∷ []) false (stats_of (
    ReturnS 1 (exps_of (MethodE 1 (NameE 1 (codes "frame")) (codes "preprocess") (exps_of (TextE 1 (codes "{{{1}}}{{T}}") ∷ [])) ∷ []))
    ∷ [])))) ∷ [])) ∷ [])) ∷ []))

-- It has a template expanded with arguments.
--     return {f=function(frame) return frame:expandTemplate{title='A', args={'p', n='q'}} end}
abbrev pub x_module : ModuleText
x_module = module_text (codes "X") 88 (stats_of (ReturnS 1 (exps_of (TableE 1 (fields_of (Pair (TextE 1 (codes "f")) (FunctionE 1 (Lambda (codes "frame" ∷ []) false (stats_of (ReturnS 1 (exps_of (MethodE 1 (NameE 1 (codes "frame")) (codes "expandTemplate") (exps_of (TableE 1 (fields_of (
    Pair (TextE 1 (codes "title")) (TextE 1 (codes "A"))
    ∷ Pair (TextE 1 (codes "args")) (TableE 1 (fields_of (Item (TextE 1 (codes "p")) ∷ Pair (TextE 1 (codes "n")) (TextE 1 (codes "q")) ∷ [])))
    ∷ [])) ∷ [])) ∷ [])) ∷ [])))) ∷ [])) ∷ [])) ∷ []))

-- The template is not there.
--     return {f=function(frame) return frame:expandTemplate{title='Nope'} end}
abbrev pub nope_module : ModuleText
nope_module = module_text (codes "Nope") 72 (stats_of (ReturnS 1 (exps_of (TableE 1 (fields_of (Pair (TextE 1 (codes "f")) (FunctionE 1 (Lambda (codes "frame" ∷ []) false (stats_of (ReturnS 1 (exps_of (
    MethodE 1 (NameE 1 (codes "frame")) (codes "expandTemplate") (exps_of (TableE 1 (fields_of (Pair (TextE 1 (codes "title")) (TextE 1 (codes "Nope")) ∷ [])) ∷ []))
    ∷ [])) ∷ [])))) ∷ [])) ∷ [])) ∷ []))

-- It has an invocation of itself expanded.
--     local p={} x=1 function p.g() x=2 return 'g' end function p.f(frame) local s=frame:preprocess('{{#invoke:Self|g}}') return s..x end return p
abbrev pub self_module : ModuleText
self_module = module_text (codes "Self") 140 (stats_of (
    LocalS 1 (codes "p" ∷ []) (exps_of (TableE 1 NoField ∷ []))
    ∷ AssignS 1 (exps_of (NameE 1 (codes "x") ∷ [])) (exps_of (NumberE 1 (pos 1) ∷ []))
    ∷ AssignS 1 (exps_of (IndexE 1 (NameE 1 (codes "p")) (TextE 1 (codes "g")) ∷ [])) (exps_of (FunctionE 1 (Lambda [] false (stats_of (
    AssignS 1 (exps_of (NameE 1 (codes "x") ∷ [])) (exps_of (NumberE 1 (pos 2) ∷ []))
    ∷ ReturnS 1 (exps_of (TextE 1 (codes "g") ∷ []))
    ∷ []))) ∷ []))
    ∷ AssignS 1 (exps_of (IndexE 1 (NameE 1 (codes "p")) (TextE 1 (codes "f")) ∷ [])) (exps_of (FunctionE 1 (Lambda (codes "frame" ∷ []) false (stats_of (
    LocalS 1 (codes "s" ∷ []) (exps_of (MethodE 1 (NameE 1 (codes "frame")) (codes "preprocess") (exps_of (TextE 1 (codes "{{#invoke:Self|g}}") ∷ [])) ∷ []))
    ∷ ReturnS 1 (exps_of (BinaryE 1 op.Concat (NameE 1 (codes "s")) (NameE 1 (codes "x")) ∷ []))
    ∷ []))) ∷ []))
    ∷ ReturnS 1 (exps_of (NameE 1 (codes "p") ∷ []))
    ∷ []))

-- It gives what looks like a template.
--     return {f=function() return '{{T}}' end}
abbrev pub braces_module : ModuleText
braces_module = module_text (codes "Braces") 40 (stats_of (ReturnS 1 (exps_of (TableE 1 (fields_of (
    Pair (TextE 1 (codes "f")) (FunctionE 1 (Lambda [] false (stats_of (ReturnS 1 (exps_of (TextE 1 (codes "{{T}}") ∷ [])) ∷ []))))
    ∷ [])) ∷ [])) ∷ []))

-- It fails.
--     return {f=function() error('a<b') end}
abbrev pub bad_module : ModuleText
bad_module = module_text (codes "Bad") 38 (stats_of (ReturnS 1 (exps_of (TableE 1 (fields_of (
    Pair (TextE 1 (codes "f")) (FunctionE 1 (Lambda [] false (stats_of (CallS 1 (CallE 1 (NameE 1 (codes "error")) (exps_of (TextE 1 (codes "a<b") ∷ []))) ∷ []))))
    ∷ [])) ∷ [])) ∷ []))

-- EXAMPLES of frames and their questions, in the body of template T.
use Rattle.std.specs.Prelude.{◌≡◌, pos, true, false, [], ◌∷◌, codes}
use Rattle.lua_syntax.specs.declared.BinaryOp.TheVariants as op
use Rattle.lua_syntax.specs.declared.UnaryOp.TheVariants as sign
use Rattle.lua_syntax.specs.Tree.{NilE, TrueE, FalseE, NumberE, TextE, DotsE, FunctionE, NameE, IndexE, CallE, MethodE, TableE, BinaryE, UnaryE, ParenE}
use Rattle.lua_syntax.specs.Tree.{NoExp, NoField, Item, Pair, Lambda, Block}
use Rattle.lua_syntax.specs.Tree.{AssignS, CallS, EachS, LocalFunctionS, LocalS, ReturnS}
use Rattle.lua_syntax.specs.View.{exps_of, fields_of, stats_of}
use Rattle.page_run.specs.declared.which.Which.TheVariants.{Steps, Calls}
use Rattle.mw_frame.specs.WkBaseDeclaredTitleNamespaceTheVariants.{Main}
use Rattle.mw_frame.specs.declared.question.Ask.TheVariants.{Template, Preprocess}
use Rattle.lua_walk.specs.LuaHeapValue.{Text}
use Rattle.lua_meaning.specs.Questions.{Expanded, NoPage, Loaded, LoadFailed}
use Rattle.lua_meaning.specs.Trial.{Gives, Fails, Spends, Asks, without_steps, arg, module_text, template_title, own_scene, scene_in_template, reply, exhausts, invoke_in_template}

-- A question costs the title's text and the arguments; its answer costs its bytes.
--     return {f=function(frame) return frame:expandTemplate{title='T', args={'p', n='q'}} end}
abbrev pub expands : Block
expands = stats_of (ReturnS 1 (exps_of (TableE 1 (fields_of (Pair (TextE 1 (codes "f")) (FunctionE 1 (Lambda (codes "frame" ∷ []) false (stats_of (ReturnS 1 (exps_of (MethodE 1 (NameE 1 (codes "frame")) (codes "expandTemplate") (exps_of (TableE 1 (fields_of (
    Pair (TextE 1 (codes "title")) (TextE 1 (codes "T"))
    ∷ Pair (TextE 1 (codes "args")) (TableE 1 (fields_of (Item (TextE 1 (codes "p")) ∷ Pair (TextE 1 (codes "n")) (TextE 1 (codes "q")) ∷ [])))
    ∷ [])) ∷ [])) ∷ [])) ∷ [])))) ∷ [])) ∷ [])) ∷ [])

abbrev pub Expands : Type 0
Expands = (invoke_in_template (module_text (codes "X") 88 expands ∷ []) [] (codes "X") 1202 [] ≡ Asks (Template (own_scene (codes "X") []) (template_title (codes "T")) (arg (codes "1") (codes "p") ∷ arg (codes "n") (codes "q") ∷ [])) 30) × (invoke_in_template (module_text (codes "X") 88 expands ∷ []) [] (codes "X") 1202 (reply (Expanded (codes "[p|q]")) 10 ∷ []) ≡ Gives (codes "[p|q]") 0) × (invoke_in_template (module_text (codes "X") 88 expands ∷ []) [] (codes "X") 1202 (reply (Expanded (codes "[p|q]")) 9 ∷ []) ≡ Spends Steps 0) × (invoke_in_template (module_text (codes "X") 88 expands ∷ []) [] (codes "X") 1171 [] ≡ Spends Steps 0)

-- Of two arguments with one name the last counts, at the place of the first; all are charged. True is 1, and false is empty.
--     return {f=function(frame) return frame:expandTemplate{title=' foo_bar ',args={a=true,['1']=2,[1]=false}} end}
abbrev pub merges : Block
merges = stats_of (ReturnS 1 (exps_of (TableE 1 (fields_of (Pair (TextE 1 (codes "f")) (FunctionE 1 (Lambda (codes "frame" ∷ []) false (stats_of (ReturnS 1 (exps_of (MethodE 1 (NameE 1 (codes "frame")) (codes "expandTemplate") (exps_of (TableE 1 (fields_of (
    Pair (TextE 1 (codes "title")) (TextE 1 (codes " foo_bar "))
    ∷ Pair (TextE 1 (codes "args")) (TableE 1 (fields_of (
    Pair (TextE 1 (codes "a")) (TrueE 1)
    ∷ Pair (TextE 1 (codes "1")) (NumberE 1 (pos 2))
    ∷ Pair (NumberE 1 (pos 1)) (FalseE 1)
    ∷ [])))
    ∷ [])) ∷ [])) ∷ [])) ∷ [])))) ∷ [])) ∷ [])) ∷ [])

abbrev pub Merges : Type 0
Merges = invoke_in_template (module_text (codes "X") 109 merges ∷ []) [] (codes "X") 6000 [] ≡ Asks (Template (own_scene (codes "X") []) (template_title (codes "Foo bar")) (arg (codes "a") (codes "1") ∷ arg (codes "1") [] ∷ [])) 4793

-- `preprocess` asks in the scene of its frame.
--     return {f=function(frame) return frame:preprocess('{{{1}}}{{T}}') end}
abbrev pub preprocesses : Block
preprocesses = stats_of (ReturnS 1 (exps_of (TableE 1 (fields_of (Pair (TextE 1 (codes "f")) (FunctionE 1 (Lambda (codes "frame" ∷ []) false (stats_of (
    ReturnS 1 (exps_of (MethodE 1 (NameE 1 (codes "frame")) (codes "preprocess") (exps_of (TextE 1 (codes "{{{1}}}{{T}}") ∷ [])) ∷ []))
    ∷ [])))) ∷ [])) ∷ [])) ∷ [])

abbrev pub Preprocesses : Type 0
Preprocesses = (invoke_in_template (module_text (codes "X") 70 preprocesses ∷ []) (arg (codes "1") (codes "a") ∷ []) (codes "X") 6000 [] ≡ Asks (Preprocess (own_scene (codes "X") (arg (codes "1") (codes "a") ∷ [])) (codes "{{{1}}}{{T}}")) 4881) × (invoke_in_template (module_text (codes "X") 70 preprocesses ∷ []) (arg (codes "1") (codes "a") ∷ []) (codes "X") 6000 (reply (Expanded (codes "at")) 4 ∷ []) ≡ Gives (codes "at") 0) × (invoke_in_template (module_text (codes "X") 70 preprocesses ∷ []) (arg (codes "1") (codes "a") ∷ []) (codes "X") 6000 (exhausts Steps ∷ []) ≡ Spends Steps 0) × (invoke_in_template (module_text (codes "X") 70 preprocesses ∷ []) (arg (codes "1") (codes "a") ∷ []) (codes "X") 6000 (exhausts Calls ∷ []) ≡ Spends Calls 0)

-- What an invocation inside does is not seen.
--     local p={} x=1 function p.f(frame) local s=frame:preprocess('{{#invoke:Self|g}}') return s..x end return p
abbrev pub own_globals : Block
own_globals = stats_of (
    LocalS 1 (codes "p" ∷ []) (exps_of (TableE 1 NoField ∷ []))
    ∷ AssignS 1 (exps_of (NameE 1 (codes "x") ∷ [])) (exps_of (NumberE 1 (pos 1) ∷ []))
    ∷ AssignS 1 (exps_of (IndexE 1 (NameE 1 (codes "p")) (TextE 1 (codes "f")) ∷ [])) (exps_of (FunctionE 1 (Lambda (codes "frame" ∷ []) false (stats_of (
    LocalS 1 (codes "s" ∷ []) (exps_of (MethodE 1 (NameE 1 (codes "frame")) (codes "preprocess") (exps_of (TextE 1 (codes "{{#invoke:Self|g}}") ∷ [])) ∷ []))
    ∷ ReturnS 1 (exps_of (BinaryE 1 op.Concat (NameE 1 (codes "s")) (NameE 1 (codes "x")) ∷ []))
    ∷ []))) ∷ []))
    ∷ ReturnS 1 (exps_of (NameE 1 (codes "p") ∷ []))
    ∷ [])

abbrev pub OwnGlobals : Type 0
OwnGlobals = without_steps (invoke_in_template (module_text (codes "Self") 106 own_globals ∷ []) [] (codes "Self") 6000 (reply (Expanded (codes "g")) 1000 ∷ [])) ≡ Gives (codes "g1") 0

-- That there is no such template is an error at the place that called.
--     return {f=function(frame) return frame:expandTemplate{title='Nope'} end}
abbrev pub no_such_template : Block
no_such_template = stats_of (ReturnS 1 (exps_of (TableE 1 (fields_of (Pair (TextE 1 (codes "f")) (FunctionE 1 (Lambda (codes "frame" ∷ []) false (stats_of (ReturnS 1 (exps_of (
    MethodE 1 (NameE 1 (codes "frame")) (codes "expandTemplate") (exps_of (TableE 1 (fields_of (Pair (TextE 1 (codes "title")) (TextE 1 (codes "Nope")) ∷ [])) ∷ []))
    ∷ [])) ∷ [])))) ∷ [])) ∷ [])) ∷ [])

abbrev pub NoSuchTemplate : Type 0
NoSuchTemplate = without_steps (invoke_in_template (module_text (codes "X") 72 no_such_template ∷ []) [] (codes "X") 6000 (reply NoPage 1000 ∷ [])) ≡ Fails (codes "Lua error: Module:X:1: template 'Nope' does not exist") 0

-- An answer that does not belong to its question is refused.
--     return {f=function(frame) return frame:preprocess('{{{1}}}{{T}}') end}
abbrev pub wrong_answers : Block
wrong_answers = stats_of (ReturnS 1 (exps_of (TableE 1 (fields_of (Pair (TextE 1 (codes "f")) (FunctionE 1 (Lambda (codes "frame" ∷ []) false (stats_of (
    ReturnS 1 (exps_of (MethodE 1 (NameE 1 (codes "frame")) (codes "preprocess") (exps_of (TextE 1 (codes "{{{1}}}{{T}}") ∷ [])) ∷ []))
    ∷ [])))) ∷ [])) ∷ [])) ∷ [])

abbrev pub WrongAnswers : Type 0
WrongAnswers = (without_steps (invoke_in_template (module_text (codes "X") 70 wrong_answers ∷ []) [] (codes "X") 6000 (reply NoPage 1000 ∷ [])) ≡ Fails (codes "Lua error: the answer does not belong to the question") 0) × (without_steps (invoke_in_template (module_text (codes "X") 70 wrong_answers ∷ []) [] (codes "X") 6000 (reply (Loaded (((Text (codes "x"), Text (codes "v")) ∷ []) ∷ [])) 1000 ∷ [])) ≡ Fails (codes "Lua error: the answer does not belong to the question") 0) × (without_steps (invoke_in_template (module_text (codes "X") 70 wrong_answers ∷ []) [] (codes "X") 6000 (reply (LoadFailed (codes "m")) 1000 ∷ [])) ≡ Fails (codes "Lua error: the answer does not belong to the question") 0)

-- The errors of a request.
--     return {f=function(frame)
--     local function e(t) return select(2,pcall(frame.expandTemplate,frame,t))..';' end
--     return e(),e{title={}},e{title='T',args=1},e{title='a|b',args={[true]=1}},e{title='T',args={a={}}},e{title='T',args={[true]=1}}
--     end}
abbrev pub requests_fail : Block
requests_fail = stats_of (ReturnS 1 (exps_of (TableE 1 (fields_of (Pair (TextE 1 (codes "f")) (FunctionE 1 (Lambda (codes "frame" ∷ []) false (stats_of (
    LocalFunctionS 2 (codes "e") (Lambda (codes "t" ∷ []) false (stats_of (ReturnS 2 (exps_of (BinaryE 2 op.Concat (CallE 2 (NameE 2 (codes "select")) (exps_of (
    NumberE 2 (pos 2)
    ∷ CallE 2 (NameE 2 (codes "pcall")) (exps_of (
    IndexE 2 (NameE 2 (codes "frame")) (TextE 2 (codes "expandTemplate"))
    ∷ NameE 2 (codes "frame")
    ∷ NameE 2 (codes "t")
    ∷ []))
    ∷ []))) (TextE 2 (codes ";")) ∷ [])) ∷ [])))
    ∷ ReturnS 3 (exps_of (
    CallE 3 (NameE 3 (codes "e")) NoExp
    ∷ CallE 3 (NameE 3 (codes "e")) (exps_of (TableE 3 (fields_of (Pair (TextE 3 (codes "title")) (TableE 3 NoField) ∷ [])) ∷ []))
    ∷ CallE 3 (NameE 3 (codes "e")) (exps_of (
    TableE 3 (fields_of (Pair (TextE 3 (codes "title")) (TextE 3 (codes "T")) ∷ Pair (TextE 3 (codes "args")) (NumberE 3 (pos 1)) ∷ []))
    ∷ []))
    ∷ CallE 3 (NameE 3 (codes "e")) (exps_of (TableE 3 (fields_of (
    Pair (TextE 3 (codes "title")) (TextE 3 (codes "a|b"))
    ∷ Pair (TextE 3 (codes "args")) (TableE 3 (fields_of (Pair (TrueE 3) (NumberE 3 (pos 1)) ∷ [])))
    ∷ [])) ∷ []))
    ∷ CallE 3 (NameE 3 (codes "e")) (exps_of (TableE 3 (fields_of (
    Pair (TextE 3 (codes "title")) (TextE 3 (codes "T"))
    ∷ Pair (TextE 3 (codes "args")) (TableE 3 (fields_of (Pair (TextE 3 (codes "a")) (TableE 3 NoField) ∷ [])))
    ∷ [])) ∷ []))
    ∷ CallE 3 (NameE 3 (codes "e")) (exps_of (TableE 3 (fields_of (
    Pair (TextE 3 (codes "title")) (TextE 3 (codes "T"))
    ∷ Pair (TextE 3 (codes "args")) (TableE 3 (fields_of (Pair (TrueE 3) (NumberE 3 (pos 1)) ∷ [])))
    ∷ [])) ∷ []))
    ∷ []))
    ∷ [])))) ∷ [])) ∷ [])) ∷ [])

abbrev pub RequestsFail : Type 0
RequestsFail = without_steps (invoke_in_template (module_text (codes "X") 240 requests_fail ∷ []) [] (codes "X") 6000 []) ≡ Gives (codes "bad template arguments;bad template arguments;bad template arguments;invalid title 'a|b';bad template arguments;bad template arguments;") 0

-- The parent is the frame of the template; it is made once, and has none.
--     return {f=function(frame)
--     local p=frame:getParent()
--     return p:getTitle(),p.args[1],p.args.n,tostring(p==frame:getParent()),tostring(p:getParent()),frame:getTitle()
--     end}
abbrev pub parents : Block
parents = stats_of (ReturnS 1 (exps_of (TableE 1 (fields_of (Pair (TextE 1 (codes "f")) (FunctionE 1 (Lambda (codes "frame" ∷ []) false (stats_of (
    LocalS 2 (codes "p" ∷ []) (exps_of (MethodE 2 (NameE 2 (codes "frame")) (codes "getParent") NoExp ∷ []))
    ∷ ReturnS 3 (exps_of (
    MethodE 3 (NameE 3 (codes "p")) (codes "getTitle") NoExp
    ∷ IndexE 3 (IndexE 3 (NameE 3 (codes "p")) (TextE 3 (codes "args"))) (NumberE 3 (pos 1))
    ∷ IndexE 3 (IndexE 3 (NameE 3 (codes "p")) (TextE 3 (codes "args"))) (TextE 3 (codes "n"))
    ∷ CallE 3 (NameE 3 (codes "tostring")) (exps_of (BinaryE 3 op.Eq (NameE 3 (codes "p")) (MethodE 3 (NameE 3 (codes "frame")) (codes "getParent") NoExp) ∷ []))
    ∷ CallE 3 (NameE 3 (codes "tostring")) (exps_of (MethodE 3 (NameE 3 (codes "p")) (codes "getParent") NoExp ∷ []))
    ∷ MethodE 3 (NameE 3 (codes "frame")) (codes "getTitle") NoExp
    ∷ []))
    ∷ [])))) ∷ [])) ∷ [])) ∷ [])

abbrev pub Parents : Type 0
Parents = without_steps (invoke_in_template (module_text (codes "X") 167 parents ∷ []) [] (codes "X") 6000 []) ≡ Gives (codes "Template:TpqtruenilModule:X") 0

-- The first `getParent` costs 16, and the arguments.
--     return {f=function(frame)
--     frame:getParent() frame:getParent()
--     end}
abbrev pub parent_costs : Block
parent_costs = stats_of (ReturnS 1 (exps_of (TableE 1 (fields_of (Pair (TextE 1 (codes "f")) (FunctionE 1 (Lambda (codes "frame" ∷ []) false (stats_of (
    CallS 2 (MethodE 2 (NameE 2 (codes "frame")) (codes "getParent") NoExp)
    ∷ CallS 2 (MethodE 2 (NameE 2 (codes "frame")) (codes "getParent") NoExp)
    ∷ [])))) ∷ [])) ∷ [])) ∷ [])

abbrev pub ParentCosts : Type 0
ParentCosts = (invoke_in_template (module_text (codes "X") 66 parent_costs ∷ []) [] (codes "X") 1128 [] ≡ Gives [] 0) × (invoke_in_template (module_text (codes "X") 66 parent_costs ∷ []) [] (codes "X") 1127 [] ≡ Spends Steps 0)

-- A child has its own arguments and this frame as parent; without a title it has this frame's.
--     return {f=function(frame)
--     local c=frame:newChild{title='a b',args={x=1,'y',['1']='z'}}
--     local d=c:newChild{}
--     return c:getTitle(),c.args[1],c.args.x,tostring(c:getParent()==frame),d:getTitle(),tostring(d:getParent()==c),tostring(next(d.args))
--     end}
abbrev pub children : Block
children = stats_of (ReturnS 1 (exps_of (TableE 1 (fields_of (Pair (TextE 1 (codes "f")) (FunctionE 1 (Lambda (codes "frame" ∷ []) false (stats_of (
    LocalS 2 (codes "c" ∷ []) (exps_of (MethodE 2 (NameE 2 (codes "frame")) (codes "newChild") (exps_of (TableE 2 (fields_of (
    Pair (TextE 2 (codes "title")) (TextE 2 (codes "a b"))
    ∷ Pair (TextE 2 (codes "args")) (TableE 2 (fields_of (
    Pair (TextE 2 (codes "x")) (NumberE 2 (pos 1))
    ∷ Item (TextE 2 (codes "y"))
    ∷ Pair (TextE 2 (codes "1")) (TextE 2 (codes "z"))
    ∷ [])))
    ∷ [])) ∷ [])) ∷ []))
    ∷ LocalS 3 (codes "d" ∷ []) (exps_of (MethodE 3 (NameE 3 (codes "c")) (codes "newChild") (exps_of (TableE 3 NoField ∷ [])) ∷ []))
    ∷ ReturnS 4 (exps_of (
    MethodE 4 (NameE 4 (codes "c")) (codes "getTitle") NoExp
    ∷ IndexE 4 (IndexE 4 (NameE 4 (codes "c")) (TextE 4 (codes "args"))) (NumberE 4 (pos 1))
    ∷ IndexE 4 (IndexE 4 (NameE 4 (codes "c")) (TextE 4 (codes "args"))) (TextE 4 (codes "x"))
    ∷ CallE 4 (NameE 4 (codes "tostring")) (exps_of (BinaryE 4 op.Eq (MethodE 4 (NameE 4 (codes "c")) (codes "getParent") NoExp) (NameE 4 (codes "frame")) ∷ []))
    ∷ MethodE 4 (NameE 4 (codes "d")) (codes "getTitle") NoExp
    ∷ CallE 4 (NameE 4 (codes "tostring")) (exps_of (BinaryE 4 op.Eq (MethodE 4 (NameE 4 (codes "d")) (codes "getParent") NoExp) (NameE 4 (codes "c")) ∷ []))
    ∷ CallE 4 (NameE 4 (codes "tostring")) (exps_of (CallE 4 (NameE 4 (codes "next")) (exps_of (IndexE 4 (NameE 4 (codes "d")) (TextE 4 (codes "args")) ∷ [])) ∷ []))
    ∷ []))
    ∷ [])))) ∷ [])) ∷ [])) ∷ [])

abbrev pub Children : Type 0
Children = without_steps (invoke_in_template (module_text (codes "X") 245 children ∷ []) [] (codes "X") 6000 []) ≡ Gives (codes "A bz1trueA btruenil") 0

-- `newChild` costs 16, and each entry that is read.
--     return {f=function(frame)
--     frame:newChild{args={1,['1']='ab'}}
--     end}
abbrev pub child_costs : Block
child_costs = stats_of (ReturnS 1 (exps_of (TableE 1 (fields_of (Pair (TextE 1 (codes "f")) (FunctionE 1 (Lambda (codes "frame" ∷ []) false (stats_of (CallS 2 (MethodE 2 (NameE 2 (codes "frame")) (codes "newChild") (exps_of (TableE 2 (fields_of (
    Pair (TextE 2 (codes "args")) (TableE 2 (fields_of (Item (NumberE 2 (pos 1)) ∷ Pair (TextE 2 (codes "1")) (TextE 2 (codes "ab")) ∷ [])))
    ∷ [])) ∷ []))) ∷ [])))) ∷ [])) ∷ [])) ∷ [])

abbrev pub ChildCosts : Type 0
ChildCosts = (invoke_in_template (module_text (codes "X") 66 child_costs ∷ []) [] (codes "X") 1159 [] ≡ Gives [] 0) × (invoke_in_template (module_text (codes "X") 66 child_costs ∷ []) [] (codes "X") 1158 [] ≡ Spends Steps 0)

-- A question of a child has its title, its arguments and the chain of its parent.
--     return {f=function(frame) return frame:newChild{title='Q',args={'z'}}:preprocess{text='{{{1}}}'} end}
abbrev pub child_asks : Block
child_asks = stats_of (ReturnS 1 (exps_of (TableE 1 (fields_of (Pair (TextE 1 (codes "f")) (FunctionE 1 (Lambda (codes "frame" ∷ []) false (stats_of (ReturnS 1 (exps_of (MethodE 1 (MethodE 1 (NameE 1 (codes "frame")) (codes "newChild") (exps_of (TableE 1 (fields_of (
    Pair (TextE 1 (codes "title")) (TextE 1 (codes "Q"))
    ∷ Pair (TextE 1 (codes "args")) (TableE 1 (fields_of (Item (TextE 1 (codes "z")) ∷ [])))
    ∷ [])) ∷ []))) (codes "preprocess") (exps_of (TableE 1 (fields_of (Pair (TextE 1 (codes "text")) (TextE 1 (codes "{{{1}}}")) ∷ [])) ∷ [])) ∷ [])) ∷ [])))) ∷ [])) ∷ [])) ∷ [])

abbrev pub ChildAsks : Type 0
ChildAsks = invoke_in_template (module_text (codes "X") 101 child_asks ∷ []) [] (codes "X") 6000 [] ≡ Asks (Preprocess (scene_in_template (record { ns = Main; name = codes "Q" }) (arg (codes "1") (codes "z") ∷ [])) (codes "{{{1}}}")) 4789

-- Its errors are those of `expandTemplate`.
--     return {f=function(frame)
--     local function e(t) return select(2,pcall(frame.newChild,frame,t))..';' end
--     return e(),e{title={}},e{args=1},e{title='a|b',args={[true]=1}},e{args={[true]=1}},frame:newChild{title=1,args={}}:getTitle()
--     end}
abbrev pub child_errors : Block
child_errors = stats_of (ReturnS 1 (exps_of (TableE 1 (fields_of (Pair (TextE 1 (codes "f")) (FunctionE 1 (Lambda (codes "frame" ∷ []) false (stats_of (
    LocalFunctionS 2 (codes "e") (Lambda (codes "t" ∷ []) false (stats_of (ReturnS 2 (exps_of (BinaryE 2 op.Concat (CallE 2 (NameE 2 (codes "select")) (exps_of (
    NumberE 2 (pos 2)
    ∷ CallE 2 (NameE 2 (codes "pcall")) (exps_of (IndexE 2 (NameE 2 (codes "frame")) (TextE 2 (codes "newChild")) ∷ NameE 2 (codes "frame") ∷ NameE 2 (codes "t") ∷ []))
    ∷ []))) (TextE 2 (codes ";")) ∷ [])) ∷ [])))
    ∷ ReturnS 3 (exps_of (
    CallE 3 (NameE 3 (codes "e")) NoExp
    ∷ CallE 3 (NameE 3 (codes "e")) (exps_of (TableE 3 (fields_of (Pair (TextE 3 (codes "title")) (TableE 3 NoField) ∷ [])) ∷ []))
    ∷ CallE 3 (NameE 3 (codes "e")) (exps_of (TableE 3 (fields_of (Pair (TextE 3 (codes "args")) (NumberE 3 (pos 1)) ∷ [])) ∷ []))
    ∷ CallE 3 (NameE 3 (codes "e")) (exps_of (TableE 3 (fields_of (
    Pair (TextE 3 (codes "title")) (TextE 3 (codes "a|b"))
    ∷ Pair (TextE 3 (codes "args")) (TableE 3 (fields_of (Pair (TrueE 3) (NumberE 3 (pos 1)) ∷ [])))
    ∷ [])) ∷ []))
    ∷ CallE 3 (NameE 3 (codes "e")) (exps_of (
    TableE 3 (fields_of (Pair (TextE 3 (codes "args")) (TableE 3 (fields_of (Pair (TrueE 3) (NumberE 3 (pos 1)) ∷ []))) ∷ []))
    ∷ []))
    ∷ MethodE 3 (MethodE 3 (NameE 3 (codes "frame")) (codes "newChild") (exps_of (
    TableE 3 (fields_of (Pair (TextE 3 (codes "title")) (NumberE 3 (pos 1)) ∷ Pair (TextE 3 (codes "args")) (TableE 3 NoField) ∷ []))
    ∷ []))) (codes "getTitle") NoExp
    ∷ []))
    ∷ [])))) ∷ [])) ∷ [])) ∷ [])

abbrev pub ChildErrors : Type 0
ChildErrors = without_steps (invoke_in_template (module_text (codes "X") 232 child_errors ∷ []) [] (codes "X") 6000 []) ≡ Gives (codes "bad template arguments;bad template arguments;bad template arguments;invalid title 'a|b';bad template arguments;1") 0

-- `getArgument` gives nil, or a table with `expand` and `value`.
--     return {f=function(frame)
--     local a=frame:getArgument('n')
--     local s=''
--     for k in next,a do s=s..k end
--     return s,a.value,a:expand(),tostring(frame:getArgument('m')),frame:getArgument{name=1}.value,a.expand({value=5})
--     end}
abbrev pub single_arguments : Block
single_arguments = stats_of (ReturnS 1 (exps_of (TableE 1 (fields_of (Pair (TextE 1 (codes "f")) (FunctionE 1 (Lambda (codes "frame" ∷ []) false (stats_of (
    LocalS 2 (codes "a" ∷ []) (exps_of (MethodE 2 (NameE 2 (codes "frame")) (codes "getArgument") (exps_of (TextE 2 (codes "n") ∷ [])) ∷ []))
    ∷ LocalS 3 (codes "s" ∷ []) (exps_of (TextE 3 [] ∷ []))
    ∷ EachS 4 (codes "k" ∷ []) (exps_of (NameE 4 (codes "next") ∷ NameE 4 (codes "a") ∷ [])) (stats_of (
    AssignS 4 (exps_of (NameE 4 (codes "s") ∷ [])) (exps_of (BinaryE 4 op.Concat (NameE 4 (codes "s")) (NameE 4 (codes "k")) ∷ []))
    ∷ []))
    ∷ ReturnS 5 (exps_of (
    NameE 5 (codes "s")
    ∷ IndexE 5 (NameE 5 (codes "a")) (TextE 5 (codes "value"))
    ∷ MethodE 5 (NameE 5 (codes "a")) (codes "expand") NoExp
    ∷ CallE 5 (NameE 5 (codes "tostring")) (exps_of (MethodE 5 (NameE 5 (codes "frame")) (codes "getArgument") (exps_of (TextE 5 (codes "m") ∷ [])) ∷ []))
    ∷ IndexE 5 (MethodE 5 (NameE 5 (codes "frame")) (codes "getArgument") (exps_of (TableE 5 (fields_of (Pair (TextE 5 (codes "name")) (NumberE 5 (pos 1)) ∷ [])) ∷ []))) (TextE 5 (codes "value"))
    ∷ CallE 5 (IndexE 5 (NameE 5 (codes "a")) (TextE 5 (codes "expand"))) (exps_of (TableE 5 (fields_of (Pair (TextE 5 (codes "value")) (NumberE 5 (pos 5)) ∷ [])) ∷ []))
    ∷ []))
    ∷ [])))) ∷ [])) ∷ [])) ∷ [])

abbrev pub SingleArguments : Type 0
SingleArguments = without_steps (invoke_in_template (module_text (codes "X") 215 single_arguments ∷ []) (arg (codes "1") (codes "x") ∷ arg (codes "n") (codes "q") ∷ []) (codes "X") 6000 []) ≡ Gives (codes "expandvalueqqnilx5") 0

-- It costs a table with two entries.
--     return {f=function(frame)
--     frame:getArgument('n')
--     end}
abbrev pub argument_costs : Block
argument_costs = stats_of (ReturnS 1 (exps_of (TableE 1 (fields_of (
    Pair (TextE 1 (codes "f")) (FunctionE 1 (Lambda (codes "frame" ∷ []) false (stats_of (CallS 2 (MethodE 2 (NameE 2 (codes "frame")) (codes "getArgument") (exps_of (TextE 2 (codes "n") ∷ []))) ∷ []))))
    ∷ [])) ∷ [])) ∷ [])

abbrev pub ArgumentCosts : Type 0
ArgumentCosts = (invoke_in_template (module_text (codes "X") 53 argument_costs ∷ []) (arg (codes "n") (codes "q") ∷ []) (codes "X") 1106 [] ≡ Gives [] 0) × (invoke_in_template (module_text (codes "X") 53 argument_costs ∷ []) (arg (codes "n") (codes "q") ∷ []) (codes "X") 1105 [] ≡ Spends Steps 0)

-- `argumentPairs` is `pairs` of `args`.
--     return {f=function(frame)
--     local s=''
--     for k,v in frame:argumentPairs() do s=s..type(k)..k..v end
--     frame.args=nil
--     return s,#(frame:newChild{args={5,6,7}}).args,select(2,pcall(frame.argumentPairs,frame))
--     end}
abbrev pub walks_arguments : Block
walks_arguments = stats_of (ReturnS 1 (exps_of (TableE 1 (fields_of (Pair (TextE 1 (codes "f")) (FunctionE 1 (Lambda (codes "frame" ∷ []) false (stats_of (
    LocalS 2 (codes "s" ∷ []) (exps_of (TextE 2 [] ∷ []))
    ∷ EachS 3 (codes "k" ∷ codes "v" ∷ []) (exps_of (MethodE 3 (NameE 3 (codes "frame")) (codes "argumentPairs") NoExp ∷ [])) (stats_of (AssignS 3 (exps_of (NameE 3 (codes "s") ∷ [])) (exps_of (
    BinaryE 3 op.Concat (NameE 3 (codes "s")) (BinaryE 3 op.Concat (CallE 3 (NameE 3 (codes "type")) (exps_of (NameE 3 (codes "k") ∷ []))) (BinaryE 3 op.Concat (NameE 3 (codes "k")) (NameE 3 (codes "v"))))
    ∷ [])) ∷ []))
    ∷ AssignS 4 (exps_of (IndexE 4 (NameE 4 (codes "frame")) (TextE 4 (codes "args")) ∷ [])) (exps_of (NilE 4 ∷ []))
    ∷ ReturnS 5 (exps_of (
    NameE 5 (codes "s")
    ∷ UnaryE 5 sign.Len (IndexE 5 (ParenE 5 (MethodE 5 (NameE 5 (codes "frame")) (codes "newChild") (exps_of (TableE 5 (fields_of (
    Pair (TextE 5 (codes "args")) (TableE 5 (fields_of (Item (NumberE 5 (pos 5)) ∷ Item (NumberE 5 (pos 6)) ∷ Item (NumberE 5 (pos 7)) ∷ [])))
    ∷ [])) ∷ [])))) (TextE 5 (codes "args")))
    ∷ CallE 5 (NameE 5 (codes "select")) (exps_of (
    NumberE 5 (pos 2)
    ∷ CallE 5 (NameE 5 (codes "pcall")) (exps_of (IndexE 5 (NameE 5 (codes "frame")) (TextE 5 (codes "argumentPairs")) ∷ NameE 5 (codes "frame") ∷ []))
    ∷ []))
    ∷ []))
    ∷ [])))) ∷ [])) ∷ [])) ∷ [])

abbrev pub WalksArguments : Type 0
WalksArguments = without_steps (invoke_in_template (module_text (codes "X") 204 walks_arguments ∷ []) (arg (codes "n") (codes "q") ∷ arg (codes "1") (codes "x") ∷ []) (codes "X") 6000 []) ≡ Gives (codes "stringnqnumber1x3bad argument #1 to 'pairs' (table expected, got nil)") 0

-- A name of 18 digits is a number, one of 19 or with a zero in front is none.
--     return {f=function(frame)
--     local a=frame.args
--     return a[123456789012345678],a['123456789012345678'],tostring(a[1234567890123456789]),a['1234567890123456789'],tostring(a[1]),a['01'],tostring(a['1'])
--     end}
abbrev pub long_names : Block
long_names = stats_of (ReturnS 1 (exps_of (TableE 1 (fields_of (Pair (TextE 1 (codes "f")) (FunctionE 1 (Lambda (codes "frame" ∷ []) false (stats_of (
    LocalS 2 (codes "a" ∷ []) (exps_of (IndexE 2 (NameE 2 (codes "frame")) (TextE 2 (codes "args")) ∷ []))
    ∷ ReturnS 3 (exps_of (
    IndexE 3 (NameE 3 (codes "a")) (NumberE 3 (pos 123456789012345678))
    ∷ IndexE 3 (NameE 3 (codes "a")) (TextE 3 (codes "123456789012345678"))
    ∷ CallE 3 (NameE 3 (codes "tostring")) (exps_of (IndexE 3 (NameE 3 (codes "a")) (NumberE 3 (pos 1234567890123456789)) ∷ []))
    ∷ IndexE 3 (NameE 3 (codes "a")) (TextE 3 (codes "1234567890123456789"))
    ∷ CallE 3 (NameE 3 (codes "tostring")) (exps_of (IndexE 3 (NameE 3 (codes "a")) (NumberE 3 (pos 1)) ∷ []))
    ∷ IndexE 3 (NameE 3 (codes "a")) (TextE 3 (codes "01"))
    ∷ CallE 3 (NameE 3 (codes "tostring")) (exps_of (IndexE 3 (NameE 3 (codes "a")) (TextE 3 (codes "1")) ∷ []))
    ∷ []))
    ∷ [])))) ∷ [])) ∷ [])) ∷ [])

abbrev pub LongNames : Type 0
LongNames = without_steps (invoke_in_template (module_text (codes "X") 200 long_names ∷ []) (arg (codes "123456789012345678") (codes "x") ∷ arg (codes "1234567890123456789") (codes "y") ∷ arg (codes "01") (codes "z") ∷ []) (codes "X") 6000 []) ≡ Gives (codes "xxnilynilznil") 0

-- A write changes what Lua reads, and not the frame.
--     return {f=function(frame)
--     frame.args.n='z'
--     local kept=frame:getArgument('n').value
--     frame.getTitle=nil
--     return frame.args.n,kept,mw.getCurrentFrame().args.n
--     end}
abbrev pub frames_keep_arguments : Block
frames_keep_arguments = stats_of (ReturnS 1 (exps_of (TableE 1 (fields_of (Pair (TextE 1 (codes "f")) (FunctionE 1 (Lambda (codes "frame" ∷ []) false (stats_of (
    AssignS 2 (exps_of (IndexE 2 (IndexE 2 (NameE 2 (codes "frame")) (TextE 2 (codes "args"))) (TextE 2 (codes "n")) ∷ [])) (exps_of (TextE 2 (codes "z") ∷ []))
    ∷ LocalS 3 (codes "kept" ∷ []) (exps_of (
    IndexE 3 (MethodE 3 (NameE 3 (codes "frame")) (codes "getArgument") (exps_of (TextE 3 (codes "n") ∷ []))) (TextE 3 (codes "value"))
    ∷ []))
    ∷ AssignS 4 (exps_of (IndexE 4 (NameE 4 (codes "frame")) (TextE 4 (codes "getTitle")) ∷ [])) (exps_of (NilE 4 ∷ []))
    ∷ ReturnS 5 (exps_of (
    IndexE 5 (IndexE 5 (NameE 5 (codes "frame")) (TextE 5 (codes "args"))) (TextE 5 (codes "n"))
    ∷ NameE 5 (codes "kept")
    ∷ IndexE 5 (IndexE 5 (CallE 5 (IndexE 5 (NameE 5 (codes "mw")) (TextE 5 (codes "getCurrentFrame"))) NoExp) (TextE 5 (codes "args"))) (TextE 5 (codes "n"))
    ∷ []))
    ∷ [])))) ∷ [])) ∷ [])) ∷ [])

abbrev pub FramesKeepArguments : Type 0
FramesKeepArguments = without_steps (invoke_in_template (module_text (codes "X") 159 frames_keep_arguments ∷ []) (arg (codes "n") (codes "q") ∷ []) (codes "X") 6000 []) ≡ Gives (codes "zqz") 0

-- A question has the arguments with which the frame was made.
--     return {f=function(frame) frame.args[1]='z' return frame:preprocess('x') end}
abbrev pub questions_keep_arguments : Block
questions_keep_arguments = stats_of (ReturnS 1 (exps_of (TableE 1 (fields_of (Pair (TextE 1 (codes "f")) (FunctionE 1 (Lambda (codes "frame" ∷ []) false (stats_of (
    AssignS 1 (exps_of (IndexE 1 (IndexE 1 (NameE 1 (codes "frame")) (TextE 1 (codes "args"))) (NumberE 1 (pos 1)) ∷ [])) (exps_of (TextE 1 (codes "z") ∷ []))
    ∷ ReturnS 1 (exps_of (MethodE 1 (NameE 1 (codes "frame")) (codes "preprocess") (exps_of (TextE 1 (codes "x") ∷ [])) ∷ []))
    ∷ [])))) ∷ [])) ∷ [])) ∷ [])

abbrev pub QuestionsKeepArguments : Type 0
QuestionsKeepArguments = invoke_in_template (module_text (codes "X") 77 questions_keep_arguments ∷ []) (arg (codes "1") (codes "a") ∷ []) (codes "X") 6000 [] ≡ Asks (Preprocess (own_scene (codes "X") (arg (codes "1") (codes "a") ∷ [])) (codes "x")) 4878

-- A frame is known by the number in its metatable.
--     return {f=function(frame)
--     local copy=setmetatable({},{0})
--     return frame.getTitle(copy),tostring(frame==mw.getCurrentFrame()),tostring(getmetatable(frame)),tostring(getmetatable(frame.args))
--     end}
abbrev pub numbered_frames : Block
numbered_frames = stats_of (ReturnS 1 (exps_of (TableE 1 (fields_of (Pair (TextE 1 (codes "f")) (FunctionE 1 (Lambda (codes "frame" ∷ []) false (stats_of (
    LocalS 2 (codes "copy" ∷ []) (exps_of (
    CallE 2 (NameE 2 (codes "setmetatable")) (exps_of (TableE 2 NoField ∷ TableE 2 (fields_of (Item (NumberE 2 (pos 0)) ∷ [])) ∷ []))
    ∷ []))
    ∷ ReturnS 3 (exps_of (
    CallE 3 (IndexE 3 (NameE 3 (codes "frame")) (TextE 3 (codes "getTitle"))) (exps_of (NameE 3 (codes "copy") ∷ []))
    ∷ CallE 3 (NameE 3 (codes "tostring")) (exps_of (
    BinaryE 3 op.Eq (NameE 3 (codes "frame")) (CallE 3 (IndexE 3 (NameE 3 (codes "mw")) (TextE 3 (codes "getCurrentFrame"))) NoExp)
    ∷ []))
    ∷ CallE 3 (NameE 3 (codes "tostring")) (exps_of (CallE 3 (NameE 3 (codes "getmetatable")) (exps_of (NameE 3 (codes "frame") ∷ [])) ∷ []))
    ∷ CallE 3 (NameE 3 (codes "tostring")) (exps_of (
    CallE 3 (NameE 3 (codes "getmetatable")) (exps_of (IndexE 3 (NameE 3 (codes "frame")) (TextE 3 (codes "args")) ∷ []))
    ∷ []))
    ∷ []))
    ∷ [])))) ∷ [])) ∷ [])) ∷ [])

abbrev pub NumberedFrames : Type 0
NumberedFrames = without_steps (invoke_in_template (module_text (codes "X") 193 numbered_frames ∷ []) [] (codes "X") 6000 []) ≡ Gives (codes "Module:Xtruefalsefalse") 0

-- A copy of a frame is that frame, and a copy of read-only data can be written.
--     return {f=function(frame)
--     local c=mw.clone(frame)
--     local d=mw.clone(mw.loadData('Module:D'))
--     d.x='w'
--     local t={}
--     t.a=t
--     local e=mw.clone(t)
--     return c:getTitle(),tostring(c==frame),c.args[1],c.args['1'],d.x,tostring(e.a==e),tostring(e==t),mw.clone(5)
--     end}
abbrev pub copied_frames : Block
copied_frames = stats_of (ReturnS 1 (exps_of (TableE 1 (fields_of (Pair (TextE 1 (codes "f")) (FunctionE 1 (Lambda (codes "frame" ∷ []) false (stats_of (
    LocalS 2 (codes "c" ∷ []) (exps_of (CallE 2 (IndexE 2 (NameE 2 (codes "mw")) (TextE 2 (codes "clone"))) (exps_of (NameE 2 (codes "frame") ∷ [])) ∷ []))
    ∷ LocalS 3 (codes "d" ∷ []) (exps_of (CallE 3 (IndexE 3 (NameE 3 (codes "mw")) (TextE 3 (codes "clone"))) (exps_of (
    CallE 3 (IndexE 3 (NameE 3 (codes "mw")) (TextE 3 (codes "loadData"))) (exps_of (TextE 3 (codes "Module:D") ∷ []))
    ∷ [])) ∷ []))
    ∷ AssignS 4 (exps_of (IndexE 4 (NameE 4 (codes "d")) (TextE 4 (codes "x")) ∷ [])) (exps_of (TextE 4 (codes "w") ∷ []))
    ∷ LocalS 5 (codes "t" ∷ []) (exps_of (TableE 5 NoField ∷ []))
    ∷ AssignS 6 (exps_of (IndexE 6 (NameE 6 (codes "t")) (TextE 6 (codes "a")) ∷ [])) (exps_of (NameE 6 (codes "t") ∷ []))
    ∷ LocalS 7 (codes "e" ∷ []) (exps_of (CallE 7 (IndexE 7 (NameE 7 (codes "mw")) (TextE 7 (codes "clone"))) (exps_of (NameE 7 (codes "t") ∷ [])) ∷ []))
    ∷ ReturnS 8 (exps_of (
    MethodE 8 (NameE 8 (codes "c")) (codes "getTitle") NoExp
    ∷ CallE 8 (NameE 8 (codes "tostring")) (exps_of (BinaryE 8 op.Eq (NameE 8 (codes "c")) (NameE 8 (codes "frame")) ∷ []))
    ∷ IndexE 8 (IndexE 8 (NameE 8 (codes "c")) (TextE 8 (codes "args"))) (NumberE 8 (pos 1))
    ∷ IndexE 8 (IndexE 8 (NameE 8 (codes "c")) (TextE 8 (codes "args"))) (TextE 8 (codes "1"))
    ∷ IndexE 8 (NameE 8 (codes "d")) (TextE 8 (codes "x"))
    ∷ CallE 8 (NameE 8 (codes "tostring")) (exps_of (BinaryE 8 op.Eq (IndexE 8 (NameE 8 (codes "e")) (TextE 8 (codes "a"))) (NameE 8 (codes "e")) ∷ []))
    ∷ CallE 8 (NameE 8 (codes "tostring")) (exps_of (BinaryE 8 op.Eq (NameE 8 (codes "e")) (NameE 8 (codes "t")) ∷ []))
    ∷ CallE 8 (IndexE 8 (NameE 8 (codes "mw")) (TextE 8 (codes "clone"))) (exps_of (NumberE 8 (pos 5) ∷ []))
    ∷ []))
    ∷ [])))) ∷ [])) ∷ [])) ∷ [])

abbrev pub CopiedFrames : Type 0
CopiedFrames = without_steps (invoke_in_template (module_text (codes "X") 250 copied_frames ∷ []) (arg (codes "1") (codes "a") ∷ []) (codes "X") 6000 (reply (Loaded (((Text (codes "x"), Text (codes "v")) ∷ []) ∷ [])) 3000 ∷ [])) ≡ Gives (codes "Module:Xfalseaawtruefalse5") 0

-- `mw.clone` costs 8 for each table, metatables included, and 4 for each entry.
--     return {f=function(frame)
--     mw.clone(setmetatable({{}},{__len=1}))
--     end}
abbrev pub clone_costs : Block
clone_costs = stats_of (ReturnS 1 (exps_of (TableE 1 (fields_of (Pair (TextE 1 (codes "f")) (FunctionE 1 (Lambda (codes "frame" ∷ []) false (stats_of (CallS 2 (CallE 2 (IndexE 2 (NameE 2 (codes "mw")) (TextE 2 (codes "clone"))) (exps_of (CallE 2 (NameE 2 (codes "setmetatable")) (exps_of (
    TableE 2 (fields_of (Item (TableE 2 NoField) ∷ []))
    ∷ TableE 2 (fields_of (Pair (TextE 2 (codes "__len")) (NumberE 2 (pos 1)) ∷ []))
    ∷ [])) ∷ []))) ∷ [])))) ∷ [])) ∷ [])) ∷ [])

abbrev pub CloneCosts : Type 0
CloneCosts = (invoke_in_template (module_text (codes "X") 69 clone_costs ∷ []) [] (codes "X") 1173 [] ≡ Gives [] 0) × (invoke_in_template (module_text (codes "X") 69 clone_costs ∷ []) [] (codes "X") 1172 [] ≡ Spends Steps 0)

-- What is no frame of the run is refused.
--     return {f=function(frame)
--     local function e(f,...) return select(2,pcall(f,...))..';' end
--     return e(frame.getTitle,{}),e(frame.getParent),e(frame.preprocess,setmetatable({},{1}),'x'),e(frame.preprocess,frame,{}),e(frame.getArgument,frame)
--     end}
abbrev pub no_frame : Block
no_frame = stats_of (ReturnS 1 (exps_of (TableE 1 (fields_of (Pair (TextE 1 (codes "f")) (FunctionE 1 (Lambda (codes "frame" ∷ []) false (stats_of (
    LocalFunctionS 2 (codes "e") (Lambda (codes "f" ∷ []) true (stats_of (ReturnS 2 (exps_of (
    BinaryE 2 op.Concat (CallE 2 (NameE 2 (codes "select")) (exps_of (NumberE 2 (pos 2) ∷ CallE 2 (NameE 2 (codes "pcall")) (exps_of (NameE 2 (codes "f") ∷ DotsE 2 ∷ [])) ∷ []))) (TextE 2 (codes ";"))
    ∷ [])) ∷ [])))
    ∷ ReturnS 3 (exps_of (
    CallE 3 (NameE 3 (codes "e")) (exps_of (IndexE 3 (NameE 3 (codes "frame")) (TextE 3 (codes "getTitle")) ∷ TableE 3 NoField ∷ []))
    ∷ CallE 3 (NameE 3 (codes "e")) (exps_of (IndexE 3 (NameE 3 (codes "frame")) (TextE 3 (codes "getParent")) ∷ []))
    ∷ CallE 3 (NameE 3 (codes "e")) (exps_of (
    IndexE 3 (NameE 3 (codes "frame")) (TextE 3 (codes "preprocess"))
    ∷ CallE 3 (NameE 3 (codes "setmetatable")) (exps_of (TableE 3 NoField ∷ TableE 3 (fields_of (Item (NumberE 3 (pos 1)) ∷ [])) ∷ []))
    ∷ TextE 3 (codes "x")
    ∷ []))
    ∷ CallE 3 (NameE 3 (codes "e")) (exps_of (IndexE 3 (NameE 3 (codes "frame")) (TextE 3 (codes "preprocess")) ∷ NameE 3 (codes "frame") ∷ TableE 3 NoField ∷ []))
    ∷ CallE 3 (NameE 3 (codes "e")) (exps_of (IndexE 3 (NameE 3 (codes "frame")) (TextE 3 (codes "getArgument")) ∷ NameE 3 (codes "frame") ∷ []))
    ∷ []))
    ∷ [])))) ∷ [])) ∷ [])) ∷ [])

abbrev pub NoFrame : Type 0
NoFrame = without_steps (invoke_in_template (module_text (codes "X") 241 no_frame ∷ []) [] (codes "X") 6000 []) ≡ Gives (codes "bad argument #1 to 'getTitle' (frame expected, got table);bad argument #1 to 'getParent' (frame expected, got no value);bad argument #1 to 'preprocess' (frame expected, got table);bad argument #2 to 'preprocess' (string expected, got nil);bad argument #2 to 'getArgument' (string expected, got no value);") 0

-- `extensionTag` is `mw.text.tag`: a text, false or nil follows the attributes.
--     return {f=function(frame)
--     return frame:extensionTag('b','t',{x=1,y='a<"b',z=true,w=false}),frame:extensionTag{name='i',content=5},frame:extensionTag('br'),frame:extensionTag('hr',false)
--     end}
abbrev pub tags : Block
tags = stats_of (ReturnS 1 (exps_of (TableE 1 (fields_of (Pair (TextE 1 (codes "f")) (FunctionE 1 (Lambda (codes "frame" ∷ []) false (stats_of (ReturnS 2 (exps_of (
    MethodE 2 (NameE 2 (codes "frame")) (codes "extensionTag") (exps_of (
    TextE 2 (codes "b")
    ∷ TextE 2 (codes "t")
    ∷ TableE 2 (fields_of (
    Pair (TextE 2 (codes "x")) (NumberE 2 (pos 1))
    ∷ Pair (TextE 2 (codes "y")) (TextE 2 (codes "a<\"b"))
    ∷ Pair (TextE 2 (codes "z")) (TrueE 2)
    ∷ Pair (TextE 2 (codes "w")) (FalseE 2)
    ∷ []))
    ∷ []))
    ∷ MethodE 2 (NameE 2 (codes "frame")) (codes "extensionTag") (exps_of (
    TableE 2 (fields_of (Pair (TextE 2 (codes "name")) (TextE 2 (codes "i")) ∷ Pair (TextE 2 (codes "content")) (NumberE 2 (pos 5)) ∷ []))
    ∷ []))
    ∷ MethodE 2 (NameE 2 (codes "frame")) (codes "extensionTag") (exps_of (TextE 2 (codes "br") ∷ []))
    ∷ MethodE 2 (NameE 2 (codes "frame")) (codes "extensionTag") (exps_of (TextE 2 (codes "hr") ∷ FalseE 2 ∷ []))
    ∷ [])) ∷ [])))) ∷ [])) ∷ [])) ∷ [])

abbrev pub Tags : Type 0
Tags = without_steps (invoke_in_template (module_text (codes "X") 190 tags ∷ []) [] (codes "X") 6000 []) ≡ Gives (codes "<b x=\"1\" y=\"a&lt;&quot;b\" z>t</b><i>5</i><br><hr />") 0

-- Its errors are worded as of `tag`.
--     return {f=function(frame)
--     local function e(...) return select(2,pcall(frame.extensionTag,frame,...))..';' end
--     return e(),e('b','t',1),e('b','t',{[true]=1}),e('b','t',{a={}}),e('b',true)
--     end}
abbrev pub bad_tags : Block
bad_tags = stats_of (ReturnS 1 (exps_of (TableE 1 (fields_of (Pair (TextE 1 (codes "f")) (FunctionE 1 (Lambda (codes "frame" ∷ []) false (stats_of (
    LocalFunctionS 2 (codes "e") (Lambda [] true (stats_of (ReturnS 2 (exps_of (BinaryE 2 op.Concat (CallE 2 (NameE 2 (codes "select")) (exps_of (
    NumberE 2 (pos 2)
    ∷ CallE 2 (NameE 2 (codes "pcall")) (exps_of (IndexE 2 (NameE 2 (codes "frame")) (TextE 2 (codes "extensionTag")) ∷ NameE 2 (codes "frame") ∷ DotsE 2 ∷ []))
    ∷ []))) (TextE 2 (codes ";")) ∷ [])) ∷ [])))
    ∷ ReturnS 3 (exps_of (
    CallE 3 (NameE 3 (codes "e")) NoExp
    ∷ CallE 3 (NameE 3 (codes "e")) (exps_of (TextE 3 (codes "b") ∷ TextE 3 (codes "t") ∷ NumberE 3 (pos 1) ∷ []))
    ∷ CallE 3 (NameE 3 (codes "e")) (exps_of (TextE 3 (codes "b") ∷ TextE 3 (codes "t") ∷ TableE 3 (fields_of (Pair (TrueE 3) (NumberE 3 (pos 1)) ∷ [])) ∷ []))
    ∷ CallE 3 (NameE 3 (codes "e")) (exps_of (
    TextE 3 (codes "b")
    ∷ TextE 3 (codes "t")
    ∷ TableE 3 (fields_of (Pair (TextE 3 (codes "a")) (TableE 3 NoField) ∷ []))
    ∷ []))
    ∷ CallE 3 (NameE 3 (codes "e")) (exps_of (TextE 3 (codes "b") ∷ TrueE 3 ∷ []))
    ∷ []))
    ∷ [])))) ∷ [])) ∷ [])) ∷ [])

abbrev pub BadTags : Type 0
BadTags = without_steps (invoke_in_template (module_text (codes "X") 190 bad_tags ∷ []) [] (codes "X") 6000 []) ≡ Gives (codes "bad argument #1 to 'tag' (string expected, got no value);bad argument #2 to 'tag' (table expected, got number);bad argument #2 to 'tag' (string expected, got boolean);bad argument #2 to 'tag' (string expected, got table);bad argument #3 to 'tag' (string expected, got boolean);") 0

-- A tag costs the bytes of the arguments that are strings, and its own.
--     return {f=function(frame)
--     frame:extensionTag('b','tt')
--     end}
abbrev pub tag_costs : Block
tag_costs = stats_of (ReturnS 1 (exps_of (TableE 1 (fields_of (Pair (TextE 1 (codes "f")) (FunctionE 1 (Lambda (codes "frame" ∷ []) false (stats_of (
    CallS 2 (MethodE 2 (NameE 2 (codes "frame")) (codes "extensionTag") (exps_of (TextE 2 (codes "b") ∷ TextE 2 (codes "tt") ∷ [])))
    ∷ [])))) ∷ [])) ∷ [])) ∷ [])

abbrev pub TagCosts : Type 0
TagCosts = (invoke_in_template (module_text (codes "X") 59 tag_costs ∷ []) [] (codes "X") 1103 [] ≡ Gives [] 0) × (invoke_in_template (module_text (codes "X") 59 tag_costs ∷ []) [] (codes "X") 1102 [] ≡ Spends Steps 0)

-- `getCurrentTitle` gives the texts of the page's title.
--     return {f=function(frame)
--     local s=''
--     for k,v in pairs(mw.title.getCurrentTitle()) do s=s..k..'='..v..';' end
--     mw.log(s)
--     return s
--     end}
abbrev pub current_title : Block
current_title = stats_of (ReturnS 1 (exps_of (TableE 1 (fields_of (Pair (TextE 1 (codes "f")) (FunctionE 1 (Lambda (codes "frame" ∷ []) false (stats_of (
    LocalS 2 (codes "s" ∷ []) (exps_of (TextE 2 [] ∷ []))
    ∷ EachS 3 (codes "k" ∷ codes "v" ∷ []) (exps_of (CallE 3 (NameE 3 (codes "pairs")) (exps_of (
    CallE 3 (IndexE 3 (IndexE 3 (NameE 3 (codes "mw")) (TextE 3 (codes "title"))) (TextE 3 (codes "getCurrentTitle"))) NoExp
    ∷ [])) ∷ [])) (stats_of (AssignS 3 (exps_of (NameE 3 (codes "s") ∷ [])) (exps_of (
    BinaryE 3 op.Concat (NameE 3 (codes "s")) (BinaryE 3 op.Concat (NameE 3 (codes "k")) (BinaryE 3 op.Concat (TextE 3 (codes "=")) (BinaryE 3 op.Concat (NameE 3 (codes "v")) (TextE 3 (codes ";")))))
    ∷ [])) ∷ []))
    ∷ CallS 4 (CallE 4 (IndexE 4 (NameE 4 (codes "mw")) (TextE 4 (codes "log"))) (exps_of (NameE 4 (codes "s") ∷ [])))
    ∷ ReturnS 5 (exps_of (NameE 5 (codes "s") ∷ []))
    ∷ [])))) ∷ [])) ∷ [])) ∷ [])

abbrev pub CurrentTitle : Type 0
CurrentTitle = without_steps (invoke_in_template (module_text (codes "X") 132 current_title ∷ []) [] (codes "X") 6000 []) ≡ Gives (codes "text=P;nsText=;prefixedText=P;") 0

-- A cleared entry that is passed costs a step: by `extensionTag` and `newChild`.
--     return {f=function(frame)
--     local t={x=1} t.x=nil
--     frame:extensionTag('b','',t) frame:newChild{args=t}
--     end}
abbrev pub cleared_costs : Block
cleared_costs = stats_of (ReturnS 1 (exps_of (TableE 1 (fields_of (Pair (TextE 1 (codes "f")) (FunctionE 1 (Lambda (codes "frame" ∷ []) false (stats_of (
    LocalS 2 (codes "t" ∷ []) (exps_of (TableE 2 (fields_of (Pair (TextE 2 (codes "x")) (NumberE 2 (pos 1)) ∷ [])) ∷ []))
    ∷ AssignS 2 (exps_of (IndexE 2 (NameE 2 (codes "t")) (TextE 2 (codes "x")) ∷ [])) (exps_of (NilE 2 ∷ []))
    ∷ CallS 3 (MethodE 3 (NameE 3 (codes "frame")) (codes "extensionTag") (exps_of (TextE 3 (codes "b") ∷ TextE 3 [] ∷ NameE 3 (codes "t") ∷ [])))
    ∷ CallS 3 (MethodE 3 (NameE 3 (codes "frame")) (codes "newChild") (exps_of (TableE 3 (fields_of (Pair (TextE 3 (codes "args")) (NameE 3 (codes "t")) ∷ [])) ∷ [])))
    ∷ [])))) ∷ [])) ∷ [])) ∷ [])

abbrev pub ClearedCosts : Type 0
ClearedCosts = (invoke_in_template (module_text (codes "X") 104 cleared_costs ∷ []) [] (codes "X") 1203 [] ≡ Gives [] 0) × (invoke_in_template (module_text (codes "X") 104 cleared_costs ∷ []) [] (codes "X") 1202 [] ≡ Spends Steps 0)

-- A wrong entry ends the walk: what is behind it is not passed.
--     return {f=function(frame)
--     local t={x=1,[true]=1,y=1} t.x=nil t.y=nil
--     pcall(frame.newChild,frame,{args=t})
--     end}
abbrev pub cleared_before_a_fault : Block
cleared_before_a_fault = stats_of (ReturnS 1 (exps_of (TableE 1 (fields_of (Pair (TextE 1 (codes "f")) (FunctionE 1 (Lambda (codes "frame" ∷ []) false (stats_of (
    LocalS 2 (codes "t" ∷ []) (exps_of (TableE 2 (fields_of (
    Pair (TextE 2 (codes "x")) (NumberE 2 (pos 1))
    ∷ Pair (TrueE 2) (NumberE 2 (pos 1))
    ∷ Pair (TextE 2 (codes "y")) (NumberE 2 (pos 1))
    ∷ [])) ∷ []))
    ∷ AssignS 2 (exps_of (IndexE 2 (NameE 2 (codes "t")) (TextE 2 (codes "x")) ∷ [])) (exps_of (NilE 2 ∷ []))
    ∷ AssignS 2 (exps_of (IndexE 2 (NameE 2 (codes "t")) (TextE 2 (codes "y")) ∷ [])) (exps_of (NilE 2 ∷ []))
    ∷ CallS 3 (CallE 3 (NameE 3 (codes "pcall")) (exps_of (
    IndexE 3 (NameE 3 (codes "frame")) (TextE 3 (codes "newChild"))
    ∷ NameE 3 (codes "frame")
    ∷ TableE 3 (fields_of (Pair (TextE 3 (codes "args")) (NameE 3 (codes "t")) ∷ []))
    ∷ [])))
    ∷ [])))) ∷ [])) ∷ [])) ∷ [])

abbrev pub ClearedBeforeAFault : Type 0
ClearedBeforeAFault = (invoke_in_template (module_text (codes "X") 110 cleared_before_a_fault ∷ []) [] (codes "X") 1199 [] ≡ Gives [] 0) × (invoke_in_template (module_text (codes "X") 110 cleared_before_a_fault ∷ []) [] (codes "X") 1198 [] ≡ Spends Steps 0)

-- It costs a table with three entries.
--     return {f=function(frame)
--     mw.title.getCurrentTitle()
--     end}
abbrev pub title_costs : Block
title_costs = stats_of (ReturnS 1 (exps_of (TableE 1 (fields_of (Pair (TextE 1 (codes "f")) (FunctionE 1 (Lambda (codes "frame" ∷ []) false (stats_of (
    CallS 2 (CallE 2 (IndexE 2 (IndexE 2 (NameE 2 (codes "mw")) (TextE 2 (codes "title"))) (TextE 2 (codes "getCurrentTitle"))) NoExp)
    ∷ [])))) ∷ [])) ∷ [])) ∷ [])

abbrev pub TitleCosts : Type 0
TitleCosts = (invoke_in_template (module_text (codes "X") 57 title_costs ∷ []) [] (codes "X") 1111 [] ≡ Gives [] 0) × (invoke_in_template (module_text (codes "X") 57 title_costs ∷ []) [] (codes "X") 1110 [] ≡ Spends Steps 0)

-- ALL OF THEM
abbrev pub AllFrames : Type 0
AllFrames =
    Expands
    × Merges
    × Preprocesses
    × OwnGlobals
    × NoSuchTemplate
    × WrongAnswers
    × RequestsFail
    × Parents
    × ParentCosts
    × Children
    × ChildCosts
    × ChildAsks
    × ChildErrors
    × SingleArguments
    × ArgumentCosts
    × WalksArguments
    × LongNames
    × FramesKeepArguments
    × QuestionsKeepArguments
    × NumberedFrames
    × CopiedFrames
    × CloneCosts
    × NoFrame
    × Tags
    × BadTags
    × TagCosts
    × CurrentTitle
    × ClearedCosts
    × ClearedBeforeAFault
    × TitleCosts

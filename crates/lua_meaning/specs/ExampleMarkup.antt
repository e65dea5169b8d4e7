-- EXAMPLES of `mw.html`, as modules use it.
use Rattle.std.specs.Prelude.{◌≡◌, pos, true, false, [], ◌∷◌, codes}
use Rattle.lua_syntax.specs.declared.BinaryOp.TheVariants as op
use Rattle.lua_syntax.specs.declared.UnaryOp.TheVariants as sign
use Rattle.lua_syntax.specs.Tree.{NilE, TrueE, NumberE, TextE, DotsE, FunctionE, NameE, IndexE, CallE, MethodE, TableE, BinaryE, UnaryE}
use Rattle.lua_syntax.specs.Tree.{NoExp, NoField, Pair, Lambda, Block}
use Rattle.lua_syntax.specs.Tree.{AssignS, CallS, EachS, LocalFunctionS, LocalS, ReturnS}
use Rattle.lua_syntax.specs.View.{exps_of, fields_of, stats_of}
use Rattle.page_run.specs.declared.which.Which.TheVariants.{Steps}
use Rattle.lua_meaning.specs.Trial.{Gives, Fails, Spends, without_steps, invoke_module}

-- `node` costs the bytes that it is given, and `create` nothing; a rendering a step for the object and for each byte.
--     return {f=function(...)
--     return tostring(mw.html.create('b'):node('x'))
--     end}
abbrev pub rendering_costs : Block
rendering_costs = stats_of (ReturnS 1 (exps_of (TableE 1 (fields_of (Pair (TextE 1 (codes "f")) (FunctionE 1 (Lambda [] true (stats_of (ReturnS 2 (exps_of (CallE 2 (NameE 2 (codes "tostring")) (exps_of (
    MethodE 2 (CallE 2 (IndexE 2 (IndexE 2 (NameE 2 (codes "mw")) (TextE 2 (codes "html"))) (TextE 2 (codes "create"))) (exps_of (TextE 2 (codes "b") ∷ []))) (codes "node") (exps_of (TextE 2 (codes "x") ∷ []))
    ∷ [])) ∷ [])) ∷ [])))) ∷ [])) ∷ [])) ∷ [])

abbrev pub RenderingCosts : Type 0
RenderingCosts = (invoke_module (codes "X") 75 rendering_costs 1134 ≡ Gives (codes "<b>x</b>") 0) × (invoke_module (codes "X") 75 rendering_costs 1133 ≡ Spends Steps 0)

-- In an answer an object costs its rendering too.
--     return {f=function(...)
--     return mw.html.create('b'),'y'
--     end}
abbrev pub answer_costs : Block
answer_costs = stats_of (ReturnS 1 (exps_of (TableE 1 (fields_of (Pair (TextE 1 (codes "f")) (FunctionE 1 (Lambda [] true (stats_of (ReturnS 2 (exps_of (
    CallE 2 (IndexE 2 (IndexE 2 (NameE 2 (codes "mw")) (TextE 2 (codes "html"))) (TextE 2 (codes "create"))) (exps_of (TextE 2 (codes "b") ∷ []))
    ∷ TextE 2 (codes "y")
    ∷ [])) ∷ [])))) ∷ [])) ∷ [])) ∷ [])

abbrev pub AnswerCosts : Type 0
AnswerCosts = (invoke_module (codes "X") 59 answer_costs 1111 ≡ Gives (codes "<b></b>y") 0) × (invoke_module (codes "X") 59 answer_costs 1110 ≡ Spends Steps 0)

-- An object inside itself gives no answer: 201 objects are begun, each with three bytes.
--     return {f=function(...)
--     local a=mw.html.create('b')
--     return a:node(a)
--     end}
abbrev pub answer_inside_itself : Block
answer_inside_itself = stats_of (ReturnS 1 (exps_of (TableE 1 (fields_of (Pair (TextE 1 (codes "f")) (FunctionE 1 (Lambda [] true (stats_of (
    LocalS 2 (codes "a" ∷ []) (exps_of (
    CallE 2 (IndexE 2 (IndexE 2 (NameE 2 (codes "mw")) (TextE 2 (codes "html"))) (TextE 2 (codes "create"))) (exps_of (TextE 2 (codes "b") ∷ []))
    ∷ []))
    ∷ ReturnS 3 (exps_of (MethodE 3 (NameE 3 (codes "a")) (codes "node") (exps_of (NameE 3 (codes "a") ∷ [])) ∷ []))
    ∷ [])))) ∷ [])) ∷ [])) ∷ [])

abbrev pub AnswerInsideItself : Type 0
AnswerInsideItself = (invoke_module (codes "X") 73 answer_inside_itself 1917 ≡ Fails (codes "Lua error: html tree nested too deeply") 0) × (invoke_module (codes "X") 73 answer_inside_itself 1916 ≡ Spends Steps 0)

-- Nor is it a text: the error has the place of the call of `tostring`.
--     return {f=function(...)
--     local a=mw.html.create('b')
--     a:node(a)
--     return select(2,pcall(function()
--      local s=tostring(a) end)),select(2,pcall(tostring,a))
--     end}
abbrev pub inside_itself : Block
inside_itself = stats_of (ReturnS 1 (exps_of (TableE 1 (fields_of (Pair (TextE 1 (codes "f")) (FunctionE 1 (Lambda [] true (stats_of (
    LocalS 2 (codes "a" ∷ []) (exps_of (
    CallE 2 (IndexE 2 (IndexE 2 (NameE 2 (codes "mw")) (TextE 2 (codes "html"))) (TextE 2 (codes "create"))) (exps_of (TextE 2 (codes "b") ∷ []))
    ∷ []))
    ∷ CallS 3 (MethodE 3 (NameE 3 (codes "a")) (codes "node") (exps_of (NameE 3 (codes "a") ∷ [])))
    ∷ ReturnS 4 (exps_of (
    CallE 4 (NameE 4 (codes "select")) (exps_of (
    NumberE 4 (pos 2)
    ∷ CallE 4 (NameE 4 (codes "pcall")) (exps_of (FunctionE 4 (Lambda [] false (stats_of (
    LocalS 5 (codes "s" ∷ []) (exps_of (CallE 5 (NameE 5 (codes "tostring")) (exps_of (NameE 5 (codes "a") ∷ [])) ∷ []))
    ∷ []))) ∷ []))
    ∷ []))
    ∷ CallE 5 (NameE 5 (codes "select")) (exps_of (
    NumberE 5 (pos 2)
    ∷ CallE 5 (NameE 5 (codes "pcall")) (exps_of (NameE 5 (codes "tostring") ∷ NameE 5 (codes "a") ∷ []))
    ∷ []))
    ∷ []))
    ∷ [])))) ∷ [])) ∷ [])) ∷ [])

abbrev pub InsideItself : Type 0
InsideItself = without_steps (invoke_module (codes "X") 154 inside_itself 6000) ≡ Gives (codes "Module:X:5: html tree nested too deeplyhtml tree nested too deeply") 0

-- A method gives the object, but `tag` the new one. Attributes stand in the order in which they were set, styles behind them.
--     return {f=function(...)
--     local b=mw.html.create('div'):addClass('box'):css('width','20em')
--     b:attr{title='x<'}:tag('p'):wikitext('a',1):done():newline()
--     return b
--     end}
abbrev pub a_tree : Block
a_tree = stats_of (ReturnS 1 (exps_of (TableE 1 (fields_of (Pair (TextE 1 (codes "f")) (FunctionE 1 (Lambda [] true (stats_of (
    LocalS 2 (codes "b" ∷ []) (exps_of (
    MethodE 2 (MethodE 2 (CallE 2 (IndexE 2 (IndexE 2 (NameE 2 (codes "mw")) (TextE 2 (codes "html"))) (TextE 2 (codes "create"))) (exps_of (TextE 2 (codes "div") ∷ []))) (codes "addClass") (exps_of (TextE 2 (codes "box") ∷ []))) (codes "css") (exps_of (TextE 2 (codes "width") ∷ TextE 2 (codes "20em") ∷ []))
    ∷ []))
    ∷ CallS 3 (MethodE 3 (MethodE 3 (MethodE 3 (MethodE 3 (MethodE 3 (NameE 3 (codes "b")) (codes "attr") (exps_of (TableE 3 (fields_of (Pair (TextE 3 (codes "title")) (TextE 3 (codes "x<")) ∷ [])) ∷ []))) (codes "tag") (exps_of (TextE 3 (codes "p") ∷ []))) (codes "wikitext") (exps_of (TextE 3 (codes "a") ∷ NumberE 3 (pos 1) ∷ []))) (codes "done") NoExp) (codes "newline") NoExp)
    ∷ ReturnS 4 (exps_of (NameE 4 (codes "b") ∷ []))
    ∷ [])))) ∷ [])) ∷ [])) ∷ [])

abbrev pub ATree : Type 0
ATree = without_steps (invoke_module (codes "X") 164 a_tree 6000) ≡ Gives (codes "<div class=\"box\" title=\"x&lt;\" style=\"width:20em\"><p>a1</p>\n</div>") 0

-- `done` gives the parent, `allDone` the root.
--     return {f=function(...)
--     local r=mw.html.create()
--     local i=r:tag('p'):tag('i')
--     return tostring(i:allDone()==r),i:done(),r:node(mw.html.create('br'))
--     end}
abbrev pub up_and_down : Block
up_and_down = stats_of (ReturnS 1 (exps_of (TableE 1 (fields_of (Pair (TextE 1 (codes "f")) (FunctionE 1 (Lambda [] true (stats_of (
    LocalS 2 (codes "r" ∷ []) (exps_of (CallE 2 (IndexE 2 (IndexE 2 (NameE 2 (codes "mw")) (TextE 2 (codes "html"))) (TextE 2 (codes "create"))) NoExp ∷ []))
    ∷ LocalS 3 (codes "i" ∷ []) (exps_of (
    MethodE 3 (MethodE 3 (NameE 3 (codes "r")) (codes "tag") (exps_of (TextE 3 (codes "p") ∷ []))) (codes "tag") (exps_of (TextE 3 (codes "i") ∷ []))
    ∷ []))
    ∷ ReturnS 4 (exps_of (
    CallE 4 (NameE 4 (codes "tostring")) (exps_of (BinaryE 4 op.Eq (MethodE 4 (NameE 4 (codes "i")) (codes "allDone") NoExp) (NameE 4 (codes "r")) ∷ []))
    ∷ MethodE 4 (NameE 4 (codes "i")) (codes "done") NoExp
    ∷ MethodE 4 (NameE 4 (codes "r")) (codes "node") (exps_of (
    CallE 4 (IndexE 4 (IndexE 4 (NameE 4 (codes "mw")) (TextE 4 (codes "html"))) (TextE 4 (codes "create"))) (exps_of (TextE 4 (codes "br") ∷ []))
    ∷ []))
    ∷ []))
    ∷ [])))) ∷ [])) ∷ [])) ∷ [])

abbrev pub UpAndDown : Type 0
UpAndDown = without_steps (invoke_module (codes "X") 151 up_and_down 6000) ≡ Gives (codes "true<p><i></i></p><p><i></i></p><br />") 0

-- A tag closes itself by its name, or since it is made so; none of its children is given.
--     return {f=function(...)
--     return mw.html.create('br'):node('x'),mw.html.create('b',{selfClosing=true}):tag('i',{}):allDone()
--     end}
abbrev pub closed : Block
closed = stats_of (ReturnS 1 (exps_of (TableE 1 (fields_of (Pair (TextE 1 (codes "f")) (FunctionE 1 (Lambda [] true (stats_of (ReturnS 2 (exps_of (
    MethodE 2 (CallE 2 (IndexE 2 (IndexE 2 (NameE 2 (codes "mw")) (TextE 2 (codes "html"))) (TextE 2 (codes "create"))) (exps_of (TextE 2 (codes "br") ∷ []))) (codes "node") (exps_of (TextE 2 (codes "x") ∷ []))
    ∷ MethodE 2 (MethodE 2 (CallE 2 (IndexE 2 (IndexE 2 (NameE 2 (codes "mw")) (TextE 2 (codes "html"))) (TextE 2 (codes "create"))) (exps_of (TextE 2 (codes "b") ∷ TableE 2 (fields_of (Pair (TextE 2 (codes "selfClosing")) (TrueE 2) ∷ [])) ∷ []))) (codes "tag") (exps_of (TextE 2 (codes "i") ∷ TableE 2 NoField ∷ []))) (codes "allDone") NoExp
    ∷ [])) ∷ [])))) ∷ [])) ∷ [])) ∷ [])

abbrev pub Closed : Type 0
Closed = without_steps (invoke_module (codes "X") 127 closed 6000) ≡ Gives (codes "<br /><b />") 0

-- An attribute is set, asked for, and removed.
--     return {f=function(...)
--     local b=mw.html.create('b'):attr('id',7)
--     local was=b:getAttr('id')
--     return was,tostring(b),tostring(b:attr('id',nil):getAttr('id')),b
--     end}
abbrev pub set_and_asked : Block
set_and_asked = stats_of (ReturnS 1 (exps_of (TableE 1 (fields_of (Pair (TextE 1 (codes "f")) (FunctionE 1 (Lambda [] true (stats_of (
    LocalS 2 (codes "b" ∷ []) (exps_of (
    MethodE 2 (CallE 2 (IndexE 2 (IndexE 2 (NameE 2 (codes "mw")) (TextE 2 (codes "html"))) (TextE 2 (codes "create"))) (exps_of (TextE 2 (codes "b") ∷ []))) (codes "attr") (exps_of (TextE 2 (codes "id") ∷ NumberE 2 (pos 7) ∷ []))
    ∷ []))
    ∷ LocalS 3 (codes "was" ∷ []) (exps_of (MethodE 3 (NameE 3 (codes "b")) (codes "getAttr") (exps_of (TextE 3 (codes "id") ∷ [])) ∷ []))
    ∷ ReturnS 4 (exps_of (
    NameE 4 (codes "was")
    ∷ CallE 4 (NameE 4 (codes "tostring")) (exps_of (NameE 4 (codes "b") ∷ []))
    ∷ CallE 4 (NameE 4 (codes "tostring")) (exps_of (
    MethodE 4 (MethodE 4 (NameE 4 (codes "b")) (codes "attr") (exps_of (TextE 4 (codes "id") ∷ NilE 4 ∷ []))) (codes "getAttr") (exps_of (TextE 4 (codes "id") ∷ []))
    ∷ []))
    ∷ NameE 4 (codes "b")
    ∷ []))
    ∷ [])))) ∷ [])) ∷ [])) ∷ [])

abbrev pub SetAndAsked : Type 0
SetAndAsked = without_steps (invoke_module (codes "X") 161 set_and_asked 6000) ≡ Gives (codes "7<b id=\"7\"></b>nil<b></b>") 0

-- An object is a table for `type`, equal to itself alone. Its fields are its methods, and are not written; it has no metatable.
--     return {f=function(...)
--     local b=mw.html.create('b')
--     local function e(f) return select(2,pcall(f))..';' end
--     return type(b),b==mw.clone(b),b==mw.html.create('b'),b.node==mw.html.create('i').node,type(b.tag),b.create==nil,b[1]==nil,getmetatable(b)==nil,e(function()
--      b.x=1 end),e(function()
--      local n=#b end)
--     end}
abbrev pub as_values : Block
as_values = stats_of (ReturnS 1 (exps_of (TableE 1 (fields_of (Pair (TextE 1 (codes "f")) (FunctionE 1 (Lambda [] true (stats_of (
    LocalS 2 (codes "b" ∷ []) (exps_of (
    CallE 2 (IndexE 2 (IndexE 2 (NameE 2 (codes "mw")) (TextE 2 (codes "html"))) (TextE 2 (codes "create"))) (exps_of (TextE 2 (codes "b") ∷ []))
    ∷ []))
    ∷ LocalFunctionS 3 (codes "e") (Lambda (codes "f" ∷ []) false (stats_of (ReturnS 3 (exps_of (
    BinaryE 3 op.Concat (CallE 3 (NameE 3 (codes "select")) (exps_of (NumberE 3 (pos 2) ∷ CallE 3 (NameE 3 (codes "pcall")) (exps_of (NameE 3 (codes "f") ∷ [])) ∷ []))) (TextE 3 (codes ";"))
    ∷ [])) ∷ [])))
    ∷ ReturnS 4 (exps_of (
    CallE 4 (NameE 4 (codes "type")) (exps_of (NameE 4 (codes "b") ∷ []))
    ∷ BinaryE 4 op.Eq (NameE 4 (codes "b")) (CallE 4 (IndexE 4 (NameE 4 (codes "mw")) (TextE 4 (codes "clone"))) (exps_of (NameE 4 (codes "b") ∷ [])))
    ∷ BinaryE 4 op.Eq (NameE 4 (codes "b")) (CallE 4 (IndexE 4 (IndexE 4 (NameE 4 (codes "mw")) (TextE 4 (codes "html"))) (TextE 4 (codes "create"))) (exps_of (TextE 4 (codes "b") ∷ [])))
    ∷ BinaryE 4 op.Eq (IndexE 4 (NameE 4 (codes "b")) (TextE 4 (codes "node"))) (IndexE 4 (CallE 4 (IndexE 4 (IndexE 4 (NameE 4 (codes "mw")) (TextE 4 (codes "html"))) (TextE 4 (codes "create"))) (exps_of (TextE 4 (codes "i") ∷ []))) (TextE 4 (codes "node")))
    ∷ CallE 4 (NameE 4 (codes "type")) (exps_of (IndexE 4 (NameE 4 (codes "b")) (TextE 4 (codes "tag")) ∷ []))
    ∷ BinaryE 4 op.Eq (IndexE 4 (NameE 4 (codes "b")) (TextE 4 (codes "create"))) (NilE 4)
    ∷ BinaryE 4 op.Eq (IndexE 4 (NameE 4 (codes "b")) (NumberE 4 (pos 1))) (NilE 4)
    ∷ BinaryE 4 op.Eq (CallE 4 (NameE 4 (codes "getmetatable")) (exps_of (NameE 4 (codes "b") ∷ []))) (NilE 4)
    ∷ CallE 4 (NameE 4 (codes "e")) (exps_of (FunctionE 4 (Lambda [] false (stats_of (
    AssignS 5 (exps_of (IndexE 5 (NameE 5 (codes "b")) (TextE 5 (codes "x")) ∷ [])) (exps_of (NumberE 5 (pos 1) ∷ []))
    ∷ []))) ∷ []))
    ∷ CallE 5 (NameE 5 (codes "e")) (exps_of (
    FunctionE 5 (Lambda [] false (stats_of (LocalS 6 (codes "n" ∷ []) (exps_of (UnaryE 6 sign.Len (NameE 6 (codes "b")) ∷ [])) ∷ [])))
    ∷ []))
    ∷ []))
    ∷ [])))) ∷ [])) ∷ [])) ∷ [])

abbrev pub AsValues : Type 0
AsValues = without_steps (invoke_module (codes "X") 309 as_values 6000) ≡ Gives (codes "tabletruefalsetruefunctiontruetruetrueModule:X:5: attempt to index a table value;Module:X:6: attempt to get length of a table value;") 0

-- `cssText` adds nothing for nil, also where nothing is given.
--     return {f=function(...)
--     local b=mw.html.create('b')
--     return b:cssText(nil):cssText():cssText('a:b'):cssText(nil)
--     end}
abbrev pub no_styles : Block
no_styles = stats_of (ReturnS 1 (exps_of (TableE 1 (fields_of (Pair (TextE 1 (codes "f")) (FunctionE 1 (Lambda [] true (stats_of (
    LocalS 2 (codes "b" ∷ []) (exps_of (
    CallE 2 (IndexE 2 (IndexE 2 (NameE 2 (codes "mw")) (TextE 2 (codes "html"))) (TextE 2 (codes "create"))) (exps_of (TextE 2 (codes "b") ∷ []))
    ∷ []))
    ∷ ReturnS 3 (exps_of (
    MethodE 3 (MethodE 3 (MethodE 3 (MethodE 3 (NameE 3 (codes "b")) (codes "cssText") (exps_of (NilE 3 ∷ []))) (codes "cssText") NoExp) (codes "cssText") (exps_of (TextE 3 (codes "a:b") ∷ []))) (codes "cssText") (exps_of (NilE 3 ∷ []))
    ∷ []))
    ∷ [])))) ∷ [])) ∷ [])) ∷ [])

abbrev pub NoStyles : Type 0
NoStyles = without_steps (invoke_module (codes "X") 116 no_styles 6000) ≡ Gives (codes "<b style=\"a:b\"></b>") 0

-- What is no text is no style.
--     return {f=function(...)
--     local function e(x) return select(2,pcall(mw.html.create('b').cssText,mw.html.create('b'),x))..';' end
--     return e(true),e({})
--     end}
abbrev pub bad_styles : Block
bad_styles = stats_of (ReturnS 1 (exps_of (TableE 1 (fields_of (Pair (TextE 1 (codes "f")) (FunctionE 1 (Lambda [] true (stats_of (
    LocalFunctionS 2 (codes "e") (Lambda (codes "x" ∷ []) false (stats_of (ReturnS 2 (exps_of (BinaryE 2 op.Concat (CallE 2 (NameE 2 (codes "select")) (exps_of (
    NumberE 2 (pos 2)
    ∷ CallE 2 (NameE 2 (codes "pcall")) (exps_of (
    IndexE 2 (CallE 2 (IndexE 2 (IndexE 2 (NameE 2 (codes "mw")) (TextE 2 (codes "html"))) (TextE 2 (codes "create"))) (exps_of (TextE 2 (codes "b") ∷ []))) (TextE 2 (codes "cssText"))
    ∷ CallE 2 (IndexE 2 (IndexE 2 (NameE 2 (codes "mw")) (TextE 2 (codes "html"))) (TextE 2 (codes "create"))) (exps_of (TextE 2 (codes "b") ∷ []))
    ∷ NameE 2 (codes "x")
    ∷ []))
    ∷ []))) (TextE 2 (codes ";")) ∷ [])) ∷ [])))
    ∷ ReturnS 3 (exps_of (
    CallE 3 (NameE 3 (codes "e")) (exps_of (TrueE 3 ∷ []))
    ∷ CallE 3 (NameE 3 (codes "e")) (exps_of (TableE 3 NoField ∷ []))
    ∷ []))
    ∷ [])))) ∷ [])) ∷ [])) ∷ [])

abbrev pub BadStyles : Type 0
BadStyles = without_steps (invoke_module (codes "X") 152 bad_styles 6000) ≡ Gives (codes "bad argument #2 to 'cssText' (string expected, got boolean);bad argument #2 to 'cssText' (string expected, got table);") 0

-- A name that is none, and what is no object.
--     return {f=function(...)
--     local function e(f,...) return select(2,pcall(f,...))..';' end
--     local b=mw.html.create('b')
--     return e(mw.html.create,'1'),e(b.attr,b,'a b','x'),e(b.node,1),e(function()
--      b.tag('i') end)
--     end}
abbrev pub bad_names : Block
bad_names = stats_of (ReturnS 1 (exps_of (TableE 1 (fields_of (Pair (TextE 1 (codes "f")) (FunctionE 1 (Lambda [] true (stats_of (
    LocalFunctionS 2 (codes "e") (Lambda (codes "f" ∷ []) true (stats_of (ReturnS 2 (exps_of (
    BinaryE 2 op.Concat (CallE 2 (NameE 2 (codes "select")) (exps_of (NumberE 2 (pos 2) ∷ CallE 2 (NameE 2 (codes "pcall")) (exps_of (NameE 2 (codes "f") ∷ DotsE 2 ∷ [])) ∷ []))) (TextE 2 (codes ";"))
    ∷ [])) ∷ [])))
    ∷ LocalS 3 (codes "b" ∷ []) (exps_of (
    CallE 3 (IndexE 3 (IndexE 3 (NameE 3 (codes "mw")) (TextE 3 (codes "html"))) (TextE 3 (codes "create"))) (exps_of (TextE 3 (codes "b") ∷ []))
    ∷ []))
    ∷ ReturnS 4 (exps_of (
    CallE 4 (NameE 4 (codes "e")) (exps_of (
    IndexE 4 (IndexE 4 (NameE 4 (codes "mw")) (TextE 4 (codes "html"))) (TextE 4 (codes "create"))
    ∷ TextE 4 (codes "1")
    ∷ []))
    ∷ CallE 4 (NameE 4 (codes "e")) (exps_of (
    IndexE 4 (NameE 4 (codes "b")) (TextE 4 (codes "attr"))
    ∷ NameE 4 (codes "b")
    ∷ TextE 4 (codes "a b")
    ∷ TextE 4 (codes "x")
    ∷ []))
    ∷ CallE 4 (NameE 4 (codes "e")) (exps_of (IndexE 4 (NameE 4 (codes "b")) (TextE 4 (codes "node")) ∷ NumberE 4 (pos 1) ∷ []))
    ∷ CallE 4 (NameE 4 (codes "e")) (exps_of (
    FunctionE 4 (Lambda [] false (stats_of (CallS 5 (CallE 5 (IndexE 5 (NameE 5 (codes "b")) (TextE 5 (codes "tag"))) (exps_of (TextE 5 (codes "i") ∷ []))) ∷ [])))
    ∷ []))
    ∷ []))
    ∷ [])))) ∷ [])) ∷ [])) ∷ [])

abbrev pub BadNames : Type 0
BadNames = without_steps (invoke_module (codes "X") 212 bad_names 6000) ≡ Gives (codes "bad html name;bad html name;bad argument #1 to 'node' (table expected, got number);Module:X:5: bad argument #1 to 'tag' (table expected, got string);") 0

-- The names of `mw` in their order, `html` last; it has one function.
--     return {f=function(...)
--     local n='' for k in pairs(mw) do n=n..k..' ' end
--     for k in pairs(mw.html) do n=n..k end
--     return n
--     end}
abbrev pub names_of_mw : Block
names_of_mw = stats_of (ReturnS 1 (exps_of (TableE 1 (fields_of (Pair (TextE 1 (codes "f")) (FunctionE 1 (Lambda [] true (stats_of (
    LocalS 2 (codes "n" ∷ []) (exps_of (TextE 2 [] ∷ []))
    ∷ EachS 2 (codes "k" ∷ []) (exps_of (CallE 2 (NameE 2 (codes "pairs")) (exps_of (NameE 2 (codes "mw") ∷ [])) ∷ [])) (stats_of (
    AssignS 2 (exps_of (NameE 2 (codes "n") ∷ [])) (exps_of (BinaryE 2 op.Concat (NameE 2 (codes "n")) (BinaryE 2 op.Concat (NameE 2 (codes "k")) (TextE 2 (codes " "))) ∷ []))
    ∷ []))
    ∷ EachS 3 (codes "k" ∷ []) (exps_of (CallE 3 (NameE 3 (codes "pairs")) (exps_of (IndexE 3 (NameE 3 (codes "mw")) (TextE 3 (codes "html")) ∷ [])) ∷ [])) (stats_of (
    AssignS 3 (exps_of (NameE 3 (codes "n") ∷ [])) (exps_of (BinaryE 3 op.Concat (NameE 3 (codes "n")) (NameE 3 (codes "k")) ∷ []))
    ∷ []))
    ∷ ReturnS 4 (exps_of (NameE 4 (codes "n") ∷ []))
    ∷ [])))) ∷ [])) ∷ [])) ∷ [])

abbrev pub NamesOfMw : Type 0
NamesOfMw = without_steps (invoke_module (codes "X") 124 names_of_mw 6000) ≡ Gives (codes "clone log title loadData getCurrentFrame ustring text html create") 0

-- ALL OF THEM
abbrev pub AllMarkup : Type 0
AllMarkup =
    RenderingCosts
    × AnswerCosts
    × AnswerInsideItself
    × InsideItself
    × ATree
    × UpAndDown
    × Closed
    × SetAndAsked
    × AsValues
    × NoStyles
    × BadStyles
    × BadNames
    × NamesOfMw

-- EXAMPLES of objects of `mw.html`, as calls in a row: the object that a call gives is the first argument of the next one. The texts are
-- those that Scribunto gives, but for what a row says; charges are counted by hand. `create` costs nothing, a method its texts.
use Rattle.std.specs.Prelude.{◌≡◌, ℕ, pos, true, List, [], ◌∷◌, codes}
use Rattle.lua_walk.specs.LuaHeapProc.{Proc}
use Rattle.lua_walk.specs.LuaHeapValue.{Value, Nil, Truth, Number, Text, Table, Builtin, Markup}
use Rattle.mw_html.specs.LuaHeapTable.{Entries}
use Rattle.lua_walk.specs.LuaHeapHeap.{Heap, empty}
use Rattle.lua_walk.specs.LuaHeapDeclaredLibraryLibraryTheVariants.{HtmlNode, HtmlAllDone}
use Rattle.lua_meaning.specs.Scope.{Bytes}
use Rattle.lua_meaning.specs.Values.{first}
use Rattle.lua_meaning.specs.Arguments.{Plain, PlainEnd, Gives, Fails, with_charge, gives}
use Rattle.lua_meaning.specs.Frames.{with_table}
use Rattle.lua_meaning.specs.TextArguments.{of_texts}
use Rattle.lua_meaning.specs.Html as html

abbrev text : Bytes → Value
text t = Text t

abbrev num : ℕ → Value
num n = Number (pos n)

-- a function, and a call of it with what it is given behind its object
abbrev Function : Type 0
Function = List Value → Heap Proc → Plain Proc

record Call : Type 0 where
  function : Function
  more : List Value

abbrev node : List Value → Call
node more = record { function = html.node; more = more }

abbrev wikitext : List Value → Call
wikitext more = record { function = html.wikitext; more = more }

abbrev newline : Call
newline = record { function = html.newline; more = [] }

abbrev tag : List Value → Call
tag more = record { function = html.tag; more = more }

abbrev attr : List Value → Call
attr more = record { function = html.attr; more = more }

abbrev attr_of : Bytes → Bytes → Call
attr_of name value = attr (text name ∷ text value ∷ [])

abbrev get_attr : Bytes → Call
get_attr name = record { function = html.get_attr; more = text name ∷ [] }

abbrev add_class : List Value → Call
add_class more = record { function = html.add_class; more = more }

abbrev css : List Value → Call
css more = record { function = html.css; more = more }

abbrev css_of : Bytes → Bytes → Call
css_of name value = css (text name ∷ text value ∷ [])

abbrev css_text : List Value → Call
css_text more = record { function = html.css_text; more = more }

abbrev done : Call
done = record { function = html.done; more = [] }

abbrev all_done : Call
all_done = record { function = html.all_done; more = [] }

-- behind an answer another one, where it gave a value
abbrev behind_end : Plain Proc → PlainEnd → (Value → Heap Proc → Plain Proc) → Plain Proc
behind_end p (Gives vs) next = with_charge p.charge (next (first vs) p.heap)
behind_end p (Fails v level) next = p

abbrev behind : Plain Proc → (Value → Heap Proc → Plain Proc) → Plain Proc
behind p next = behind_end p p.end next

abbrev calls : List Call → Value → Heap Proc → Plain Proc
calls [] v h = gives h (v ∷ [])
calls (c ∷ more) v h = behind (of_texts c.function (v ∷ c.more) h) (λ w i. calls more w i)

-- `create` with these arguments, and then calls
abbrev create_in : Heap Proc → List Value → List Call → Plain Proc
create_in h args more = behind (html.create args h) (λ v i. calls more v i)

abbrev create : Bytes → List Call → Plain Proc
create name more = create_in empty (text name ∷ []) more

-- a heap with one table, which has number 0
abbrev with_entries : Entries → Heap Proc
with_entries es = with_table empty es Nil

-- what is told of an answer: what it costs, and its end
abbrev Told : Type 0
Told = ℕ × PlainEnd

abbrev told : Plain Proc → Told
told p = (p.charge, p.end)

abbrev costs : ℕ → Value → Told
costs n v = (n, Gives (v ∷ []))

abbrev raises : ℕ → Bytes → Told
raises n message = (n, Fails (Text message) (pos 1))

-- the text of object 0 behind an answer, with what it costs
abbrev text_behind : Plain Proc → Told
text_behind p = told (html.text_of_object 0 p.heap)

abbrev text_alone : PlainEnd → Bytes
text_alone (Gives (Text t ∷ [])) = t
text_alone end = []

abbrev rendered : Plain Proc → Bytes
rendered p = text_alone (html.text_of_object 0 p.heap).end

-- Attributes stand in order of their first setting, and styles behind them.
abbrev pub InOrder : Type 0
InOrder =
    rendered (create (codes "div") (attr_of (codes "b") (codes "1") ∷ attr_of (codes "a") (codes "2") ∷ css_of (codes "color") (codes "red") ∷ add_class (text (codes "x") ∷ []) ∷ css_of (codes "top") (codes "0") ∷ add_class (text (codes "y") ∷ []) ∷ []))
    ≡ codes "<div b=\"1\" a=\"2\" class=\"x y\" style=\"color:red;top:0\"></div>"

-- One that is set anew stays at its place; one that was removed and is set again comes last. Digits of numbers are texts.
abbrev pub SetAgain : Type 0
SetAgain =
    (rendered (create (codes "p") (attr_of (codes "id") (codes "i") ∷ attr_of (codes "a") (codes "1") ∷ attr (text (codes "id") ∷ num 7 ∷ []) ∷ [])) ≡ codes "<p id=\"7\" a=\"1\"></p>")
    × (rendered (create (codes "p") (attr_of (codes "id") (codes "i") ∷ attr_of (codes "a") (codes "1") ∷ attr (text (codes "id") ∷ []) ∷ attr_of (codes "id") (codes "j") ∷ [])) ≡ codes "<p a=\"1\" id=\"j\"></p>")

-- So it is with styles.
abbrev pub StylesSetAgain : Type 0
StylesSetAgain =
    (rendered (create (codes "p") (css_of (codes "a") (codes "1") ∷ css_of (codes "b") (codes "2") ∷ css_of (codes "a") (codes "3") ∷ [])) ≡ codes "<p style=\"a:3;b:2\"></p>")
    × (rendered (create (codes "p") (css_of (codes "a") (codes "b") ∷ css (text (codes "a") ∷ Nil ∷ []) ∷ css_of (codes "c") (codes "d") ∷ [])) ≡ codes "<p style=\"c:d\"></p>")

-- The attribute `style` is all styles; it is no attribute that `getAttr` gives.
abbrev pub StyleAttribute : Type 0
StyleAttribute =
    (rendered (create (codes "p") (attr_of (codes "style") (codes "x:y") ∷ css_of (codes "a") (codes "b") ∷ [])) ≡ codes "<p style=\"x:y;a:b\"></p>")
    × (rendered (create (codes "p") (css_of (codes "a") (codes "b") ∷ attr_of (codes "style") (codes "x:y") ∷ [])) ≡ codes "<p style=\"x:y\"></p>")
    × (rendered (create (codes "p") (attr_of (codes "style") [] ∷ [])) ≡ codes "<p style=\"\"></p>")
    × (rendered (create (codes "p") (css_of (codes "a") (codes "b") ∷ attr (text (codes "style") ∷ []) ∷ [])) ≡ codes "<p></p>")
    × (told (create (codes "p") (attr_of (codes "style") (codes "x:y") ∷ get_attr (codes "style") ∷ [])) ≡ costs 13 Nil)

-- Texts of styles stand as they are given; nil adds none, nor does a call without one.
abbrev pub StyleTexts : Type 0
StyleTexts =
    (rendered (create (codes "p") (css_of (codes "a") (codes "b\"<") ∷ css_text (text (codes "x:y;") ∷ []) ∷ css_of (codes "c") (codes "d") ∷ []))
    ≡ codes "<p style=\"a:b&quot;&lt;;x:y;;c:d\"></p>")
    × (rendered (create (codes "p") (css_text (Nil ∷ []) ∷ css_of (codes "a") (codes "b") ∷ css_text [] ∷ [])) ≡ codes "<p style=\"a:b\"></p>")
    × (told (create (codes "p") (css_text (Nil ∷ []) ∷ css_text [] ∷ [])) ≡ costs 0 (Markup 0))
    × (rendered (create (codes "p") (css_text (text [] ∷ []) ∷ [])) ≡ codes "<p style=\"\"></p>")

-- Values are escaped, and texts among the children are not.
abbrev pub Escaped : Type 0
Escaped =
    rendered (create (codes "p") (attr_of (codes "title") (codes "x'y&z>\"<") ∷ wikitext (text (codes "<&>") ∷ []) ∷ []))
    ≡ codes "<p title=\"x'y&amp;z&gt;&quot;&lt;\"><&></p>"

-- Tags that close themselves by their names, or since they are made so.
abbrev pub ClosedTags : Type 0
ClosedTags =
    (rendered (create (codes "br") (wikitext (text (codes "x") ∷ []) ∷ [])) ≡ codes "<br />")
    × (rendered (create (codes "BR") []) ≡ codes "<BR></BR>")
    × (rendered (create_in (with_entries ((Text (codes "selfClosing"), Truth true) ∷ [])) (text (codes "b") ∷ Table 0 ∷ []) (attr_of (codes "id") (codes "i") ∷ [])) ≡ codes "<b id=\"i\" />")

-- Without a name there is no tag.
abbrev pub NoTag : Type 0
NoTag =
    (rendered (create [] (css_of (codes "a") (codes "b") ∷ attr_of (codes "id") (codes "i") ∷ wikitext (text (codes "t") ∷ []) ∷ [])) ≡ codes "t")
    × (rendered (create_in empty [] (newline ∷ [])) ≡ 10 ∷ [])

-- Children: texts up to the first nil, and the digits of numbers.
abbrev pub Children : Type 0
Children =
    (rendered (create (codes "p") (wikitext (text (codes "a") ∷ num 2 ∷ Nil ∷ Truth true ∷ []) ∷ [])) ≡ codes "<p>a2</p>")
    × (rendered (create [] (newline ∷ node (text (codes "x") ∷ []) ∷ node (Nil ∷ []) ∷ node (num 1 ∷ []) ∷ [])) ≡ 10 ∷ codes "x1")

-- `tag` gives the child, `done` its parent, `allDone` the root, which is its own parent.
abbrev pub UpAndDown : Type 0
UpAndDown =
    (rendered (create (codes "div") (tag (text (codes "p") ∷ []) ∷ tag (text (codes "b") ∷ []) ∷ all_done ∷ [])) ≡ codes "<div><p><b></b></p></div>")
    × (told (create (codes "div") (tag (text (codes "p") ∷ []) ∷ tag (text (codes "b") ∷ []) ∷ all_done ∷ [])) ≡ costs 2 (Markup 0))
    × (told (create (codes "div") (tag (text (codes "p") ∷ []) ∷ tag (text (codes "b") ∷ []) ∷ done ∷ [])) ≡ costs 2 (Markup 1))
    × (told (create (codes "div") (done ∷ all_done ∷ [])) ≡ costs 0 (Markup 0))

-- An object that `node` adds keeps its own parent, and may be added more than once.
abbrev pub KeepsItsParent : Type 0
KeepsItsParent =
    let two = create_in (create (codes "a") []).heap (text (codes "b") ∷ []) (node (Markup 0 ∷ []) ∷ node (Markup 0 ∷ []) ∷ []) in
    (told (html.text_of_object 1 two.heap) ≡ costs 24 (text (codes "<b><a></a><a></a></b>")))
    × (told (html.done (Markup 0 ∷ []) two.heap) ≡ costs 0 (Markup 0))

-- Classes: those that are made cost their length, and nil adds none. An attribute that is given costs its length too.
abbrev pub Classes : Type 0
Classes =
    (told (create (codes "p") (add_class (text (codes "ab") ∷ []) ∷ [])) ≡ costs 4 (Markup 0))
    × (told (create (codes "p") (add_class (text (codes "ab") ∷ []) ∷ add_class (text (codes "c") ∷ []) ∷ [])) ≡ costs 9 (Markup 0))
    × (told (create (codes "p") (add_class (Nil ∷ []) ∷ add_class [] ∷ [])) ≡ costs 0 (Markup 0))
    × (told (create (codes "p") (add_class (text (codes "ab") ∷ []) ∷ get_attr (codes "class") ∷ [])) ≡ costs 11 (text (codes "ab")))
    × (rendered (create (codes "p") (add_class (text [] ∷ []) ∷ add_class (text (codes "a") ∷ []) ∷ [])) ≡ codes "<p class=\" a\"></p>")

-- A table of attributes: each entry costs its texts, a cleared one a step.
abbrev pub TablesOfAttributes : Type 0
TablesOfAttributes =
    let p = create_in (with_entries ((Text (codes "b"), Text (codes "1")) ∷ (Text (codes "cc"), Nil) ∷ (Text (codes "a"), num 22) ∷ [])) (text (codes "p") ∷ []) (attr (Table 0 ∷ []) ∷ []) in
    (told p ≡ costs 4 (Markup 0)) × (rendered p ≡ codes "<p b=\"1\" a=\"22\"></p>")

-- What stood before a bad entry stays set; it costs its texts too, and nothing behind it is looked at.
abbrev pub BadEntries : Type 0
BadEntries =
    let p = create_in (with_entries ((Text (codes "b"), Text (codes "1")) ∷ (Text (codes "c d"), Text (codes "22")) ∷ (Text (codes "a"), Text (codes "3")) ∷ [])) (text (codes "p") ∷ []) (attr (Table 0 ∷ []) ∷ []) in
    let q = create_in (with_entries ((num 1, Text (codes "x")) ∷ (Text (codes "a"), Truth true) ∷ [])) (text (codes "p") ∷ []) (css (Table 0 ∷ []) ∷ []) in
    (told p ≡ raises 7 (codes "bad html name")) × (rendered p ≡ codes "<p b=\"1\"></p>")
    × (told q ≡ raises 2 (codes "bad argument #3 to 'css' (string expected, got boolean)")) × (rendered q ≡ codes "<p style=\"1:x\"></p>")

-- Names that are none
abbrev pub BadNames : Type 0
BadNames =
    (told (create (codes "1") []) ≡ raises 0 (codes "bad html name"))
    × (told (create_in empty (num 1 ∷ []) []) ≡ raises 0 (codes "bad html name"))
    × (told (create (codes "p") (tag (text (codes "a b") ∷ []) ∷ [])) ≡ raises 3 (codes "bad html name"))
    × (told (create (codes "p") (attr_of (codes "-a") (codes "1") ∷ [])) ≡ raises 3 (codes "bad html name"))
    × (rendered (create (codes "p") (attr_of (codes "data-a:b_c.d1") (codes "1") ∷ [])) ≡ codes "<p data-a:b_c.d1=\"1\"></p>")

-- Wrong arguments; the object is the first one.
abbrev pub WrongArguments : Type 0
WrongArguments =
    (told (create_in empty (Truth true ∷ []) []) ≡ raises 0 (codes "bad argument #1 to 'create' (string expected, got boolean)"))
    × (told (create_in empty (text (codes "p") ∷ num 1 ∷ []) []) ≡ raises 0 (codes "bad argument #2 to 'create' (table expected, got number)"))
    × (told (html.newline [] empty) ≡ raises 0 (codes "bad argument #1 to 'newline' (table expected, got no value)"))
    × (told (create (codes "p") (node (Truth true ∷ []) ∷ [])) ≡ raises 0 (codes "bad argument #2 to 'node' (string expected, got boolean)"))
    × (told (create (codes "p") (wikitext (text (codes "ab") ∷ Truth true ∷ []) ∷ [])) ≡ raises 2 (codes "bad argument #3 to 'wikitext' (string expected, got boolean)"))
    × (rendered (create (codes "p") (wikitext (text (codes "ab") ∷ Truth true ∷ []) ∷ [])) ≡ codes "<p></p>")
    × (told (create (codes "p") (css_text (Truth true ∷ []) ∷ [])) ≡ raises 0 (codes "bad argument #2 to 'cssText' (string expected, got boolean)"))
    × (told (create (codes "p") (css_text (Table 0 ∷ []) ∷ [])) ≡ raises 0 (codes "bad argument #2 to 'cssText' (string expected, got table)"))
    × (told (create (codes "p") (attr [] ∷ [])) ≡ raises 0 (codes "bad argument #2 to 'attr' (string expected, got no value)"))
    × (told (create (codes "p") (tag (text (codes "b") ∷ Truth true ∷ []) ∷ [])) ≡ raises 1 (codes "bad argument #3 to 'tag' (table expected, got boolean)"))

-- A rendering costs a step for each object begun, and for each byte.
abbrev pub RenderingCosts : Type 0
RenderingCosts =
    text_behind (create (codes "p") (tag (text (codes "br") ∷ []) ∷ done ∷ wikitext (text (codes "x") ∷ []) ∷ [])) ≡ costs 16 (text (codes "<p><br />x</p>"))

-- An object inside itself gives no text: 201 objects are begun, each with three bytes.
abbrev pub InsideItself : Type 0
InsideItself =
    text_behind (create (codes "b") (node (Markup 0 ∷ []) ∷ [])) ≡ raises 804 (codes "html tree nested too deeply")

-- The fields of an object are its methods.
abbrev pub Fields : Type 0
Fields =
    (html.field_of_object (text (codes "node")) ≡ Builtin HtmlNode)
    × (html.field_of_object (text (codes "allDone")) ≡ Builtin HtmlAllDone)
    × (html.field_of_object (text (codes "create")) ≡ Nil)
    × (html.field_of_object (num 1) ≡ Nil)

-- ALL OF THEM
abbrev pub AllObjects : Type 0
AllObjects =
    InOrder
    × SetAgain
    × StylesSetAgain
    × StyleAttribute
    × StyleTexts
    × Escaped
    × ClosedTags
    × NoTag
    × Children
    × UpAndDown
    × KeepsItsParent
    × Classes
    × TablesOfAttributes
    × BadEntries
    × BadNames
    × WrongArguments
    × RenderingCosts
    × InsideItself
    × Fields

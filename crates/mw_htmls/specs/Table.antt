-- THE FUNCTIONS of `mw.html`, and what each gives. A method is read after its object, which is its first argument.
use Rattle.std.specs.Prelude.{◌≡◌, ℕ, List, [], ◌∷◌, Option, Some, None, codes}
use Rattle.lua_strings.specs.LuaHeapProc.{Proc}
use Rattle.lua_strings.specs.LuaHeapValue.{Value}
use Rattle.mw_html.specs.LuaHeapHeap.{Heap, markup_at}
use Rattle.lua_strings.specs.LuaHeapDeclaredLibraryLibrary.{Library}
use Rattle.lua_strings.specs.LuaHeapDeclaredLibraryLibraryTheVariants.{HtmlCreate, HtmlNode, HtmlWikitext, HtmlNewline, HtmlAttr, HtmlAddClass, HtmlCss, HtmlCssText, HtmlTag, HtmlDone, HtmlAllDone, HtmlGetAttr}
use Rattle.lua_strings.specs.LuaMeaningScope.{Bytes}
use Rattle.lua_strings.specs.LuaMeaningWorld.{World}
use Rattle.lua_strings.specs.LuaMeaningActs.{Frame}
use Rattle.lua_strings.specs.LuaMeaningValues.{rest}
use Rattle.lua_strings.specs.LuaMeaningArguments.{Plain, gives, with_argument, a_text}
use Rattle.lua_strings.specs.LuaMeaningTextArguments.{of_texts}
use Rattle.lua_strings.specs.LuaMeaningHtmlNodes as nodes
use Rattle.lua_strings.specs.LuaMeaningHtml as html
use Rattle.lua_strings.specs.LuaMeaningLibraries.{Answers, form}
use Rattle.mw_htmls.specs.declared.table.Method.{Method}
use Rattle.mw_htmls.specs.declared.table.Method.TheVariants as own
use Rattle.mw_htmls.specs.declared.table.HtmlFunction.{HtmlFunction}
use Rattle.mw_htmls.specs.declared.table.HtmlFunction.TheVariants as function

abbrev pub html_function_in : Library → Option HtmlFunction
html_function_in HtmlCreate = Some function.Create
html_function_in HtmlNode = Some (function.Method own.Node)
html_function_in HtmlWikitext = Some (function.Method own.Wikitext)
html_function_in HtmlNewline = Some (function.Method own.Newline)
html_function_in HtmlAttr = Some (function.Method own.Attr)
html_function_in HtmlAddClass = Some (function.Method own.AddClass)
html_function_in HtmlCss = Some (function.Method own.Css)
html_function_in HtmlCssText = Some (function.Method own.CssText)
html_function_in HtmlTag = Some (function.Method own.Tag)
html_function_in HtmlDone = Some (function.Method own.Done)
html_function_in HtmlAllDone = Some (function.Method own.AllDone)
html_function_in HtmlGetAttr = Some (function.Method own.GetAttr)
html_function_in which = None

abbrev pub name_of : Method → Bytes
name_of own.Node = codes "node"
name_of own.Wikitext = codes "wikitext"
name_of own.Newline = codes "newline"
name_of own.Attr = codes "attr"
name_of own.AddClass = codes "addClass"
name_of own.Css = codes "css"
name_of own.CssText = codes "cssText"
name_of own.Tag = codes "tag"
name_of own.Done = codes "done"
name_of own.AllDone = codes "allDone"
name_of own.GetAttr = codes "getAttr"

-- a method of an object, with the arguments behind it
abbrev pub tag_on : {X : Type 0} → ℕ → List Value → Heap X → Plain X
tag_on m given h =
    with_argument h (html.a_tag_name 2 (codes "tag") given) (λ name.
    with_argument h (html.closing_option h 3 (codes "tag") (rest given)) (λ closed.
    html.makes_in h m (nodes.new_node name closed (Some m))))

abbrev pub node_on : {X : Type 0} → ℕ → List Value → Heap X → Plain X
node_on m given h = with_argument h (html.a_child given) (λ children. html.changes h m (nodes.add_children children))

abbrev pub wikitext_on : {X : Type 0} → ℕ → List Value → Heap X → Plain X
wikitext_on m given h = with_argument h (html.texts_from 2 given) (λ texts. html.changes h m (nodes.add_texts texts))

abbrev pub newline_on : {X : Type 0} → ℕ → Heap X → Plain X
newline_on m h = html.changes h m (nodes.add_texts ((10 ∷ []) ∷ []))

abbrev pub css_text_on : {X : Type 0} → ℕ → List Value → Heap X → Plain X
css_text_on m given h = with_argument h (html.text_if_any 2 (codes "cssText") given) (λ text. html.adds_styles h m text)

abbrev pub add_class_on : {X : Type 0} → ℕ → List Value → Heap X → Plain X
add_class_on m given h = with_argument h (html.text_if_any 2 (codes "addClass") given) (λ class. html.adds_class h m class)

abbrev pub get_attr_on : {X : Type 0} → ℕ → List Value → Heap X → Plain X
get_attr_on m given h = with_argument h (a_text 2 (codes "getAttr") given) (λ name. html.gives_value h (nodes.value_of name (markup_at h m).attrs))

abbrev pub done_on : {X : Type 0} → ℕ → Heap X → Plain X
done_on m h = gives h (html.found_or m (markup_at h m).parent ∷ [])

abbrev pub all_done_on : {X : Type 0} → ℕ → Heap X → Plain X
all_done_on m h = gives h (html.found_or m (nodes.root_of h.markup m) ∷ [])

abbrev pub method_on : {X : Type 0} → Method → ℕ → List Value → Heap X → Plain X
method_on own.Node m given h = node_on m given h
method_on own.Wikitext m given h = wikitext_on m given h
method_on own.Newline m given h = newline_on m h
method_on own.Attr m given h = html.set_given html.attributes h m given
method_on own.AddClass m given h = add_class_on m given h
method_on own.Css m given h = html.set_given html.styles h m given
method_on own.CssText m given h = css_text_on m given h
method_on own.Tag m given h = tag_on m given h
method_on own.Done m given h = done_on m h
method_on own.AllDone m given h = all_done_on m h
method_on own.GetAttr m given h = get_attr_on m given h

abbrev pub method_by : {X : Type 0} → Method → List Value → Heap X → Plain X
method_by which args h = with_argument h (html.an_object 1 (name_of which) args) (λ m. method_on which m (rest args) h)

-- a method stands behind the charge of its arguments
abbrev pub answer_of : {X : Type 0} → HtmlFunction → List Value → Heap X → Plain X
answer_of function.Create args h = html.create args h
answer_of (function.Method which) args h = of_texts (method_by which) args h

-- each is a line of the table of the library
abbrev pub AreInTable : Type 0
AreInTable = (which : Library) (f : HtmlFunction) → html_function_in which ≡ Some f → (world : World) (args : List Value) (h : Heap Proc) (frames : List Frame)
    → form world which args h frames ≡ Answers (answer_of f args h)

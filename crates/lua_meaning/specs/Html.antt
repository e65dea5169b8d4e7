-- OBJECTS OF `mw.html` (Scribunto, HTML library): `create`, the methods of an object, its fields, and its text. Each method stands here
-- behind the charge of its arguments (`of_texts`); `create` has none.
use Rattle.std.specs.Prelude.{ℕ, ◌+◌, Bool, true, false, ◌||◌, List, [], ◌∷◌, length, Option, Some, None, Ok, Err, if◌then◌else◌, bytes_eq, codes}
use Rattle.mw_html.specs.Names.{is_name, is_attribute_name}
use Rattle.mw_html.specs.Render.{Piece, Whole, Deep, is_empty, render}
use Rattle.lua_walk.specs.LuaHeapDeclaredLibraryLibrary.{Library}
use Rattle.lua_walk.specs.LuaHeapDeclaredLibraryLibraryTheVariants.{HtmlNode, HtmlWikitext, HtmlNewline, HtmlAttr, HtmlAddClass, HtmlCss, HtmlCssText, HtmlTag, HtmlDone, HtmlAllDone, HtmlGetAttr}
use Rattle.lua_walk.specs.LuaHeapValue.{Value, Nil, Text, Table, Builtin, Markup, is_nil, is_true}
use Rattle.mw_html.specs.LuaHeapTable.{Entries}
use Rattle.lua_walk.specs.LuaHeapHeap.{MarkupChild, ChildText, ChildNode, MarkupNode, Heap, table_at, markup_at, set_markup_in, new_markup}
use Rattle.lua_meaning.specs.Scope.{Bytes}
use Rattle.lua_meaning.specs.Values.{rest}
use Rattle.lua_meaning.specs.Messages.{bad_argument, expected}
use Rattle.lua_meaning.specs.Metatables.{field}
use Rattle.lua_meaning.specs.Arguments.{Plain, gives, gives_text, fails, with_charge, text_charge, Argument, with_argument, a_text}
use Rattle.lua_meaning.specs.TextArguments.{as_some}
use Rattle.lua_meaning.specs.Checks.{text_or, and_those}
use Rattle.lua_meaning.specs.HtmlNodes.{new_node, value_of, set_attribute, set_style, add_style_text, classes_with, set_classes, add_children, add_texts, root_of}

-- messages
abbrev pub bad_name : Bytes
bad_name = codes "bad html name"

abbrev pub nested_too_deeply : Bytes
nested_too_deeply = codes "html tree nested too deeply"

-- ARGUMENTS. A method's first argument is its object.
abbrev pub an_object : ℕ → Bytes → List Value → Argument ℕ
an_object n function (Markup m ∷ more) = Ok m
an_object n function given = Err (bad_argument n function (expected (codes "table") given))

-- a text that may be nil, or left out
abbrev pub text_if_any : ℕ → Bytes → List Value → Argument (Option Bytes)
text_if_any n function [] = Ok None
text_if_any n function (Nil ∷ more) = Ok None
text_if_any n function given = as_some (a_text n function given)

-- a text that passes a test of names
abbrev pub tested_name : (Bytes → Bool) → Argument Bytes → Argument Bytes
tested_name test (Ok name) = if test name then Ok name else Err bad_name
tested_name test (Err message) = Err message

-- the name of a tag; the empty one where there is none
abbrev pub is_tag : Bytes → Bool
is_tag name = is_empty name || is_name name

abbrev pub a_tag_name : ℕ → Bytes → List Value → Argument Bytes
a_tag_name n function given = tested_name is_tag (text_or [] n function given)

-- options, which may be nil or left out: the field `selfClosing` of a table
abbrev pub closing_option : {X : Type 0} → Heap X → ℕ → Bytes → List Value → Argument Bool
closing_option h n function [] = Ok false
closing_option h n function (Nil ∷ more) = Ok false
closing_option h n function (Table t ∷ more) = Ok (is_true (field h (Table t) (codes "selfClosing")))
closing_option h n function given = Err (bad_argument n function (expected (codes "table") given))

-- ---- making

-- `mw.html.create(name, options)`
abbrev pub makes : {X : Type 0} → Heap X → MarkupNode → Plain X
makes h node = gives (new_markup h node).0 (Markup (new_markup h node).1 ∷ [])

abbrev pub create : {X : Type 0} → List Value → Heap X → Plain X
create args h =
    with_argument h (a_tag_name 1 (codes "create") args) (λ name.
    with_argument h (closing_option h 2 (codes "create") (rest args)) (λ closed.
    makes h (new_node name closed None)))

-- a method that makes this of its object, and gives it
abbrev pub puts : {X : Type 0} → Heap X → ℕ → MarkupNode → Plain X
puts h m node = gives (set_markup_in h m node) (Markup m ∷ [])

abbrev pub changes : {X : Type 0} → Heap X → ℕ → (MarkupNode → MarkupNode) → Plain X
changes h m change = puts h m (change (markup_at h m))

-- `tag(name, options)` adds a new object, and gives that one
abbrev pub makes_in : {X : Type 0} → Heap X → ℕ → MarkupNode → Plain X
makes_in h m node =
    let made = new_markup h node in
    gives (set_markup_in made.0 m (add_children (ChildNode made.1 ∷ []) (markup_at made.0 m))) (Markup made.1 ∷ [])

abbrev pub tag : {X : Type 0} → List Value → Heap X → Plain X
tag args h =
    with_argument h (an_object 1 (codes "tag") args) (λ m.
    with_argument h (a_tag_name 2 (codes "tag") (rest args)) (λ name.
    with_argument h (closing_option h 3 (codes "tag") (rest (rest args))) (λ closed.
    makes_in h m (new_node name closed (Some m)))))

-- ---- children

-- `node(x)`: an object, or a text; nothing for nil
abbrev pub as_child : Argument Bytes → Argument (List MarkupChild)
as_child (Ok text) = Ok (ChildText text ∷ [])
as_child (Err message) = Err message

abbrev pub a_child : List Value → Argument (List MarkupChild)
a_child [] = Ok []
a_child (Nil ∷ more) = Ok []
a_child (Markup m ∷ more) = Ok (ChildNode m ∷ [])
a_child given = as_child (a_text 2 (codes "node") given)

abbrev pub node : {X : Type 0} → List Value → Heap X → Plain X
node args h =
    with_argument h (an_object 1 (codes "node") args) (λ m.
    with_argument h (a_child (rest args)) (λ children.
    changes h m (add_children children)))

-- `wikitext(...)`: the texts up to the first nil, which are all read before one is added
abbrev pub texts_from : ℕ → List Value → Argument (List Bytes)
texts_from n [] = Ok []
texts_from n (Nil ∷ more) = Ok []
texts_from n (v ∷ more) = and_those (a_text n (codes "wikitext") (v ∷ more)) (texts_from (n + 1) more)

abbrev pub wikitext : {X : Type 0} → List Value → Heap X → Plain X
wikitext args h =
    with_argument h (an_object 1 (codes "wikitext") args) (λ m.
    with_argument h (texts_from 2 (rest args)) (λ texts.
    changes h m (add_texts texts)))

-- `newline()`: a line feed
abbrev pub newline : {X : Type 0} → List Value → Heap X → Plain X
newline args h =
    with_argument h (an_object 1 (codes "newline") args) (λ m.
    changes h m (add_texts ((10 ∷ []) ∷ [])))

-- ---- attributes and styles

-- WHAT SETS: the name of the method, which names it takes, and what it makes of an object
pub record Setter : Type 0 where
  pub function : Bytes
  pub takes : Bytes → Bool
  pub sets : Bytes → Option Bytes → MarkupNode → MarkupNode

abbrev pub any_name : Bytes → Bool
any_name name = true

abbrev pub attributes : Setter
attributes = record { function = codes "attr"; takes = is_attribute_name; sets = set_attribute }

abbrev pub styles : Setter
styles = record { function = codes "css"; takes = any_name; sets = set_style }

-- a name and a value are set, `given` from argument 2 on
abbrev pub set_read : Setter → MarkupNode → Argument Bytes → Argument (Option Bytes) → Argument MarkupNode
set_read s n (Ok name) (Ok value) = Ok (s.sets name value n)
set_read s n (Ok name) (Err message) = Err message
set_read s n (Err message) value = Err message

abbrev pub set_one : Setter → List Value → MarkupNode → Argument MarkupNode
set_one s given n = set_read s n (tested_name s.takes (a_text 2 s.function given)) (text_if_any 3 s.function (rest given))

abbrev pub sets_one : {X : Type 0} → Setter → Heap X → ℕ → List Value → Plain X
sets_one s h m given = with_argument h (set_one s given (markup_at h m)) (λ made. puts h m made)

-- ENTRIES ARE SET one after another, each as a call with its key and value sets it, for the charge of that call. What was set before a
-- bad one stays. A cleared entry is passed over for a step.
pub record Settings : Type 0 where
  pub charge : ℕ
  pub node : MarkupNode
  pub fault : Option Bytes

abbrev pub behind_charge : ℕ → Settings → Settings
behind_charge n r = record r { charge = n + r.charge }

abbrev pub go_on_with : MarkupNode → Argument MarkupNode → (MarkupNode → Settings) → Settings
go_on_with n (Ok made) go_on = go_on made
go_on_with n (Err message) go_on = record { charge = 0; node = n; fault = Some message }

abbrev pub entry_given : Value × Value → List Value
entry_given e = e.0 ∷ e.1 ∷ []

abbrev pub set_each : Setter → Entries → MarkupNode → Settings
set_each s [] n = record { charge = 0; node = n; fault = None }
set_each s (e ∷ more) n =
    if is_nil e.1 then behind_charge 1 (set_each s more n)
    else behind_charge (text_charge (entry_given e)) (go_on_with n (set_one s (entry_given e) n) (λ made. set_each s more made))

abbrev pub set_ends : {X : Type 0} → Heap X → ℕ → Option Bytes → Plain X
set_ends h m None = gives h (Markup m ∷ [])
set_ends h m (Some message) = fails h message

abbrev pub sets_each : {X : Type 0} → Heap X → ℕ → Settings → Plain X
sets_each h m r = with_charge r.charge (set_ends (set_markup_in h m r.node) m r.fault)

-- `attr(name, value)` and `css(name, value)`, or a table of them
abbrev pub set_given : {X : Type 0} → Setter → Heap X → ℕ → List Value → Plain X
set_given s h m (Table t ∷ more) = sets_each h m (set_each s (table_at h t).entries (markup_at h m))
set_given s h m given = sets_one s h m given

abbrev pub set_by : {X : Type 0} → Setter → List Value → Heap X → Plain X
set_by s args h =
    with_argument h (an_object 1 s.function args) (λ m.
    set_given s h m (rest args))

abbrev pub attr : {X : Type 0} → List Value → Heap X → Plain X
attr args h = set_by attributes args h

abbrev pub css : {X : Type 0} → List Value → Heap X → Plain X
css args h = set_by styles args h

-- `cssText(text)`: nothing for nil
abbrev pub adds_styles : {X : Type 0} → Heap X → ℕ → Option Bytes → Plain X
adds_styles h m None = gives h (Markup m ∷ [])
adds_styles h m (Some text) = changes h m (add_style_text text)

abbrev pub css_text : {X : Type 0} → List Value → Heap X → Plain X
css_text args h =
    with_argument h (an_object 1 (codes "cssText") args) (λ m.
    with_argument h (text_if_any 2 (codes "cssText") (rest args)) (λ text.
    adds_styles h m text))

-- `addClass(class)`: nothing for nil. The classes that it makes cost their length.
abbrev pub adds_class : {X : Type 0} → Heap X → ℕ → Option Bytes → Plain X
adds_class h m None = gives h (Markup m ∷ [])
adds_class h m (Some class) =
    let classes = classes_with class (markup_at h m) in
    with_charge (length classes) (changes h m (set_classes classes))

abbrev pub add_class : {X : Type 0} → List Value → Heap X → Plain X
add_class args h =
    with_argument h (an_object 1 (codes "addClass") args) (λ m.
    with_argument h (text_if_any 2 (codes "addClass") (rest args)) (λ class.
    adds_class h m class))

-- `getAttr(name)`: the value, which costs its length, or nil. Styles are no attributes.
abbrev pub gives_value : {X : Type 0} → Heap X → Option Bytes → Plain X
gives_value h None = gives h (Nil ∷ [])
gives_value h (Some value) = gives_text h value

abbrev pub get_attr : {X : Type 0} → List Value → Heap X → Plain X
get_attr args h =
    with_argument h (an_object 1 (codes "getAttr") args) (λ m.
    with_argument h (a_text 2 (codes "getAttr") (rest args)) (λ name.
    gives_value h (value_of name (markup_at h m).attrs)))

-- ---- the objects above

-- an object that was found, or else this one
abbrev pub found_or : ℕ → Option ℕ → Value
found_or m (Some other) = Markup other
found_or m None = Markup m

-- `done()` gives the parent, and `allDone()` the root
abbrev pub done : {X : Type 0} → List Value → Heap X → Plain X
done args h =
    with_argument h (an_object 1 (codes "done") args) (λ m.
    gives h (found_or m (markup_at h m).parent ∷ []))

abbrev pub all_done : {X : Type 0} → List Value → Heap X → Plain X
all_done args h =
    with_argument h (an_object 1 (codes "allDone") args) (λ m.
    gives h (found_or m (root_of h.markup m) ∷ []))

-- ---- FIELDS of an object are its methods
abbrev pub method_named : Bytes → Option Library
method_named name =
    if bytes_eq name (codes "node") then Some HtmlNode
    else if bytes_eq name (codes "wikitext") then Some HtmlWikitext
    else if bytes_eq name (codes "newline") then Some HtmlNewline
    else if bytes_eq name (codes "tag") then Some HtmlTag
    else if bytes_eq name (codes "attr") then Some HtmlAttr
    else if bytes_eq name (codes "getAttr") then Some HtmlGetAttr
    else if bytes_eq name (codes "addClass") then Some HtmlAddClass
    else if bytes_eq name (codes "css") then Some HtmlCss
    else if bytes_eq name (codes "cssText") then Some HtmlCssText
    else if bytes_eq name (codes "done") then Some HtmlDone
    else if bytes_eq name (codes "allDone") then Some HtmlAllDone
    else None

abbrev pub builtin_or_nil : Option Library → Value
builtin_or_nil (Some which) = Builtin which
builtin_or_nil None = Nil

abbrev pub field_of_object : Value → Value
field_of_object (Text name) = builtin_or_nil (method_named name)
field_of_object key = Nil

-- ---- THE TEXT of an object, as `tostring` gives it. It costs a step for each object begun and for each byte, up to where it ends.
abbrev pub gives_piece : {X : Type 0} → Heap X → Piece → Plain X
gives_piece h (Whole bytes begun) = with_charge begun (gives_text h bytes)
gives_piece h (Deep bytes begun) = with_charge (begun + length bytes) (fails h nested_too_deeply)

abbrev pub text_of_object : {X : Type 0} → ℕ → Heap X → Plain X
text_of_object m h = gives_piece h (render h.markup m)

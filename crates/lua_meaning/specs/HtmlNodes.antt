-- WHAT THE METHODS OF AN OBJECT OF `mw.html` MAKE OF IT (Scribunto, HTML library): its attributes, styles and children, and the object
-- at the root above it. How it is rendered stands where `mw_html` is.
use Rattle.std.specs.Prelude.{◌≡◌, ℕ, zero, suc, Bool, false, List, [], ◌∷◌, ◌++◌, length, map, Option, Some, None, slice_index_or, if◌then◌else◌, bytes_eq, codes}
use Rattle.lua_walk.specs.LuaHeapHeap.{MarkupStyle, Item, StyleText, MarkupChild, ChildText, MarkupNode, no_markup}
use Rattle.mw_html.specs.Names.{with_class}
use Rattle.lua_meaning.specs.Scope.{Bytes}

-- a new object: its tag's name, which is empty where it has no tag; whether it closes itself; and the object whose `tag` made it
abbrev pub new_node : Bytes → Bool → Option ℕ → MarkupNode
new_node name closed parent = record { name = name; closed = closed; parent = parent; attrs = []; styles = []; children = [] }

-- ONE IS SET, or with nothing in its place removed: it stands where the first one stood for which a test holds, or else last
abbrev pub settled : {A : Type 0} → (A → Bool) → List A → List A → List A
settled test new [] = new
settled test new (x ∷ more) = if test x then new ++ more else x ∷ settled test new more

-- ATTRIBUTES stand in the order in which they were set first. One that was removed and is set again comes last.
abbrev pub is_attr : Bytes → Bytes × Bytes → Bool
is_attr name a = bytes_eq a.0 name

abbrev pub value_of : Bytes → List (Bytes × Bytes) → Option Bytes
value_of name [] = None
value_of name (a ∷ more) = if is_attr name a then Some a.1 else value_of name more

abbrev pub attr_of : Bytes → Option Bytes → List (Bytes × Bytes)
attr_of name (Some value) = (name, value) ∷ []
attr_of name None = []

abbrev pub attrs_with : Bytes → Option Bytes → List (Bytes × Bytes) → List (Bytes × Bytes)
attrs_with name value attrs = settled (is_attr name) (attr_of name value) attrs

-- STYLES: so do those of `css`, among the texts of `cssText`
abbrev pub is_item : Bytes → MarkupStyle → Bool
is_item name (Item own value) = bytes_eq own name
is_item name (StyleText text) = false

abbrev pub item_of : Bytes → Option Bytes → List MarkupStyle
item_of name (Some value) = Item name value ∷ []
item_of name None = []

abbrev pub styles_with : Bytes → Option Bytes → List MarkupStyle → List MarkupStyle
styles_with name value styles = settled (is_item name) (item_of name value) styles

-- the styles that the attribute `style` gives: its value as a text, or none
abbrev pub styles_of : Option Bytes → List MarkupStyle
styles_of (Some text) = StyleText text ∷ []
styles_of None = []

-- SETTING: an attribute, or a style; nothing in place of a value removes it. The attribute `style` is all styles.
abbrev pub set_attribute : Bytes → Option Bytes → MarkupNode → MarkupNode
set_attribute name value n =
    if bytes_eq name (codes "style") then record n { styles = styles_of value }
    else record n { attrs = attrs_with name value n.attrs }

abbrev pub set_style : Bytes → Option Bytes → MarkupNode → MarkupNode
set_style name value n = record n { styles = styles_with name value n.styles }

abbrev pub add_style_text : Bytes → MarkupNode → MarkupNode
add_style_text text n = record n { styles = n.styles ++ StyleText text ∷ [] }

-- the classes of an object with one more
abbrev pub classes_with : Bytes → MarkupNode → Bytes
classes_with class n = with_class (value_of (codes "class") n.attrs) class

abbrev pub set_classes : Bytes → MarkupNode → MarkupNode
set_classes classes n = record n { attrs = attrs_with (codes "class") (Some classes) n.attrs }

-- CHILDREN come last
abbrev pub add_children : List MarkupChild → MarkupNode → MarkupNode
add_children children n = record n { children = n.children ++ children }

abbrev pub add_texts : List Bytes → MarkupNode → MarkupNode
add_texts texts n = add_children (map ChildText texts) n

-- THE ROOT above an object: its parent's, or itself where it has none. An object has fewer objects above it than there are objects; should
-- a walk go on for longer, it would come round, and there is no root.
abbrev pub root_above : (ℕ → Option ℕ) → ℕ → Option ℕ → Option ℕ
root_above climb at None = Some at
root_above climb at (Some parent) = climb parent

unfoldable pub root_by : List MarkupNode → ℕ → ℕ → Option ℕ
root_by nodes zero at = None
root_by nodes (suc room) at = root_above (root_by nodes room) at (slice_index_or nodes at no_markup).parent

abbrev pub root_of : List MarkupNode → ℕ → Option ℕ
root_of nodes at = root_by nodes (suc (length nodes)) at

-- so a root that a walk of any length finds is the root
abbrev pub RootsAreFound : Type 0
RootsAreFound = (nodes : List MarkupNode) (room at root : ℕ) → root_by nodes room at ≡ Some root → root_of nodes at ≡ Some root

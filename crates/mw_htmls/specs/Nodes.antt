-- OBJECTS OF A STORE: what is seen of a parent, and a store in which an object is another one.
use Rattle.std.specs.Prelude.{ℕ, List, [], ◌∷◌, Option, Some, None}
use Rattle.std.specs.Borrow.{Bor}
use Rattle.std.specs.Option.{option_map}
use Rattle.mw_html.specs.LuaHeapHeap.{MarkupNode as SeenNode, MarkupStyle as SeenStyle, set_markup_in}
use Rattle.lua_strings.specs.LuaStoreDeclaredIdsTextId.{TextId}
use Rattle.lua_strings.specs.LuaStoreDeclaredIdsMarkupId.{MarkupId}
use Rattle.lua_strings.specs.LuaStoreDeclaredMarkupTextPair.{TextPair}
use Rattle.lua_strings.specs.LuaStoreDeclaredMarkupMarkupStyle.{MarkupStyle}
use Rattle.lua_strings.specs.LuaStoreDeclaredMarkupMarkupStyleTheVariants as style
use Rattle.lua_strings.specs.LuaStoreSeen.{StoreView, text_at}

abbrev pub parent_seen : Option MarkupId → Option ℕ
parent_seen parent = option_map (λ id. id.at) parent

abbrev pub with_node : StoreView → ℕ → SeenNode → StoreView
with_node s m node = record s { heap = set_markup_in s.heap m node }

-- a text that may be absent, and the attribute or the style that it is the value of
abbrev pub text_seen : List (List ℕ) → Option TextId → Option (List ℕ)
text_seen texts value = option_map (λ id. text_at texts id.at) value

abbrev pub pair_of : TextId → Option TextId → List TextPair
pair_of name (Some value) = (record { name = name; value = value }) ∷ []
pair_of name None = []

abbrev pub style_of : TextId → Option TextId → List MarkupStyle
style_of name (Some value) = style.Item (record { name = name; value = value }) ∷ []
style_of name None = []

-- a text of styles alone, or none
abbrev pub style_texts : Option TextId → List MarkupStyle
style_texts (Some text) = style.Text text ∷ []
style_texts None = []

-- bytes that may be absent
abbrev pub bytes_in : Option (Bor (List ℕ)) → Option (List ℕ)
bytes_in bytes = option_map (λ b. b.now) bytes

-- an object with other attributes, and with other styles
abbrev pub attrs_set : List (List ℕ × List ℕ) → SeenNode → SeenNode
attrs_set attrs n = record n { attrs = attrs }

abbrev pub styles_set : List SeenStyle → SeenNode → SeenNode
styles_set styles n = record n { styles = styles }

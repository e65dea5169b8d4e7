-- WHAT SETS attributes and styles, and what a name with its value makes of an object.
use Rattle.std.specs.Prelude.{List, [], ◌∷◌, Ok}
use Rattle.std.specs.Option.{option_map}
use Rattle.lua_strings.specs.LuaHeapValue.{Value}
use Rattle.mw_html.specs.LuaHeapHeap.{MarkupNode}
use Rattle.lua_strings.specs.LuaMeaningScope.{Bytes}
use Rattle.lua_strings.specs.LuaMeaningValues.{rest}
use Rattle.lua_strings.specs.LuaMeaningArguments.{Argument}
use Rattle.lua_strings.specs.LuaMeaningHtml as html
use Rattle.lua_strings.specs.LuaBasicArguments.{text_bytes}
use Rattle.mw_htmls.specs.declared.setting.Setter.{Setter}
use Rattle.mw_htmls.specs.declared.setting.Setter.TheVariants as setter
use Rattle.mw_htmls.specs.declared.setting.Setting.{Setting}

abbrev pub setter_of : Setter → html.Setter
setter_of setter.Attributes = html.attributes
setter_of setter.Styles = html.styles

abbrev pub set_by : Setter → Setting → MarkupNode → MarkupNode
set_by which x n = (setter_of which).sets (text_bytes x.name) (option_map text_bytes x.value) n

-- a name that is taken, with the value behind it, where that is one
abbrev pub set_named : html.Setter → MarkupNode → Bytes → List Value → Argument MarkupNode
set_named s n name given = html.set_read s n (Ok name) (html.text_if_any 3 s.function (rest given))

-- one after another
abbrev pub all_set : Setter → List Setting → MarkupNode → MarkupNode
all_set which [] n = n
all_set which (x ∷ more) n = all_set which more (set_by which x n)

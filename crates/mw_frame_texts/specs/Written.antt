-- WHAT IS WRITTEN OF A TAG, for attributes and content whose texts are still those of a store, or digits of numbers.
use Rattle.std.specs.Prelude.{List, [], ◌∷◌, ◌++◌, Option, Some, None, codes}
use Rattle.std.specs.Option.{option_map}
use Rattle.mw_frames.specs.LuaMeaningScope.{Bytes}
use Rattle.mw_frames.specs.LuaMeaningTag.{encode}
use Rattle.mw_frames.specs.LuaBasicArguments.{text_bytes}
use Rattle.mw_frame_texts.specs.declared.attributes.AttrText.{AttrText}
use Rattle.mw_frame_texts.specs.declared.contents.Content.{Content}
use Rattle.mw_frame_texts.specs.declared.contents.Content.TheVariants as content

-- an attribute: with its value, or alone
abbrev pub attribute_written : Bytes → Option Bytes → Bytes
attribute_written name (Some t) = codes " " ++ name ++ codes "=\"" ++ encode t ++ codes "\""
attribute_written name None = codes " " ++ name

abbrev pub attr_written : AttrText → Bytes
attr_written a = attribute_written (text_bytes a.name) (option_map text_bytes a.value)

abbrev pub attrs_written : List AttrText → Bytes
attrs_written [] = []
attrs_written (a ∷ more) = attr_written a ++ attrs_written more

-- what follows the attributes
abbrev pub content_written : Bytes → Content → Bytes
content_written name content.Nothing = codes ">"
content_written name content.Closed = codes " />"
content_written name (content.Text t) = codes ">" ++ text_bytes t ++ codes "</" ++ name ++ codes ">"

abbrev pub tag_written : Bytes → List AttrText → Content → Bytes
tag_written name attrs c = codes "<" ++ name ++ (attrs_written attrs ++ content_written name c)

-- A TAG OF HTML as a text (Scribunto manual, mw.text.tag).
use Rattle.std.specs.Prelude.{ℕ, ◌&&◌, List, [], ◌∷◌, ◌++◌, if◌then◌else◌, ◌==◌, codes}
use Rattle.mw_ustring.specs.WkBaseTitles.{begins_with}
use Rattle.mw_text.specs.declared.tagging.TagAttr.{TagAttr}
use Rattle.mw_text.specs.declared.tagging.TagValue.{TagValue}
use Rattle.mw_text.specs.declared.tagging.TagValue.TheVariants as tag_value
use Rattle.mw_text.specs.declared.tagging.TagContent.{TagContent}
use Rattle.mw_text.specs.declared.tagging.TagContent.TheVariants as tag_content

-- the value of an attribute: `&`, `<`, `>`, `"`, `'` and the space that does not break are written as references
abbrev pub reference : ℕ → List ℕ
reference c =
    if c == 38 then codes "&amp;" else if c == 60 then codes "&lt;" else if c == 62 then codes "&gt;"
    else if c == 34 then codes "&quot;" else if c == 39 then codes "&#39;" else c ∷ []

-- behind a byte; the space that does not break is the bytes 194 and 160
abbrev pub encode_byte : ℕ → ℕ → List ℕ → List ℕ
encode_byte before c more =
    if (c == 194) && begins_with 160 more then []
    else if (before == 194) && (c == 160) then codes "&nbsp;"
    else reference c

abbrev pub encode_behind : ℕ → List ℕ → List ℕ
encode_behind before [] = []
encode_behind before (c ∷ more) = encode_byte before c more ++ encode_behind c more

abbrev pub encode : List ℕ → List ℕ
encode text = encode_behind 0 text

-- AN ATTRIBUTE: with its value, or alone
abbrev pub attribute : List ℕ → TagValue → List ℕ
attribute name (tag_value.Text t) = codes " " ++ name ++ codes "=\"" ++ encode t ++ codes "\""
attribute name tag_value.Alone = codes " " ++ name

abbrev pub attributes : List TagAttr → List ℕ
attributes [] = []
attributes (a ∷ more) = attribute a.name a.value ++ attributes more

-- WHAT FOLLOWS the attributes: a text with the closing tag, `>` alone, or ` />`
abbrev pub closed_by : List ℕ → TagContent → List ℕ
closed_by name tag_content.Nothing = codes ">"
closed_by name tag_content.Closed = codes " />"
closed_by name (tag_content.Text t) = codes ">" ++ t ++ codes "</" ++ name ++ codes ">"

-- THE TAG
abbrev pub tag_of : List ℕ → List TagAttr → TagContent → List ℕ
tag_of name attrs content = codes "<" ++ name ++ (attributes attrs ++ closed_by name content)

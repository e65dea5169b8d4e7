-- NORMAL FORMS: what one costs, and what it is given as.
use Rattle.std.specs.Prelude.{ℕ, length, Option, Some, None, if◌then◌else◌, chars, encode_utf8_all}
use Rattle.std.specs.Str.{is_utf8}
use Rattle.unicode_normalization.specs.Forms.{Form, normalize}
use Rattle.mw_frame_texts.specs.LuaHeapValue.{Value, Nil, Text}
use Rattle.mw_frame_texts.specs.LuaMeaningScope.{Bytes}

-- a step for each of its bytes, and none where the bytes of the text aren't UTF-8
abbrev pub form_charge : Form → Bytes → ℕ
form_charge form s = if is_utf8 s then length (encode_utf8_all (normalize form (chars s))) else 0

-- its text, or nil where there is none
abbrev pub form_value : Option Bytes → Value
form_value (Some text) = Text text
form_value None = Nil

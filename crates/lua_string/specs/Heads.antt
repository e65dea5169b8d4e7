-- What the head of a replacement text stands for.
use Rattle.std.specs.Prelude.{ℕ, List, [], ◌∷◌}
use Rattle.lua_string.specs.declared.replacing.Head.{Head}
use Rattle.lua_string.specs.declared.replacing.Head.TheVariants as head
use Rattle.lua_string.specs.Replacements.{text_of}

abbrev pub head_text : Head → List ℕ
head_text (head.Byte b) = b ∷ []
head_text (head.Capture c) = text_of c

-- What the parts of a formatted text stand for.
use Rattle.std.specs.Prelude.{ℕ, if◌then◌else◌, List, [], ◌∷◌, ◌++◌}
use Rattle.lua_format.specs.declared.layout.Prefix.{Prefix}
use Rattle.lua_format.specs.declared.layout.Prefix.TheVariants as prefix
use Rattle.lua_format.specs.declared.layout.Source.{Source}
use Rattle.lua_format.specs.declared.layout.Source.TheVariants as source
use Rattle.lua_format.specs.declared.layout.Content.{Content}
use Rattle.lua_format.specs.declared.layout.Layout.{Layout}
use Rattle.lua_format.specs.declared.layout.Piece.{Piece}
use Rattle.lua_format.specs.declared.layout.Piece.TheVariants as piece
use Rattle.lua_format.specs.Layouts.{spaces, noughts, quoted}

abbrev pub prefix_bytes : Prefix → List ℕ
prefix_bytes prefix.Empty = []
prefix_bytes prefix.Minus = 45 ∷ []
prefix_bytes prefix.Plus = 43 ∷ []
prefix_bytes prefix.Space = 32 ∷ []
prefix_bytes (prefix.Hexadecimal upper) = 48 ∷ (if upper then 88 else 120) ∷ []

abbrev pub source_bytes : Source → List ℕ
source_bytes (source.Given bytes) = bytes.now
source_bytes (source.Made short) = short

abbrev pub fraction_bytes : Content → List ℕ
fraction_bytes c = if c.point then 46 ∷ noughts c.fraction else []

abbrev pub content_body : Content → List ℕ
content_body c = noughts c.zeros ++ source_bytes c.source ++ fraction_bytes c

abbrev pub layout_bytes : Layout → List ℕ
layout_bytes l = spaces l.before ++ (prefix_bytes l.content.prefix ++ content_body l.content) ++ spaces l.after

abbrev pub piece_bytes : Piece → List ℕ
piece_bytes (piece.Laid l) = layout_bytes l
piece_bytes (piece.Quoted s) = quoted (source_bytes s)

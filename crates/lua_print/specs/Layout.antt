-- THE LAYOUT OF A TEXT: its items in order, with white space between them that hangs on the items, and on the line breaks that were there.
-- Bytes are written by their codes: 10 is LF, 32 the space, 91 [.
use Rattle.std.specs.Prelude.{ℕ, zero, suc, ◌-◌, Bool, true, false, not, ◌&&◌, ◌||◌, ◌==◌, if◌then◌else◌, List, [], ◌∷◌, ◌++◌, Option, Some, None}
use Rattle.lua_lexer.specs.Lexis.{at}
use Rattle.lua_reading.specs.LuaGrammarDeclaredTokenClass.{TokenClass}
use Rattle.lua_reading.specs.LuaGrammarDeclaredTokenClassTheVariants.{Name, Do, Else, Elseif, End, Function, Repeat, Then, Until, Hash, LeftParen, RightParen, LeftBrace, RightBrace, LeftBracket, RightBracket, Semicolon, Colon, Comma, Dot}
use Rattle.lua_print.specs.declared.items.Gap.{Gap}
use Rattle.lua_print.specs.declared.items.Gap.TheVariants.{First, Beside, Below, Apart}
use Rattle.lua_print.specs.Items.{Item, items_of}

-- ---- levels

-- do then repeat function {
abbrev pub is_opening : Option TokenClass → Bool
is_opening (Some Do) = true
is_opening (Some Then) = true
is_opening (Some Repeat) = true
is_opening (Some Function) = true
is_opening (Some LeftBrace) = true
is_opening _ = false

-- end until elseif }
abbrev pub is_closing : Option TokenClass → Bool
is_closing (Some End) = true
is_closing (Some Until) = true
is_closing (Some Elseif) = true
is_closing (Some RightBrace) = true
is_closing _ = false

-- end until elseif else }: what stands one level less deep than the items before it
abbrev pub is_outdented : Option TokenClass → Bool
is_outdented (Some Else) = true
is_outdented class = is_closing class

-- how many, one more where this holds
abbrev pub one_more : Bool → ℕ → ℕ
one_more b n = if b then suc n else n

-- The level of an item, where so many items before it open a level and so many close one.
abbrev pub level : ℕ → ℕ → Option TokenClass → ℕ
level opened closed class = opened - closed - one_more (is_outdented class) 0

-- two spaces for each level
abbrev pub indent : ℕ → List ℕ
indent zero = []
indent (suc n) = 32 ∷ 32 ∷ indent n

-- ---- items on one line

-- , ; ) ] . :
abbrev pub hugs_left : Option TokenClass → Bool
hugs_left (Some Comma) = true
hugs_left (Some Semicolon) = true
hugs_left (Some RightParen) = true
hugs_left (Some RightBracket) = true
hugs_left (Some Dot) = true
hugs_left (Some Colon) = true
hugs_left _ = false

-- ( # . :
abbrev pub hugs_right : Option TokenClass → Bool
hugs_right (Some LeftParen) = true
hugs_right (Some Hash) = true
hugs_right (Some Dot) = true
hugs_right (Some Colon) = true
hugs_right _ = false

-- a Name, ) or ]
abbrev pub can_be_called : Option TokenClass → Bool
can_be_called (Some Name) = true
can_be_called (Some RightParen) = true
can_be_called (Some RightBracket) = true
can_be_called _ = false

-- the mark ( or [
abbrev pub calls_or_indexes : Option TokenClass → Bool
calls_or_indexes (Some LeftParen) = true
calls_or_indexes (Some LeftBracket) = true
calls_or_indexes _ = false

abbrev pub is_left_bracket : Option TokenClass → Bool
is_left_bracket (Some LeftBracket) = true
is_left_bracket _ = false

abbrev pub is_left_brace : Option TokenClass → Bool
is_left_brace (Some LeftBrace) = true
is_left_brace _ = false

abbrev pub is_right_brace : Option TokenClass → Bool
is_right_brace (Some RightBrace) = true
is_right_brace _ = false

-- Whether no space stands between two items on one line: before , ; ) ] . : and behind ( # . :, between a Name, ) or ] and the mark ( or [,
-- between { and }, and behind [ where what follows doesn't begin with [, which would make a long bracket.
abbrev pub is_tight : Option TokenClass → Option TokenClass → List ℕ → Bool
is_tight before class bytes =
    hugs_left class || (hugs_right before || ((can_be_called before && calls_or_indexes class)
    || ((is_left_brace before && is_right_brace class) || (is_left_bracket before && not (at bytes 0 == 91)))))

-- ---- what stands before an item

abbrev pub space_unless : Bool → List ℕ
space_unless tight = if tight then [] else 32 ∷ []

-- Where there was no line break, a space or none; where there was one, LF, and where there were more, two, with the spaces of the level behind.
abbrev pub before_item : Gap → ℕ → Bool → List ℕ
before_item First level tight = []
before_item Beside level tight = space_unless tight
before_item Below level tight = 10 ∷ indent level
before_item Apart level tight = 10 ∷ 10 ∷ indent level

-- ---- the whole text

-- Items behind others, of which so many open and close a level and the last has this class; and LF.
abbrev pub laid_from : ℕ → ℕ → Option TokenClass → List Item → List ℕ
laid_from opened closed before [] = 10 ∷ []
laid_from opened closed before (i ∷ is) =
    before_item i.gap (level opened closed i.class) (is_tight before i.class i.bytes) ++ i.bytes
    ++ laid_from (one_more (is_opening i.class) opened) (one_more (is_closing i.class) closed) i.class is

-- Without items there is no text.
abbrev pub laid : List Item → List ℕ
laid [] = []
laid (i ∷ is) = laid_from 0 0 None (i ∷ is)

unfoldable pub layout_of : List ℕ → List ℕ
layout_of text = laid (items_of text)

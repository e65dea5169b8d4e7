-- What a token is to the grammar: keywords and marks by their bytes (manual 2.1).
use Rattle.std.specs.Prelude.{ℕ, if◌then◌else◌, List, [], ◌∷◌, codes, slice_index_or}
use Rattle.lua_lexer.specs.Lexis.{same}
use Rattle.lua_lexer.specs.declared.token.Token.{Token}
use Rattle.lua_lexer.specs.declared.token.TokenKind.{TokenKind}
use Rattle.lua_lexer.specs.declared.token.TokenKind.TheVariants.{Name as NameToken, Word, Mark, Number as NumberToken, Text as TextToken, End as EndToken}
use Rattle.lua_grammar.specs.declared.TokenClass.{TokenClass}
use Rattle.lua_grammar.specs.declared.TokenClass.TheVariants.{Name, Number, Text, Eof, And, Break, Do, Else, Elseif, End, False, For, Function, If, In, Local, Nil, Not, Or, Repeat, Return, Then, True, Until, While, Plus, Minus, Star, Slash, Percent, Caret, Hash, EqEq, NotEq, LessEq, MoreEq, Less, More, Assign, LeftParen, RightParen, LeftBrace, RightBrace, LeftBracket, RightBracket, Semicolon, Colon, Comma, Dot, DotDot, Dots, Other}

-- Bytes, and the class for which they stand.
abbrev pub Entry : Type 0
Entry = List ℕ × TokenClass

abbrev pub look_up : List ℕ → List Entry → TokenClass → TokenClass
look_up w [] otherwise = otherwise
look_up w ((bytes, class) ∷ rest) otherwise = if same w bytes then class else look_up w rest otherwise

abbrev pub early_words : List Entry
early_words = (codes "and", And) ∷ (codes "break", Break) ∷ (codes "do", Do) ∷ (codes "else", Else) ∷ (codes "elseif", Elseif) ∷ (codes "end", End) ∷ (codes "false", False) ∷ []

abbrev pub middle_words : List Entry
middle_words = (codes "for", For) ∷ (codes "function", Function) ∷ (codes "if", If) ∷ (codes "in", In) ∷ (codes "local", Local) ∷ (codes "nil", Nil) ∷ (codes "not", Not) ∷ []

abbrev pub late_words : List Entry
late_words = (codes "or", Or) ∷ (codes "repeat", Repeat) ∷ (codes "return", Return) ∷ (codes "then", Then) ∷ (codes "true", True) ∷ (codes "until", Until) ∷ (codes "while", While) ∷ []

unfoldable pub word_class : List ℕ → TokenClass
word_class w = look_up w early_words (look_up w middle_words (look_up w late_words Other))

abbrev pub operators : List Entry
operators = (codes "+", Plus) ∷ (codes "-", Minus) ∷ (codes "*", Star) ∷ (codes "/", Slash) ∷ (codes "%", Percent) ∷ (codes "^", Caret) ∷ (codes "#", Hash) ∷ []

abbrev pub comparisons : List Entry
comparisons = (codes "==", EqEq) ∷ (codes "~=", NotEq) ∷ (codes "<=", LessEq) ∷ (codes ">=", MoreEq) ∷ (codes "<", Less) ∷ (codes ">", More) ∷ (codes "=", Assign) ∷ []

abbrev pub brackets : List Entry
brackets = (codes "(", LeftParen) ∷ (codes ")", RightParen) ∷ (codes "{", LeftBrace) ∷ (codes "}", RightBrace) ∷ (codes "[", LeftBracket) ∷ (codes "]", RightBracket) ∷ []

abbrev pub points : List Entry
points = (codes ";", Semicolon) ∷ (codes ":", Colon) ∷ (codes ",", Comma) ∷ (codes ".", Dot) ∷ (codes "..", DotDot) ∷ (codes "...", Dots) ∷ []

unfoldable pub mark_class : List ℕ → TokenClass
mark_class m = look_up m brackets (look_up m points (look_up m comparisons (look_up m operators Other)))

abbrev pub kind_class : TokenKind → TokenClass
kind_class (NameToken n) = Name
kind_class (Word w) = word_class w
kind_class (Mark m) = mark_class m
kind_class (NumberToken n) = Number
kind_class (TextToken t) = Text
kind_class EndToken = Eof

abbrev pub class_of : Token → TokenClass
class_of t = kind_class t.kind

-- The bytes of a name, a numeral or a string.
abbrev pub kind_bytes : TokenKind → List ℕ
kind_bytes (NameToken n) = n
kind_bytes (Word w) = w
kind_bytes (Mark m) = m
kind_bytes (NumberToken n) = n
kind_bytes (TextToken t) = t
kind_bytes EndToken = []

abbrev pub bytes_of : Token → List ℕ
bytes_of t = kind_bytes t.kind

abbrev pub end_token : Token
end_token = record { kind = EndToken; start = 0; end = 0; line = 0; end_line = 0 }

-- The token at a place, counted from 0.
unfoldable pub tok_at : List Token → ℕ → Token
tok_at ts i = slice_index_or ts i end_token

abbrev pub class_at : List Token → ℕ → TokenClass
class_at ts i = class_of (tok_at ts i)

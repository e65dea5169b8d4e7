-- The tokens of a text end with the end, and no other is one.
use Rattle.std.proofs.Common.{◌≡◌, ◌≢◌, ℕ, zero, suc, pred, [], ◌∷◌, ◌++◌, ◌+◌, ◌<◌, Bool, true, false, List, length, refl, sym, ap, subst, arith, take, drop}
use Rattle.std.specs.Prelude.{Option, Some, None, Result, Ok, Err, if◌then◌else◌, ◌==◌, ◌&&◌}
use Rattle.std.specs.List.{prefix_len}
use Rattle.lua_lexer.specs.declared.token.Token.{Token}
use Rattle.lua_lexer.specs.declared.token.TokenKind.{TokenKind}
use Rattle.lua_lexer.specs.declared.token.TokenKind.TheVariants.{Name as NameToken, Word, Mark, Number as NumberToken, Text as TextToken, End as EndToken}
use Rattle.lua_lexer.specs.declared.token.Piece.{Piece}
use Rattle.lua_lexer.specs.WkBaseSpace.{is_white}
use Rattle.lua_lexer.specs.Lexis.{same, Lexes, Spells, tokens_of, line_behind, piece_of, Body, Closed, Open, at, is_letter, is_numeral, is_quote, opens_long, is_keyword, word_kind, string_of, long_piece, long_string, long_comment, comment_of, mark_of, mark_size, token_piece, before_closing, string_body, equals_behind, no_token, is_name_byte, numeral_size}
use Rattle.lua_reading.specs.LuaGrammarDeclaredTokenClass.{TokenClass}
use Rattle.lua_reading.specs.LuaGrammarDeclaredTokenClassTheVariants.{Eof, Other}
use Rattle.lua_reading.specs.LuaGrammarTokens.{class_of, class_at, tok_at, kind_class, word_class, mark_class, look_up, Entry, early_words, middle_words, late_words, operators, comparisons, brackets, points}
use Rattle.lua_reading.specs.Parsing.{HasOneEnd}

-- Tokens, none of which is the end, and then the end.
abbrev pub EndsOnce : List Token → Type 0
EndsOnce [] = ⊥
EndsOnce (t ∷ []) = class_of t ≡ Eof
EndsOnce (t ∷ u ∷ us) = (class_of t ≢ Eof) × EndsOnce (u ∷ us)

-- No keyword or mark is the end.
abbrev NoEnd : List Entry → Type 0
NoEnd [] = Unit {0}
NoEnd ((w, s) ∷ rest) = (s ≢ Eof) × NoEnd rest

picked : (b : Bool) (x y : TokenClass) → x ≢ Eof → y ≢ Eof → (if b then x else y) ≢ Eof
picked true x y hx hy = hx
picked false x y hx hy = hy

look_not_end : (w : List ℕ) (t : List Entry) (o : TokenClass) → NoEnd t → o ≢ Eof → look_up w t o ≢ Eof
look_not_end w [] o h ho = ho
look_not_end w ((b, s) ∷ rest) o h ho = picked (same w b) s (look_up w rest o) h.0 (look_not_end w rest o h.1 ho)

word_not_end : (w : List ℕ) → word_class w ≢ Eof
unfolding word_class
word_not_end w =
    look_not_end w early_words (look_up w middle_words (look_up w late_words Other)) ((λ e. cc), ((λ e. cc), ((λ e. cc), ((λ e. cc), ((λ e. cc), ((λ e. cc), ((λ e. cc), tt)))))))
    (look_not_end w middle_words (look_up w late_words Other) ((λ e. cc), ((λ e. cc), ((λ e. cc), ((λ e. cc), ((λ e. cc), ((λ e. cc), ((λ e. cc), tt)))))))
    (look_not_end w late_words Other ((λ e. cc), ((λ e. cc), ((λ e. cc), ((λ e. cc), ((λ e. cc), ((λ e. cc), ((λ e. cc), tt))))))) (λ e. cc)))

mark_not_end : (w : List ℕ) → mark_class w ≢ Eof
unfolding mark_class
mark_not_end w =
    look_not_end w brackets (look_up w points (look_up w comparisons (look_up w operators Other))) ((λ e. cc), ((λ e. cc), ((λ e. cc), ((λ e. cc), ((λ e. cc), ((λ e. cc), tt))))))
    (look_not_end w points (look_up w comparisons (look_up w operators Other)) ((λ e. cc), ((λ e. cc), ((λ e. cc), ((λ e. cc), ((λ e. cc), ((λ e. cc), tt))))))
    (look_not_end w comparisons (look_up w operators Other) ((λ e. cc), ((λ e. cc), ((λ e. cc), ((λ e. cc), ((λ e. cc), ((λ e. cc), ((λ e. cc), tt)))))))
    (look_not_end w operators Other ((λ e. cc), ((λ e. cc), ((λ e. cc), ((λ e. cc), ((λ e. cc), ((λ e. cc), ((λ e. cc), tt))))))) (λ e. cc))))

-- ---- pieces

-- A piece that is no end.
abbrev NotEnd : Option TokenKind → Type 0
NotEnd None = Unit {0}
NotEnd (Some k) = k ≢ EndToken

abbrev Gives : Result Piece ℕ → Type 0
Gives (Ok p) = NotEnd p.kind
Gives (Err k) = Unit {0}

either : (b : Bool) (x y : Result Piece ℕ) → Gives x → Gives y → Gives (if b then x else y)
either true x y hx hy = hx
either false x y hx hy = hy

word_kind_not_end : (b : Bool) (w : List ℕ) → (if b then Word w else NameToken w) ≢ EndToken
word_kind_not_end true w e = cc
word_kind_not_end false w e = cc

string_gives : (text : List ℕ) → Gives (string_of text)
string_gives text = go (string_body (at text 0) (drop 1 text))
  where
    go : (b : Body) → Gives (elim b as (λ x. Result Piece ℕ) [ Closed bytes size ↦ Ok (token_piece (TextToken bytes) (size + 1)) | Open fault ↦ Err fault ])
    go (Closed bytes size) = λ e. cc
    go (Open fault) = tt

long_gives : (made : List ℕ → ℕ → Piece) (level : ℕ) (inside : List ℕ) → ((t : List ℕ) (n : ℕ) → NotEnd (made t n).kind) → Gives (long_piece made level inside)
long_gives made level inside h = go (before_closing level inside)
  where
    go : (o : Option ℕ) → Gives (elim o as (λ x. Result Piece ℕ) [ None ↦ Err 2 | Some n ↦ Ok (made (take n inside) (level + 2 + n + (level + 2))) ])
    go None = tt
    go (Some n) = h (take n inside) (level + 2 + n + (level + 2))

comment_gives : (text : List ℕ) → Gives (comment_of text)
comment_gives text = either (opens_long text) _ _ (long_gives long_comment (equals_behind text) (drop (equals_behind text + 2) text) (λ t n. tt)) tt

mark_gives : (text : List ℕ) → Gives (mark_of text)
mark_gives text = either (0 == mark_size text) (Err 4) (Ok (token_piece (Mark (take (mark_size text) text)) (mark_size text))) tt (λ e. cc)

piece_gives : (text : List ℕ) → Gives (piece_of text)
unfolding piece_of
piece_gives text =
    either (is_white (at text 0)) (Ok (no_token (prefix_len is_white text))) _ tt
    (either (is_letter (at text 0)) (Ok (token_piece (word_kind (take (prefix_len is_name_byte text) text)) (prefix_len is_name_byte text))) _ (word_kind_not_end (is_keyword (take (prefix_len is_name_byte text) text)) (take (prefix_len is_name_byte text) text))
    (either (is_numeral text) (Ok (token_piece (NumberToken (take (numeral_size text) text)) (numeral_size text))) _ (λ e. cc)
    (either (is_quote (at text 0)) (string_of text) _ (string_gives text)
    (either (opens_long text) (long_piece long_string (equals_behind text) (drop (equals_behind text + 2) text)) _ (long_gives long_string (equals_behind text) (drop (equals_behind text + 2) text) (λ t n e. cc))
    (either (at text 0 == 45 && at text 1 == 45) (comment_of (drop 2 text)) (mark_of text) (comment_gives (drop 2 text)) (mark_gives text))))))

-- ---- all tokens

kind_not_end : (k : TokenKind) → k ≢ EndToken → kind_class k ≢ Eof
kind_not_end (NameToken n) h e = cc
kind_not_end (Word w) h e = word_not_end w e
kind_not_end (Mark m) h e = mark_not_end m e
kind_not_end (NumberToken n) h e = cc
kind_not_end (TextToken t) h e = cc
kind_not_end EndToken h e = h refl

in_front : (t : Token) (us : List Token) → class_of t ≢ Eof → EndsOnce us → EndsOnce (t ∷ us)
in_front t [] h e = elim e [ ]
in_front t (u ∷ us) h e = (h, e)

gives_is : (r : Result Piece ℕ) (p : Piece) → r ≡ Ok p → Gives r → NotEnd p.kind
gives_is r p e h = subst Gives e h

tokens_end : (k : Option TokenKind) (size place line end_line : ℕ) (later : List Token) → NotEnd k → EndsOnce later → EndsOnce (tokens_of (record { kind = k; size = size }) place line end_line ++ later)
tokens_end None size place line end_line later h e = e
tokens_end (Some k) size place line end_line later h e = in_front (record { kind = k; start = place; end = place + size; line = line; end_line = end_line }) later (kind_not_end k h) e

spelled : (text : List ℕ) (ps : List Piece) (place line : ℕ) (tokens : List Token) → Spells text ps place line tokens → EndsOnce tokens
spelled text [] place line tokens s = subst EndsOnce (sym s.1) refl
spelled text (p ∷ ps) place line tokens s =
    let rest : EndsOnce s.2.0 = spelled (drop p.size text) ps (place + p.size) (line_behind p text line) s.2.0 s.2.2 in
    subst EndsOnce (sym s.2.1) (tokens_end p.kind p.size place line (line_behind p text line) s.2.0 (gives_is (piece_of text) p s.1 (piece_gives text)) rest)

-- The last of them, and no other.
last_is : (ts : List Token) → EndsOnce ts → class_at ts (pred (length ts)) ≡ Eof
unfolding tok_at
last_is [] e = elim e [ ]
last_is (t ∷ []) e = e
last_is (t ∷ u ∷ us) e = last_is (u ∷ us) e.1

only_last : (ts : List Token) → EndsOnce ts → (i : ℕ) → i < length ts → class_at ts i ≡ Eof → length ts ≡ suc i
unfolding tok_at
only_last [] e i lt s = elim e [ ]
only_last (t ∷ []) e zero lt s = refl
only_last (t ∷ []) e (suc i) lt s = absurd (omega (arith, lt))
only_last (t ∷ u ∷ us) e zero lt s = absurd (e.0 s)
only_last (t ∷ u ∷ us) e (suc i) lt s = ap suc (only_last (u ∷ us) e.1 i (omega (arith, lt)) s)

some_length : (ts : List Token) → EndsOnce ts → 0 < length ts
some_length [] e = elim e [ ]
some_length (t ∷ us) e = omega arith

pub lexed_ended : (text : List ℕ) (tokens : List Token) → Lexes text tokens → HasOneEnd tokens
unfolding HasOneEnd
lexed_ended text tokens l =
    let e = spelled text l.0 0 1 tokens l.1 in (some_length tokens e, last_is tokens e, only_last tokens e)

-- What stands at the front of a text that is made of tokens.
use Rattle.std.proofs.Common.{◌≡◌, ℕ, ◌+◌, ◌-◌, ◌<◌, ◌≤◌, true, false, List, [], ◌∷◌, ◌++◌, length, take, drop, get_or, refl, sym, ap, subst, ◌∙◌, arith, le_refl}
use Rattle.std.specs.Prelude.{Option, Some, None, Result, Ok, Err, ◌==◌, ◌&&◌}
use Rattle.std.specs.List.{prefix_len}
use Rattle.std.proofs.lemmas.Bool.{and_parts, cond_both, cond-false}
use Rattle.lua_lexer.specs.declared.token.TokenKind.{TokenKind}
use Rattle.lua_lexer.specs.declared.token.TokenKind.TheVariants.{Text}
use Rattle.lua_lexer.specs.declared.token.Token.{Token}
use Rattle.lua_lexer.specs.declared.token.Piece.{Piece}
use Rattle.lua_lexer.specs.WkBaseSpace.{is_white}
use Rattle.lua_lexer.specs.Lexis.{at, is_letter, is_numeral, is_quote, equals_behind, opens_long, before_closing, Body, Closed, Open, string_body, mark_size, no_token, token_piece, long_piece, long_string, comment_of, string_of, mark_of, piece_of, tokens_of, line_behind, Spells}
use Rattle.lua_lexer.proofs.PieceLemmas.{at_space}
use Rattle.lua_reading.specs.LuaGrammarDeclaredTokenClass.{TokenClass}
use Rattle.lua_reading.specs.LuaGrammarTokens.{kind_class, class_of}
use Rattle.lua_print.specs.declared.items.Front.TheVariants.{Space, Shown}
use Rattle.lua_print.specs.Answers.{IsKind, IsNext, IsFront}
use Rattle.lua_token_laws.proofs.SizeLemmas.{inside, found_fits}

-- ---- the next token

-- Where the first of the tokens begins.
abbrev first_start : List Token → ℕ
first_start [] = 0
first_start (t ∷ ts) = t.start

start_behind : (kind : Option TokenKind) (size place line end_line : ℕ) (later : List Token) → place + size ≤ first_start later → place ≤ first_start (tokens_of (record { kind = kind; size = size }) place line end_line ++ later)
start_behind None size place line end_line later h = omega (arith, h)
start_behind (Some kind) size place line end_line later h = le_refl place

-- The tokens of a text begin behind its place.
starts : (text : List ℕ) (ps : List Piece) (place line : ℕ) (tokens : List Token) → Spells text ps place line tokens → place ≤ first_start tokens
starts text [] place line tokens s = subst (λ (ts : List Token). place ≤ first_start ts) (sym s.1) (le_refl place)
starts text (p ∷ ps) place line tokens s =
    let later : place + p.size ≤ first_start s.2.0 = starts (drop p.size text) ps (place + p.size) (line_behind p text line) s.2.0 s.2.2 in
    subst (λ (ts : List Token). place ≤ first_start ts) (sym s.2.1) (start_behind p.kind p.size place line (line_behind p text line) s.2.0 later)

kind_is : (text : List ℕ) (kind : Option TokenKind) (size place line end_line : ℕ) (token : Token) (others later : List Token) → 0 < size → place + size ≤ first_start later → token ∷ others ≡ tokens_of (record { kind = kind; size = size }) place line end_line ++ later → IsKind place token kind size
kind_is text None size place line end_line token others later h le e = let same : token.start ≡ first_start later = ap first_start e in omega (arith, same, le, h)
kind_is text (Some kind) size place line end_line token others later h le e =
    let same : token ≡ record { kind = kind; start = place; end = place + size; line = line; end_line = end_line } = cc in
    (ap (λ (t : Token). t.start) same, ap (λ (t : Token). t.end) same, ap (λ (t : Token). t.kind) same)

next_of : (text : List ℕ) (ps : List Piece) (place line : ℕ) (token : Token) (later : List Token) → 0 < length text → Spells text ps place line (token ∷ later) → IsNext text place token
next_of text [] place line token later h s = let none : length text ≡ 0 = ap length s.0 in absurd (omega (arith, h, none))
next_of text (p ∷ ps) place line token later h s =
    let positive : 0 < p.size = (found_fits text p h s.1).0 in
    let behind : place + p.size ≤ first_start s.2.0 = starts (drop p.size text) ps (place + p.size) (line_behind p text line) s.2.0 s.2.2 in
    (p.kind, (p.size, s.1, kind_is text p.kind p.size place line (line_behind p text line) token later s.2.0 positive behind s.2.1))

pub next_piece : (text : List ℕ) (ps : List Piece) (place line : ℕ) (tokens : List Token) (token : Token) → 0 < length text → token ≡ get_or tokens 0 token → 0 < length tokens → Spells text ps place line tokens → IsNext text place token
next_piece text ps place line [] token h e some s = absurd (omega (arith, some))
next_piece text ps place line (t ∷ ts) token h e some s = subst (IsNext text place) (sym e) (next_of text ps place line t ts h s)

-- ---- a token

-- It ends behind its place.
pub token_ends : (text : List ℕ) (place : ℕ) (token : Token) → IsNext text place token → token.start ≡ place → place ≤ token.end
token_ends text place token (None, (size, found, kind)) e = absurd (omega (arith, kind, e))
token_ends text place token (Some k, (size, found, kind)) e = omega (arith, kind.1)

pub token_front : (text : List ℕ) (place size : ℕ) (token : Token) (class : TokenClass) → IsNext text place token → token.start ≡ place → class ≡ class_of token → size ≡ token.end - place → IsFront (Shown (Some class) size) text
token_front text place size token class (None, (length, found, kind)) e c s = absurd (omega (arith, kind, e))
token_front text place size token class (Some k, (length, found, kind)) e c s =
    let same : length ≡ size = omega (arith, s, kind.1) in
    (k, found ∙ ap (λ (n : ℕ). Ok (token_piece k n)) same, c ∙ ap kind_class kind.2)

-- ---- no token

pub no_token_front : (text : List ℕ) (place : ℕ) (token : Token) → IsNext text place token → (token.start ≡ place → ⊥) → (size : ℕ) × (piece_of text ≡ Ok (no_token size))
no_token_front text place token (None, (size, found, kind)) ne = (size, found)
no_token_front text place token (Some k, (size, found, kind)) ne = absurd (ne kind.0)

-- White space.
pub space_front : (text : List ℕ) (size : ℕ) → is_white (at text 0) ≡ true → size ≡ prefix_len is_white text → IsFront (Space size) text
space_front text size white s = (at_space text white ∙ ap (λ (n : ℕ). Ok (no_token n)) (sym s), white)

-- Without white space, and without a token, a comment stands there.
abbrev IsPlain : List ℕ → Result Piece ℕ → Type 0
IsPlain text (Ok p) = p.kind ≡ None → (comment_of (drop 2 text) ≡ Ok p) × (2 ≤ length text)
IsPlain text (Err fault) = Unit {0}

plain_string : (text : List ℕ) → IsPlain text (string_of text)
plain_string text = go (string_body (at text 0) (drop 1 text))
  where
    go : (b : Body) → IsPlain text (elim b as (λ x. Result Piece ℕ) [ Closed bytes size ↦ Ok (token_piece (Text bytes) (size + 1)) | Open fault ↦ Err fault ])
    go (Closed bytes size) = λ e. absurd cc
    go (Open fault) = tt

plain_long : (text : List ℕ) (level : ℕ) (inner : List ℕ) → IsPlain text (long_piece long_string level inner)
plain_long text level inner = go (before_closing level inner)
  where
    go : (o : Option ℕ) → IsPlain text (elim o as (λ x. Result Piece ℕ) [ None ↦ Err 2 | Some n ↦ Ok (long_string (take n inner) (level + 2 + n + (level + 2))) ])
    go None = tt
    go (Some n) = λ e. absurd cc

plain_comment : (text : List ℕ) (x : Result Piece ℕ) → comment_of (drop 2 text) ≡ x → 2 ≤ length text → IsPlain text x
plain_comment text (Ok p) e h = λ none. (e, h)
plain_comment text (Err fault) e h = tt

plain : (text : List ℕ) → is_white (at text 0) ≡ false → IsPlain text (piece_of text)
unfolding piece_of
plain text w =
    subst (IsPlain text) (sym (cond-false _ _ _ w))
    (cond_both (is_letter (at text 0)) _ _ (IsPlain text) (λ f e. absurd cc)
    (λ f. cond_both (is_numeral text) _ _ (IsPlain text) (λ g e. absurd cc)
    (λ g. cond_both (is_quote (at text 0)) (string_of text) _ (IsPlain text) (λ i. plain_string text)
    (λ i. cond_both (opens_long text) _ _ (IsPlain text) (λ j. plain_long text (equals_behind text) (drop (equals_behind text + 2) text))
    (λ j. cond_both (at text 0 == 45 && at text 1 == 45) (comment_of (drop 2 text)) (mark_of text) (IsPlain text)
    (λ k. let hyphen : (at text 1 == 45) ≡ true = (and_parts _ _ k).1 in let second : 1 < length text = inside text 1 45 (omega arith) hyphen in plain_comment text (comment_of (drop 2 text)) refl (omega (arith, second)))
    (λ k. cond_both (0 == mark_size text) (Err 4) _ (IsPlain text) (λ none. tt) (λ some e. absurd cc)))))))

pub comment_is : (text : List ℕ) (place : ℕ) (token : Token) → IsNext text place token → (token.start ≡ place → ⊥) → is_white (at text 0) ≡ false → (size : ℕ) × (piece_of text ≡ Ok (no_token size)) × (comment_of (drop 2 text) ≡ Ok (no_token size)) × (2 ≤ length text)
comment_is text place token next ne dark =
    let found = no_token_front text place token next ne in
    let both : IsPlain text (Ok (no_token found.0)) = subst (IsPlain text) found.1 (plain text dark) in
    let comment = both refl in
    (found.0, found.1, comment.0, comment.1)

pub comment_inside : (text : List ℕ) (place : ℕ) (token : Token) → IsNext text place token → (token.start ≡ place → ⊥) → is_white (at text 0) ≡ false → 2 ≤ length text
comment_inside text place token next ne dark = (comment_is text place token next ne dark).3

pub comment_front : (text behind : List ℕ) (place size : ℕ) (token : Token) → IsNext text place token → (token.start ≡ place → ⊥) → is_white (at text 0) ≡ false → behind ≡ drop 2 text → comment_of behind ≡ Ok (no_token size) → IsFront (Shown None size) text
comment_front text behind place size token next ne dark er c =
    let found = comment_is text place token next ne dark in
    (found.1 ∙ sym found.2 ∙ ap comment_of (sym er) ∙ c, dark)

pub comment_ended : (text behind : List ℕ) (place : ℕ) (token : Token) → IsNext text place token → (token.start ≡ place → ⊥) → is_white (at text 0) ≡ false → behind ≡ drop 2 text → comment_of behind ≡ Err 2 → ⊥
comment_ended text behind place token next ne dark er c =
    let found = comment_is text place token next ne dark in
    let wrong : ◌≡◌ {A = Result Piece ℕ} (Ok (no_token found.0)) (Err 2) = sym found.2 ∙ ap comment_of (sym er) ∙ c in
    absurd cc

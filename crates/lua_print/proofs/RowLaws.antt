-- The items of a chunk: each may stand in front of the next.
use Rattle.std.proofs.Common.{◌≡◌, ◌≢◌, ℕ, suc, ◌+◌, ◌-◌, ◌<◌, ◌⊎◌, inl, inr, Bool, true, false, List, [], ◌∷◌, ◌++◌, length, take, drop, refl, sym, ap, subst, ◌∙◌, arith, true≢false}
use Rattle.std.specs.Prelude.{Option, Some, None, Ok, if◌then◌else◌, ◌==◌}
use Rattle.std.proofs.lemmas.Bool.{cond_both, eqb-true}
use Rattle.std.proofs.lemmas.List.{get_or-take}
use Rattle.lua_lexer.specs.declared.token.TokenKind.{TokenKind}
use Rattle.lua_lexer.specs.declared.token.Token.{Token}
use Rattle.lua_lexer.specs.declared.token.Piece.{Piece}
use Rattle.lua_lexer.specs.WkBaseSpace.{is_white}
use Rattle.lua_lexer.specs.Lexis.{at, is_break, is_equals, breaks, no_token, token_piece, piece_of, tokens_of, line_behind, Spells, Lexes}
use Rattle.lua_syntax.specs.Tree.{Block}
use Rattle.lua_reading.specs.LuaGrammarDeclaredTokenClass.{TokenClass}
use Rattle.lua_reading.specs.LuaGrammarDeclaredTokenClassTheVariants.{Name as NameClass, Text as TextClass, RightParen, RightBrace, LeftBracket, RightBracket, Dot}
use Rattle.lua_reading.specs.LuaGrammarTokens.{kind_class, class_of, tok_at}
use Rattle.lua_reading.specs.LuaGrammarGrammar.{IsChunk}
use Rattle.lua_token_laws.specs.Neighbours.{Indexed, Fits, AreNeighbours}
use Rattle.lua_token_laws.proofs.Chunks.{neighbours_fit}
use Rattle.lua_token_laws.proofs.SizeLemmas.{found_fits}
use Rattle.lua_token_laws.proofs.FirstBytes.{comment_first, line_end, token_dark, break_white, dark_behind, some_breaks}
use Rattle.lua_print.specs.declared.items.Gap.{Gap}
use Rattle.lua_print.specs.declared.items.Gap.TheVariants.{First, Beside, Below, Apart}
use Rattle.lua_print.specs.Items.{Item, item, gap_of, behind_space, with_piece, items_from, items_of}
use Rattle.lua_print.specs.Layout.{laid, layout_of}
use Rattle.lua_print.proofs.ItemLemmas.{spelled_pieces}
use Rattle.lua_print.proofs.ClassLemmas.{no_equals}
use Rattle.lua_print.proofs.ItemStays.{Sound, IsLine, CanPrecede, CanFollow}
use Rattle.lua_print.proofs.ReadBack.{Joint, Behind, Row, laid_items}

-- ---- neighbours, as lists

-- The first of the tokens may stand behind one of this class; behind a comment any may.
abbrev Seen : Option TokenClass → List Token → Type 0
Seen None tokens = Unit {0}
Seen (Some class) [] = Unit {0}
Seen (Some class) (t ∷ ts) = Fits class (class_of t)

abbrev Fitting : List Token → Type 0
Fitting [] = Unit {0}
Fitting (t ∷ ts) = Seen (Some (class_of t)) ts × Fitting ts

first_fits : (t : Token) (ts : List Token) → AreNeighbours (t ∷ ts) → Seen (Some (class_of t)) ts
unfolding tok_at
first_fits t [] h = tt
first_fits t (u ∷ ts) h = h 0 (omega arith)

fitting : (ts : List Token) → AreNeighbours ts → Fitting ts
unfolding tok_at
fitting [] h = tt
fitting (t ∷ ts) h = (first_fits t ts h, fitting ts (λ m lt. h (suc m) (omega (arith, lt))))

-- ---- what stands behind what

can_precede : (class : TokenClass) → Indexed class → CanPrecede (Some class)
can_precede NameClass h = tt
can_precede TextClass h = tt
can_precede RightParen h = tt
can_precede RightBracket h = tt
can_precede RightBrace h = tt
can_precede _ h = absurd h

can_follow : (class : TokenClass) → class ≡ NameClass → CanFollow (Some class)
can_follow class e = subst (λ (c : TokenClass). CanFollow (Some c)) (sym e) tt

-- Behind a comment to the end of its line the text ends, a line break stands, or one was passed over.
abbrev LineEnds : Gap → List ℕ → Type 0
LineEnds gap text = ((text ≡ []) ⊎ (is_break (at text 0) ≡ true)) ⊎ ((gap ≢ Beside) × (is_white (at text 0) ≡ false))

-- No item stands right behind such a comment.
line_apart : (gap : Gap) (text : List ℕ) → 0 < length text → is_white (at text 0) ≡ false → LineEnds gap text → gap ≢ Beside
line_apart gap text some dark (inl (inl none)) e = let empty : length text ≡ 0 = ap length none in absurd (omega (arith, some, empty))
line_apart gap text some dark (inl (inr breaks)) e = absurd (true≢false (sym (break_white (at text 0) breaks) ∙ dark))
line_apart gap text some dark (inr apart) e = apart.0 e

-- White space behind it has a line break.
gap_some : (n : ℕ) → 0 < n → gap_of n ≢ Beside
gap_some n h =
    cond_both (n == 0) Beside (if n == 1 then Below else Apart) (λ (g : Gap). g ≢ Beside)
    (λ e. let none : n ≡ 0 = eqb-true n 0 e in absurd (omega (arith, none, h)))
    (λ e. cond_both (n == 1) Below Apart (λ (g : Gap). g ≢ Beside) (λ f w. absurd cc) (λ f w. absurd cc))

gap_later : (n : ℕ) → gap_of n ≢ First
gap_later n =
    cond_both (n == 0) Beside (if n == 1 then Below else Apart) (λ (g : Gap). g ≢ First) (λ e w. absurd cc)
    (λ e. cond_both (n == 1) Below Apart (λ (g : Gap). g ≢ First) (λ f w. absurd cc) (λ f w. absurd cc))

behind_is : (gap : Gap) (n : ℕ) → gap ≢ First → behind_space gap n ≡ gap_of n
behind_is First n later = absurd (later refl)
behind_is Beside n later = refl
behind_is Below n later = refl
behind_is Apart n later = refl

line_behind_space : (gap : Gap) (text : List ℕ) (size : ℕ) → gap ≢ First → 0 < length text → 0 < size → is_white (at text 0) ≡ true → is_white (at (drop size text) 0) ≡ false → LineEnds gap text → LineEnds (behind_space gap (breaks (take size text))) (drop size text)
line_behind_space gap text size later some positive white dark (inl (inl none)) = let empty : length text ≡ 0 = ap length none in absurd (omega (arith, some, empty))
line_behind_space gap text size later some positive white dark (inl (inr e)) =
    inr ((λ same. gap_some (breaks (take size text)) (some_breaks text size some positive e) (sym (behind_is gap (breaks (take size text)) later) ∙ same)), dark)
line_behind_space gap text size later some positive white dark (inr apart) = absurd (true≢false (sym white ∙ apart.1))

-- ---- an item and what is in front of it

abbrev pub token_sound : (gap : Gap) (text : List ℕ) (kind : TokenKind) (size : ℕ) → 0 < length text → piece_of text ≡ Ok (token_piece kind size) → Sound (item gap (Some (kind_class kind)) (take size text))
token_sound gap text kind size some found = record { text = text; kind = Some kind; size = size; some = some; found = found; dark = token_dark text kind size found; class_is = refl; bytes_is = refl }

abbrev pub comment_sound : (gap : Gap) (text : List ℕ) (size : ℕ) → 0 < length text → piece_of text ≡ Ok (no_token size) → is_white (at text 0) ≡ false → Sound (item gap None (take size text))
comment_sound gap text size some found dark = record { text = text; kind = None; size = size; some = some; found = found; dark = dark; class_is = refl; bytes_is = refl }

pub first_is : (text : List ℕ) (p : Piece) → 0 < length text → piece_of text ≡ Ok p → at (take p.size text) 0 ≡ at text 0
first_is text p some found = get_or-take p.size text 0 256 (found_fits text p some found).0

token_joint : (i : Item) (s : Sound i) (gap : Gap) (text : List ℕ) (kind : TokenKind) (size : ℕ) (token : Token) (later : List Token) → 0 < length text → piece_of text ≡ Ok (token_piece kind size) → token.kind ≡ kind → gap ≢ First → (IsLine i s → LineEnds gap text) → (class : Option TokenClass) → i.class ≡ class → Seen class (token ∷ later)
    → Joint i (item gap (Some (kind_class kind)) (take size text)) s
token_joint i s gap text kind size token later some found of behind line None e seen = record {
  later = behind;
  line = λ l. line_apart gap text some (token_dark text kind size found) (line l);
  dot_behind = λ d. subst CanPrecede (sym e) tt;
  behind_dot = λ d. let wrong : ◌≡◌ {A = Option TokenClass} None (Some Dot) = sym e ∙ d in absurd cc;
  behind_bracket = λ d. let wrong : ◌≡◌ {A = Option TokenClass} None (Some LeftBracket) = sym e ∙ d in absurd cc;
}
token_joint i s gap text kind size token later some found of behind line (Some class) e seen =
    let fits : Fits class (kind_class kind) = subst (λ (k : TokenKind). Fits class (kind_class k)) of seen in
    record {
      later = behind;
      line = λ l. line_apart gap text some (token_dark text kind size found) (line l);
      dot_behind = λ d. let dot : kind_class kind ≡ Dot = cc in subst CanPrecede (sym e) (can_precede class (fits.dot dot));
      behind_dot = λ d. let dot : class ≡ Dot = in_some class Dot (sym e ∙ d) in can_follow (kind_class kind) (fits.behind_dot dot);
      behind_bracket = λ d. let bracket : class ≡ LeftBracket = in_some class LeftBracket (sym e ∙ d) in
          ap is_equals (first_is text (token_piece kind size) some found) ∙ no_equals text kind size found (fits.behind_bracket bracket);
    }
  where
    in_some : (a b : TokenClass) → ◌≡◌ {A = Option TokenClass} (Some a) (Some b) → a ≡ b
    in_some a b e = cc

comment_joint : (i : Item) (s : Sound i) (gap : Gap) (text : List ℕ) (size : ℕ) → 0 < length text → piece_of text ≡ Ok (no_token size) → is_white (at text 0) ≡ false → gap ≢ First → (IsLine i s → LineEnds gap text) → Joint i (item gap None (take size text)) s
comment_joint i s gap text size some found dark behind line = record {
  later = behind;
  line = λ l. line_apart gap text some dark (line l);
  dot_behind = λ d. absurd cc;
  behind_dot = λ d. tt;
  behind_bracket = λ d. ap is_equals (first_is text (no_token size) some found ∙ comment_first text size found dark);
}

-- ---- the items behind one

beside_later : Beside ≢ First
beside_later e = absurd cc

-- What is shown of the rest, by what is in front of it.
abbrev Rest : List Piece → List ℕ → List Token → Type 0
Rest ps text tokens = (gap : Gap) (i : Item) (s : Sound i) → gap ≢ First → (IsLine i s → LineEnds gap text) → Seen i.class tokens → Fitting tokens → Behind i s (items_from gap text ps)

abbrev one_token : TokenKind → ℕ → ℕ → ℕ → ℕ → Token
one_token kind size place line end_line = record { kind = kind; start = place; end = place + size; line = line; end_line = end_line }

no_line : (kind : TokenKind) → ◌≡◌ {A = Option TokenKind} (Some kind) None → ⊥
no_line kind wrong = absurd cc

-- What no token is: white space, by whether the first byte is some.
pub by_first : (b : Bool) (gap : Gap) (text : List ℕ) (size : ℕ) (ps : List Piece) → 0 < length text → piece_of text ≡ Ok (no_token size) → is_white (at text 0) ≡ b
    → with_piece None gap (take size text) (λ g. items_from g (drop size text) ps)
    ≡ (if b then items_from (behind_space gap (breaks (take size text))) (drop size text) ps else item gap None (take size text) ∷ items_from Beside (drop size text) ps)
by_first b gap text size ps some found e =
    ap (λ (c : Bool). if c then items_from (behind_space gap (breaks (take size text))) (drop size text) ps else item gap None (take size text) ∷ items_from Beside (drop size text) ps)
    (ap is_white (first_is text (no_token size) some found) ∙ e)

module _ (ps : List Piece) (text : List ℕ) (size place line end_line : ℕ) (later : List Token) (some : 0 < length text) (rest : Rest ps (drop size text) later) where
  -- a token, and what is behind it
  token_row : (kind : TokenKind) (gap : Gap) (found : piece_of text ≡ Ok (token_piece kind size)) → Fitting (one_token kind size place line end_line ∷ later)
      → Behind (item gap (Some (kind_class kind)) (take size text)) (token_sound gap text kind size some found) (items_from Beside (drop size text) ps)
  token_row kind gap found fits =
      rest Beside (item gap (Some (kind_class kind)) (take size text)) (token_sound gap text kind size some found) beside_later (λ l. absurd (no_line kind l.0)) fits.0 fits.1

  -- a comment, and what is behind it
  comment_row : (gap : Gap) (found : piece_of text ≡ Ok (no_token size)) (dark : is_white (at text 0) ≡ false) → Fitting later
      → Behind (item gap None (take size text)) (comment_sound gap text size some found dark) (items_from Beside (drop size text) ps)
  comment_row gap found dark fits =
      rest Beside (item gap None (take size text)) (comment_sound gap text size some found dark) beside_later (λ l. inl (line_end text size found dark l.1)) tt fits

  module _ (gap : Gap) (i : Item) (s : Sound i) (behind : gap ≢ First) (ends : IsLine i s → LineEnds gap text) where
    -- white space or a comment behind an item
    after_none : (b : Bool) → is_white (at text 0) ≡ b → piece_of text ≡ Ok (no_token size) → Seen i.class later → Fitting later
        → Behind i s (if b then items_from (behind_space gap (breaks (take size text))) (drop size text) ps else item gap None (take size text) ∷ items_from Beside (drop size text) ps)
    after_none true white found seen fits =
        rest (behind_space gap (breaks (take size text))) i s
        (λ wrong. gap_later (breaks (take size text)) (sym (behind_is gap (breaks (take size text)) behind) ∙ wrong))
        (λ l. line_behind_space gap text size behind some (found_fits text (no_token size) some found).0 white (dark_behind text size found white) (ends l))
        seen fits
    after_none false dark found seen fits =
        (comment_sound gap text size some found dark, comment_joint i s gap text size some found dark behind ends, comment_row gap found dark fits)

    -- any piece behind an item
    after_piece : (kind : Option TokenKind) (tokens : List Token) → piece_of text ≡ Ok (record { kind = kind; size = size }) → tokens ≡ tokens_of (record { kind = kind; size = size }) place line end_line ++ later → Seen i.class tokens → Fitting tokens
        → Behind i s (with_piece kind gap (take size text) (λ g. items_from g (drop size text) ps))
    after_piece (Some kind) tokens found e seen fits =
        let all : tokens ≡ one_token kind size place line end_line ∷ later = e in (
          token_sound gap text kind size some found,
          token_joint i s gap text kind size (one_token kind size place line end_line) later some found refl behind ends i.class refl (subst (Seen i.class) all seen),
          token_row kind gap found (subst Fitting all fits),
        )
    after_piece None tokens found e seen fits =
        let all : tokens ≡ later = e in
        subst (Behind i s) (sym (by_first (is_white (at text 0)) gap text size ps some found refl))
        (after_none (is_white (at text 0)) refl found (subst (Seen i.class) all seen) (subst Fitting all fits))

-- All items behind one.
after : (ps : List Piece) (text : List ℕ) (place line : ℕ) (tokens : List Token) → Spells text ps place line tokens → Rest ps text tokens
unfolding items_from
after [] text place line tokens spelled gap i s behind ends seen fits = tt
after (p ∷ ps) text place line tokens (some, found, (later, all, spelled)) gap i s behind ends seen fits =
    after_piece ps text p.size place line (line_behind p text line) later some (after ps (drop p.size text) (place + p.size) (line_behind p text line) later spelled)
    gap i s behind ends p.kind tokens found all seen fits

-- ---- the items of a text

module _ (ps : List Piece) (text : List ℕ) (size place line end_line : ℕ) (later : List Token) (some : 0 < length text) (rest : Rest ps (drop size text) later) where
  first_none : (b : Bool) → is_white (at text 0) ≡ b → piece_of text ≡ Ok (no_token size) → Fitting later → Row (items_from First (drop size text) ps)
      → Row (if b then items_from First (drop size text) ps else item First None (take size text) ∷ items_from Beside (drop size text) ps)
  first_none true white found fits row = row
  first_none false dark found fits row = (comment_sound First text size some found dark, refl, comment_row ps text size place line end_line later some rest First found dark fits)

  first_piece : (kind : Option TokenKind) (tokens : List Token) → piece_of text ≡ Ok (record { kind = kind; size = size }) → tokens ≡ tokens_of (record { kind = kind; size = size }) place line end_line ++ later → Fitting tokens → (Fitting later → Row (items_from First (drop size text) ps))
      → Row (with_piece kind First (take size text) (λ g. items_from g (drop size text) ps))
  first_piece (Some kind) tokens found e fits row =
      let all : tokens ≡ one_token kind size place line end_line ∷ later = e in
      (token_sound First text kind size some found, refl, token_row ps text size place line end_line later some rest kind First found (subst Fitting all fits))
  first_piece None tokens found e fits row =
      let all : tokens ≡ later = e in
      let left : Fitting later = subst Fitting all fits in
      subst Row (sym (by_first (is_white (at text 0)) First text size ps some found refl)) (first_none (is_white (at text 0)) refl found left (row left))

row_of : (ps : List Piece) (text : List ℕ) (place line : ℕ) (tokens : List Token) → Spells text ps place line tokens → Fitting tokens → Row (items_from First text ps)
unfolding items_from
row_of [] text place line tokens spelled fits = tt
row_of (p ∷ ps) text place line tokens (some, found, (later, all, spelled)) fits =
    first_piece ps text p.size place line (line_behind p text line) later some (after ps (drop p.size text) (place + p.size) (line_behind p text line) later spelled)
    p.kind tokens found all fits (λ left. row_of ps (drop p.size text) (place + p.size) (line_behind p text line) later spelled left)

-- ---- a chunk

pub chunk_row : (text : List ℕ) (tokens : List Token) (b : Block) → Lexes text tokens → IsChunk tokens b → Row (items_of text)
unfolding items_of
chunk_row text tokens b lexed chunk =
    subst (λ (ps : List Piece). Row (items_from First text ps)) (sym (spelled_pieces text lexed.0 0 1 tokens (length text) (omega arith) lexed.1))
    (row_of lexed.0 text 0 1 tokens lexed.1 (fitting tokens (neighbours_fit tokens b chunk)))

-- The items of a chunk are those of its layout.
pub items_kept : (text : List ℕ) (tokens : List Token) (b : Block) → Lexes text tokens → IsChunk tokens b → items_of (layout_of text) ≡ items_of text
unfolding layout_of
items_kept text tokens b lexed chunk = laid_items (items_of text) (chunk_row text tokens b lexed chunk)

-- And the layout of its layout is that layout.
pub laid_again : (text : List ℕ) → items_of (layout_of text) ≡ items_of text → layout_of (layout_of text) ≡ layout_of text
unfolding layout_of
laid_again text e = ap laid e

-- The items of a text, read from its front.
use Rattle.std.proofs.Common.{◌≡◌, ℕ, zero, suc, ◌+◌, ◌-◌, ◌<◌, ◌≤◌, true, false, List, [], ◌∷◌, ◌++◌, length, take, drop, refl, sym, ap, subst, ◌∙◌, arith, length-append, length-drop}
use Rattle.std.specs.Prelude.{Option, Some, None, Result, Ok}
use Rattle.std.specs.List.{prefix_len}
use Rattle.std.proofs.lemmas.Bool.{cond-true, cond-false, eq-eqb}
use Rattle.std.proofs.lemmas.List.{take_at, drop_at, get_or_append_left}
use Rattle.std.proofs.lemmas.List.Folds.{prefix_len-append}
use Rattle.lua_lexer.specs.declared.token.TokenKind.{TokenKind}
use Rattle.lua_lexer.specs.declared.token.Piece.{Piece}
use Rattle.lua_lexer.specs.WkBaseSpace.{is_white}
use Rattle.lua_lexer.specs.Lexis.{at, breaks_after, breaks, no_token, piece_of}
use Rattle.lua_lexer.proofs.PieceLemmas.{at_space}
use Rattle.lua_reading.specs.LuaGrammarDeclaredTokenClass.{TokenClass}
use Rattle.lua_reading.specs.LuaGrammarTokens.{kind_class}
use Rattle.lua_print.specs.declared.items.Gap.{Gap}
use Rattle.lua_print.specs.declared.items.Gap.TheVariants.{First, Beside, Below, Apart}
use Rattle.lua_print.specs.Items.{Item, item, behind_space, each_piece, pieces_by, items_from, items_of}
use Rattle.lua_print.specs.Layout.{indent}
use Rattle.lua_token_laws.proofs.SizeLemmas.{found_fits}
use Rattle.lua_token_laws.proofs.PieceStays.{none_run}

-- The text is these pieces in turn.
abbrev pub ArePieces : List ℕ → List Piece → Type 0
ArePieces text [] = text ≡ []
ArePieces text (p ∷ ps) = (0 < length text) × (piece_of text ≡ Ok p) × ArePieces (drop p.size text) ps

-- Its items, behind this white space, are these.
abbrev pub Reads : Gap → List ℕ → List Item → Type 0
Reads gap text items = (ps : List Piece) × ArePieces text ps × (items_from gap text ps ≡ items)

abbrev pub class_of_kind : Option TokenKind → Option TokenClass
class_of_kind None = None
class_of_kind (Some kind) = Some (kind_class kind)

-- ---- an item in front

item_first : (gap : Gap) (kind : Option TokenKind) (size : ℕ) (bytes rest : List ℕ) (ps : List Piece) → take size (bytes ++ rest) ≡ bytes → drop size (bytes ++ rest) ≡ rest → is_white (at bytes 0) ≡ false → items_from gap (bytes ++ rest) (record { kind = kind; size = size } ∷ ps) ≡ item gap (class_of_kind kind) bytes ∷ items_from Beside rest ps
unfolding items_from
item_first gap (Some kind) size bytes rest ps e f dark = ap (λ (b : List ℕ). item gap (Some (kind_class kind)) b ∷ items_from Beside (drop size (bytes ++ rest)) ps) e ∙ ap (λ (t : List ℕ). item gap (Some (kind_class kind)) bytes ∷ items_from Beside t ps) f
item_first gap None size bytes rest ps e f dark =
    cond-false _ _ _ (ap (λ (b : List ℕ). is_white (at b 0)) e ∙ dark) ∙ ap (λ (b : List ℕ). item gap None b ∷ items_from Beside (drop size (bytes ++ rest)) ps) e ∙ ap (λ (t : List ℕ). item gap None bytes ∷ items_from Beside t ps) f

pub read_item : (gap : Gap) (kind : Option TokenKind) (bytes rest : List ℕ) (items : List Item) → 0 < length bytes → is_white (at bytes 0) ≡ false → piece_of (bytes ++ rest) ≡ Ok (record { kind = kind; size = length bytes }) → Reads Beside rest items → Reads gap (bytes ++ rest) (item gap (class_of_kind kind) bytes ∷ items)
read_item gap kind bytes rest items some dark found r =
    let all : length (bytes ++ rest) ≡ length bytes + length rest = length-append bytes rest in
    let behind : drop (length bytes) (bytes ++ rest) ≡ rest = drop_at bytes rest (length bytes) refl in (
      record { kind = kind; size = length bytes } ∷ r.0,
      (omega (arith, all, some), found, subst (λ (t : List ℕ). ArePieces t r.0) (sym behind) r.1),
      item_first gap kind (length bytes) bytes rest r.0 (take_at bytes rest (length bytes) refl) behind dark ∙ ap (λ (is : List Item). item gap (class_of_kind kind) bytes ∷ is) r.2,
    )

-- ---- white space in front

white_run : (w rest : List ℕ) → prefix_len is_white w ≡ length w → is_white (at rest 0) ≡ false → prefix_len is_white (w ++ rest) ≡ length w
white_run w rest all dark =
    let none : prefix_len is_white rest ≡ 0 = none_run is_white rest dark in
    let sum : length w + prefix_len is_white rest ≡ length w = omega (arith, none) in
    prefix_len-append is_white w rest ∙ cond-true _ _ _ (eq-eqb (prefix_len is_white w) (length w) all) ∙ sum

pub read_white : (gap : Gap) (w rest : List ℕ) (items : List Item) → 0 < length w → is_white (at w 0) ≡ true → prefix_len is_white w ≡ length w → is_white (at rest 0) ≡ false → Reads (behind_space gap (breaks w)) rest items → Reads gap (w ++ rest) items
unfolding items_from
read_white gap w rest items some white all dark r =
    let whole : length (w ++ rest) ≡ length w + length rest = length-append w rest in
    let first : at (w ++ rest) 0 ≡ at w 0 = get_or_append_left w rest 256 0 some in
    let size : prefix_len is_white (w ++ rest) ≡ length w = white_run w rest all dark in
    let found : piece_of (w ++ rest) ≡ Ok (no_token (length w)) = at_space (w ++ rest) (ap is_white first ∙ white) ∙ ap (λ (n : ℕ). Ok (no_token n)) size in
    let behind : drop (length w) (w ++ rest) ≡ rest = drop_at w rest (length w) refl in
    let front : take (length w) (w ++ rest) ≡ w = take_at w rest (length w) refl in (
      no_token (length w) ∷ r.0,
      (omega (arith, whole, some), found, subst (λ (t : List ℕ). ArePieces t r.0) (sym behind) r.1),
      cond-true _ _ _ (ap (λ (b : List ℕ). is_white (at b 0)) front ∙ white)
          ∙ ap (λ (b : List ℕ). items_from (behind_space gap (breaks b)) (drop (length w) (w ++ rest)) r.0) front
          ∙ ap (λ (t : List ℕ). items_from (behind_space gap (breaks w)) t r.0) behind ∙ r.2,
    )

-- The white space that a layout puts.
indent_white : (n : ℕ) → prefix_len is_white (indent n) ≡ length (indent n)
indent_white zero = refl
indent_white (suc n) = let rest : prefix_len is_white (indent n) ≡ length (indent n) = indent_white n in omega (arith, rest)

indent_breaks : (n : ℕ) → breaks_after 0 (indent n) ≡ 0
indent_breaks zero = refl
indent_breaks (suc n) = indent_breaks n

space_breaks : breaks (32 ∷ []) ≡ 0
unfolding breaks
space_breaks = refl

white_line : (n : ℕ) → prefix_len is_white (10 ∷ indent n) ≡ length (10 ∷ indent n)
white_line n = let rest : prefix_len is_white (indent n) ≡ length (indent n) = indent_white n in omega (arith, rest)

white_lines : (n : ℕ) → prefix_len is_white (10 ∷ 10 ∷ indent n) ≡ length (10 ∷ 10 ∷ indent n)
white_lines n = let rest : prefix_len is_white (indent n) ≡ length (indent n) = indent_white n in omega (arith, rest)

one_break : (n : ℕ) → breaks (10 ∷ indent n) ≡ 1
unfolding breaks
one_break zero = refl
one_break (suc n) = ap suc (indent_breaks (suc n))

two_breaks : (n : ℕ) → breaks (10 ∷ 10 ∷ indent n) ≡ 2
unfolding breaks
two_breaks zero = refl
two_breaks (suc n) = ap (λ (k : ℕ). suc (suc k)) (indent_breaks (suc n))

pub read_space : (rest : List ℕ) (items : List Item) → is_white (at rest 0) ≡ false → Reads Beside rest items → Reads Beside (32 ∷ rest) items
read_space rest items dark r = read_white Beside (32 ∷ []) rest items (omega arith) refl refl dark (subst (λ (n : ℕ). Reads (behind_space Beside n) rest items) (sym space_breaks) r)

pub read_line : (n : ℕ) (rest : List ℕ) (items : List Item) → is_white (at rest 0) ≡ false → Reads Below rest items → Reads Beside ((10 ∷ indent n) ++ rest) items
read_line n rest items dark r =
    let white : prefix_len is_white (10 ∷ indent n) ≡ length (10 ∷ indent n) = white_line n in
    read_white Beside (10 ∷ indent n) rest items (omega arith) refl white dark (subst (λ (k : ℕ). Reads (behind_space Beside k) rest items) (sym (one_break n)) r)

pub read_lines : (n : ℕ) (rest : List ℕ) (items : List Item) → is_white (at rest 0) ≡ false → Reads Apart rest items → Reads Beside ((10 ∷ 10 ∷ indent n) ++ rest) items
read_lines n rest items dark r =
    let white : prefix_len is_white (10 ∷ 10 ∷ indent n) ≡ length (10 ∷ 10 ∷ indent n) = white_lines n in
    read_white Beside (10 ∷ 10 ∷ indent n) rest items (omega arith) refl white dark (subst (λ (k : ℕ). Reads (behind_space Beside k) rest items) (sym (two_breaks n)) r)

-- ---- the end

pub read_end : Reads Beside (10 ∷ []) []
unfolding items_from piece_of breaks
read_end = (no_token 1 ∷ [], (omega arith, refl, refl), refl)

-- ---- the items of the whole text

none_by : (n : ℕ) → pieces_by n [] ≡ []
unfolding pieces_by piece_of
none_by zero = refl
none_by (suc n) = refl

pieces_are : (text : List ℕ) (ps : List Piece) (n : ℕ) → length text ≤ n → ArePieces text ps → pieces_by n text ≡ ps
unfolding pieces_by
pieces_are text [] n h s = ap (pieces_by n) s ∙ none_by n
pieces_are text (p ∷ ps) zero h s = absurd (omega (arith, h, s.0))
pieces_are text (p ∷ ps) (suc n) h s =
    let fits = found_fits text p s.0 s.1 in
    let left : length (drop p.size text) ≡ length text - p.size = length-drop p.size text in
    let less : length (drop p.size text) ≤ n = omega (arith, left, fits.0, fits.1, h) in
    ap (λ (x : Result Piece ℕ). each_piece x (λ q. q ∷ pieces_by n (drop q.size text))) s.1 ∙ ap (λ (qs : List Piece). p ∷ qs) (pieces_are (drop p.size text) ps n less s.2)

pub read_all : (text : List ℕ) (items : List Item) → Reads First text items → items_of text ≡ items
unfolding items_of
read_all text items r = ap (items_from First text) (pieces_are text r.0 (length text) (omega arith) r.1) ∙ r.2

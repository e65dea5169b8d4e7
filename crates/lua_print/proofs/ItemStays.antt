-- Items that are laid out are read back: those of a row in which each stands well in front of the next.
use Rattle.std.proofs.Common.{◌≡◌, ℕ, ◌+◌, ◌<◌, ◌⊎◌, inl, inr, Bool, true, false, List, [], ◌∷◌, ◌++◌, length, take, drop, refl, sym, ap, subst, ◌∙◌, arith}
use Rattle.std.specs.Prelude.{Option, Some, None, Result, Ok, Err, not, ◌==◌, ◌&&◌, ◌||◌}
use Rattle.std.specs.List.{prefix_len}
use Rattle.std.proofs.lemmas.Bool.{cond_both, and_parts, or_cases, true_from_ne_false}
use Rattle.std.proofs.lemmas.List.{length-take-le, get_or-take, get_or_append_left}
use Rattle.lua_lexer.specs.declared.token.TokenKind.{TokenKind}
use Rattle.lua_lexer.specs.declared.token.TokenKind.TheVariants.{Name, Mark, Text}
use Rattle.lua_lexer.specs.declared.token.Piece.{Piece}
use Rattle.lua_lexer.specs.WkBaseSpace.{is_white}
use Rattle.lua_lexer.specs.Lexis.{at, is_break, is_letter, is_digit, is_name_byte, is_equals, equals_behind, opens_long, before_closing, no_token, token_piece, long_comment, piece_of}
use Rattle.lua_reading.specs.LuaGrammarDeclaredTokenClass.{TokenClass}
use Rattle.lua_reading.specs.LuaGrammarDeclaredTokenClassTheVariants.{Name as NameClass, Text as TextClass, Hash, LeftParen, RightParen, LeftBrace, RightBrace, LeftBracket, RightBracket, Semicolon, Colon, Comma, Dot}
use Rattle.lua_reading.specs.LuaGrammarTokens.{kind_class}
use Rattle.lua_print.specs.Items.{Item}
use Rattle.lua_print.specs.Layout.{is_tight, hugs_left, hugs_right, can_be_called, calls_or_indexes, is_left_bracket, is_left_brace, is_right_brace}
use Rattle.lua_token_laws.proofs.SizeLemmas.{found_fits}
use Rattle.lua_token_laws.specs.Pieces.{Ends, Stays}
use Rattle.lua_token_laws.proofs.PieceStays.{paren_ends, comma_ends, colon_ends, semicolon_ends, bracket_ends, none_run, piece_stays}
use Rattle.lua_token_laws.proofs.LooseStays.{name_stays, text_stays, comment_stays, hash_stays, left_paren_stays, right_paren_stays, colon_stays, right_bracket_stays, left_brace_stays, right_brace_stays, dot_stays}
use Rattle.lua_token_laws.proofs.StayLemmas.{at_hyphens, marked}
use Rattle.lua_token_laws.proofs.FirstBytes.{comment_first, name_first, letter_plain}
use Rattle.lua_print.proofs.ClassLemmas.{shape, kind_shaped, shaped_bytes, kind_named, kind_text}
use Rattle.lua_print.proofs.Readings.{class_of_kind}

-- An item that is a piece at the front of some text.
pub record Sound (i : Item) : Type 0 where
  pub text : List ℕ
  pub kind : Option TokenKind
  pub size : ℕ
  pub some : 0 < length text
  pub found : piece_of text ≡ Ok (record { kind = kind; size = size })
  pub dark : is_white (at text 0) ≡ false
  pub class_is : i.class ≡ class_of_kind kind
  pub bytes_is : i.bytes ≡ take size text

-- A comment to the end of its line.
abbrev pub IsLine : (i : Item) → Sound i → Type 0
IsLine i s = (s.kind ≡ None) × (opens_long (drop 2 s.text) ≡ false)

-- What an item can stand in front of: with what bytes behind it, it is still the same piece.
abbrev pub Before : (i : Item) → Sound i → List ℕ → Type 0
Before i s rest = piece_of (i.bytes ++ rest) ≡ Ok (record { kind = s.kind; size = s.size })

-- ---- an item's bytes

pub bytes_some : (i : Item) (s : Sound i) → 0 < length i.bytes
bytes_some i s =
    let fits = found_fits s.text (record { kind = s.kind; size = s.size }) s.some s.found in
    let all : length i.bytes ≡ s.size = ap length s.bytes_is ∙ length-take-le s.size s.text fits.1 in
    omega (arith, all, fits.0)

pub bytes_size : (i : Item) (s : Sound i) → length i.bytes ≡ s.size
bytes_size i s = ap length s.bytes_is ∙ length-take-le s.size s.text (found_fits s.text (record { kind = s.kind; size = s.size }) s.some s.found).1

pub first_byte : (i : Item) (s : Sound i) → at i.bytes 0 ≡ at s.text 0
first_byte i s = ap (λ (b : List ℕ). at b 0) s.bytes_is ∙ get_or-take s.size s.text 0 256 (found_fits s.text (record { kind = s.kind; size = s.size }) s.some s.found).0

pub bytes_dark : (i : Item) (s : Sound i) → is_white (at i.bytes 0) ≡ false
bytes_dark i s = ap is_white (first_byte i s) ∙ s.dark

before_is : (i : Item) (s : Sound i) (rest : List ℕ) → piece_of (take s.size s.text ++ rest) ≡ Ok (record { kind = s.kind; size = s.size }) → Before i s rest
before_is i s rest h = ap (λ (b : List ℕ). piece_of (b ++ rest)) s.bytes_is ∙ h

-- ---- what a class says of a piece

-- Behind -- stands a comment.
abbrev NoToken : Result Piece ℕ → Type 0
NoToken (Ok p) = p.kind ≡ None
NoToken (Err fault) = Unit {0}

comment_none : (t : List ℕ) → (at t 0 == 45 && at t 1 == 45) ≡ true → NoToken (piece_of t)
comment_none t e = subst NoToken (sym (at_hyphens t e)) (cond_both (opens_long (drop 2 t)) _ _ NoToken (λ long. go (before_closing (equals_behind (drop 2 t)) (drop (equals_behind (drop 2 t) + 2) (drop 2 t)))) (λ line. refl))
  where
    go : (o : Option ℕ) → NoToken (elim o as (λ x. Result Piece ℕ) [ None ↦ Err 2 | Some n ↦ Ok (long_comment (take n (drop (equals_behind (drop 2 t) + 2) (drop 2 t))) (equals_behind (drop 2 t) + 2 + n + (equals_behind (drop 2 t) + 2))) ])
    go None = tt
    go (Some n) = refl

comment_kind : (t : List ℕ) (kind : Option TokenKind) (size : ℕ) → piece_of t ≡ Ok (record { kind = kind; size = size }) → (at t 0 == 45 && at t 1 == 45) ≡ true → kind ≡ None
comment_kind t kind size e h = subst NoToken e (comment_none t h)

kind_of : (kind : Option TokenKind) (class : TokenClass) → class_of_kind kind ≡ Some class → (k : TokenKind) × (kind ≡ Some k) × (kind_class k ≡ class)
kind_of None class e = absurd cc
kind_of (Some k) class e = (k, refl, cc)

no_kind : (kind : Option TokenKind) → class_of_kind kind ≡ None → kind ≡ None
no_kind None e = refl
no_kind (Some k) e = absurd cc

-- A mark of one byte, by its class: its kind, its bytes and its size.
mark_of_class : (i : Item) (s : Sound i) (class : TokenClass) (b : ℕ) → i.class ≡ Some class → shape class ≡ Some b → (s.kind ≡ Some (Mark (b ∷ []))) × (i.bytes ≡ b ∷ []) × (s.size ≡ 1)
mark_of_class i s class b e f =
    let k = kind_of s.kind class (sym s.class_is ∙ e) in
    let shape_is : shape (kind_class k.0) ≡ Some b = ap shape k.2 ∙ f in
    let found : piece_of s.text ≡ Ok (token_piece k.0 s.size) = s.found ∙ ap (λ (x : Option TokenKind). Ok (record { kind = x; size = s.size })) k.1 in
    let bytes : i.bytes ≡ b ∷ [] = s.bytes_is ∙ shaped_bytes s.text k.0 s.size b found shape_is in
    (k.1 ∙ ap Some (kind_shaped k.0 b shape_is), bytes, sym (bytes_size i s) ∙ ap length bytes)

-- It stands before whatever its byte stands before.
one_stands : (i : Item) (s : Sound i) (class : TokenClass) (b : ℕ) (rest : List ℕ) → i.class ≡ Some class → shape class ≡ Some b → piece_of (b ∷ rest) ≡ Ok (token_piece (Mark (b ∷ [])) 1) → Before i s rest
one_stands i s class b rest e f h =
    let m = mark_of_class i s class b e f in
    ap (λ (x : List ℕ). piece_of (x ++ rest)) m.1 ∙ h ∙ ap (λ (k : Option TokenKind). Ok (record { kind = k; size = 1 })) (sym m.0) ∙ ap (λ (n : ℕ). Ok (record { kind = s.kind; size = n })) (sym m.2)

-- ---- in front of a byte that goes on with nothing

pub stands_end : (i : Item) (s : Sound i) (rest : List ℕ) → Ends (at rest 0) → (IsLine i s → is_break (at rest 0) ≡ true) → Before i s rest
stands_end i s rest ends line =
    before_is i s rest (subst (Stays s.text rest) s.found (piece_stays s.text rest s.some s.dark ends (λ hyphens opens. line (comment_kind s.text s.kind s.size s.found hyphens, opens))))

-- ---- in front of the next item, without a space

-- What may stand before a point, and behind one.
abbrev pub CanPrecede : Option TokenClass → Type 0
CanPrecede None = Unit {0}
CanPrecede (Some NameClass) = Unit {0}
CanPrecede (Some TextClass) = Unit {0}
CanPrecede (Some RightParen) = Unit {0}
CanPrecede (Some RightBracket) = Unit {0}
CanPrecede (Some RightBrace) = Unit {0}
CanPrecede _ = ⊥

abbrev pub CanFollow : Option TokenClass → Type 0
CanFollow None = Unit {0}
CanFollow (Some NameClass) = Unit {0}
CanFollow _ = ⊥

-- How an item may stand behind another on one line: a comment to the end of a line is the last of its line, and the rest is by the grammar.
pub record Well (i j : Item) (s : Sound i) : Type 0 where
  pub line : IsLine i s → ⊥
  pub dot_behind : j.class ≡ Some Dot → CanPrecede i.class
  pub behind_dot : i.class ≡ Some Dot → CanFollow j.class
  pub behind_bracket : i.class ≡ Some LeftBracket → is_equals (at j.bytes 0) ≡ false

-- A name, a string, a long comment and a closing mark stand before a point; a name before ( and [ too.
loose_stands : (i : Item) (s : Sound i) (rest : List ℕ) (class : Option TokenClass) → i.class ≡ class → CanPrecede class → (IsLine i s → ⊥) → is_name_byte (at rest 0) ≡ false → Before i s rest
loose_stands i s rest None e can line ends =
    let kind : s.kind ≡ None = no_kind s.kind (sym s.class_is ∙ e) in
    let long : opens_long (drop 2 s.text) ≡ true = true_from_ne_false _ (λ no. line (kind, no)) in
    let found : piece_of s.text ≡ Ok (no_token s.size) = s.found ∙ ap (λ (x : Option TokenKind). Ok (record { kind = x; size = s.size })) kind in
    before_is i s rest (comment_stays s.text rest s.size s.some s.dark found long ∙ ap (λ (x : Option TokenKind). Ok (record { kind = x; size = s.size })) (sym kind))
loose_stands i s rest (Some RightParen) e can line ends = one_stands i s RightParen 41 rest e refl (right_paren_stays rest)
loose_stands i s rest (Some RightBracket) e can line ends = one_stands i s RightBracket 93 rest e refl (right_bracket_stays rest)
loose_stands i s rest (Some RightBrace) e can line ends = one_stands i s RightBrace 125 rest e refl (right_brace_stays rest)
loose_stands i s rest (Some NameClass) e can line ends =
    let k = kind_of s.kind NameClass (sym s.class_is ∙ e) in
    let n = kind_named k.0 k.2 in
    let kind : s.kind ≡ Some (Name n.0) = k.1 ∙ ap Some n.1 in
    let found : piece_of s.text ≡ Ok (token_piece (Name n.0) s.size) = s.found ∙ ap (λ (x : Option TokenKind). Ok (record { kind = x; size = s.size })) kind in
    before_is i s rest (name_stays s.text rest n.0 s.size s.some s.dark found ends ∙ ap (λ (x : Option TokenKind). Ok (record { kind = x; size = s.size })) (sym kind))
loose_stands i s rest (Some TextClass) e can line ends =
    let k = kind_of s.kind TextClass (sym s.class_is ∙ e) in
    let t = kind_text k.0 k.2 in
    let kind : s.kind ≡ Some (Text t.0) = k.1 ∙ ap Some t.1 in
    let found : piece_of s.text ≡ Ok (token_piece (Text t.0) s.size) = s.found ∙ ap (λ (x : Option TokenKind). Ok (record { kind = x; size = s.size })) kind in
    before_is i s rest (text_stays s.text rest t.0 s.size s.some s.dark found ∙ ap (λ (x : Option TokenKind). Ok (record { kind = x; size = s.size })) (sym kind))
loose_stands i s rest (Some _) e can line ends = absurd can

-- The first byte of the bytes behind.
first_of : (bytes more : List ℕ) (b : ℕ) → bytes ≡ b ∷ [] → at (bytes ++ more) 0 ≡ b
first_of bytes more b e = ap (λ (x : List ℕ). at (x ++ more) 0) e

-- In front of a mark of one byte that goes on with nothing.
ends_with : (i j : Item) (s : Sound i) (t : Sound j) (more : List ℕ) (class : TokenClass) (b : ℕ) → Well i j s → j.class ≡ Some class → shape class ≡ Some b → Ends b → Before i s (j.bytes ++ more)
ends_with i j s t more class b w e f ends =
    let m = mark_of_class j t class b e f in
    stands_end i s (j.bytes ++ more) (subst Ends (sym (first_of j.bytes more b m.1)) ends) (λ l. absurd (w.line l))

-- In front of , ; ) ] and :, and of a point.
hugged_left : (i j : Item) (s : Sound i) (t : Sound j) (more : List ℕ) (class : Option TokenClass) → Well i j s → j.class ≡ class → hugs_left class ≡ true → Before i s (j.bytes ++ more)
hugged_left i j s t more (Some Comma) w e h = ends_with i j s t more Comma 44 w e refl comma_ends
hugged_left i j s t more (Some Semicolon) w e h = ends_with i j s t more Semicolon 59 w e refl semicolon_ends
hugged_left i j s t more (Some RightParen) w e h = ends_with i j s t more RightParen 41 w e refl paren_ends
hugged_left i j s t more (Some RightBracket) w e h = ends_with i j s t more RightBracket 93 w e refl bracket_ends
hugged_left i j s t more (Some Colon) w e h = ends_with i j s t more Colon 58 w e refl colon_ends
hugged_left i j s t more (Some Dot) w e h =
    let m = mark_of_class j t Dot 46 e refl in
    loose_stands i s (j.bytes ++ more) i.class refl (w.dot_behind e) w.line (ap is_name_byte (first_of j.bytes more 46 m.1))
hugged_left i j s t more class w e h = absurd cc

-- A comment begins with a hyphen, a name with a letter: neither with a point or a digit.
follower : (j : Item) (t : Sound j) (class : Option TokenClass) → j.class ≡ class → CanFollow class → ((at j.bytes 0 == 46) ≡ false) × (is_digit (at j.bytes 0) ≡ false)
follower j t None e can =
    let kind : t.kind ≡ None = no_kind t.kind (sym t.class_is ∙ e) in
    let found : piece_of t.text ≡ Ok (no_token t.size) = t.found ∙ ap (λ (x : Option TokenKind). Ok (record { kind = x; size = t.size })) kind in
    let first : at j.bytes 0 ≡ 45 = first_byte j t ∙ comment_first t.text t.size found t.dark in
    (ap (λ (c : ℕ). c == 46) first, ap is_digit first)
follower j t (Some NameClass) e can =
    let k = kind_of t.kind NameClass (sym t.class_is ∙ e) in
    let n = kind_named k.0 k.2 in
    let kind : t.kind ≡ Some (Name n.0) = k.1 ∙ ap Some n.1 in
    let found : piece_of t.text ≡ Ok (token_piece (Name n.0) t.size) = t.found ∙ ap (λ (x : Option TokenKind). Ok (record { kind = x; size = t.size })) kind in
    let letter : is_letter (at j.bytes 0) ≡ true = ap is_letter (first_byte j t) ∙ name_first t.text n.0 t.size found in
    letter_plain (at j.bytes 0) letter
follower j t (Some _) e can = absurd can

-- Behind ( # : and a point.
hugged_right : (i j : Item) (s : Sound i) (t : Sound j) (more : List ℕ) (class : Option TokenClass) → Well i j s → i.class ≡ class → hugs_right class ≡ true → Before i s (j.bytes ++ more)
hugged_right i j s t more (Some LeftParen) w e h = one_stands i s LeftParen 40 (j.bytes ++ more) e refl (left_paren_stays (j.bytes ++ more))
hugged_right i j s t more (Some Hash) w e h = one_stands i s Hash 35 (j.bytes ++ more) e refl (hash_stays (j.bytes ++ more))
hugged_right i j s t more (Some Colon) w e h = one_stands i s Colon 58 (j.bytes ++ more) e refl (colon_stays (j.bytes ++ more))
hugged_right i j s t more (Some Dot) w e h =
    let f = follower j t j.class refl (w.behind_dot e) in
    let first : at (j.bytes ++ more) 0 ≡ at j.bytes 0 = get_or_append_left j.bytes more 256 0 (bytes_some j t) in
    one_stands i s Dot 46 (j.bytes ++ more) e refl (dot_stays (j.bytes ++ more) (ap (λ (c : ℕ). c == 46) first ∙ f.0) (ap is_digit first ∙ f.1))
hugged_right i j s t more class w e h = absurd cc

-- ---- all that stands without a space

loose_class : (class : Option TokenClass) → can_be_called class ≡ true → CanPrecede class
loose_class (Some NameClass) e = tt
loose_class (Some RightParen) e = tt
loose_class (Some RightBracket) e = tt
loose_class _ e = absurd cc

-- ( and [ are no bytes of a name.
opening_byte : (j : Item) (t : Sound j) (class : Option TokenClass) (more : List ℕ) → j.class ≡ class → calls_or_indexes class ≡ true → is_name_byte (at (j.bytes ++ more) 0) ≡ false
opening_byte j t (Some LeftParen) more e h = ap is_name_byte (first_of j.bytes more 40 (mark_of_class j t LeftParen 40 e refl).1)
opening_byte j t (Some LeftBracket) more e h = ap is_name_byte (first_of j.bytes more 91 (mark_of_class j t LeftBracket 91 e refl).1)
opening_byte j t _ more e h = absurd cc

brace_stands : (i : Item) (s : Sound i) (rest : List ℕ) (class : Option TokenClass) → i.class ≡ class → is_left_brace class ≡ true → Before i s rest
brace_stands i s rest (Some LeftBrace) e h = one_stands i s LeftBrace 123 rest e refl (left_brace_stays rest)
brace_stands i s rest _ e h = absurd cc

-- [ opens no long bracket in front of another byte than [ and =.
bracket_stays : (r : List ℕ) → (at r 0 == 91) ≡ false → is_equals (at r 0) ≡ false → piece_of (91 ∷ r) ≡ Ok (token_piece (Mark (91 ∷ [])) 1)
bracket_stays r bracket equals =
    let run : prefix_len is_equals r ≡ 0 = none_run is_equals r equals in
    let place : prefix_len is_equals r + 1 ≡ 1 = omega (arith, run) in
    marked (91 ∷ r) 1 refl refl refl refl (ap (λ (k : ℕ). at (91 ∷ r) k == 91) place ∙ bracket) refl refl (omega arith)

bracket_stands : (i j : Item) (s : Sound i) (t : Sound j) (more : List ℕ) (class : Option TokenClass) → Well i j s → i.class ≡ class → is_left_bracket class ≡ true → (at j.bytes 0 == 91) ≡ false → Before i s (j.bytes ++ more)
bracket_stands i j s t more (Some LeftBracket) w e h plain =
    let first : at (j.bytes ++ more) 0 ≡ at j.bytes 0 = get_or_append_left j.bytes more 256 0 (bytes_some j t) in
    one_stands i s LeftBracket 91 (j.bytes ++ more) e refl (bracket_stays (j.bytes ++ more) (ap (λ (c : ℕ). c == 91) first ∙ plain) (ap is_equals first ∙ w.behind_bracket e))
bracket_stands i j s t more _ w e h plain = absurd cc

not_true : (b : Bool) → not b ≡ true → b ≡ false
not_true true e = absurd cc
not_true false e = refl

-- An item stands in front of another, where no space is put.
pub tight_stands : (i j : Item) (s : Sound i) (t : Sound j) (more : List ℕ) → Well i j s → is_tight i.class j.class j.bytes ≡ true → Before i s (j.bytes ++ more)
tight_stands i j s t more w h = go (or_cases (hugs_left j.class) _ h)
  where
    bracket : ((is_left_bracket i.class) && (not (at j.bytes 0 == 91))) ≡ true → Before i s (j.bytes ++ more)
    bracket e = let both = and_parts (is_left_bracket i.class) (not (at j.bytes 0 == 91)) e in bracket_stands i j s t more i.class w refl both.0 (not_true _ both.1)

    brace : ((is_left_brace i.class && is_right_brace j.class) ≡ true) ⊎ ((is_left_bracket i.class && not (at j.bytes 0 == 91)) ≡ true) → Before i s (j.bytes ++ more)
    brace (inl e) = brace_stands i s (j.bytes ++ more) i.class refl (and_parts (is_left_brace i.class) (is_right_brace j.class) e).0
    brace (inr e) = bracket e

    called : ((can_be_called i.class && calls_or_indexes j.class) ≡ true) ⊎ (((is_left_brace i.class && is_right_brace j.class) || (is_left_bracket i.class && not (at j.bytes 0 == 91))) ≡ true) → Before i s (j.bytes ++ more)
    called (inl e) =
        let both = and_parts (can_be_called i.class) (calls_or_indexes j.class) e in
        loose_stands i s (j.bytes ++ more) i.class refl (loose_class i.class both.0) w.line (opening_byte j t j.class more refl both.1)
    called (inr e) = brace (or_cases (is_left_brace i.class && is_right_brace j.class) _ e)

    right : (hugs_right i.class ≡ true) ⊎ (((can_be_called i.class && calls_or_indexes j.class) || ((is_left_brace i.class && is_right_brace j.class) || (is_left_bracket i.class && not (at j.bytes 0 == 91)))) ≡ true) → Before i s (j.bytes ++ more)
    right (inl e) = hugged_right i j s t more i.class w refl e
    right (inr e) = called (or_cases (can_be_called i.class && calls_or_indexes j.class) _ e)

    go : (hugs_left j.class ≡ true) ⊎ ((hugs_right i.class || ((can_be_called i.class && calls_or_indexes j.class) || ((is_left_brace i.class && is_right_brace j.class) || (is_left_bracket i.class && not (at j.bytes 0 == 91))))) ≡ true) → Before i s (j.bytes ++ more)
    go (inl e) = hugged_left i j s t more j.class w refl e
    go (inr e) = right (or_cases (hugs_right i.class) _ e)

-- What the class of a token says of its bytes.
use Rattle.std.proofs.Common.{◌≡◌, ◌∙◌, ℕ, Bool, true, false, ◌⊎◌, inl, inr, ◌+◌, List, [], ◌∷◌, take, drop, refl, sym, ap, subst}
use Rattle.std.specs.Prelude.{Option, Some, None, Result, Ok, Err, if◌then◌else◌, ◌==◌, ◌&&◌}
use Rattle.std.specs.List.{prefix_len}
use Rattle.std.specs.Cmp.Lexicographic.{same_text}
use Rattle.std.proofs.lemmas.Bool.{cond_both, cond-true, cond-false, eqb-true, false_from_ne_true}
use Rattle.lua_lexer.specs.declared.token.TokenKind.{TokenKind}
use Rattle.lua_lexer.specs.declared.token.TokenKind.TheVariants.{Name, Word, Mark, Number, Text, End as EndToken}
use Rattle.lua_lexer.specs.declared.token.Piece.{Piece}
use Rattle.lua_lexer.specs.WkBaseSpace.{is_white}
use Rattle.lua_lexer.specs.Lexis.{at, is_letter, is_numeral, is_quote, is_name_byte, is_keyword, is_equals, same, equals_behind, opens_long, before_closing, Body, Closed, Open, string_body, mark_size, no_token, token_piece, long_piece, long_comment, long_string, comment_of, string_of, mark_of, piece_of}
use Rattle.lua_reading.specs.LuaGrammarDeclaredTokenClass.{TokenClass}
use Rattle.lua_reading.specs.LuaGrammarDeclaredTokenClassTheVariants.{Name as NameClass, Number as NumberClass, Text as TextClass, Hash, LeftParen, RightParen, LeftBrace, RightBrace, LeftBracket, RightBracket, Semicolon, Colon, Comma, Dot, Other}
use Rattle.lua_token_laws.specs.Neighbours.{NoEquals}
use Rattle.lua_token_laws.proofs.FirstBytes.{kind_at}
use Rattle.lua_reading.specs.LuaGrammarTokens.{Entry, look_up, early_words, middle_words, late_words, operators, comparisons, brackets, points, word_class, mark_class, kind_class}

-- The byte of which a mark of this class consists, for some of one byte.
abbrev pub shape : TokenClass → Option ℕ
shape Hash = Some 35
shape LeftParen = Some 40
shape RightParen = Some 41
shape Comma = Some 44
shape Dot = Some 46
shape Colon = Some 58
shape Semicolon = Some 59
shape LeftBracket = Some 91
shape RightBracket = Some 93
shape LeftBrace = Some 123
shape RightBrace = Some 125
shape class = None

abbrev has_shape : Option ℕ → List ℕ → Bool
has_shape None m = true
has_shape (Some b) m = same m (b ∷ [])

abbrev AllShaped : List Entry → Type 0
AllShaped [] = Unit {0}
AllShaped ((w, c) ∷ rest) = (has_shape (shape c) w ≡ true) × AllShaped rest

shaped : (m : List ℕ) (t : List Entry) (o : TokenClass) → AllShaped t → has_shape (shape o) m ≡ true → has_shape (shape (look_up m t o)) m ≡ true
shaped m [] o h e = e
shaped m ((w, c) ∷ rest) o h e =
    cond_both (same m w) c (look_up m rest o) (λ (x : TokenClass). has_shape (shape x) m ≡ true)
    (λ is. subst (λ (y : List ℕ). has_shape (shape c) y ≡ true) (sym (same_text m w (sym is))) h.0)
    (λ no. shaped m rest o h.1 e)

mark_shaped : (m : List ℕ) → has_shape (shape (mark_class m)) m ≡ true
unfolding mark_class
mark_shaped m =
    shaped m brackets (look_up m points (look_up m comparisons (look_up m operators Other))) (refl, (refl, (refl, (refl, (refl, (refl, tt))))))
    (shaped m points (look_up m comparisons (look_up m operators Other)) (refl, (refl, (refl, (refl, (refl, (refl, tt))))))
    (shaped m comparisons (look_up m operators Other) (refl, (refl, (refl, (refl, (refl, (refl, (refl, tt)))))))
    (shaped m operators Other (refl, (refl, (refl, (refl, (refl, (refl, (refl, tt))))))) refl)))

-- No keyword has one.
abbrev AllPlain : List Entry → Type 0
AllPlain [] = Unit {0}
AllPlain ((w, c) ∷ rest) = (shape c ≡ None) × AllPlain rest

unshaped : (m : List ℕ) (t : List Entry) (o : TokenClass) → AllPlain t → shape o ≡ None → shape (look_up m t o) ≡ None
unshaped m [] o h e = e
unshaped m ((w, c) ∷ rest) o h e = cond_both (same m w) c (look_up m rest o) (λ (x : TokenClass). shape x ≡ None) (λ is. h.0) (λ no. unshaped m rest o h.1 e)

word_unshaped : (w : List ℕ) → shape (word_class w) ≡ None
unfolding word_class
word_unshaped w =
    unshaped w early_words (look_up w middle_words (look_up w late_words Other)) (refl, (refl, (refl, (refl, (refl, (refl, (refl, tt)))))))
    (unshaped w middle_words (look_up w late_words Other) (refl, (refl, (refl, (refl, (refl, (refl, (refl, tt)))))))
    (unshaped w late_words Other (refl, (refl, (refl, (refl, (refl, (refl, (refl, tt))))))) refl))

-- A token of such a class is that mark.
by_shape : (m : List ℕ) (s : Option ℕ) (b : ℕ) → s ≡ Some b → has_shape s m ≡ true → m ≡ b ∷ []
by_shape m None b e h = absurd cc
by_shape m (Some a) b e h = let byte : a ≡ b = cc in same_text m (a ∷ []) (sym h) ∙ ap (λ (x : ℕ). x ∷ []) byte

pub kind_shaped : (kind : TokenKind) (b : ℕ) → shape (kind_class kind) ≡ Some b → kind ≡ Mark (b ∷ [])
kind_shaped (Name n) b e = absurd cc
kind_shaped (Word w) b e = let none : None ≡ Some b = sym (word_unshaped w) ∙ e in absurd cc
kind_shaped (Mark m) b e = ap Mark (by_shape m (shape (mark_class m)) b e (mark_shaped m))
kind_shaped (Number n) b e = absurd cc
kind_shaped (Text t) b e = absurd cc
kind_shaped EndToken b e = absurd cc

-- ---- names, numerals and strings are no keywords or marks

abbrev pub is_other : TokenClass → Bool
is_other NameClass = false
is_other NumberClass = false
is_other TextClass = false
is_other class = true

abbrev AllOther : List Entry → Type 0
AllOther [] = Unit {0}
AllOther ((w, c) ∷ rest) = (is_other c ≡ true) × AllOther rest

all_other : (m : List ℕ) (t : List Entry) (o : TokenClass) → AllOther t → is_other o ≡ true → is_other (look_up m t o) ≡ true
all_other m [] o h e = e
all_other m ((w, c) ∷ rest) o h e = cond_both (same m w) c (look_up m rest o) (λ (x : TokenClass). is_other x ≡ true) (λ is. h.0) (λ no. all_other m rest o h.1 e)

word_other : (w : List ℕ) → is_other (word_class w) ≡ true
unfolding word_class
word_other w =
    all_other w early_words (look_up w middle_words (look_up w late_words Other)) (refl, (refl, (refl, (refl, (refl, (refl, (refl, tt)))))))
    (all_other w middle_words (look_up w late_words Other) (refl, (refl, (refl, (refl, (refl, (refl, (refl, tt)))))))
    (all_other w late_words Other (refl, (refl, (refl, (refl, (refl, (refl, (refl, tt))))))) refl))

mark_other : (m : List ℕ) → is_other (mark_class m) ≡ true
unfolding mark_class
mark_other m =
    all_other m brackets (look_up m points (look_up m comparisons (look_up m operators Other))) (refl, (refl, (refl, (refl, (refl, (refl, tt))))))
    (all_other m points (look_up m comparisons (look_up m operators Other)) (refl, (refl, (refl, (refl, (refl, (refl, tt))))))
    (all_other m comparisons (look_up m operators Other) (refl, (refl, (refl, (refl, (refl, (refl, (refl, tt)))))))
    (all_other m operators Other (refl, (refl, (refl, (refl, (refl, (refl, (refl, tt))))))) refl)))

-- What a token of such a class is.
abbrev IsOfClass : TokenKind → TokenClass → Type 0
IsOfClass kind NameClass = (n : List ℕ) × (kind ≡ Name n)
IsOfClass kind TextClass = (t : List ℕ) × (kind ≡ Text t)
IsOfClass kind class = Unit {0}

of_other : (kind : TokenKind) (class : TokenClass) → is_other class ≡ true → IsOfClass kind class
of_other kind NameClass e = absurd cc
of_other kind TextClass e = absurd cc
of_other kind _ e = tt

pub of_class : (kind : TokenKind) → IsOfClass kind (kind_class kind)
of_class (Name n) = (n, refl)
of_class (Word w) = of_other (Word w) (word_class w) (word_other w)
of_class (Mark m) = of_other (Mark m) (mark_class m) (mark_other m)
of_class (Number n) = tt
of_class (Text t) = (t, refl)
of_class EndToken = tt

pub kind_named : (kind : TokenKind) → kind_class kind ≡ NameClass → (n : List ℕ) × (kind ≡ Name n)
kind_named kind e = subst (IsOfClass kind) e (of_class kind)

pub kind_text : (kind : TokenKind) → kind_class kind ≡ TextClass → (t : List ℕ) × (kind ≡ Text t)
kind_text kind e = subst (IsOfClass kind) e (of_class kind)

-- ---- marks have the bytes of the text

abbrev IsRaw : List ℕ → ℕ → Option TokenKind → Type 0
IsRaw t n (Some (Mark m)) = m ≡ take n t
IsRaw t n kind = Unit {0}

abbrev Raw : List ℕ → Result Piece ℕ → Type 0
Raw t (Ok p) = IsRaw t p.size p.kind
Raw t (Err fault) = Unit {0}

raw_word : (t w : List ℕ) (n : ℕ) (b : Bool) → IsRaw t n (Some (if b then Word w else Name w))
raw_word t w n true = tt
raw_word t w n false = tt

raw_string : (t : List ℕ) → Raw t (string_of t)
raw_string t = go (string_body (at t 0) (drop 1 t))
  where
    go : (b : Body) → Raw t (elim b as (λ x. Result Piece ℕ) [ Closed bytes size ↦ Ok (token_piece (Text bytes) (size + 1)) | Open fault ↦ Err fault ])
    go (Closed bytes size) = tt
    go (Open fault) = tt

raw_long : (t inner : List ℕ) (made : List ℕ → ℕ → Piece) (level : ℕ) → ((x : List ℕ) (n : ℕ) → IsRaw t (made x n).size (made x n).kind) → Raw t (long_piece made level inner)
raw_long t inner made level h = go (before_closing level inner)
  where
    go : (o : Option ℕ) → Raw t (elim o as (λ x. Result Piece ℕ) [ None ↦ Err 2 | Some n ↦ Ok (made (take n inner) (level + 2 + n + (level + 2))) ])
    go None = tt
    go (Some n) = h (take n inner) (level + 2 + n + (level + 2))

raw : (t : List ℕ) → Raw t (piece_of t)
unfolding piece_of
raw t =
    cond_both (is_white (at t 0)) (Ok (no_token (prefix_len is_white t))) _ (Raw t) (λ e. tt)
    (λ e. cond_both (is_letter (at t 0)) _ _ (Raw t) (λ f. raw_word t (take (prefix_len is_name_byte t) t) (prefix_len is_name_byte t) (is_keyword (take (prefix_len is_name_byte t) t)))
    (λ f. cond_both (is_numeral t) _ _ (Raw t) (λ g. tt)
    (λ g. cond_both (is_quote (at t 0)) (string_of t) _ (Raw t) (λ i. raw_string t)
    (λ i. cond_both (opens_long t) _ _ (Raw t) (λ j. raw_long t (drop (equals_behind t + 2) t) long_string (equals_behind t) (λ x n. tt))
    (λ j. cond_both (at t 0 == 45 && at t 1 == 45) (comment_of (drop 2 t)) (mark_of t) (Raw t)
    (λ k. cond_both (opens_long (drop 2 t)) _ _ (Raw t) (λ m. raw_long t (drop (equals_behind (drop 2 t) + 2) (drop 2 t)) long_comment (equals_behind (drop 2 t)) (λ x n. tt)) (λ m. tt))
    (λ k. cond_both (0 == mark_size t) (Err 4) _ (Raw t) (λ none. tt) (λ some. refl)))))))

-- The bytes of a token of such a class.
pub shaped_bytes : (t : List ℕ) (kind : TokenKind) (size b : ℕ) → piece_of t ≡ Ok (token_piece kind size) → shape (kind_class kind) ≡ Some b → take size t ≡ b ∷ []
shaped_bytes t kind size b e s =
    let mark : kind ≡ Mark (b ∷ []) = kind_shaped kind b s in
    let is_raw : IsRaw t size (Some kind) = subst (Raw t) e (raw t) in
    let bytes : b ∷ [] ≡ take size t = subst (λ (k : TokenKind). IsRaw t size (Some k)) mark is_raw in
    sym bytes

-- ---- what begins with =

equals_piece : (cs : List ℕ) → (piece_of (61 ∷ cs) ≡ Ok (token_piece (Mark (61 ∷ 61 ∷ [])) 2)) ⊎ (piece_of (61 ∷ cs) ≡ Ok (token_piece (Mark (61 ∷ [])) 1))
unfolding piece_of
equals_piece [] = inr refl
equals_piece (d ∷ ds) = go (d == 61) refl
  where
    made : ℕ → Result Piece ℕ
    made n = if 0 == n then Err 4 else Ok (token_piece (Mark (take n (61 ∷ d ∷ ds))) n)

    go : (b : Bool) → (d == 61) ≡ b → (piece_of (61 ∷ d ∷ ds) ≡ Ok (token_piece (Mark (61 ∷ 61 ∷ [])) 2)) ⊎ (piece_of (61 ∷ d ∷ ds) ≡ Ok (token_piece (Mark (61 ∷ [])) 1))
    go true e = inl (ap made (cond-true _ _ _ e) ∙ ap (λ (x : ℕ). Ok (token_piece (Mark (61 ∷ x ∷ [])) 2)) (eqb-true _ _ e))
    go false e = inr (ap made (cond-false _ _ _ e))

equals_classes : (kind : TokenKind) (size : ℕ) (cs : List ℕ) → piece_of (61 ∷ cs) ≡ Ok (token_piece kind size) → NoEquals (kind_class kind) → ⊥
unfolding mark_class
equals_classes kind size cs found plain = go (equals_piece cs)
  where
    by : (m : List ℕ) (n : ℕ) → ◌≡◌ {A = Result Piece ℕ} (Ok (token_piece kind size)) (Ok (token_piece (Mark m) n)) → NoEquals (mark_class m)
    by m n e = let kinds : ◌≡◌ {A = Option TokenKind} (Some kind) (Some (Mark m)) = ap kind_at e in let same : kind ≡ Mark m = cc in subst (λ (k : TokenKind). NoEquals (kind_class k)) same plain

    two : NoEquals (mark_class (61 ∷ 61 ∷ [])) → ⊥
    two h = h

    one : NoEquals (mark_class (61 ∷ [])) → ⊥
    one h = h

    go : (piece_of (61 ∷ cs) ≡ Ok (token_piece (Mark (61 ∷ 61 ∷ [])) 2)) ⊎ (piece_of (61 ∷ cs) ≡ Ok (token_piece (Mark (61 ∷ [])) 1)) → ⊥
    go (inl e) = two (by (61 ∷ 61 ∷ []) 2 (sym found ∙ e))
    go (inr e) = one (by (61 ∷ []) 1 (sym found ∙ e))

-- A token that is neither = nor == begins with another byte.
pub no_equals : (t : List ℕ) (kind : TokenKind) (size : ℕ) → piece_of t ≡ Ok (token_piece kind size) → NoEquals (kind_class kind) → is_equals (at t 0) ≡ false
no_equals [] kind size found plain = refl
no_equals (c ∷ cs) kind size found plain =
    false_from_ne_true _ (λ e. let same : c ≡ 61 = eqb-true c 61 e in equals_classes kind size cs (subst (λ (x : ℕ). piece_of (x ∷ cs) ≡ Ok (token_piece kind size)) same found) plain)

-- What is shown of a text: its pieces from left to right, each by the first rule that applies at its place.
-- The rules follow MediaWiki's manual: "Help:Formatting" (comments, `nowiki`, `pre`) and "Help:Templates",
-- "Controlling template inclusion" (`noinclude`, `includeonly`, `onlyinclude`).
use Rattle.std.specs.Prelude.{ℕ, suc, zero, ◌+◌, ◌-◌, Bool, true, false, ◌&&◌, ◌||◌, nat_eq, nat_le, List, [], ◌∷◌, ◌++◌, length, take, Option, Some, None, cond}
use Rattle.wk_base.specs.Space.{is_white}
use Rattle.wiki_markup.specs.declared.marked.Mode.{Mode}
use Rattle.wiki_markup.specs.declared.marked.Mode.TheVariants.{Direct, Transcluded}
use Rattle.wiki_markup.specs.declared.marked.Span.{Span}
use Rattle.wiki_markup.specs.declared.marked.ShownText.{ShownText}
pub use Rattle.wiki_markup.specs.declared.tags.Name.{Name}
pub use Rattle.wiki_markup.specs.declared.tags.Name.TheVariants.{Nowiki, Pre, Noinclude, Includeonly, Onlyinclude}

abbrev pub Text : Type 0
Text = List ℕ

-- What is left of a text behind something that was read, or None where that doesn't stand.
abbrev pub Left : Type 0
Left = Option Text

abbrev pub then_on : Left → (Text → Left) → Left
then_on None next = None
then_on (Some rest) next = next rest

abbrev pub or_else : Left → Left → Left
or_else (Some rest) other = Some rest
or_else None other = other

-- a capital ASCII letter as a small one
abbrev pub small : ℕ → ℕ
small b = cond (nat_le 65 b && nat_le b 90) (b + 32) b

-- a space or a tab
abbrev pub is_blank : ℕ → Bool
is_blank b = nat_eq b 32 || nat_eq b 9

-- behind a word that is written in small letters, in any case
unfoldable pub behind : Text → Text → Left
behind [] text = Some text
behind (w ∷ ws) [] = None
behind (w ∷ ws) (b ∷ bs) = cond (nat_eq w (small b)) (behind ws bs) None

-- behind the bytes at the front that pass a test
unfoldable pub past : (ℕ → Bool) → Text → Text
past test [] = []
past test (b ∷ bs) = cond (test b) (past test bs) (b ∷ bs)

-- behind the first place where something stands
unfoldable pub behind_next : (Text → Left) → Text → Left
behind_next reads [] = reads []
behind_next reads (b ∷ bs) = or_else (reads (b ∷ bs)) (behind_next reads bs)

-- the bytes in front of that place, or all
unfoldable pub before_next : (Text → Left) → Text → Text
before_next reads [] = []
before_next reads (b ∷ bs) = elim (reads (b ∷ bs)) [ Some rest ↦ [] | None ↦ b ∷ before_next reads bs ]

-- what was found, or the end of the text
abbrev pub or_end : Left → Text
or_end None = []
or_end (Some rest) = rest

-- Words: `<!--`, `-->`, and the names of tags.
abbrev pub comment_begin : Text
comment_begin = 60 ∷ 33 ∷ 45 ∷ 45 ∷ []

abbrev pub comment_end : Text
comment_end = 45 ∷ 45 ∷ 62 ∷ []

abbrev pub letters_of : Name → Text
letters_of Nowiki = 110 ∷ 111 ∷ 119 ∷ 105 ∷ 107 ∷ 105 ∷ []
letters_of Pre = 112 ∷ 114 ∷ 101 ∷ []
letters_of Noinclude = 110 ∷ 111 ∷ 105 ∷ 110 ∷ 99 ∷ 108 ∷ 117 ∷ 100 ∷ 101 ∷ []
letters_of Includeonly = 105 ∷ 110 ∷ 99 ∷ 108 ∷ 117 ∷ 100 ∷ 101 ∷ 111 ∷ 110 ∷ 108 ∷ 121 ∷ []
letters_of Onlyinclude = 111 ∷ 110 ∷ 108 ∷ 121 ∷ 105 ∷ 110 ∷ 99 ∷ 108 ∷ 117 ∷ 100 ∷ 101 ∷ []

-- `<name>`, `</name>` and `<name/>`, with white space after the name
unfoldable pub opening : Name → Text → Left
opening name text = then_on (behind (60 ∷ letters_of name) text) (λ rest. behind (62 ∷ []) (past is_white rest))

unfoldable pub closing : Name → Text → Left
closing name text = then_on (behind (60 ∷ 47 ∷ letters_of name) text) (λ rest. behind (62 ∷ []) (past is_white rest))

unfoldable pub self_closing : Name → Text → Left
self_closing name text = then_on (behind (60 ∷ letters_of name) text) (λ rest. behind (47 ∷ 62 ∷ []) (past is_white rest))

-- a comment, to the end of the text where it isn't ended
unfoldable pub comment : Text → Left
comment text = then_on (behind comment_begin text) (λ rest. Some (or_end (behind_next (behind comment_end) rest)))

-- At the beginning of a line: comments with only spaces and tabs before, between and after them, and the newline.
-- Each comment takes a byte, so that there are at most as many as bytes.
unfoldable pub more_comments : ℕ → Text → Left
more_comments zero text = None
more_comments (suc n) text =
    let rest = past is_blank text in
    or_else (behind (10 ∷ []) rest) (then_on (comment rest) (more_comments n))

unfoldable pub comment_line : Text → Left
comment_line text = then_on (comment (past is_blank text)) (more_comments (suc (length text)))

-- What is left behind the `>` of an opening tag with attributes, and whether the tag ends in `/>`.
pub record TagRest : Type 0 where
  pub closes_itself : Bool
  pub rest : Text

-- `slash` says whether the byte before is a `/`
unfoldable pub attributes : Bool → Text → Option TagRest
attributes slash [] = None
attributes slash (b ∷ bs) = cond (nat_eq b 62) (Some (record { closes_itself = slash; rest = bs })) (attributes (nat_eq b 47) bs)

-- white space or `>` ends a name
abbrev pub ends_name : ℕ → Bool
ends_name b = is_white b || nat_eq b 62

-- after the name stand white space and what follows it, or the end of the tag
unfoldable pub after_name : Text → Option TagRest
after_name [] = None
after_name (b ∷ bs) = cond (ends_name b) (attributes false (b ∷ bs))
    (elim (behind (47 ∷ 62 ∷ []) (b ∷ bs)) [ None ↦ None | Some rest ↦ Some (record { closes_itself = true; rest = rest }) ])

unfoldable pub literal_tag : Name → Text → Option TagRest
literal_tag name text = elim (behind (60 ∷ letters_of name) text) [ None ↦ None | Some rest ↦ after_name rest ]

-- What a rule gives at a place, and what is left behind it.
pub data RuleResult : Type 0 where
  Kept : Text → RuleResult
  Plain : Text → RuleResult
  Removed : Text → RuleResult

abbrev pub removes : Left → Option RuleResult
removes None = None
removes (Some rest) = Some (Removed rest)

-- the first of two rules that applies
abbrev pub otherwise : Option RuleResult → RuleResult → RuleResult
otherwise None other = other
otherwise (Some given) other = given

-- up to its closing tag it is kept; without one the opening tag is plain
abbrev pub keep_to : Text → Left → RuleResult
keep_to rest None = Plain rest
keep_to rest (Some after) = Kept after

abbrev pub content : Name → Option TagRest → Option RuleResult
content name None = None
content name (Some o) = Some (cond o.closes_itself (Kept o.rest) (keep_to o.rest (behind_next (closing name) o.rest)))

-- `nowiki` or `pre`: kept as written, with its content
unfoldable pub literal : Name → Text → Option RuleResult
literal name text = content name (literal_tag name text)

-- a tag of either form, whose content stays
unfoldable pub tag : Name → Text → Left
tag name text = or_else (opening name text) (closing name text)

-- an opening tag with all up to the closing one, or to the end of the text
unfoldable pub element : Name → Text → Left
element name text = then_on (opening name text) (λ rest. Some (or_end (behind_next (closing name) rest)))

-- The rules on include tags. In a part between `onlyinclude` tags, such tags aren't removed.
unfoldable pub include_tags : Mode → Bool → Text → Left
include_tags Direct part text =
    or_else (tag Noinclude text) (or_else (tag Onlyinclude text) (element Includeonly text))
include_tags Transcluded part text =
    or_else (element Noinclude text) (or_else (tag Includeonly text) (cond part None (tag Onlyinclude text)))

unfoldable pub self_closing_include : Text → Left
self_closing_include text =
    or_else (self_closing Noinclude text) (or_else (self_closing Includeonly text) (self_closing Onlyinclude text))

-- The first rule that applies at a place. At the beginning of a line a line of comments comes first; a byte to
-- which no rule applies is plain.
unfoldable pub at_place : Mode → Bool → Bool → Text → Text → RuleResult
at_place mode part line text behind_byte =
    otherwise (removes (cond line (comment_line text) None))
    (otherwise (removes (comment text))
    (otherwise (literal Nowiki text)
    (otherwise (literal Pre text)
    (otherwise (removes (self_closing_include text))
    (otherwise (removes (include_tags mode part text))
    (Plain behind_byte))))))

pub data Piece : Type 0 where
  KeptPiece : Text → Piece
  PlainPiece : Text → Piece
  Cut : Piece

-- the piece, whose bytes are those in front of what is left
abbrev pub piece_of : Text → RuleResult → Piece
piece_of text (Kept rest) = KeptPiece (take (length text - length rest) text)
piece_of text (Plain rest) = PlainPiece (take (length text - length rest) text)
piece_of text (Removed rest) = Cut

abbrev pub left_of : RuleResult → Text
left_of (Kept rest) = rest
left_of (Plain rest) = rest
left_of (Removed rest) = rest

-- The pieces of a text. `skip` bytes of it belong to a piece that was taken before; `line` says whether the byte
-- before is a newline. Each step goes on by one byte, so it ends with the text.
unfoldable pub pieces : Mode → Bool → ℕ → Bool → Text → List Piece
pieces mode part skip line [] = []
pieces mode part (suc skip) line (b ∷ bs) = pieces mode part skip (nat_eq b 10) bs
pieces mode part zero line (b ∷ bs) =
    let given = at_place mode part line (b ∷ bs) bs in
    piece_of (b ∷ bs) given ∷ pieces mode part (length bs - length (left_of given)) (nat_eq b 10) bs

-- The parts between `onlyinclude` tags: from an opening tag in the raw text to the next closing one, or to the end.
-- What stands in front of a part, behind the last and between two is a cut, with the tags that stand there.
-- Each part takes a byte, so there are at most as many as bytes.
unfoldable pub parts : Mode → ℕ → Text → List Piece
parts mode zero text = []
parts mode (suc n) text = elim (behind_next (opening Onlyinclude) text) [
  | None ↦ Cut ∷ []
  | Some rest ↦ Cut ∷ (pieces mode true 0 false (before_next (closing Onlyinclude) rest)
      ++ elim (behind_next (closing Onlyinclude) rest) [ None ↦ [] | Some after ↦ parts mode n after ])
]

-- whether a search found something
abbrev pub is_found : Left → Bool
is_found None = false
is_found (Some rest) = true

-- whether only what stands between `onlyinclude` tags counts
unfoldable pub has_parts : Mode → Text → Bool
has_parts Direct text = false
has_parts Transcluded text = is_found (behind_next (opening Onlyinclude) text) && is_found (behind_next (closing Onlyinclude) text)

unfoldable pub pieces_of : Mode → Text → List Piece
pieces_of mode text = cond (has_parts mode text) (parts mode (suc (length text)) text) (pieces mode false 0 false text)

-- The result: the kept and plain pieces joined, the spans of the kept ones, and the places of the cuts.
unfoldable pub shown_bytes : List Piece → Text
shown_bytes [] = []
shown_bytes (KeptPiece bs ∷ rest) = bs ++ shown_bytes rest
shown_bytes (PlainPiece bs ∷ rest) = bs ++ shown_bytes rest
shown_bytes (Cut ∷ rest) = shown_bytes rest

unfoldable pub kept_spans : ℕ → List Piece → List Span
kept_spans at [] = []
kept_spans at (KeptPiece bs ∷ rest) = record { start = at; end = at + length bs } ∷ kept_spans (at + length bs) rest
kept_spans at (PlainPiece bs ∷ rest) = kept_spans (at + length bs) rest
kept_spans at (Cut ∷ rest) = kept_spans at rest

unfoldable pub cut_places : ℕ → List Piece → List ℕ
cut_places at [] = []
cut_places at (KeptPiece bs ∷ rest) = cut_places (at + length bs) rest
cut_places at (PlainPiece bs ∷ rest) = cut_places (at + length bs) rest
cut_places at (Cut ∷ rest) = at ∷ cut_places at rest

abbrev pub join_pieces : List Piece → ShownText
join_pieces all = record { bytes = shown_bytes all; literals = kept_spans 0 all; cuts = cut_places 0 all }

unfoldable pub shown_of : Mode → Text → ShownText
shown_of mode text = join_pieces (pieces_of mode text)

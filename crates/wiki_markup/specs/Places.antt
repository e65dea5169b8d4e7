-- A place in a text stands for what is left of the text from there.
use Rattle.std.specs.Prelude.{◌≡◌, ℕ, false, List, [], ◌∷◌, ◌++◌, ◌+◌, length, drop, Option, Some, None}
use Rattle.wiki_markup.specs.declared.marked.ShownText.{ShownText}
use Rattle.wiki_markup.specs.declared.tags.Name.{Name}
use Rattle.wiki_markup.specs.declared.tags.Name.TheVariants.{Nowiki, Pre}
use Rattle.wiki_markup.specs.declared.tags.TagSpan.{TagSpan}
use Rattle.wiki_markup.specs.declared.literals.TagEnd.{TagEnd}
use Rattle.wiki_markup.specs.declared.literals.LastEnds.{LastEnds}
use Rattle.wiki_markup.specs.declared.rules.Ruling.{Ruling}
use Rattle.wiki_markup.specs.declared.rules.Ruling.TheVariants.{Kept as RulingKept, Plain as RulingPlain, Removed as RulingRemoved}
use Rattle.wiki_markup.specs.Shown.{Text, Left, closing, behind_next, attributes, TagRest, RuleResult, Kept, Plain, Removed, Piece, KeptPiece, PlainPiece, Cut}

abbrev pub left_at : Text → Option ℕ → Left
left_at text None = None
left_at text (Some p) = Some (drop p text)

-- where a tag begins, or the end of the text where there is none
abbrev pub start_or : ℕ → Option TagSpan → ℕ
start_or n None = n
start_or n (Some t) = t.start

abbrev pub end_of : Option TagSpan → Option ℕ
end_of None = None
end_of (Some t) = Some t.end

abbrev pub tag_rest_at : Text → Option TagEnd → Option TagRest
tag_rest_at text None = None
tag_rest_at text (Some o) = Some (record { closes_itself = o.closes_itself; rest = drop o.place text })

abbrev pub place_of : Ruling → ℕ
place_of (RulingKept p) = p
place_of (RulingPlain p) = p
place_of (RulingRemoved p) = p

abbrev pub result_at : Text → Ruling → RuleResult
result_at text (RulingKept p) = Kept (drop p text)
result_at text (RulingPlain p) = Plain (drop p text)
result_at text (RulingRemoved p) = Removed (drop p text)

abbrev pub optional_at : Text → Option Ruling → Option RuleResult
optional_at text None = None
optional_at text (Some t) = Some (result_at text t)

-- from a place on there is no `>`, and no closing tag of a name
abbrev pub NoTagEnd : Text → ℕ → Type 0
NoTagEnd text limit = attributes false (drop limit text) ≡ None

abbrev pub NoClosing : Name → Text → ℕ → Type 0
NoClosing name text limit = behind_next (closing name) (drop limit text) ≡ None

-- the places from which on nothing of these ends
pub record AreLastEnds (text : Text) (ends : LastEnds) : Type 0 where
  pub tag : NoTagEnd text ends.tag
  pub nowiki : NoClosing Nowiki text ends.nowiki
  pub pre : NoClosing Pre text ends.pre

-- A piece behind what was shown before.
abbrev pub put_piece : Piece → ShownText → ShownText
put_piece (KeptPiece bs) s =
    record s { bytes = s.bytes ++ bs; literals = s.literals ++ record { start = length s.bytes; end = length s.bytes + length bs } ∷ [] }
put_piece (PlainPiece bs) s = record s { bytes = s.bytes ++ bs }
put_piece Cut s = record s { cuts = s.cuts ++ length s.bytes ∷ [] }

unfoldable pub put_pieces : List Piece → ShownText → ShownText
put_pieces [] s = s
put_pieces (p ∷ ps) s = put_pieces ps (put_piece p s)

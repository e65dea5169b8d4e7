-- The loops of the scan: pieces are put one after the other.
use Rattle.std.proofs.Common.{◌≡◌, ℕ, suc, zero, ◌+◌, ◌-◌, ◌≤◌, ◌<◌, Bool, true, false, nat_eq, List, [], ◌∷◌, ◌++◌, length, drop, get_or, Some, None, refl, sym, ◌∙◌, ap, arith, append-nil, append_assoc, length-append}
use Rattle.std.proofs.lemmas.List.{drop_all}
use Rattle.wiki_markup.proofs.PlaceLaws.{pieces_step}
use Rattle.wiki_markup.specs.declared.marked.Mode.{Mode}
use Rattle.wiki_markup.specs.declared.marked.Span.{Span}
use Rattle.wiki_markup.specs.declared.marked.ShownText.{ShownText}
use Rattle.wiki_markup.specs.declared.rules.Ruling.{Ruling}
use Rattle.wiki_markup.specs.Shown.{Text, behind_next, before_next, opening, closing, Onlyinclude, at_place, piece_of, Piece, KeptPiece, PlainPiece, Cut, pieces, parts, pieces_of, shown_bytes, kept_spans, cut_places, shown_of}
use Rattle.wiki_markup.specs.Places.{result_at, place_of, put_piece, put_pieces}

put_step : (p : Piece) (ps : List Piece) (w : ShownText) → put_pieces (p ∷ ps) w ≡ put_pieces ps (put_piece p w)
unfolding put_pieces
put_step p ps w = refl

put_append : (xs ys : List Piece) (w : ShownText) → put_pieces (xs ++ ys) w ≡ put_pieces ys (put_pieces xs w)
unfolding put_pieces
put_append [] ys w = refl
put_append (x ∷ xs) ys w = put_append xs ys (put_piece x w)

-- one piece more
pub show_more : (mode : Mode) (part line : Bool) (s : Text) (at : ℕ) (t : Ruling) (target w next : ShownText) → at < length s → at < place_of t → place_of t ≤ length s →
    at_place mode part line (drop at s) (drop (at + 1) s) ≡ result_at s t →
    next ≡ put_piece (piece_of (drop at s) (result_at s t)) w →
    target ≡ put_pieces (pieces mode part 0 line (drop at s)) w →
    target ≡ put_pieces (pieces mode part 0 (nat_eq (get_or s (place_of t - 1) 0) 10) (drop (place_of t) s)) next
show_more mode part line s at t target w next h a i e n same =
    let rest : List Piece = pieces mode part 0 (nat_eq (get_or s (place_of t - 1) 0) 10) (drop (place_of t) s) in
    same
    ∙ ap (λ ps. put_pieces ps w) (pieces_step mode part line s at t h a i e)
    ∙ put_step (piece_of (drop at s) (result_at s t)) (pieces mode part 0 (nat_eq (get_or s (place_of t - 1) 0) 10) (drop (place_of t) s)) w
    ∙ ap (put_pieces (pieces mode part 0 (nat_eq (get_or s (place_of t - 1) 0) 10) (drop (place_of t) s))) (sym n)

-- the text is at its end
pub show_done : (mode : Mode) (part line : Bool) (s : Text) (at : ℕ) (target w : ShownText) → length s ≤ at →
    target ≡ put_pieces (pieces mode part 0 line (drop at s)) w → w ≡ target
unfolding pieces put_pieces
show_done mode part line s at target w h same = sym (same ∙ rw (drop_all at s h) refl)

-- a part, and what follows it
part_none : (mode : Mode) (n : ℕ) (t : Text) → behind_next (opening Onlyinclude) t ≡ None → parts mode (suc n) t ≡ Cut ∷ []
unfolding parts
part_none mode n t e = rw (e, parts) refl

part_last : (mode : Mode) (n : ℕ) (t r front : Text) → behind_next (opening Onlyinclude) t ≡ Some r → behind_next (closing Onlyinclude) r ≡ None →
    before_next (closing Onlyinclude) r ≡ front → parts mode (suc n) t ≡ Cut ∷ (pieces mode true 0 false front ++ [])
unfolding parts
part_last mode n t r front e f g = rw (e, parts, f, g) refl

part_more : (mode : Mode) (n : ℕ) (t r front after : Text) → behind_next (opening Onlyinclude) t ≡ Some r → behind_next (closing Onlyinclude) r ≡ Some after →
    before_next (closing Onlyinclude) r ≡ front → parts mode (suc n) t ≡ Cut ∷ (pieces mode true 0 false front ++ parts mode n after)
unfolding parts
part_more mode n t r front after e f g = rw (e, parts, f, g) refl

put_part : (xs ys : List Piece) (w : ShownText) → put_pieces (Cut ∷ (xs ++ ys)) w ≡ put_pieces ys (put_pieces xs (put_piece Cut w))
put_part xs ys w = put_step Cut (xs ++ ys) w ∙ put_append xs ys (put_piece Cut w)

pub parts_none : (mode : Mode) (n k : ℕ) (t : Text) (target w next : ShownText) → k < n → target ≡ put_pieces (parts mode n t) w → next ≡ put_piece Cut w →
    behind_next (opening Onlyinclude) t ≡ None → next ≡ target
unfolding put_pieces
parts_none mode zero k t target w next h same c e = absurd (omega arith)
parts_none mode (suc n) k t target w next h same c e = c ∙ sym (same ∙ ap (λ ps. put_pieces ps w) (part_none mode n t e))

pub parts_last : (mode : Mode) (n k : ℕ) (t r front : Text) (target w next end : ShownText) → k < n → target ≡ put_pieces (parts mode n t) w → next ≡ put_piece Cut w →
    behind_next (opening Onlyinclude) t ≡ Some r → behind_next (closing Onlyinclude) r ≡ None → before_next (closing Onlyinclude) r ≡ front →
    end ≡ put_pieces (pieces mode true 0 false front) next → end ≡ target
unfolding put_pieces
parts_last mode zero k t r front target w next end h same c e f g p = absurd (omega arith)
parts_last mode (suc n) k t r front target w next end h same c e f g p =
    p ∙ ap (put_pieces (pieces mode true 0 false front)) c
    ∙ sym (same ∙ ap (λ ps. put_pieces ps w) (part_last mode n t r front e f g) ∙ put_part (pieces mode true 0 false front) [] w)

-- what is to be put from a place on
abbrev pub PartsFrom : Mode → Text → ℕ → ShownText → ShownText → Type 0
PartsFrom mode s at target w = (n : ℕ) × (length s - at < n) × (target ≡ put_pieces (parts mode n (drop at s)) w)

pub parts_more : (mode : Mode) (n : ℕ) (s r front : Text) (at end : ℕ) (target w next shown : ShownText) → length s - at < n → target ≡ put_pieces (parts mode n (drop at s)) w → next ≡ put_piece Cut w →
    behind_next (opening Onlyinclude) (drop at s) ≡ Some r → behind_next (closing Onlyinclude) r ≡ Some (drop end s) → before_next (closing Onlyinclude) r ≡ front →
    shown ≡ put_pieces (pieces mode true 0 false front) next → at < end → end ≤ length s → PartsFrom mode s end target shown
parts_more mode zero s r front at end target w next shown h same c e f g p l m = absurd (omega arith)
parts_more mode (suc n) s r front at end target w next shown h same c e f g p l m = (
  n,
  omega arith,
  same ∙ ap (λ ps. put_pieces ps w) (part_more mode n (drop at s) r front (drop end s) e f g)
      ∙ put_part (pieces mode true 0 false front) (parts mode n (drop end s)) w
      ∙ ap (put_pieces (parts mode n (drop end s))) (sym (p ∙ ap (put_pieces (pieces mode true 0 false front)) c)),
)

-- all pieces at once
put_all : (ps : List Piece) (w : ShownText) → put_pieces ps w ≡ record {
  bytes = w.bytes ++ shown_bytes ps;
  literals = w.literals ++ kept_spans (length w.bytes) ps;
  cuts = w.cuts ++ cut_places (length w.bytes) ps;
}
unfolding put_pieces shown_bytes kept_spans cut_places
put_all [] w = rw (append-nil w.bytes, append-nil w.literals, append-nil w.cuts) refl
put_all (KeptPiece bs ∷ ps) w =
    let span : Span = record { start = length w.bytes; end = length w.bytes + length bs } in
    put_all ps (put_piece (KeptPiece bs) w)
    ∙ rw (
      length-append w.bytes bs,
      append_assoc w.bytes bs (shown_bytes ps),
      append_assoc w.literals (record { start = length w.bytes; end = length w.bytes + length bs } ∷ []) (kept_spans (length w.bytes + length bs) ps),
    ) refl
put_all (PlainPiece bs ∷ ps) w =
    put_all ps (put_piece (PlainPiece bs) w) ∙ rw (length-append w.bytes bs, append_assoc w.bytes bs (shown_bytes ps)) refl
put_all (Cut ∷ ps) w =
    put_all ps (put_piece Cut w) ∙ rw (append_assoc w.cuts (length w.bytes ∷ []) (cut_places (length w.bytes) ps)) refl

pub shown_all : (mode : Mode) (text : Text) (s : ShownText) → s ≡ put_pieces (pieces_of mode text) (record { bytes = []; literals = []; cuts = [] }) → s ≡ shown_of mode text
unfolding shown_of
shown_all mode text s e = e ∙ put_all (pieces_of mode text) (record { bytes = []; literals = []; cuts = [] })

-- What is shown has its spans and cuts in order, and no more bytes than its text.
use Rattle.std.proofs.Common.{◌≡◌, ℕ, suc, zero, ◌+◌, ◌-◌, ◌≤◌, Bool, true, false, nat_eq, List, [], ◌∷◌, ◌++◌, length, take, Some, None, cond, arith, length-append}
use Rattle.std.proofs.lemmas.List.{length-take}
use Rattle.wiki_markup.specs.declared.marked.Mode.{Mode}
use Rattle.wk_base.specs.Space.{is_white}
use Rattle.wiki_markup.specs.Shown.{Text, Left, then_on, or_else, behind, past, small, behind_next, before_next, letters_of, Name, Onlyinclude, opening, closing, RuleResult, Kept, Plain, Removed, Piece, KeptPiece, PlainPiece, Cut, at_place, piece_of, left_of, pieces, parts, has_parts, pieces_of, shown_bytes, kept_spans, cut_places, shown_of}
use Rattle.wiki_markup.specs.Order.{Ordered, Rising}

spans_ordered : (ps : List Piece) (from at : ℕ) → from ≤ at → Ordered from (kept_spans at ps)
unfolding kept_spans
spans_ordered [] from at h = tt
spans_ordered (KeptPiece bs ∷ ps) from at h = (h, omega arith, spans_ordered ps (at + length bs) (at + length bs) (omega arith))
spans_ordered (PlainPiece bs ∷ ps) from at h = spans_ordered ps from (at + length bs) (omega arith)
spans_ordered (Cut ∷ ps) from at h = spans_ordered ps from at h

cuts_rising : (ps : List Piece) (from at : ℕ) → from ≤ at → Rising from (cut_places at ps)
unfolding cut_places
cuts_rising [] from at h = tt
cuts_rising (KeptPiece bs ∷ ps) from at h = cuts_rising ps from (at + length bs) (omega arith)
cuts_rising (PlainPiece bs ∷ ps) from at h = cuts_rising ps from (at + length bs) (omega arith)
cuts_rising (Cut ∷ ps) from at h = (h, cuts_rising ps at at (omega arith))

-- what pairing asks for
pub shown_in_order : (mode : Mode) (text : Text) → Ordered 0 (shown_of mode text).literals × Rising 0 (shown_of mode text).cuts
unfolding shown_of
shown_in_order mode text = (spans_ordered (pieces_of mode text) 0 0 (omega arith), cuts_rising (pieces_of mode text) 0 0 (omega arith))

take_most : (n : ℕ) (s : Text) → length (take n s) ≤ n
take_most n s = omega (arith, length-take n s)

piece_most : (text : Text) (g : RuleResult) (ps : List Piece) → length (shown_bytes (piece_of text g ∷ ps)) ≤ (length text - length (left_of g)) + length (shown_bytes ps)
unfolding shown_bytes
piece_most text (Kept rest) ps = omega (arith, length-append (take (length text - length rest) text) (shown_bytes ps), take_most (length text - length rest) text)
piece_most text (Plain rest) ps = omega (arith, length-append (take (length text - length rest) text) (shown_bytes ps), take_most (length text - length rest) text)
piece_most text (Removed rest) ps = omega arith

pieces_most : (mode : Mode) (part line : Bool) (skip : ℕ) (s : Text) → length (shown_bytes (pieces mode part skip line s)) ≤ length s - skip
unfolding pieces shown_bytes
pieces_most mode part line skip [] = omega arith
pieces_most mode part line (suc skip) (b ∷ bs) = omega (arith, pieces_most mode part (nat_eq b 10) skip bs)
pieces_most mode part line zero (b ∷ bs) =
    let g : RuleResult = at_place mode part line (b ∷ bs) bs in
    let next : ℕ = length bs - length (left_of g) in
    omega (
      arith,
      piece_most (b ∷ bs) (at_place mode part line (b ∷ bs) bs) (pieces mode part (length bs - length (left_of (at_place mode part line (b ∷ bs) bs))) (nat_eq b 10) bs),
      pieces_most mode part (nat_eq b 10) (length bs - length (left_of (at_place mode part line (b ∷ bs) bs))) bs,
    )

-- what is left behind something is no longer than the text
abbrev Shorter : Text → Left → Type 0
Shorter s None = Unit {0}
Shorter s (Some rest) = length rest ≤ length s

behind_shorter : (w s : Text) → Shorter s (behind w s)
unfolding behind
behind_shorter [] s = omega arith
behind_shorter (w ∷ ws) [] = tt
behind_shorter (w ∷ ws) (b ∷ bs) = go (nat_eq w (small b)) (behind ws bs) (behind_shorter ws bs)
  where
    go : (t : Bool) (o : Left) → Shorter bs o → Shorter (b ∷ bs) (cond t o None)
    go true None h = tt
    go true (Some r) h = omega arith
    go false o h = tt

past_shorter : (test : ℕ → Bool) (s : Text) → length (past test s) ≤ length s
unfolding past
past_shorter test [] = omega arith
past_shorter test (b ∷ bs) = go (test b) (past_shorter test bs)
  where
    go : (t : Bool) → length (past test bs) ≤ length bs → length (cond t (past test bs) (b ∷ bs)) ≤ suc (length bs)
    go true h = omega arith
    go false h = omega arith

shorter_through : (s t : Text) (o : Left) → length t ≤ length s → Shorter t o → Shorter s o
shorter_through s t None h g = tt
shorter_through s t (Some r) h g = omega arith

closing_shorter : (name : Name) (s : Text) → Shorter s (closing name s)
unfolding closing
closing_shorter name s = go (behind (60 ∷ 47 ∷ letters_of name) s) (behind_shorter (60 ∷ 47 ∷ letters_of name) s)
  where
    go : (o : Left) → Shorter s o → Shorter s (then_on o (λ rest. behind (62 ∷ []) (past is_white rest)))
    go None h = tt
    go (Some r) h = shorter_through s (past is_white r) (behind (62 ∷ []) (past is_white r)) (omega (arith, past_shorter is_white r)) (behind_shorter (62 ∷ []) (past is_white r))

opening_shorter : (name : Name) (s : Text) → Shorter s (opening name s)
unfolding opening
opening_shorter name s = go (behind (60 ∷ letters_of name) s) (behind_shorter (60 ∷ letters_of name) s)
  where
    go : (o : Left) → Shorter s o → Shorter s (then_on o (λ rest. behind (62 ∷ []) (past is_white rest)))
    go None h = tt
    go (Some r) h = shorter_through s (past is_white r) (behind (62 ∷ []) (past is_white r)) (omega (arith, past_shorter is_white r)) (behind_shorter (62 ∷ []) (past is_white r))

-- what stands in front of it and behind it, together
abbrev Around : Text → Text → Left → Type 0
Around s front None = length front ≤ length s
Around s front (Some rest) = length front + length rest ≤ length s

around_next : (reads : Text → Left) → ((s : Text) → Shorter s (reads s)) → (s : Text) → Around s (before_next reads s) (behind_next reads s)
unfolding before_next behind_next
around_next reads r [] = go (reads []) (r [])
  where
    go : (o : Left) → Shorter [] o → Around [] [] o
    go None h = omega arith
    go (Some x) h = omega arith
around_next reads r (b ∷ bs) = go (reads (b ∷ bs)) (r (b ∷ bs)) (behind_next reads bs) (around_next reads r bs)
  where
    go : (o : Left) → Shorter (b ∷ bs) o → (p : Left) → Around bs (before_next reads bs) p →
        Around (b ∷ bs) (elim o [ Some rest ↦ [] | None ↦ b ∷ before_next reads bs ]) (or_else o p)
    go (Some x) h p g = omega (arith, h)
    go None h None g = omega arith
    go None h (Some x) g = omega arith

next_shorter : (reads : Text → Left) → ((s : Text) → Shorter s (reads s)) → (s : Text) → Shorter s (behind_next reads s)
unfolding behind_next
next_shorter reads r [] = r []
next_shorter reads r (b ∷ bs) = go (reads (b ∷ bs)) (r (b ∷ bs)) (behind_next reads bs) (next_shorter reads r bs)
  where
    go : (o : Left) → Shorter (b ∷ bs) o → (p : Left) → Shorter bs p → Shorter (b ∷ bs) (or_else o p)
    go (Some x) h p g = h
    go None h None g = tt
    go None h (Some x) g = omega arith

shown_append : (xs ys : List Piece) → length (shown_bytes (xs ++ ys)) ≡ length (shown_bytes xs) + length (shown_bytes ys)
unfolding shown_bytes
shown_append [] ys = omega arith
shown_append (KeptPiece bs ∷ xs) ys = omega (arith, length-append bs (shown_bytes (xs ++ ys)), length-append bs (shown_bytes xs), shown_append xs ys)
shown_append (PlainPiece bs ∷ xs) ys = omega (arith, length-append bs (shown_bytes (xs ++ ys)), length-append bs (shown_bytes xs), shown_append xs ys)
shown_append (Cut ∷ xs) ys = shown_append xs ys

parts_most : (mode : Mode) (n : ℕ) (s : Text) → length (shown_bytes (parts mode n s)) ≤ length s
unfolding parts shown_bytes
parts_most mode zero s = omega arith
parts_most mode (suc n) s = go (λ t. parts_most mode n t) (behind_next (opening Onlyinclude) s) (next_shorter (opening Onlyinclude) (opening_shorter Onlyinclude) s)
  where
    behind_part : ((t : Text) → length (shown_bytes (parts mode n t)) ≤ length t) → (rest front : Text) (o : Left) → Around rest front o →
        length (shown_bytes (pieces mode true 0 false front ++ elim o [ None ↦ [] | Some after ↦ parts mode n after ])) ≤ length rest
    behind_part ih rest front None a = omega (arith, shown_append (pieces mode true 0 false front) [], pieces_most mode true false 0 front, a)
    behind_part ih rest front (Some after) a = omega (arith, shown_append (pieces mode true 0 false front) (parts mode n after), pieces_most mode true false 0 front, ih after, a)

    go : ((t : Text) → length (shown_bytes (parts mode n t)) ≤ length t) → (o : Left) → Shorter s o →
        length (shown_bytes (elim o [
          | None ↦ Cut ∷ []
          | Some rest ↦ Cut ∷ (pieces mode true 0 false (before_next (closing Onlyinclude) rest)
              ++ elim (behind_next (closing Onlyinclude) rest) [ None ↦ [] | Some after ↦ parts mode n after ])
        ])) ≤ length s
    go ih None h = omega arith
    go ih (Some rest) h = omega (
      arith,
      h,
      behind_part ih rest (before_next (closing Onlyinclude) rest) (behind_next (closing Onlyinclude) rest)
          (around_next (closing Onlyinclude) (closing_shorter Onlyinclude) rest),
    )

-- There are at most as many bytes as the text has.
pub shown_most : (mode : Mode) (text : Text) → length (shown_of mode text).bytes ≤ length text
unfolding shown_of pieces_of
shown_most mode text = go (has_parts mode text)
  where
    go : (t : Bool) → length (shown_bytes (cond t (parts mode (suc (length text)) text) (pieces mode false 0 false text))) ≤ length text
    go true = parts_most mode (suc (length text)) text
    go false = omega (arith, pieces_most mode false false 0 text)

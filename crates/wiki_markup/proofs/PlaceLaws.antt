-- What a scan by places rests on: readers, searches and pieces, one byte on.
use Rattle.std.proofs.Common.{◌≡◌, ℕ, suc, zero, ◌+◌, ◌-◌, ◌≤◌, ◌<◌, Bool, true, false, nat_eq, nat_le, ◌&&◌, [], ◌∷◌, ◌++◌, length, take, drop, get_or, Some, None, cond, refl, sym, ◌∙◌, ap, subst, arith, add-one, append-nil, append_assoc}
use Rattle.std.proofs.lemmas.Bool.{eqb-true, leb-true}
use Rattle.std.proofs.lemmas.List.{take_all, take_more, drop_more, drop-drop, get_or-drop, length-drop}
use Rattle.std.proofs.Math.Seq.{drop-cons}
use Rattle.std.proofs.lemmas.List.{drop_all}
use Rattle.wiki_markup.specs.declared.marked.Mode.{Mode}
use Rattle.wiki_markup.specs.declared.marked.Mode.TheVariants.{Direct, Transcluded}
use Rattle.wiki_markup.specs.declared.rules.Ruling.{Ruling}
use Rattle.wiki_markup.specs.declared.rules.Ruling.TheVariants.{Kept as RulingKept, Plain as RulingPlain, Removed as RulingRemoved}
use Rattle.wiki_markup.specs.Shown.{Text, Left, or_else, then_on, small, is_blank, behind, past, behind_next, before_next, comment, more_comments, comment_line, attributes, ends_name, after_name, Name, Nowiki, Pre, closing, literal_tag, literal, at_place, RuleResult, Plain, left_of, piece_of, pieces, self_closing, self_closing_include, include_tags, tag, opening, element}
use Rattle.wiki_markup.specs.Places.{result_at, place_of}

-- Where something stands nowhere from a place on, it stands nowhere from a later place on: a search that found
-- nothing needn't be made again.
or_none : (o rest : Left) → or_else o rest ≡ None → rest ≡ None
or_none None rest e = e
or_none (Some r) rest e = absurd cc

none_later : (reads : Text → Left) (b : ℕ) (bs : Text) → behind_next reads (b ∷ bs) ≡ None → behind_next reads bs ≡ None
unfolding behind_next
none_later reads b bs e = or_none (reads (b ∷ bs)) (behind_next reads bs) e

pub none_left : (reads : Text → Left) (k : ℕ) (s : Text) → reads [] ≡ None → behind_next reads s ≡ None → behind_next reads (drop k s) ≡ None
none_left reads zero s n e = e
none_left reads (suc k) [] n e = unfold behind_next in n
none_left reads (suc k) (b ∷ s) n e = none_left reads k s n (none_later reads b s e)

pub none_from : (reads : Text → Left) (limit at : ℕ) (s : Text) → reads [] ≡ None → limit ≤ at → behind_next reads (drop limit s) ≡ None → behind_next reads (drop at s) ≡ None
none_from reads limit at s n h e = rw (← whole) (rw (← drop-drop (at - limit) limit s) (none_left reads (at - limit) (drop limit s) n e))
  where
    whole : limit + (at - limit) ≡ at
    whole = omega arith

pub differs : (a b : ℕ) → (a ≡ b → ⊥) → nat_eq a b ≡ false
differs a b h = go (nat_eq a b) refl
  where
    go : (t : Bool) → nat_eq a b ≡ t → nat_eq a b ≡ false
    go true e = absurd (h (eqb-true a b e))
    go false e = e

-- a word, byte by byte
pub behind_short : (w s : Text) (i p : ℕ) → i < length w → length s ≤ p → behind (drop i w) (drop p s) ≡ None
unfolding behind
behind_short w s i p h e = rw (drop-cons w i 0 h, drop_all p s e) refl

pub behind_here : (w s : Text) (i p : ℕ) → i < length w → p < length s →
    behind (drop i w) (drop p s) ≡ cond (nat_eq (get_or w i 0) (small (get_or s p 0))) (behind (drop (i + 1) w) (drop (p + 1) s)) None
unfolding behind
behind_here w s i p h e = rw (add-one i, add-one p, drop-cons w i 0 h, drop-cons s p 0 e) refl

pub behind_end : (w s : Text) (i : ℕ) → length w ≤ i → behind (drop i w) s ≡ Some s
unfolding behind
behind_end w s i h = rw (drop_all i w h) refl

-- bytes that pass a test
pub past_goes : (test : ℕ → Bool) (s : Text) (at : ℕ) → at < length s → test (get_or s at 0) ≡ true → past test (drop at s) ≡ past test (drop (at + 1) s)
unfolding past
past_goes test s at h e = rw (drop_more s at 0 h, e) refl

pub past_stops : (test : ℕ → Bool) (s : Text) (at : ℕ) → at < length s → test (get_or s at 0) ≡ false → past test (drop at s) ≡ drop at s
unfolding past
past_stops test s at h e = rw (drop_more s at 0 h, e) refl

pub past_all : (test : ℕ → Bool) (s : Text) (at : ℕ) → length s ≤ at → past test (drop at s) ≡ drop (length s) s
unfolding past
past_all test s at h = rw (drop_all at s h, drop_all (length s) s (omega arith)) refl

-- a search, byte by byte
next_none : (reads : Text → Left) (b : ℕ) (bs : Text) → reads (b ∷ bs) ≡ None → behind_next reads (b ∷ bs) ≡ behind_next reads bs
unfolding behind_next
next_none reads b bs e = rw e refl

next_some : (reads : Text → Left) (b : ℕ) (bs r : Text) → reads (b ∷ bs) ≡ Some r → behind_next reads (b ∷ bs) ≡ Some r
unfolding behind_next
next_some reads b bs r e = rw e refl

pub next_goes : (reads : Text → Left) (s : Text) (at : ℕ) → at < length s → reads (drop at s) ≡ None → behind_next reads (drop at s) ≡ behind_next reads (drop (at + 1) s)
next_goes reads s at h e =
    let here : reads (get_or s at 0 ∷ drop (at + 1) s) ≡ None = rw (← drop_more s at 0 h) e in
    rw (drop_more s at 0 h) (next_none reads (get_or s at 0) (drop (at + 1) s) here)

pub next_here : (reads : Text → Left) (s r : Text) (at : ℕ) → at < length s → reads (drop at s) ≡ Some r → behind_next reads (drop at s) ≡ Some r
next_here reads s r at h e =
    let here : reads (get_or s at 0 ∷ drop (at + 1) s) ≡ Some r = rw (← drop_more s at 0 h) e in
    rw (drop_more s at 0 h) (next_some reads (get_or s at 0) (drop (at + 1) s) r here)

pub next_end : (reads : Text → Left) (s : Text) (at : ℕ) → length s ≤ at → reads [] ≡ None → behind_next reads (drop at s) ≡ None
unfolding behind_next
next_end reads s at h e = rw (drop_all at s h) e

-- the bytes in front of what a search finds
before_none : (reads : Text → Left) (b : ℕ) (bs : Text) → reads (b ∷ bs) ≡ None → before_next reads (b ∷ bs) ≡ b ∷ before_next reads bs
unfolding before_next
before_none reads b bs e = rw (e, before_next) refl

before_some : (reads : Text → Left) (b : ℕ) (bs r : Text) → reads (b ∷ bs) ≡ Some r → before_next reads (b ∷ bs) ≡ []
unfolding before_next
before_some reads b bs r e = rw (e, before_next) refl

front_more : (t : Text) (i : ℕ) (rest : Text) → i < length t → take i t ++ (get_or t i 0 ∷ rest) ≡ take (i + 1) t ++ rest
front_more t i rest h = rw (take_more t i 0 h) (sym (append_assoc (take i t) (get_or t i 0 ∷ []) rest))

pub before_goes : (reads : Text → Left) (s : Text) (from at : ℕ) → from ≤ at → at < length s → reads (drop at s) ≡ None →
    before_next reads (drop from s) ≡ take (at - from) (drop from s) ++ before_next reads (drop at s) →
    before_next reads (drop from s) ≡ take (at + 1 - from) (drop from s) ++ before_next reads (drop (at + 1) s)
before_goes reads s from at f h e i =
    let here : reads (get_or s at 0 ∷ drop (at + 1) s) ≡ None = rw (← drop_more s at 0 h) e in
    let next : before_next reads (drop at s) ≡ get_or s at 0 ∷ before_next reads (drop (at + 1) s) =
    rw (drop_more s at 0 h) (before_none reads (get_or s at 0) (drop (at + 1) s) here) in
    let same : get_or (drop from s) (at - from) 0 ≡ get_or s at 0 = get_or-drop from s (at - from) 0 ∙ ap (λ n. get_or s n 0) back in
    let more = front_more (drop from s) (at - from) (before_next reads (drop (at + 1) s)) (omega (arith, length-drop from s)) in
    i ∙ ap (λ l. take (at - from) (drop from s) ++ l) (next ∙ ap (λ b. b ∷ before_next reads (drop (at + 1) s)) (sym same))
    ∙ more ∙ ap (λ n. take n (drop from s) ++ before_next reads (drop (at + 1) s)) next_count
  where
    next_count : (at - from) + 1 ≡ at + 1 - from
    next_count = omega arith

    back : from + (at - from) ≡ at
    back = omega arith

pub before_here : (reads : Text → Left) (s r : Text) (from at : ℕ) → at < length s → reads (drop at s) ≡ Some r →
    before_next reads (drop from s) ≡ take (at - from) (drop from s) ++ before_next reads (drop at s) →
    before_next reads (drop from s) ≡ take (at - from) (drop from s)
before_here reads s r from at h e i =
    let here : reads (get_or s at 0 ∷ drop (at + 1) s) ≡ Some r = rw (← drop_more s at 0 h) e in
    i
    ∙ ap (λ l. take (at - from) (drop from s) ++ l) (rw (drop_more s at 0 h) (before_some reads (get_or s at 0) (drop (at + 1) s) r here))
    ∙ append-nil (take (at - from) (drop from s))

pub before_end : (reads : Text → Left) (s : Text) (from at : ℕ) → length s ≤ at →
    before_next reads (drop from s) ≡ take (at - from) (drop from s) ++ before_next reads (drop at s) →
    before_next reads (drop from s) ≡ take (length s - from) (drop from s)
unfolding before_next
before_end reads s from at h i =
    i
    ∙ rw (drop_all at s h) (append-nil (take (at - from) (drop from s)))
    ∙ take_all (at - from) (drop from s) (omega (arith, length-drop from s))
    ∙ sym (take_all (length s - from) (drop from s) (omega (arith, length-drop from s)))

-- attributes, byte by byte
pub attributes_end : (slash : Bool) (s : Text) (at : ℕ) → at < length s → get_or s at 0 ≡ 62 →
    attributes slash (drop at s) ≡ Some (record { closes_itself = slash; rest = drop (at + 1) s })
unfolding attributes
attributes_end slash s at h e = rw (drop_more s at 0 h, e) refl

pub attributes_goes : (slash : Bool) (s : Text) (at : ℕ) → at < length s → (get_or s at 0 ≡ 62 → ⊥) →
    attributes slash (drop at s) ≡ attributes (nat_eq (get_or s at 0) 47) (drop (at + 1) s)
unfolding attributes
attributes_goes slash s at h n = rw (drop_more s at 0 h, differs (get_or s at 0) 62 n) refl

pub attributes_all : (slash : Bool) (s : Text) (at : ℕ) → length s ≤ at → attributes slash (drop at s) ≡ None
unfolding attributes
attributes_all slash s at h = rw (drop_all at s h) refl

-- where there is no `>`, the byte before doesn't matter
attributes_none : (b : ℕ) (a c : Bool) (s : Text) → attributes a (b ∷ s) ≡ None → attributes (nat_eq b 47) s ≡ None
unfolding attributes
attributes_none b a c s e = go (nat_eq b 62) refl
  where
    go : (t : Bool) → nat_eq b 62 ≡ t → attributes (nat_eq b 47) s ≡ None
    go true h = absurd (some_none (rw h at e))
      where
        some_none : {A : Type 0} → {x : A} → Some x ≡ None → ⊥
        some_none g = cc
    go false h = rw h at e

attributes_any : (a c : Bool) (s : Text) → attributes a s ≡ None → attributes c s ≡ None
unfolding attributes
attributes_any a c [] e = refl
attributes_any a c (b ∷ s) e = go (nat_eq b 62) refl
  where
    go : (t : Bool) → nat_eq b 62 ≡ t → attributes c (b ∷ s) ≡ None
    go true h = absurd (some_none (rw h at e))
      where
        some_none : {A : Type 0} → {x : A} → Some x ≡ None → ⊥
        some_none g = cc
    go false h = rw h (rw h at e)

attributes_later : (k : ℕ) (s : Text) → attributes false s ≡ None → attributes false (drop k s) ≡ None
attributes_later zero s e = e
attributes_later (suc k) [] e = unfold attributes in refl
attributes_later (suc k) (b ∷ s) e = attributes_later k s (attributes_any (nat_eq b 47) false s (attributes_none b false false s e))

pub attributes_from : (limit at : ℕ) (s : Text) → limit ≤ at → attributes false (drop limit s) ≡ None → attributes false (drop at s) ≡ None
attributes_from limit at s h e = rw (← whole) (rw (← drop-drop (at - limit) limit s) (attributes_later (at - limit) (drop limit s) e))
  where
    whole : limit + (at - limit) ≡ at
    whole = omega arith

pub attributes_back : (limit : ℕ) (s : Text) → 0 < limit → limit ≤ length s → (get_or s (limit - 1) 0 ≡ 62 → ⊥) → attributes false (drop limit s) ≡ None → attributes false (drop (limit - 1) s) ≡ None
attributes_back limit s z h n e = attributes_goes false s (limit - 1) (omega arith) n ∙ rw up (attributes_any false (nat_eq (get_or s (limit - 1) 0) 47) (drop limit s) e)
  where
    up : (limit - 1) + 1 ≡ limit
    up = omega arith

pub closing_back : (reads : Text → Left) (limit : ℕ) (s : Text) → 0 < limit → limit ≤ length s → reads (drop (limit - 1) s) ≡ None → behind_next reads (drop limit s) ≡ None → behind_next reads (drop (limit - 1) s) ≡ None
closing_back reads limit s z h n e = next_goes reads s (limit - 1) (omega arith) n ∙ rw up e
  where
    up : (limit - 1) + 1 ≡ limit
    up = omega arith

-- what follows the name of a tag
pub after_nothing : (s : Text) (at : ℕ) → length s ≤ at → after_name (drop at s) ≡ None
unfolding after_name
after_nothing s at h = rw (drop_all at s h) refl

pub after_ended : (s : Text) (at : ℕ) → at < length s → ends_name (get_or s at 0) ≡ true → after_name (drop at s) ≡ attributes false (drop at s)
unfolding after_name
after_ended s at h e = rw (drop_more s at 0 h, e) refl

other_none : (b : ℕ) (bs : Text) → ends_name b ≡ false → behind (47 ∷ 62 ∷ []) (b ∷ bs) ≡ None → after_name (b ∷ bs) ≡ None
unfolding after_name
other_none b bs f g = rw (f, g) refl

pub after_other : (s : Text) (at : ℕ) → at < length s → ends_name (get_or s at 0) ≡ false → behind (47 ∷ 62 ∷ []) (drop at s) ≡ None → after_name (drop at s) ≡ None
after_other s at h e n =
    let here : behind (47 ∷ 62 ∷ []) (get_or s at 0 ∷ drop (at + 1) s) ≡ None = rw (← drop_more s at 0 h) n in
    rw (drop_more s at 0 h) (other_none (get_or s at 0) (drop (at + 1) s) e here)

other_slash : (b : ℕ) (bs r : Text) → ends_name b ≡ false → behind (47 ∷ 62 ∷ []) (b ∷ bs) ≡ Some r → after_name (b ∷ bs) ≡ Some (record { closes_itself = true; rest = r })
unfolding after_name
other_slash b bs r f g = rw (f, g) refl

pub after_slash : (s r : Text) (at : ℕ) → at < length s → ends_name (get_or s at 0) ≡ false → behind (47 ∷ 62 ∷ []) (drop at s) ≡ Some r →
    after_name (drop at s) ≡ Some (record { closes_itself = true; rest = r })
after_slash s r at h e n =
    let here : behind (47 ∷ 62 ∷ []) (get_or s at 0 ∷ drop (at + 1) s) ≡ Some r = rw (← drop_more s at 0 h) n in
    rw (drop_more s at 0 h) (other_slash (get_or s at 0) (drop (at + 1) s) r e here)

pub literal_open : (name : Name) (t r : Text) (closed : Bool) → literal_tag name t ≡ Some (record { closes_itself = closed; rest = r }) → closed ≡ false →
    behind_next (closing name) r ≡ None → literal name t ≡ Some (Plain r)
unfolding literal
literal_open name t r closed e f g = rw (e, f, g) refl

-- Each rule but that on lines of comments begins with a `<`.
no_begin : (b : ℕ) → (b ≡ 60 → ⊥) → nat_eq 60 (small b) ≡ false
no_begin b n = differs 60 (small b) (go (nat_le 65 b) (nat_le b 90) refl)
  where
    go : (t u : Bool) → nat_le 65 b ≡ t → 60 ≡ cond (t && u) (b + 32) b → ⊥
    go true true e h = omega (arith, leb-true 65 b e, h)
    go true false e h = n (sym h)
    go false u e h = n (sym h)

no_literal : (name : Name) (b : ℕ) (bs : Text) → (b ≡ 60 → ⊥) → literal name (b ∷ bs) ≡ None
unfolding literal literal_tag behind
no_literal name b bs n = rw (no_begin b n, literal_tag) refl

plain_byte : (mode : Mode) (part : Bool) (b : ℕ) (bs : Text) → (b ≡ 60 → ⊥) → at_place mode part false (b ∷ bs) bs ≡ Plain bs
unfolding at_place comment self_closing_include self_closing include_tags tag opening closing element behind
plain_byte Direct part b bs n = rw (no_begin b n, no_literal Nowiki b bs n, no_literal Pre b bs n) refl
plain_byte Transcluded true b bs n = rw (no_begin b n, no_literal Nowiki b bs n, no_literal Pre b bs n) refl
plain_byte Transcluded false b bs n = rw (no_begin b n, no_literal Nowiki b bs n, no_literal Pre b bs n) refl

pub plain_at : (mode : Mode) (part : Bool) (s : Text) (at : ℕ) → at < length s → (get_or s at 0 ≡ 60 → ⊥) →
    at_place mode part false (drop at s) (drop (at + 1) s) ≡ Plain (drop (at + 1) s)
plain_at mode part s at h n = rw (drop_more s at 0 h) (plain_byte mode part (get_or s at 0) (drop (at + 1) s) n)

-- a line of comments
pub line_begins : (s : Text) (at q p : ℕ) → past is_blank (drop at s) ≡ drop q s → comment (drop q s) ≡ Some (drop p s) →
    comment_line (drop at s) ≡ more_comments (suc (length (drop at s))) (drop p s)
unfolding comment_line
line_begins s at q p e h = rw (e, h) refl

pub line_none : (s : Text) (at q : ℕ) → past is_blank (drop at s) ≡ drop q s → comment (drop q s) ≡ None → comment_line (drop at s) ≡ None
unfolding comment_line
line_none s at q e h = rw (e, h) refl

more_step : (n : ℕ) (t : Text) (rest : Text) → past is_blank t ≡ rest → more_comments (suc n) t ≡ or_else (behind (10 ∷ []) rest) (then_on (comment rest) (more_comments n))
unfolding more_comments
more_step n t rest e = rw e refl

pub line_ends : (n : ℕ) (s : Text) (at p r : ℕ) (x : Text) → length s - p < n → comment_line (drop at s) ≡ more_comments n (drop p s) →
    past is_blank (drop p s) ≡ drop r s → behind (10 ∷ []) (drop r s) ≡ Some x → comment_line (drop at s) ≡ Some x
line_ends zero s at p r x h e b f = absurd (omega arith)
line_ends (suc n) s at p r x h e b f = e ∙ more_step n (drop p s) (drop r s) b ∙ rw f refl

pub line_fails : (n : ℕ) (s : Text) (at p r : ℕ) → length s - p < n → comment_line (drop at s) ≡ more_comments n (drop p s) →
    past is_blank (drop p s) ≡ drop r s → behind (10 ∷ []) (drop r s) ≡ None → comment (drop r s) ≡ None → comment_line (drop at s) ≡ None
line_fails zero s at p r h e b f g = absurd (omega arith)
line_fails (suc n) s at p r h e b f g = e ∙ more_step n (drop p s) (drop r s) b ∙ rw (f, g) refl

-- from a place on, the comments of a line go on
abbrev pub LineFrom : Text → ℕ → ℕ → Type 0
LineFrom s at p = (n : ℕ) × (length s - p < n) × (comment_line (drop at s) ≡ more_comments n (drop p s))

pub line_goes : (n : ℕ) (s : Text) (at p r q : ℕ) → length s - p < n → comment_line (drop at s) ≡ more_comments n (drop p s) →
    past is_blank (drop p s) ≡ drop r s → behind (10 ∷ []) (drop r s) ≡ None → comment (drop r s) ≡ Some (drop q s) → p < q → q ≤ length s → LineFrom s at q
line_goes zero s at p r q h e b f g l m = absurd (omega arith)
line_goes (suc n) s at p r q h e b f g l m = (n, omega arith, e ∙ more_step n (drop p s) (drop r s) b ∙ rw (f, g) refl)

-- whether the last of some bytes is a newline
unfoldable pub line_after : Bool → ℕ → Text → Bool
line_after line zero s = line
line_after line (suc k) [] = line
line_after line (suc k) (b ∷ s) = line_after (nat_eq b 10) k s

line_last : (b k : ℕ) (s : Text) → k ≤ length s → line_after (nat_eq b 10) k s ≡ nat_eq (get_or (b ∷ s) k 0) 10
unfolding line_after
line_last b zero s h = refl
line_last b (suc k) [] h = absurd (omega arith)
line_last b (suc k) (c ∷ s) h = line_last c k s (omega arith)

-- The bytes of a piece are passed over.
pieces_skip : (mode : Mode) (part line : Bool) (k : ℕ) (s : Text) → k ≤ length s →
    pieces mode part k line s ≡ pieces mode part 0 (line_after line k s) (drop k s)
unfolding pieces line_after
pieces_skip mode part line zero s h = refl
pieces_skip mode part line (suc k) [] h = refl
pieces_skip mode part line (suc k) (b ∷ s) h = pieces_skip mode part (nat_eq b 10) k s (omega arith)

pieces_taken : (mode : Mode) (part line : Bool) (b k : ℕ) (bs : Text) (g : RuleResult) → at_place mode part line (b ∷ bs) bs ≡ g → length bs - length (left_of g) ≡ k → k ≤ length bs →
    pieces mode part 0 line (b ∷ bs) ≡ piece_of (b ∷ bs) g ∷ pieces mode part 0 (nat_eq (get_or (b ∷ bs) k 0) 10) (drop k bs)
unfolding pieces
pieces_taken mode part line b k bs g e n h =
    rw (e, n) (ap (λ l. piece_of (b ∷ bs) g ∷ l) (pieces_skip mode part (nat_eq b 10) k bs h ∙ ap (λ t. pieces mode part 0 t (drop k bs)) (line_last b k bs h)))

left_at_place : (s : Text) (t : Ruling) → left_of (result_at s t) ≡ drop (place_of t) s
left_at_place s (RulingKept p) = refl
left_at_place s (RulingPlain p) = refl
left_at_place s (RulingRemoved p) = refl

-- one piece on
pub pieces_step : (mode : Mode) (part line : Bool) (s : Text) (at : ℕ) (t : Ruling) → at < length s → at < place_of t → place_of t ≤ length s →
    at_place mode part line (drop at s) (drop (at + 1) s) ≡ result_at s t →
    pieces mode part 0 line (drop at s) ≡ piece_of (drop at s) (result_at s t) ∷ pieces mode part 0 (nat_eq (get_or s (place_of t - 1) 0) 10) (drop (place_of t) s)
pieces_step mode part line s at t h a i e =
    let split : drop at s ≡ get_or s at 0 ∷ drop (at + 1) s = drop_more s at 0 h in
    let here : at_place mode part line (get_or s at 0 ∷ drop (at + 1) s) (drop (at + 1) s) ≡ result_at s t = rw (← split) e in
    let taken = pieces_taken mode part line (get_or s at 0) (place_of t - (at + 1)) (drop (at + 1) s) (result_at s t) here
    (rw (left_at_place s t) (omega (arith, length-drop (at + 1) s, length-drop (place_of t) s))) (omega (arith, length-drop (at + 1) s)) in
    let byte : get_or (get_or s at 0 ∷ drop (at + 1) s) (place_of t - (at + 1)) 0 ≡ get_or s (place_of t - 1) 0 =
    ap (λ l. get_or l (place_of t - (at + 1)) 0) (sym split) ∙ get_or-drop at s (place_of t - (at + 1)) 0 ∙ ap (λ n. get_or s n 0) before in
    let rest : drop (place_of t - (at + 1)) (drop (at + 1) s) ≡ drop (place_of t) s = drop-drop (place_of t - (at + 1)) (at + 1) s ∙ ap (λ n. drop n s) whole in
    let P : Text → Type 0 = λ l. pieces mode part 0 line l ≡ piece_of l (result_at s t) ∷ pieces mode part 0 (nat_eq (get_or s (place_of t - 1) 0) 10) (drop (place_of t) s) in
    subst P (sym split) (taken ∙ ap (λ x. piece_of (get_or s at 0 ∷ drop (at + 1) s) (result_at s t) ∷ x)
    (ap (λ c. pieces mode part 0 (nat_eq c 10) (drop (place_of t - (at + 1)) (drop (at + 1) s))) byte ∙ ap (λ r. pieces mode part 0 (nat_eq (get_or s (place_of t - 1) 0) 10) r) rest))
  where
    before : at + (place_of t - (at + 1)) ≡ place_of t - 1
    before = omega arith

    whole : (at + 1) + (place_of t - (at + 1)) ≡ place_of t
    whole = omega arith

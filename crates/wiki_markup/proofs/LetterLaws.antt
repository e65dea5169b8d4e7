-- Letters by two cursors: spans and cuts that a place has passed don't count, and of the rest the first decides.
use Rattle.std.proofs.Common.{◌≡◌, ℕ, suc, zero, ◌+◌, ◌≤◌, ◌<◌, Bool, true, false, not, ◌&&◌, ◌||◌, nat_eq, nat_le, nat_lt, List, [], ◌∷◌, ◌++◌, length, drop, get_or, add-one, append_assoc, append-nil, cond, refl, sym, ◌∙◌, ap, subst, arith}
use Rattle.std.proofs.lemmas.Bool.{leb-true, le-leb, lt-leb, eqb-false}
use Rattle.std.proofs.Math.Bool.{and-true, or-false}
use Rattle.wiki_markup.specs.declared.marked.Span.{Span}
use Rattle.wiki_markup.specs.declared.cells.Letter.{Letter}
use Rattle.wiki_markup.specs.declared.cells.Mark.TheVariants.{Plain}
use Rattle.wiki_markup.specs.Items.{mark_of, some_of, is_kept, is_apart, letters_from}
use Rattle.wiki_markup.specs.Order.{Ordered, Rising, kept_head, span_apart, cut_apart, Ahead, CutAhead}
use Rattle.std.proofs.Math.Seq.{drop-cons}
use Rattle.wiki_markup.specs.Order.{span_passed, cut_passed, letter_of}
use Rattle.wiki_markup.proofs.PlaceLaws.{differs}
use Rattle.std.proofs.lemmas.List.{drop_all}

no_and : (a b r : Bool) → b ≡ false → ((a && b) || r) ≡ r
no_and true b r e = rw e refl
no_and false b r e = refl

no_or : (a b r : Bool) → a ≡ false → b ≡ false → ((a || b) || r) ≡ r
no_or a b r e f = rw (e, f) refl

forget_kept : (s : Span) (literals : List Span) (at : ℕ) → s.end ≤ at → is_kept (s ∷ literals) at ≡ is_kept literals at
unfolding some_of
forget_kept s literals at h = no_and (nat_le s.start at) (nat_lt at s.end) (is_kept literals at) (lt-leb (suc at) s.end (omega arith))

forget_apart : (s : Span) (literals : List Span) (cuts : List ℕ) (p : ℕ) → s.start < p → s.end < p → is_apart (s ∷ literals) cuts p ≡ is_apart literals cuts p
unfolding some_of
forget_apart s literals cuts p h g =
    ap (λ r. some_of (λ c. nat_eq c p) cuts || r)
    (no_or (nat_eq s.start p) (nat_eq s.end p) (some_of (λ (t : Span). nat_eq t.start p || nat_eq t.end p) literals) (differs s.start p (λ e. absurd (omega arith))) (differs s.end p (λ e. absurd (omega arith))))

forget_cut : (c : ℕ) (literals : List Span) (cuts : List ℕ) (p : ℕ) → c < p → is_apart literals (c ∷ cuts) p ≡ is_apart literals cuts p
unfolding some_of
forget_cut c literals cuts p h = rw (differs c p (λ e. absurd (omega arith))) refl

letter_same : (b : ℕ) (k k' a a' : Bool) → k ≡ k' → a ≡ a' → (let x : Letter = record { byte = b; mark = cond k Plain (mark_of b); joins = not a } in x) ≡ record { byte = b; mark = cond k' Plain (mark_of b); joins = not a' }
letter_same b k k' a a' e f = rw (e, f) refl

-- a span that was passed
pub forget_span : (s : Span) (literals : List Span) (cuts : List ℕ) (at : ℕ) (bs : List ℕ) → s.start ≤ s.end → s.end ≤ at →
    letters_from (s ∷ literals) cuts at bs ≡ letters_from literals cuts at bs
unfolding letters_from
forget_span s literals cuts at [] h g = refl
forget_span s literals cuts at (b ∷ bs) h g =
    let head = letter_same b (is_kept (s ∷ literals) at) (is_kept literals at) (is_apart (s ∷ literals) cuts (at + 1)) (is_apart literals cuts (at + 1))
    (forget_kept s literals at g) (forget_apart s literals cuts (at + 1) (omega arith) (omega arith)) in
    ap (λ x. x ∷ letters_from (s ∷ literals) cuts (at + 1) bs) head
    ∙ ap (λ l. record { byte = b; mark = cond (is_kept literals at) Plain (mark_of b); joins = not (is_apart literals cuts (at + 1)) } ∷ l) (forget_span s literals cuts (at + 1) bs h (omega arith))

-- a cut that was passed
pub forget_cuts : (c : ℕ) (literals : List Span) (cuts : List ℕ) (at : ℕ) (bs : List ℕ) → c ≤ at →
    letters_from literals (c ∷ cuts) at bs ≡ letters_from literals cuts at bs
unfolding letters_from
forget_cuts c literals cuts at [] h = refl
forget_cuts c literals cuts at (b ∷ bs) h =
    let head = letter_same b (is_kept literals at) (is_kept literals at) (is_apart literals (c ∷ cuts) (at + 1)) (is_apart literals cuts (at + 1)) refl (forget_cut c literals cuts (at + 1) (omega arith)) in
    ap (λ x. x ∷ letters_from literals (c ∷ cuts) (at + 1) bs) head
    ∙ ap (λ l. record { byte = b; mark = cond (is_kept literals at) Plain (mark_of b); joins = not (is_apart literals cuts (at + 1)) } ∷ l) (forget_cuts c literals cuts (at + 1) bs (omega arith))

-- spans further on don't hold a place
kept_later : (from at : ℕ) (literals : List Span) → Ordered from literals → at < from → is_kept literals at ≡ false
unfolding some_of
kept_later from at [] o h = refl
kept_later from at (s ∷ literals) o h = rw (lt-leb s.start at (omega (arith, o.0))) (kept_later s.end at literals o.2 (omega (arith, o.0, o.1)))

apart_later : (from p : ℕ) (literals : List Span) → Ordered from literals → p < from → some_of (λ (t : Span). nat_eq t.start p || nat_eq t.end p) literals ≡ false
unfolding some_of
apart_later from p [] o h = refl
apart_later from p (s ∷ literals) o h =
    no_or (nat_eq s.start p) (nat_eq s.end p) (some_of (λ (t : Span). nat_eq t.start p || nat_eq t.end p) literals)
    (differs s.start p (λ e. absurd (omega (arith, o.0, e)))) (differs s.end p (λ e. absurd (omega (arith, o.0, o.1, e))))
    ∙ apart_later s.end p literals o.2 (omega (arith, o.0, o.1))

cut_later : (from p : ℕ) (cuts : List ℕ) → Rising from cuts → p < from → some_of (λ c. nat_eq c p) cuts ≡ false
unfolding some_of
cut_later from p [] o h = refl
cut_later from p (c ∷ cuts) o h = rw (differs c p (λ e. absurd (omega (arith, o.0, e)))) (cut_later c p cuts o.1 (omega (arith, o.0)))

above : (a b : ℕ) → a ≤ b → (a ≡ b → ⊥) → a < b
above a b h n = omega arith

-- the first span and the first cut decide
pub kept_is : (from at : ℕ) (literals : List Span) → Ordered from literals → Ahead literals at → is_kept literals at ≡ kept_head literals at
unfolding some_of
kept_is from at [] o a = refl
kept_is from at (s ∷ literals) o a = rw (le-leb (suc at) s.end a, kept_later s.end at literals o.2 a, or-false, and-true) refl

pub span_is : (from at : ℕ) (literals : List Span) → Ordered from literals → Ahead literals at →
    some_of (λ (t : Span). nat_eq t.start (at + 1) || nat_eq t.end (at + 1)) literals ≡ span_apart literals (at + 1)
unfolding some_of
span_is from at [] o a = refl
span_is from at (s ∷ literals) o a = go (nat_eq s.end (at + 1)) refl
  where
    more : Bool
    more = some_of (λ (t : Span). nat_eq t.start (at + 1) || nat_eq t.end (at + 1)) literals

    or_true : (x y : Bool) → ((x || true) || y) ≡ (x || true)
    or_true true y = refl
    or_true false y = refl

    go : (t : Bool) → nat_eq s.end (at + 1) ≡ t → ((nat_eq s.start (at + 1) || nat_eq s.end (at + 1)) || more) ≡ (nat_eq s.start (at + 1) || nat_eq s.end (at + 1))
    go true e = rw e (or_true (nat_eq s.start (at + 1)) more)
    go false e =
        let ne : s.end ≡ at + 1 → ⊥ = eqb-false s.end (at + 1) e in
        rw (apart_later s.end (at + 1) literals o.2 (above (at + 1) s.end (omega (arith, a)) (λ i. ne (sym i))), or-false) refl

pub cut_is : (from at : ℕ) (cuts : List ℕ) → Rising from cuts → CutAhead cuts at → some_of (λ c. nat_eq c (at + 1)) cuts ≡ cut_apart cuts (at + 1)
unfolding some_of
cut_is from at [] o a = refl
cut_is from at (c ∷ cuts) o a = go (nat_eq c (at + 1)) refl
  where
    go : (t : Bool) → nat_eq c (at + 1) ≡ t → (nat_eq c (at + 1) || some_of (λ x. nat_eq x (at + 1)) cuts) ≡ nat_eq c (at + 1)
    go true e = rw e refl
    go false e =
        let ne : c ≡ at + 1 → ⊥ = eqb-false c (at + 1) e in
        rw (cut_later c (at + 1) cuts o.1 (above (at + 1) c (omega (arith, a)) (λ i. ne (sym i))), or-false) refl

-- The rest of spans in order is in order.
ordered_rest : (k from : ℕ) (literals : List Span) → Ordered from literals → (f : ℕ) × Ordered f (drop k literals)
ordered_rest zero from literals o = (from, o)
ordered_rest (suc k) from [] o = (from, tt)
ordered_rest (suc k) from (s ∷ literals) o = ordered_rest k s.end literals o.2

rising_rest : (k from : ℕ) (cuts : List ℕ) → Rising from cuts → (f : ℕ) × Rising f (drop k cuts)
rising_rest zero from cuts o = (from, o)
rising_rest (suc k) from [] o = (from, tt)
rising_rest (suc k) from (c ∷ cuts) o = rising_rest k c cuts o.1

drop_next : {A : Type 0} (k : ℕ) (l : List A) (x : A) (rest : List A) → drop k l ≡ x ∷ rest → (k < length l) × (drop (suc k) l ≡ rest)
drop_next zero [] x rest e = absurd cc
drop_next zero (y ∷ l) x rest e = (omega arith, cc)
drop_next (suc k) [] x rest e = absurd cc
drop_next (suc k) (y ∷ l) x rest e = let h = drop_next k l x rest e in (omega (arith, h.0), h.1)

-- the cursor goes on past a span
pub pass_span : (literals : List Span) (k at : ℕ) (cuts bs : List ℕ) → Ordered 0 literals → span_passed (drop k literals) at ≡ true →
    (k < length literals) × (letters_from (drop k literals) cuts at bs ≡ letters_from (drop (k + 1) literals) cuts at bs)
pass_span literals k at cuts bs o e = go (drop k literals) refl
  where
    go : (l : List Span) → drop k literals ≡ l → (k < length literals) × (letters_from (drop k literals) cuts at bs ≡ letters_from (drop (k + 1) literals) cuts at bs)
    go [] d = absurd (let z : span_passed [] at ≡ true = subst (λ l. span_passed l at ≡ true) d e in cc)
    go (s ∷ rest) d =
        let n = drop_next k literals s rest d in
        let passed : nat_le s.end at ≡ true = subst (λ l. span_passed l at ≡ true) d e in
        let r = ordered_rest k 0 literals o in
        let q : Ordered r.0 (s ∷ rest) = subst (Ordered r.0) d r.1 in (
          n.0,
          ap (λ l. letters_from l cuts at bs) d ∙ forget_span s rest cuts at bs q.1 (leb-true s.end at passed)
              ∙ ap (λ l. letters_from l cuts at bs) (sym (ap (λ j. drop j literals) (add-one k) ∙ n.1)),
        )

pub pass_cut : (cuts : List ℕ) (c at : ℕ) (literals : List Span) (bs : List ℕ) → cut_passed (drop c cuts) at ≡ true →
    (c < length cuts) × (letters_from literals (drop c cuts) at bs ≡ letters_from literals (drop (c + 1) cuts) at bs)
pass_cut cuts c at literals bs e = go (drop c cuts) refl
  where
    go : (l : List ℕ) → drop c cuts ≡ l → (c < length cuts) × (letters_from literals (drop c cuts) at bs ≡ letters_from literals (drop (c + 1) cuts) at bs)
    go [] d = absurd (let z : cut_passed [] at ≡ true = subst (λ l. cut_passed l at ≡ true) d e in cc)
    go (x ∷ rest) d =
        let n = drop_next c cuts x rest d in
        let passed : nat_le x at ≡ true = subst (λ l. cut_passed l at ≡ true) d e in (
          n.0,
          ap (λ l. letters_from literals l at bs) d ∙ forget_cuts x literals rest at bs (leb-true x at passed)
              ∙ ap (λ l. letters_from literals l at bs) (sym (ap (λ j. drop j cuts) (add-one c) ∙ n.1)),
        )

ahead : (l : List Span) (at : ℕ) → span_passed l at ≡ false → Ahead l at
ahead [] at e = tt
ahead (s ∷ rest) at e = le_not s.end at e
  where
    le_not : (a b : ℕ) → nat_le a b ≡ false → b < a
    le_not a b e = above_not a b (λ h. absurd (let t = le-leb a b h in cc))
      where
        above_not : (a b : ℕ) → (a ≤ b → ⊥) → b < a
        above_not a b n = omega arith

cut_ahead : (l : List ℕ) (at : ℕ) → cut_passed l at ≡ false → CutAhead l at
cut_ahead [] at e = tt
cut_ahead (c ∷ rest) at e = not_le c at e
  where
    not_le : (a b : ℕ) → nat_le a b ≡ false → b < a
    not_le a b e = omega (arith, λ (h : a ≤ b). (let t = le-leb a b h in let z : ⊥ = cc in z))

-- the letter at a place that neither has passed
pub letter_here : (literals : List Span) (cuts bs : List ℕ) (k c at : ℕ) → at < length bs → Ordered 0 literals → Rising 0 cuts →
    span_passed (drop k literals) at ≡ false → cut_passed (drop c cuts) at ≡ false →
    letters_from (drop k literals) (drop c cuts) at (drop at bs)
    ≡ letter_of (get_or bs at 0) (drop k literals) (drop c cuts) at ∷ letters_from (drop k literals) (drop c cuts) (at + 1) (drop (at + 1) bs)
unfolding letters_from
letter_here literals cuts bs k c at h o r e f =
    let s = ordered_rest k 0 literals o in
    let t = rising_rest c 0 cuts r in
    let a = ahead (drop k literals) at e in
    let b = cut_ahead (drop c cuts) at f in
    let cell : drop at bs ≡ get_or bs at 0 ∷ drop (at + 1) bs = drop-cons bs at 0 h ∙ ap (λ j. get_or bs at 0 ∷ drop j bs) (sym (add-one at)) in
    rw cell (ap (λ x. x ∷ letters_from (drop k literals) (drop c cuts) (at + 1) (drop (at + 1) bs))
    (letter_same (get_or bs at 0) (is_kept (drop k literals) at) (kept_head (drop k literals) at) (is_apart (drop k literals) (drop c cuts) (at + 1))
    (cut_apart (drop c cuts) (at + 1) || span_apart (drop k literals) (at + 1))
    (kept_is s.0 at (drop k literals) s.1 a)
    (rw (cut_is t.0 at (drop c cuts) t.1 b, span_is s.0 at (drop k literals) s.1 a) refl)))

pub letters_end : (literals : List Span) (cuts bs : List ℕ) (at : ℕ) → length bs ≤ at → letters_from literals cuts at (drop at bs) ≡ []
unfolding letters_from
letters_end literals cuts bs at h = rw (drop_all at bs h) refl

-- what the loop of the code keeps, for one more letter
pub letter_more : (all out new : List Letter) (x : Letter) (literals : List Span) (cuts bs : List ℕ) (k c at : ℕ) → at < length bs → Ordered 0 literals → Rising 0 cuts →
    span_passed (drop k literals) at ≡ false → cut_passed (drop c cuts) at ≡ false → x ≡ letter_of (get_or bs at 0) (drop k literals) (drop c cuts) at → new ≡ out ++ x ∷ [] →
    all ≡ out ++ letters_from (drop k literals) (drop c cuts) at (drop at bs) → all ≡ new ++ letters_from (drop k literals) (drop c cuts) (at + 1) (drop (at + 1) bs)
letter_more all out new x literals cuts bs k c at h o r e f g n i =
    i ∙ ap (λ l. out ++ l) (letter_here literals cuts bs k c at h o r e f)
    ∙ (rw (n, g) (sym (append_assoc out (letter_of (get_or bs at 0) (drop k literals) (drop c cuts) at ∷ []) (letters_from (drop k literals) (drop c cuts) (at + 1) (drop (at + 1) bs)))))

pub letters_all : (all out : List Letter) (literals : List Span) (cuts bs : List ℕ) (at : ℕ) → length bs ≤ at →
    all ≡ out ++ letters_from literals cuts at (drop at bs) → out ≡ all
letters_all all out literals cuts bs at h i = sym (i ∙ (rw (letters_end literals cuts bs at h) (append-nil out)))

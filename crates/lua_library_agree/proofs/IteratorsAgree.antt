-- The iterators of the library and their steps do the same to two heaps, of which the first stands in the second (manual 5.4; Scribunto,
-- Ustring and Text libraries).
use Rattle.std.proofs.Common.{◌≡◌, ℕ, ◌+◌, pos, negsuc, Bool, List, [], ◌∷◌, length, drop, Option, Some, None, Ok, Err, refl, sym, subst}
use Rattle.std.specs.Prelude.{Result, codes, encode_utf8_all}
use Rattle.lua_meaning.specs.LuaPatternDeclaredItemItem.{Item}
use Rattle.lua_meaning.specs.LuaPatternDeclaredPatternCapture.{Capture}
use Rattle.lua_meaning.specs.LuaPatternDeclaredPatternCaptureTheVariants.{Span, Place}
use Rattle.lua_meaning.specs.LuaPatternDeclaredSlotsSlot.{Slot}
use Rattle.lua_meaning.specs.LuaPatternLetters.{Symbol, Letters}
use Rattle.lua_meaning.specs.LuaPatternTexts.{bytes, points}
use Rattle.lua_meaning.specs.LuaPatternRead.{Read, Fault, Fine, read_unanchored, codes as symbol_codes}
use Rattle.lua_meaning.specs.LuaStringWalk.{Walk, Stops, Meets, walk}
use Rattle.lua_meaning.specs.MwUstringTexts.{points_of}
use Rattle.lua_meaning.specs.MwTextDeclaredSplittingPart.{Part}
use Rattle.lua_meaning.specs.MwTextSplit.{Sought, sought_by, part_from}
use Rattle.lua_heap.specs.declared.library.Library.{Library}
use Rattle.lua_heap.specs.declared.library.Library.TheVariants.{GmatchStep, UstringGmatchStep, GcodepointStep, GsplitStep}
use Rattle.lua_heap.specs.Value.{Value, Nil, Truth, Number, Text, is_true}
use Rattle.lua_heap.specs.Heap.{Closed, Iterator, Heap, closure_at, cell_at, set_cell_in, new_cell}
use Rattle.lua_heap.specs.Related.{Map, GrowsWith, Each, none, more, Same, nil, truth, number, text, table, closure, builtin, markup, SameCell, SameClosed, functions, iterators, Stands, Moved}
use Rattle.lua_heap.proofs.Steps.{moved-same, moved-then}
use Rattle.lua_heap.proofs.Stood.{stood-cell, stood-closure}
use Rattle.lua_heap.proofs.Changes.{moved-set_cell, moved-new_cell, moved-new_closure}
use Rattle.lua_meaning.specs.Scope.{Bytes}
use Rattle.lua_meaning.specs.Values.{third}
use Rattle.lua_meaning.specs.Arguments.{Plain, with_charge}
use Rattle.lua_meaning.specs.Texts.{pattern_charge}
use Rattle.lua_library_agree.specs.Same.{both_give, SamePlain}
use Rattle.lua_library_agree.proofs.Values.{one-each, first-same, rest-same, third-same, is_true-same, number_or-same, a_text-same}
use Rattle.lua_library_agree.proofs.Heaps.{giving, failing, with-equal, charging}
use Rattle.lua_library_agree.proofs.UstringAgree.{utf8_text-same}
use Rattle.lua_meaning.specs.Iterators.{new_cells, make_iterator, Cells, cells_in, held_text, held_count, held_place, cells_of, iterator_cells, on_cells, iterator_step, Stand, symbols_before, capture_given, captures_given, whole_or, goes_on, walked, walks, walks_by, match_step, gmatch, gmatch_step, ustring_gmatch, ustring_gmatch_step, gcodepoint, point_given, point_at, point_step, gcodepoint_step, make_gsplit, gsplit, place_or_nil, part_given, parted, parted_by, part_step, gsplit_step}

each-head : {A B : Type 0} {Q : A → B → Type 0} {x : A} {y : B} {xs : List A} {ys : List B} → Each Q (x ∷ xs) (y ∷ ys) → Q x y
each-head (more x y xs ys r e) = r

each-tail : {A B : Type 0} {Q : A → B → Type 0} {x : A} {y : B} {xs : List A} {ys : List B} → Each Q (x ∷ xs) (y ∷ ys) → Each Q xs ys
each-tail (more x y xs ys r e) = e

-- values that name no object stand for themselves under each map
abbrev NameNothing : List Value → Type 0
NameNothing vs = (m : Map) → Each (Same m) vs vs

-- A NEW ITERATOR
module _ {X Y : Type 0} (R : Map → X → Y → Type 0) (up : GrowsWith R) where
  record NewCells (m : Map) (h : Heap X) (s : Heap Y) (i : Heap X) (t : Heap Y) (as_ bs : List ℕ) : Type 0 where
    names : Map
    moved : Moved R m names h i s t
    cells : Each (SameCell names) as_ bs

  new_cells-same : (vs : List Value) → NameNothing vs → (m : Map) (h : Heap X) (s : Heap Y) → Stands R m h s
      → NewCells m h s (new_cells vs h).0 (new_cells vs s).0 (new_cells vs h).1 (new_cells vs s).1
  new_cells-same [] each m h s st = record { names = m; moved = moved-same R m h s st; cells = none }
  new_cells-same (v ∷ vs) each m h s st =
      let p = moved-new_cell R up m h s v v st (each-head (each m)) in
      let rest = new_cells-same vs (λ n. each-tail (each n)) p.0 (new_cell h v).0 (new_cell s v).0 p.2.stands in
      record {
        names = rest.names;
        moved = moved-then R m p.0 rest.names h (new_cell h v).0 _ s (new_cell s v).0 _ p.2 rest.moved;
        cells = more _ _ _ _ (rest.moved.later.grows _ _ p.1) rest.cells;
      }

  make_iterator-same : (step : Library) (vs : List Value) → NameNothing vs → (m : Map) (h : Heap X) (s : Heap Y) → Stands R m h s
      → SamePlain R m h s (make_iterator step vs h) (make_iterator step vs s)
  make_iterator-same step vs each m h s st =
      let k = new_cells-same vs each m h s st in
      let i = (new_cells vs h).0 in
      let t = (new_cells vs s).0 in
      let p = moved-new_closure R up k.names i t (Iterator step (new_cells vs h).1) (Iterator step (new_cells vs s).1) k.moved.stands (iterators step _ _ k.cells) in
      record { charge = refl; names = p.0; moved = moved-then R m k.names p.0 h i _ s t _ k.moved p.2; end = both_give _ _ (one-each p.1) }

  -- four cells, of which the first holds a text and the third a place
  four-same : (step : Library) (t : Bytes) (p o : Value) → NameNothing (p ∷ []) → NameNothing (o ∷ []) → (m : Map) (h : Heap X) (s : Heap Y) → Stands R m h s
      → SamePlain R m h s (make_iterator step (Text t ∷ p ∷ Number (pos 0) ∷ o ∷ []) h) (make_iterator step (Text t ∷ p ∷ Number (pos 0) ∷ o ∷ []) s)
  four-same step t p o f g =
      make_iterator-same step (Text t ∷ p ∷ Number (pos 0) ∷ o ∷ []) (λ n. more _ _ _ _ (text t) (more _ _ _ _ (each-head (f n)) (more _ _ _ _ (number (pos 0)) (g n))))

  module _ (m : Map) (h : Heap X) (s : Heap Y) (st : Stands R m h s) (vs ws : List Value) (e : Each (Same m) vs ws) where
    pub gmatch-same : SamePlain R m h s (gmatch vs h) (gmatch ws s)
    gmatch-same =
        with-equal R m h s st _ _ _ _ (a_text-same 1 (codes "gmatch") e) (λ t.
        with-equal R m h s st _ _ _ _ (a_text-same 2 (codes "gmatch") (rest-same e)) (λ p.
        four-same GmatchStep t (Text p) (Number (pos 0)) (λ n. one-each (text p)) (λ n. one-each (number (pos 0))) m h s st))

    pub ustring_gmatch-same : SamePlain R m h s (ustring_gmatch vs h) (ustring_gmatch ws s)
    ustring_gmatch-same =
        with-equal R m h s st _ _ _ _ (utf8_text-same 1 (codes "gmatch") e) (λ t.
        with-equal R m h s st _ _ _ _ (utf8_text-same 2 (codes "gmatch") (rest-same e)) (λ p.
        four-same UstringGmatchStep t (Text p) (Number (pos 0)) (λ n. one-each (text p)) (λ n. one-each (number (pos 0))) m h s st))

    pub gcodepoint-same : SamePlain R m h s (gcodepoint vs h) (gcodepoint ws s)
    gcodepoint-same =
        with-equal R m h s st _ _ _ _ (utf8_text-same 1 (codes "gcodepoint") e) (λ t.
        with-equal R m h s st _ _ _ _ (number_or-same (pos 1) (pos 1) refl 2 (codes "gcodepoint") (rest-same e)) (λ i.
        with-equal R m h s st _ _ _ _ (number_or-same (negsuc 0) (negsuc 0) refl 3 (codes "gcodepoint") (rest-same (rest-same e))) (λ j.
        four-same GcodepointStep (encode_utf8_all (points_of t i j)) Nil Nil (λ n. one-each nil) (λ n. one-each nil) m h s st)))

    pub gsplit-same : SamePlain R m h s (gsplit vs h) (gsplit ws s)
    gsplit-same =
        with-equal R m h s st _ _ _ _ (utf8_text-same 1 (codes "gsplit") e) (λ t.
        with-equal R m h s st _ _ _ _ (utf8_text-same 2 (codes "gsplit") (rest-same e)) (λ p.
        subst (λ b. SamePlain R m h s (make_gsplit (is_true (third vs)) t p h) (make_gsplit b t p s)) (is_true-same (third-same e))
        (four-same GsplitStep t (Text p) (Truth (is_true (third vs))) (λ n. one-each (text p)) (λ n. one-each (truth (is_true (third vs)))) m h s st)))

-- WHAT IS READ of cells
held_text-same : {m : Map} {v w : Value} → Same m v w → held_text v ≡ held_text w
held_text-same nil = refl
held_text-same (truth b) = refl
held_text-same (number n) = refl
held_text-same (text t) = refl
held_text-same (table a b e) = refl
held_text-same (closure a b e) = refl
held_text-same (builtin b) = refl
held_text-same (markup a b e) = refl

held_count-same : {m : Map} {v w : Value} → Same m v w → held_count v ≡ held_count w
held_count-same nil = refl
held_count-same (truth b) = refl
held_count-same (number n) = refl
held_count-same (text t) = refl
held_count-same (table a b e) = refl
held_count-same (closure a b e) = refl
held_count-same (builtin b) = refl
held_count-same (markup a b e) = refl

held_place-same : {m : Map} {v w : Value} (size : ℕ) → Same m v w → held_place size v ≡ held_place size w
held_place-same size nil = refl
held_place-same size (truth b) = refl
held_place-same size (number n) = refl
held_place-same size (text t) = refl
held_place-same size (table a b e) = refl
held_place-same size (closure a b e) = refl
held_place-same size (builtin b) = refl
held_place-same size (markup a b e) = refl

-- WHAT IS GIVEN of a match, and put into a cell, names no object
capture-same : {m : Map} (a : Letters) (t : Bytes) (k : Stand) (c : Capture) → Same m (capture_given a t k c) (capture_given a t k c)
capture-same a t k (Span from to) = text _
capture-same a t k (Place at) = number _

captures-same : {m : Map} (a : Letters) (t : Bytes) (k : Stand) (cs : List Capture) → Each (Same m) (captures_given a t k cs) (captures_given a t k cs)
captures-same a t k [] = none
captures-same a t k (c ∷ cs) = more _ _ _ _ (capture-same a t k c) (captures-same a t k cs)

pub whole-same : {m : Map} (a : Letters) (t : Bytes) (k : Stand) (whole : Bytes) (cs : List Capture) → Each (Same m) (whole_or a t k whole cs) (whole_or a t k whole cs)
whole-same a t k whole [] = one-each (text whole)
whole-same a t k whole (c ∷ cs) = captures-same a t k (c ∷ cs)

place-same : {m : Map} (o : Option ℕ) → Same m (place_or_nil o) (place_or_nil o)
place-same (Some at) = number _
place-same None = nil

-- ITS STEPS
module _ {X Y : Type 0} (R : Map → X → Y → Type 0) (m : Map) (h : Heap X) (s : Heap Y) (st : Stands R m h s) where
  abbrev Alike : Plain X → Plain Y → Type 0
  Alike a b = SamePlain R m h s a b

  -- cells that stand for one another
  record SameCells (c d : Cells) : Type 0 where
    subject : SameCell m c.subject d.subject
    pattern : SameCell m c.pattern d.pattern
    place : SameCell m c.place d.place
    other : SameCell m c.other d.other

  on_cells-same : (f : Cells → Heap X → Plain X) (g : Cells → Heap Y → Plain Y) → ((c d : Cells) → SameCells c d → Alike (f c h) (g d s))
      → {as_ bs : List ℕ} → Each (SameCell m) as_ bs → Alike (on_cells f (cells_in as_) h) (on_cells g (cells_in bs) s)
  on_cells-same f g k none = giving R m h s st (one-each nil)
  on_cells-same f g k (more _ _ _ _ a none) = giving R m h s st (one-each nil)
  on_cells-same f g k (more _ _ _ _ a (more _ _ _ _ b none)) = giving R m h s st (one-each nil)
  on_cells-same f g k (more _ _ _ _ a (more _ _ _ _ b (more _ _ _ _ c none))) = giving R m h s st (one-each nil)
  on_cells-same f g k (more t u _ _ a (more p q _ _ b (more i j _ _ c (more n o _ _ d none)))) =
      k (record { subject = t; pattern = p; place = i; other = n }) (record { subject = u; pattern = q; place = j; other = o }) (record { subject = a; pattern = b; place = c; other = d })
  on_cells-same f g k (more _ _ _ _ a (more _ _ _ _ b (more _ _ _ _ c (more _ _ _ _ d (more _ _ _ _ e r))))) = giving R m h s st (one-each nil)

  cells-same : (c : Closed X) (d : Closed Y) → SameClosed R m c d → Each (SameCell m) (cells_of (Some c)) (cells_of (Some d))
  cells-same _ _ (functions a b r) = none
  cells-same _ _ (iterators step as_ bs e) = e

  iterator_cells-same : {v w : Value} → Same m v w → Each (SameCell m) (iterator_cells h v) (iterator_cells s w)
  iterator_cells-same (closure a b e) =
      let k = stood-closure R m h s a b st e in
      subst (λ o. Each (SameCell m) (cells_of o) (cells_of (closure_at s b))) (sym k.2) (subst (λ o. Each (SameCell m) (cells_of (Some k.0)) (cells_of o)) (sym k.3) (cells-same k.0 k.1 k.4))
  iterator_cells-same nil = none
  iterator_cells-same (truth b) = none
  iterator_cells-same (number n) = none
  iterator_cells-same (text t) = none
  iterator_cells-same (table a b e) = none
  iterator_cells-same (builtin b) = none
  iterator_cells-same (markup a b e) = none

  step-same : (f : Cells → Heap X → Plain X) (g : Cells → Heap Y → Plain Y) → ((c d : Cells) → SameCells c d → Alike (f c h) (g d s))
      → {vs ws : List Value} → Each (Same m) vs ws → Alike (iterator_step f vs h) (iterator_step g ws s)
  step-same f g k e = on_cells-same f g k (iterator_cells-same (first-same e))

  -- what its cells hold
  value-same : (a b : ℕ) → SameCell m a b → Same m (cell_at h a) (cell_at s b)
  value-same a b e = (stood-cell R m h s a b st e).0

  -- `gmatch`
  goes_on-same : (a : Letters) (t : Bytes) (k : Stand) (c d : Cells) → SameCells c d → (next : Option ℕ) → Moved R m m h (goes_on a t k c next h) s (goes_on a t k d next s)
  goes_on-same a t k c d e None = moved-set_cell R m h s c.place d.place Nil Nil st e.place nil
  goes_on-same a t k c d e (Some next) =
      let i = set_cell_in h c.place (Number (pos next)) in
      let u = set_cell_in s d.place (Number (pos next)) in
      let n = Number (pos (symbols_before a t k next)) in
      let one = moved-set_cell R m h s c.place d.place (Number (pos next)) (Number (pos next)) st e.place (number _) in
      moved-then R m m m h i _ s u _ one (moved-set_cell R m i u c.other d.other n n one.stands e.other (number _))

  walked-same : (a : Letters) (t : Bytes) (k : Stand) (c d : Cells) → SameCells c d → (slots : List Slot) (w : Walk) → Alike (walked a t k c slots w h) (walked a t k d slots w s)
  walked-same a t k c d e slots (Stops tries) = record { charge = refl; names = m; moved = moved-set_cell R m h s c.place d.place Nil Nil st e.place nil; end = both_give _ _ (one-each nil) }
  walked-same a t k c d e slots (Meets tries step next) =
      record { charge = refl; names = m; moved = goes_on-same a t k c d e next; end = both_give _ _ (whole-same a t k _ _) }

  walks-same : (a : Letters) (t : Bytes) (c d : Cells) → SameCells c d → (place : Option ℕ) (anchored : Bool) (items : List Item) (slots : List Slot) → Alike (walks a t c place anchored items slots h) (walks a t d place anchored items slots s)
  walks-same a t c d e None anchored items slots = giving R m h s st (one-each nil)
  walks-same a t c d e (Some at) anchored items slots =
      let w = walk a anchored items t at in
      let n = held_count (cell_at s d.other) in
      subst (λ k. Alike (walked a t (record { at = at; before = k }) c slots w h) (walked a t (record { at = at; before = n }) d slots w s)) (sym (held_count-same (value-same c.other d.other e.other)))
      (walked-same a t (record { at = at; before = n }) c d e slots w)

  walks_by-same : (a : Letters) (t : Bytes) (c d : Cells) → SameCells c d → (place : Option ℕ) (r : Read) → Alike (walks_by a t c place r h) (walks_by a t d place r s)
  walks_by-same a t c d e place (Fault n) = failing R m h s st _
  walks_by-same a t c d e place (Fine anchored items slots) = walks-same a t c d e place anchored items slots

  match_step-same : (a : Letters) (c d : Cells) → SameCells c d → Alike (match_step a c h) (match_step a d s)
  match_step-same a c d e =
      let t = held_text (cell_at s d.subject) in
      let p = held_text (cell_at s d.pattern) in
      let b = match_step a d s in
      subst (λ u. Alike (with_charge (length (held_text (cell_at h c.pattern))) (walks_by a u c (held_place (length u) (cell_at h c.place)) (read_unanchored (symbol_codes a (held_text (cell_at h c.pattern)))) h)) b) (sym (held_text-same (value-same c.subject d.subject e.subject)))
      (subst (λ q. Alike (with_charge (length q) (walks_by a t c (held_place (length t) (cell_at h c.place)) (read_unanchored (symbol_codes a q)) h)) b) (sym (held_text-same (value-same c.pattern d.pattern e.pattern)))
      (subst (λ k. Alike (with_charge (length p) (walks_by a t c k (read_unanchored (symbol_codes a p)) h)) b) (sym (held_place-same (length t) (value-same c.place d.place e.place)))
      (charging R m h s st (length p) (length p) refl _ _ (walks_by-same a t c d e (held_place (length t) (cell_at s d.place)) (read_unanchored (symbol_codes a p))))))

  -- `gcodepoint`
  point_given-same : (c d : Cells) → SameCells c d → (at : ℕ) (xs : List Symbol) → Alike (point_given c at xs h) (point_given d at xs s)
  point_given-same c d e at [] = giving R m h s st (one-each nil)
  point_given-same c d e at (x ∷ xs) =
      record { charge = refl; names = m; moved = moved-set_cell R m h s c.place d.place (Number (pos (at + x.size))) (Number (pos (at + x.size))) st e.place (number _); end = both_give _ _ (one-each (number _)) }

  point_at-same : (t : Bytes) (c d : Cells) → SameCells c d → (place : Option ℕ) → Alike (point_at t c place h) (point_at t d place s)
  point_at-same t c d e None = giving R m h s st (one-each nil)
  point_at-same t c d e (Some at) = point_given-same c d e at (points.symbols (drop at t))

  point_step-same : (c d : Cells) → SameCells c d → Alike (point_step c h) (point_step d s)
  point_step-same c d e =
      let t = held_text (cell_at s d.subject) in
      let b = point_step d s in
      subst (λ u. Alike (point_at u c (held_place (length u) (cell_at h c.place)) h) b) (sym (held_text-same (value-same c.subject d.subject e.subject)))
      (subst (λ k. Alike (point_at t c k h) b) (sym (held_place-same (length t) (value-same c.place d.place e.place)))
      (point_at-same t c d e (held_place (length t) (cell_at s d.place))))

  -- `gsplit`
  part_given-same : (t : Bytes) (c d : Cells) → SameCells c d → (at : ℕ) (part : Part) → Alike (part_given t c at part h) (part_given t d at part s)
  part_given-same t c d e at part =
      record { charge = refl; names = m; moved = moved-set_cell R m h s c.place d.place _ _ st e.place (place-same part.next); end = both_give _ _ (one-each (text _)) }

  parted-same : (t : Bytes) (c d : Cells) → SameCells c d → (place : Option ℕ) (sought : Sought) → Alike (parted t c place sought h) (parted t d place sought s)
  parted-same t c d e None sought = giving R m h s st (one-each nil)
  parted-same t c d e (Some at) sought = part_given-same t c d e at (part_from sought t at)

  parted_by-same : (t : Bytes) (c d : Cells) → SameCells c d → (place : Option ℕ) (sought : Result Sought ℕ) → Alike (parted_by t c place sought h) (parted_by t d place sought s)
  parted_by-same t c d e place (Err n) = failing R m h s st _
  parted_by-same t c d e place (Ok sought) = parted-same t c d e place sought

  part_step-same : (c d : Cells) → SameCells c d → Alike (part_step c h) (part_step d s)
  part_step-same c d e =
      let t = held_text (cell_at s d.subject) in
      let p = held_text (cell_at s d.pattern) in
      let w = is_true (cell_at s d.other) in
      let b = part_step d s in
      subst (λ u. Alike (with_charge (pattern_charge (is_true (cell_at h c.other)) (held_text (cell_at h c.pattern))) (parted_by u c (held_place (length u) (cell_at h c.place)) (sought_by (is_true (cell_at h c.other)) (held_text (cell_at h c.pattern))) h)) b) (sym (held_text-same (value-same c.subject d.subject e.subject)))
      (subst (λ q. Alike (with_charge (pattern_charge (is_true (cell_at h c.other)) q) (parted_by t c (held_place (length t) (cell_at h c.place)) (sought_by (is_true (cell_at h c.other)) q) h)) b) (sym (held_text-same (value-same c.pattern d.pattern e.pattern)))
      (subst (λ x. Alike (with_charge (pattern_charge x p) (parted_by t c (held_place (length t) (cell_at h c.place)) (sought_by x p) h)) b) (sym (is_true-same (value-same c.other d.other e.other)))
      (subst (λ k. Alike (with_charge (pattern_charge w p) (parted_by t c k (sought_by w p) h)) b) (sym (held_place-same (length t) (value-same c.place d.place e.place)))
      (charging R m h s st (pattern_charge w p) (pattern_charge w p) refl _ _ (parted_by-same t c d e (held_place (length t) (cell_at s d.place)) (sought_by w p))))))

  module _ (vs ws : List Value) (e : Each (Same m) vs ws) where
    pub gmatch_step-same : Alike (gmatch_step vs h) (gmatch_step ws s)
    gmatch_step-same = step-same (match_step bytes) (match_step bytes) (match_step-same bytes) e

    pub ustring_gmatch_step-same : Alike (ustring_gmatch_step vs h) (ustring_gmatch_step ws s)
    ustring_gmatch_step-same = step-same (match_step points) (match_step points) (match_step-same points) e

    pub gcodepoint_step-same : Alike (gcodepoint_step vs h) (gcodepoint_step ws s)
    gcodepoint_step-same = step-same point_step point_step point_step-same e

    pub gsplit_step-same : Alike (gsplit_step vs h) (gsplit_step ws s)
    gsplit_step-same = step-same part_step part_step part_step-same e

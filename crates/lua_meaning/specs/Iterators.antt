-- ITERATORS that the library makes: `string.gmatch` (manual 5.4), `mw.ustring.gmatch` and `mw.ustring.gcodepoint` (Scribunto, Ustring
-- library), `mw.text.gsplit` (Scribunto, Text library). An iterator is a closure of the library with its state in cells. One with a
-- pattern reads it at each of its steps and not before, and each reading is charged.
use Rattle.std.specs.Prelude.{ℕ, suc, ◌+◌, pos, negsuc, Bool, nat_le, if◌then◌else◌, List, [], ◌∷◌, length, map, drop, Option, Some, None, Result, Ok, Err, codes, encode_utf8_all}
use Rattle.mw_text.specs.LuaPatternDeclaredItemItem.{Item}
use Rattle.mw_text.specs.LuaPatternDeclaredPatternCapture.{Capture}
use Rattle.mw_text.specs.LuaPatternDeclaredPatternCaptureTheVariants.{Span, Place}
use Rattle.mw_text.specs.LuaPatternDeclaredPatternMatch.{Match}
use Rattle.mw_text.specs.LuaPatternDeclaredSlotsSlot.{Slot}
use Rattle.mw_text.specs.LuaPatternLetters.{Symbol, Letters}
use Rattle.mw_text.specs.LuaPatternTexts.{bytes, points}
use Rattle.mw_text.specs.LuaPatternRead.{Read, Fault, Fine, read_unanchored, codes as symbol_codes}
use Rattle.mw_text.specs.LuaPatternSizes.{match_bytes}
use Rattle.mw_text.specs.LuaStringFinds.{match_of}
use Rattle.mw_text.specs.LuaStringWalk.{Walk, Stops, Meets, walk, span}
use Rattle.mw_text.specs.MwUstringTexts.{points_of}
use Rattle.mw_text.specs.declared.splitting.Part.{Part}
use Rattle.mw_text.specs.Split.{Sought, sought_by, part_from, slice}
use Rattle.lua_walk.specs.LuaHeapDeclaredLibraryLibrary.{Library}
use Rattle.lua_walk.specs.LuaHeapDeclaredLibraryLibraryTheVariants.{GmatchStep, UstringGmatchStep, GcodepointStep, GsplitStep}
use Rattle.lua_walk.specs.LuaHeapValue.{Value, Nil, Truth, Number, Text, Closure, is_true}
use Rattle.lua_walk.specs.LuaHeapHeap.{Closed, Iterator, Heap, new_cell, new_closure, cell_at, closure_at, set_cell_in}
use Rattle.lua_meaning.specs.Charges.{closure_charge}
use Rattle.lua_meaning.specs.Scope.{Bytes}
use Rattle.lua_meaning.specs.Values.{first, rest, third}
use Rattle.lua_meaning.specs.Arguments.{Plain, Gives, gives, fails, with_argument, with_charge, a_text, number_or}
use Rattle.lua_meaning.specs.TextArguments.{utf8_text}
use Rattle.lua_meaning.specs.Texts.{pattern_charge}
use Rattle.lua_meaning.specs.Checks.{malformed}

-- A NEW ITERATOR with these values in new cells, which are made one after another
abbrev pub new_cells : {X : Type 0} → List Value → Heap X → Heap X × List ℕ
new_cells [] h = (h, [])
new_cells (v ∷ vs) h = let cell = new_cell h v in let more = new_cells vs cell.0 in (more.0, cell.1 ∷ more.1)

abbrev pub make_iterator : {X : Type 0} → Library → List Value → Heap X → Plain X
make_iterator step values h =
    let cells = new_cells values h in
    let made = new_closure cells.0 (Iterator step cells.1) in
    record { charge = closure_charge; heap = made.0; end = Gives (Closure made.1 ∷ []) }

-- WHAT ITS FOUR CELLS HOLD: the subject; the pattern, or nil without one; the byte at which it goes on, from 0, or nil at its end; and
-- how many symbols stand before that byte, whether the pattern is a plain text, or nil.
pub record Cells : Type 0 where
  pub subject : ℕ
  pub pattern : ℕ
  pub place : ℕ
  pub other : ℕ

abbrev pub cells_in : List ℕ → Option Cells
cells_in (s ∷ (p ∷ (at ∷ (o ∷ [])))) = Some (record { subject = s; pattern = p; place = at; other = o })
cells_in cells = None

-- (no other values stand in the cells of an iterator)
abbrev pub held_text : Value → Bytes
held_text (Text t) = t
held_text v = []

abbrev pub held_count : Value → ℕ
held_count (Number (pos n)) = n
held_count v = 0

abbrev pub held_place : ℕ → Value → Option ℕ
held_place size (Number (pos at)) = if nat_le at size then Some at else None
held_place size v = None

-- A STEP. Its first argument is the iterator itself.
abbrev pub cells_of : {X : Type 0} → Option (Closed X) → List ℕ
cells_of (Some (Iterator step cells)) = cells
cells_of _ = []

abbrev pub iterator_cells : {X : Type 0} → Heap X → Value → List ℕ
iterator_cells h (Closure c) = cells_of (closure_at h c)
iterator_cells h v = []

abbrev pub on_cells : {X : Type 0} → (Cells → Heap X → Plain X) → Option Cells → Heap X → Plain X
on_cells step (Some c) h = step c h
on_cells step None h = gives h (Nil ∷ [])

abbrev pub iterator_step : {X : Type 0} → (Cells → Heap X → Plain X) → List Value → Heap X → Plain X
iterator_step step args h = on_cells step (cells_in (iterator_cells h (first args))) h

-- ---- `gmatch`, over bytes or over code points

-- Where a step begins: at a byte, before which so many symbols stand. Places are counted on from there.
pub record Stand : Type 0 where
  pub at : ℕ
  pub before : ℕ

abbrev pub symbols_between : Letters → Bytes → ℕ → ℕ → ℕ
symbols_between a s from to = length (a.symbols (span s from to))

abbrev pub symbols_before : Letters → Bytes → Stand → ℕ → ℕ
symbols_before a s k at = k.before + symbols_between a s k.at at

-- what `match` gives of a match: its captures, or the whole of it where there are none
abbrev pub capture_given : Letters → Bytes → Stand → Capture → Value
capture_given a s k (Span from to) = Text (span s from to)
capture_given a s k (Place at) = Number (pos (suc (symbols_before a s k at)))

abbrev pub captures_given : Letters → Bytes → Stand → List Capture → List Value
captures_given a s k captures = map (capture_given a s k) captures

abbrev pub whole_or : Letters → Bytes → Stand → Bytes → List Capture → List Value
whole_or a s k whole [] = Text whole ∷ []
whole_or a s k whole (c ∷ cs) = captures_given a s k (c ∷ cs)

abbrev pub match_given : Letters → Bytes → Stand → Match → List Value
match_given a s k m = whole_or a s k (span s m.start m.end) m.captures

-- the place where the next step begins
abbrev pub goes_on : {X : Type 0} → Letters → Bytes → Stand → Cells → Option ℕ → Heap X → Heap X
goes_on a s k c None h = set_cell_in h c.place Nil
goes_on a s k c (Some next) h = set_cell_in (set_cell_in h c.place (Number (pos next))) c.other (Number (pos (symbols_before a s k next)))

abbrev pub walked : {X : Type 0} → Letters → Bytes → Stand → Cells → List Slot → Walk → Heap X → Plain X
walked a s k c slots (Stops tries) h = record { charge = tries; heap = set_cell_in h c.place Nil; end = Gives (Nil ∷ []) }
walked a s k c slots (Meets tries step next) h =
    let m = match_of slots step.start step.end step.marks in
    record { charge = tries + match_bytes m; heap = goes_on a s k c next h; end = Gives (match_given a s k m) }

-- the next match; nil at the end, and again after it
abbrev pub walks : {X : Type 0} → Letters → Bytes → Cells → Option ℕ → Bool → List Item → List Slot → Heap X → Plain X
walks a s c None anchored items slots h = gives h (Nil ∷ [])
walks a s c (Some at) anchored items slots h =
    walked a s (record { at = at; before = held_count (cell_at h c.other) }) c slots (walk a anchored items s at) h

abbrev pub walks_by : {X : Type 0} → Letters → Bytes → Cells → Option ℕ → Read → Heap X → Plain X
walks_by a s c place (Fault n) h = fails h (malformed n)
walks_by a s c place (Fine anchored items slots) h = walks a s c place anchored items slots h

abbrev pub match_step : {X : Type 0} → Letters → Cells → Heap X → Plain X
match_step a c h =
    let s = held_text (cell_at h c.subject) in
    let pattern = held_text (cell_at h c.pattern) in
    with_charge (length pattern) (walks_by a s c (held_place (length s) (cell_at h c.place)) (read_unanchored (symbol_codes a pattern)) h)

abbrev pub make_gmatch : {X : Type 0} → Library → Bytes → Bytes → Heap X → Plain X
make_gmatch step s pattern h = make_iterator step (Text s ∷ Text pattern ∷ Number (pos 0) ∷ Number (pos 0) ∷ []) h

-- `string.gmatch(s, pattern)`
abbrev pub gmatch : {X : Type 0} → List Value → Heap X → Plain X
gmatch args h =
    with_argument h (a_text 1 (codes "gmatch") args) (λ s.
    with_argument h (a_text 2 (codes "gmatch") (rest args)) (λ pattern. make_gmatch GmatchStep s pattern h))

abbrev pub gmatch_step : {X : Type 0} → List Value → Heap X → Plain X
gmatch_step args h = iterator_step (match_step bytes) args h

-- `mw.ustring.gmatch(s, pattern)`
abbrev pub ustring_gmatch : {X : Type 0} → List Value → Heap X → Plain X
ustring_gmatch args h =
    with_argument h (utf8_text 1 (codes "gmatch") args) (λ s.
    with_argument h (utf8_text 2 (codes "gmatch") (rest args)) (λ pattern. make_gmatch UstringGmatchStep s pattern h))

abbrev pub ustring_gmatch_step : {X : Type 0} → List Value → Heap X → Plain X
ustring_gmatch_step args h = iterator_step (match_step points) args h

-- ---- `mw.ustring.gcodepoint(s, i, j)`: its subject has the code points from place i to place j. A code point costs nothing more than
-- the step that gives it.
abbrev pub make_gcodepoint : {X : Type 0} → Bytes → Heap X → Plain X
make_gcodepoint part h = make_iterator GcodepointStep (Text part ∷ Nil ∷ Number (pos 0) ∷ Nil ∷ []) h

abbrev pub gcodepoint : {X : Type 0} → List Value → Heap X → Plain X
gcodepoint args h =
    with_argument h (utf8_text 1 (codes "gcodepoint") args) (λ s.
    with_argument h (number_or (pos 1) 2 (codes "gcodepoint") (rest args)) (λ i.
    with_argument h (number_or (negsuc 0) 3 (codes "gcodepoint") (rest (rest args))) (λ j.
    make_gcodepoint (encode_utf8_all (points_of s i j)) h)))

abbrev pub point_given : {X : Type 0} → Cells → ℕ → List Symbol → Heap X → Plain X
point_given c at [] h = gives h (Nil ∷ [])
point_given c at (x ∷ xs) h = record { charge = 0; heap = set_cell_in h c.place (Number (pos (at + x.size))); end = Gives (Number (pos x.code) ∷ []) }

abbrev pub point_at : {X : Type 0} → Bytes → Cells → Option ℕ → Heap X → Plain X
point_at s c None h = gives h (Nil ∷ [])
point_at s c (Some at) h = point_given c at (points.symbols (drop at s)) h

abbrev pub point_step : {X : Type 0} → Cells → Heap X → Plain X
point_step c h = let s = held_text (cell_at h c.subject) in point_at s c (held_place (length s) (cell_at h c.place)) h

abbrev pub gcodepoint_step : {X : Type 0} → List Value → Heap X → Plain X
gcodepoint_step args h = iterator_step point_step args h

-- ---- `mw.text.gsplit(s, pattern, plain)`: a step gives a part of those that `split` puts into a table
abbrev pub make_gsplit : {X : Type 0} → Bool → Bytes → Bytes → Heap X → Plain X
make_gsplit plain s pattern h = make_iterator GsplitStep (Text s ∷ Text pattern ∷ Number (pos 0) ∷ Truth plain ∷ []) h

abbrev pub gsplit : {X : Type 0} → List Value → Heap X → Plain X
gsplit args h =
    with_argument h (utf8_text 1 (codes "gsplit") args) (λ s.
    with_argument h (utf8_text 2 (codes "gsplit") (rest args)) (λ pattern. make_gsplit (is_true (third args)) s pattern h))

abbrev pub place_or_nil : Option ℕ → Value
place_or_nil (Some at) = Number (pos at)
place_or_nil None = Nil

abbrev pub part_given : {X : Type 0} → Bytes → Cells → ℕ → Part → Heap X → Plain X
part_given s c at part h = record {
  charge = part.tries + length (slice s at part.stop);
  heap = set_cell_in h c.place (place_or_nil part.next);
  end = Gives (Text (slice s at part.stop) ∷ []);
}

abbrev pub parted : {X : Type 0} → Bytes → Cells → Option ℕ → Sought → Heap X → Plain X
parted s c None sought h = gives h (Nil ∷ [])
parted s c (Some at) sought h = part_given s c at (part_from sought s at) h

abbrev pub parted_by : {X : Type 0} → Bytes → Cells → Option ℕ → Result Sought ℕ → Heap X → Plain X
parted_by s c place (Err n) h = fails h (malformed n)
parted_by s c place (Ok sought) h = parted s c place sought h

abbrev pub part_step : {X : Type 0} → Cells → Heap X → Plain X
part_step c h =
    let s = held_text (cell_at h c.subject) in
    let pattern = held_text (cell_at h c.pattern) in
    let plain = is_true (cell_at h c.other) in
    with_charge (pattern_charge plain pattern) (parted_by s c (held_place (length s) (cell_at h c.place)) (sought_by plain pattern) h)

abbrev pub gsplit_step : {X : Type 0} → List Value → Heap X → Plain X
gsplit_step args h = iterator_step part_step args h

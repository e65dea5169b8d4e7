-- NO FUNCTION OF THE LIBRARY MAKES A FUNCTION OF LUA: in a heap whose functions are sound, they are so in the heap that each of them leaves.
-- Most leave all closures as they are; an iterator that is made is none of Lua's functions.
use Rattle.std.proofs.Common.{◌≡◌}
use Rattle.std.specs.Prelude.{ℕ, zero, suc, ℤ, ◌+ℤ◌, pos, negsuc, Bool, true, false, if◌then◌else◌, List, [], ◌∷◌, ◌++◌, Option, Some, None, Result, Ok, Err}
use Rattle.lua_meaning.specs.LuaNumberDeclaredArithmeticNumberFault.{NumberFault}
use Rattle.lua_meaning.specs.LuaFormatDeclaredValueFormatFault.{FormatFault}
use Rattle.lua_meaning.specs.LuaPatternDeclaredItemItem.{Item}
use Rattle.lua_meaning.specs.LuaPatternDeclaredItemSet.{Set}
use Rattle.lua_meaning.specs.LuaPatternDeclaredPatternMatch.{Match}
use Rattle.lua_meaning.specs.LuaPatternDeclaredSlotsSlot.{Slot}
use Rattle.lua_meaning.specs.LuaPatternLetters.{Letters, Symbol}
use Rattle.lua_meaning.specs.LuaPatternRead.{Read, Fault, Fine}
use Rattle.lua_meaning.specs.LuaPatternWay.{Answer, Nowhere, At}
use Rattle.lua_meaning.specs.LuaStringWalk.{Walk, Stops, Meets}
use Rattle.lua_meaning.specs.MwTextSplit.{Sought}
use Rattle.lua_meaning.specs.MwHtmlRender.{Piece, Whole, Deep, render}
use Rattle.lua_meaning.specs.LuaHeapTable.{Entries}
use Rattle.lua_walk.specs.LuaHeapValue.{Value, Number, Table, Text}
use Rattle.lua_walk.specs.LuaHeapHeap.{Heap, Closed, Function as FunctionClosed, Iterator, new_cell, set_in}
use Rattle.lua_meaning.specs.LuaHeapDeclaredLibraryLibrary.{Library}
use Rattle.lua_meaning.specs.Scope.{Bytes, Function}
use Rattle.lua_meaning.specs.Arguments.{Plain, PlainEnd, Argument, with_argument, with_charge}
use Rattle.lua_walk.specs.Copy.{copied}
use Rattle.lua_meaning.specs.Basic as basic
use Rattle.lua_meaning.specs.Mw as mw
use Rattle.lua_meaning.specs.Strings as strings
use Rattle.lua_meaning.specs.Searches as searches
use Rattle.lua_meaning.specs.Formats as formats
use Rattle.lua_meaning.specs.Numbers as numbers
use Rattle.lua_meaning.specs.TableLibrary as tables
use Rattle.lua_meaning.specs.TableLibrary.{Walk as TableWalk, PassedAll, Refused}
use Rattle.lua_meaning.specs.Ustring as ustring
use Rattle.lua_meaning.specs.Texts as texts
use Rattle.lua_meaning.specs.Tag as tags
use Rattle.lua_meaning.specs.Tag.{TagParts}
use Rattle.lua_meaning.specs.Html as html
use Rattle.lua_meaning.specs.Html.{Setter}
use Rattle.lua_meaning.specs.Iterators as iterators
use Rattle.lua_meaning.specs.Iterators.{Cells, Stand}
use Rattle.lua_meaning.specs.Frames as frames
use Rattle.lua_meaning.specs.FrameMethods.{Framed}
use Rattle.lua_meaning.specs.Gsub.{Alphabet, Given, Replacement, ByText, ByTable, ByFunction, Replaced, Made as MadeText, Faulty, GsubForm, GsubAnswers, GsubAsks, gsub_form, by_given, by_pattern, by_replacement, replaced_answer}
use Rattle.lua_lint_laws.proofs.Told.{Allowed, AreSound, IsSoundHeap, with_closed}

-- ITERATORS, and cells
no_function : (step : Library) (cells : List ℕ) (f : Function) → (◌≡◌ {A = Closed Function} (Iterator step cells) (FunctionClosed f)) → ⊥
no_function step cells f e = absurd cc

with_iterator : {P : Allowed} → (closures : List (Closed Function)) (step : Library) (cells : List ℕ) → AreSound P closures → AreSound P (closures ++ Iterator step cells ∷ [])
with_iterator closures step cells ok = with_closed closures (Iterator step cells) ok (λ f e. absurd (no_function step cells f e))

with_cells : {P : Allowed} → (vs : List Value) (h : Heap Function) → IsSoundHeap P h → IsSoundHeap P (iterators.new_cells vs h).0
with_cells [] h ok = ok
with_cells (v ∷ vs) h ok = with_cells vs (new_cell h v).0 ok

-- values that are put
with_put : {P : Allowed} → (i : ℤ) (vs : List Value) (t : ℕ) (h : Heap Function) → IsSoundHeap P h → IsSoundHeap P (tables.put_from i vs t h)
with_put i [] t h ok = ok
with_put i (v ∷ vs) t h ok = with_put (i +ℤ pos 1) vs t (set_in h t (Number i) v) ok

-- THE ANSWER of a function that calls back nobody, and of one that sees the frames
pub record Kept (P : Allowed) (p : Plain Function) : Type 0 where
  pub sound : IsSoundHeap P p.heap

pub record KeptFramed (P : Allowed) (f : Framed Function) : Type 0 where
  pub sound : IsSoundHeap P f.heap

pub changed : {P : Allowed} → (p : Plain Function) → IsSoundHeap P p.heap → Kept P p
changed p ok = record { sound = ok }

pub charged : {P : Allowed} → (n : ℕ) {p : Plain Function} → Kept P p → Kept P (with_charge n p)
charged n q = record { sound = q.sound }

pub either : {P : Allowed} → (b : Bool) {p q : Plain Function} → Kept P p → Kept P q → Kept P (if b then p else q)
either true p q = p
either false p q = q

abbrev pub KeepsGsub : Allowed → GsubForm Function → Type 0
KeepsGsub P (GsubAnswers plain) = IsSoundHeap P plain.heap
KeepsGsub P (GsubAsks charge job limit) = Unit {0}

-- an object that was set
set_ends : {P : Allowed} → (h : Heap Function) → IsSoundHeap P h → (m : ℕ) (fault : Option Bytes) → Kept P (html.set_ends h m fault)
set_ends h ok m None = record { sound = ok }
set_ends h ok m (Some message) = record { sound = ok }

module _ {P : Allowed} (h : Heap Function) (ok : IsSoundHeap P h) where
  pub same : {n : ℕ} {e : PlainEnd} → Kept P (record { charge = n; heap = h; end = e })
  same = record { sound = ok }

  pub given : {Y : Type 0} → (a : Argument Y) {f : Y → Plain Function} → ((y : Y) → Kept P (f y)) → Kept P (with_argument h a f)
  given (Ok y) k = k y
  given (Err message) k = same

  -- BASIC FUNCTIONS
  pub with_metatable : (t : ℕ) (m : Value) → Kept P (basic.with_metatable t m h)
  with_metatable t m = search (either, changed)

  pub with_entry : (t : ℕ) (key value : Value) → Kept P (basic.with_entry t key value h)
  with_entry t key value = search (either, changed)

  pub from_place : (n : ℤ) (vs : List Value) → Kept P (basic.from_place n vs h)
  from_place (pos zero) vs = same
  from_place (pos (suc n)) vs = same
  from_place (negsuc n) vs = search (either, changed)

  pub digits_in : (text : Bytes) (base : ℤ) → Kept P (basic.digits_in text base h)
  digits_in text (pos base) = search (either, changed)
  digits_in text (negsuc n) = same

  pub in_base : (args : List Value) (base : ℤ) → Kept P (basic.in_base args base h)
  in_base args base = search (either, given, digits_in, changed)

  pub next_entry : (es : Option Entries) → Kept P (basic.next_entry h es)
  next_entry None = same
  next_entry (Some es) = same

  -- PATTERNS
  pub answered : (size : Match → ℕ) (values : Match → List Value) (slots : List Slot) (a : Answer) → Kept P (searches.answered size values slots a h)
  answered size values slots (Nowhere tries) = same
  answered size values slots (At start end marks tries) = same

  pub by_read : (size : Match → ℕ) (values : Match → List Value) (s : Bytes) (from : ℕ) (r : Read) → Kept P (searches.by_pattern size values s from r h)
  by_read size values s from (Fault n) = same
  by_read size values s from (Fine anchored items slots) = search answered

  pub find_in : (plain : Bool) (s pattern : Bytes) (init : ℤ) → Kept P (searches.find_in plain s pattern init h)
  find_in true s pattern init = same
  find_in false s pattern init = search (charged, by_read)

  pub gives_match : (size : Match → ℕ) (values : Match → List Value) (slots : List Slot) (a : Answer) → Kept P (ustring.gives_match h size values slots a)
  gives_match size values slots (Nowhere tries) = same
  gives_match size values slots (At start end marks tries) = same

  pub searches_in : (size : Match → ℕ) (values : Match → List Value) (s : Bytes) (from : ℕ) (r : Read) → Kept P (ustring.searches h size values s from r)
  searches_in size values s from (Fault n) = same
  searches_in size values s from (Fine anchored items slots) = search gives_match

  pub find_from : (plain : Bool) (s pattern : Bytes) (from : ℕ) → Kept P (ustring.find_from h plain s pattern from)
  find_from true s pattern from = same
  find_from false s pattern from = search (charged, searches_in)

  -- TEXTS AND NUMBERS
  pub laid_out : (values : List Value) (r : Result Bytes FormatFault) → Kept P (formats.laid_out values r h)
  laid_out values (Ok text) = same
  laid_out values (Err e) = same

  pub number : (r : Result ℤ NumberFault) → Kept P (numbers.gives_number h r)
  number (Ok n) = same
  number (Err e) = same

  pub by_set : {f : Option Set → Plain Function} → ((set : Option Set) → Kept P (f set)) → (r : Result (Option Set) ℕ) → Kept P (texts.by_set h f r)
  by_set k (Ok set) = k set
  by_set k (Err n) = same

  pub splits : (s : Bytes) (r : Result Sought ℕ) → Kept P (texts.splits h s r)
  splits s (Ok sought) = record { sound = ok }
  splits s (Err n) = same

  pub tag_of : (p : TagParts) → Kept P (tags.tag_of p h)
  tag_of p = search (given, charged, changed)

  -- TABLES
  pub concat_values : (sep : Bytes) (i : ℤ) (vs : List Value) (w : TableWalk) → Kept P (tables.concat_values h sep i vs w)
  concat_values sep i vs PassedAll = same
  concat_values sep i vs (Refused k v) = same

  pub insert_values : (t : ℕ) (place : ℤ) (moved : ℕ) (v : Value) → Kept P (tables.insert_values t place moved v h)
  insert_values t place moved v = search (either, changed, with_put)

  pub insert_at : (t : ℕ) (place : ℤ) (v : Value) → Kept P (tables.insert_at t place v h)
  insert_at t place v = search (either, changed, insert_values)

  pub append : (t : ℕ) (v : Value) → Kept P (tables.append t v h)
  append t v = search (either, changed, insert_values)

  pub remove_at : (t : ℕ) (place : ℤ) → Kept P (tables.remove_at t place h)
  remove_at t place = search (either, changed, with_put)

  pub sort_values : (t : ℕ) (vs : List Value) → Kept P (tables.sort_values t vs h)
  sort_values t vs = search (either, changed, with_put)

  pub sort_walked : (t : ℕ) (one : Value) (vs : List Value) (w : TableWalk) → Kept P (tables.sort_walked t one vs h w)
  sort_walked t one vs PassedAll = search (charged, sort_values)
  sort_walked t one vs (Refused k v) = same

  -- COPIES
  pub clone_of : (v : Value) → IsSoundHeap P ((copied h v).0)
  clone_of (Table t) = ok
  clone_of v = ok

  -- OBJECTS OF mw.html
  pub set_given : (s : Setter) (m : ℕ) (given_ : List Value) → Kept P (html.set_given s h m given_)
  set_given s m (Table t ∷ more) = search (charged, set_ends)
  set_given s m more = search (given, changed)

  pub set_by : (s : Setter) (args : List Value) → Kept P (html.set_by s args h)
  set_by s args = search (given, set_given)

  pub adds_styles : (m : ℕ) (text : Option Bytes) → Kept P (html.adds_styles h m text)
  adds_styles m None = same
  adds_styles m (Some text) = record { sound = ok }

  pub adds_class : (m : ℕ) (class : Option Bytes) → Kept P (html.adds_class h m class)
  adds_class m None = same
  adds_class m (Some class) = record { sound = ok }

  pub gives_value : (v : Option Bytes) → Kept P (html.gives_value h v)
  gives_value None = same
  gives_value (Some v) = same

  pub gives_piece : (p : Piece) → Kept P (html.gives_piece h p)
  gives_piece (Whole bytes begun) = same
  gives_piece (Deep bytes begun) = same

  pub object_text : (m : ℕ) → IsSoundHeap P (html.text_of_object m h).heap
  object_text m = (gives_piece (render h.markup m)).sound

  -- ITERATORS
  pub make_iterator : (step : Library) (vs : List Value) → Kept P (iterators.make_iterator step vs h)
  make_iterator step vs = record { sound = with_iterator (iterators.new_cells vs h).0.closures step _ (with_cells vs h ok) }

  pub on_cells : (step : Cells → Heap Function → Plain Function) → ((c : Cells) → Kept P (step c h)) → (c : Option Cells) → Kept P (iterators.on_cells step c h)
  on_cells step k (Some c) = k c
  on_cells step k None = same

  pub goes_on : (a : Letters) (s : Bytes) (k : Stand) (c : Cells) (next : Option ℕ) → IsSoundHeap P (iterators.goes_on a s k c next h)
  goes_on a s k c None = ok
  goes_on a s k c (Some next) = ok

  pub walked : (a : Letters) (s : Bytes) (k : Stand) (c : Cells) (slots : List Slot) (w : Walk) → Kept P (iterators.walked a s k c slots w h)
  walked a s k c slots (Stops tries) = record { sound = ok }
  walked a s k c slots (Meets tries step next) = record { sound = goes_on a s k c next }

  pub walks : (a : Letters) (s : Bytes) (c : Cells) (at : Option ℕ) (anchored : Bool) (items : List Item) (slots : List Slot) → Kept P (iterators.walks a s c at anchored items slots h)
  walks a s c None anchored items slots = same
  walks a s c (Some at) anchored items slots = search walked

  pub walks_by : (a : Letters) (s : Bytes) (c : Cells) (at : Option ℕ) (r : Read) → Kept P (iterators.walks_by a s c at r h)
  walks_by a s c at (Fault n) = same
  walks_by a s c at (Fine anchored items slots) = walks a s c at anchored items slots

  pub match_step : (a : Letters) (c : Cells) → Kept P (iterators.match_step a c h)
  match_step a c = search (charged, walks_by)

  pub point_given : (c : Cells) (at : ℕ) (xs : List Symbol) → Kept P (iterators.point_given c at xs h)
  point_given c at [] = same
  point_given c at (x ∷ xs) = record { sound = ok }

  pub point_at : (s : Bytes) (c : Cells) (at : Option ℕ) → Kept P (iterators.point_at s c at h)
  point_at s c None = same
  point_at s c (Some at) = search point_given

  pub point_step : (c : Cells) → Kept P (iterators.point_step c h)
  point_step c = search point_at

  pub parted : (s : Bytes) (c : Cells) (at : Option ℕ) (sought : Sought) → Kept P (iterators.parted s c at sought h)
  parted s c None sought = same
  parted s c (Some at) sought = record { sound = ok }

  pub parted_by : (s : Bytes) (c : Cells) (at : Option ℕ) (r : Result Sought ℕ) → Kept P (iterators.parted_by s c at r h)
  parted_by s c at (Err n) = same
  parted_by s c at (Ok sought) = parted s c at sought

  pub part_step : (c : Cells) → Kept P (iterators.part_step c h)
  part_step c = search (charged, parted_by)

  -- FRAMES
  pub by_key : (t : ℕ) (key : Value) → Kept P (frames.by_key h t key)
  by_key t (Text name) = search (either, changed)
  by_key t v = same

  -- `gsub`
  pub replaced : (r : Replaced) → Kept P (replaced_answer h r)
  replaced (MadeText n text count) = same
  replaced (Faulty n fault) = same

  pub by_replaced : (a : Alphabet) (n : ℕ) (g : Given) (anchored : Bool) (items : List Item) (slots : List Slot) (r : Replacement) → KeepsGsub P (by_replacement a h n g anchored items slots r)
  by_replaced a n g anchored items slots (ByText text) = (replaced _).sound
  by_replaced a n g anchored items slots (ByTable t) = tt
  by_replaced a n g anchored items slots (ByFunction f) = tt

  pub by_pattern_kept : (a : Alphabet) (n : ℕ) (g : Given) (r : Read) → KeepsGsub P (by_pattern a h n g r)
  by_pattern_kept a n g (Fault fault) = ok
  by_pattern_kept a n g (Fine anchored items slots) = by_replaced a n g anchored items slots g.by

  pub by_given_kept : (a : Alphabet) (n : ℕ) (g : Argument Given) → KeepsGsub P (by_given a h n g)
  by_given_kept a n (Err message) = ok
  by_given_kept a n (Ok g) = search by_pattern_kept

  pub gsub_kept : (a : Alphabet) (args : List Value) → KeepsGsub P (gsub_form a args h)
  gsub_kept a args = search by_given_kept

-- WHEN `gsub` DOES THE SAME TO TWO HEAPS, of which the first stands in the second under a map of names: it answers alike, or asks for the
-- same matches behind the same charge, a table or a function that stands for the first one's. R relates what functions hold.
use Rattle.std.specs.Prelude.{ℕ, Bool, List}
use Rattle.lua_meaning.specs.LuaPatternDeclaredItemItem.{Item}
use Rattle.lua_meaning.specs.LuaPatternDeclaredSlotsSlot.{Slot}
use Rattle.lua_heap.specs.Value.{Value, Table}
use Rattle.lua_heap.specs.Heap.{Heap}
use Rattle.lua_heap.specs.Related.{Map, Each, Same, Stands}
use Rattle.lua_meaning.specs.Scope.{Bytes}
use Rattle.lua_meaning.specs.Arguments.{Plain}
use Rattle.lua_meaning.specs.Gsub.{Alphabet, Replacement, ByText, ByTable, ByFunction, Given, Job, Far, Replacing, Search, NoMatch, Matched, search, GsubForm, GsubAnswers, GsubAsks, gsub_form}
use Rattle.lua_library_agree.specs.Same.{SamePlain}

pub data SameReplacement (m : Map) : Replacement → Replacement → Type 0 where
  same_text : (t : Bytes) → SameReplacement m (ByText t) (ByText t)
  same_table : (a b : ℕ) → Same m (Table a) (Table b) → SameReplacement m (ByTable a) (ByTable b)
  same_function : (v w : Value) → Same m v w → SameReplacement m (ByFunction v) (ByFunction w)

abbrev pub given_of : Bytes → Bytes → Replacement → ℕ → Given
given_of s pattern by limit = record { subject = s; pattern = pattern; by = by; limit = limit }

pub data SameGiven (m : Map) : Given → Given → Type 0 where
  same_given : (s pattern : Bytes) (x y : Replacement) (limit : ℕ) → SameReplacement m x y → SameGiven m (given_of s pattern x limit) (given_of s pattern y limit)

abbrev pub job_of : Alphabet → Bytes → Bool → List Item → List Slot → Replacement → Job
job_of a s anchored items slots by = record { alphabet = a; subject = s; anchored = anchored; items = items; slots = slots; by = by }

pub data SameJob (m : Map) : Job → Job → Type 0 where
  same_job : (a : Alphabet) (t : Bytes) (anchored : Bool) (items : List Item) (slots : List Slot) (x y : Replacement) → SameReplacement m x y
      → SameJob m (job_of a t anchored items slots x) (job_of a t anchored items slots y)

-- the same answer, or the same charge and the same job, by what stands for one another
pub data SameGsub {X Y : Type 0} (R : Map → X → Y → Type 0) (m : Map) (h : Heap X) (s : Heap Y) : GsubForm X → GsubForm Y → Type 0 where
  alike_answers : (a : Plain X) (b : Plain Y) → SamePlain R m h s a b → SameGsub R m h s (GsubAnswers a) (GsubAnswers b)
  alike_asks : (n : ℕ) (x y : Job) (limit : ℕ) → SameJob m x y → SameGsub R m h s (GsubAsks n x limit) (GsubAsks n y limit)

-- THE SAME SEARCH: what waits goes on with the job of its side
abbrev pub replacing_of : Job → ℕ → Far → Bytes → Replacing
replacing_of job limit far matched = record { job = job; limit = limit; far = far; matched = matched }

pub data SameSearch (m : Map) (x y : Job) (limit : ℕ) : Search → Search → Type 0 where
  no_match : (tries : ℕ) → SameSearch m x y limit (NoMatch tries) (NoMatch tries)
  same_match : (tries : ℕ) (vs ws : List Value) (far : Far) (whole : Bytes) → Each (Same m) vs ws
      → SameSearch m x y limit (Matched tries vs (replacing_of x limit far whole)) (Matched tries ws (replacing_of y limit far whole))

-- THE LAWS
abbrev pub SearchesAgree : Type 0
SearchesAgree = (m : Map) (x y : Job) → SameJob m x y → (limit : ℕ) (far : Far) → SameSearch m x y limit (search x limit far) (search y limit far)

module _ {X Y : Type 0} (R : Map → X → Y → Type 0) where
  abbrev pub GsubAgrees : Type 0
  GsubAgrees =
      (m : Map) (h : Heap X) (s : Heap Y) → Stands R m h s → (a : Alphabet) (vs ws : List Value) → Each (Same m) vs ws → SameGsub R m h s (gsub_form a vs h) (gsub_form a ws s)

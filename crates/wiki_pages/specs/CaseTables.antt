-- What a table of constant parts says of going through a `#switch`. The code keeps this of its tables; no contract of this crate's callers
-- speaks of it.
use Rattle.std.specs.Prelude.{◌≡◌, ℕ, ◌+◌, ◌-◌, ◌%◌, ◌≤◌, Bool, true, false, cond, nat_eq, List, [], length, slice_get, Option, Some, None, fold}
use Rattle.std.specs.Hash.{u64}
use Rattle.std.specs.Hash.DefaultHasher as sip
use Rattle.std.specs.List.{IsDistinct}
use Rattle.std.specs.List.Sorted.{IsNonDecreasingBy}
use Rattle.std.specs.Map.{keys_of, lookup}
use Rattle.std.specs.RandomState.{initial_hasher}
use Rattle.std.specs.declared.random_state.RandomState.{RandomState}
use Rattle.indexmap.specs.IndexMap.{IndexMap, get, hasher_of}
use Rattle.wiki_markup.specs.WkBaseSpace.{trim}
use Rattle.wiki_markup.specs.Nodes.{Node}
use Rattle.wiki_markup.specs.Trees.{Trees, done, text, equals, node}
use Rattle.mw_frame.specs.declared.scene.Scene.{Scene}
use Rattle.expand_texts.specs.ExpandMeaningTexts.{number_of, are_equal}
use Rattle.expand_texts.specs.ExpandMeaningPlaces.{first_in}
use Rattle.expand_texts.specs.ExpandMeaningExpand.{Page, Looking, switch}
use Rattle.wiki_pages.specs.Stretches.{trees_between, parts_from}
use Rattle.wiki_pages.specs.declared.cases.Case.{Case}
use Rattle.wiki_pages.specs.declared.cases.Stretch.{Stretch}
use Rattle.wiki_pages.specs.declared.cases.Stop.{Stop}
use Rattle.wiki_pages.specs.declared.cases.CaseRun.{CaseRun}
use Rattle.wiki_pages.specs.declared.tables.CaseTable.{CaseTable}
use Rattle.wiki_pages.specs.declared.tables.Landing.{Landing}

-- ---- names

-- the text of a part's name that holds no construct and no parameter
abbrev pub constant_name : Trees → Option (List ℕ)
constant_name done = Some []
constant_name (equals rest) = Some []
constant_name (text bytes done) = Some bytes
constant_name (text bytes (equals rest)) = Some bytes
constant_name (text bytes (text more rest)) = None
constant_name (text bytes (node kind inside rest)) = None
constant_name (node kind inside rest) = None

abbrev pub equals_name : List ℕ → Option (List ℕ) → Bool
equals_name x (Some name) = are_equal x (trim name)
equals_name x None = false

-- the hash of a name: of a number's size, and else of its bytes
abbrev pub size_hash : RandomState → ℕ → ℕ
size_hash seed size = sip.finish (fold sip.write (initial_hasher seed) (u64 size))

abbrev pub text_hash : RandomState → List ℕ → ℕ
text_hash seed name = sip.finish (sip.write (initial_hasher seed) name)

abbrev pub hash_as : RandomState → Option (Bool × ℕ) → List ℕ → ℕ
hash_as seed (Some number) name = size_hash seed number.1
hash_as seed None name = text_hash seed name

-- of 64 bits 32 are kept
abbrev pub lower_half : ℕ → ℕ
lower_half hash = hash % 4294967296

unfoldable pub hash_of : RandomState → List ℕ → ℕ
hash_of seed name = lower_half (hash_as seed (number_of name) name)

-- ---- going through parts

-- for this value, going on with these parts comes to the same as with those
abbrev pub Same : List ℕ → List Trees → Looking → List Trees → Looking → Type 0
Same x ps s qs t = (sc : Scene) (k : List ℕ → Page) → switch x ps sc s k ≡ switch x qs sc t k

abbrev pub fresh : Trees → Looking
fresh d = record { met = false; waits = false; default = d }

abbrev pub met_before : Trees → Looking
met_before d = record { met = true; waits = false; default = d }

abbrev pub default_in : List Node → Option Stretch → Trees → Trees
default_in nodes None d = d
default_in nodes (Some s) d = trees_between nodes s.start s.end

abbrev pub size_in : Option Stretch → ℕ
size_in None = 0
size_in (Some s) = s.end - s.start

-- what is known where the run stops
abbrev pub stopped : List Node → Stop → Bool → Trees → Looking
stopped nodes stop met d = record { met = met; waits = stop.waits; default = default_in nodes stop.default d }

-- where an equal name leads: to the part that gives the value, or to the stop
abbrev pub Reaches : List ℕ → List Node → ℕ → ℕ → Stop → Trees → Option ℕ → Type 0
Reaches x nodes end at stop d (Some value) = Same x (parts_from nodes end at) (fresh d) (parts_from nodes end value) (met_before d)
Reaches x nodes end at stop d None = Same x (parts_from nodes end at) (fresh d) (parts_from nodes end stop.at) (stopped nodes stop true d)

-- A TABLE IS RIGHT for the run of parts from a place on.
pub record Right (hash : List ℕ → ℕ) (nodes : List Node) (end at : ℕ) (find : ℕ → Option Case) (values : List ℕ) (stop : Stop) : Type 0 where
  pub miss : (x : List ℕ) (d : Trees) → find (hash x) ≡ None → Same x (parts_from nodes end at) (fresh d) (parts_from nodes end stop.at) (stopped nodes stop false d)
  pub hit : (x : List ℕ) (d : Trees) (c : Case) → find (hash x) ≡ Some c → equals_name x (constant_name (first_in (parts_from nodes end c.at))) ≡ true → Reaches x nodes end at stop d (slice_get values c.group)
  pub within : (y : ℕ) (c : Case) → find y ≡ Some c → c.group ≤ length values
  pub light : (end - stop.at) + size_in stop.default ≤ end - at
  pub falls : (group value : ℕ) → slice_get values group ≡ Some value → end - value ≤ end - at

abbrev pub find_in : IndexMap ℕ Case RandomState → ℕ → Option Case
find_in cases y = get nat_eq cases y

-- of a run that is read
abbrev pub IsRightRun : List Node → ℕ → CaseRun → Type 0
IsRightRun nodes at t = Right (hash_of (hasher_of t.cases)) nodes t.end at (find_in t.cases) t.values.items t.stop

-- cases with their hashes: in order of these, each of which comes once
pub record InOrder (cases : List (ℕ × Case)) : Type 0 where
  pub rising : IsNonDecreasingBy (λ c. c.0) cases
  pub distinct : IsDistinct nat_eq (keys_of cases)

abbrev pub find_among : List (ℕ × Case) → ℕ → Option Case
find_among cases y = lookup (nat_eq y) cases

-- of a table that is held
pub record IsRight (nodes : List Node) (at : ℕ) (t : CaseTable) : Type 0 where
  pub right : Right (hash_of t.seed) nodes t.end at (find_among t.cases.items) t.values.items t.stop
  pub order : InOrder t.cases.items

-- all tables of a text are
abbrev pub AreRight : List Node → IndexMap ℕ CaseTable RandomState → Type 0
AreRight nodes tables = (at : ℕ) (t : CaseTable) → get nat_eq tables at ≡ Some t → IsRight nodes at t

abbrev pub AreRightIf : List Node → Option (IndexMap ℕ CaseTable RandomState) → Type 0
AreRightIf nodes (Some tables) = AreRight nodes tables
AreRightIf nodes None = Unit {0}

-- ---- a part is passed

-- a case is noted, unless one of that hash is there
abbrev pub noted : Option Case → Bool → Case → Option Case
noted (Some there) here c = Some there
noted None here c = cond here (Some c) None

abbrev pub Notes : (ℕ → Option Case) → (ℕ → Option Case) → ℕ → Case → Type 0
Notes old new y c = (q : ℕ) → new q ≡ noted (old q) (nat_eq y q) c

-- the part at the stop has this name
pub record Passes (old new : CaseRun) (name all_values : List ℕ) (next_stop : Stop) : Type 0 where
  pub hasher : hasher_of new.cases ≡ hasher_of old.cases
  pub notes : Notes (find_in old.cases) (find_in new.cases) (hash_of (hasher_of old.cases) name) (record { at = old.stop.at; group = length old.values.items })
  pub end : new.end ≡ old.end
  pub values : new.values.items ≡ all_values
  pub stop : new.stop ≡ next_stop

-- ---- where a value leads

-- what is known there and the parts to come are the same for the value, and there is less of them
abbrev pub Lands : List ℕ → List Node → ℕ → CaseTable → Landing → Type 0
Lands x nodes at t l =
    ((d : Trees) → Same x (parts_from nodes t.end at) (fresh d) (parts_from nodes t.end l.stop.at) (stopped nodes l.stop l.met d))
    × ((t.end - l.stop.at) + size_in l.stop.default ≤ t.end - at)

-- behind an equal part: at the value of its group, or at the stop
abbrev pub LandsBehind : Option ℕ → Stop → Landing → Type 0
LandsBehind (Some value) stop l = l ≡ record { met = true; stop = record { at = value; waits = false; default = None } }
LandsBehind None stop l = l ≡ record { met = true; stop = stop }

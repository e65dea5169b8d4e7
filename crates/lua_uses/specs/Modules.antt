-- WHICH GLOBAL VARIABLES A MODULE USES, with the modules that it requires: their names; or the first place at which one can be used by
-- another way than its name, or a module be required that no text names.
use Rattle.std.specs.Prelude.{ℕ, zero, suc, Bool, not, ◌&&◌, ◌||◌, ◌==◌, if◌then◌else◌, is_some, bytes_eq, List, [], ◌∷◌, ◌++◌, map, length, slice_get, Option, Some, None, Result, Ok, Err, codes}
use Rattle.std.specs.List.{list_any}
use Rattle.std.specs.declared.cmp.Ordering.{Ordering}
use Rattle.std.specs.Ordering.{nat_cmp}
use Rattle.std.specs.Cmp.Lexicographic.{slice_cmp}
use Rattle.std.specs.BTreeSet.{insert_key}
use Rattle.wk_base.specs.declared.title.Title.{Title}
use Rattle.wk_base.specs.contracts.title.TitlePartialEq.TheImpl as titles
use Rattle.wk_base.specs.declared.title.Namespace.TheVariants.{Main}
use Rattle.wk_base.specs.declared.title_read.TitleFault.{TitleFault}
use Rattle.wk_base.specs.Titles.{title_of}
use Rattle.lua_syntax.specs.Tree.{Block}
use Rattle.lua_uses.specs.Uses.{Use, text_uses}

-- a module: its title and its tree
pub record Named : Type 0 where
  pub title : Title
  pub chunk : Block

-- ---- what is required (Scribunto, "require"). A module is told by its place in a list of modules.

abbrev pub place_from : ℕ → List Named → Title → Option ℕ
place_from at [] title = None
place_from at (m ∷ more) title = if titles.ghosts.eq m.title title then Some at else place_from (suc at) more title

abbrev pub place_titled : List Named → Result Title TitleFault → Option ℕ
place_titled modules (Ok title) = place_from 0 modules title
place_titled modules (Err fault) = None

-- the module that `require(text)` runs, if the list has it; `strict` names none
abbrev pub place_named : List Named → List ℕ → Option ℕ
place_named modules text = if bytes_eq text (codes "strict") then None else place_titled modules (title_of text Main)

abbrev pub place_required : List Named → Option (List ℕ) → Option ℕ
place_required modules None = None
place_required modules (Some text) = place_named modules text

-- ---- the modules that are reached: the first one, and what each of them requires, in the order in which they are reached first

-- where the globals are named in the text of a module
abbrev pub uses_of : Option Named → List Use
uses_of None = []
uses_of (Some m) = text_uses m.chunk

abbrev pub uses_at : List Named → ℕ → List Use
uses_at modules at = uses_of (slice_get modules at)

abbrev pub with_place : List ℕ → Option ℕ → List ℕ
with_place seen None = seen
with_place seen (Some at) = if list_any (λ n. at == n) seen then seen else seen ++ at ∷ []

abbrev pub with_required : List Named → List ℕ → List Use → List ℕ
with_required modules seen [] = seen
with_required modules seen (u ∷ uses) = with_required modules (with_place seen (place_required modules u.required)) uses

abbrev pub if_any : Option ℕ → (ℕ → List ℕ) → List ℕ
if_any None go = []
if_any (Some at) go = go at

-- at most so many of those that were seen, from the next one on, and of those that they require
abbrev pub reach : List Named → ℕ → ℕ → List ℕ → List ℕ
reach modules zero next seen = []
reach modules (suc n) next seen = if_any (slice_get seen next) (λ at. at ∷ reach modules n (suc next) (with_required modules seen (uses_at modules at)))

abbrev pub reached : List Named → ℕ → List ℕ
reached modules root = reach modules (length modules) 0 (root ∷ [])

-- a module that was read: its place, and where its text names globals
pub record Read : Type 0 where
  pub place : ℕ
  pub uses : List Use

abbrev pub read_at : List Named → ℕ → Read
read_at modules at = record { place = at; uses = uses_at modules at }

abbrev pub reads : List Named → ℕ → List Read
reads modules root = map (read_at modules) (reached modules root)

-- ---- what can't be told

-- `_G` is the table of all globals; `require` reaches a module that is named only in a call with one text
abbrev pub hides : Use → Bool
hides u = bytes_eq u.name (codes "_G") || bytes_eq u.name (codes "require") && not (is_some u.required)

-- a place in a module
pub record Unknown : Type 0 where
  pub place : ℕ
  pub line : ℕ

abbrev pub hidden_in : ℕ → List Use → Option Unknown
hidden_in at [] = None
hidden_in at (u ∷ uses) = if hides u then Some (record { place = at; line = u.line }) else hidden_in at uses

abbrev pub or_else : Option Unknown → Option Unknown → Option Unknown
or_else None other = other
or_else (Some at) other = Some at

abbrev pub first_hidden : List Read → Option Unknown
first_hidden [] = None
first_hidden (r ∷ more) = or_else (hidden_in r.place r.uses) (first_hidden more)

-- ---- the names, each once, in the order of their bytes

abbrev pub by_bytes : List ℕ → List ℕ → Ordering
by_bytes = slice_cmp nat_cmp

abbrev pub with_uses : List (List ℕ) → List Use → List (List ℕ)
with_uses names [] = names
with_uses names (u ∷ uses) = with_uses (insert_key by_bytes names u.name) uses

abbrev pub names_from : List (List ℕ) → List Read → List (List ℕ)
names_from names [] = names
names_from names (r ∷ more) = names_from (with_uses names r.uses) more

-- ---- THE ANSWER
pub data GlobalUses : Type 0 where
  Names : (names : List (List ℕ)) → GlobalUses
  CannotTell : (at : Unknown) → GlobalUses

abbrev pub answer : Option Unknown → List (List ℕ) → GlobalUses
answer None names = Names names
answer (Some at) names = CannotTell at

abbrev pub answer_of : List Read → GlobalUses
answer_of rs = answer (first_hidden rs) (names_from [] rs)

abbrev pub uses : List Named → ℕ → GlobalUses
uses modules root = answer_of (reads modules root)

-- TABLE CONSTRUCTORS (manual 2.5.7). The fields are set in the order in which they are written, without metamethods.
use Rattle.std.specs.Prelude.{ℕ, ◌+◌, pos, List, [], ◌∷◌}
use Rattle.page_run.specs.Outcome.{◌>>=◌, ◌>>◌, give}
use Rattle.lua_walk.specs.LuaHeapValue.{Value, Number, Table}
use Rattle.lua_meaning.specs.Scope.{Scope, Levels, levels}
use Rattle.lua_meaning.specs.Acts.{Act, node, one, make_table}
use Rattle.lua_meaning.specs.Index.{set_entry}
use Rattle.lua_meaning.specs.Parts.{Expression, FieldMeaning, ItemOf, PairOf}

-- values at the places from n on
abbrev pub set_items : ℕ → ℕ → List Value → Levels → Act (Unit {0})
set_items t n [] ls = give tt
set_items t n (v ∷ vs) ls = do
  set_entry t (Number (pos n)) v ls
  set_items t (n + 1) vs ls

-- an item of which one value counts, at place n
abbrev pub set_item : ℕ → ℕ → Expression → Levels → Scope → Act (Unit {0})
set_item t n e ls scope = do
  v ← one (e scope)
  set_entry t (Number (pos n)) v ls

-- the last item, with all its values
abbrev pub set_last : ℕ → ℕ → Expression → Levels → Scope → Act (Unit {0})
set_last t n e ls scope = do
  vs ← e scope
  set_items t n vs ls

abbrev pub set_pair : ℕ → Expression → Expression → Levels → Scope → Act (Unit {0})
set_pair t key e ls scope = do
  k ← one (key scope)
  v ← one (e scope)
  set_entry t k v ls

-- fields, of which the next item has place n
abbrev pub set_fields : ℕ → ℕ → List FieldMeaning → Levels → Scope → Act (Unit {0})
set_fields t n [] ls scope = give tt
set_fields t n (ItemOf e ∷ []) ls scope = set_last t n e ls scope
set_fields t n (ItemOf e ∷ more) ls scope = set_item t n e ls scope >> set_fields t (n + 1) more ls scope
set_fields t n (PairOf key e ∷ more) ls scope = set_pair t key e ls scope >> set_fields t n more ls scope

abbrev pub table_constructor : List FieldMeaning → ℕ → Expression
table_constructor fields line scope = do
  node
  t ← make_table
  set_fields t 1 fields (levels scope line) scope
  give (Table t ∷ [])

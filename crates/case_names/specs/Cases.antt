-- THE CASES that the text of a test module names: the keys, beginning with `test`, under which it puts functions into a table.
use Rattle.std.specs.Prelude.{ℕ, Bool, true, false, ◌==◌, if◌then◌else◌, List, [], ◌∷◌, ◌++◌, Option, Some, None, codes}
use Rattle.std.specs.List.{list_any, starts_with, cons_option}
use Rattle.std.specs.Str.{bytes_eq}
use Rattle.lua_syntax.specs.Tree.{Exp, Exps, Fields, Block, Stat, TextE, FunctionE, IndexE, TableE, NoExp, MoreExp, NoField, Item, Pair, NoStat, MoreStat, AssignS, ReturnS}

-- ---- keys of functions

abbrev pub text_of : Exp → Option (List ℕ)
text_of (TextE line text) = Some text
text_of _ = None

abbrev pub is_function : Exp → Bool
is_function (FunctionE line f) = true
is_function _ = false

-- the key of an index, where it is a text, as in `p.key` and `p['key']`
abbrev pub index_key : Exp → Option (List ℕ)
index_key (IndexE line of key) = text_of key
index_key _ = None

abbrev pub where_function : Exp → Option (List ℕ) → Option (List ℕ)
where_function value key = if is_function value then key else None

abbrev pub only_one : Exps → Option Exp
only_one (MoreExp e NoExp) = Some e
only_one _ = None

-- one function is assigned to one index: `function p.key() .. end`, `p.key = function() .. end`
abbrev pub assigned_key : Option Exp → Option Exp → Option (List ℕ)
assigned_key (Some target) (Some value) = where_function value (index_key target)
assigned_key _ _ = None

abbrev pub listed : Option (List ℕ) → List (List ℕ)
listed key = cons_option key []

-- the keys of functions in a table: `{key = function() .. end}`
abbrev pub field_keys : Fields → List (List ℕ)
field_keys NoField = []
field_keys (Item value rest) = field_keys rest
field_keys (Pair key value rest) = listed (where_function value (text_of key)) ++ field_keys rest

abbrev pub table_keys : Exp → List (List ℕ)
table_keys (TableE line fields) = field_keys fields
table_keys _ = []

-- one table is returned
abbrev pub returned_keys : Option Exp → List (List ℕ)
returned_keys (Some value) = table_keys value
returned_keys None = []

abbrev pub stat_keys : Stat → List (List ℕ)
stat_keys (AssignS line targets values) = listed (assigned_key (only_one targets) (only_one values))
stat_keys (ReturnS line values) = returned_keys (only_one values)
stat_keys _ = []

-- those of the statements of a text's own block, in order; what stands in blocks and functions inside it doesn't count
abbrev pub block_keys : Block → List (List ℕ)
block_keys NoStat = []
block_keys (MoreStat s rest) = stat_keys s ++ block_keys rest

-- ---- cases

abbrev pub names_case : List ℕ → Bool
names_case key = starts_with ◌==◌ key (codes "test")

-- each once, at its first place
abbrev pub with_case : List (List ℕ) → List ℕ → List (List ℕ)
with_case cases key = if list_any (bytes_eq key) cases then cases else cases ++ key ∷ []

abbrev pub with_cases : List (List ℕ) → List (List ℕ) → List (List ℕ)
with_cases cases [] = cases
with_cases cases (key ∷ keys) = with_cases (if names_case key then with_case cases key else cases) keys

-- THE CASES of a text, by its tree
abbrev pub cases_of : Block → List (List ℕ)
cases_of tree = with_cases [] (block_keys tree)

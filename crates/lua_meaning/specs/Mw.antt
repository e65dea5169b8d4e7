-- FUNCTIONS OF `mw` that call back nobody (Scribunto, mw library and mw.title).
use Rattle.std.specs.Prelude.{List, [], ◌∷◌, length, codes}
use Rattle.lua_syntax.specs.WkBaseDeclaredTitleTitle.{Title}
use Rattle.lua_syntax.specs.WkBaseTitles.{title_text, prefix_of}
use Rattle.lua_walk.specs.LuaHeapValue.{Value, Nil, Text, Table}
use Rattle.mw_html.specs.LuaHeapTable.{Entries}
use Rattle.lua_walk.specs.LuaHeapHeap.{Heap}
use Rattle.lua_walk.specs.Copy.{copied, copy_cost}
use Rattle.lua_meaning.specs.Charges.{filled_table_charge}
use Rattle.lua_meaning.specs.Values.{first}
use Rattle.lua_meaning.specs.Arguments.{Plain, gives, costs}
use Rattle.lua_meaning.specs.Frames.{with_table}

-- `mw.log(...)` does nothing
abbrev pub log : {X : Type 0} → List Value → Heap X → Plain X
log args h = gives h []

-- `mw.clone(v)` gives a copy, with all tables that are reached; it costs 8 steps for each of them, and 4 for each of their entries
abbrev pub clone : {X : Type 0} → List Value → Heap X → Plain X
clone args h = costs (copy_cost h (first args)) (copied h (first args)).0 ((copied h (first args)).1 ∷ [])

-- `mw.title.getCurrentTitle()` gives a table with the texts of the page's title.
abbrev pub title_entries : Title → Entries
title_entries title =
    (Text (codes "text"), Text title.name)
    ∷ (Text (codes "nsText"), Text (prefix_of title.ns))
    ∷ (Text (codes "prefixedText"), Text (title_text title))
    ∷ []

abbrev pub get_current_title : {X : Type 0} → Title → Heap X → Plain X
get_current_title page h = costs (filled_table_charge 3) (with_table h (title_entries page) Nil) (Table (length h.tables) ∷ [])

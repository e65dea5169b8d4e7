-- THE LAWS OF A FRESH ENVIRONMENT (manual 5; Scribunto, "Lua environment"). It was made in some heap: the nine tables stand behind those that
-- were there (`with_home`), at these numbers.
use Rattle.std.specs.Prelude.{◌≡◌, ℕ, false, length}
use Rattle.lua_heap.specs.Proc.{Proc}
use Rattle.lua_heap.specs.Heap.{Heap, table_at}
use Rattle.lua_points.specs.LuaMeaningStart.{Work}
use Rattle.lua_points.specs.LuaSlotsCode.{CWorld}
use Rattle.lua_points.specs.Told.{IsHome, slots_at_start}
use Rattle.lua_points.specs.Clauses.{Starts}
use Rattle.lua_home.specs.declared.made.Tables.{Tables}
use Rattle.lua_home.specs.Made.{with_home, AreAt, IsHomeAt}

-- its tables are new ones that stand for those with which each run begins, and nothing that was there was changed
abbrev pub FreshIsHome : Type 0
FreshIsHome = (code : CWorld) (before after : Heap Proc) (tables : Tables) → after ≡ with_home before → AreAt (length before.tables) tables
    → IsHome code tables.globals.at tables.strings.at before after

-- the same, where only the two tables are known that a run keeps at hand
abbrev pub MadeIsHome : Type 0
MadeIsHome = (code : CWorld) (before after : Heap Proc) (globals strings : ℕ) → after ≡ with_home before → IsHomeAt (length before.tables) globals strings
    → IsHome code globals strings before after

-- the table of the global variables can be written
abbrev pub MadeIsOpen : Type 0
MadeIsOpen = (before after : Heap Proc) (globals strings : ℕ) → after ≡ with_home before → IsHomeAt (length before.tables) globals strings
    → (table_at after globals).frozen ≡ false

-- so a machine that holds these two, and nothing else yet, is at the start of each run of its work
abbrev pub MadeStarts : Type 0
MadeStarts = (code : CWorld) (work : Work) (before after : Heap Proc) (globals strings : ℕ) → after ≡ with_home before → IsHomeAt (length before.tables) globals strings
    → Starts code work before (slots_at_start after globals strings)

-- TABLES OF VALUES (manual 2.2, 2.5.5, 2.5.7 and 5.1): the tables of `lua_table`, at the values of Lua.
use Rattle.std.specs.Prelude.{ℕ, zero, suc, ◌+◌, pos, min, Bool, false, if◌then◌else◌, List, [], length, Option, Some, ◌≤◌}
use Rattle.std.specs.Option.{option_map}
use Rattle.lua_table.specs.Entries.{Contents, value_at, is_there, set_at, after_key, first_live, Stop, IsBorder, HasKeys}
use Rattle.lua_heap.specs.Value.{Value, Nil, Number, same, is_nil}

abbrev pub Entries : Type 0
Entries = List (Value × Value)

-- a table without entries, which has no metatable and can be written
abbrev pub empty_table : Contents Value
empty_table = record { entries = []; meta = Nil; frozen = false }

-- the value of a key as `rawget` gives it, or nil
abbrev pub get : Entries → Value → Value
get es key = value_at same Nil es key

-- whether the key has an entry, cleared or not
abbrev pub has : Entries → Value → Bool
has es key = is_there same Nil es key

-- the entries after a set as `rawset` does it
abbrev pub set : Entries → Value → Value → Entries
set es key value = set_at same Nil es key value

-- the entries behind a key, where it is there
abbrev pub behind_key : Entries → Value → Option Entries
behind_key es key = after_key same Nil es key

-- a key, its value, and how many cleared entries were passed over; nil and nil at the end
abbrev pub ValueStop : Type 0
ValueStop = Stop same Nil

-- where a walk by `next` stops that goes over these entries
abbrev pub first_entry : Entries → ValueStop
first_entry es = first_live same Nil es

-- what `next` gives for a key, and for nil; None where the key never was set
abbrev pub next : Entries → Value → Option ValueStop
next es key = if is_nil key then Some (first_entry es) else option_map first_entry (behind_key es key)

-- each key is there once, and none is nil
abbrev pub HasValueKeys : Entries → Type 0
HasValueKeys es = HasKeys same Nil es

-- THE LEAST BORDER, which is what `#` gives. It counts on from n while the next number has a value, at most so often.
abbrev pub border_from : ℕ → ℕ → Entries → ℕ
border_from zero n es = n
border_from (suc more) n es = if is_nil (get es (Number (pos (n + 1)))) then n else border_from more (n + 1) es

-- No more numbers have a value than there are entries, nor than there are whole numbers from 1 on.
abbrev pub border : Entries → ℕ
border es = border_from (min (length es) 9223372036854775807) 0 es

-- what the calls of `lua_table` say of a border
abbrev pub IsLeast : Entries → ℕ → Type 0
IsLeast es n = (n ≤ 9223372036854775807) × IsBorder same Nil Number es n

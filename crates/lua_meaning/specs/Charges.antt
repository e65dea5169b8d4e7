-- CHARGES in steps: each number once. Besides these each value of `...`, each thing that begins, and each entry that `next` passes or
-- `unpack` reads costs 1, and a text that is made, a message with its place, and a module's text cost their bytes.
use Rattle.std.specs.Prelude.{ℕ, ◌+◌, ◌*◌}
use Rattle.lua_walk.specs.Copy.{copied_table_charge, copied_entry_charge}

-- the start of an invocation, with its frame, and of a data module
abbrev pub run_charge : ℕ
run_charge = 1000

-- an expression or a statement
abbrev pub node_charge : ℕ
node_charge = 1

-- a table or a closure that is made, and a new entry in a table: as `mw.clone` pays for its tables and entries
abbrev pub table_charge : ℕ
table_charge = copied_table_charge

abbrev pub closure_charge : ℕ
closure_charge = 8

abbrev pub entry_charge : ℕ
entry_charge = copied_entry_charge

-- a table that a function of the library makes, with so many entries
abbrev pub filled_table_charge : ℕ → ℕ
filled_table_charge entries = table_charge + entry_charge * entries

-- a parent or a child of a frame; and each argument of a frame, beside the bytes of its name and value
abbrev pub frame_charge : ℕ
frame_charge = 16

abbrev pub argument_charge : ℕ
argument_charge = 4

-- WHAT AN OPERATION DOES. Each but a few is a move of the machine over trees above no frames, with the values that were read; and then
-- the operation puts what was given where it wants it, and goes on at a place. So handlers, errors with their messages and lines, and
-- functions of the library are those of the machine over trees.
use Rattle.std.specs.Prelude.{ℕ, ◌+◌, ◌-◌, ℤ, pos, ◌+ℤ◌, Bool, true, false, List, [], ◌∷◌, length, Option, Some, None}
use Rattle.lua_slots.specs.LuaNumberWhole.{fits}
use Rattle.lua_slots.specs.LuaHeapValue.{Value, Number, Text, Table, is_true, is_nil}
use Rattle.lua_slots.specs.LuaHeapProc.{Proc}
use Rattle.lua_slots.specs.LuaHeapHeap.{new_table}
use Rattle.lua_slots.specs.LuaMeaningCharges.{table_charge, closure_charge}
use Rattle.lua_slots.specs.LuaMeaningValues.{first, second, third, number_in}
use Rattle.lua_slots.specs.LuaMeaningActs.{Raised}
use Rattle.lua_slots.specs.LuaMeaningLoops.{is_within}
use Rattle.lua_slots.specs.LuaMeaningMessages.{no_initial_value, no_limit, no_step, no_target}
use Rattle.lua_slots.specs.Code.{Constants}
use Rattle.lua_slots.specs.Slots.{Slot, Plain, Slots, slot_cell, cell_value, with_cell, and_cell, with_closure, next_closure, function_of}
use Rattle.lua_slots.specs.Points.{Move, Costs}
use Rattle.lua_slots.specs.Errors.{gives, jumps, fails}
use Rattle.lua_slots.specs.Calls.{call}
use Rattle.lua_slots.specs.Index.{index_table, index, set_index, set_entry}
use Rattle.lua_slots.specs.Operators.{operate, apply}
use Rattle.lua_slots.specs.Expressions.{with_table, items}
use Rattle.std.specs.Prelude.{slice_get}
use Rattle.lua_flat.specs.Operations.{Wanted, Exactly, Every, Origin, InRegister, InCaptured}
use Rattle.lua_flat.specs.Operations.{Op, LoadF, NilsF, DotsF, ClosureF, GetCellF, SetCellF, GetUpF, SetUpF, GetGlobalF, SetGlobalF, IndexF, SetIndexF, MethodF, TableF, SetFieldF, SetItemsF, OperateF, UnaryF, JumpF, TestF, CompareF, CountBeginsF, CountGoesOnF, EachCallsF, EachTestsF, CallF, RefuseF}
use Rattle.lua_flat.specs.Registers.{read, put, operand, values_at, adjusted, put_values, taken, top_of}

-- WHERE IT GOES ON, with the registers and the top there
pub record Landing : Type 0 where
  pub pc : ℕ
  pub regs : List Slot
  pub top : ℕ

-- CELLS that a new function captures
abbrev pub origin_cell : List Slot → ℕ → List ℕ → Origin → Option ℕ
origin_cell regs base cells (InRegister r) = slot_cell (slice_get regs (base + r))
origin_cell regs base cells (InCaptured i) = slice_get cells i

abbrev pub origin_cells : List Slot → ℕ → List ℕ → List Origin → List ℕ
origin_cells regs base cells [] = []
origin_cells regs base cells (o ∷ os) = and_cell (origin_cell regs base cells o) (origin_cells regs base cells os)

abbrev pub captures : ℕ → List Origin → List Slot → ℕ → Slots → Proc
captures index origins regs base s = record { title = (function_of s).source; index = index; cells = origin_cells regs base (function_of s).cells origins }

-- ARGUMENTS from a register on
abbrev pub values_to : Wanted → List Slot → ℕ → ℕ → List Value
values_to (Exactly n) regs at top = values_at regs at n
values_to Every regs at top = values_at regs at (top - at)

-- COUNTING (manual 2.4.5): three numbers, or an error
abbrev pub counted : Option ℤ → Option ℤ → Option ℤ → Option ℕ → Slots → Move
counted (Some index) (Some limit) (Some step) line s = gives (Number index ∷ Number limit ∷ Number step ∷ []) [] s
counted (Some index) (Some limit) None line s = fails line no_step [] s
counted (Some index) None step line s = fails line no_limit [] s
counted None limit step line s = fails line no_initial_value [] s

-- a constructor's table gets an entry, or the values behind one another
abbrev pub set_field : Value → Value → Value → Option ℕ → Slots → Move
set_field (Table t) key value line s = set_entry t key value line [] s
set_field v key value line s = gives [] [] s

abbrev pub set_items : Value → ℕ → List Value → ℕ → Slots → Move
set_items (Table t) place vs line s = items t place vs line [] s
set_items v place vs line s = gives [] [] s

abbrev pub or_zero : Option ℕ → ℕ
or_zero (Some line) = line
or_zero None = 0

-- THE MOVE of an operation, at these constants and this line, with the registers of the function that begin at the base
abbrev pub move_of : Constants → Option ℕ → ℕ → List Slot → ℕ → Slots → Op → Move
move_of cs line base regs top s (LoadF to from) = gives (operand cs regs base from ∷ []) [] s
move_of cs line base regs top s (DotsF to wanted) = Costs (length (function_of s).dots) (gives (function_of s).dots [] s)
move_of cs line base regs top s (ClosureF to index origins) = Costs closure_charge (gives (next_closure s ∷ []) [] (with_closure (captures index origins regs base s) s))
move_of cs line base regs top s (GetCellF to cell) = gives (cell_value s.heap (slot_cell (slice_get regs (base + cell))) ∷ []) [] s
move_of cs line base regs top s (SetCellF cell from) = gives [] [] (with_cell (slot_cell (slice_get regs (base + cell))) (operand cs regs base from) s)
move_of cs line base regs top s (GetUpF to i) = gives (cell_value s.heap (slice_get (function_of s).cells i) ∷ []) [] s
move_of cs line base regs top s (SetUpF i from) = gives [] [] (with_cell (slice_get (function_of s).cells i) (operand cs regs base from) s)
move_of cs line base regs top s (GetGlobalF to name) = index_table s.globals (Text (cs name)) line [] s
move_of cs line base regs top s (SetGlobalF name from) = set_index (Table s.globals) (Text (cs name)) (operand cs regs base from) line [] s
move_of cs line base regs top s (IndexF to of key) = index (operand cs regs base of) (operand cs regs base key) line [] s
move_of cs line base regs top s (SetIndexF of key from) = set_index (operand cs regs base of) (operand cs regs base key) (operand cs regs base from) line [] s
move_of cs line base regs top s (MethodF to of name) = index (operand cs regs base of) (Text (cs name)) line [] s
move_of cs line base regs top s (TableF to) = Costs table_charge (gives (Table (new_table s.heap).1 ∷ []) [] (with_table s))
move_of cs line base regs top s (SetFieldF table key from) = set_field (read regs (base + table)) (operand cs regs base key) (operand cs regs base from) line s
move_of cs line base regs top s (SetItemsF table place from) = set_items (read regs (base + table)) place (values_to Every regs (base + from) top) (or_zero line) s
move_of cs line base regs top s (OperateF o to a b) = operate o (operand cs regs base a) (operand cs regs base b) line [] s
move_of cs line base regs top s (UnaryF o to a) = apply o (operand cs regs base a) line [] s
move_of cs line base regs top s (TestF when a target) = gives (operand cs regs base a ∷ []) [] s
move_of cs line base regs top s (CompareF o a b when target) = operate o (operand cs regs base a) (operand cs regs base b) line [] s
move_of cs line base regs top s (CountBeginsF b target) = counted (number_in (read regs (base + b))) (number_in (read regs (base + b + 1))) (number_in (read regs (base + b + 2))) line s
move_of cs line base regs top s (EachCallsF b count) = call (read regs (base + b)) (read regs (base + b + 1) ∷ read regs (base + b + 2) ∷ []) line [] s
move_of cs line base regs top s (CallF to b arguments results) = call (read regs (base + b)) (values_to arguments regs (base + b + 1) top) line [] s
move_of cs line base regs top s RefuseF = jumps (Raised (Text no_target)) [] s
move_of cs line base regs top s o = gives [] [] s

-- WHAT BECOMES OF THE VALUES that it gives: one goes to a register, several to registers in a row, and a truth decides the place
abbrev pub into : ℕ → Value → ℕ → List Slot → ℕ → Landing
into at v pc regs top = record { pc = pc + 1; regs = put at (Plain v) regs; top = top }

abbrev pub row : Wanted → ℕ → List Value → ℕ → List Slot → ℕ → Landing
row wanted at vs pc regs top = record { pc = pc + 1; regs = put_values at (taken wanted vs) regs; top = top_of wanted at vs top }

abbrev pub at_place : ℕ → List Slot → ℕ → Landing
at_place pc regs top = record { pc = pc; regs = regs; top = top }

-- whether a truth is this one
abbrev pub is_so : Bool → Bool → Bool
is_so true b = b
is_so false true = false
is_so false false = true

abbrev pub place_if : Bool → ℕ → ℕ → ℕ
place_if true yes_place no_place = yes_place
place_if false yes_place no_place = no_place

abbrev pub whole : Value → ℤ
whole (Number n) = n
whole _ = pos 0

-- the loop goes on with this index, or ends
abbrev pub count_if : Bool → ℤ → ℕ → ℕ → ℕ → List Slot → ℕ → Landing
count_if true index at goes_on ends regs top = record { pc = goes_on; regs = put (at + 3) (Plain (Number index)) (put at (Plain (Number index)) regs); top = top }
count_if false index at goes_on ends regs top = at_place ends regs top

abbrev pub fits_within : Bool → Bool → Bool
fits_within true b = b
fits_within false b = false

abbrev pub each_if : Bool → ℕ → ℕ → ℕ → List Slot → ℕ → Landing
each_if true at pc target regs top = at_place target regs top
each_if false at pc target regs top = record { pc = pc + 1; regs = put (at + 2) (Plain (read regs (at + 3))) regs; top = top }

-- from the numbers that are in the three registers
abbrev pub counts_from : ℤ → ℤ → ℤ → ℕ → ℕ → ℕ → List Slot → ℕ → Landing
counts_from index limit step at pc target regs top = count_if (is_within index limit step) index at (pc + 1) target regs top

abbrev pub counts_on : ℤ → ℤ → ℤ → ℕ → ℕ → ℕ → List Slot → ℕ → Landing
counts_on index limit step at pc target regs top = count_if (fits_within (fits (index +ℤ step)) (is_within (index +ℤ step) limit step)) (index +ℤ step) at target (pc + 1) regs top

abbrev pub becomes : Op → ℕ → ℕ → List Value → List Slot → ℕ → Landing
becomes (LoadF to from) base pc vs regs top = into (base + to) (first vs) pc regs top
becomes (NilsF to count) base pc vs regs top = row (Exactly count) (base + to) [] pc regs top
becomes (DotsF to wanted) base pc vs regs top = row wanted (base + to) vs pc regs top
becomes (ClosureF to index origins) base pc vs regs top = into (base + to) (first vs) pc regs top
becomes (GetCellF to cell) base pc vs regs top = into (base + to) (first vs) pc regs top
becomes (GetUpF to i) base pc vs regs top = into (base + to) (first vs) pc regs top
becomes (GetGlobalF to name) base pc vs regs top = into (base + to) (first vs) pc regs top
becomes (IndexF to of key) base pc vs regs top = into (base + to) (first vs) pc regs top
becomes (MethodF to of name) base pc vs regs top = into (base + to) (first vs) pc regs top
becomes (TableF to) base pc vs regs top = into (base + to) (first vs) pc regs top
becomes (OperateF o to a b) base pc vs regs top = into (base + to) (first vs) pc regs top
becomes (UnaryF o to a) base pc vs regs top = into (base + to) (first vs) pc regs top
becomes (JumpF target) base pc vs regs top = at_place target regs top
becomes (TestF when a target) base pc vs regs top = at_place (place_if (is_so when (is_true (first vs))) target (pc + 1)) regs top
becomes (CompareF o a b when target) base pc vs regs top = at_place (place_if (is_so when (is_true (first vs))) target (pc + 1)) regs top
becomes (CountBeginsF b target) base pc vs regs top =
    counts_from (whole (first vs)) (whole (second vs)) (whole (third vs)) (base + b) pc target (put_values (base + b) (adjusted 3 vs) regs) top
becomes (CountGoesOnF b target) base pc vs regs top =
    counts_on (whole (read regs (base + b))) (whole (read regs (base + b + 1))) (whole (read regs (base + b + 2))) (base + b) pc target regs top
becomes (EachCallsF b count) base pc vs regs top = row (Exactly count) (base + b + 3) vs pc regs top
becomes (EachTestsF b target) base pc vs regs top = each_if (is_nil (read regs (base + b + 3))) (base + b) pc target regs top
becomes (CallF to b arguments results) base pc vs regs top = row results (base + to) vs pc regs top
becomes o base pc vs regs top = at_place (pc + 1) regs top

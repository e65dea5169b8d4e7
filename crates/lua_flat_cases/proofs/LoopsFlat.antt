-- Flat code of small modules: each function's flat code is code of it.
use Rattle.std.proofs.Common.{[], ◌∷◌, refl, arith}
use Rattle.lua_flat.specs.Locals.{PlainL, CellL}
use Rattle.lua_flat.specs.Operations.{Exactly, Every}
use Rattle.lua_flat.specs.IsExpression.{there_local, there_constant, there_text, no_origin, from_register, in_place, made, loaded, closure_of, cell_of, captured_of, global_of, index_of, operate_of, unary_of, table_of, first_of_many, call_of, row_none, row_one, row_many, row_more, fields_end, field_item, field_pair, exact_one, exact_many, test_true, compare_miss}
use Rattle.lua_flat.specs.IsStatement.{joined, no_cells, cells, set_captured, captured_variable, assign_into, assign_variable, assign_entry, while_loop, if_arms, count_loop, count_by_loop, each_loop, return_row, return_one, break_away, block_end, block_declares, block_names, block_then, arms_end, arm_then}
use Rattle.lua_flat_cases.specs.Loops.{WhileBreakIsFlat, NestedBreaksIsFlat, CountDownIsFlat, NoNumbersIsFlat, PairsLoopIsFlat, OwnIteratorIsFlat, AllFlatLoops}

while_break_is_flat : WhileBreakIsFlat
while_break_is_flat = (
  record {
    flags = refl;
    dots = refl;
    room = omega arith;
    owed = 0;
    end = 4;
    locals = [];
    free = 0;
    body =
        (block_then (return_row (row_one (omega arith) (table_of (omega arith) (omega arith) refl (field_pair (in_place there_text) (made (omega arith) (closure_of no_origin refl)) (refl, refl) fields_end))) refl)
        block_end);
    returns = refl;
  },
  record {
    flags = refl;
    dots = refl;
    room = omega arith;
    owed = 0;
    end = 7;
    locals = (PlainL 0 ∷ []);
    free = 1;
    body =
        (block_declares (omega arith) (exact_one (omega arith) (loaded there_constant refl)) (no_cells refl)
        (block_then (while_loop refl (test_true refl) (block_then (assign_into refl refl (operate_of (in_place (there_local refl)) (in_place there_constant) (refl, refl)))
        (block_then (if_arms (arm_then (compare_miss refl (in_place (there_local refl)) (in_place there_constant) (refl, refl)) (block_then (break_away refl refl)
        block_end) joined (arms_end joined)))
        block_end)) refl)
        (block_then (return_one (in_place (there_local refl)) refl)
        block_end)));
    returns = refl;
  },
)

nested_breaks_is_flat : NestedBreaksIsFlat
nested_breaks_is_flat = (
  record {
    flags = refl;
    dots = refl;
    room = omega arith;
    owed = 0;
    end = 4;
    locals = [];
    free = 0;
    body =
        (block_then (return_row (row_one (omega arith) (table_of (omega arith) (omega arith) refl (field_pair (in_place there_text) (made (omega arith) (closure_of no_origin refl)) (refl, refl) fields_end))) refl)
        block_end);
    returns = refl;
  },
  record {
    flags = refl;
    dots = refl;
    room = omega arith;
    owed = 0;
    end = 16;
    locals = (PlainL 0 ∷ []);
    free = 1;
    body =
        (block_declares (omega arith) (exact_one (omega arith) (loaded there_text refl)) (no_cells refl)
        (block_then (count_loop (omega arith) (loaded there_constant refl) (loaded there_constant refl) refl (refl, refl) (no_cells refl) (block_then (count_loop (omega arith) (loaded there_constant refl) (loaded there_constant refl) refl (refl, refl) (no_cells refl) (block_then (if_arms (arm_then (compare_miss refl (in_place (there_local refl)) (in_place (there_local refl)) (refl, refl)) (block_then (break_away refl refl)
        block_end) joined (arms_end joined)))
        (block_then (assign_into refl refl (operate_of (in_place (there_local refl)) (in_place (there_local refl)) (refl, refl)))
        block_end)) refl)
        (block_then (assign_into refl refl (operate_of (in_place (there_local refl)) (in_place there_text) (refl, refl)))
        block_end)) refl)
        (block_then (return_one (in_place (there_local refl)) refl)
        block_end)));
    returns = refl;
  },
)

count_down_is_flat : CountDownIsFlat
count_down_is_flat = (
  record {
    flags = refl;
    dots = refl;
    room = omega arith;
    owed = 0;
    end = 4;
    locals = [];
    free = 0;
    body =
        (block_then (return_row (row_one (omega arith) (table_of (omega arith) (omega arith) refl (field_pair (in_place there_text) (made (omega arith) (closure_of no_origin refl)) (refl, refl) fields_end))) refl)
        block_end);
    returns = refl;
  },
  record {
    flags = refl;
    dots = refl;
    room = omega arith;
    owed = 0;
    end = 20;
    locals = (PlainL 0 ∷ []);
    free = 1;
    body =
        (block_declares (omega arith) (exact_one (omega arith) (loaded there_text refl)) (no_cells refl)
        (block_then (count_by_loop (omega arith) (loaded there_constant refl) (loaded there_constant refl) (unary_of (in_place there_constant) (refl, refl)) (refl, refl) (no_cells refl) (block_then (assign_into refl refl (operate_of (in_place (there_local refl)) (in_place (there_local refl)) (refl, refl)))
        block_end) refl)
        (block_then (count_loop (omega arith) (loaded there_constant refl) (loaded there_constant refl) refl (refl, refl) (no_cells refl) (block_then (assign_into refl refl (operate_of (in_place (there_local refl)) (in_place there_text) (refl, refl)))
        block_end) refl)
        (block_then (count_loop (omega arith) (loaded there_text refl) (loaded there_text refl) refl (refl, refl) (no_cells refl) (block_then (assign_into refl refl (operate_of (in_place (there_local refl)) (in_place (there_local refl)) (refl, refl)))
        block_end) refl)
        (block_then (return_one (in_place (there_local refl)) refl)
        block_end)))));
    returns = refl;
  },
)

no_numbers_is_flat : NoNumbersIsFlat
no_numbers_is_flat = (
  record {
    flags = refl;
    dots = refl;
    room = omega arith;
    owed = 0;
    end = 4;
    locals = [];
    free = 0;
    body =
        (block_then (return_row (row_one (omega arith) (table_of (omega arith) (omega arith) refl (field_pair (in_place there_text) (made (omega arith) (closure_of no_origin refl)) (refl, refl) fields_end))) refl)
        block_end);
    returns = refl;
  },
  record {
    flags = refl;
    dots = refl;
    room = omega arith;
    owed = 0;
    end = 19;
    locals = (PlainL 0 ∷ []);
    free = 1;
    body =
        (block_names (omega arith) no_origin refl
        (block_then (return_row (row_one (omega arith) (operate_of (made (omega arith) (first_of_many (call_of (omega arith) (loaded (there_local refl) refl) (row_more {count = (Exactly 2)} (omega arith) (loaded there_text refl) (row_more {count = (Exactly 1)} (omega arith) (loaded there_constant refl) (row_one (omega arith) (loaded there_constant refl)))) (refl, refl)))) (made (omega arith) (operate_of (made (omega arith) (first_of_many (call_of (omega arith) (loaded (there_local refl) refl) (row_more {count = (Exactly 2)} (omega arith) (loaded there_constant refl) (row_more {count = (Exactly 1)} (omega arith) (table_of (omega arith) (omega arith) refl fields_end) (row_one (omega arith) (loaded there_constant refl)))) (refl, refl)))) (made (omega arith) (first_of_many (call_of (omega arith) (loaded (there_local refl) refl) (row_more {count = (Exactly 2)} (omega arith) (loaded there_constant refl) (row_more {count = (Exactly 1)} (omega arith) (loaded there_constant refl) (row_one (omega arith) (loaded there_text refl)))) (refl, refl)))) (refl, refl))) (refl, refl))) refl)
        block_end));
    returns = refl;
  },
  record {
    flags = refl;
    dots = refl;
    room = omega arith;
    owed = 0;
    end = 7;
    locals = (CellL 2 ∷ CellL 1 ∷ CellL 0 ∷ []);
    free = 3;
    body =
        (block_then (return_row (row_many (omega arith) (call_of (omega arith) (global_of (refl, refl)) (row_more {count = Every} (omega arith) (loaded there_constant refl) (row_many (omega arith) (call_of (omega arith) (global_of (refl, refl)) (row_one (omega arith) (closure_of (from_register refl (from_register refl (from_register refl no_origin))) refl)) (refl, refl)))) (refl, refl))) refl)
        block_end);
    returns = refl;
  },
  record {
    flags = refl;
    dots = refl;
    room = omega arith;
    owed = 0;
    end = 5;
    locals = [];
    free = 0;
    body =
        (block_then (count_by_loop (omega arith) (captured_of refl) (captured_of refl) (captured_of refl) (refl, refl) (no_cells refl) block_end refl)
        block_end);
    returns = refl;
  },
)

pairs_loop_is_flat : PairsLoopIsFlat
pairs_loop_is_flat = (
  record {
    flags = refl;
    dots = refl;
    room = omega arith;
    owed = 0;
    end = 4;
    locals = [];
    free = 0;
    body =
        (block_then (return_row (row_one (omega arith) (table_of (omega arith) (omega arith) refl (field_pair (in_place there_text) (made (omega arith) (closure_of no_origin refl)) (refl, refl) fields_end))) refl)
        block_end);
    returns = refl;
  },
  record {
    flags = refl;
    dots = refl;
    room = omega arith;
    owed = 0;
    end = 28;
    locals = (PlainL 1 ∷ PlainL 0 ∷ []);
    free = 2;
    body =
        (block_declares (omega arith) (exact_one (omega arith) (table_of (omega arith) (omega arith) refl (field_item (in_place there_constant) (refl, refl) (field_item (in_place there_constant) (refl, refl) (field_pair (in_place there_text) (in_place there_text) (refl, refl) fields_end))))) (no_cells refl)
        (block_declares (omega arith) (exact_one (omega arith) (loaded there_text refl)) (no_cells refl)
        (block_then (each_loop (omega arith) (omega arith) (exact_many (omega arith) (call_of (omega arith) (global_of (refl, refl)) (row_one (omega arith) (loaded (there_local refl) refl)) (refl, refl))) joined (refl, refl) refl (no_cells refl) (block_then (assign_into refl refl (operate_of (in_place (there_local refl)) (made (omega arith) (operate_of (made (omega arith) (first_of_many (call_of (omega arith) (global_of (refl, refl)) (row_one (omega arith) (loaded (there_local refl) refl)) (refl, refl)))) (made (omega arith) (first_of_many (call_of (omega arith) (global_of (refl, refl)) (row_one (omega arith) (loaded (there_local refl) refl)) (refl, refl)))) (refl, refl))) (refl, refl)))
        block_end) refl)
        (block_then (each_loop (omega arith) (omega arith) (exact_many (omega arith) (call_of (omega arith) (global_of (refl, refl)) (row_one (omega arith) (loaded (there_local refl) refl)) (refl, refl))) joined (refl, refl) refl (no_cells refl) (block_then (assign_into refl refl (operate_of (in_place (there_local refl)) (made (omega arith) (operate_of (in_place (there_local refl)) (in_place (there_local refl)) (refl, refl))) (refl, refl)))
        block_end) refl)
        (block_then (return_one (in_place (there_local refl)) refl)
        block_end)))));
    returns = refl;
  },
)

own_iterator_is_flat : OwnIteratorIsFlat
own_iterator_is_flat = (
  record {
    flags = refl;
    dots = refl;
    room = omega arith;
    owed = 0;
    end = 4;
    locals = [];
    free = 0;
    body =
        (block_then (return_row (row_one (omega arith) (table_of (omega arith) (omega arith) refl (field_pair (in_place there_text) (made (omega arith) (closure_of no_origin refl)) (refl, refl) fields_end))) refl)
        block_end);
    returns = refl;
  },
  record {
    flags = refl;
    dots = refl;
    room = omega arith;
    owed = 0;
    end = 24;
    locals = (PlainL 1 ∷ PlainL 0 ∷ []);
    free = 2;
    body =
        (block_names (omega arith) no_origin refl
        (block_declares (omega arith) (exact_one (omega arith) (table_of (omega arith) (omega arith) refl fields_end)) (no_cells refl)
        (block_then (each_loop (omega arith) (omega arith) (exact_many (omega arith) (call_of (omega arith) (loaded (there_local refl) refl) (row_one (omega arith) (loaded there_constant refl)) (refl, refl))) joined (refl, refl) refl (cells refl refl) (block_then (assign_entry (in_place (there_local refl)) (made (omega arith) (cell_of refl refl)) (made (omega arith) (closure_of (from_register refl (from_register refl no_origin)) refl)) (refl, refl))
        block_end) refl)
        (block_then (return_row (row_one (omega arith) (operate_of (made (omega arith) (first_of_many (call_of (omega arith) (index_of (in_place (there_local refl)) (in_place there_constant) (refl, refl)) row_none (refl, refl)))) (made (omega arith) (operate_of (made (omega arith) (first_of_many (call_of (omega arith) (index_of (in_place (there_local refl)) (in_place there_constant) (refl, refl)) row_none (refl, refl)))) (made (omega arith) (operate_of (made (omega arith) (first_of_many (call_of (omega arith) (index_of (in_place (there_local refl)) (in_place there_constant) (refl, refl)) row_none (refl, refl)))) (made (omega arith) (first_of_many (call_of (omega arith) (index_of (in_place (there_local refl)) (in_place there_constant) (refl, refl)) row_none (refl, refl)))) (refl, refl))) (refl, refl))) (refl, refl))) refl)
        block_end))));
    returns = refl;
  },
  record {
    flags = refl;
    dots = refl;
    room = omega arith;
    owed = 0;
    end = 4;
    locals = (CellL 1 ∷ CellL 0 ∷ []);
    free = 2;
    body =
        (block_declares (omega arith) (exact_one (omega arith) (loaded there_constant refl)) (cells refl refl)
        (block_then (return_row (row_one (omega arith) (closure_of (from_register refl (from_register refl no_origin)) refl)) refl)
        block_end));
    returns = refl;
  },
  record {
    flags = refl;
    dots = refl;
    room = omega arith;
    owed = 0;
    end = 11;
    locals = [];
    free = 0;
    body =
        (block_then (assign_variable captured_variable (made (omega arith) (operate_of (made (omega arith) (captured_of refl)) (in_place there_constant) (refl, refl))) (set_captured refl))
        (block_then (if_arms (arm_then (compare_miss refl (made (omega arith) (captured_of refl)) (made (omega arith) (captured_of refl)) (refl, refl)) (block_then (return_row (row_more {count = (Exactly 1)} (omega arith) (captured_of refl) (row_one (omega arith) (operate_of (made (omega arith) (captured_of refl)) (made (omega arith) (captured_of refl)) (refl, refl)))) refl)
        block_end) joined (arms_end joined)))
        block_end));
    returns = refl;
  },
  record {
    flags = refl;
    dots = refl;
    room = omega arith;
    owed = 0;
    end = 6;
    locals = [];
    free = 0;
    body =
        (block_then (assign_variable captured_variable (made (omega arith) (operate_of (made (omega arith) (captured_of refl)) (made (omega arith) (captured_of refl)) (refl, refl))) (set_captured refl))
        (block_then (return_row (row_one (omega arith) (captured_of refl)) refl)
        block_end));
    returns = refl;
  },
)

pub all_flat : AllFlatLoops
all_flat = (while_break_is_flat, nested_breaks_is_flat, count_down_is_flat, no_numbers_is_flat, pairs_loop_is_flat, own_iterator_is_flat)

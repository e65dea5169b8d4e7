-- Flat code of small modules: each function's flat code is code of it.
use Rattle.std.proofs.Common.{[], ◌∷◌, refl, arith}
use Rattle.lua_flat.specs.Locals.{PlainL, CellL}
use Rattle.lua_flat.specs.Operations.{Exactly, Every}
use Rattle.lua_flat.specs.IsExpression.{there_local, there_constant, there_text, no_origin, from_register, from_captured, in_place, made, loaded, closure_of, cell_of, captured_of, global_of, index_of, operate_of, unary_of, paren_of, table_of, first_of_many, call_of, row_none, row_one, row_many, row_more, fields_end, field_item, field_items, field_pair, exact_one, exact_many, compare_miss}
use Rattle.lua_flat.specs.IsStatement.{no_cells, cells, set_captured, set_global, captured_variable, global_variable, assign_into, assign_variable, assign_entry, repeat_loop, return_row, block_end, block_declares, block_names, block_then}
use Rattle.lua_flat_cases.specs.Cells.{CountersIsFlat, SharedCellsIsFlat, RepeatSeesIsFlat, ConstructorIsFlat, GlobalsIsFlat, AllFlatCells}

counters_is_flat : CountersIsFlat
counters_is_flat = (
  record {
    flags = refl;
    dots = refl;
    room = omega arith;
    owed = 0;
    end = 4;
    locals = [];
    free = 0;
    body =
        (block_then (return_row (row_one (omega arith) (table_of (omega arith) (omega arith) refl (field_pair (in_place there_text) (made (omega arith) (closure_of no_origin refl)) (refl, refl) fields_end))) refl)
        block_end);
    returns = refl;
  },
  record {
    flags = refl;
    dots = refl;
    room = omega arith;
    owed = 0;
    end = 17;
    locals = (PlainL 3 ∷ PlainL 2 ∷ PlainL 1 ∷ PlainL 0 ∷ []);
    free = 4;
    body =
        (block_names (omega arith) no_origin refl
        (block_declares (omega arith) (exact_many (omega arith) (call_of (omega arith) (loaded (there_local refl) refl) row_none (refl, refl))) (no_cells refl)
        (block_declares (omega arith) (exact_many (omega arith) (call_of (omega arith) (loaded (there_local refl) refl) row_none (refl, refl))) (no_cells refl)
        (block_then (return_row (row_one (omega arith) (operate_of (made (omega arith) (first_of_many (call_of (omega arith) (loaded (there_local refl) refl) row_none (refl, refl)))) (made (omega arith) (operate_of (made (omega arith) (first_of_many (call_of (omega arith) (loaded (there_local refl) refl) row_none (refl, refl)))) (made (omega arith) (operate_of (made (omega arith) (first_of_many (call_of (omega arith) (loaded (there_local refl) refl) row_none (refl, refl)))) (made (omega arith) (first_of_many (call_of (omega arith) (loaded (there_local refl) refl) row_none (refl, refl)))) (refl, refl))) (refl, refl))) (refl, refl))) refl)
        block_end))));
    returns = refl;
  },
  record {
    flags = refl;
    dots = refl;
    room = omega arith;
    owed = 0;
    end = 5;
    locals = (CellL 0 ∷ []);
    free = 1;
    body =
        (block_declares (omega arith) (exact_one (omega arith) (loaded there_constant refl)) (cells refl refl)
        (block_then (return_row (row_more {count = (Exactly 1)} (omega arith) (closure_of (from_register refl no_origin) refl) (row_one (omega arith) (closure_of (from_register refl no_origin) refl))) refl)
        block_end));
    returns = refl;
  },
  record {
    flags = refl;
    dots = refl;
    room = omega arith;
    owed = 0;
    end = 5;
    locals = [];
    free = 0;
    body =
        (block_then (assign_variable captured_variable (made (omega arith) (operate_of (made (omega arith) (captured_of refl)) (in_place there_constant) (refl, refl))) (set_captured refl))
        (block_then (return_row (row_one (omega arith) (captured_of refl)) refl)
        block_end));
    returns = refl;
  },
  record {
    flags = refl;
    dots = refl;
    room = omega arith;
    owed = 0;
    end = 5;
    locals = [];
    free = 0;
    body =
        (block_then (assign_variable captured_variable (made (omega arith) (operate_of (made (omega arith) (captured_of refl)) (in_place there_constant) (refl, refl))) (set_captured refl))
        (block_then (return_row (row_one (omega arith) (captured_of refl)) refl)
        block_end));
    returns = refl;
  },
)

shared_cells_is_flat : SharedCellsIsFlat
shared_cells_is_flat = (
  record {
    flags = refl;
    dots = refl;
    room = omega arith;
    owed = 0;
    end = 4;
    locals = [];
    free = 0;
    body =
        (block_then (return_row (row_one (omega arith) (table_of (omega arith) (omega arith) refl (field_pair (in_place there_text) (made (omega arith) (closure_of no_origin refl)) (refl, refl) fields_end))) refl)
        block_end);
    returns = refl;
  },
  record {
    flags = refl;
    dots = refl;
    room = omega arith;
    owed = 0;
    end = 13;
    locals = (PlainL 2 ∷ PlainL 1 ∷ CellL 0 ∷ []);
    free = 3;
    body =
        (block_declares (omega arith) (exact_one (omega arith) (loaded there_constant refl)) (cells refl refl)
        (block_names (omega arith) (from_register refl no_origin) refl
        (block_declares (omega arith) (exact_many (omega arith) (call_of (omega arith) (loaded (there_local refl) refl) row_none (refl, refl))) (no_cells refl)
        (block_then (return_row (row_one (omega arith) (operate_of (made (omega arith) (first_of_many (call_of (omega arith) (loaded (there_local refl) refl) row_none (refl, refl)))) (made (omega arith) (operate_of (made (omega arith) (first_of_many (call_of (omega arith) (loaded (there_local refl) refl) row_none (refl, refl)))) (made (omega arith) (cell_of refl refl)) (refl, refl))) (refl, refl))) refl)
        block_end))));
    returns = refl;
  },
  record {
    flags = refl;
    dots = refl;
    room = omega arith;
    owed = 0;
    end = 5;
    locals = (CellL 0 ∷ []);
    free = 1;
    body =
        (block_declares (omega arith) (exact_one (omega arith) (operate_of (made (omega arith) (captured_of refl)) (in_place there_constant) (refl, refl))) (cells refl refl)
        (block_then (return_row (row_one (omega arith) (closure_of (from_captured (from_register refl no_origin)) refl)) refl)
        block_end));
    returns = refl;
  },
  record {
    flags = refl;
    dots = refl;
    room = omega arith;
    owed = 0;
    end = 9;
    locals = [];
    free = 0;
    body =
        (block_then (assign_variable captured_variable (made (omega arith) (operate_of (made (omega arith) (captured_of refl)) (made (omega arith) (captured_of refl)) (refl, refl))) (set_captured refl))
        (block_then (assign_variable captured_variable (made (omega arith) (operate_of (made (omega arith) (captured_of refl)) (in_place there_constant) (refl, refl))) (set_captured refl))
        (block_then (return_row (row_one (omega arith) (captured_of refl)) refl)
        block_end)));
    returns = refl;
  },
)

repeat_sees_is_flat : RepeatSeesIsFlat
repeat_sees_is_flat = (
  record {
    flags = refl;
    dots = refl;
    room = omega arith;
    owed = 0;
    end = 4;
    locals = [];
    free = 0;
    body =
        (block_then (return_row (row_one (omega arith) (table_of (omega arith) (omega arith) refl (field_pair (in_place there_text) (made (omega arith) (closure_of no_origin refl)) (refl, refl) fields_end))) refl)
        block_end);
    returns = refl;
  },
  record {
    flags = refl;
    dots = refl;
    room = omega arith;
    owed = 0;
    end = 21;
    locals = (PlainL 1 ∷ PlainL 0 ∷ []);
    free = 2;
    body =
        (block_declares (omega arith) (exact_one (omega arith) (table_of (omega arith) (omega arith) refl fields_end)) (no_cells refl)
        (block_declares (omega arith) (exact_one (omega arith) (loaded there_constant refl)) (no_cells refl)
        (block_then (repeat_loop refl (block_declares (omega arith) (exact_one (omega arith) (loaded (there_local refl) refl)) (cells refl refl)
        (block_then (assign_entry (in_place (there_local refl)) (made (omega arith) (operate_of (made (omega arith) (unary_of (in_place (there_local refl)) (refl, refl))) (in_place there_constant) (refl, refl))) (made (omega arith) (closure_of (from_register refl no_origin) refl)) (refl, refl))
        (block_then (assign_into refl refl (operate_of (in_place (there_local refl)) (in_place there_constant) (refl, refl)))
        block_end))) (compare_miss refl (made (omega arith) (cell_of refl refl)) (in_place there_constant) (refl, refl)))
        (block_then (return_row (row_one (omega arith) (operate_of (made (omega arith) (first_of_many (call_of (omega arith) (index_of (in_place (there_local refl)) (in_place there_constant) (refl, refl)) row_none (refl, refl)))) (made (omega arith) (operate_of (made (omega arith) (first_of_many (call_of (omega arith) (index_of (in_place (there_local refl)) (in_place there_constant) (refl, refl)) row_none (refl, refl)))) (made (omega arith) (first_of_many (call_of (omega arith) (index_of (in_place (there_local refl)) (in_place there_constant) (refl, refl)) row_none (refl, refl)))) (refl, refl))) (refl, refl))) refl)
        block_end))));
    returns = refl;
  },
  record {
    flags = refl;
    dots = refl;
    room = omega arith;
    owed = 0;
    end = 2;
    locals = [];
    free = 0;
    body =
        (block_then (return_row (row_one (omega arith) (captured_of refl)) refl)
        block_end);
    returns = refl;
  },
)

constructor_is_flat : ConstructorIsFlat
constructor_is_flat = (
  record {
    flags = refl;
    dots = refl;
    room = omega arith;
    owed = 0;
    end = 4;
    locals = [];
    free = 0;
    body =
        (block_then (return_row (row_one (omega arith) (table_of (omega arith) (omega arith) refl (field_pair (in_place there_text) (made (omega arith) (closure_of no_origin refl)) (refl, refl) fields_end))) refl)
        block_end);
    returns = refl;
  },
  record {
    flags = refl;
    dots = refl;
    room = omega arith;
    owed = 0;
    end = 25;
    locals = (PlainL 1 ∷ PlainL 0 ∷ []);
    free = 2;
    body =
        (block_names (omega arith) no_origin refl
        (block_declares (omega arith) (exact_one (omega arith) (table_of (omega arith) (omega arith) refl (field_item (made (omega arith) (first_of_many (call_of (omega arith) (loaded (there_local refl) refl) row_none (refl, refl)))) (refl, refl) (field_item (made (omega arith) (first_of_many (call_of (omega arith) (loaded (there_local refl) refl) row_none (refl, refl)))) (refl, refl) (field_pair (in_place there_constant) (in_place there_text) (refl, refl) (field_pair (in_place there_text) (in_place there_text) (refl, refl) (field_item (made (omega arith) (paren_of (first_of_many (call_of (omega arith) (loaded (there_local refl) refl) row_none (refl, refl))))) (refl, refl) (field_items (call_of (omega arith) (loaded (there_local refl) refl) row_none (refl, refl)) (refl, refl))))))))) (no_cells refl)
        (block_then (return_row (row_more {count = (Exactly 7)} (omega arith) (unary_of (in_place (there_local refl)) (refl, refl)) (row_more {count = (Exactly 6)} (omega arith) (index_of (in_place (there_local refl)) (in_place there_constant) (refl, refl)) (row_more {count = (Exactly 5)} (omega arith) (index_of (in_place (there_local refl)) (in_place there_constant) (refl, refl)) (row_more {count = (Exactly 4)} (omega arith) (index_of (in_place (there_local refl)) (in_place there_constant) (refl, refl)) (row_more {count = (Exactly 3)} (omega arith) (index_of (in_place (there_local refl)) (in_place there_constant) (refl, refl)) (row_more {count = (Exactly 2)} (omega arith) (index_of (in_place (there_local refl)) (in_place there_constant) (refl, refl)) (row_more {count = (Exactly 1)} (omega arith) (index_of (in_place (there_local refl)) (in_place there_constant) (refl, refl)) (row_one (omega arith) (index_of (in_place (there_local refl)) (in_place there_text) (refl, refl)))))))))) refl)
        block_end)));
    returns = refl;
  },
  record {
    flags = refl;
    dots = refl;
    room = omega arith;
    owed = 0;
    end = 3;
    locals = [];
    free = 0;
    body =
        (block_then (return_row (row_more {count = (Exactly 1)} (omega arith) (loaded there_constant refl) (row_one (omega arith) (loaded there_constant refl))) refl)
        block_end);
    returns = refl;
  },
)

globals_is_flat : GlobalsIsFlat
globals_is_flat = (
  record {
    flags = refl;
    dots = refl;
    room = omega arith;
    owed = 0;
    end = 4;
    locals = [];
    free = 0;
    body =
        (block_then (return_row (row_one (omega arith) (table_of (omega arith) (omega arith) refl (field_pair (in_place there_text) (made (omega arith) (closure_of no_origin refl)) (refl, refl) fields_end))) refl)
        block_end);
    returns = refl;
  },
  record {
    flags = refl;
    dots = refl;
    room = omega arith;
    owed = 0;
    end = 14;
    locals = (PlainL 0 ∷ []);
    free = 1;
    body =
        (block_then (assign_variable global_variable (in_place there_constant) (set_global (refl, refl)))
        (block_then (assign_variable global_variable (made (omega arith) (operate_of (made (omega arith) (global_of (refl, refl))) (in_place there_constant) (refl, refl))) (set_global (refl, refl)))
        (block_names (omega arith) no_origin refl
        (block_then (return_row (row_more {count = Every} (omega arith) (global_of (refl, refl)) (row_more {count = Every} (omega arith) (first_of_many (call_of (omega arith) (loaded (there_local refl) refl) (row_one (omega arith) (loaded there_constant refl)) (refl, refl))) (row_more {count = Every} (omega arith) (global_of (refl, refl)) (row_many (omega arith) (call_of (omega arith) (global_of (refl, refl)) (row_one (omega arith) (global_of (refl, refl))) (refl, refl)))))) refl)
        block_end))));
    returns = refl;
  },
  record {
    flags = refl;
    dots = refl;
    room = omega arith;
    owed = 0;
    end = 3;
    locals = (PlainL 0 ∷ []);
    free = 1;
    body =
        (block_then (assign_variable global_variable (in_place (there_local refl)) (set_global (refl, refl)))
        (block_then (return_row (row_one (omega arith) (global_of (refl, refl))) refl)
        block_end));
    returns = refl;
  },
)

pub all_flat : AllFlatCells
all_flat = (counters_is_flat, shared_cells_is_flat, repeat_sees_is_flat, constructor_is_flat, globals_is_flat)

-- Flat code of small modules: each function's flat code is code of it.
use Rattle.std.proofs.Common.{[], ◌∷◌, refl, arith}
use Rattle.lua_flat.specs.Locals.{PlainL}
use Rattle.lua_flat.specs.Operations.{Exactly, Every}
use Rattle.lua_flat.specs.IsExpression.{there_local, there_constant, there_text, no_origin, from_register, in_place, made, loaded, closure_of, cell_of, captured_of, global_of, index_of, operate_of, unary_of, and_of, or_of, table_of, first_of_many, call_of, row_none, row_one, row_many, row_more, fields_end, field_item, field_items, field_pair, exact_one, test_miss, compare_miss}
use Rattle.lua_flat.specs.IsStatement.{joined, by_jump, no_cells, cells, set_captured, captured_variable, assign_into, assign_variable, assign_entry, repeat_loop, if_else, count_loop, return_row, return_one, block_end, block_declares, block_names, block_then, arms_else, arm_then}
use Rattle.lua_flat.specs.ExampleCode.{CellsIsFlat, RepeatLoopIsFlat, BranchesIsFlat, ConstructorsIsFlat, AndOrIsFlat, AllFlatExampleCode}

cells_is_flat : CellsIsFlat
cells_is_flat = (
  record {
    flags = refl;
    dots = refl;
    room = omega arith;
    owed = 0;
    end = 4;
    locals = (PlainL 0 ∷ []);
    free = 1;
    body =
        (block_declares (omega arith) (exact_one (omega arith) (table_of (omega arith) (omega arith) refl fields_end)) (no_cells refl)
        (block_then (assign_entry (in_place (there_local refl)) (in_place there_text) (made (omega arith) (closure_of no_origin refl)) (refl, refl))
        (block_then (return_one (in_place (there_local refl)) refl)
        block_end)));
    returns = refl;
  },
  record {
    flags = refl;
    dots = refl;
    room = omega arith;
    owed = 0;
    end = 19;
    locals = (PlainL 0 ∷ []);
    free = 1;
    body =
        (block_declares (omega arith) (exact_one (omega arith) (table_of (omega arith) (omega arith) refl fields_end)) (no_cells refl)
        (block_then (count_loop (omega arith) (loaded there_constant refl) (loaded there_constant refl) refl (refl, refl) (cells refl refl) (block_then (assign_entry (in_place (there_local refl)) (made (omega arith) (cell_of refl refl)) (made (omega arith) (closure_of (from_register refl no_origin) refl)) (refl, refl))
        block_end) refl)
        (block_then (return_row (row_one (omega arith) (operate_of (made (omega arith) (first_of_many (call_of (omega arith) (index_of (in_place (there_local refl)) (in_place there_constant) (refl, refl)) row_none (refl, refl)))) (made (omega arith) (operate_of (made (omega arith) (first_of_many (call_of (omega arith) (index_of (in_place (there_local refl)) (in_place there_constant) (refl, refl)) row_none (refl, refl)))) (made (omega arith) (first_of_many (call_of (omega arith) (index_of (in_place (there_local refl)) (in_place there_constant) (refl, refl)) row_none (refl, refl)))) (refl, refl))) (refl, refl))) refl)
        block_end)));
    returns = refl;
  },
  record {
    flags = refl;
    dots = refl;
    room = omega arith;
    owed = 0;
    end = 5;
    locals = [];
    free = 0;
    body =
        (block_then (assign_variable captured_variable (made (omega arith) (operate_of (made (omega arith) (captured_of refl)) (in_place there_constant) (refl, refl))) (set_captured refl))
        (block_then (return_row (row_one (omega arith) (captured_of refl)) refl)
        block_end));
    returns = refl;
  },
)

repeat_loop_is_flat : RepeatLoopIsFlat
repeat_loop_is_flat = (
  record {
    flags = refl;
    dots = refl;
    room = omega arith;
    owed = 0;
    end = 4;
    locals = [];
    free = 0;
    body =
        (block_then (return_row (row_one (omega arith) (table_of (omega arith) (omega arith) refl (field_pair (in_place there_text) (made (omega arith) (closure_of no_origin refl)) (refl, refl) fields_end))) refl)
        block_end);
    returns = refl;
  },
  record {
    flags = refl;
    dots = refl;
    room = omega arith;
    owed = 0;
    end = 6;
    locals = (PlainL 0 ∷ []);
    free = 1;
    body =
        (block_declares (omega arith) (exact_one (omega arith) (loaded there_constant refl)) (no_cells refl)
        (block_then (repeat_loop refl (block_declares (omega arith) (exact_one (omega arith) (operate_of (in_place (there_local refl)) (in_place there_constant) (refl, refl))) (no_cells refl)
        (block_then (assign_into refl refl (operate_of (in_place (there_local refl)) (in_place there_constant) (refl, refl)))
        block_end)) (test_miss (in_place (there_local refl)) refl))
        (block_then (return_one (in_place (there_local refl)) refl)
        block_end)));
    returns = refl;
  },
)

branches_is_flat : BranchesIsFlat
branches_is_flat = (
  record {
    flags = refl;
    dots = refl;
    room = omega arith;
    owed = 0;
    end = 4;
    locals = [];
    free = 0;
    body =
        (block_then (return_row (row_one (omega arith) (table_of (omega arith) (omega arith) refl (field_pair (in_place there_text) (made (omega arith) (closure_of no_origin refl)) (refl, refl) fields_end))) refl)
        block_end);
    returns = refl;
  },
  record {
    flags = refl;
    dots = refl;
    room = omega arith;
    owed = 0;
    end = 11;
    locals = (PlainL 0 ∷ []);
    free = 1;
    body =
        (block_names (omega arith) no_origin refl
        (block_then (return_row (row_more {count = Every} (omega arith) (first_of_many (call_of (omega arith) (loaded (there_local refl) refl) (row_one (omega arith) (unary_of (in_place there_constant) (refl, refl))) (refl, refl))) (row_more {count = Every} (omega arith) (first_of_many (call_of (omega arith) (loaded (there_local refl) refl) (row_one (omega arith) (loaded there_constant refl)) (refl, refl))) (row_many (omega arith) (call_of (omega arith) (loaded (there_local refl) refl) (row_one (omega arith) (loaded there_constant refl)) (refl, refl))))) refl)
        block_end));
    returns = refl;
  },
  record {
    flags = refl;
    dots = refl;
    room = omega arith;
    owed = 0;
    end = 10;
    locals = (PlainL 0 ∷ []);
    free = 1;
    body =
        (block_then (if_else (arm_then (compare_miss refl (in_place (there_local refl)) (in_place there_constant) (refl, refl)) (block_then (return_row (row_one (omega arith) (loaded there_text refl)) refl)
        block_end) (by_jump refl) (arm_then (compare_miss refl (in_place (there_local refl)) (in_place there_constant) (refl, refl)) (block_then (return_row (row_one (omega arith) (loaded there_text refl)) refl)
        block_end) (by_jump refl) (arms_else (block_then (return_row (row_one (omega arith) (loaded there_text refl)) refl)
        block_end) joined))))
        block_end);
    returns = refl;
  },
)

constructors_is_flat : ConstructorsIsFlat
constructors_is_flat = (
  record {
    flags = refl;
    dots = refl;
    room = omega arith;
    owed = 0;
    end = 4;
    locals = [];
    free = 0;
    body =
        (block_then (return_row (row_one (omega arith) (table_of (omega arith) (omega arith) refl (field_pair (in_place there_text) (made (omega arith) (closure_of no_origin refl)) (refl, refl) fields_end))) refl)
        block_end);
    returns = refl;
  },
  record {
    flags = refl;
    dots = refl;
    room = omega arith;
    owed = 0;
    end = 21;
    locals = (PlainL 1 ∷ PlainL 0 ∷ []);
    free = 2;
    body =
        (block_names (omega arith) no_origin refl
        (block_declares (omega arith) (exact_one (omega arith) (table_of (omega arith) (omega arith) refl (field_item (made (omega arith) (first_of_many (call_of (omega arith) (loaded (there_local refl) refl) row_none (refl, refl)))) (refl, refl) (field_item (made (omega arith) (first_of_many (call_of (omega arith) (loaded (there_local refl) refl) row_none (refl, refl)))) (refl, refl) (field_pair (in_place there_text) (in_place there_constant) (refl, refl) (field_pair (in_place there_text) (in_place there_constant) (refl, refl) (field_items (call_of (omega arith) (loaded (there_local refl) refl) row_none (refl, refl)) (refl, refl)))))))) (no_cells refl)
        (block_then (return_row (row_more {count = (Exactly 6)} (omega arith) (unary_of (in_place (there_local refl)) (refl, refl)) (row_more {count = (Exactly 5)} (omega arith) (index_of (in_place (there_local refl)) (in_place there_constant) (refl, refl)) (row_more {count = (Exactly 4)} (omega arith) (index_of (in_place (there_local refl)) (in_place there_constant) (refl, refl)) (row_more {count = (Exactly 3)} (omega arith) (index_of (in_place (there_local refl)) (in_place there_constant) (refl, refl)) (row_more {count = (Exactly 2)} (omega arith) (index_of (in_place (there_local refl)) (in_place there_constant) (refl, refl)) (row_more {count = (Exactly 1)} (omega arith) (index_of (in_place (there_local refl)) (in_place there_text) (refl, refl)) (row_one (omega arith) (index_of (in_place (there_local refl)) (in_place there_text) (refl, refl))))))))) refl)
        block_end)));
    returns = refl;
  },
  record {
    flags = refl;
    dots = refl;
    room = omega arith;
    owed = 0;
    end = 3;
    locals = [];
    free = 0;
    body =
        (block_then (return_row (row_more {count = (Exactly 1)} (omega arith) (loaded there_text refl) (row_one (omega arith) (loaded there_text refl))) refl)
        block_end);
    returns = refl;
  },
)

and_or_is_flat : AndOrIsFlat
and_or_is_flat = (
  record {
    flags = refl;
    dots = refl;
    room = omega arith;
    owed = 0;
    end = 4;
    locals = [];
    free = 0;
    body =
        (block_then (return_row (row_one (omega arith) (table_of (omega arith) (omega arith) refl (field_pair (in_place there_text) (made (omega arith) (closure_of no_origin refl)) (refl, refl) fields_end))) refl)
        block_end);
    returns = refl;
  },
  record {
    flags = refl;
    dots = refl;
    room = omega arith;
    owed = 0;
    end = 24;
    locals = [];
    free = 0;
    body =
        (block_then (return_row (row_more {count = (Exactly 4)} (omega arith) (first_of_many (call_of (omega arith) (global_of (refl, refl)) (row_one (omega arith) (and_of (loaded there_constant refl) refl (loaded there_constant refl))) (refl, refl))) (row_more {count = (Exactly 3)} (omega arith) (first_of_many (call_of (omega arith) (global_of (refl, refl)) (row_one (omega arith) (or_of (loaded there_constant refl) refl (loaded there_constant refl))) (refl, refl))) (row_more {count = (Exactly 2)} (omega arith) (and_of (loaded there_constant refl) refl (loaded there_constant refl)) (row_more {count = (Exactly 1)} (omega arith) (or_of (loaded there_constant refl) refl (loaded there_constant refl)) (row_one (omega arith) (or_of (and_of (loaded there_constant refl) refl (first_of_many (call_of (omega arith) (global_of (refl, refl)) (row_one (omega arith) (loaded there_text refl)) (refl, refl)))) refl (loaded there_text refl))))))) refl)
        block_end);
    returns = refl;
  },
)

pub all_flat : AllFlatExampleCode
all_flat = (cells_is_flat, repeat_loop_is_flat, branches_is_flat, constructors_is_flat, and_or_is_flat)

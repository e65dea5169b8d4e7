-- Flat code of small modules: each function's flat code is code of it.
use Rattle.std.proofs.Common.{[], ◌∷◌, refl, arith}
use Rattle.lua_flat.specs.Locals.{PlainL, CellL}
use Rattle.lua_flat.specs.Operations.{Exactly, Every}
use Rattle.lua_flat.specs.IsExpression.{there_local, there_constant, there_text, no_origin, from_register, in_place, made, loaded, closure_of, cell_of, captured_of, global_of, index_of, operate_of, unary_of, and_of, or_of, paren_of, table_of, first_of_many, dots_of, call_of, row_none, row_one, row_many, row_more, fields_end, field_pair, exact_one, exact_many, test_miss, test_hit, compare_miss, test_and, test_or, test_not, test_paren}
use Rattle.lua_flat.specs.IsStatement.{joined, no_cells, cells, assign_into, call_alone, while_loop, if_arms, return_row, return_one, block_end, block_declares, block_names, block_then, arms_end, arm_then}
use Rattle.lua_flat_cases.specs.Tests.{TestsIsFlat, ChoicesIsFlat, ErrorValuesIsFlat, NestedPcallIsFlat, FibIsFlat, AllFlatTests}

tests_is_flat : TestsIsFlat
tests_is_flat = (
  record {
    flags = refl;
    dots = refl;
    room = omega arith;
    owed = 0;
    end = 4;
    locals = [];
    free = 0;
    body =
        (block_then (return_row (row_one (omega arith) (table_of (omega arith) (omega arith) refl (field_pair (in_place there_text) (made (omega arith) (closure_of no_origin refl)) (refl, refl) fields_end))) refl)
        block_end);
    returns = refl;
  },
  record {
    flags = refl;
    dots = refl;
    room = omega arith;
    owed = 0;
    end = 18;
    locals = (PlainL 0 ∷ []);
    free = 1;
    body =
        (block_names (omega arith) no_origin refl
        (block_then (return_row (row_more {count = Every} (omega arith) (first_of_many (call_of (omega arith) (loaded (there_local refl) refl) (row_more {count = (Exactly 1)} (omega arith) (loaded there_constant refl) (row_one (omega arith) (loaded there_constant refl))) (refl, refl))) (row_more {count = Every} (omega arith) (first_of_many (call_of (omega arith) (loaded (there_local refl) refl) (row_more {count = (Exactly 1)} (omega arith) (loaded there_constant refl) (row_one (omega arith) (loaded there_constant refl))) (refl, refl))) (row_more {count = Every} (omega arith) (first_of_many (call_of (omega arith) (loaded (there_local refl) refl) (row_more {count = (Exactly 1)} (omega arith) (loaded there_constant refl) (row_one (omega arith) (loaded there_constant refl))) (refl, refl))) (row_many (omega arith) (call_of (omega arith) (loaded (there_local refl) refl) (row_more {count = (Exactly 1)} (omega arith) (loaded there_constant refl) (row_one (omega arith) (loaded there_constant refl))) (refl, refl)))))) refl)
        block_end));
    returns = refl;
  },
  record {
    flags = refl;
    dots = refl;
    room = omega arith;
    owed = 0;
    end = 18;
    locals = (PlainL 2 ∷ PlainL 1 ∷ PlainL 0 ∷ []);
    free = 3;
    body =
        (block_declares (omega arith) (exact_one (omega arith) (loaded there_text refl)) (no_cells refl)
        (block_then (if_arms (arm_then (test_and (test_miss (in_place (there_local refl)) refl) (test_miss (in_place (there_local refl)) refl)) (block_then (assign_into refl refl (operate_of (in_place (there_local refl)) (in_place there_text) (refl, refl)))
        block_end) joined (arms_end joined)))
        (block_then (if_arms (arm_then (test_or (test_hit (in_place (there_local refl)) refl) (test_miss (in_place (there_local refl)) refl)) (block_then (assign_into refl refl (operate_of (in_place (there_local refl)) (in_place there_text) (refl, refl)))
        block_end) joined (arms_end joined)))
        (block_then (if_arms (arm_then (test_or (test_and (test_not (test_hit (in_place (there_local refl)) refl)) (test_not (test_miss (in_place (there_local refl)) refl))) (compare_miss refl (in_place (there_local refl)) (in_place (there_local refl)) (refl, refl))) (block_then (assign_into refl refl (operate_of (in_place (there_local refl)) (in_place there_text) (refl, refl)))
        block_end) joined (arms_end joined)))
        (block_then (while_loop refl (test_not (test_paren (test_or (test_hit (in_place (there_local refl)) refl) (test_hit (in_place (there_local refl)) refl)))) (block_then (assign_into refl refl (loaded there_constant refl))
        (block_then (assign_into refl refl (operate_of (in_place (there_local refl)) (in_place there_text) (refl, refl)))
        block_end)) refl)
        (block_then (return_one (in_place (there_local refl)) refl)
        block_end))))));
    returns = refl;
  },
)

choices_is_flat : ChoicesIsFlat
choices_is_flat = (
  record {
    flags = refl;
    dots = refl;
    room = omega arith;
    owed = 0;
    end = 4;
    locals = [];
    free = 0;
    body =
        (block_then (return_row (row_one (omega arith) (table_of (omega arith) (omega arith) refl (field_pair (in_place there_text) (made (omega arith) (closure_of no_origin refl)) (refl, refl) fields_end))) refl)
        block_end);
    returns = refl;
  },
  record {
    flags = refl;
    dots = refl;
    room = omega arith;
    owed = 0;
    end = 22;
    locals = (PlainL 0 ∷ []);
    free = 1;
    body =
        (block_names (omega arith) no_origin refl
        (block_then (return_row (row_more {count = (Exactly 4)} (omega arith) (first_of_many (call_of (omega arith) (loaded (there_local refl) refl) (row_one (omega arith) (loaded there_constant refl)) (refl, refl))) (row_more {count = (Exactly 3)} (omega arith) (first_of_many (call_of (omega arith) (loaded (there_local refl) refl) (row_one (omega arith) (table_of (omega arith) (omega arith) refl fields_end)) (refl, refl))) (row_more {count = (Exactly 2)} (omega arith) (first_of_many (call_of (omega arith) (loaded (there_local refl) refl) (row_one (omega arith) (table_of (omega arith) (omega arith) refl (field_pair (in_place there_text) (in_place there_constant) (refl, refl) fields_end))) (refl, refl))) (row_more {count = (Exactly 1)} (omega arith) (or_of (and_of (paren_of (or_of (loaded there_constant refl) refl (loaded there_constant refl))) refl (loaded there_constant refl)) refl (loaded there_constant refl)) (row_one (omega arith) (and_of (loaded there_constant refl) refl (loaded there_constant refl))))))) refl)
        block_end));
    returns = refl;
  },
  record {
    flags = refl;
    dots = refl;
    room = omega arith;
    owed = 0;
    end = 6;
    locals = (PlainL 0 ∷ []);
    free = 1;
    body =
        (block_then (return_row (row_one (omega arith) (or_of (and_of (loaded (there_local refl) refl) refl (index_of (in_place (there_local refl)) (in_place there_text) (refl, refl))) refl (loaded there_text refl))) refl)
        block_end);
    returns = refl;
  },
)

error_values_is_flat : ErrorValuesIsFlat
error_values_is_flat = (
  record {
    flags = refl;
    dots = refl;
    room = omega arith;
    owed = 0;
    end = 4;
    locals = [];
    free = 0;
    body =
        (block_then (return_row (row_one (omega arith) (table_of (omega arith) (omega arith) refl (field_pair (in_place there_text) (made (omega arith) (closure_of no_origin refl)) (refl, refl) fields_end))) refl)
        block_end);
    returns = refl;
  },
  record {
    flags = refl;
    dots = refl;
    room = omega arith;
    owed = 0;
    end = 25;
    locals = (CellL 1 ∷ PlainL 0 ∷ []);
    free = 2;
    body =
        (block_names (omega arith) no_origin refl
        (block_declares (omega arith) (exact_one (omega arith) (table_of (omega arith) (omega arith) refl fields_end)) (cells refl refl)
        (block_then (return_row (row_more {count = Every} (omega arith) (first_of_many (call_of (omega arith) (global_of (refl, refl)) (row_one (omega arith) (operate_of (made (omega arith) (first_of_many (call_of (omega arith) (loaded (there_local refl) refl) (row_more {count = (Exactly 1)} (omega arith) (global_of (refl, refl)) (row_one (omega arith) (cell_of refl refl))) (refl, refl)))) (made (omega arith) (cell_of refl refl)) (refl, refl))) (refl, refl))) (row_more {count = Every} (omega arith) (first_of_many (call_of (omega arith) (loaded (there_local refl) refl) (row_one (omega arith) (closure_of (from_register refl no_origin) refl)) (refl, refl))) (row_more {count = Every} (omega arith) (first_of_many (call_of (omega arith) (loaded (there_local refl) refl) (row_more {count = (Exactly 1)} (omega arith) (closure_of no_origin refl) (row_one (omega arith) (loaded there_text refl))) (refl, refl))) (row_more {count = Every} (omega arith) (first_of_many (call_of (omega arith) (loaded (there_local refl) refl) (row_one (omega arith) (closure_of no_origin refl)) (refl, refl))) (row_many (omega arith) (call_of (omega arith) (loaded (there_local refl) refl) (row_one (omega arith) (closure_of (from_register refl no_origin) refl)) (refl, refl))))))) refl)
        block_end)));
    returns = refl;
  },
  record {
    flags = refl;
    dots = refl;
    room = omega arith;
    owed = 0;
    end = 8;
    locals = (PlainL 0 ∷ []);
    free = 1;
    body =
        (block_then (return_row (row_many (omega arith) (call_of (omega arith) (global_of (refl, refl)) (row_more {count = Every} (omega arith) (loaded there_constant refl) (row_many (omega arith) (call_of (omega arith) (global_of (refl, refl)) (row_more {count = Every} (omega arith) (loaded (there_local refl) refl) (row_many (omega arith) (dots_of refl))) (refl, refl)))) (refl, refl))) refl)
        block_end);
    returns = refl;
  },
  record {
    flags = refl;
    dots = refl;
    room = omega arith;
    owed = 0;
    end = 4;
    locals = [];
    free = 0;
    body =
        (block_then (return_row (row_one (omega arith) (index_of (made (omega arith) (index_of (made (omega arith) (captured_of refl)) (in_place there_text) (refl, refl))) (in_place there_text) (refl, refl))) refl)
        block_end);
    returns = refl;
  },
  record {
    flags = refl;
    dots = refl;
    room = omega arith;
    owed = 0;
    end = 2;
    locals = (PlainL 0 ∷ []);
    free = 1;
    body =
        (block_then (return_row (row_one (omega arith) (operate_of (in_place (there_local refl)) (in_place there_constant) (refl, refl))) refl)
        block_end);
    returns = refl;
  },
  record {
    flags = refl;
    dots = refl;
    room = omega arith;
    owed = 0;
    end = 2;
    locals = [];
    free = 0;
    body =
        (block_then (return_row (row_one (omega arith) (unary_of (in_place there_constant) (refl, refl))) refl)
        block_end);
    returns = refl;
  },
  record {
    flags = refl;
    dots = refl;
    room = omega arith;
    owed = 0;
    end = 2;
    locals = [];
    free = 0;
    body =
        (block_then (call_alone (call_of (omega arith) (captured_of refl) row_none (refl, refl)))
        block_end);
    returns = refl;
  },
)

nested_pcall_is_flat : NestedPcallIsFlat
nested_pcall_is_flat = (
  record {
    flags = refl;
    dots = refl;
    room = omega arith;
    owed = 0;
    end = 4;
    locals = [];
    free = 0;
    body =
        (block_then (return_row (row_one (omega arith) (table_of (omega arith) (omega arith) refl (field_pair (in_place there_text) (made (omega arith) (closure_of no_origin refl)) (refl, refl) fields_end))) refl)
        block_end);
    returns = refl;
  },
  record {
    flags = refl;
    dots = refl;
    room = omega arith;
    owed = 0;
    end = 23;
    locals = (PlainL 2 ∷ PlainL 1 ∷ PlainL 0 ∷ []);
    free = 3;
    body =
        (block_declares (omega arith) (exact_many (omega arith) (call_of (omega arith) (global_of (refl, refl)) (row_more {count = (Exactly 1)} (omega arith) (closure_of no_origin refl) (row_one (omega arith) (loaded there_text refl))) (refl, refl))) (no_cells refl)
        (block_then (return_row (row_more {count = Every} (omega arith) (first_of_many (call_of (omega arith) (global_of (refl, refl)) (row_one (omega arith) (loaded (there_local refl) refl)) (refl, refl))) (row_more {count = Every} (omega arith) (loaded (there_local refl) refl) (row_more {count = Every} (omega arith) (first_of_many (call_of (omega arith) (global_of (refl, refl)) (row_one (omega arith) (loaded (there_local refl) refl)) (refl, refl))) (row_more {count = Every} (omega arith) (first_of_many (call_of (omega arith) (global_of (refl, refl)) (row_many (omega arith) (call_of (omega arith) (global_of (refl, refl)) (row_one (omega arith) (global_of (refl, refl))) (refl, refl))) (refl, refl))) (row_many (omega arith) (call_of (omega arith) (global_of (refl, refl)) (row_many (omega arith) (call_of (omega arith) (global_of (refl, refl)) (row_more {count = (Exactly 1)} (omega arith) (closure_of no_origin refl) (row_one (omega arith) (closure_of no_origin refl))) (refl, refl))) (refl, refl))))))) refl)
        block_end));
    returns = refl;
  },
  record {
    flags = refl;
    dots = refl;
    room = omega arith;
    owed = 0;
    end = 7;
    locals = (PlainL 2 ∷ PlainL 1 ∷ PlainL 0 ∷ []);
    free = 3;
    body =
        (block_declares (omega arith) (exact_many (omega arith) (call_of (omega arith) (global_of (refl, refl)) (row_more {count = (Exactly 1)} (omega arith) (global_of (refl, refl)) (row_one (omega arith) (loaded (there_local refl) refl))) (refl, refl))) (no_cells refl)
        (block_then (return_row (row_more {count = (Exactly 1)} (omega arith) (loaded (there_local refl) refl) (row_one (omega arith) (loaded (there_local refl) refl))) refl)
        block_end));
    returns = refl;
  },
  record {
    flags = refl;
    dots = refl;
    room = omega arith;
    owed = 0;
    end = 4;
    locals = [];
    free = 0;
    body =
        (block_then (call_alone (call_of (omega arith) (global_of (refl, refl)) (row_more {count = (Exactly 1)} (omega arith) (loaded there_text refl) (row_one (omega arith) (loaded there_constant refl))) (refl, refl)))
        block_end);
    returns = refl;
  },
  record {
    flags = refl;
    dots = refl;
    room = omega arith;
    owed = 0;
    end = 2;
    locals = (PlainL 0 ∷ []);
    free = 1;
    body =
        (block_then (return_row (row_one (omega arith) (operate_of (in_place (there_local refl)) (in_place there_text) (refl, refl))) refl)
        block_end);
    returns = refl;
  },
)

fib_is_flat : FibIsFlat
fib_is_flat = (
  record {
    flags = refl;
    dots = refl;
    room = omega arith;
    owed = 0;
    end = 4;
    locals = [];
    free = 0;
    body =
        (block_then (return_row (row_one (omega arith) (table_of (omega arith) (omega arith) refl (field_pair (in_place there_text) (made (omega arith) (closure_of no_origin refl)) (refl, refl) fields_end))) refl)
        block_end);
    returns = refl;
  },
  record {
    flags = refl;
    dots = refl;
    room = omega arith;
    owed = 0;
    end = 5;
    locals = (CellL 0 ∷ []);
    free = 1;
    body =
        (block_names (omega arith) (from_register refl no_origin) refl
        (block_then (return_row (row_many (omega arith) (call_of (omega arith) (cell_of refl refl) (row_one (omega arith) (loaded there_constant refl)) (refl, refl))) refl)
        block_end));
    returns = refl;
  },
  record {
    flags = refl;
    dots = refl;
    room = omega arith;
    owed = 0;
    end = 10;
    locals = (PlainL 0 ∷ []);
    free = 1;
    body =
        (block_then (if_arms (arm_then (compare_miss refl (in_place (there_local refl)) (in_place there_constant) (refl, refl)) (block_then (return_one (in_place (there_local refl)) refl)
        block_end) joined (arms_end joined)))
        (block_then (return_row (row_one (omega arith) (operate_of (made (omega arith) (first_of_many (call_of (omega arith) (captured_of refl) (row_one (omega arith) (operate_of (in_place (there_local refl)) (in_place there_constant) (refl, refl))) (refl, refl)))) (made (omega arith) (first_of_many (call_of (omega arith) (captured_of refl) (row_one (omega arith) (operate_of (in_place (there_local refl)) (in_place there_constant) (refl, refl))) (refl, refl)))) (refl, refl))) refl)
        block_end));
    returns = refl;
  },
)

pub all_flat : AllFlatTests
all_flat = (tests_is_flat, choices_is_flat, error_values_is_flat, nested_pcall_is_flat, fib_is_flat)

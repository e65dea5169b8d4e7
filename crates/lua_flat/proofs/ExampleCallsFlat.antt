-- Flat code of modules that call: each function's flat code is code of it.
use Rattle.std.proofs.Common.{[], ◌∷◌, refl, arith}
use Rattle.lua_flat.specs.Locals.{PlainL, CellL}
use Rattle.lua_flat.specs.Operations.{Exactly, Every}
use Rattle.lua_flat.specs.IsExpression.{there_local, there_constant, there_text, no_origin, from_register, in_place, made, loaded, closure_of, cell_of, captured_of, global_of, index_of, operate_of, unary_of, table_of, first_of_many, dots_of, call_of, row_one, row_many, row_more, fields_end, field_pair, exact_one, exact_many}
use Rattle.lua_flat.specs.IsStatement.{no_cells, cells, set_captured, captured_variable, assign_variable, assign_entry, call_alone, return_row, block_end, block_declares, block_names, block_then}
use Rattle.lua_flat.specs.ExampleCalls.{ProtectedIsFlat, ArithmeticHandlersIsFlat, ErrorHandlersIsFlat, NewIndexIsFlat, CallHandlersIsFlat, AllFlatExampleCalls}

protected_is_flat : ProtectedIsFlat
protected_is_flat = (
  record {
    flags = refl;
    dots = refl;
    room = omega arith;
    owed = 0;
    end = 4;
    locals = [];
    free = 0;
    body =
        (block_then (return_row (row_one (omega arith) (table_of (omega arith) (omega arith) refl (field_pair (in_place there_text) (made (omega arith) (closure_of no_origin refl)) (refl, refl) fields_end))) refl)
        block_end);
    returns = refl;
  },
  record {
    flags = refl;
    dots = refl;
    room = omega arith;
    owed = 0;
    end = 19;
    locals = [];
    free = 0;
    body =
        (block_then (return_row (row_more {count = Every} (omega arith) (first_of_many (call_of (omega arith) (global_of (refl, refl)) (row_many (omega arith) (call_of (omega arith) (global_of (refl, refl)) (row_more {count = (Exactly 1)} (omega arith) (global_of (refl, refl)) (row_one (omega arith) (loaded there_text refl))) (refl, refl))) (refl, refl))) (row_more {count = Every} (omega arith) (first_of_many (call_of (omega arith) (global_of (refl, refl)) (row_more {count = Every} (omega arith) (loaded there_constant refl) (row_many (omega arith) (call_of (omega arith) (global_of (refl, refl)) (row_more {count = (Exactly 1)} (omega arith) (global_of (refl, refl)) (row_one (omega arith) (loaded there_text refl))) (refl, refl)))) (refl, refl))) (row_many (omega arith) (call_of (omega arith) (global_of (refl, refl)) (row_more {count = (Exactly 2)} (omega arith) (closure_of no_origin refl) (row_more {count = (Exactly 1)} (omega arith) (loaded there_constant refl) (row_one (omega arith) (loaded there_constant refl)))) (refl, refl))))) refl)
        block_end);
    returns = refl;
  },
  record {
    flags = refl;
    dots = refl;
    room = omega arith;
    owed = 0;
    end = 2;
    locals = [];
    free = 0;
    body =
        (block_then (return_row (row_many (omega arith) (dots_of refl)) refl)
        block_end);
    returns = refl;
  },
)

arithmetic_handlers_is_flat : ArithmeticHandlersIsFlat
arithmetic_handlers_is_flat = (
  record {
    flags = refl;
    dots = refl;
    room = omega arith;
    owed = 0;
    end = 4;
    locals = [];
    free = 0;
    body =
        (block_then (return_row (row_one (omega arith) (table_of (omega arith) (omega arith) refl (field_pair (in_place there_text) (made (omega arith) (closure_of no_origin refl)) (refl, refl) fields_end))) refl)
        block_end);
    returns = refl;
  },
  record {
    flags = refl;
    dots = refl;
    room = omega arith;
    owed = 0;
    end = 17;
    locals = (PlainL 1 ∷ PlainL 0 ∷ []);
    free = 2;
    body =
        (block_declares (omega arith) (exact_one (omega arith) (table_of (omega arith) (omega arith) refl (field_pair (in_place there_text) (made (omega arith) (closure_of no_origin refl)) (refl, refl) (field_pair (in_place there_text) (made (omega arith) (closure_of no_origin refl)) (refl, refl) (field_pair (in_place there_text) (made (omega arith) (closure_of no_origin refl)) (refl, refl) fields_end))))) (no_cells refl)
        (block_declares (omega arith) (exact_many (omega arith) (call_of (omega arith) (global_of (refl, refl)) (row_more {count = (Exactly 1)} (omega arith) (table_of (omega arith) (omega arith) refl fields_end) (row_one (omega arith) (loaded (there_local refl) refl))) (refl, refl))) (no_cells refl)
        (block_then (return_row (row_more {count = (Exactly 4)} (omega arith) (operate_of (in_place (there_local refl)) (in_place there_constant) (refl, refl)) (row_more {count = (Exactly 3)} (omega arith) (operate_of (in_place there_constant) (in_place (there_local refl)) (refl, refl)) (row_more {count = (Exactly 2)} (omega arith) (operate_of (in_place (there_local refl)) (in_place there_text) (refl, refl)) (row_more {count = (Exactly 1)} (omega arith) (operate_of (in_place there_text) (in_place (there_local refl)) (refl, refl)) (row_one (omega arith) (unary_of (in_place (there_local refl)) (refl, refl))))))) refl)
        block_end)));
    returns = refl;
  },
  record {
    flags = refl;
    dots = refl;
    room = omega arith;
    owed = 0;
    end = 2;
    locals = (PlainL 1 ∷ PlainL 0 ∷ []);
    free = 2;
    body =
        (block_then (return_row (row_one (omega arith) (loaded there_text refl)) refl)
        block_end);
    returns = refl;
  },
  record {
    flags = refl;
    dots = refl;
    room = omega arith;
    owed = 0;
    end = 8;
    locals = (PlainL 1 ∷ PlainL 0 ∷ []);
    free = 2;
    body =
        (block_then (return_row (row_one (omega arith) (operate_of (made (omega arith) (first_of_many (call_of (omega arith) (global_of (refl, refl)) (row_one (omega arith) (loaded (there_local refl) refl)) (refl, refl)))) (made (omega arith) (first_of_many (call_of (omega arith) (global_of (refl, refl)) (row_one (omega arith) (loaded (there_local refl) refl)) (refl, refl)))) (refl, refl))) refl)
        block_end);
    returns = refl;
  },
  record {
    flags = refl;
    dots = refl;
    room = omega arith;
    owed = 0;
    end = 4;
    locals = (PlainL 1 ∷ PlainL 0 ∷ []);
    free = 2;
    body =
        (block_then (return_row (row_many (omega arith) (call_of (omega arith) (global_of (refl, refl)) (row_one (omega arith) (operate_of (in_place (there_local refl)) (in_place (there_local refl)) (refl, refl))) (refl, refl))) refl)
        block_end);
    returns = refl;
  },
)

error_handlers_is_flat : ErrorHandlersIsFlat
error_handlers_is_flat = (
  record {
    flags = refl;
    dots = refl;
    room = omega arith;
    owed = 0;
    end = 4;
    locals = [];
    free = 0;
    body =
        (block_then (return_row (row_one (omega arith) (table_of (omega arith) (omega arith) refl (field_pair (in_place there_text) (made (omega arith) (closure_of no_origin refl)) (refl, refl) fields_end))) refl)
        block_end);
    returns = refl;
  },
  record {
    flags = refl;
    dots = refl;
    room = omega arith;
    owed = 0;
    end = 18;
    locals = (PlainL 4 ∷ PlainL 3 ∷ PlainL 2 ∷ PlainL 1 ∷ PlainL 0 ∷ []);
    free = 5;
    body =
        (block_names (omega arith) no_origin refl
        (block_declares (omega arith) (exact_many (omega arith) (call_of (omega arith) (global_of (refl, refl)) (row_more {count = (Exactly 1)} (omega arith) (closure_of no_origin refl) (row_one (omega arith) (loaded (there_local refl) refl))) (refl, refl))) (no_cells refl)
        (block_declares (omega arith) (exact_many (omega arith) (call_of (omega arith) (global_of (refl, refl)) (row_more {count = (Exactly 1)} (omega arith) (closure_of no_origin refl) (row_one (omega arith) (loaded (there_local refl) refl))) (refl, refl))) (no_cells refl)
        (block_then (return_row (row_more {count = (Exactly 3)} (omega arith) (first_of_many (call_of (omega arith) (global_of (refl, refl)) (row_one (omega arith) (loaded (there_local refl) refl)) (refl, refl))) (row_more {count = (Exactly 2)} (omega arith) (loaded (there_local refl) refl) (row_more {count = (Exactly 1)} (omega arith) (first_of_many (call_of (omega arith) (global_of (refl, refl)) (row_one (omega arith) (loaded (there_local refl) refl)) (refl, refl))) (row_one (omega arith) (loaded (there_local refl) refl))))) refl)
        block_end))));
    returns = refl;
  },
  record {
    flags = refl;
    dots = refl;
    room = omega arith;
    owed = 0;
    end = 3;
    locals = (PlainL 0 ∷ []);
    free = 1;
    body =
        (block_then (return_row (row_one (omega arith) (operate_of (in_place there_text) (made (omega arith) (operate_of (in_place (there_local refl)) (in_place there_text) (refl, refl))) (refl, refl))) refl)
        block_end);
    returns = refl;
  },
  record {
    flags = refl;
    dots = refl;
    room = omega arith;
    owed = 0;
    end = 4;
    locals = [];
    free = 0;
    body =
        (block_then (call_alone (call_of (omega arith) (global_of (refl, refl)) (row_more {count = (Exactly 1)} (omega arith) (loaded there_text refl) (row_one (omega arith) (loaded there_constant refl))) (refl, refl)))
        block_end);
    returns = refl;
  },
  record {
    flags = refl;
    dots = refl;
    room = omega arith;
    owed = 0;
    end = 2;
    locals = [];
    free = 0;
    body =
        (block_then (return_row (row_one (omega arith) (loaded there_constant refl)) refl)
        block_end);
    returns = refl;
  },
)

new_index_is_flat : NewIndexIsFlat
new_index_is_flat = (
  record {
    flags = refl;
    dots = refl;
    room = omega arith;
    owed = 0;
    end = 4;
    locals = [];
    free = 0;
    body =
        (block_then (return_row (row_one (omega arith) (table_of (omega arith) (omega arith) refl (field_pair (in_place there_text) (made (omega arith) (closure_of no_origin refl)) (refl, refl) fields_end))) refl)
        block_end);
    returns = refl;
  },
  record {
    flags = refl;
    dots = refl;
    room = omega arith;
    owed = 0;
    end = 30;
    locals = (PlainL 3 ∷ PlainL 2 ∷ PlainL 1 ∷ CellL 0 ∷ []);
    free = 4;
    body =
        (block_declares (omega arith) (exact_one (omega arith) (loaded there_text refl)) (cells refl refl)
        (block_declares (omega arith) (exact_one (omega arith) (table_of (omega arith) (omega arith) refl fields_end)) (no_cells refl)
        (block_declares (omega arith) (exact_many (omega arith) (call_of (omega arith) (global_of (refl, refl)) (row_more {count = (Exactly 1)} (omega arith) (table_of (omega arith) (omega arith) refl (field_pair (in_place there_text) (in_place there_constant) (refl, refl) fields_end)) (row_one (omega arith) (table_of (omega arith) (omega arith) refl (field_pair (in_place there_text) (made (omega arith) (closure_of (from_register refl no_origin) refl)) (refl, refl) fields_end)))) (refl, refl))) (no_cells refl)
        (block_declares (omega arith) (exact_many (omega arith) (call_of (omega arith) (global_of (refl, refl)) (row_more {count = (Exactly 1)} (omega arith) (table_of (omega arith) (omega arith) refl fields_end) (row_one (omega arith) (table_of (omega arith) (omega arith) refl (field_pair (in_place there_text) (in_place (there_local refl)) (refl, refl) fields_end)))) (refl, refl))) (no_cells refl)
        (block_then (assign_entry (in_place (there_local refl)) (in_place there_text) (in_place there_constant) (refl, refl))
        (block_then (assign_entry (in_place (there_local refl)) (in_place there_text) (in_place there_constant) (refl, refl))
        (block_then (assign_entry (in_place (there_local refl)) (in_place there_text) (in_place there_constant) (refl, refl))
        (block_then (assign_entry (in_place (there_local refl)) (in_place there_text) (in_place there_constant) (refl, refl))
        (block_then (return_row (row_more {count = (Exactly 4)} (omega arith) (cell_of refl refl) (row_more {count = (Exactly 3)} (omega arith) (index_of (in_place (there_local refl)) (in_place there_text) (refl, refl)) (row_more {count = (Exactly 2)} (omega arith) (index_of (in_place (there_local refl)) (in_place there_text) (refl, refl)) (row_more {count = (Exactly 1)} (omega arith) (first_of_many (call_of (omega arith) (global_of (refl, refl)) (row_many (omega arith) (call_of (omega arith) (global_of (refl, refl)) (row_more {count = (Exactly 1)} (omega arith) (loaded (there_local refl) refl) (row_one (omega arith) (loaded there_text refl))) (refl, refl))) (refl, refl))) (row_one (omega arith) (index_of (in_place (there_local refl)) (in_place there_text) (refl, refl))))))) refl)
        block_end)))))))));
    returns = refl;
  },
  record {
    flags = refl;
    dots = refl;
    room = omega arith;
    owed = 0;
    end = 8;
    locals = (PlainL 2 ∷ PlainL 1 ∷ PlainL 0 ∷ []);
    free = 3;
    body =
        (block_then (assign_variable captured_variable (made (omega arith) (operate_of (made (omega arith) (captured_of refl)) (in_place (there_local refl)) (refl, refl))) (set_captured refl))
        (block_then (call_alone (call_of (omega arith) (global_of (refl, refl)) (row_more {count = (Exactly 2)} (omega arith) (loaded (there_local refl) refl) (row_more {count = (Exactly 1)} (omega arith) (loaded (there_local refl) refl) (row_one (omega arith) (loaded (there_local refl) refl)))) (refl, refl)))
        block_end));
    returns = refl;
  },
)

call_handlers_is_flat : CallHandlersIsFlat
call_handlers_is_flat = (
  record {
    flags = refl;
    dots = refl;
    room = omega arith;
    owed = 0;
    end = 4;
    locals = [];
    free = 0;
    body =
        (block_then (return_row (row_one (omega arith) (table_of (omega arith) (omega arith) refl (field_pair (in_place there_text) (made (omega arith) (closure_of no_origin refl)) (refl, refl) fields_end))) refl)
        block_end);
    returns = refl;
  },
  record {
    flags = refl;
    dots = refl;
    room = omega arith;
    owed = 0;
    end = 17;
    locals = (PlainL 0 ∷ []);
    free = 1;
    body =
        (block_declares (omega arith) (exact_many (omega arith) (call_of (omega arith) (global_of (refl, refl)) (row_more {count = (Exactly 1)} (omega arith) (table_of (omega arith) (omega arith) refl (field_pair (in_place there_text) (in_place there_constant) (refl, refl) fields_end)) (row_one (omega arith) (table_of (omega arith) (omega arith) refl (field_pair (in_place there_text) (made (omega arith) (closure_of no_origin refl)) (refl, refl) fields_end)))) (refl, refl))) (no_cells refl)
        (block_then (return_row (row_more {count = Every} (omega arith) (first_of_many (call_of (omega arith) (loaded (there_local refl) refl) (row_more {count = (Exactly 1)} (omega arith) (loaded there_constant refl) (row_one (omega arith) (loaded there_constant refl))) (refl, refl))) (row_many (omega arith) (call_of (omega arith) (global_of (refl, refl)) (row_more {count = (Exactly 2)} (omega arith) (loaded (there_local refl) refl) (row_more {count = (Exactly 1)} (omega arith) (loaded there_constant refl) (row_one (omega arith) (loaded there_constant refl)))) (refl, refl)))) refl)
        block_end));
    returns = refl;
  },
  record {
    flags = refl;
    dots = refl;
    room = omega arith;
    owed = 0;
    end = 4;
    locals = (PlainL 2 ∷ PlainL 1 ∷ PlainL 0 ∷ []);
    free = 3;
    body =
        (block_then (return_row (row_one (omega arith) (operate_of (made (omega arith) (operate_of (made (omega arith) (index_of (in_place (there_local refl)) (in_place there_text) (refl, refl))) (in_place (there_local refl)) (refl, refl))) (in_place (there_local refl)) (refl, refl))) refl)
        block_end);
    returns = refl;
  },
)

pub all_flat : AllFlatExampleCalls
all_flat = (protected_is_flat, arithmetic_handlers_is_flat, error_handlers_is_flat, new_index_is_flat, call_handlers_is_flat)

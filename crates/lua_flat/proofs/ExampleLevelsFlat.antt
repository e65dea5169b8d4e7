-- Flat code of errors with levels, and of blocks: each function's flat code is code of it.
use Rattle.std.proofs.Common.{[], ◌∷◌, refl, arith}
use Rattle.lua_flat.specs.Locals.{PlainL, CellL}
use Rattle.lua_flat.specs.Operations.{Exactly, Every}
use Rattle.lua_flat.specs.IsExpression.{there_local, there_constant, there_text, no_origin, from_register, in_place, made, loaded, closure_of, captured_of, global_of, operate_of, table_of, first_of_many, call_of, row_one, row_many, row_more, fields_end, field_pair, exact_one}
use Rattle.lua_flat.specs.IsStatement.{no_cells, assign_into, call_alone, do_block, return_row, return_one, block_end, block_declares, block_names, block_then}
use Rattle.lua_flat.specs.ExampleLevels.{ErrorLevelsIsFlat, BlocksIsFlat, AllFlatExampleLevels}

error_levels_is_flat : ErrorLevelsIsFlat
error_levels_is_flat = (
  record {
    flags = refl;
    dots = refl;
    room = omega arith;
    owed = 0;
    end = 4;
    locals = [];
    free = 0;
    body =
        (block_then (return_row (row_one (omega arith) (table_of (omega arith) (omega arith) refl (field_pair (in_place there_text) (made (omega arith) (closure_of no_origin refl)) (refl, refl) fields_end))) refl)
        block_end);
    returns = refl;
  },
  record {
    flags = refl;
    dots = refl;
    room = omega arith;
    owed = 0;
    end = 19;
    locals = (PlainL 2 ∷ CellL 1 ∷ CellL 0 ∷ []);
    free = 3;
    body =
        (block_names (omega arith) no_origin refl
        (block_names (omega arith) (from_register refl no_origin) refl
        (block_names (omega arith) (from_register refl no_origin) refl
        (block_then (return_row (row_one (omega arith) (operate_of (made (omega arith) (first_of_many (call_of (omega arith) (loaded (there_local refl) refl) (row_one (omega arith) (loaded there_constant refl)) (refl, refl)))) (made (omega arith) (operate_of (made (omega arith) (first_of_many (call_of (omega arith) (loaded (there_local refl) refl) (row_one (omega arith) (loaded there_constant refl)) (refl, refl)))) (made (omega arith) (operate_of (made (omega arith) (first_of_many (call_of (omega arith) (loaded (there_local refl) refl) (row_one (omega arith) (loaded there_constant refl)) (refl, refl)))) (made (omega arith) (first_of_many (call_of (omega arith) (loaded (there_local refl) refl) (row_one (omega arith) (loaded there_constant refl)) (refl, refl)))) (refl, refl))) (refl, refl))) (refl, refl))) refl)
        block_end))));
    returns = refl;
  },
  record {
    flags = refl;
    dots = refl;
    room = omega arith;
    owed = 0;
    end = 4;
    locals = (PlainL 0 ∷ []);
    free = 1;
    body =
        (block_then (call_alone (call_of (omega arith) (global_of (refl, refl)) (row_more {count = (Exactly 1)} (omega arith) (loaded there_text refl) (row_one (omega arith) (loaded (there_local refl) refl))) (refl, refl)))
        block_end);
    returns = refl;
  },
  record {
    flags = refl;
    dots = refl;
    room = omega arith;
    owed = 0;
    end = 3;
    locals = (PlainL 0 ∷ []);
    free = 1;
    body =
        (block_then (call_alone (call_of (omega arith) (captured_of refl) (row_one (omega arith) (loaded (there_local refl) refl)) (refl, refl)))
        block_end);
    returns = refl;
  },
  record {
    flags = refl;
    dots = refl;
    room = omega arith;
    owed = 0;
    end = 8;
    locals = (PlainL 0 ∷ []);
    free = 1;
    body =
        (block_then (return_row (row_many (omega arith) (call_of (omega arith) (global_of (refl, refl)) (row_more {count = Every} (omega arith) (loaded there_constant refl) (row_many (omega arith) (call_of (omega arith) (global_of (refl, refl)) (row_more {count = (Exactly 1)} (omega arith) (captured_of refl) (row_one (omega arith) (loaded (there_local refl) refl))) (refl, refl)))) (refl, refl))) refl)
        block_end);
    returns = refl;
  },
)

blocks_is_flat : BlocksIsFlat
blocks_is_flat = (
  record {
    flags = refl;
    dots = refl;
    room = omega arith;
    owed = 0;
    end = 4;
    locals = [];
    free = 0;
    body =
        (block_then (return_row (row_one (omega arith) (table_of (omega arith) (omega arith) refl (field_pair (in_place there_text) (made (omega arith) (closure_of no_origin refl)) (refl, refl) fields_end))) refl)
        block_end);
    returns = refl;
  },
  record {
    flags = refl;
    dots = refl;
    room = omega arith;
    owed = 0;
    end = 6;
    locals = (PlainL 1 ∷ PlainL 0 ∷ []);
    free = 2;
    body =
        (block_declares (omega arith) (exact_one (omega arith) (loaded there_constant refl)) (no_cells refl)
        (block_then (do_block (block_declares (omega arith) (exact_one (omega arith) (loaded there_constant refl)) (no_cells refl)
        (block_then (do_block (block_declares (omega arith) (exact_one (omega arith) (loaded there_constant refl)) (no_cells refl)
        block_end))
        (block_then (assign_into refl refl (operate_of (in_place (there_local refl)) (in_place there_constant) (refl, refl)))
        block_end))))
        (block_declares (omega arith) (exact_one (omega arith) (operate_of (in_place (there_local refl)) (in_place there_constant) (refl, refl))) (no_cells refl)
        (block_then (do_block block_end)
        (block_then (return_one (in_place (there_local refl)) refl)
        block_end)))));
    returns = refl;
  },
)

pub all_flat : AllFlatExampleLevels
all_flat = (error_levels_is_flat, blocks_is_flat)
